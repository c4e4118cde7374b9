-- Moves one after another.
use Rattle.std.specs.Prelude.{◌≡◌, ◌≢◌, ◌↔◌, ◌||◌, Bool, false, IsTrue, List, [], ◌∷◌}

-- A first move, and those after it. `told` says that one of them changed the state.
pub record OneFirst (S : Type 0) (move : S → S → Type 0) (rest : S → S → Bool → Type 0) (old new : S) (told : Bool) : Type 0 where
  pub mid : S
  pub told_here : Bool
  pub told_after : Bool
  pub step : move old mid
  pub here : IsTrue told_here ↔ (mid ≢ old)
  pub after : rest mid new told_after
  pub any : told ≡ (told_here || told_after)

-- the moves of a list, in its order
abbrev pub AreMade : (S M : Type 0) → (M → S → S → Type 0) → List M → S → S → Bool → Type 0
AreMade S M move [] old new told = (new ≡ old) × (told ≡ false)
AreMade S M move (m ∷ ms) old new told = OneFirst S (move m) (AreMade S M move ms) old new told
