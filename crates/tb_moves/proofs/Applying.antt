-- A move of one half of a session's state, as a move of the session, and moves one after another.
use Rattle.std.proofs.Common.{◌≡◌, ◌≢◌, ◌↔◌, ◌<◌, ◌||◌, refl, sym, ap, ◌∙◌, subst, arith, ℕ, suc, ◌+◌, Bool, true, false, IsTrue, IsFalse, List, [], ◌∷◌, ◌++◌, length, get_or, take}
use Rattle.std.proofs.lemmas.Bool.{true≢false}
use Rattle.std.proofs.Math.Seq.{take-suc}
use lib.IntN.{ℤ}
use Rattle.tb_weighted.specs.Moves.{State}
use Rattle.tb_weighted.proofs.SequenceLaws.{alone, then}
use Rattle.tb_moves.specs.declared.moves.Move.{Move}
use Rattle.tb_moves.specs.Moves.{AreMoves, HasMove, IsMove}
use Rattle.tb_moves.specs.Sessions.{AreAlike, Session, inside_of, mesh_of, state_of, with_field, with_flux}
use Rattle.tb_moves.proofs.Kept.{not_told}

module _ (s t : Session) (told : Bool) where
  pub field_alike : t ≡ with_field s t.field → AreAlike s t
  field_alike rest = record { body = ap (λ (u : Session). u.body) rest; grid = ap (λ (u : Session). u.grid) rest; case = ap (λ (u : Session). u.case) rest }

  pub flux_alike : t ≡ with_flux s t.flux → AreAlike s t
  flux_alike rest = record { body = ap (λ (u : Session). u.body) rest; grid = ap (λ (u : Session). u.grid) rest; case = ap (λ (u : Session). u.case) rest }

  field_same : t ≡ with_field s t.field → t.field ≡ s.field → t ≡ s
  field_same rest e = rest ∙ ap (λ (v : List ℤ). with_field s v) e

  flux_same : t ≡ with_flux s t.flux → t.flux ≡ s.flux → t ≡ s
  flux_same rest e = rest ∙ ap (λ (v : List ℤ). with_flux s v) e

  pub field_told : t ≡ with_field s t.field → (IsTrue told ↔ (t.field ≢ s.field)) → IsTrue told ↔ (t ≢ s)
  field_told rest h = ((λ d e. h.0 d (ap (λ (u : Session). u.field) e)), (λ n. h.1 (λ e. n (field_same rest e))))

  pub flux_told : t ≡ with_flux s t.flux → (IsTrue told ↔ (t.flux ≢ s.flux)) → IsTrue told ↔ (t ≢ s)
  flux_told rest h = ((λ d e. h.0 d (ap (λ (u : Session). u.flux) e)), (λ n. h.1 (λ e. n (flux_same rest e))))

  pub field_stays : t ≡ with_field s t.field → (IsTrue told ↔ (t.field ≢ s.field)) → IsFalse told → t ≡ s
  field_stays rest h f = field_same rest (not_told told s.field t.field h f)

  pub flux_stays : t ≡ with_flux s t.flux → (IsTrue told ↔ (t.flux ≢ s.flux)) → IsFalse told → t ≡ s
  flux_stays rest h f = flux_same rest (not_told told s.flux t.flux h f)

  pub flux_of_field : t ≡ with_field s t.field → t.flux ≡ s.flux
  flux_of_field rest = ap (λ (u : Session). u.flux) rest

  pub field_of_flux : t ≡ with_flux s t.flux → t.field ≡ s.field
  field_of_flux rest = ap (λ (u : Session). u.field) rest

-- sessions alike have one mesh and one case
pub alike_trans : (s t u : Session) → AreAlike s t → AreAlike t u → AreAlike s u
alike_trans s t u h k = record { body = k.body ∙ h.body; grid = k.grid ∙ h.grid; case = k.case ∙ h.case }

pub with_state : (s t : Session) (P : Session → Type 0) → AreAlike s t → P t → P (record { body = s.body; grid = s.grid; case = s.case; field = t.field; flux = t.flux })
with_state s t P h p = subst P path p
  where
    path : t ≡ record { body = s.body; grid = s.grid; case = s.case; field = t.field; flux = t.flux }
    path = ap (λ b. record { body = b; grid = t.grid; case = t.case; field = t.field; flux = t.flux }) h.body
        ∙ ap (λ g. record { body = s.body; grid = g; case = t.case; field = t.field; flux = t.flux }) h.grid
        ∙ ap (λ c. record { body = s.body; grid = s.grid; case = c; field = t.field; flux = t.flux }) h.case

-- a session's state and told, as told of the session
pub state_told : (s t : Session) (told : Bool) → AreAlike s t → (IsTrue told ↔ (t ≢ s)) → IsTrue told ↔ (state_of t ≢ state_of s)
state_told s t told a h = ((λ d e. h.0 d (whole e)), (λ n. h.1 (λ e. n (ap state_of e))))
  where
    whole : state_of t ≡ state_of s → t ≡ s
    whole e = path ∙ ap (λ (u : State). record { body = s.body; grid = s.grid; case = s.case; field = u.field; flux = u.flux }) e
      where
        path : t ≡ record { body = s.body; grid = s.grid; case = s.case; field = t.field; flux = t.flux }
        path = with_state s t (λ u. t ≡ u) a refl

-- a list of moves with one more
pub one_more : (s t u : Session) (moves : List Move) (i i' : ℕ) (move : Move) (told here now : Bool) → i' ≡ i + 1 → i < length moves → get_or moves i move ≡ move
    → AreAlike s t → AreAlike t u → AreMoves (mesh_of s) (inside_of s) (take i moves) (state_of s) (state_of t) told
    → IsMove (mesh_of t) (inside_of t) move (state_of t) (state_of u) → (IsTrue here ↔ (u ≢ t)) → (told || here) ≡ now
    → AreMoves (mesh_of s) (inside_of s) (take i' moves) (state_of s) (state_of u) now
one_more s t u moves i i' move told here now next within at a b made step h d =
    subst (λ (l : List Move). AreMoves (mesh_of s) (inside_of s) l (state_of s) (state_of u) now) (sym (ap (λ (k : ℕ). take k moves) (up next) ∙ take-suc moves i move within ∙ ap (λ (x : Move). take i moves ++ (x ∷ [])) at))
    (subst (λ (b : Bool). AreMoves (mesh_of s) (inside_of s) (take i moves ++ (move ∷ [])) (state_of s) (state_of u) b) d
    (then State Move (IsMove (mesh_of s) (inside_of s)) (take i moves) (move ∷ []) (state_of s) (state_of t) (state_of u) told here made
    (alone State Move (IsMove (mesh_of s) (inside_of s)) move (state_of t) (state_of u) here (with_state s t (λ w. IsMove (mesh_of w) (inside_of w) move (state_of t) (state_of u)) a step) (state_told t u here b h))))
  where
    up : i' ≡ i + 1 → i' ≡ suc i
    up e = omega (arith, e)

pub has_there : (s t : Session) (move : Move) → AreAlike s t → HasMove (mesh_of s) move → HasMove (mesh_of t) move
has_there s t move a h = back
  where
    there : t ≡ record { body = s.body; grid = s.grid; case = s.case; field = t.field; flux = t.flux }
    there = with_state s t (λ u. t ≡ u) a refl

    back : HasMove (mesh_of t) move
    back = subst (λ (w : Session). HasMove (mesh_of w) move) (sym there) h

pub neither : (x y z : Bool) → (x || y) ≡ z → z ≡ false → (x ≡ false) × (y ≡ false)
neither true y z e f = absurd (true≢false (e ∙ f))
neither false y z e f = (refl, e ∙ f)
