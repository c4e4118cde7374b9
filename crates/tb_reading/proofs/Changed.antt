-- A list with the item at one place changed.
use Rattle.std.proofs.Common.{◌≡◌, ℕ, zero, suc, ◌<◌, ◌≤◌, List, [], ◌∷◌, length, get_or, set, Result, Ok, Err, OnOk, refl, ap, ◌∙◌, arith}
use Rattle.tb_reading.specs.Drafts.{Unit0, changed_at}

set_changed : {X : Type 0} (xs : List X) (i : ℕ) (x y : X) (change : X → X) → i < length xs → x ≡ get_or xs i x → y ≡ change x → set xs i y ≡ changed_at i change xs
set_changed [] i x y change h e f = absurd (omega arith)
set_changed (z ∷ xs) zero x y change h e f = ap (λ w. w ∷ xs) (f ∙ ap change e)
set_changed (z ∷ xs) (suc i) x y change h e f = ap (λ l. z ∷ l) (set_changed xs i x y change (omega arith) e f)

pub past_changed : {X : Type 0} (xs : List X) (i : ℕ) (change : X → X) → length xs ≤ i → xs ≡ changed_at i change xs
past_changed [] i change h = refl
past_changed (x ∷ xs) zero change h = absurd (omega arith)
past_changed (x ∷ xs) (suc i) change h = ap (λ l. x ∷ l) (past_changed xs i change (omega arith))

-- what a change of the item at a place leaves
pub set_at : {X E : Type 0} (r : Result Unit0 E) (xs old : List X) (i place : ℕ) (x new : X) (change : X → X)
    → xs ≡ old → i ≡ place → i < length xs → x ≡ get_or xs i x → OnOk r (new ≡ change x) → OnOk r (set xs i new ≡ changed_at place change old)
set_at (Ok u) xs old i place x new change e p h g n =
    set_changed xs i x new change h g n ∙ ap (λ (k : ℕ). changed_at k change xs) p ∙ ap (λ l. changed_at place change l) e
set_at (Err f) xs old i place x new change e p h g n = tt
