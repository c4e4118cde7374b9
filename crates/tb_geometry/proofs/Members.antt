-- That something holds of some element of a list, by the first element and the others.
use Rattle.std.proofs.Common.{◌⊎◌, zero, suc, List, [], ◌∷◌, inl, inr, refl, sym, subst, arith}
use Rattle.std.specs.List.{Any}

pub not_in_none : {X : Type 0} (P : X → Type 0) → ¬ Any P []
not_in_none P (k, y, within, is, p) = absurd (omega arith)

pub first_or_later : {X : Type 0} (P : X → Type 0) (x : X) (xs : List X) → Any P (x ∷ xs) → P x ⊎ Any P xs
first_or_later P x xs (zero, y, within, is, p) = inl (subst P (sym is) p)
first_or_later P x xs (suc k, y, within, is, p) = inr (k, y, omega arith, is, p)

pub first : {X : Type 0} (P : X → Type 0) (x : X) (xs : List X) → P x → Any P (x ∷ xs)
first P x xs p = (0, x, omega arith, refl, p)

pub later : {X : Type 0} (P : X → Type 0) (x : X) (xs : List X) → Any P xs → Any P (x ∷ xs)
later P x xs (k, y, within, is, p) = (suc k, y, omega arith, is, p)
