-- The extremes of a list are a bound on both sides, and are reached.
use Rattle.std.proofs.Common.{◌≡◌, sym, ap, suc, ◌≤ℤ◌, ℤ, List, [], ◌∷◌, ◌++◌, Some, inl, inr, append_assoc, arith}
use Rattle.std.proofs.lemmas.Int.{fold-int_max_bounds, fold-int_max_reached, fold-int_min_bounds, fold-int_min_reached}
use Rattle.std.proofs.lemmas.List.Elements.{All-cons}
use Rattle.std.specs.Int.{int_max, int_min}
use Rattle.std.specs.List.{fold}
use Rattle.std.specs.Prelude.{All, Contains}
use Rattle.tb_factors.specs.declared.extremes.Extremes.{Extremes}
use Rattle.tb_factors.specs.Factors.{extremes}

-- one value after the other, or four at once
pub four_more : (before : List ℤ) (a b c d : ℤ) → (((before ++ a ∷ []) ++ b ∷ []) ++ c ∷ []) ++ d ∷ [] ≡ before ++ a ∷ b ∷ c ∷ d ∷ []
four_more before a b c d = simp append_assoc

found_is : (z : ℤ) (zs : List ℤ) (found : Extremes) → extremes (z ∷ zs) ≡ Some found → (fold int_min z zs ≡ found.least) × (fold int_max z zs ≡ found.greatest)
found_is z zs found e = let same : ◌≡◌ {A = Extremes} (record { least = fold int_min z zs; greatest = fold int_max z zs }) found = cc e in
    (ap (λ (x : Extremes). x.least) same, ap (λ (x : Extremes). x.greatest) same)

pub low : (values : List ℤ) (found : Extremes) → extremes values ≡ Some found → All (λ z. found.least ≤ℤ z) values
low [] found e = absurd (cc e)
low (z ∷ zs) found e = let bounds = fold-int_min_bounds z zs found.least (sym (found_is z zs found e).0) in All-cons (λ z. found.least ≤ℤ z) z zs bounds.0 bounds.1

pub high : (values : List ℤ) (found : Extremes) → extremes values ≡ Some found → All (λ z. z ≤ℤ found.greatest) values
high [] found e = absurd (cc e)
high (z ∷ zs) found e = let bounds = fold-int_max_bounds z zs found.greatest (sym (found_is z zs found e).1) in All-cons (λ z. z ≤ℤ found.greatest) z zs bounds.0 bounds.1

pub least : (values : List ℤ) (found : Extremes) → extremes values ≡ Some found → Contains values found.least
least [] found e = absurd (cc e)
least (z ∷ zs) found e = elim (fold-int_min_reached z zs found.least (sym (found_is z zs found e).0)) [
  | inl first ↦ (0, omega arith, sym first)
  | inr later ↦ (suc later.0, omega (arith, later.1), later.2)
]

pub greatest : (values : List ℤ) (found : Extremes) → extremes values ≡ Some found → Contains values found.greatest
greatest [] found e = absurd (cc e)
greatest (z ∷ zs) found e = elim (fold-int_max_reached z zs found.greatest (sym (found_is z zs found e).1)) [
  | inl first ↦ (0, omega arith, sym first)
  | inr later ↦ (suc later.0, omega (arith, later.1), later.2)
]
