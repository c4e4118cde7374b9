-- What a rising list with one line more contains.
use Rattle.std.proofs.Common.{◌≡◌, refl, ap, ◌∙◌, sym, subst, ◌⊎◌, inl, inr, List, [], ◌∷◌, ℕ, zero, suc, ◌+◌, ◌<◌, arith, get_or, length}
use Rattle.std.specs.List.{Contains}
use Rattle.std.specs.List.Sorted.{IsStrictlyIncreasing}
use Rattle.tb_places.specs.Lines.{with_line}

pub rising_tail : (x : ℕ) (xs : List ℕ) → IsStrictlyIncreasing (x ∷ xs) → IsStrictlyIncreasing xs
rising_tail x xs h k l = let e : suc k + 1 ≡ suc (k + 1) = omega arith in subst (λ n. get_or xs k 0 < get_or (x ∷ xs) n 0) e (h (suc k) (omega arith))

pub contains_first : (x : ℕ) (xs : List ℕ) → Contains (x ∷ xs) x
contains_first x xs = (0, omega arith, refl)

pub contains_later : (x : ℕ) (xs : List ℕ) (c : ℕ) → Contains xs c → Contains (x ∷ xs) c
contains_later x xs c at = (suc at.0, let l : at.0 < length xs = at.1 in omega arith, at.2)

pub contains_cases : (x : ℕ) (xs : List ℕ) (c : ℕ) → Contains (x ∷ xs) c → (c ≡ x) ⊎ Contains xs c
contains_cases x xs c at = by_index at.0 at.1 at.2
  where
    by_index : (k : ℕ) → k < length (x ∷ xs) → get_or (x ∷ xs) k c ≡ c → (c ≡ x) ⊎ Contains xs c
    by_index zero l e = inl (sym e)
    by_index (suc k) l e = inr (k, omega arith, e)

pub contains_none : (c : ℕ) → Contains [] c → ⊥
contains_none c at = let l : at.0 < 0 = at.1 in omega arith

-- One line more --

pub three_ways : (q y : ℕ) → (q < y) ⊎ ((q ≡ y) ⊎ (y < q))
three_ways q y = grind arith

pub with_line-before : (q x : ℕ) (xs : List ℕ) → q < x → with_line q (x ∷ xs) ≡ q ∷ x ∷ xs
with_line-before q x xs h = grind arith

pub with_line-at : (x : ℕ) (xs : List ℕ) → with_line x (x ∷ xs) ≡ x ∷ xs
with_line-at x xs = grind arith

pub with_line-behind : (q x : ℕ) (xs : List ℕ) → x < q → with_line q (x ∷ xs) ≡ x ∷ with_line q xs
with_line-behind q x xs h = grind arith

pub with_line-new : (q : ℕ) (xs : List ℕ) → Contains (with_line q xs) q
with_line-new q [] = contains_first q []
with_line-new q (x ∷ xs) = by_order (three_ways q x) (with_line-new q xs)
  where
    by_order : (q < x) ⊎ ((q ≡ x) ⊎ (x < q)) → Contains (with_line q xs) q → Contains (with_line q (x ∷ xs)) q
    by_order (inl h) ih = subst (λ (l : List ℕ). Contains l q) (sym (with_line-before q x xs h)) (contains_first q (x ∷ xs))
    by_order (inr (inl e)) ih = subst (λ (t : ℕ). Contains (with_line t (x ∷ xs)) t) (sym e) (subst (λ (l : List ℕ). Contains l x) (sym (with_line-at x xs)) (contains_first x xs))
    by_order (inr (inr h)) ih = subst (λ (l : List ℕ). Contains l q) (sym (with_line-behind q x xs h)) (contains_later x (with_line q xs) q ih)

pub with_line-old : (q : ℕ) (xs : List ℕ) (c : ℕ) → Contains xs c → Contains (with_line q xs) c
with_line-old q [] c at = absurd (contains_none c at)
with_line-old q (x ∷ xs) c at = by_order (three_ways q x) (with_line-old q xs c)
  where
    behind : (Contains xs c → Contains (with_line q xs) c) → (c ≡ x) ⊎ Contains xs c → Contains (x ∷ with_line q xs) c
    behind ih (inl e) = subst (Contains (x ∷ with_line q xs)) (sym e) (contains_first x (with_line q xs))
    behind ih (inr m) = contains_later x (with_line q xs) c (ih m)

    by_order : (q < x) ⊎ ((q ≡ x) ⊎ (x < q)) → (Contains xs c → Contains (with_line q xs) c) → Contains (with_line q (x ∷ xs)) c
    by_order (inl h) ih = subst (λ (l : List ℕ). Contains l c) (sym (with_line-before q x xs h)) (contains_later q (x ∷ xs) c at)
    by_order (inr (inl e)) ih = subst (λ (t : ℕ). Contains (with_line t (x ∷ xs)) c) (sym e) (subst (λ (l : List ℕ). Contains l c) (sym (with_line-at x xs)) at)
    by_order (inr (inr h)) ih = subst (λ (l : List ℕ). Contains l c) (sym (with_line-behind q x xs h)) (behind ih (contains_cases x xs c at))

pub with_line-cases : (q : ℕ) (xs : List ℕ) (c : ℕ) → Contains (with_line q xs) c → (c ≡ q) ⊎ Contains xs c
with_line-cases q [] c at = contains_cases q [] c at
with_line-cases q (x ∷ xs) c at = by_order (three_ways q x) (with_line-cases q xs c)
  where
    deeper : (c ≡ q) ⊎ Contains xs c → (c ≡ q) ⊎ Contains (x ∷ xs) c
    deeper (inl e) = inl e
    deeper (inr m) = inr (contains_later x xs c m)

    behind : (Contains (with_line q xs) c → (c ≡ q) ⊎ Contains xs c) → (c ≡ x) ⊎ Contains (with_line q xs) c → (c ≡ q) ⊎ Contains (x ∷ xs) c
    behind ih (inl e) = inr (subst (Contains (x ∷ xs)) (sym e) (contains_first x xs))
    behind ih (inr m) = deeper (ih m)

    by_order : (q < x) ⊎ ((q ≡ x) ⊎ (x < q)) → (Contains (with_line q xs) c → (c ≡ q) ⊎ Contains xs c) → (c ≡ q) ⊎ Contains (x ∷ xs) c
    by_order (inl h) ih = contains_cases q (x ∷ xs) c (subst (λ (l : List ℕ). Contains l c) (with_line-before q x xs h) at)
    by_order (inr (inl e)) ih = inr (subst (λ (l : List ℕ). Contains l c) (ap (λ (t : ℕ). with_line t (x ∷ xs)) e ∙ with_line-at x xs) at)
    by_order (inr (inr h)) ih = behind ih (contains_cases x (with_line q xs) c (subst (λ (l : List ℕ). Contains l c) (with_line-behind q x xs h) at))
