-- Rising lists as sets of lines: what a list with more lines contains, and that its members determine it.
use mathlib.Core.Path.{◌≡◌, refl, ap₂, ◌∙◌, sym, subst}
use mathlib.Core.Logic.{◌⊎◌, inl, inr}
use mathlib.Core.List.{List, [], ◌∷◌}
use Prim.Native.Nat.{ℕ, suc, ◌<◌, ◌≤◌}
use native.Mathlib.Omega.{arith}
use lib.ListN.{get_or, length}
use Rattle.std.specs.List.{Contains}
use Rattle.std.specs.List.Sorted.{IsStrictlyIncreasing}
use Rattle.std.proofs.lemmas.List.{get_or_default}
use Rattle.std.proofs.lemmas.List.Kept.{AllPairs-from_increasing}
use Rattle.tb_places.specs.Lines.{with_line}
use Rattle.tb_places.proofs.Lines.{contains_first, contains_later, contains_cases, contains_none, rising_tail, with_line-new, with_line-old, with_line-cases}
use Rattle.tb_model.specs.Merges.{with_lines}

-- and all lines of another list --

pub with_lines-old : (ys xs : List ℕ) (c : ℕ) → Contains xs c → Contains (with_lines ys xs) c
with_lines-old [] xs c at = at
with_lines-old (y ∷ ys) xs c at = with_lines-old ys (with_line y xs) c (with_line-old y xs c at)

pub with_lines-new : (ys xs : List ℕ) (c : ℕ) → Contains ys c → Contains (with_lines ys xs) c
with_lines-new [] xs c at = absurd (contains_none c at)
with_lines-new (y ∷ ys) xs c at = by_place (contains_cases y ys c at) (with_lines-new ys (with_line y xs) c)
  where
    by_place : (c ≡ y) ⊎ Contains ys c → (Contains ys c → Contains (with_lines ys (with_line y xs)) c) → Contains (with_lines ys (with_line y xs)) c
    by_place (inl e) ih = subst (Contains (with_lines ys (with_line y xs))) (sym e) (with_lines-old ys (with_line y xs) y (with_line-new y xs))
    by_place (inr m) ih = ih m

pub with_lines-cases : (ys xs : List ℕ) (c : ℕ) → Contains (with_lines ys xs) c → Contains ys c ⊎ Contains xs c
with_lines-cases [] xs c at = inr at
with_lines-cases (y ∷ ys) xs c at = by_place (with_lines-cases ys (with_line y xs) c at)
  where
    deeper : (c ≡ y) ⊎ Contains xs c → Contains (y ∷ ys) c ⊎ Contains xs c
    deeper (inl e) = inl (subst (Contains (y ∷ ys)) (sym e) (contains_first y ys))
    deeper (inr m) = inr m

    by_place : Contains ys c ⊎ Contains (with_line y xs) c → Contains (y ∷ ys) c ⊎ Contains xs c
    by_place (inl m) = inl (contains_later y ys c m)
    by_place (inr m) = deeper (with_line-cases y xs c m)

-- Members determine a rising list --

above_first : (x : ℕ) (xs : List ℕ) → IsStrictlyIncreasing (x ∷ xs) → (c : ℕ) → Contains xs c → x < c
above_first x xs rising c at =
    let l : at.0 < length xs = at.1 in
    let up : x < get_or xs at.0 0 = AllPairs-from_increasing (x ∷ xs) rising 0 (suc at.0) 0 (omega arith) (omega arith) in
    let same : get_or xs at.0 0 ≡ c = get_or_default xs at.0 0 c l ∙ at.2 in omega arith

pub rising_unique : (xs ys : List ℕ) → IsStrictlyIncreasing xs → IsStrictlyIncreasing ys → ((c : ℕ) → Contains xs c → Contains ys c) → ((c : ℕ) → Contains ys c → Contains xs c) → xs ≡ ys
rising_unique [] [] h k f g = refl
rising_unique [] (y ∷ ys) h k f g = absurd (contains_none y (g y (contains_first y ys)))
rising_unique (x ∷ xs) [] h k f g = absurd (contains_none x (f x (contains_first x xs)))
rising_unique (x ∷ xs) (y ∷ ys) h k f g = ap₂ ◌∷◌ heads (rising_unique xs ys (rising_tail x xs h) (rising_tail y ys k)
    (λ c at. later y ys c (sym heads) (above_first x xs h c at) (contains_cases y ys c (f c (contains_later x xs c at))))
    (λ c at. later x xs c heads (above_first y ys k c at) (contains_cases x xs c (g c (contains_later y ys c at)))))
  where
    at_least : (x y : ℕ) (ys : List ℕ) → IsStrictlyIncreasing (y ∷ ys) → (x ≡ y) ⊎ Contains ys x → y ≤ x
    at_least x y ys k (inl e) = omega arith
    at_least x y ys k (inr m) = let up : y < x = above_first y ys k x m in omega arith

    heads : x ≡ y
    heads = let low : y ≤ x = at_least x y ys k (contains_cases y ys x (f x (contains_first x xs))) in
        let high : x ≤ y = at_least y x xs h (contains_cases x xs y (g y (contains_first y ys))) in omega arith

    later : (x : ℕ) (xs : List ℕ) (c : ℕ) {y : ℕ} → x ≡ y → y < c → (c ≡ x) ⊎ Contains xs c → Contains xs c
    later x xs c e up (inl d) = absurd (omega arith)
    later x xs c e up (inr m) = m
