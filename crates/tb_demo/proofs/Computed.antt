-- Tests of boxes that compute, what they tell, and that they pass for each number of storeys.
use Rattle.std.proofs.Common.{◌≡◌, ℕ, zero, suc, ◌<◌, ◌≤◌, inl, inr, Bool, true, not, ◌&&◌, List, [], ◌∷◌, get_or, arith}
use Rattle.std.specs.List.{list_all}
use Rattle.std.proofs.lemmas.Bool.{cases_lt}
use Rattle.std.proofs.lemmas.List.Kept.{AllPairs-cons}
use Rattle.std.proofs.lemmas.List.Sums.{AllPass-from_list_all}
use Rattle.tb_detail.specs.declared.SpaceBox.{SpaceBox}
use Rattle.tb_geometry.specs.Boxes.{meet}
use Rattle.tb_geometry.specs.Cubes.{AreApart, ShareCube}
use Rattle.tb_geometry.proofs.Overlaps.{meet_from_share}
use Rattle.tb_geometry.proofs.Tested.{both_true}
use Rattle.tb_demo.proofs.Lists.{no_pairs}

-- ---- boxes that are apart
abbrev pub all_apart : List SpaceBox → Bool
all_apart [] = true
all_apart (b ∷ bs) = list_all (λ c. not (meet b c)) bs && all_apart bs

no_share : (b c : SpaceBox) → not (meet b c) ≡ true → ¬ ShareCube b c
no_share b c t share = let met = meet_from_share b c share in absurd (cc (t, met))

pub apart_from_test : (boxes : List SpaceBox) → all_apart boxes ≡ true → AreApart boxes
apart_from_test [] t = no_pairs (λ c e. ¬ ShareCube c e)
apart_from_test (b ∷ bs) t =
    let both = both_true (list_all (λ c. not (meet b c)) bs) (all_apart bs) t in
    AllPairs-cons (λ c e. ¬ ShareCube c e) b bs
    (λ k d within. no_share b (get_or bs k d) (AllPass-from_list_all (λ c. not (meet b c)) bs both.0 k d within))
    (apart_from_test bs both.1)

-- ---- each number of storeys
-- a test that all numbers below k pass
abbrev pub all_below : ℕ → (ℕ → Bool) → Bool
all_below zero p = true
all_below (suc k) p = p k && all_below k p

each_below : (k : ℕ) (p : ℕ → Bool) → all_below k p ≡ true → (i : ℕ) → i < k → p i ≡ true
each_below zero p h i within = absurd (omega arith)
each_below (suc k) p h i within =
    let split = both_true (p k) (all_below k p) h in
    elim (cases_lt i k) [
      | inl before ↦ each_below k p split.1 i before
      | inr after ↦ let here : i ≡ k = omega arith in rw here split.0
    ]

-- a test that passes for 1 to 16 storeys
pub each_number : (p : ℕ → Bool) → all_below 16 (λ k. p (suc k)) ≡ true → (n : ℕ) → 1 ≤ n → n ≤ 16 → p n ≡ true
each_number p h zero some few = absurd (omega arith)
each_number p h (suc n) some few = each_below 16 (λ k. p (suc k)) h n (omega arith)
