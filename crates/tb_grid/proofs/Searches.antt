-- Where a coordinate lies among rising lines.
use Rattle.std.proofs.Common.{◌≡◌, ℕ, ◌+◌, ◌<◌, ◌≤◌, ⊎_elim, List, length, get_or, arith, ◌∙◌, Result, Ok, Err, nat_cmp}
use Rattle.std.specs.Prelude.{MatchResult}
use Rattle.std.specs.List.{Contains}
use Rattle.std.specs.List.Sorted.{IsStrictlyIncreasing, IsBinarySearchResult}
use Rattle.std.proofs.lemmas.Bool.{cases_lt}
use Rattle.std.proofs.lemmas.List.{get_or_default}
use Rattle.std.proofs.lemmas.List.Sorted.{searched}
use Rattle.tb_grid.specs.Axis.{AreLinesUpTo}
use Rattle.tb_grid.proofs.RisingLists.{never_falls, rises}

-- what a binary search finds among rising lines
found_line : (lines : List ℕ) (x : ℕ) (r : Result ℕ ℕ) → IsStrictlyIncreasing lines → IsBinarySearchResult (λ y. nat_cmp y x) lines r →
    MatchResult r (λ i. (i < length lines) × (get_or lines i 0 ≡ x))
    (λ i. (i ≤ length lines) × ((k : ℕ) → k < i → get_or lines k 0 < x) × ((k : ℕ) → i ≤ k → k < length lines → x < get_or lines k 0))
found_line lines x r rising searching = searched lines x r searching (never_falls lines rising)

pub no_line : (lines : List ℕ) (x i : ℕ) → IsStrictlyIncreasing lines → IsBinarySearchResult (λ y. nat_cmp y x) lines (Err i) →
    Contains lines x → ⊥
no_line lines x i rising searching (k, within, is) =
    let found = found_line lines x (Err i) rising searching in
    let value : get_or lines k 0 ≡ x = get_or_default lines k 0 x within ∙ is in
    ⊎_elim (λ (early : k < i). let below : get_or lines k 0 < x = found.1 k early in omega arith)
    (λ (late : i ≤ k). let above : x < get_or lines k 0 = found.2 k late within in omega arith)
    (cases_lt k i)

pub up_to_found : (lines : List ℕ) (x i : ℕ) → IsStrictlyIncreasing lines → IsBinarySearchResult (λ y. nat_cmp y x) lines (Ok i) →
    AreLinesUpTo lines x (i + 1)
up_to_found lines x i rising searching =
    let found = found_line lines x (Ok i) rising searching in
    let within : i < length lines = found.0 in
    let stands : get_or lines i 0 ≡ x = found.1 in
    record {
      within = omega arith;
      up_to = λ k before. let low : get_or lines k 0 ≤ get_or lines i 0 = never_falls lines rising k i (omega arith) within in omega arith;
      above = λ k after below. let high : get_or lines i 0 < get_or lines k 0 = rises lines rising i k (omega arith) below in omega arith;
    }

pub up_to_gap : (lines : List ℕ) (x i : ℕ) → IsStrictlyIncreasing lines → IsBinarySearchResult (λ y. nat_cmp y x) lines (Err i) →
    AreLinesUpTo lines x i
up_to_gap lines x i rising searching =
    let found = found_line lines x (Err i) rising searching in
    record {
      within = found.0;
      up_to = λ k before. let low : get_or lines k 0 < x = found.1 k before in omega arith;
      above = found.2;
    }
