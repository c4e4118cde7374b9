-- The ends of rising lines, and the lines that others lack.
use Rattle.std.proofs.Common.{◌≡◌, ℕ, ◌+◌, ◌<◌, ◌≤◌, ⊎_elim, true, false, List, length, get_or, Option, Some, None, sym, subst, ◌∙◌, arith}
use Rattle.std.specs.Prelude.{MatchOption}
use Rattle.std.specs.Option.{is_some}
use Rattle.std.specs.List.{Contains}
use Rattle.std.specs.List.Sorted.{IsStrictlyIncreasing}
use Rattle.std.proofs.lemmas.Bool.{cases_lt, true≢false, false≢true}
use Rattle.std.proofs.lemmas.List.{get_or_default}
use Rattle.std.proofs.lemmas.List.Elements.{Contains-get_or}
use Rattle.tb_grid.specs.Axis.{IsLineAt}
use Rattle.tb_geometry.specs.Grids.{HasLines, IsFirstMissing}
use Rattle.tb_grid.proofs.RisingLists.{before_from, line_of_member}

-- ---- whether a line is there
pub line_there : (lines : List ℕ) (x : ℕ) (found : Option ℕ) → MatchOption found (¬ Contains lines x) (IsLineAt lines x) → is_some found ≡ true →
    Contains lines x
line_there lines x None none is = absurd (false≢true is)
line_there lines x (Some i) at is = (i, at.within, sym (get_or_default lines i 0 x at.within) ∙ at.stands)

pub line_lacking : (lines : List ℕ) (x : ℕ) (found : Option ℕ) → MatchOption found (¬ Contains lines x) (IsLineAt lines x) → is_some found ≡ false →
    ¬ Contains lines x
line_lacking lines x None none is = none
line_lacking lines x (Some i) at is = absurd (true≢false is)

-- ---- lines that are there, one after the other
abbrev pub HasFirst : List ℕ → List ℕ → ℕ → Type 0
HasFirst base lines n = (k : ℕ) → k < n → Contains lines (get_or base k 0)

pub one_line_more : (base lines : List ℕ) (n : ℕ) → HasFirst base lines n → Contains lines (get_or base n 0) → HasFirst base lines (n + 1)
one_line_more base lines n has there k below =
    ⊎_elim (λ (early : k < n). has k early)
    (λ (late : n ≤ k). let same : n ≡ k = omega arith in subst (λ (m : ℕ). Contains lines (get_or base m 0)) same there)
    (cases_lt k n)

pub has_all : (base lines : List ℕ) (n : ℕ) → length base ≤ n → HasFirst base lines n → HasLines base lines
has_all base lines n past has x there =
    let (k, at) = line_of_member base x there in
    let within : k < length base = at.within in
    subst (λ (y : ℕ). Contains lines y) at.stands (has k (omega arith))

pub first_lack : (base lines : List ℕ) (n : ℕ) → IsStrictlyIncreasing base → n < length base → HasFirst base lines n →
    ¬ Contains lines (get_or base n 0) → IsFirstMissing base lines (get_or base n 0)
first_lack base lines n rising within has missing =
    record {
      in_set = Contains-get_or base n 0 within;
      is_bad = missing;
      before = λ y there below.
          let (k, at) = line_of_member base y there in
          let inside : k < length base = at.within in
          let stands : get_or base k 0 ≡ y = at.stands in
          subst (λ (z : ℕ). Contains lines z) stands (has k (before_from base rising k n inside (omega arith)));
    }
