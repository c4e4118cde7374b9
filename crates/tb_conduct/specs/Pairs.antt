-- The interval of the coupling coefficient of two environments, from the intervals of the cases of a detail.
use Rattle.std.specs.Prelude.{◌==◌, ◌||◌, ◌+◌, ◌-◌, ◌^◌, ◌≤◌, ℕ, List, Option, Some, None, position, slice_index_or, ℤ, pos, ◌+ℤ◌, ◌-ℤ◌, unsigned_abs}
use Rattle.tb_geometry.specs.Cases.{case_masks}
use Rattle.tb_numbers.specs.Quotients.{ceiling, floor}
use Rattle.tb_terms.specs.declared.Interval.{Interval}

-- sets of environments are masks, as those of cases: environment e is in a set where bit e is set
abbrev pub others : ℕ → ℕ → ℕ
others environments set = 2 ^ environments - 1 - set

-- 0 to 0
abbrev pub no_heat : Interval
no_heat = record { lo = pos 0; hi = pos 0 }

abbrev pub interval_at : List Interval → Option ℕ → Interval
interval_at intervals (Some place) = slice_index_or intervals place no_heat
interval_at intervals None = no_heat

-- The interval of a set of environments, given one for each case: that of the case of this set or of the others, which
-- have the same heat flow. No environment, or all of them, is the set of no case, and no heat flows.
abbrev pub interval_of : ℕ → List Interval → ℕ → Interval
interval_of environments intervals set = interval_at intervals (position (λ c. c == set || c == others environments set) (case_masks environments))

-- ---- the coupling coefficient of the environments i and j: half of K({i}) + K({j}) − K({i,j}), rounded outwards

abbrev pub lowest : ℕ → List Interval → ℕ → ℕ → ℤ
lowest environments intervals i j =
    floor ((interval_of environments intervals (2 ^ i)).lo +ℤ (interval_of environments intervals (2 ^ j)).lo -ℤ (interval_of environments intervals (2 ^ i + 2 ^ j)).hi) (pos 2)

abbrev pub highest : ℕ → List Interval → ℕ → ℕ → ℤ
highest environments intervals i j =
    ceiling ((interval_of environments intervals (2 ^ i)).hi +ℤ (interval_of environments intervals (2 ^ j)).hi -ℤ (interval_of environments intervals (2 ^ i + 2 ^ j)).lo) (pos 2)

-- ---- sizes

-- both ends of an interval are at most so large
pub record AreWithin (most : ℕ) (interval : Interval) : Type 0 where
  pub low : unsigned_abs interval.lo ≤ most
  pub high : unsigned_abs interval.hi ≤ most
