-- The level grid of an axis: its base lines, the cut points of the intervals between them, and then the middles of
-- all intervals, so many times over. Each is a set of lines, told as the one rising list of them.
use Rattle.std.specs.Prelude.{◌≡◌, ◌↔◌, ◌⊎◌, ℕ, zero, suc, ◌+◌, ◌-◌, ◌/◌, ◌^◌, ◌<◌, ◌≤◌, List, length, slice_index, Contains}
use Rattle.std.specs.List.Sorted.{IsStrictlyIncreasing}
use Rattle.tb_grid.specs.Axis.{most_lines}

-- lines have an interval from p to q: they are neighbouring lines
pub record HasInterval (lines : List ℕ) (p q : ℕ) : Type 0 where
  pub i : ℕ
  pub within : i + 1 < length lines
  pub low : slice_index lines i ≡ p
  pub high : slice_index lines (i + 1) ≡ q

-- the width of the interval from p to q, halved j times and rounded down
abbrev pub share : ℕ → ℕ → ℕ → ℕ
share p q j = (q - p) / 2 ^ j

-- x is a cut point of the interval from p to q: a share of at least 1 above its low end, or below its high end. The
-- first share above the low end is the middle, so those below the high end begin with the second
pub record IsCutOf (grade p q x : ℕ) : Type 0 where
  pub j : ℕ
  pub most : j ≤ grade
  pub some : 1 ≤ share p q j
  pub at : ((1 ≤ j) × (x ≡ p + share p q j)) ⊎ ((2 ≤ j) × (x ≡ q - share p q j))

-- x is a cut point of an interval of the base lines
pub record IsCutPoint (grade : ℕ) (base : List ℕ) (x : ℕ) : Type 0 where
  pub p : ℕ
  pub q : ℕ
  pub interval : HasInterval base p q
  pub cut : IsCutOf grade p q x

-- x is the middle, rounded down, of an interval that is at least 2 wide
pub record IsMiddle (lines : List ℕ) (x : ℕ) : Type 0 where
  pub p : ℕ
  pub q : ℕ
  pub interval : HasInterval lines p q
  pub wide : 2 ≤ q - p
  pub at : x ≡ p + (q - p) / 2

-- the base lines with the cut points of their intervals
pub record IsGraded (grade : ℕ) (base lines : List ℕ) : Type 0 where
  pub rising : IsStrictlyIncreasing lines
  pub same : (x : ℕ) → Contains lines x ↔ (Contains base x ⊎ IsCutPoint grade base x)

-- the old lines with the middles of their intervals
pub record IsHalved (old new : List ℕ) : Type 0 where
  pub rising : IsStrictlyIncreasing new
  pub same : (x : ℕ) → Contains new x ↔ (Contains old x ⊎ IsMiddle old x)

-- the same so many times, one after the other
pub data IsHalvedTimes : ℕ → List ℕ → List ℕ → Type 0 where
  never : {lines : List ℕ} → IsHalvedTimes zero lines lines
  once_more : {times : ℕ} {old mid new : List ℕ} → IsHalved old mid → IsHalvedTimes times mid new →
      IsHalvedTimes (suc times) old new

-- the level grid of base lines
pub record IsLevelGrid (grade halve : ℕ) (base lines : List ℕ) : Type 0 where
  pub cut : List ℕ
  pub graded : IsGraded grade base cut
  pub halved : IsHalvedTimes halve cut lines

-- the level grid of base lines would have so many lines, more than an axis may have
pub record IsTooFine (grade halve : ℕ) (base : List ℕ) (count : ℕ) : Type 0 where
  pub lines : List ℕ
  pub level : IsLevelGrid grade halve base lines
  pub many : most_lines < length lines
  pub counted : count ≡ length lines
