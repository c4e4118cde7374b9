-- The lines of an axis: coordinates in 0.1 mm.
use Rattle.std.specs.Prelude.{◌≡◌, ◌↔◌, ℕ, ◌+◌, ◌-◌, ◌<◌, ◌≤◌, List, length, take, slice_index, Contains}
use Rattle.std.specs.List.Sorted.{IsStrictlyIncreasing}
use Rattle.tb_places.specs.Ranges.{IsWithin}

-- an axis has at most so many lines
abbrev pub most_lines : ℕ
most_lines = 1024

-- what every axis keeps
pub record IsAxis (lines : List ℕ) : Type 0 where
  pub least : 2 ≤ length lines
  pub most : length lines ≤ most_lines
  pub rising : IsStrictlyIncreasing lines

-- line n is the first that isn't above the one before it
pub record IsFirstNotRising (lines : List ℕ) (n : ℕ) : Type 0 where
  pub second_or_later : 0 < n
  pub within : n < length lines
  pub not_above : slice_index lines n ≤ slice_index lines (n - 1)
  pub first : IsStrictlyIncreasing (take n lines)

-- the lines through coordinates: each coordinate once, in rising order, and no other line
pub record AreLinesThrough (coordinates lines : List ℕ) : Type 0 where
  pub rising : IsStrictlyIncreasing lines
  pub same : (x : ℕ) → Contains lines x ↔ Contains coordinates x

-- line i stands at x
pub record IsLineAt (lines : List ℕ) (x i : ℕ) : Type 0 where
  pub within : i < length lines
  pub stands : slice_index lines i ≡ x

-- the interval from line i to the next holds x, its low end but not its high end
pub record IsIntervalOf (lines : List ℕ) (x i : ℕ) : Type 0 where
  pub within : i + 1 < length lines
  pub holds : IsWithin (slice_index lines i) (slice_index lines (i + 1)) x

-- n lines, the first ones, stand at x or below
pub record AreLinesUpTo (lines : List ℕ) (x n : ℕ) : Type 0 where
  pub within : n ≤ length lines
  pub up_to : (k : ℕ) → k < n → slice_index lines k ≤ x
  pub above : (k : ℕ) → n ≤ k → k < length lines → x < slice_index lines k

-- x is between the first line and the last, on the first but not on the last
abbrev pub IsBetweenEnds : List ℕ → ℕ → Type 0
IsBetweenEnds lines = IsWithin (slice_index lines 0) (slice_index lines (length lines - 1))

-- how many intervals there are between the lines
abbrev pub interval_count : List ℕ → ℕ
interval_count lines = length lines - 1

-- the width of the interval from line i to the next
abbrev pub interval_width : List ℕ → ℕ → ℕ
interval_width lines i = slice_index lines (i + 1) - slice_index lines i

-- two coordinates, one above the other, are among these
pub record HasTwo (coordinates : List ℕ) : Type 0 where
  pub low : ℕ
  pub high : ℕ
  pub has_low : Contains coordinates low
  pub has_high : Contains coordinates high
  pub apart : low < high
