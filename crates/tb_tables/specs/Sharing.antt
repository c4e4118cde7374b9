-- Lists of rows that things share, each with the number of its row.
use Rattle.std.specs.Prelude.{◌≡◌, ◌+◌, ◌<◌, ◌≤◌, ℕ, List, length, slice_index, slice_index_or}
use Rattle.std.specs.List.{All}

-- the first things, so many, have rows: each has the number of one, and what that row must be for it
pub record AreRows (A : Type 0) (IsRow : ℕ → A → Type 0) (count : ℕ) (rows : List A) (numbers : List ℕ) : Type 0 where
  pub counted : length numbers ≡ count
  pub few : length rows ≤ count
  pub within : All (λ r. r < length rows) numbers
  pub each : (c : ℕ) (none : A) → c < count → IsRow c (slice_index_or rows (slice_index numbers c) none)

-- a row of a kind has a number among rows that are as they were, or one more
pub record IsPlaced (A : Type 0) (Is : A → Type 0) (old new : List A) (number : ℕ) : Type 0 where
  pub kept : (r : ℕ) (none : A) → r < length old → slice_index_or new r none ≡ slice_index_or old r none
  pub from : length old ≤ length new
  pub upto : length new ≤ length old + 1
  pub within : number < length new
  pub here : (none : A) → Is (slice_index_or new number none)

-- each row of a list has its sort
pub record AreSorted (A S : Type 0) (Has : S → A → Type 0) (rows : List A) (sorts : List S) : Type 0 where
  pub counted : length sorts ≡ length rows
  pub each : (r : ℕ) (sort : S) (row : A) → r < length rows → Has (slice_index_or sorts r sort) (slice_index_or rows r row)
