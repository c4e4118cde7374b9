-- Lines whose intervals have widths within limits.
use Rattle.std.specs.Prelude.{ℕ, ◌+◌, ◌-◌, ◌<◌, ◌≤◌, List, length, slice_index}
use Rattle.tb_terms.specs.Limits.{IsWidth}

pub record AreWidths (lines : List ℕ) : Type 0 where
  pub rises : (i : ℕ) → i + 1 < length lines → slice_index lines i ≤ slice_index lines (i + 1)
  pub each : (i : ℕ) → i + 1 < length lines → IsWidth (slice_index lines (i + 1) - slice_index lines i)
