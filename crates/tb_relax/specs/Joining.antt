-- Parts of a loop taken together.
use Rattle.std.specs.Prelude.{◌*◌, ◌-◌, ◌^◌, ◌≤◌, ℤ, pos, negsuc, ◌+ℤ◌, ◌≤ℤ◌, unsigned_abs}
use Rattle.tb_relax.specs.declared.joining.Reach.{Reach}
use Rattle.tb_relax.specs.declared.part.Parts.{Parts}
use Rattle.tb_relax.specs.Parts.{Goes}

-- within bounds that leave room for a sum of two
pub record IsReach (r : Reach) : Type 0 where
  pub opens_up : pos 0 ≤ℤ r.pull.rate
  pub rate : r.pull.rate ≤ℤ pos (2 ^ 67)
  pub slope : unsigned_abs r.pull.slope ≤ 2 ^ 110
  pub under : r.low ≤ℤ pos 0
  pub over : pos 0 ≤ℤ r.high
  pub low_far : negsuc (4 * 10 ^ 12 - 1) ≤ℤ r.low
  pub high_far : r.high ≤ℤ pos (4 * 10 ^ 12)

abbrev pub Within : Reach → ℤ → Type 0
Within r t = (r.low ≤ℤ t) × (t ≤ℤ r.high)

abbrev pub AllGo : Parts → ℤ → Type 0
AllGo p t = (Goes p.first t × Goes p.first_back t) × (Goes p.second t × Goes p.second_back t)

abbrev pub four_rates : Parts → ℤ
four_rates p = (p.first.pull.rate +ℤ p.first_back.pull.rate) +ℤ (p.second.pull.rate +ℤ p.second_back.pull.rate)

abbrev pub four_slopes : Parts → ℤ
four_slopes p = (p.first.pull.slope +ℤ p.first_back.pull.slope) +ℤ (p.second.pull.slope +ℤ p.second_back.pull.slope)
