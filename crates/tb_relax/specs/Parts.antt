-- What a loop's change does at one of its faces.
use Rattle.std.specs.Prelude.{◌≡◌, ◌*◌, ◌-◌, ◌^◌, ◌≤◌, Bool, false, ℤ, pos, negsuc, ◌≤ℤ◌, ◌<ℤ◌, unsigned_abs}
use Rattle.tb_relax.specs.declared.part.Part.{Part}
use Rattle.tb_relax.specs.declared.part.Parts.{Parts}

-- how far a change may go: where the face is left out, further than where it counts
pub record IsRange (counts : Bool) (low high : ℤ) : Type 0 where
  pub under : low ≤ℤ pos 0
  pub over : pos 0 ≤ℤ high
  pub low_far : negsuc (4 * 10 ^ 12 - 1) ≤ℤ low
  pub high_far : high ≤ℤ pos (4 * 10 ^ 12)
  pub low_idle : counts ≡ false → low ≡ negsuc (4 * 10 ^ 12 - 1)
  pub high_idle : counts ≡ false → high ≡ pos (4 * 10 ^ 12)

pub record IsPart (p : Part) : Type 0 where
  pub opens_up : pos 0 ≤ℤ p.pull.rate
  pub rate : p.pull.rate <ℤ pos (2 ^ 66)
  pub slope : unsigned_abs p.pull.slope ≤ 2 ^ 109
  pub rate_idle : p.counts ≡ false → p.pull.rate ≡ pos 0
  pub slope_idle : p.counts ≡ false → p.pull.slope ≡ pos 0
  pub range : IsRange p.counts p.low p.high

-- a change that a face lets go so far
abbrev pub Goes : Part → ℤ → Type 0
Goes p t = (p.low ≤ℤ t) × (t ≤ℤ p.high)

pub record ArePartsOfAll (p : Parts) : Type 0 where
  pub first : IsPart p.first
  pub first_back : IsPart p.first_back
  pub second : IsPart p.second
  pub second_back : IsPart p.second_back
