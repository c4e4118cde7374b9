-- Parts of a detail within limits.
use Rattle.std.specs.Prelude.{ℕ, ◌≤◌, All}
use Rattle.tb_detail.specs.declared.Detail.{Detail}
use Rattle.tb_detail.specs.declared.Layer.{Layer}
use Rattle.tb_detail.specs.declared.Material.{Material}
use Rattle.tb_detail.specs.declared.Part.{Part}
use Rattle.tb_detail.specs.declared.quantity.Quantity.TheVariants as quantity
use Rattle.tb_detail.specs.Limits.{LayerInLimits, PartInLimits}
use Rattle.tb_detail.specs.Quantities.{IsInRange}
use Rattle.tb_planar.specs.Sections.{sections}

-- one to four sections, each with an area
pub record HasSections (p : Part) : Type 0 where
  pub some : 1 ≤ sections p
  pub few : sections p ≤ 4
  pub areas : All (IsInRange quantity.Section) p.areas

-- a layer of a part with so many sections, in a detail whose conductivities are in range
pub record HasLayer (d : Detail) (sections : ℕ) (l : Layer) : Type 0 where
  pub conductivities : All (λ (m : Material). IsInRange quantity.Conductivity m.lambda) d.materials
  pub layer : LayerInLimits d sections l

-- a part, in a detail whose conductivities are in range
pub record HasPart (d : Detail) (p : Part) : Type 0 where
  pub conductivities : All (λ (m : Material). IsInRange quantity.Conductivity m.lambda) d.materials
  pub part : PartInLimits d p
