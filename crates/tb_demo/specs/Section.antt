-- The detail of the demo: a vertical section through storeys 3 m high. Each has a wall of 200 mm masonry and 100 mm
-- insulation, and at mid-height a concrete slab of 200 mm that passes through the wall and carries a balcony outside.
--
-- Coordinates in 0.1 mm, x from the inside to the outside, y upwards. Resistances in 10⁻⁴ m²K/W, conductivities in 10⁻⁴ W/(m·K).
use Rattle.std.specs.Prelude.{ℕ, zero, suc, ◌+◌, ◌*◌, ◌++◌, List, [], ◌∷◌, codes}
use Rattle.tb_detail.specs.declared.Content.{Content}
use Rattle.tb_detail.specs.declared.Content.TheVariants.{Air, Solid}
use Rattle.tb_detail.specs.declared.Detail.{Detail}
use Rattle.tb_detail.specs.declared.Environment.{Environment}
use Rattle.tb_detail.specs.declared.Material.{Material}
use Rattle.tb_detail.specs.declared.SpaceBox.{SpaceBox}

-- ---- what stands in the section

abbrev pub environments : List Environment
environments = record { name = codes "inside" } ∷ record { name = codes "outside" } ∷ []

abbrev pub materials : List Material
materials =
    record { name = codes "masonry"; lambda = 8000 }
    ∷ record { name = codes "insulation"; lambda = 400 }
    ∷ record { name = codes "concrete"; lambda = 23000 }
    ∷ []

-- the air inside with Rs 0.13 m²K/W, the air outside with 0.04
abbrev pub air_inside : Content
air_inside = Air 0 1300

abbrev pub air_outside : Content
air_outside = Air 1 400

abbrev pub masonry : Content
masonry = Solid 0

abbrev pub insulation : Content
insulation = Solid 1

abbrev pub concrete : Content
concrete = Solid 2

-- ---- its boxes

-- a box of the section is one metre deep
abbrev pub flat_box : Content → (x0 x1 y0 y1 : ℕ) → SpaceBox
flat_box content x0 x1 y0 y1 = record { content = content; span = record { x0 = x0; x1 = x1; y0 = y0; y1 = y1; z0 = 0; z1 = 10000 } }

-- the wall from one height up to another, with the air on its two sides
abbrev pub wall : (y0 y1 : ℕ) → List SpaceBox
wall y0 y1 =
    flat_box air_inside 0 10000 y0 y1
    ∷ flat_box masonry 10000 12000 y0 y1
    ∷ flat_box insulation 12000 13000 y0 y1
    ∷ flat_box air_outside 13000 24000 y0 y1
    ∷ []

-- the slab from one height up to another, with the air at the end of the balcony
abbrev pub slab : (y0 y1 : ℕ) → List SpaceBox
slab y0 y1 = flat_box concrete 0 23000 y0 y1 ∷ flat_box air_outside 23000 24000 y0 y1 ∷ []

-- a storey from its height up: the wall, the slab, and the wall above it
abbrev pub storey : ℕ → List SpaceBox
storey y = wall y (y + 14000) ++ slab (y + 14000) (y + 16000) ++ wall (y + 16000) (y + 30000)

-- so many storeys, one above the other
abbrev pub storeys : ℕ → List SpaceBox
storeys zero = []
storeys (suc n) = storeys n ++ storey (30000 * n)

-- ---- the detail

abbrev pub section : ℕ → Detail
section n = record {
  dimension = 2;
  environments = environments;
  materials = materials;
  boxes = storeys n;
  parts = [];
  psis = [];
  chis = [];
}
