-- A planar part as ISO 6946:2017 sees it: sections side by side, each of which goes through all layers, from the inner to the outer surface.
use Rattle.std.specs.Prelude.{ℕ, ◌*◌, [], length, map, slice_index, slice_index_or}
use Rattle.tb_detail.specs.declared.Detail.{Detail}
use Rattle.tb_detail.specs.declared.Layer.{Layer}
use Rattle.tb_detail.specs.declared.Material.{Material}
use Rattle.tb_detail.specs.declared.Part.{Part}
use Rattle.tb_math.specs.Sums.{total_ℕ}

abbrev pub sections : Part → ℕ
sections p = length p.areas

-- the area of a section, as a weight
abbrev pub area : Part → ℕ → ℕ
area p s = slice_index p.areas s

abbrev pub total_area : Part → ℕ
total_area p = total_ℕ (sections p) (area p)

abbrev pub layers : Part → ℕ
layers p = length p.layers

-- what stands past the last layer
abbrev pub no_layer : Layer
no_layer = record { thickness = 0; materials = [] }

abbrev pub layer : Part → ℕ → Layer
layer p j = slice_index_or p.layers j no_layer

-- the conductivity of a layer within a section, in 10⁻⁴ W/(m·K)
unfoldable pub conductivity : Detail → Layer → ℕ → ℕ
conductivity d l s = slice_index (map (λ (m : Material). m.lambda) d.materials) (slice_index l.materials s)

-- the conductivities of a layer's sections, each times the section's area
abbrev pub weighted_conductivity : Detail → Part → Layer → ℕ
weighted_conductivity d p l = total_ℕ (sections p) (λ s. area p s * conductivity d l s)
