-- The least and the greatest temperature at the surfaces towards an environment: the temperature factors of ISO 10211:2017
-- at the nodes of a field, where one environment is at 1 and the others are at 0.
use Rattle.std.specs.Prelude.{◌==◌, ℕ, Bool, false, List, [], ◌∷◌, slice_index_or, Option, Some, None, if◌then◌else◌, ℤ, pos}
use Rattle.std.specs.List.{fold}
use Rattle.std.specs.Int.{int_max, int_min}
use Rattle.tb_places.specs.declared.FacePlace.{FacePlace}
use Rattle.tb_places.specs.Along.{corner_edge}
use Rattle.tb_places.specs.Inverse.{face_place}
use Rattle.tb_places.specs.Places.{Counts, face_count, node_number}
use Rattle.tb_grid.specs.Grid.{Axes, counts_of}
use Rattle.tb_detail.specs.declared.Detail.{Detail}
use Rattle.tb_model.specs.declared.FaceKind.{FaceKind}
use Rattle.tb_model.specs.declared.FaceKind.TheVariants.{Surface}
use Rattle.tb_model.specs.Mesh.{kind_at}
use Rattle.tb_geometry.specs.Grids.{mesh_on}
use Rattle.tb_factors.specs.declared.extremes.Extremes.{Extremes}
use Rattle.tb_factors.specs.Joined.{joined}

-- whether a face is a surface towards this environment
abbrev pub is_surface_to : ℕ → FaceKind → Bool
is_surface_to e (Surface environment rs low_is_air) = environment == e
is_surface_to e _ = false

-- the node values at the four corners of a face, given all in the order of nodes
abbrev pub corner_value : Counts → List ℤ → FacePlace → ℕ → ℤ
corner_value n values f corner = slice_index_or values (node_number n (corner_edge f.axis corner f.place)) (pos 0)

abbrev pub corner_values : Counts → List ℤ → FacePlace → List ℤ
corner_values n values f = corner_value n values f 0 ∷ corner_value n values f 1 ∷ corner_value n values f 2 ∷ corner_value n values f 3 ∷ []

-- of a face that is a surface towards an environment
abbrev pub values_towards : Detail → Axes → List ℤ → ℕ → FacePlace → List ℤ
values_towards d g values e f = if is_surface_to e (kind_at (mesh_on d g) f.axis f.place) then corner_values (counts_of g) values f else []

-- of all such faces, in the order of faces
abbrev pub surface_values : Detail → Axes → List ℤ → ℕ → List ℤ
surface_values d g values e = joined (face_count (counts_of g)) (λ n. values_towards d g values e (face_place (counts_of g) n))

-- the least and the greatest of some values, where there is one
abbrev pub extremes : List ℤ → Option Extremes
extremes [] = None
extremes (z ∷ zs) = Some (record { least = fold int_min z zs; greatest = fold int_max z zs })
