-- Fields and fluxes given by lists of whole numbers in the index orders, on grids of scale 1.
use Rattle.std.specs.Prelude.{◌==◌, ℕ, ◌/◌, ◌%◌, ◌^◌, List, slice_index_or, ℤ, pos}
use Rattle.tb_math.specs.Rational.{int}
use Rattle.tb_places.specs.Places.{Counts, by_axis, place_at, node_number, face_number}
use Rattle.tb_model.specs.Refinement.{Refinement}
use Rattle.tb_model.specs.Energy.{Case, Field, Flux}

-- a grid whose lines stand at whole numbers of 0.1 mm
abbrev pub unscaled : List ℕ → List ℕ → List ℕ → Refinement
unscaled x y z = record { scale = 1; lines = by_axis x y z }

-- the field with these node values
abbrev pub field_of : Counts → List ℤ → Field
field_of n values i j k = int (slice_index_or values (node_number n (place_at i j k)) (pos 0))

-- the flux with these face values
abbrev pub flux_of : Counts → List ℤ → Flux
flux_of n values a i j k = int (slice_index_or values (face_number n a (place_at i j k)) (pos 0))

-- the case of a mask: environment e is in it where bit e is set
abbrev pub case_of : ℕ → Case
case_of mask e = (mask / 2 ^ e) % 2 == 1
