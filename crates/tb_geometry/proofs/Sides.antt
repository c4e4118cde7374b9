-- What lies on the two sides of a face.
use Rattle.std.proofs.Common.{◌≡◌, ◌≢◌, ◌<◌, ◌≤◌, List, Option, Some, None, refl, ap, subst, ◌∙◌, add-one, arith}
use Rattle.std.specs.Option.{option_map}
use Rattle.std.proofs.lemmas.Bool.{lt-ltb}
use Rattle.tb_places.specs.declared.AxisName.{AxisName}
use Rattle.tb_places.specs.declared.AxisName.TheVariants.{X, Y, Z}
use Rattle.tb_places.specs.declared.FacePlace.{FacePlace}
use Rattle.tb_places.specs.declared.Place.{Place}
use Rattle.tb_places.specs.Places.{Counts, IsFace}
use Rattle.tb_detail.specs.declared.Content.{Content}
use Rattle.tb_detail.specs.declared.Content.TheVariants.{Solid, Air}
use Rattle.tb_detail.specs.declared.Detail.{Detail}
use Rattle.tb_detail.specs.declared.Material.{Material}
use Rattle.tb_places.specs.Along.{ahead, index_along}
use Rattle.tb_grid.specs.Grid.{Axes, counts_of}
use Rattle.tb_model.specs.Mesh.{Mesh, kind_between}
use Rattle.tb_geometry.specs.Bodies.{filled_with}
use Rattle.tb_geometry.specs.Grids.{above_face, below_face, content_of, mesh_on}
use Rattle.tb_model.specs.Mesh.{kind_at}
use Rattle.tb_geometry.specs.declared.occupant.Occupant.{Occupant}

-- a face across an axis at a place
abbrev face_across : AxisName → Place → FacePlace
face_across a p = record { axis = a; place = p }

-- ---- above a face
pub cell_above_face : (n : Counts) (a : AxisName) (p : Place) → IsFace n a p → index_along a p ≢ n a → index_along a p < n a
cell_above_face n X p face not_last = let low : p.i ≤ n X = face.0 in omega arith
cell_above_face n Y p face not_last = let low : p.j ≤ n Y = face.1 in omega arith
cell_above_face n Z p face not_last = let low : p.k ≤ n Z = face.2 in omega arith

above_is : (m : Mesh) (a : AxisName) (p : Place) → index_along a p < m.cells a → above_face m (face_across a p) ≡ m.occupant p.i p.j p.k
above_is m X p below = rw (lt-ltb p.i (m.cells X) below) refl
above_is m Y p below = rw (lt-ltb p.j (m.cells Y) below) refl
above_is m Z p below = rw (lt-ltb p.k (m.cells Z) below) refl

pub above_found : (d : Detail) (g : Axes) (a : AxisName) (p : Place) → index_along a p < counts_of g a →
    above_face (mesh_on d g) (face_across a p) ≡ (mesh_on d g).occupant p.i p.j p.k
above_found d g a p below = above_is (mesh_on d g) a p (cells_same a below)
  where
    cells_same : (a : AxisName) → index_along a p < counts_of g a → index_along a p < (mesh_on d g).cells a
    cells_same X h = h
    cells_same Y h = h
    cells_same Z h = h

-- ---- below a face
below_is : (m : Mesh) (a : AxisName) (q : Place) → below_face m (face_across a (ahead a 1 q)) ≡ m.occupant q.i q.j q.k
below_is m X q = rw add-one refl
below_is m Y q = rw add-one refl
below_is m Z q = rw add-one refl

pub below_found : (m : Mesh) (a : AxisName) (p q : Place) → ahead a 1 q ≡ p → below_face m (face_across a p) ≡ m.occupant q.i q.j q.k
below_found m a p q is = subst (λ (r : Place). below_face m (face_across a r) ≡ m.occupant q.i q.j q.k) is (below_is m a q)

-- ---- the kind of a face doesn't depend on the conductivity of the solids at it
same_kind : (materials : List Material) (x y : Option Content) →
    kind_between (option_map content_of (option_map (filled_with materials) x)) (option_map content_of (option_map (filled_with materials) y)) ≡ kind_between x y
same_kind materials None None = refl
same_kind materials None (Some (Solid n)) = refl
same_kind materials None (Some (Air e r)) = refl
same_kind materials (Some (Solid m)) None = refl
same_kind materials (Some (Solid m)) (Some (Solid n)) = refl
same_kind materials (Some (Solid m)) (Some (Air e r)) = refl
same_kind materials (Some (Air d q)) None = refl
same_kind materials (Some (Air d q)) (Some (Solid n)) = refl
same_kind materials (Some (Air d q)) (Some (Air e r)) = refl

pub kind_found : (m : Mesh) (materials : List Material) (f : FacePlace) (below above : Option Occupant) → below ≡ option_map (filled_with materials) (below_face m f) →
    above ≡ option_map (filled_with materials) (above_face m f) → kind_between (option_map content_of below) (option_map content_of above) ≡ kind_at m f.axis f.place
kind_found m materials f below above is_below is_above =
    ap (λ (o : Option Occupant). kind_between (option_map content_of o) (option_map content_of above)) is_below
    ∙ ap (λ (o : Option Occupant). kind_between (option_map content_of (option_map (filled_with materials) (below_face m f))) (option_map content_of o)) is_above
    ∙ same_kind materials (below_face m f) (above_face m f)
