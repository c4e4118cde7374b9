-- The rows of values of a grid: how each is read, and how many values there are.
use Rattle.std.proofs.Common.{◌≡◌, ◌∙◌, ap, refl, ℕ, zero, suc, ℤ, ◌+◌, ◌*◌, List, ◌++◌, replicate, Result, arith}
use Rattle.std.proofs.lemmas.List.Elements.{All-append, All-nil, All-cons}
use Rattle.std.specs.List.{repeat}
use Rattle.tb_places.specs.declared.AxisName.TheVariants.{X, Y, Z}
use Rattle.tb_detail.specs.Names.{Text}
use Rattle.tb_numbers.specs.declared.parse.NumberFault.{NumberFault}
use Rattle.tb_case_records.specs.declared.rows.RowKind.TheVariants.{Nodes, Faces}
use Rattle.tb_case_records.specs.Rows.{face_reading, node_reading}
use Rattle.tb_case_records.specs.Table.{Expected, Values, across_z, face_rows, layer_rows, node_rows}
use Rattle.tb_bundle_text.specs.Canonical.{values_in}
use Rattle.tb_bundle_text.proofs.RowsBack.{AreRows, IsRow, values_append, values_repeat, values_replicate}

-- ---- the rows of a grid

alike : (reading : Text → Result ℤ NumberFault) (n : ℕ) (e : Expected) → IsRow reading e → AreRows reading (replicate n e)
alike reading zero e h = All-nil (IsRow reading)
alike reading (suc n) e h = All-cons (IsRow reading) e (replicate n e) h (alike reading n e h)

repeated : (reading : Text → Result ℤ NumberFault) (n : ℕ) (es : List Expected) → AreRows reading es → AreRows reading (repeat n es)
repeated reading zero es h = All-nil (IsRow reading)
repeated reading (suc n) es h = All-append (IsRow reading) es (repeat n es) h (repeated reading n es h)

pub node_rows_are : (x y z : ℕ) → AreRows node_reading (node_rows x y z)
node_rows_are x y z = alike node_reading ((y + 1) * (z + 1)) (Values Nodes (x + 1)) refl

across_are : (x y : ℕ) → AreRows face_reading (across_z x y)
across_are x y = alike face_reading y (Values (Faces Z) x) refl

layer_rows_are : (x y : ℕ) → AreRows face_reading (layer_rows x y)
layer_rows_are x y =
    All-append (IsRow face_reading) (across_z x y) (replicate y (Values (Faces X) (x + 1)) ++ replicate (y + 1) (Values (Faces Y) x)) (across_are x y)
    (All-append (IsRow face_reading) (replicate y (Values (Faces X) (x + 1))) (replicate (y + 1) (Values (Faces Y) x))
    (alike face_reading y (Values (Faces X) (x + 1)) refl) (alike face_reading (y + 1) (Values (Faces Y) x) refl))

pub face_rows_are : (x y z : ℕ) → AreRows face_reading (face_rows x y z)
face_rows_are x y z =
    All-append (IsRow face_reading) (repeat z (layer_rows x y)) (across_z x y) (repeated face_reading z (layer_rows x y) (layer_rows_are x y)) (across_are x y)

-- ---- how many values they have

pub node_values : (x y z : ℕ) → values_in (node_rows x y z) ≡ (x + 1) * ((y + 1) * (z + 1))
node_values x y z = values_replicate ((y + 1) * (z + 1)) (Values Nodes (x + 1)) ∙ omega arith

across_values : (x y : ℕ) → values_in (across_z x y) ≡ y * x
across_values x y = values_replicate y (Values (Faces Z) x)

pub layer_values : (x y : ℕ) → values_in (layer_rows x y) ≡ y * x + (y * (x + 1) + (y + 1) * x)
layer_values x y =
    values_append (across_z x y) (replicate y (Values (Faces X) (x + 1)) ++ replicate (y + 1) (Values (Faces Y) x))
    ∙ ap (λ (n : ℕ). n + values_in (replicate y (Values (Faces X) (x + 1)) ++ replicate (y + 1) (Values (Faces Y) x))) (across_values x y)
    ∙ ap (λ (n : ℕ). y * x + n)
    (values_append (replicate y (Values (Faces X) (x + 1))) (replicate (y + 1) (Values (Faces Y) x))
    ∙ ap (λ (n : ℕ). n + values_in (replicate (y + 1) (Values (Faces Y) x))) (values_replicate y (Values (Faces X) (x + 1)))
    ∙ ap (λ (n : ℕ). y * (x + 1) + n) (values_replicate (y + 1) (Values (Faces Y) x)))

pub face_values : (x y z : ℕ) → values_in (face_rows x y z) ≡ z * (y * x + (y * (x + 1) + (y + 1) * x)) + y * x
face_values x y z =
    values_append (repeat z (layer_rows x y)) (across_z x y)
    ∙ ap (λ (n : ℕ). n + values_in (across_z x y)) (values_repeat z (layer_rows x y) ∙ ap (λ (n : ℕ). z * n) (layer_values x y))
    ∙ ap (λ (n : ℕ). z * (y * x + (y * (x + 1) + (y + 1) * x)) + n) (across_values x y)
