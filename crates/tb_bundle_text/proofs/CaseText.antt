-- The text of the records of a case, put one behind the other.
use Rattle.std.proofs.Common.{◌≡◌, ◌∙◌, ap, sym, ℕ, ℤ, ◌≤◌, List, [], ◌∷◌, ◌++◌, length, Option, append-nil, arith, refl}
use Rattle.std.proofs.lemmas.Grind.{flat_map-append}
use Rattle.tb_places.specs.declared.AxisName.TheVariants.{X, Y, Z}
use Rattle.tb_places.specs.Places.{face_count, node_count}
use Rattle.tb_detail.specs.declared.Environment.{Environment}
use Rattle.tb_grid.specs.Axis.{interval_count}
use Rattle.tb_grid.specs.Grid.{Axes, counts_of}
use Rattle.tb_outside.proofs.Gathered.{gathers_both, gathers_same}
use Rattle.tb_outside.specs.Buffers.{Gathers}
use Rattle.tb_records.specs.Plain.{record_text, records_text}
use Rattle.tb_reading.specs.Records.{Row}
use Rattle.tb_case_records.specs.declared.case.CaseProof.{CaseProof}
use Rattle.tb_case_records.specs.Table.{face_rows, node_rows}
use Rattle.tb_bundle_text.specs.Canonical.{axis_row, case_row, case_rows, ends_row, field_rows, flux_rows, value_rows, values_in, verdict_row}
use Rattle.tb_bundle_text.proofs.GridRows.{face_values, node_values}

-- the counts of a grid, as a program has them
pub record AreCounts (g : Axes) (x y z : ℕ) : Type 0 where
  pub x_is : x ≡ interval_count g.x
  pub y_is : y ≡ interval_count g.y
  pub z_is : z ≡ interval_count g.z

module _ (c : CaseProof) (x y z : ℕ) (n : AreCounts c.grid x y z) (values : List ℤ) where
  pub field_enough : values ≡ c.field → length c.field ≡ node_count (counts_of c.grid) → values_in (node_rows x y z) ≤ length values
  field_enough is many = rw (is, n.x_is, n.y_is, n.z_is)
      (let v = node_values (interval_count c.grid.x) (interval_count c.grid.y) (interval_count c.grid.z) in omega (arith, many, v))

  pub flux_enough : values ≡ c.flux → length c.flux ≡ face_count (counts_of c.grid) → values_in (face_rows x y z) ≤ length values
  flux_enough is many = rw (is, n.x_is, n.y_is, n.z_is)
      (let v = face_values (interval_count c.grid.x) (interval_count c.grid.y) (interval_count c.grid.z) in omega (arith, many, v))

  pub field_put : {K : Type 0} {h : K → Option (List ℕ)} {f : K → ℕ} {a b : K} {u v : Option (List ℕ)} → values ≡ c.field
      → Gathers h f a b u (records_text (value_rows (node_rows x y z) values)) v → Gathers h f a b u (records_text (field_rows c.grid c.field)) v
  field_put is put = gathers_same (rw (is, n.x_is, n.y_is, n.z_is) refl) put

  pub flux_put : {K : Type 0} {h : K → Option (List ℕ)} {f : K → ℕ} {a b : K} {u v : Option (List ℕ)} → values ≡ c.flux
      → Gathers h f a b u (records_text (value_rows (face_rows x y z) values)) v → Gathers h f a b u (records_text (flux_rows c.grid c.flux)) v
  flux_put is put = gathers_same (rw (is, n.x_is, n.y_is, n.z_is) refl) put

behind : (rows more : List Row) (last : List ℕ) → records_text more ≡ last → records_text rows ++ last ≡ records_text (rows ++ more)
behind rows more last e = sym (flat_map-append record_text rows more ∙ ap (λ (t : List ℕ). records_text rows ++ t) e)

text_behind_axes : (c : CaseProof) → records_text (field_rows c.grid c.field) ++ (records_text (flux_rows c.grid c.flux) ++ (record_text (ends_row c.interval) ++ record_text (verdict_row c.verdict c.width)))
    ≡ records_text (field_rows c.grid c.field ++ (flux_rows c.grid c.flux ++ (ends_row c.interval ∷ verdict_row c.verdict c.width ∷ [])))
text_behind_axes c =
    behind (field_rows c.grid c.field) (flux_rows c.grid c.flux ++ (ends_row c.interval ∷ verdict_row c.verdict c.width ∷ [])) _
    (sym (behind (flux_rows c.grid c.flux) (ends_row c.interval ∷ verdict_row c.verdict c.width ∷ []) _ last))
  where
    last : records_text (ends_row c.interval ∷ verdict_row c.verdict c.width ∷ []) ≡ record_text (ends_row c.interval) ++ record_text (verdict_row c.verdict c.width)
    last = ap (λ (t : List ℕ). record_text (ends_row c.interval) ++ t) (append-nil (record_text (verdict_row c.verdict c.width)))

pub case_put : {K : Type 0} {h : K → Option (List ℕ)} {f : K → ℕ} {a b1 b2 b3 b4 b5 b6 b7 b : K} {u v1 v2 v3 v4 v5 v6 v7 v : Option (List ℕ)} (environments : List Environment) (c : CaseProof)
    → Gathers h f a b1 u (record_text (case_row environments c.case.mask)) v1
    → Gathers h f b1 b2 v1 (record_text (axis_row X c.grid.x)) v2
    → Gathers h f b2 b3 v2 (record_text (axis_row Y c.grid.y)) v3
    → Gathers h f b3 b4 v3 (record_text (axis_row Z c.grid.z)) v4
    → Gathers h f b4 b5 v4 (records_text (field_rows c.grid c.field)) v5
    → Gathers h f b5 b6 v5 (records_text (flux_rows c.grid c.flux)) v6
    → Gathers h f b6 b7 v6 (record_text (ends_row c.interval)) v7
    → Gathers h f b7 b v7 (record_text (verdict_row c.verdict c.width)) v
    → Gathers h f a b u (records_text (case_rows environments c)) v
unfolding case_rows
case_put environments c first x y z field flux ends judged =
    gathers_both first (gathers_both x (gathers_both y (gathers_both z (gathers_same (text_behind_axes c) (gathers_both field (gathers_both flux (gathers_both ends judged)))))))
