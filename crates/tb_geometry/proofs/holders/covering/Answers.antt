use Rattle.std.proofs.Common.{◌≡◌, ◌≢◌, ◌<◌, ◌≤◌, ℕ, List, length, get_or, refl, subst, arith}
use Rattle.std.specs.List.{EachIndex}
use Rattle.tb_places.specs.Places.{cell_count}
use Rattle.tb_geometry.specs.Base.{base_counts}
use Rattle.tb_geometry.specs.Bodies.{IsFirstFree}
use Rattle.tb_geometry.proofs.Covers.{covered_from_table, holders_from_table, uncovered_from_table}
use Rattle.tb_geometry.proofs.holders.covering.Goals as goal

pub overflow_cast-n : goal.overflow_cast-n
overflow_cast-n c =
    let found = subst (λ (t : List ℕ). IsFirstFree t c.in-Some.n) c.as_slice.ensures.value c.in-Some.ensures in
    let within : c.in-Some.n < length c.in_ok-table.table.items = found.in_set in
    let long : length c.in_ok-table.table.items ≡ cell_count (base_counts c.args.boxes.now) = c.in_ok-table.ensures.each_cell in
    let few : cell_count (base_counts c.args.boxes.now) ≤ 262144 = c.requires.few in
    omega arith

pub returns-in-Some : goal.returns-in-Some
returns-in-Some c =
    let found = subst (λ (t : List ℕ). IsFirstFree t c.in-Some.n) c.as_slice.ensures.value c.in-Some.ensures in
    let corner = c.low_corner-x.ensures in (
      c.low_corner-x.result.0,
      c.low_corner-x.result.1,
      c.low_corner-x.result.2,
      refl,
      uncovered_from_table c.args.base.now c.args.boxes.now c.in_ok-table.table.items c.in-Some.n _ _ _ c.requires.base c.in_ok-table.ensures found corner.x corner.y corner.z,
    )

pub returns-in-None : goal.returns-in-None
returns-in-None c =
    let full = subst (λ (t : List ℕ). EachIndex t (λ n. get_or t n 0 ≢ 65535)) c.as_slice.ensures.value c.in-None.ensures in (
      holders_from_table c.args.boxes.now c.in_ok-table.table.items c.in_ok-table.ensures full,
      covered_from_table c.args.boxes.now c.in_ok-table.table.items c.in_ok-table.ensures full,
    )
