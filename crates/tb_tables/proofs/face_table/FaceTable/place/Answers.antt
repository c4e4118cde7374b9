use Rattle.std.proofs.Common.{refl, arith}
use Rattle.tb_relax.specs.declared.table.FaceWeight.{FaceWeight}
use Rattle.tb_tables.specs.declared.sorts.FaceSort.{FaceSort}
use Rattle.tb_tables.specs.Sorts.{HasFaceSort}
use Rattle.tb_tables.proofs.Sharing.{found}
use Rattle.tb_tables.proofs.face_table.FaceTable.place.Goals as goal

pub returns-then-is_sort-clause-placed : goal.returns-then-is_sort-clause-placed
returns-then-is_sort-clause-placed c = found FaceWeight FaceSort HasFaceSort c.args.self.now.rows.items c.args.known.now.sorts.items c.args.sort c.requires.sorted c.as_slice.result.now c.as_slice.ensures.value c.args.like (c.if-is_sort.ensures.there refl) (c.if-is_sort.ensures.same refl)

pub overflow_cast-result : goal.overflow_cast-result
overflow_cast-result c = let within = c.if-is_sort-2.ensures.there refl in let e = c.as_slice-2.ensures.len in omega (arith, within, e, c.requires.sorted.counted, c.requires.few)

pub returns-then-is_sort-2-clause-placed : goal.returns-then-is_sort-2-clause-placed
returns-then-is_sort-2-clause-placed c = found FaceWeight FaceSort HasFaceSort c.args.self.now.rows.items c.args.known.now.sorts.items c.args.sort c.requires.sorted c.as_slice-2.result.now c.as_slice-2.ensures.value c.in_ok-seen.seen.0 (c.if-is_sort-2.ensures.there refl) (c.if-is_sort-2.ensures.same refl)
