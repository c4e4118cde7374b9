use Rattle.std.proofs.Common.{sym, ◌∙◌}
use Rattle.tb_geometry.proofs.Overlaps.{apart_from_none, later_overlaps, overlap_found}
use Rattle.tb_geometry.proofs.boxes.first_overlap.Goals as goal

pub loop-i-preserved : goal.loop-i-preserved
loop-i-preserved c = later_overlaps c.args.boxes.now c.loop-i.i _ (sym c.first_meeting.ensures ∙ c.in_default.is) c.loop-i.invariant

pub returns : goal.returns
returns c = apart_from_none c.args.boxes.now c.loop-i.i c.loop-i-test.false c.loop-i.invariant

pub returns-in-Some : goal.returns-in-Some
returns-in-Some c = overlap_found c.args.boxes.now c.loop-i.i c.in-Some.n _ c.requires c.loop-i-test.true (sym c.first_meeting.ensures ∙ c.in-Some.is) c.loop-i.invariant
