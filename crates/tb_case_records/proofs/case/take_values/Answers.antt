use Rattle.tb_case_records.specs.Table.{face_rows, node_rows}
use Rattle.tb_case_records.proofs.Taking.{past_then, stops_short, stops_then}
use Rattle.tb_case_records.proofs.case.take_values.Goals as goal

pub returns-in-Err-clause-taken : goal.returns-in-Err-clause-taken
returns-in-Err-clause-taken c =
    stops_short (node_rows c.args.counts.x c.args.counts.y c.args.counts.z) (face_rows c.args.counts.x c.args.counts.y c.args.counts.z) c.args.reader.now c.in-Err.refusal c.in-Err.ensures.taken

pub returns-in-Ok-take_faces-clause-taken : goal.returns-in-Ok-take_faces-clause-taken
returns-in-Ok-take_faces-clause-taken c =
    past_then (node_rows c.args.counts.x c.args.counts.y c.args.counts.z) (face_rows c.args.counts.x c.args.counts.y c.args.counts.z) c.args.reader.now c.take_nodes.new.reader c.take_faces.new.reader
    c.in_default-take_nodes.ensures.taken c.in-Ok-take_faces.ensures.taken

pub returns-in-Err-take_faces-clause-taken : goal.returns-in-Err-take_faces-clause-taken
returns-in-Err-take_faces-clause-taken c =
    stops_then (node_rows c.args.counts.x c.args.counts.y c.args.counts.z) (face_rows c.args.counts.x c.args.counts.y c.args.counts.z) c.args.reader.now c.take_nodes.new.reader c.in-Err-take_faces.refusal
    c.in_default-take_nodes.ensures.taken c.in-Err-take_faces.ensures.taken
