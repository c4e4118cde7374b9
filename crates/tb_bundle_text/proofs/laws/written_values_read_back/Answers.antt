use Rattle.std.proofs.Common.{◌∙◌}
use Rattle.tb_case_records.specs.Limits.{IsFaceValue, IsNodeValue}
use Rattle.tb_case_records.specs.Rows.{face_reading, node_reading}
use Rattle.tb_case_records.specs.Table.{face_rows, node_rows}
use Rattle.tb_bundle_text.specs.Canonical.{value_rows}
use Rattle.tb_bundle_text.proofs.GridRows.{face_rows_are, node_rows_are}
use Rattle.tb_bundle_text.proofs.Meeting.{met, met_numbers}
use Rattle.tb_bundle_text.proofs.RowsBack.{face_back, node_back, rows_meet, rows_read}
use Rattle.tb_bundle_text.proofs.laws.written_values_read_back.Goals as goal

pub returns-clause-nodes : goal.returns-clause-nodes
returns-clause-nodes c = λ x y z values number more h.
    let rows = node_rows x y z in
    met rows (value_rows rows values) number more (rows_meet node_reading IsNodeValue node_back rows values (node_rows_are x y z) h.one_each h.each)

pub returns-clause-node_values : goal.returns-clause-node_values
returns-clause-node_values c = λ x y z values number more h.
    let rows = node_rows x y z in
    met_numbers node_reading rows (value_rows rows values) number more (rows_meet node_reading IsNodeValue node_back rows values (node_rows_are x y z) h.one_each h.each)
    ∙ rows_read node_reading IsNodeValue node_back rows values (node_rows_are x y z) h.one_each h.each

pub returns-clause-faces : goal.returns-clause-faces
returns-clause-faces c = λ x y z values number more h.
    let rows = face_rows x y z in
    met rows (value_rows rows values) number more (rows_meet face_reading IsFaceValue face_back rows values (face_rows_are x y z) h.one_each h.each)

pub returns-clause-face_values : goal.returns-clause-face_values
returns-clause-face_values c = λ x y z values number more h.
    let rows = face_rows x y z in
    met_numbers face_reading rows (value_rows rows values) number more (rows_meet face_reading IsFaceValue face_back rows values (face_rows_are x y z) h.one_each h.each)
    ∙ rows_read face_reading IsFaceValue face_back rows values (face_rows_are x y z) h.one_each h.each
