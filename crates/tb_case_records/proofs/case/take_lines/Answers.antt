use Rattle.std.proofs.Common.{◌≡◌, ◌∙◌, ◌*◌, sym, ap, subst, ℕ, ◌-◌, List, [], ◌∷◌, drop, length}
use Rattle.tb_reading.specs.Reading.{Numbered}
use Rattle.tb_places.specs.declared.AxisName.TheVariants.{X, Y, Z}
use Rattle.tb_case_records.specs.Cases.{CaseForm, cells_in, form_of, head_table, lines_in}
use Rattle.tb_case_records.specs.Table.{Axis, Exactly, Expected, IsPast, Stops}
use Rattle.tb_case_records.proofs.CaseSteps.{cells_are, lines_at}
use Rattle.tb_case_records.proofs.Taking.{past_then, stops_short, stops_then}
use Rattle.tb_case_records.proofs.case.take_lines.Goals as goal

pub returns-in-Err-take_axis-clause-taken : goal.returns-in-Err-take_axis-clause-taken
returns-in-Err-take_axis-clause-taken c =
    let f : CaseForm = form_of c.args.shape in
    let z : Expected = Axis f.number Z f.z (cells_in c.args.reader.now.ahead 1 * cells_in c.args.reader.now.ahead 2) in
    stops_short (Exactly f.words ∷ Axis f.number X f.x 0 ∷ []) (Axis f.number Y f.y 0 ∷ z ∷ []) c.args.reader.now c.in-Err-take_axis.refusal
    (stops_then (Exactly f.words ∷ []) (Axis f.number X f.x 0 ∷ []) c.args.reader.now c.take_words.new.reader c.in-Err-take_axis.refusal c.in_default.ensures c.in-Err-take_axis.ensures.taken)

pub returns-in-Err-take_axis-2-clause-taken : goal.returns-in-Err-take_axis-2-clause-taken
returns-in-Err-take_axis-2-clause-taken c =
    let f : CaseForm = form_of c.args.shape in
    let z : Expected = Axis f.number Z f.z (cells_in c.args.reader.now.ahead 1 * cells_in c.args.reader.now.ahead 2) in
    stops_short (Exactly f.words ∷ Axis f.number X f.x 0 ∷ Axis f.number Y f.y 0 ∷ []) (z ∷ []) c.args.reader.now c.in-Err-take_axis-2.refusal
    (stops_then (Exactly f.words ∷ Axis f.number X f.x 0 ∷ []) (Axis f.number Y f.y 0 ∷ []) c.args.reader.now c.take_axis.new.reader c.in-Err-take_axis-2.refusal
    (past_then (Exactly f.words ∷ []) (Axis f.number X f.x 0 ∷ []) c.args.reader.now c.take_words.new.reader c.take_axis.new.reader c.in_default.ensures c.in-Ok.ensures.taken)
    c.in-Err-take_axis-2.ensures.taken)

pub returns-in-Err-take_axis-3-clause-taken : goal.returns-in-Err-take_axis-3-clause-taken
returns-in-Err-take_axis-3-clause-taken c =
    let f : CaseForm = form_of c.args.shape in
    let old : List Numbered = c.args.reader.now.ahead in
    let two : IsPast (Exactly f.words ∷ Axis f.number X f.x 0 ∷ []) c.args.reader.now c.take_axis.new.reader =
    past_then (Exactly f.words ∷ []) (Axis f.number X f.x 0 ∷ []) c.args.reader.now c.take_words.new.reader c.take_axis.new.reader c.in_default.ensures c.in-Ok.ensures.taken in
    let three : IsPast (Exactly f.words ∷ Axis f.number X f.x 0 ∷ Axis f.number Y f.y 0 ∷ []) c.args.reader.now c.take_axis-2.new.reader =
    past_then (Exactly f.words ∷ Axis f.number X f.x 0 ∷ []) (Axis f.number Y f.y 0 ∷ []) c.args.reader.now c.take_axis.new.reader c.take_axis-2.new.reader two c.in-Ok-take_axis.ensures.taken in
    let cells : (c.len.result - 1) * (c.len-2.result - 1) ≡ cells_in old 1 * cells_in old 2 =
    cells_are old c.in-Ok.x.items c.in-Ok-take_axis.y.items c.len.result c.len-2.result (c.len.ensures ∙ c.in-Ok.x.ok.0) (c.len-2.ensures ∙ c.in-Ok-take_axis.y.ok.0)
    (c.in-Ok.ensures.read ∙ lines_at 1 old c.take_words.new.reader.ahead c.in_default.ensures.rest)
    (c.in-Ok-take_axis.ensures.read ∙ lines_at 2 old c.take_axis.new.reader.ahead two.rest) in
    stops_then (Exactly f.words ∷ Axis f.number X f.x 0 ∷ Axis f.number Y f.y 0 ∷ []) (Axis f.number Z f.z (cells_in old 1 * cells_in old 2) ∷ []) c.args.reader.now c.take_axis-2.new.reader c.in-Err-take_axis-3.refusal three
    (subst (λ (n : ℕ). Stops (Axis f.number Z f.z n ∷ []) c.take_axis-2.new.reader c.in-Err-take_axis-3.refusal) cells c.in-Err-take_axis-3.ensures.taken)
