use Rattle.std.proofs.Common.{◌≡◌, ◌∙◌, ap, true, false, get_or}
use Rattle.std.proofs.lemmas.Option.{slice_get-get_or}
use Rattle.std.specs.Prelude.{is_err}
use Rattle.tb_planar.proofs.Answering.{refusal}
use Rattle.tb_report.specs.Values.{no_part, range_of}
use Rattle.tb_report.proofs.terms.u_of.Goals as goal

pub unreachable-requires : goal.unreachable-requires
unreachable-requires c =
    let d = c.args.detail.now in
    let p = get_or d.parts c.args.part no_part in
    let there = slice_get-get_or d.parts c.args.part no_part c.requires.known in
    let both : true ≡ false = ap is_err (c.in-Err.ensures.answer p there) ∙ refusal d p ∙ c.requires.unrefused c.args.part no_part c.requires.known in
    cc both

pub returns-clause-value : goal.returns-clause-value
returns-clause-value c =
    let d = c.args.detail.now in
    ap range_of (c.in-Ok.ensures.answer (get_or d.parts c.args.part no_part) (slice_get-get_or d.parts c.args.part no_part c.requires.known))
