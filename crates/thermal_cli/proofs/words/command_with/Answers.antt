use Rattle.std.proofs.Common.{◌∙◌, sym, map, string_bytes, Global, codes}
use Rattle.clap.proofs.TakesLemmas.{passed_up}
use Rattle.thermal_cli.proofs.Commands.{is_first, no_demo, no_solve}
use Rattle.thermal_cli.proofs.words.command_with.Goals as goal

pub returns-in_err-read_options-clause-no_reading : goal.returns-in_err-read_options-clause-no_reading
returns-in_err-read_options-clause-no_reading c =
    let words = map (string_bytes {Z = Global}) c.args.words.now in
    let first = is_first words c.args.word.now (codes "solve") c.requires.first (sym c.eq.ensures ∙ c.if-eq.true) in
    passed_up c.from_residual.result c.in_err-read_options.field-0.0 _ c.from_residual.ensures.1
    (λ e. no_solve words first (c.in_err-read_options.ensures.no_reading e))

pub returns-in_err-read_storeys-clause-no_reading : goal.returns-in_err-read_storeys-clause-no_reading
returns-in_err-read_storeys-clause-no_reading c =
    let words = map (string_bytes {Z = Global}) c.args.words.now in
    let first = is_first words c.args.word.now (codes "demo") c.requires.first (sym c.eq-5.ensures ∙ c.if-eq-5.true) in
    passed_up c.from_residual-in_err-read_storeys.result c.in_err-read_storeys.field-0.0 _ c.from_residual-in_err-read_storeys.ensures.1
    (λ e. no_demo words first (c.in_err-read_storeys.ensures.no_reading e))
