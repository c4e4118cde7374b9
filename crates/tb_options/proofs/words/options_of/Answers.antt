use Rattle.clap.specs.Words.{found_of, rows_of}
use Rattle.tb_options.specs.declared.SolveOption.TheVariants.{Width, Grade, Halve, Sweeps}
use Rattle.tb_options.proofs.Readings.{gives_none, of_error}
use Rattle.tb_options.proofs.words.options_of.Goals as goal

pub returns-in_err-width-clause-gives_none : goal.returns-in_err-width-clause-gives_none
returns-in_err-width-clause-gives_none c = of_error _ _ (gives_none (rows_of (found_of c.args.matches.now)) Width _ c.in_err-width.ensures.value)

pub returns-in_err-grade-clause-gives_none : goal.returns-in_err-grade-clause-gives_none
returns-in_err-grade-clause-gives_none c = of_error _ _ (gives_none (rows_of (found_of c.args.matches.now)) Grade _ c.in_err-grade.ensures.value)

pub returns-in_err-halve-clause-gives_none : goal.returns-in_err-halve-clause-gives_none
returns-in_err-halve-clause-gives_none c = of_error _ _ (gives_none (rows_of (found_of c.args.matches.now)) Halve _ c.in_err-halve.ensures.value)

pub returns-in_err-sweeps-clause-gives_none : goal.returns-in_err-sweeps-clause-gives_none
returns-in_err-sweeps-clause-gives_none c = of_error _ _ (gives_none (rows_of (found_of c.args.matches.now)) Sweeps _ c.in_err-sweeps.ensures.value)
