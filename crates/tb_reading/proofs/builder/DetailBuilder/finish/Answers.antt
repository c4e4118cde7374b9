use Rattle.std.proofs.Common.{Result, sym, subst}
use Rattle.tb_detail.specs.declared.Detail.{Detail}
use Rattle.tb_reading.specs.declared.fault.DetailFault.{DetailFault}
use Rattle.tb_reading.specs.Reading.{Answers}
use Rattle.tb_reading.proofs.Fed.{none_stands, parts_stand, reading_is}
use Rattle.tb_reading.proofs.Within.{answer_in_limits}
use Rattle.tb_reading.proofs.builder.DetailBuilder.finish.Goals as goal

pub returns-in-None-clause-detail : goal.returns-in-None-clause-detail
returns-in-None-clause-detail c = λ given s.
    subst (λ (r : Result Detail DetailFault). Answers c.finished.result r)
    (sym (reading_is c.self.inside.draft given (none_stands c.self.inside.refusal c.self.inside.draft given c.in-None.is (parts_stand c.args.self c.self.inside.draft c.self.inside.refusal given c.self.view_is s))))
    c.finished.ensures

pub returns-in-None-clause-limits : goal.returns-in-None-clause-limits
returns-in-None-clause-limits c = λ given s. answer_in_limits 1 given c.finished.result (returns-in-None-clause-detail c given s)
