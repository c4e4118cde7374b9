use Rattle.tb_driver.proofs.Judged.{candidate}
use Rattle.tb_driver.proofs.judge.judged.Goals as goal

pub returns-clause-candidate : goal.returns-clause-candidate
returns-clause-candidate c =
    candidate c.args.session c.args.width c.interval-interval.result c.verdict_of-verdict.result c.keeps.ensures c.interval-interval.ensures.loss
    (record { low = c.interval-interval.ensures.lower_size; high = c.interval-interval.ensures.upper_size }) c.interval-interval.ensures.lower
    c.interval-interval.ensures.upper c.verdict_of-verdict.ensures c.into_parts-field.result.0 c.into_parts-field.result.1 c.into_parts-field.ensures.field
    c.into_parts-field.ensures.flux
