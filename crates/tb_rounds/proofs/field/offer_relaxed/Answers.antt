use Rattle.std.proofs.Common.{rules}
use Rattle.tb_rounds.proofs.Rounds.{field_kept, field_taken}
use Rattle.tb_rounds.proofs.field.offer_relaxed.Goals as goal

pub returns-then-offer_field-clause-round : goal.returns-then-offer_field-clause-round
returns-then-offer_field-clause-round c =
    field_taken _ _ (record { field = c.relax.new.field; lower = search rules; taken = search rules })

pub returns-clause-round : goal.returns-clause-round
returns-clause-round c =
    field_kept c.args.session.now c.offer_field.new.self c.relax.new.field (search rules) c.relax.ensures.relaxed (search rules)
