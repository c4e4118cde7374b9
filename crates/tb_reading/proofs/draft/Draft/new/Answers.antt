use Rattle.std.proofs.Common.{ap, ◌∙◌}
use Rattle.tb_reading.specs.NameLists.{names_in}
use Rattle.tb_reading.proofs.Holding.{holds_none, no_names_in}
use Rattle.tb_reading.proofs.draft.Draft.new.Goals as goal

pub returns : goal.returns
returns c = holds_none _ (ap names_in c.new.ensures ∙ no_names_in)
    (λ i. record { dimension = 0; environments = c.no_items.ensures i; materials = c.no_items-2.ensures i; boxes = c.no_items-3.ensures i; parts = c.no_items-4.ensures i; psis = c.no_items-5.ensures i; chis = c.no_items-6.ensures i })
    c.no_items-7.ensures
