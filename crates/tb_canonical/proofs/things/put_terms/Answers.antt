use Rattle.tb_outside.proofs.Each.{gathers_next}
use Rattle.tb_records.specs.Plain.{record_text}
use Rattle.tb_canonical.specs.Canonical.{names_in, term_row}
use Rattle.tb_canonical.proofs.things.put_terms.Goals as goal

pub loop-term-preserved : goal.loop-term-preserved
loop-term-preserved g c =
    gathers_next (λ term. record_text (term_row (names_in c.args.detail.now) c.args.kind c.args.item.now term)) c.args.terms.now c.loop-term.term-index _ c.loop-term-test.true
    c.loop-term.invariant (rw c.place.ensures at c.put_row.ensures)
