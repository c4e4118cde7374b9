use Rattle.tb_outside.proofs.Gathered.{gathers_both, gathers_same}
use Rattle.tb_canonical.specs.Canonical.{names_in}
use Rattle.tb_canonical.proofs.ItemTexts.{psi_text}
use Rattle.tb_canonical.proofs.things.PsiItemWritten.put.Goals as goal

pub returns : goal.returns
returns g c = gathers_same (psi_text (names_in c.args.detail.now) c.args.self.now)
    (gathers_both (rw c.bytes-name.ensures at c.put_row.ensures) (rw (c.items.ensures, c.bytes-name.ensures) at c.put_terms.ensures))
