use Rattle.std.proofs.Common.{arith, refl}
use Rattle.std.proofs.lemmas.Bool.{false≢true}
use Rattle.tb_places.specs.declared.AxisName.TheVariants.{Y, Z}
use Rattle.tb_grid.specs.Views.{along_axes}
use Rattle.tb_outlets.specs.declared.side.Side.TheVariants.{Low, High}
use Rattle.tb_outlets.proofs.OutletSides.{first_at, last_nearer}
use Rattle.tb_outlets.proofs.outlets.first_nearer.Goals as goal

pub returns-then-low_leads_nearer-2 : goal.returns-then-low_leads_nearer-2
returns-then-low_leads_nearer-2 c = first_at (along_axes c.args.cell.counts) c.args.marks.now c.args.cell.cell.0 (Low Y) (c.if-low_leads_nearer-2.ensures.0 refl)
    (λ l leads. false≢true (c.if-low_leads_nearer.ensures.1 leads)) (λ l leads. false≢true (c.if-high_leads_nearer.ensures.1 leads))
    (λ l. absurd (omega arith)) (λ l. absurd (omega arith)) (λ l. absurd (omega arith))

pub returns-then-high_leads_nearer-2 : goal.returns-then-high_leads_nearer-2
returns-then-high_leads_nearer-2 c = first_at (along_axes c.args.cell.counts) c.args.marks.now c.args.cell.cell.0 (High Y) (c.if-high_leads_nearer-2.ensures.0 refl)
    (λ l leads. false≢true (c.if-low_leads_nearer.ensures.1 leads)) (λ l leads. false≢true (c.if-high_leads_nearer.ensures.1 leads))
    (λ l leads. false≢true (c.if-low_leads_nearer-2.ensures.1 leads)) (λ l. absurd (omega arith)) (λ l. absurd (omega arith))

pub returns-then-low_leads_nearer-3 : goal.returns-then-low_leads_nearer-3
returns-then-low_leads_nearer-3 c = first_at (along_axes c.args.cell.counts) c.args.marks.now c.args.cell.cell.0 (Low Z) (c.if-low_leads_nearer-3.ensures.0 refl)
    (λ l leads. false≢true (c.if-low_leads_nearer.ensures.1 leads)) (λ l leads. false≢true (c.if-high_leads_nearer.ensures.1 leads))
    (λ l leads. false≢true (c.if-low_leads_nearer-2.ensures.1 leads)) (λ l leads. false≢true (c.if-high_leads_nearer-2.ensures.1 leads)) (λ l. absurd (omega arith))

pub returns : goal.returns
returns c = last_nearer (along_axes c.args.cell.counts) c.args.marks.now c.args.cell.cell.0 c.requires.nearer
    (λ leads. false≢true (c.if-low_leads_nearer.ensures.1 leads)) (λ leads. false≢true (c.if-high_leads_nearer.ensures.1 leads))
    (λ leads. false≢true (c.if-low_leads_nearer-2.ensures.1 leads)) (λ leads. false≢true (c.if-high_leads_nearer-2.ensures.1 leads))
    (λ leads. false≢true (c.if-low_leads_nearer-3.ensures.1 leads))
