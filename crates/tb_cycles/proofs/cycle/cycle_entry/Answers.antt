use Rattle.std.proofs.Common.{ℕ, refl, subst}
use Rattle.std.proofs.lemmas.Bool.{false≢true}
use Rattle.tb_places.specs.Places.{Counts}
use Rattle.tb_outlets.specs.Balancing.{side_at}
use Rattle.tb_outlets.specs.Searching.{IsOpening}
use Rattle.tb_outlets.specs.declared.side.Side.{Side}
use Rattle.tb_cycles.proofs.Entering.{entry_of, none_has_none, outlet_has_none}
use Rattle.tb_cycles.proofs.cycle.cycle_entry.Goals as goal

pub returns-in_default : goal.returns-in_default
returns-in_default c = λ m same marks outlets.
    none_has_none m c.args.solid.now c.args.face.0 marks
    (subst (λ (n : Counts). (d : ℕ) (s : Side) → ¬ IsOpening n c.args.solid.now c.args.face.0 d s) same c.in_default.ensures)

pub returns-then-is_outlet : goal.returns-then-is_outlet
returns-then-is_outlet c = λ m same marks outlets.
    outlet_has_none m c.args.solid.now (side_at c.args.sides.now) c.args.face.0 c.in-Some.cell.0 c.in-Some.side marks outlets
    (subst (λ (n : Counts). IsOpening n c.args.solid.now c.args.face.0 c.in-Some.cell.0 c.in-Some.side) same c.in-Some.ensures)
    (c.if-is_outlet.ensures.0 refl)

pub returns : goal.returns
returns c = λ m same marks outlets.
    entry_of m c.args.solid.now (side_at c.args.sides.now) c.args.face.0 c.in-Some.cell.0 c.in-Some.side marks outlets
    (subst (λ (n : Counts). IsOpening n c.args.solid.now c.args.face.0 c.in-Some.cell.0 c.in-Some.side) same c.in-Some.ensures)
    (λ is. false≢true (c.if-is_outlet.ensures.1 is))
