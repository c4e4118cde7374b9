use Rattle.std.proofs.Common.{◌≡◌, ◌∙◌, ℕ, ◌+◌, ◌<◌, Some, arith, length, subst, sym}
use Rattle.tb_places.specs.declared.AxisName.TheVariants.{X}
use Rattle.tb_places.specs.Places.{place_at}
use Rattle.tb_geometry.specs.Base.{base_lines}
use Rattle.tb_geometry.specs.Grids.{occupant_at}
use Rattle.tb_geometry.specs.declared.occupant.Occupant.{Occupant}
use Rattle.tb_geometry.specs.declared.occupant.Occupant.TheVariants.{Solid, Air}
use Rattle.tb_geometry.proofs.Lines.{base_rises}
use Rattle.tb_rows.proofs.Filled.{lies_at}
use Rattle.tb_rows.proofs.Grids.{between_lines}
use Rattle.tb_rows.proofs.rows.Rows.run_at.Goals as goal

pub solid_run-requires-clause-up : goal.solid_run-requires-clause-up
solid_run-requires-clause-up c =
    let f = c.args.self.now in let r = c.requires in
    let l : c.args.b + 1 < length (base_lines X f.body.now.boxes) = omega (arith, r.base) in
    (between_lines (base_lines X f.body.now.boxes) f.grid.now.x (base_rises X f.body.now.boxes) (r.rows.carries.rising X) c.args.b c.args.from c.args.to l r.from r.to).up

pub solid_run-requires-clause-lies : goal.solid_run-requires-clause-lies
solid_run-requires-clause-lies c =
    let f = c.args.self.now in let r = c.requires in
    let l : c.args.b + 1 < length (base_lines X f.body.now.boxes) = omega (arith, r.base) in
    (between_lines (base_lines X f.body.now.boxes) f.grid.now.x (base_rises X f.body.now.boxes) (r.rows.carries.rising X) c.args.b c.args.from c.args.to l r.from r.to).lies

pub solid_run-requires-clause-own : goal.solid_run-requires-clause-own
solid_run-requires-clause-own c i low high =
    let f = c.args.self.now in let r = c.requires in let d = f.body.now in let g = f.grid.now in let at = c.args.around.now in
    let l : c.args.b + 1 < length (base_lines X d.boxes) = omega (arith, r.base) in
    let between = between_lines (base_lines X d.boxes) g.x (base_rises X d.boxes) (r.rows.carries.rising X) c.args.b c.args.from c.args.to l r.from r.to in
    let within = between.within in
    subst (λ (o : Occupant). Some o ≡ occupant_at d g (place_at i at.j at.k)) c.in-Solid.is
    (c.filling-at.ensures g (place_at i at.j at.k) r.rows.carries (omega (arith, within, high), r.within.0, r.within.1)
    (lies_at d g i at.j at.k c.args.b at.base_j at.base_k (between.lies i low high) r.around.at_j r.around.at_k))

pub returns-in-Solid-clause-up : goal.returns-in-Solid-clause-up
returns-in-Solid-clause-up c =
    let f = c.args.self.now in let r = c.requires in
    let l : c.args.b + 1 < length (base_lines X f.body.now.boxes) = omega (arith, r.base) in
    (between_lines (base_lines X f.body.now.boxes) f.grid.now.x (base_rises X f.body.now.boxes) (r.rows.carries.rising X) c.args.b c.args.from c.args.to l r.from r.to).up

pub returns-in-Air-clause-up : goal.returns-in-Air-clause-up
returns-in-Air-clause-up c =
    let f = c.args.self.now in let r = c.requires in
    let l : c.args.b + 1 < length (base_lines X f.body.now.boxes) = omega (arith, r.base) in
    (between_lines (base_lines X f.body.now.boxes) f.grid.now.x (base_rises X f.body.now.boxes) (r.rows.carries.rising X) c.args.b c.args.from c.args.to l r.from r.to).up

other : (lambda e rs : ℕ) → Some (Solid lambda) ≡ Some (Air e rs) → ⊥
other lambda e rs h = cc

pub returns-in-Air-clause-run : goal.returns-in-Air-clause-run
returns-in-Air-clause-run c =
    let f = c.args.self.now in let r = c.requires in let d = f.body.now in let g = f.grid.now in let at = c.args.around.now in
    let l : c.args.b + 1 < length (base_lines X d.boxes) = omega (arith, r.base) in
    let between = between_lines (base_lines X d.boxes) g.x (base_rises X d.boxes) (r.rows.carries.rising X) c.args.b c.args.from c.args.to l r.from r.to in
    let within = between.within in
    record {
      each = λ i low high lambda is. other lambda c.in-Air.environment c.in-Air.rs (is ∙ sym
          (subst (λ (o : Occupant). Some o ≡ occupant_at d g (place_at i at.j at.k)) c.in-Air.is
          (c.filling-at.ensures g (place_at i at.j at.k) r.rows.carries (omega (arith, within, high), r.within.0, r.within.1)
          (lies_at d g i at.j at.k c.args.b at.base_j at.base_k (between.lies i low high) r.around.at_j r.around.at_k))));
    }
