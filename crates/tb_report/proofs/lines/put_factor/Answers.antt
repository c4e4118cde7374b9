use Rattle.std.proofs.Common.{◌≡◌, ◌∙◌, append-nil}
use Rattle.tb_factors.specs.Factors.{extremes, surface_values}
use Rattle.tb_outside.proofs.Gathered.{gathers_both}
use Rattle.tb_report.proofs.lines.put_factor.Goals as goal

pub extremes_towards-requires-clause-carries : goal.extremes_towards-requires-clause-carries
extremes_towards-requires-clause-carries g c = rw c.requires.same c.requires.readable.carries

pub returns : goal.returns
returns g c =
    let found : c.extremes_towards.result ≡ extremes (surface_values c.args.detail.now c.args.case.now.grid c.args.case.now.field c.args.e)
    = c.extremes_towards.ensures ∙ (λ t. extremes (surface_values (c.requires.same t) c.args.case.now.grid (c.field_of.ensures t) c.args.e)) in
    gathers_both (gathers_both (gathers_both (gathers_both c.put.ensures.gathers c.put_set_name.ensures) (rw c.name_at.ensures at (simp append-nil at c.put_pieces.ensures)))
    (rw found at c.put_extremes.ensures)) c.put-2.ensures.gathers
