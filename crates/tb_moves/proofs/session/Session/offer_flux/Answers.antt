use Rattle.std.proofs.Common.{◌≡◌, ◌≤◌, ◌^◌, ◌∙◌, rules, subst, sym, of_z, to_z, List, Some}
use mir.Syntax.{w128}
use lib.IntN.{ℤ}
use Rattle.std.specs.Prelude.{unsigned_abs}
use Rattle.tb_grid.specs.Grid.{counts_of}
use Rattle.tb_flux.specs.Fluxes.{FitsFaces}
use Rattle.tb_moves.specs.Keeping.{KeepsSession}
use Rattle.tb_moves.specs.Sessions.{IsHigherThan, Session, lower_of, with_flux}
use Rattle.tb_moves.proofs.Offered.{flux_taken, with_lower}
use Rattle.tb_moves.proofs.session.Session.offer_flux.Goals as goal

pub invariant_of-self : goal.invariant_of-self
invariant_of-self c =
    let s : Session = record { body = c.self.inside.setting.body; grid = c.self.inside.setting.grid; case = c.self.inside.setting.case; field = c.self.inside.field; flux = c.self.inside.flux } in
    let present : to_z w128 (of_z w128 c.lower_end-present.result) ≡ c.lower_end-present.result = search rules in
    let here = subst (λ (t : Session). c.lower_end-present.result ≡ lower_of t t.flux) (sym c.self.view_is) c.lower_end-present.ensures.value in
    with_lower s c.self.inside.upper c.self.inside.lower c.self.invariant (to_z w128 (of_z w128 c.lower_end-present.result)) (present ∙ here) (subst (λ (z : ℤ). unsigned_abs z ≤ 2 ^ 121) (sym present) c.lower_end-present.ensures.size)

pub invariant_of-self-2 : goal.invariant_of-self-2
invariant_of-self-2 c =
    let s : Session = record { body = c.self.inside.setting.body; grid = c.self.inside.setting.grid; case = c.self.inside.setting.case; field = c.self.inside.field; flux = c.self.inside.flux } in
    let present : to_z w128 (of_z w128 c.lower_end-present.result) ≡ c.lower_end-present.result = search rules in
    let here = subst (λ (t : Session). c.lower_end-present.result ≡ lower_of t t.flux) (sym c.self.view_is) c.lower_end-present.ensures.value in
    let end : to_z w128 (of_z w128 c.in-Some.end) ≡ c.in-Some.end = search rules in
    subst (λ (v : List ℤ). KeepsSession (with_flux s v) c.self.inside.upper (Some (to_z w128 (of_z w128 c.in-Some.end)))) (sym c.copy_flux.ensures)
    (flux_taken s c.self.inside.upper c.self.inside.lower c.self.invariant c.args.candidate.now (to_z w128 (of_z w128 c.in-Some.end)) (subst (λ (t : Session). FitsFaces (counts_of t.grid) c.args.candidate.now) (sym c.self.view_is) c.requires.fits) c.requires.limits
    (subst (λ (o : ℤ). IsHigherThan s.body s.grid s.case o c.args.candidate.now) (present ∙ here) c.in-Some.ensures.higher) (end ∙ c.in-Some.ensures.value) (subst (λ (z : ℤ). unsigned_abs z ≤ 2 ^ 121) (sym end) c.in-Some.ensures.size))
