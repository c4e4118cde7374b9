use Rattle.std.proofs.Common.{◌≡◌, ◌∙◌, ◌^◌, rules, subst, of_z, to_z, Option}
use mir.Syntax.{w128}
use lib.IntN.{ℤ}
use Rattle.tb_moves.specs.Keeping.{IsKeptEnd}
use Rattle.tb_moves.specs.Sessions.{Session, lower_of}
use Rattle.tb_moves.proofs.Offered.{loss_within}
use Rattle.tb_moves.proofs.session.Session.lower_end.Goals as goal

pub returns-in-Some-clause-value : goal.returns-in-Some-clause-value
returns-in-Some-clause-value c =
    let s : Session = record { body = c.self.inside.setting.body; grid = c.self.inside.setting.grid; case = c.self.inside.setting.case; field = c.self.inside.field; flux = c.self.inside.flux } in
    let whole : to_z w128 (of_z w128 c.in-Some.end) ≡ c.in-Some.end = search rules in
    let kept = subst (λ (o : Option ℤ). IsKeptEnd o (lower_of s s.flux) (2 ^ 121)) c.in-Some.is c.self.invariant.lowest in
    subst (λ (t : Session). to_z w128 (of_z w128 c.in-Some.end) ≡ lower_of t t.flux) c.self.view_is (whole ∙ kept.0)

pub returns-in-None-clause-value : goal.returns-in-None-clause-value
returns-in-None-clause-value c =
    let whole : to_z w128 (of_z w128 c.sure_lower_end.result) ≡ c.sure_lower_end.result = search rules in
    subst (λ (t : Session). to_z w128 (of_z w128 c.sure_lower_end.result) ≡ lower_of t t.flux) c.self.view_is (whole ∙ c.sure_lower_end.ensures.value)

pub sure_lower_end-requires-clause-within : goal.sure_lower_end-requires-clause-within
sure_lower_end-requires-clause-within c =
    let s : Session = record { body = c.self.inside.setting.body; grid = c.self.inside.setting.grid; case = c.self.inside.setting.case; field = c.self.inside.field; flux = c.self.inside.flux } in
    loss_within s c.self.inside.upper c.self.inside.lower c.self.invariant
