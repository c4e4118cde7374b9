use Rattle.std.proofs.Common.{◌≡◌, ◌∙◌, ◌^◌, rules, subst, of_z, to_z, Option}
use mir.Syntax.{w128}
use lib.IntN.{ℤ}
use Rattle.tb_moves.specs.Keeping.{IsKeptEnd}
use Rattle.tb_moves.specs.Sessions.{Session, upper_of}
use Rattle.tb_moves.proofs.session.Session.upper_end.Goals as goal

pub returns-in-Some-clause-value : goal.returns-in-Some-clause-value
returns-in-Some-clause-value c =
    let s : Session = record { body = c.self.inside.setting.body; grid = c.self.inside.setting.grid; case = c.self.inside.setting.case; field = c.self.inside.field; flux = c.self.inside.flux } in
    let whole : to_z w128 (of_z w128 c.in-Some.end) ≡ c.in-Some.end = search rules in
    let kept = subst (λ (o : Option ℤ). IsKeptEnd o (upper_of s s.field) (2 ^ 120)) c.in-Some.is c.self.invariant.highest in
    subst (λ (t : Session). to_z w128 (of_z w128 c.in-Some.end) ≡ upper_of t t.field) c.self.view_is (whole ∙ kept.0)

pub returns-in-None-clause-value : goal.returns-in-None-clause-value
returns-in-None-clause-value c =
    let whole : to_z w128 (of_z w128 c.upper_end.result) ≡ c.upper_end.result = search rules in
    subst (λ (t : Session). to_z w128 (of_z w128 c.upper_end.result) ≡ upper_of t t.field) c.self.view_is (whole ∙ c.upper_end.ensures.value)
