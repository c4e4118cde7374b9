use Rattle.std.proofs.Common.{◌≡◌, ◌≤◌, ◌^◌, ◌∙◌, ◌↔◌, rules, subst, sym, of_z, to_z, true, false, Bool, IsTrue, List, Some}
use mir.Syntax.{w128}
use lib.IntN.{ℤ}
use Rattle.std.specs.Prelude.{unsigned_abs}
use Rattle.tb_grid.specs.Grid.{counts_of}
use Rattle.tb_field.specs.Fields.{FitsNodes}
use Rattle.tb_moves.specs.Keeping.{KeepsSession}
use Rattle.tb_moves.specs.Sessions.{IsLower, Session, upper_of, with_field}
use Rattle.tb_moves.proofs.Offered.{field_taken, told_lower, with_upper}
use Rattle.tb_moves.proofs.session.Session.offer_field.Goals as goal

pub invariant_of-self : goal.invariant_of-self
invariant_of-self c =
    let s : Session = record { body = c.self.inside.setting.body; grid = c.self.inside.setting.grid; case = c.self.inside.setting.case; field = c.self.inside.field; flux = c.self.inside.flux } in
    let present : to_z w128 (of_z w128 c.upper_end-present.result) ≡ c.upper_end-present.result = search rules in
    let here = subst (λ (t : Session). c.upper_end-present.result ≡ upper_of t t.field) (sym c.self.view_is) c.upper_end-present.ensures.value in
    with_upper s c.self.inside.upper c.self.inside.lower c.self.invariant (to_z w128 (of_z w128 c.upper_end-present.result)) (present ∙ here) (subst (λ (z : ℤ). unsigned_abs z ≤ 2 ^ 120) (sym present) c.upper_end-present.ensures.size)

pub returns-then-not-is_lower-clause-better : goal.returns-then-not-is_lower-clause-better
returns-then-not-is_lower-clause-better c =
    let s : Session = record { body = c.self.inside.setting.body; grid = c.self.inside.setting.grid; case = c.self.inside.setting.case; field = c.self.inside.field; flux = c.self.inside.flux } in
    let present : to_z w128 (of_z w128 c.upper_end-present.result) ≡ c.upper_end-present.result = search rules in
    let here = subst (λ (t : Session). c.upper_end-present.result ≡ upper_of t t.field) (sym c.self.view_is) c.upper_end-present.ensures.value in
    let end : to_z w128 (of_z w128 c.upper_end-end.result) ≡ c.upper_end-end.result = search rules in
    subst (λ (t : Session). IsTrue false ↔ IsLower t c.args.candidate.now) c.self.view_is
    (subst (λ (r : Bool). IsTrue r ↔ IsLower s c.args.candidate.now) c.if-not-is_lower.true (told_lower c.is_lower.result (to_z w128 (of_z w128 c.upper_end-end.result)) (to_z w128 (of_z w128 c.upper_end-present.result)) (upper_of s c.args.candidate.now) (upper_of s s.field) (end ∙ c.upper_end-end.ensures.value) (present ∙ here) c.is_lower.ensures))

pub invariant_of-self-2 : goal.invariant_of-self-2
invariant_of-self-2 c =
    let s : Session = record { body = c.self.inside.setting.body; grid = c.self.inside.setting.grid; case = c.self.inside.setting.case; field = c.self.inside.field; flux = c.self.inside.flux } in
    let end : to_z w128 (of_z w128 c.upper_end-end.result) ≡ c.upper_end-end.result = search rules in
    subst (λ (v : List ℤ). KeepsSession (with_field s v) (Some (to_z w128 (of_z w128 c.upper_end-end.result))) c.self.inside.lower) (sym c.copy_field.ensures)
    (field_taken s c.self.inside.upper c.self.inside.lower c.self.invariant c.args.candidate.now (to_z w128 (of_z w128 c.upper_end-end.result)) (subst (λ (t : Session). FitsNodes (counts_of t.grid) c.args.candidate.now) (sym c.self.view_is) c.requires.fits) c.requires.limits
    (end ∙ c.upper_end-end.ensures.value) (subst (λ (z : ℤ). unsigned_abs z ≤ 2 ^ 120) (sym end) c.upper_end-end.ensures.size))

pub returns-clause-better : goal.returns-clause-better
returns-clause-better c =
    let s : Session = record { body = c.self.inside.setting.body; grid = c.self.inside.setting.grid; case = c.self.inside.setting.case; field = c.self.inside.field; flux = c.self.inside.flux } in
    let present : to_z w128 (of_z w128 c.upper_end-present.result) ≡ c.upper_end-present.result = search rules in
    let here = subst (λ (t : Session). c.upper_end-present.result ≡ upper_of t t.field) (sym c.self.view_is) c.upper_end-present.ensures.value in
    let end : to_z w128 (of_z w128 c.upper_end-end.result) ≡ c.upper_end-end.result = search rules in
    subst (λ (t : Session). IsTrue true ↔ IsLower t c.args.candidate.now) c.self.view_is
    (subst (λ (r : Bool). IsTrue r ↔ IsLower s c.args.candidate.now) c.if-not-is_lower.false (told_lower c.is_lower.result (to_z w128 (of_z w128 c.upper_end-end.result)) (to_z w128 (of_z w128 c.upper_end-present.result)) (upper_of s c.args.candidate.now) (upper_of s s.field) (end ∙ c.upper_end-end.ensures.value) (present ∙ here) c.is_lower.ensures))
