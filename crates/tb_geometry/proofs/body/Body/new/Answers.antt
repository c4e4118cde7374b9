use Rattle.std.proofs.Common.{List, subst, sym, arith}
use Rattle.std.proofs.lemmas.Result.{err_from_is_err_and}
use Rattle.tb_detail.specs.declared.SpaceBox.{SpaceBox}
use Rattle.tb_geometry.specs.Cubes.{AreApart}
use Rattle.tb_geometry.proofs.Steps.{AreFound, accepted, cover_answered, grid_answered, kept, link_answered, overlap_answered}
use Rattle.tb_geometry.proofs.body.Body.new.Goals as goal

pub returns-in_err-base : goal.returns-in_err-base
returns-in_err-base c =
    let p = err_from_is_err_and c.from_residual.result c.from_residual.ensures.1 in
    rw (p.1, p.2)
    (grid_answered c.args.detail.now c.items-boxes.result.now c.in_err-base.field-0.0 c.items-boxes.ensures (omega arith)
    (sym c.if-not-has_solid.ensures) c.in_err-base.ensures)

pub returns-in-Some : goal.returns-in-Some
returns-in-Some c =
    overlap_answered c.args.detail.now c.items-boxes.result.now c.in_ok-base.base c.in-Some.i c.in-Some.j
    (record { same = c.items-boxes.ensures; environments = omega arith; solid = sym c.if-not-has_solid.ensures; grid = c.in_ok-base.ensures })
    c.in-Some.ensures

pub returns-in_err-holders : goal.returns-in_err-holders
returns-in_err-holders c =
    let p = err_from_is_err_and c.from_residual-in_err-holders.result c.from_residual-in_err-holders.ensures.1 in
    rw (p.1, p.2)
    (cover_answered c.args.detail.now c.items-boxes.result.now c.in_ok-base.base c.in_err-holders.field-0.0
    (record { same = c.items-boxes.ensures; environments = omega arith; solid = sym c.if-not-has_solid.ensures; grid = c.in_ok-base.ensures })
    c.in_default.ensures c.in_err-holders.ensures)

pub linked-requires-clause-apart : goal.linked-requires-clause-apart
linked-requires-clause-apart c = subst (λ (boxes : List SpaceBox). AreApart boxes) c.items-boxes.ensures c.in_default.ensures

pub returns-in_err-linked : goal.returns-in_err-linked
returns-in_err-linked c =
    let p = err_from_is_err_and c.from_residual-in_err-linked.result c.from_residual-in_err-linked.ensures.1 in
    rw (p.1, p.2)
    (link_answered c.args.detail.now c.items-boxes.result.now c.in_ok-base.base c.in_ok-holders.holders c.in_err-linked.field-0.0
    (record { same = c.items-boxes.ensures; environments = omega arith; solid = sym c.if-not-has_solid.ensures; grid = c.in_ok-base.ensures })
    c.in_default.ensures c.in_ok-holders.ensures c.in_err-linked.ensures)

pub invariant_of-result : goal.invariant_of-result
invariant_of-result c =
    let found : AreFound c.args.detail.now c.items-boxes.result.now c.in_ok-base.base =
    record { same = c.items-boxes.ensures; environments = omega arith; solid = sym c.if-not-has_solid.ensures; grid = c.in_ok-base.ensures } in
    rw (c.of.ensures, c.environments_of-environments.ensures)
    (kept c.args.detail.now c.items-boxes.result.now c.items.result.now c.in_ok-base.base c.in_ok-holders.holders
    c.in_ok-occupants.occupants.items c.requires found c.in_default.ensures c.in_ok-holders.ensures c.in_ok-linked.ensures c.items.ensures c.in_ok-occupants.ensures)

pub returns : goal.returns
returns c =
    let found : AreFound c.args.detail.now c.items-boxes.result.now c.in_ok-base.base =
    record { same = c.items-boxes.ensures; environments = omega arith; solid = sym c.if-not-has_solid.ensures; grid = c.in_ok-base.ensures } in (
      c.of.ensures,
      accepted c.args.detail.now c.items-boxes.result.now c.in_ok-base.base c.in_ok-holders.holders found c.in_default.ensures c.in_ok-holders.ensures c.in_ok-linked.ensures,
    )
