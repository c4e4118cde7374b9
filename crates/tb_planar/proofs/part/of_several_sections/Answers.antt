use Rattle.std.proofs.Common.{◌≡◌, ◌∙◌, arith, Bool, true, false, pos, ◌*ℤ◌, ◌<ℤ◌, to_z, of_z}
use Rattle.std.proofs.lemmas.Int.{ints, to_z-of_z}
use Rattle.std.specs.Int.{w128}
use Rattle.std.specs.Prelude.{int_lt}
use Rattle.tb_detail.specs.declared.Detail.{Detail}
use Rattle.tb_detail.specs.declared.Part.{Part}
use Rattle.tb_planar.specs.declared.bounds.Bounds.{Bounds}
use Rattle.tb_planar.specs.Bounds.{IsResistance, plus}
use Rattle.tb_planar.specs.Printed.{lower_limit, upper_limit}
use Rattle.tb_planar.proofs.Answering.{accepted, exact_several, refused, stored_ends}
use Rattle.tb_planar.proofs.Errors.{error_held, exact_error_several, limits_ordered}
use Rattle.tb_planar.proofs.Parts.{mean_of-encloses}
use Rattle.tb_planar.specs.Transmittance as exact
use Rattle.tb_planar.proofs.part.of_several_sections.Goals as goal

tripled : (b : Bounds) → IsResistance b → to_z w128 (of_z w128 (pos 3 *ℤ to_z w128 (of_z w128 b.high))) ≡ pos 3 *ℤ b.high
tripled b h = omega (arith, ints)

doubled : (b : Bounds) → IsResistance b → to_z w128 (of_z w128 (pos 2 *ℤ to_z w128 (of_z w128 b.low))) ≡ pos 2 *ℤ b.low
doubled b h = omega (arith, ints)

-- the test of the ratio, on the limits
tested : (d : Detail) (p : Part) (u l : Bounds) (above : Bool) → IsResistance u → IsResistance l → u ≡ upper_limit d p → l ≡ lower_limit d p
    → int_lt (to_z w128 (of_z w128 (pos 3 *ℤ to_z w128 (of_z w128 l.high)))) (to_z w128 (of_z w128 (pos 2 *ℤ to_z w128 (of_z w128 u.low)))) ≡ above
    → int_lt (pos 3 *ℤ (lower_limit d p).high) (pos 2 *ℤ (upper_limit d p).low) ≡ above
tested d p u l above h k e f t = rw (← e, ← f) (rw (tripled l k, doubled u h) at t)

pub returns-then-upper-lower-clause-answer : goal.returns-then-upper-lower-clause-answer
returns-then-upper-lower-clause-answer c =
    let u = c.upper_limit-upper.ensures in
    let l = c.lower_limit-lower.ensures in
    refused c.args.detail.now c.args.part.now c.requires.several
    (tested c.args.detail.now c.args.part.now c.upper_limit-upper.result c.lower_limit-lower.result true u.size l.size u.value l.value c.if-upper-lower.true)

pub returns-clause-answer : goal.returns-clause-answer
returns-clause-answer c =
    let u = c.upper_limit-upper.ensures in
    let l = c.lower_limit-lower.ensures in
    let m = c.mean_transmittance-u.ensures in
    let ends = stored_ends c.mean_transmittance-u.result m.size in
    accepted c.args.detail.now c.args.part.now c.mean_transmittance-u.result _ _ _ c.requires.several
    (tested c.args.detail.now c.args.part.now c.upper_limit-upper.result c.lower_limit-lower.result false u.size l.size u.value l.value c.if-upper-lower.false)
    (rw (u.value, l.value) at m.value) ends.0 ends.1
    (to_z-of_z w128 c.relative_error.result (record { sfits = c.relative_error.type_inv }) ∙ (rw (u.value, l.value) at c.relative_error.ensures))

above : (a b : Bounds) → IsResistance a → IsResistance b → pos 0 <ℤ (plus a b).low
above a b h k = omega (arith, ints, h.at_least, k.at_least)

pub returns-clause-encloses : goal.returns-clause-encloses
returns-clause-encloses c =
    let d = c.args.detail.now in
    let p = c.args.part.now in
    let u = c.upper_limit-upper.ensures in
    let l = c.lower_limit-lower.ensures in
    let m = c.mean_transmittance-u.ensures in
    let ends = stored_ends c.mean_transmittance-u.result m.size in
    rw (ends.0, ends.1, m.value, ← exact_several d p c.requires.several)
    (mean_of-encloses c.upper_limit-upper.result c.lower_limit-lower.result (exact.upper_limit d p) (exact.lower_limit d p)
    (above c.upper_limit-upper.result c.lower_limit-lower.result u.size l.size) u.encloses l.encloses)

pub returns-clause-error : goal.returns-clause-error
returns-clause-error c =
    let d = c.args.detail.now in
    let p = c.args.part.now in
    let u = c.upper_limit-upper.ensures in
    let l = c.lower_limit-lower.ensures in
    let stored = to_z-of_z w128 c.relative_error.result (record { sfits = c.relative_error.type_inv }) in
    rw (stored, c.relative_error.ensures, ← exact_error_several d p c.requires.several)
    (error_held c.upper_limit-upper.result c.lower_limit-lower.result (exact.upper_limit d p) (exact.lower_limit d p)
    (above c.upper_limit-upper.result c.lower_limit-lower.result u.size l.size) u.encloses l.encloses (limits_ordered d p c.requires.part))

pub returns-clause-size : goal.returns-clause-size
returns-clause-size c =
    let m = c.mean_transmittance-u.ensures in let ends = stored_ends c.mean_transmittance-u.result m.size in rw (ends.0, ends.1) m.size
