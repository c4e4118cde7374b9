use Rattle.std.proofs.Common.{◌∙◌, ap, ◌<◌, arith}
use Rattle.tb_planar.specs.declared.bounds.Bounds.{Bounds}
use Rattle.tb_planar.specs.Sections.{sections}
use Rattle.tb_planar.proofs.Answering.{exact_one, of_one, stored_ends}
use Rattle.tb_planar.proofs.Conducting.{are_positive, conducts}
use Rattle.tb_planar.proofs.Parts.{section_transmittance-encloses}
use Rattle.tb_planar.proofs.Errors.{exact_error_one}
use Rattle.tb_planar.proofs.part.of_one_section.Goals as goal

pub returns-clause-answer : goal.returns-clause-answer
returns-clause-answer c =
    let u = c.section_transmittance-u.ensures in
    let ends = stored_ends c.section_transmittance-u.result u.size in
    of_one c.args.detail.now c.args.part.now _ _ c.requires.one (ends.0 ∙ ap (λ (b : Bounds). b.low) u.value) (ends.1 ∙ ap (λ (b : Bounds). b.high) u.value)

pub returns-clause-encloses : goal.returns-clause-encloses
returns-clause-encloses c =
    let d = c.args.detail.now in
    let p = c.args.part.now in
    let u = c.section_transmittance-u.ensures in
    let ends = stored_ends c.section_transmittance-u.result u.size in
    let first : 0 < sections p = omega (arith, c.requires.one) in
    rw (ends.0, ends.1, u.value, ← exact_one d p c.requires.one)
    (section_transmittance-encloses d p 0 (conducts d p c.requires.part) first (are_positive d p c.requires.part 0 first))

pub returns-clause-size : goal.returns-clause-size
returns-clause-size c =
    let u = c.section_transmittance-u.ensures in let ends = stored_ends c.section_transmittance-u.result u.size in rw (ends.0, ends.1) u.size

pub returns-clause-error : goal.returns-clause-error
returns-clause-error c = exact_error_one c.args.detail.now c.args.part.now c.requires.one
