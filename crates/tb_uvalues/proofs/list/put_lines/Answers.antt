use Rattle.std.proofs.Common.{◌∙◌, refl, ap, ◌<◌, ◌≤◌, List, length, get_or, arith}
use Rattle.std.proofs.lemmas.List.{take_all}
use Rattle.std.specs.List.{flat_map}
use Rattle.tb_detail.specs.declared.Part.{Part}
use Rattle.tb_outside.proofs.Each.{gathers_next_item}
use Rattle.tb_outside.proofs.Gathered.{gathers_same}
use Rattle.tb_planar.specs.Printed.{answer}
use Rattle.tb_uvalues.specs.Texts.{line_of}
use Rattle.tb_uvalues.proofs.Listing.{line_is, part_there}
use Rattle.tb_uvalues.proofs.list.put_lines.Goals as goal

pub loop-place-preserved : goal.loop-place-preserved
loop-place-preserved g c =
    let d = c.args.detail.now in
    let p = c.part-item.result in
    let at = c.loop-place.place in
    let parts = c.items-part-items.ensures in
    let inside : at < length d.parts = omega (arith, ap (λ (xs : List Part). length xs) parts, c.loop-place-test.true) in
    let there = part_there d c.items-part-items.result.now at at p parts refl c.loop-place-test.true c.part-item.is in
    gathers_next_item (λ p. line_of p (answer d p)) d.parts at p (c.part-item.is ∙ ap (λ (xs : List Part). get_or xs at p) parts) inside c.loop-place.invariant
    (gathers_same (line_is d p c.printed_at.result (c.printed_at.ensures p there)) c.put_line.ensures)

pub returns : goal.returns
returns g c =
    let d = c.args.detail.now in
    let all : length d.parts ≤ c.loop-place.place = omega (arith, ap (λ (xs : List Part). length xs) c.items-part-items.ensures, c.loop-place-test.false) in
    gathers_same (ap (λ t. flat_map (λ p. line_of p (answer d p)) t) (take_all c.loop-place.place d.parts all)) c.loop-place.invariant
