use Rattle.std.proofs.Common.{ap, ◌<◌, ◌≤◌, List, length, arith}
use Rattle.std.proofs.lemmas.List.{take_all}
use Rattle.std.specs.List.{flat_map}
use Rattle.tb_detail.specs.declared.Part.{Part}
use Rattle.tb_outside.proofs.Each.{gathers_next}
use Rattle.tb_outside.proofs.Gathered.{gathers_same}
use Rattle.tb_planar.specs.Printed.{answer}
use Rattle.tb_report.specs.Texts.{u_line}
use Rattle.tb_report.specs.Values.{no_part}
use Rattle.tb_report.proofs.report.put_parts.Goals as goal

pub loop-place-preserved : goal.loop-place-preserved
loop-place-preserved g c =
    let d = c.args.detail.now in
    let inside : c.loop-place.place < length d.parts = omega (arith, ap (λ (xs : List Part). length xs) c.items-place-end.ensures, c.loop-place-test.true) in
    gathers_next (λ p. u_line p (answer d p)) d.parts c.loop-place.place no_part inside c.loop-place.invariant c.put_part.ensures

pub returns : goal.returns
returns g c =
    let d = c.args.detail.now in
    let all : length d.parts ≤ c.loop-place.place = omega (arith, ap (λ (xs : List Part). length xs) c.items-place-end.ensures, c.loop-place-test.false) in
    gathers_same (ap (λ t. flat_map (λ p. u_line p (answer d p)) t) (take_all c.loop-place.place d.parts all)) c.loop-place.invariant
