use Rattle.std.proofs.Common.{◌≡◌, ◌∙◌, refl, sym, ap, ◌<◌, true, false, inl, inr, List, length, arith}
use Rattle.std.proofs.lemmas.Bool.{cases_lt}
use Rattle.std.specs.Prelude.{is_err}
use Rattle.tb_detail.specs.declared.Part.{Part}
use Rattle.tb_planar.specs.Printed.{is_ratio_above}
use Rattle.tb_planar.proofs.Answering.{found, in_place, no_part, none_found, refusal}
use Rattle.tb_planar.proofs.part.first_ratio_above.Goals as goal

pub returns-then-is_err : goal.returns-then-is_err
returns-then-is_err c =
    let d = c.args.detail.now in
    let x = c.part-item.result in
    let inside : c.loop-place.place < length d.parts = omega (arith, ap (λ (xs : List Part). length xs) c.items-part-items.ensures, c.loop-place-test.true) in
    let at = in_place d.parts c.items-part-items.result.now c.loop-place.place c.loop-place.place x x c.items-part-items.ensures refl c.loop-place-test.true c.part-item.is in
    let above : is_ratio_above d x ≡ true = sym (refusal d x) ∙ ap is_err (sym c.of_part.ensures.answer) ∙ sym c.is_err.ensures.value ∙ c.if-is_err.true in
    found (is_ratio_above d) d.parts c.loop-place.place x inside (λ k b. c.loop-place.invariant k x b) (rw at above)

pub loop-place-preserved : goal.loop-place-preserved
loop-place-preserved c = λ k e b.
    elim (cases_lt k c.loop-place.place) [
      | inl before ↦ c.loop-place.invariant k e before
      | inr after ↦
          let d = c.args.detail.now in
          let x = c.part-item.result in
          let here : k ≡ c.loop-place.place = omega arith in
          let below : is_ratio_above d x ≡ false = sym (refusal d x) ∙ ap is_err (sym c.of_part.ensures.answer) ∙ sym c.is_err.ensures.value ∙ c.if-is_err.false in
          rw (in_place d.parts c.items-part-items.result.now c.loop-place.place k x e c.items-part-items.ensures here c.loop-place-test.true c.part-item.is) below
    ]

pub returns : goal.returns
returns c =
    let d = c.args.detail.now in
    let all : length d.parts ≡ c.loop-place.place = omega (arith, ap (λ (xs : List Part). length xs) c.items-part-items.ensures, c.loop-place-test.false) in
    none_found (is_ratio_above d) d.parts no_part (λ k b. c.loop-place.invariant k no_part (omega (arith, all, b)))
