use Rattle.std.proofs.Common.{◌≡◌, ◌∙◌, sym, ap, ◌<◌, List, inl, inr, length, get_or, Some, arith}
use Rattle.std.specs.Prelude.{slice_get}
use Rattle.std.proofs.lemmas.Bool.{cases_lt}
use Rattle.std.proofs.lemmas.Option.{slice_get-get_or, slice_get_within}
use Rattle.tb_detail.specs.declared.Part.{Part}
use Rattle.tb_planar.proofs.Answering.{no_part}
use Rattle.tb_uvalues.specs.Answers.{HasUValue}
use Rattle.tb_uvalues.proofs.Listing.{unrefused}
use Rattle.tb_uvalues.proofs.list.first_refused.Goals as goal

pub returns-then-is_err-clause-first : goal.returns-then-is_err-clause-first
returns-then-is_err-clause-first c =
    let parts = c.args.detail.now.parts in
    let inside : c.loop-place.place < length parts = omega (arith, ap (λ (xs : List Part). length xs) c.items-place-end.ensures, c.loop-place-test.true) in
    let there = slice_get-get_or parts c.loop-place.place no_part inside in
    record {
      part = get_or parts c.loop-place.place no_part;
      there = there;
      above = (c.value_at.ensures.refused (get_or parts c.loop-place.place no_part) there).0 (sym c.is_err.ensures.value ∙ c.if-is_err.true);
      before = c.loop-place.invariant;
    }

pub loop-place-preserved : goal.loop-place-preserved
loop-place-preserved c = λ n p b there.
    elim (cases_lt n c.loop-place.place) [
      | inl before ↦ c.loop-place.invariant n p before there
      | inr after ↦
          let here : n ≡ c.loop-place.place = omega arith in
          let is : slice_get c.args.detail.now.parts c.loop-place.place ≡ Some p = rw here at there in
          unrefused (HasUValue c.args.detail.now p) c.value_at.result (sym c.is_err.ensures.value ∙ c.if-is_err.false) (c.value_at.ensures.printed p is)
    ]

pub returns-clause-first : goal.returns-clause-first
returns-clause-first c = λ n p there.
    let within = slice_get_within c.args.detail.now.parts n p there in
    c.loop-place.invariant n p (omega (arith, within, ap (λ (xs : List Part). length xs) c.items-place-end.ensures, c.loop-place-test.false)) there
