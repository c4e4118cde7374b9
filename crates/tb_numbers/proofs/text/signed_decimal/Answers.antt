use Rattle.std.proofs.Common.{rules, ◌≡◌, ◌^◌, ◌<◌, arith}
use Rattle.std.proofs.lemmas.Int.{to_z-of_z}
use Rattle.std.specs.Int.{w64}
use Rattle.std.specs.Prelude.{unsigned_abs}
use Rattle.tb_numbers.proofs.ShortTexts.{signed_reads_within}
use Rattle.tb_numbers.specs.Texts.{signed_decimal_text}
use Rattle.tb_numbers.proofs.text.signed_decimal.Goals as goal

written : (c : goal.After-append_decimal) → c.append_decimal.new.self ≡ signed_decimal_text c.args.places c.args.value
unfolding signed_decimal_text
written c = search rules

pub returns-clause-reads_back : goal.returns-clause-reads_back
returns-clause-reads_back c =
    let small : unsigned_abs c.args.value < 2 ^ 64 =
    let size = simp (to_z-of_z w64 c.args.value c.ranges.value) at c.unsigned_abs.ensures.value in omega (arith, size, c.unsigned_abs.type_inv) in
    λ most high. rw (written c) (signed_reads_within c.args.places most c.args.value small high)
