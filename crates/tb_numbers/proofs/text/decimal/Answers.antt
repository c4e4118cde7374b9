use Rattle.std.proofs.Common.{rules, ◌≡◌, ◌^◌, ◌<◌}
use Rattle.tb_numbers.proofs.ShortTexts.{decimal_reads_within}
use Rattle.tb_numbers.specs.Texts.{decimal_text}
use Rattle.tb_numbers.proofs.text.decimal.Goals as goal

pub returns-clause-reads_back : goal.returns-clause-reads_back
returns-clause-reads_back c =
    let written : c.append_decimal.new.self ≡ decimal_text c.args.places c.args.value = search rules in
    let small : c.args.value < 2 ^ 64 = c.ranges.value.fits in
    λ least most low high. rw written (decimal_reads_within c.args.places least most c.args.value small low high)
