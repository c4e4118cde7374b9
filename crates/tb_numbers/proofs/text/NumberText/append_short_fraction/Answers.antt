use Rattle.std.proofs.Common.{◌≡◌, ap, arith, length, length-append, ℕ}
use Rattle.tb_numbers.proofs.ShortTexts.{fraction_length}
use Rattle.tb_numbers.specs.Texts.{padded}
use Rattle.tb_numbers.proofs.text.NumberText.append_short_fraction.Goals as goal

pub append-requires : goal.append-requires
append-requires c =
    let digits : length (padded c.args.places c.args.n) ≡ c.args.places = fraction_length c.args.places c.args.n c.if-n-gt0.true c.requires.below c.ranges.n.fits in
    omega (arith, ap length c.push.ensures, ap length c.append_padded.ensures, ap length c.empty-fraction.ensures, ap length c.as_bytes.ensures.bytes, length-append {A = ℕ})
