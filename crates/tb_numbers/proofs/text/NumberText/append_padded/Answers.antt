use Rattle.std.proofs.Common.{◌∙◌, ◌≤◌, ◌-◌, ℕ, ap, arith, length, length-append}
use Rattle.std.proofs.lemmas.Fmt.{length-decimal-le}
use Rattle.std.proofs.lemmas.List.{length-replicate}
use Rattle.std.specs.Prelude.{decimal, replicate}
use Rattle.tb_numbers.proofs.text.NumberText.append_padded.Goals as goal

pub overflow_sub-from : goal.overflow_sub-from
overflow_sub-from c =
    let short : length (decimal c.args.n) ≤ c.args.places = length-decimal-le c.args.places c.args.n c.requires.places.0 c.requires.below c.ranges.n.fits in
    omega (arith, ap length (c.as_bytes-digits.ensures.value ∙ c.format.ensures.text), c.from.ensures)

pub append-requires : goal.append-requires
append-requires c =
    let short : length (decimal c.args.n) ≤ c.args.places = length-decimal-le c.args.places c.args.n c.requires.places.0 c.requires.below c.ranges.n.fits in
    let zeros = c.from.result - length c.as_bytes-digits.result.now in
    omega (arith, ap length (c.as_bytes-digits.ensures.value ∙ c.format.ensures.text), c.from.ensures, ap length c.append_zeros.ensures, length-append c.args.self.now (replicate zeros 48), length-replicate {A = ℕ} zeros 48)
