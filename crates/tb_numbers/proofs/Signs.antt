-- A sign before a number that was read.
use Rattle.std.proofs.Common.{◌≡◌, ◌∙◌, ◌^◌, ◌<◌, ◌≤◌, ℕ, List, [], ◌∷◌, length, min, Bool, true, false, Option, Some, None, Result, Ok, Err, zero, suc, inl, inr, refl, sym, ap, arith, ℤ, pos, neg_ℤ}
use Rattle.std.proofs.lemmas.Bool.{cases_Bool}
use Rattle.std.proofs.lemmas.Bool.Decides.{nat_tests}
use Rattle.std.proofs.lemmas.Option.{cond_some}
use Rattle.std.proofs.lemmas.Str.Parse.{IsNumeralModel, digits_value_short, numerals_by_value, tells_all_ascii_digits}
use Rattle.std.specs.Prelude.{option_map, unsigned_abs, nat_le, if◌then◌else◌}
use Rattle.std.specs.Str.{all_ascii_digits}
use Rattle.std.specs.Str.Parse.{digits_value, starts_with_minus}
use Rattle.tb_numbers.specs.declared.parse.NumberFault.{NumberFault}
use Rattle.tb_numbers.specs.Reading.{decimal_reading, digits_reading, in_range, in_size, is_number, signed_reading, unsigned_part, whole_reading, with_sign}

pub own : IsNumeralModel (λ ds. all_ascii_digits ds ≡ true) (digits_value 10)
own = numerals_by_value _ tells_all_ascii_digits

abs_negated : (n : ℕ) → unsigned_abs (neg_ℤ (pos n)) ≡ n
abs_negated zero = refl
abs_negated (suc n) = refl

abs_with_sign : (b : Bool) (n : ℕ) → unsigned_abs (with_sign b n) ≡ n
abs_with_sign true n = abs_negated n
abs_with_sign false n = refl

abbrev pub signed_result : Bool → Result ℕ NumberFault → Result ℤ NumberFault
signed_result b (Ok n) = Ok (with_sign b n)
signed_result b (Err fault) = Err fault

in_size-signed : (most : ℕ) (b : Bool) (read : Option ℕ) → in_size most (option_map (with_sign b) read) ≡ signed_result b (in_range 0 most read)
in_size-signed most b None = refl
in_size-signed most b (Some n) =
    let least : nat_le 0 n ≡ true = grind (arith, nat_tests) in elim (cases_Bool (nat_le n most)) [
      | inl within ↦ rw (abs_with_sign b n, least, within) refl
      | inr past ↦ rw (abs_with_sign b n, least, past) refl
    ]

pub signed_same : (places most : ℕ) (text rest : List ℕ) (b : Bool) (read : Result ℕ NumberFault) → b ≡ starts_with_minus text → rest ≡ unsigned_part text
    → read ≡ in_range 0 most (decimal_reading places rest) → signed_result b read ≡ in_size most (signed_reading places text)
unfolding signed_reading
signed_same places most text rest b read eb er h =
    rw eb (ap (signed_result (starts_with_minus text)) (rw er at h) ∙ sym (in_size-signed most (starts_with_minus text) (decimal_reading places (unsigned_part text))))

digits_of_number : (ds : List ℕ) → is_number ds ≡ true → all_ascii_digits ds ≡ true
digits_of_number [] h = refl
digits_of_number (c ∷ cs) h = h

pub whole_same : (text rest : List ℕ) (b : Bool) (n : ℕ) → b ≡ starts_with_minus text → rest ≡ unsigned_part text → length rest ≤ 38
    → Some n ≡ (if is_number rest then Some (min (digits_value 10 rest) (10 ^ 38)) else None) → Some (with_sign b n) ≡ whole_reading text
unfolding whole_reading
whole_same text rest b n eb er short h =
    let read = cond_some (is_number rest) _ _ (sym h) in
    let fits : nat_le (length rest) 38 ≡ true = grind (arith, nat_tests) in
    let small : digits_value 10 rest < 10 ^ 38 = digits_value_short own rest 38 (digits_of_number rest read.0) short in
    let exact : digits_value 10 rest ≡ n = omega (arith, read.1) in
    rw (eb, ← er, read.0, fits, exact) refl

pub too_long : (rest : List ℕ) → 38 < length rest → digits_reading rest ≡ None
too_long rest h = grind (arith, nat_tests)
