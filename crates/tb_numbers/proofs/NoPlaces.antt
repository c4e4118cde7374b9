-- A decimal without places is digits alone, since a point wants a digit behind it.
use Rattle.std.proofs.Common.{◌≡◌, refl, ap, inl, inr, ◌*◌, ◌+◌, ◌^◌, ℕ, List, [], ◌∷◌, length, min, take, drop, arith, Bool, true, false, Option, Some, None}
use Rattle.std.proofs.lemmas.Bool.{cases_Bool}
use Rattle.std.proofs.lemmas.Bool.Decides.{nat_tests}
use Rattle.std.proofs.lemmas.List.Quantifiers.{position-Some}
use Rattle.std.proofs.lemmas.Str.Parse.{digit_at}
use Rattle.std.specs.Prelude.{◌==◌, nat_le, option_map, position, if◌then◌else◌}
use Rattle.std.specs.Str.{all_ascii_digits}
use Rattle.std.specs.Str.Parse.{digits_value}
use Rattle.tb_numbers.proofs.Signs.{own}
use Rattle.tb_numbers.specs.Reading.{decimal_reading, decimal_with_point, decimal_of_parts, is_number}

abbrev capped : Option ℕ → Option ℕ
capped read = option_map (λ n. min n (10 ^ 16)) read

abbrev digits_alone : List ℕ → Option ℕ
digits_alone text = if is_number text then Some (min (digits_value 10 text) (10 ^ 16)) else None

by_number : (b : Bool) (v : ℕ) → capped (if b then Some (v * 1) else None) ≡ (if b then Some (min v (10 ^ 16)) else None)
by_number true v = ap (λ n. Some (min n (10 ^ 16))) (omega arith)
by_number false v = refl

no_fraction : (whole fraction : List ℕ) → decimal_of_parts 0 whole fraction ≡ None
no_fraction whole [] = elim (cases_Bool (is_number whole)) [
  | inl number ↦ rw number refl
  | inr none ↦ rw none refl
]
no_fraction whole (c ∷ cs) =
    let past : nat_le (length (c ∷ cs)) 0 ≡ false = grind (arith, nat_tests) in
    rw past (elim (cases_Bool (is_number whole)) [
      | inl number ↦ elim (cases_Bool (all_ascii_digits (c ∷ cs))) [
        | inl digits ↦ rw (number, digits) refl
        | inr none ↦ rw (number, none) refl
      ]
      | inr none ↦ rw none refl
    ])

no_number : (text : List ℕ) (i : ℕ) → position (λ b. b == 46) text ≡ Some i → is_number text ≡ false
no_number [] i found = refl
no_number (c ∷ cs) i found = elim (cases_Bool (all_ascii_digits (c ∷ cs))) [
  | inl digits ↦
      let at = position-Some (λ b. b == 46) (c ∷ cs) i 0 found in
      let digit = digit_at (c ∷ cs) i (own.to (c ∷ cs) digits) at.0 in
      absurd (grind (arith, nat_tests, digit, at.1))
  | inr none ↦ none
]

by_point : (text : List ℕ) (point : Option ℕ) → position (λ b. b == 46) text ≡ point → capped (decimal_with_point 0 text point) ≡ digits_alone text
by_point text None none = by_number (is_number text) (digits_value 10 text)
by_point text (Some i) found = rw (no_fraction (take i text) (drop (i + 1) text), no_number text i found) refl

pub no_places : (text : List ℕ) → capped (decimal_reading 0 text) ≡ digits_alone text
unfolding decimal_reading
no_places text = by_point text (position (λ b. b == 46) text) refl
