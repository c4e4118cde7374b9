-- What `fixed` writes of a whole number reads as the number again.
use Rattle.std.proofs.Common.{◌≡◌, ◌^◌, ◌<◌, ◌≤◌, ℕ, suc, List, [], ◌∷◌, length, Bool, true, false, Some, refl, arith, ℤ, pos, negsuc, neg_ℤ}
use Rattle.std.proofs.lemmas.Bool.Decides.{nat_tests}
use Rattle.std.proofs.lemmas.Fmt.{decimal_is_IsNumeral_wide, length-decimal-le_wide}
use Rattle.std.proofs.lemmas.Int.{ints}
use Rattle.std.proofs.lemmas.List.{append-nil}
use Rattle.std.proofs.Math.Nat.{div-one}
use Rattle.std.specs.Char.{is_ascii_digit}
use Rattle.std.specs.Int.{is_negative}
use Rattle.std.specs.Prelude.{◌&&◌, ◌==◌, decimal, nat_le, unsigned_abs}
use Rattle.std.specs.Str.{all_ascii_digits}
use Rattle.std.specs.Str.Parse.{digits_value, starts_with_minus}
use Rattle.tb_numbers.proofs.Signs.{own}
use Rattle.tb_numbers.specs.Reading.{digits_reading, is_number, whole_reading}
use Rattle.tb_numbers.specs.Texts.{fixed_text}

-- digits that write m
record Writes (ds : List ℕ) (m : ℕ) : Type 0 where
  number : is_number ds ≡ true
  short : length ds ≤ 38
  worth : digits_value 10 ds ≡ m

reading_of : (ds : List ℕ) (m : ℕ) → Writes ds m → digits_reading ds ≡ Some m
reading_of ds m w = let fits : nat_le (length ds) 38 ≡ true = grind (arith, nat_tests, w.short) in rw (w.number, fits, w.worth) refl

first : (a b : Bool) → (a && b) ≡ true → a ≡ true
first true b h = refl
first false b h = cc h

no_minus : (c : ℕ) → is_ascii_digit c ≡ true → (c == 45) ≡ false
no_minus c h = grind (arith, nat_tests)

pub unsigned_start : (ds : List ℕ) → is_number ds ≡ true → starts_with_minus ds ≡ false
unsigned_start [] h = refl
unsigned_start (c ∷ cs) h = no_minus c (first (is_ascii_digit c) (all_ascii_digits cs) h)

unsigned_reading : (ds : List ℕ) (m : ℕ) → Writes ds m → whole_reading ds ≡ Some (pos m)
unfolding whole_reading
unsigned_reading ds m w = rw (unsigned_start ds w.number, reading_of ds m w) refl

minus_reading : (ds : List ℕ) (m : ℕ) → Writes ds m → whole_reading (45 ∷ ds) ≡ Some (neg_ℤ (pos m))
unfolding whole_reading
minus_reading ds m w = rw (reading_of ds m w) refl

pub number_of : (ds : List ℕ) → 0 < length ds → all_ascii_digits ds ≡ true → is_number ds ≡ true
number_of [] some h = absurd (omega arith)
number_of (c ∷ cs) some h = h

decimal_writes : (m : ℕ) → m < 10 ^ 38 → Writes (decimal m) m
decimal_writes m h =
    let numeral = decimal_is_IsNumeral_wide m (omega arith) in
    record {
      number = number_of (decimal m) numeral.0.0 (own.from (decimal m) numeral.0.1);
      short = length-decimal-le_wide 38 m (omega arith) h (omega arith);
      worth = numeral.1;
    }

pub reads_back : (z : ℤ) → unsigned_abs z < 10 ^ 38 → whole_reading (fixed_text 0 z) ≡ Some z
unfolding fixed_text
reads_back (pos n) h =
    let plain : is_negative (pos n) ≡ false = grind (arith, ints) in
    rw (plain, div-one n, append-nil (decimal n)) (unsigned_reading (decimal n) n (decimal_writes n h))
reads_back (negsuc n) h =
    rw (div-one (suc n), append-nil (45 ∷ decimal (suc n))) (minus_reading (decimal (suc n)) (suc n) (decimal_writes (suc n) h))
