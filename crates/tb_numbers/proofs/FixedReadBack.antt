-- What `fixed` writes reads as the number again, in the same places.
use Rattle.std.proofs.Common.{◌≡◌, ◌∙◌, ◌+◌, ◌-◌, ◌*◌, ◌/◌, ◌%◌, ◌^◌, ◌<◌, ◌≤◌, ℕ, zero, suc, List, [], ◌∷◌, ◌++◌, length, Bool, true, false, Some, None, refl, ap, arith, ℤ, pos, negsuc, length-append}
use Rattle.std.proofs.lemmas.Bool.Decides.{nat_tests}
use Rattle.std.proofs.lemmas.Fmt.{decimal_is_IsNumeral_wide, length-decimal-le_wide}
use Rattle.std.proofs.lemmas.Int.{ints}
use Rattle.std.proofs.lemmas.List.{append-nil, length-replicate}
use Rattle.std.proofs.Math.Nat.{div-one}
use Rattle.std.proofs.Math.Seq.{drop-append-add, take-append_seam}
use Rattle.std.specs.Char.{is_ascii_digit}
use Rattle.std.specs.Int.{is_negative}
use Rattle.std.specs.List.{position_or_len}
use Rattle.std.specs.Prelude.{◌&&◌, ◌==◌, decimal, nat_le, nat_lt, position, replicate, unsigned_abs}
use Rattle.std.specs.Str.{all_ascii_digits}
use Rattle.std.specs.Str.Parse.{digits_value, starts_with_minus}
use Rattle.tb_numbers.proofs.Powers.{ten_positive}
use Rattle.tb_numbers.proofs.ReadBack.{number_of, unsigned_start}
use Rattle.tb_numbers.proofs.Signs.{own}
use Rattle.tb_numbers.specs.Reading.{decimal_reading, is_number, signed_reading}
use Rattle.tb_numbers.specs.Texts.{fixed_text, fraction_text, padded}

-- ---- the first point

pub both : (a b : Bool) → (a && b) ≡ true → (a ≡ true) × (b ≡ true)
both true b h = (refl, h)
both false b h = cc h

not_point : (x : ℕ) → is_ascii_digit x ≡ true → (x == 46) ≡ false
not_point x h = grind (arith, nat_tests)

abbrev is_point : ℕ → Bool
is_point b = b == 46

before_point : (xs ys : List ℕ) → all_ascii_digits xs ≡ true → position_or_len is_point (xs ++ 46 ∷ ys) ≡ length xs
before_point [] ys h = refl
before_point (x ∷ xs) ys h = let p = both (is_ascii_digit x) (all_ascii_digits xs) h in rw (not_point x p.0, before_point xs ys p.1) (omega arith)

no_point : (xs : List ℕ) → all_ascii_digits xs ≡ true → position_or_len is_point xs ≡ length xs
no_point [] h = refl
no_point (x ∷ xs) h = let p = both (is_ascii_digit x) (all_ascii_digits xs) h in rw (not_point x p.0, no_point xs p.1) (omega arith)

point_nowhere : (xs : List ℕ) → all_ascii_digits xs ≡ true → position is_point xs ≡ None
point_nowhere xs h =
    let no : nat_lt (length xs) (length xs) ≡ false = grind (arith, nat_tests) in
    rw (no_point xs h, no) refl

point_behind : (xs ys : List ℕ) → all_ascii_digits xs ≡ true → position is_point (xs ++ 46 ∷ ys) ≡ Some (length xs)
point_behind xs ys h =
    let yes : nat_lt (length xs) (length (xs ++ 46 ∷ ys)) ≡ true = grind (arith, nat_tests, length-append xs (46 ∷ ys)) in
    rw (before_point xs ys h, yes) refl

-- ---- zeros in front

zeros_digits : (k : ℕ) (ds : List ℕ) → all_ascii_digits (replicate k 48 ++ ds) ≡ all_ascii_digits ds
zeros_digits zero ds = refl
zeros_digits (suc k) ds = zeros_digits k ds

zeros_value : (k : ℕ) (ds : List ℕ) → digits_value 10 (replicate k 48 ++ ds) ≡ digits_value 10 ds
zeros_value zero ds = refl
zeros_value (suc k) ds = zeros_value k ds

-- digits that write m
pub record Writes (ds : List ℕ) (m : ℕ) : Type 0 where
  pub digits : all_ascii_digits ds ≡ true
  pub some : 0 < length ds
  pub worth : digits_value 10 ds ≡ m

pub decimal_writes : (m : ℕ) → m < 10 ^ 64 → Writes (decimal m) m
decimal_writes m h =
    let numeral = decimal_is_IsNumeral_wide m h in
    record { digits = own.from (decimal m) numeral.0.1; some = numeral.0.0; worth = numeral.1 }

pub padded_length : (k n : ℕ) → n < 10 ^ suc k → n < 10 ^ 64 → length (padded (suc k) n) ≡ suc k
padded_length k n h small =
    let short : length (decimal n) ≤ suc k = length-decimal-le_wide (suc k) n (omega arith) h small in
    omega (arith, length-append (replicate (suc k - length (decimal n)) 48) (decimal n), length-replicate {A = ℕ} (suc k - length (decimal n)) 48)

pub padded_writes : (k n : ℕ) → n < 10 ^ suc k → n < 10 ^ 64 → Writes (padded (suc k) n) n
padded_writes k n h small =
    let w = decimal_writes n small in
    record {
      digits = zeros_digits (suc k - length (decimal n)) (decimal n) ∙ w.digits;
      some = omega (arith, padded_length k n h small);
      worth = zeros_value (suc k - length (decimal n)) (decimal n) ∙ w.worth;
    }

-- ---- the parts

pub whole_reads : (places m : ℕ) (ds : List ℕ) → Writes ds m → decimal_reading places ds ≡ Some (m * 10 ^ places)
unfolding decimal_reading
whole_reads places m ds w = rw (point_nowhere ds w.digits, number_of ds w.some w.digits, w.worth) refl

-- a fraction of f in its own digits is f units of its last place
pub parts_read : (places m f : ℕ) (ds fs : List ℕ) → Writes ds m → Writes fs f → length fs ≤ places
    → decimal_reading places (ds ++ 46 ∷ fs) ≡ Some (m * 10 ^ places + f * 10 ^ (places - length fs))
unfolding decimal_reading
parts_read places m f ds fs w v h =
    let fits : nat_le (length fs) places ≡ true = grind (arith, nat_tests) in
    rw (point_behind ds fs w.digits, take-append_seam, drop-append-add, number_of ds w.some w.digits, number_of fs v.some v.digits, fits, w.worth, v.worth) refl

unsigned_reads : (places m : ℕ) → m < 10 ^ 64 → decimal_reading places (decimal (m / 10 ^ places) ++ fraction_text places (m % 10 ^ places)) ≡ Some m
unsigned_reads zero m h =
    let unit : m * 1 ≡ m = omega arith in
    rw (div-one m, append-nil (decimal m)) (whole_reads 0 m (decimal m) (decimal_writes m h) ∙ ap Some unit)
unsigned_reads (suc k) m h =
    let unit = ten_positive (suc k) in
    let whole : m / 10 ^ suc k < 10 ^ 64 = omega arith in
    let rest : m % 10 ^ suc k < 10 ^ suc k = omega arith in
    let small : m % 10 ^ suc k < 10 ^ 64 = omega arith in
    let long = padded_length k (m % 10 ^ suc k) rest small in
    let none : suc k - length (padded (suc k) (m % 10 ^ suc k)) ≡ 0 = omega arith in
    let sum : m / 10 ^ suc k * 10 ^ suc k + m % 10 ^ suc k * 1 ≡ m = omega arith in
    parts_read (suc k) _ _ _ _ (decimal_writes _ whole) (padded_writes k _ rest small) (omega arith) ∙ rw none (ap Some sum)

-- ---- the sign

pub starts_plain : (ds rest : List ℕ) → is_number ds ≡ true → starts_with_minus (ds ++ rest) ≡ false
starts_plain [] rest h = cc h
starts_plain (c ∷ cs) rest h = unsigned_start (c ∷ cs) h

pub fixed_reads : (places : ℕ) (z : ℤ) → unsigned_abs z < 10 ^ 64 → signed_reading places (fixed_text places z) ≡ Some z
unfolding signed_reading fixed_text
fixed_reads places (pos n) h =
    let plain : is_negative (pos n) ≡ false = grind (arith, ints) in
    let unit = ten_positive places in
    let whole : n / 10 ^ places < 10 ^ 64 = omega arith in
    let w = decimal_writes (n / 10 ^ places) whole in
    rw (plain, starts_plain (decimal (n / 10 ^ places)) (fraction_text places (n % 10 ^ places)) (number_of _ w.some w.digits), unsigned_reads places n h) refl
fixed_reads places (negsuc n) h = rw (unsigned_reads places (suc n) h) refl
