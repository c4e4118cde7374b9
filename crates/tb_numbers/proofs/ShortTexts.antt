-- Texts of numbers without trailing zeros.
use Rattle.std.proofs.Common.{◌≡◌, ◌∙◌, ◌+◌, ◌-◌, ◌*◌, ◌/◌, ◌%◌, ◌^◌, ◌<◌, ◌≤◌, ℕ, zero, suc, List, [], ◌∷◌, ◌++◌, length, length-take-le, get_or, take, Bool, true, false, inl, inr, Some, Ok, refl, ap, sym, arith, ℤ, pos, negsuc, length-append}
use Rattle.std.proofs.lemmas.Bool.Decides.{nat_tests}
use Rattle.std.proofs.lemmas.Int.Digits.{digits_value_more}
use Rattle.std.proofs.lemmas.Int.{ints}
use Rattle.std.proofs.lemmas.List.{append-nil, get_or-reverse, take_all}
use Rattle.std.proofs.lemmas.List.Elements.{All-append, All-cons, All-from_get_or, All-nil, All-weaker}
use Rattle.std.proofs.lemmas.List.Sums.{prefix_len_passes, suffix_len-le-length}
use Rattle.std.proofs.lemmas.Str.Parse.{digit_at}
use Rattle.std.proofs.Math.Nat.{pow-succ'}
use Rattle.std.specs.Char.{is_ascii_digit}
use Rattle.std.specs.Int.{is_negative}
use Rattle.std.specs.List.{All, suffix_len}
use Rattle.std.specs.Prelude.{◌==◌, decimal, nat_le, reverse, unsigned_abs}
use Rattle.std.specs.Str.{all_ascii_digits}
use Rattle.std.specs.Str.Parse.{digits_value, starts_with_minus}
use Rattle.tb_numbers.proofs.FixedReadBack.{Writes, both, decimal_writes, padded_length, padded_writes, parts_read, starts_plain, whole_reads}
use Rattle.tb_numbers.proofs.Powers.{ten_positive}
use Rattle.tb_numbers.proofs.ReadBack.{number_of}
use Rattle.tb_numbers.proofs.Signs.{own}
use Rattle.tb_numbers.specs.Reading.{decimal_reading, in_range, in_size, signed_reading}
use Rattle.tb_numbers.specs.Texts.{IsDecimalByte, IsSignedDecimalByte, decimal_text, padded, short_fraction_text, sign, signed_decimal_text, without_trailing_zeros}

-- ---- lengths

pub fraction_length : (places n : ℕ) → 0 < n → n < 10 ^ places → n < 2 ^ 64 → length (padded places n) ≡ places
fraction_length zero n some h small = absurd (omega arith)
fraction_length (suc k) n some h small = padded_length k n h (omega arith)

-- ---- zeros at the end

abbrev is_zero : ℕ → Bool
is_zero digit = digit == 48

zero_byte : (x : ℕ) → is_zero x ≡ true → x ≡ 48
zero_byte x h = grind (arith, nat_tests)

zero_at : (ds : List ℕ) (k : ℕ) → length ds - suffix_len is_zero ds ≤ k → k < length ds → get_or ds k 0 ≡ 48
zero_at ds k from below =
    let short : suffix_len is_zero ds ≤ length ds = suffix_len-le-length is_zero ds in
    let inside : length ds - 1 - k < length ds = omega arith in
    let place : length ds - 1 - (length ds - 1 - k) ≡ k = omega arith in
    let mirrored : get_or (reverse ds) (length ds - 1 - k) 0 ≡ get_or ds k 0 = get_or-reverse ds (length ds - 1 - k) 0 inside ∙ ap (λ i. get_or ds i 0) place in
    let passes = prefix_len_passes is_zero (reverse ds) (length ds - 1 - k) 0 (omega arith) in
    zero_byte (get_or ds k 0) (rw mirrored at passes)

-- zeros at the end multiply by ten
zeros_value : (ds : List ℕ) (d n : ℕ) → n + d ≡ length ds → ((k : ℕ) → n ≤ k → k < length ds → get_or ds k 0 ≡ 48)
    → digits_value 10 ds ≡ digits_value 10 (take n ds) * 10 ^ d
zeros_value ds zero n e zeros = rw (take_all n ds (omega arith)) (omega arith)
zeros_value ds (suc d) n e zeros =
    let more = zeros_value ds d (n + 1) (omega arith) (λ k from below. zeros k (omega arith) below) in
    let here = digits_value_more 10 ds n (omega arith) in
    let last = rw (zeros n (omega arith) (omega arith)) at here in
    more ∙ rw (last, pow-succ' 10 d) (omega arith)

digits_front : (n : ℕ) (ds : List ℕ) → all_ascii_digits ds ≡ true → all_ascii_digits (take n ds) ≡ true
digits_front zero ds h = refl
digits_front (suc n) [] h = refl
digits_front (suc n) (c ∷ cs) h =
    let p = both (is_ascii_digit c) (all_ascii_digits cs) h in rw (p.0, digits_front n cs p.1) refl

-- the digits of a fraction in this many places without the zeros at their end
record IsShortened (places : ℕ) (ds fs : List ℕ) : Type 0 where
  digits : all_ascii_digits fs ≡ true
  no_longer : length fs ≤ places
  worth : digits_value 10 fs * 10 ^ (places - length fs) ≡ digits_value 10 ds

shortened : (places : ℕ) (ds : List ℕ) → length ds ≡ places → all_ascii_digits ds ≡ true → IsShortened places ds (without_trailing_zeros ds)
shortened places ds e h =
    let zeros = suffix_len is_zero ds in
    let few : zeros ≤ length ds = suffix_len-le-length is_zero ds in
    let kept : length (take (length ds - zeros) ds) ≡ length ds - zeros = length-take-le (length ds - zeros) ds (omega arith) in
    let left : places - (length ds - zeros) ≡ zeros = omega arith in
    record {
      digits = digits_front (length ds - zeros) ds h;
      no_longer = omega arith;
      worth = rw (kept, left) (sym (zeros_value ds zeros (length ds - zeros) (omega arith) (zero_at ds)));
    }

-- a number that isn't 0 has a digit
some_digit : (fs : List ℕ) (k n : ℕ) → digits_value 10 fs * 10 ^ k ≡ suc n → 0 < length fs
some_digit [] k n h = absurd (omega arith)
some_digit (c ∷ cs) k n h = omega arith

-- ---- reading

fraction_reads : (places m n : ℕ) → m < 10 ^ 64 → n < 10 ^ places → n < 2 ^ 64
    → decimal_reading places (decimal m ++ short_fraction_text places n) ≡ Some (m * 10 ^ places + n)
fraction_reads places m zero big h small = rw (append-nil (decimal m)) (whole_reads places m (decimal m) (decimal_writes m big) ∙ ap Some (omega arith))
fraction_reads zero m (suc n) big h small = absurd (omega arith)
fraction_reads (suc k) m (suc n) big h small =
    let whole = padded_writes k (suc n) h (omega arith) in
    let long = fraction_length (suc k) (suc n) (omega arith) h small in
    let fs = without_trailing_zeros (padded (suc k) (suc n)) in
    let short = shortened (suc k) (padded (suc k) (suc n)) long whole.digits in
    let worth : digits_value 10 fs * 10 ^ (suc k - length fs) ≡ suc n = short.worth ∙ whole.worth in
    let fraction : Writes fs (digits_value 10 fs) = record { digits = short.digits; some = some_digit fs (suc k - length fs) n worth; worth = refl } in
    parts_read (suc k) m (digits_value 10 fs) (decimal m) fs (decimal_writes m big) fraction short.no_longer ∙ rw worth refl

pub decimal_reads : (places n : ℕ) → n < 2 ^ 64 → decimal_reading places (decimal_text places n) ≡ Some n
unfolding decimal_text
decimal_reads places n h =
    let unit = ten_positive places in
    let whole : n / 10 ^ places < 10 ^ 64 = omega arith in
    let rest : n % 10 ^ places < 10 ^ places = omega arith in
    let small : n % 10 ^ places < 2 ^ 64 = omega arith in
    let sum : n / 10 ^ places * 10 ^ places + n % 10 ^ places ≡ n = omega arith in
    fraction_reads places (n / 10 ^ places) (n % 10 ^ places) whole rest small ∙ ap Some sum

within : (least most n : ℕ) → least ≤ n → n ≤ most → in_range least most (Some n) ≡ Ok n
within least most n low high = grind (arith, nat_tests)

pub decimal_reads_within : (places least most n : ℕ) → n < 2 ^ 64 → least ≤ n → n ≤ most → in_range least most (decimal_reading places (decimal_text places n)) ≡ Ok n
decimal_reads_within places least most n h low high = rw (decimal_reads places n h) (within least most n low high)

-- ---- the sign

no_minus : (places n : ℕ) → n < 2 ^ 64 → starts_with_minus (decimal_text places n) ≡ false
unfolding decimal_text
no_minus places n h =
    let unit = ten_positive places in
    let whole : n / 10 ^ places < 10 ^ 64 = omega arith in
    let w = decimal_writes (n / 10 ^ places) whole in
    starts_plain (decimal (n / 10 ^ places)) _ (number_of _ w.some w.digits)

pub signed_reads : (places : ℕ) (z : ℤ) → unsigned_abs z < 2 ^ 64 → signed_reading places (signed_decimal_text places z) ≡ Some z
unfolding signed_reading signed_decimal_text
signed_reads places (pos n) h =
    let plain : is_negative (pos n) ≡ false = grind (arith, ints) in
    rw (plain, no_minus places n h, decimal_reads places n h) refl
signed_reads places (negsuc n) h = rw (decimal_reads places (suc n) h) refl

pub signed_reads_within : (places most : ℕ) (z : ℤ) → unsigned_abs z < 2 ^ 64 → unsigned_abs z ≤ most → in_size most (signed_reading places (signed_decimal_text places z)) ≡ Ok z
signed_reads_within places most z h high =
    let fits : nat_le (unsigned_abs z) most ≡ true = grind (arith, nat_tests) in
    rw (signed_reads places z h, fits) refl

-- ---- the bytes

digits_plain : (ds : List ℕ) → all_ascii_digits ds ≡ true → All IsDecimalByte ds
digits_plain ds h = All-from_get_or IsDecimalByte ds 0 (λ i below. inl (digit_at ds i (own.to ds h) below))

fraction_plain : (places n : ℕ) → n < 10 ^ places → n < 2 ^ 64 → All IsDecimalByte (short_fraction_text places n)
fraction_plain places zero h small = All-nil IsDecimalByte
fraction_plain zero (suc n) h small = absurd (omega arith)
fraction_plain (suc k) (suc n) h small =
    let whole = padded_writes k (suc n) h (omega arith) in
    let ds = padded (suc k) (suc n) in
    All-cons IsDecimalByte 46 (without_trailing_zeros ds) (inr refl) (digits_plain (without_trailing_zeros ds) (digits_front (length ds - suffix_len is_zero ds) ds whole.digits))

pub decimal_plain : (places n : ℕ) → n < 2 ^ 64 → All IsDecimalByte (decimal_text places n)
unfolding decimal_text
decimal_plain places n h =
    let unit = ten_positive places in
    let whole : n / 10 ^ places < 10 ^ 64 = omega arith in
    let rest : n % 10 ^ places < 10 ^ places = omega arith in
    let small : n % 10 ^ places < 2 ^ 64 = omega arith in
    All-append IsDecimalByte (decimal (n / 10 ^ places)) (short_fraction_text places (n % 10 ^ places)) (digits_plain (decimal (n / 10 ^ places)) (decimal_writes (n / 10 ^ places) whole).digits) (fraction_plain places (n % 10 ^ places) rest small)

pub decimal_some : (places n : ℕ) → n < 2 ^ 64 → 0 < length (decimal_text places n)
unfolding decimal_text
decimal_some places n h =
    let unit = ten_positive places in
    let whole : n / 10 ^ places < 10 ^ 64 = omega arith in
    omega (arith, (decimal_writes (n / 10 ^ places) whole).some, length-append (decimal (n / 10 ^ places)) (short_fraction_text places (n % 10 ^ places)))

unsigned_plain : (ds : List ℕ) → All IsDecimalByte ds → All IsSignedDecimalByte ds
unsigned_plain ds h = All-weaker IsDecimalByte IsSignedDecimalByte (λ x plain. inl plain) ds h

pub signed_plain : (places : ℕ) (z : ℤ) → unsigned_abs z < 2 ^ 64 → All IsSignedDecimalByte (signed_decimal_text places z)
unfolding signed_decimal_text
signed_plain places (pos n) h =
    let plain : is_negative (pos n) ≡ false = grind (arith, ints) in
    rw plain (unsigned_plain (decimal_text places n) (decimal_plain places n h))
signed_plain places (negsuc n) h = All-cons IsSignedDecimalByte 45 (decimal_text places (suc n)) (inr refl) (unsigned_plain (decimal_text places (suc n)) (decimal_plain places (suc n) h))

pub signed_some : (places : ℕ) (z : ℤ) → unsigned_abs z < 2 ^ 64 → 0 < length (signed_decimal_text places z)
unfolding signed_decimal_text
signed_some places z h = omega (arith, decimal_some places (unsigned_abs z) h, length-append (sign z) (decimal_text places (unsigned_abs z)))
