-- What texts read as numbers.
use Rattle.std.specs.Prelude.{ℕ, ◌+◌, ◌-◌, ◌*◌, ◌^◌, ◌==◌, ◌&&◌, Bool, true, false, List, [], ◌∷◌, length, take, drop, Option, Some, None, option_map, Result, Ok, Err, nat_le, position, if◌then◌else◌, ℤ, pos, neg_ℤ, unsigned_abs}
use Rattle.std.specs.Str.{all_ascii_digits}
use Rattle.std.specs.Str.Parse.{digits_value, starts_with_minus}
use Rattle.tb_numbers.specs.declared.parse.NumberFault.{NumberFault}
use Rattle.tb_numbers.specs.declared.parse.NumberFault.TheVariants.{BadNumber, OutOfRange}

-- one digit or more, and nothing else
abbrev pub is_number : List ℕ → Bool
is_number [] = false
is_number (c ∷ cs) = all_ascii_digits (c ∷ cs)

-- ---- decimals, in units of the last place

-- a whole number
abbrev pub whole_decimal : ℕ → List ℕ → Option ℕ
whole_decimal places whole = if is_number whole then Some (digits_value 10 whole * 10 ^ places) else None

-- a whole part and a fraction of 1 to `places` digits
abbrev pub decimal_of_parts : ℕ → List ℕ → List ℕ → Option ℕ
decimal_of_parts places whole fraction =
    if is_number whole && (is_number fraction && nat_le (length fraction) places)
    then Some (digits_value 10 whole * 10 ^ places + digits_value 10 fraction * 10 ^ (places - length fraction))
    else None

-- the number that a text writes whose first point is here
abbrev pub decimal_with_point : ℕ → List ℕ → Option ℕ → Option ℕ
decimal_with_point places text None = whole_decimal places text
decimal_with_point places text (Some point) = decimal_of_parts places (take point text) (drop (point + 1) text)

-- the number that a text writes: digits, and maybe a point and 1 to `places` digits
unfoldable pub decimal_reading : ℕ → List ℕ → Option ℕ
decimal_reading places text = decimal_with_point places text (position (λ b. b == 46) text)

-- ---- signs

-- the text behind a minus, or the whole text where none stands first
abbrev pub unsigned_part : List ℕ → List ℕ
unsigned_part text = if starts_with_minus text then drop 1 text else text

-- n, or its negative behind a minus
abbrev pub with_sign : Bool → ℕ → ℤ
with_sign true n = neg_ℤ (pos n)
with_sign false n = pos n

-- the number that a text writes with a minus before it or without one
abbrev pub signed : (List ℕ → Option ℕ) → List ℕ → Option ℤ
signed reading text = option_map (with_sign (starts_with_minus text)) (reading (unsigned_part text))

-- a decimal, and maybe a minus before it
unfoldable pub signed_reading : ℕ → List ℕ → Option ℤ
signed_reading places text = signed (decimal_reading places) text

-- 1 to 38 digits
abbrev pub digits_reading : List ℕ → Option ℕ
digits_reading text = if is_number text && nat_le (length text) 38 then Some (digits_value 10 text) else None

-- 1 to 38 digits, and maybe a minus before them
unfoldable pub whole_reading : List ℕ → Option ℤ
whole_reading text = signed digits_reading text

-- ---- limits

-- a number that was read, where it is in these limits
abbrev pub in_range : ℕ → ℕ → Option ℕ → Result ℕ NumberFault
in_range least most None = Err BadNumber
in_range least most (Some n) = if nat_le least n && nat_le n most then Ok n else Err OutOfRange

-- the same of a signed number, where its absolute value is in the limit
abbrev pub in_size : ℕ → Option ℤ → Result ℤ NumberFault
in_size most None = Err BadNumber
in_size most (Some z) = if nat_le (unsigned_abs z) most then Ok z else Err OutOfRange
