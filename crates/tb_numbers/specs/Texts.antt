-- The texts of numbers.
use Rattle.std.specs.Prelude.{◌≡◌, ◌⊎◌, ◌==◌, ℕ, zero, suc, ◌-◌, ◌/◌, ◌%◌, ◌^◌, List, [], ◌∷◌, ◌++◌, length, replicate, take, if◌then◌else◌, decimal, ℤ, unsigned_abs}
use Rattle.std.specs.Int.{IsInRange, is_negative}
use Rattle.std.specs.List.{suffix_len}

-- a minus where the number is below 0
abbrev pub sign : ℤ → List ℕ
sign z = if is_negative z then 45 ∷ [] else []

-- n in this many digits, with zeros in front
abbrev pub padded : ℕ → ℕ → List ℕ
padded places n = replicate (places - length (decimal n)) 48 ++ decimal n

-- a point and this many digits, or nothing where there are to be none
abbrev pub fraction_text : ℕ → ℕ → List ℕ
fraction_text zero n = []
fraction_text (suc places) n = 46 ∷ padded (suc places) n

-- a number of units of the last place, with exactly so many places
unfoldable pub fixed_text : ℕ → ℤ → List ℕ
fixed_text places z = sign z ++ decimal (unsigned_abs z / 10 ^ places) ++ fraction_text places (unsigned_abs z % 10 ^ places)

-- ---- without trailing zeros

-- the digits before the zeros at their end
abbrev pub without_trailing_zeros : List ℕ → List ℕ
without_trailing_zeros digits = take (length digits - suffix_len (λ digit. digit == 48) digits) digits

-- a point and the digits of a fraction up to its last that isn't 0, or nothing where the fraction is 0
abbrev pub short_fraction_text : ℕ → ℕ → List ℕ
short_fraction_text places zero = []
short_fraction_text places (suc n) = 46 ∷ without_trailing_zeros (padded places (suc n))

-- a number of units of the last place, with as few places as write it
unfoldable pub decimal_text : ℕ → ℕ → List ℕ
decimal_text places n = decimal (n / 10 ^ places) ++ short_fraction_text places (n % 10 ^ places)

-- the same of a signed number
unfoldable pub signed_decimal_text : ℕ → ℤ → List ℕ
signed_decimal_text places z = sign z ++ decimal_text places (unsigned_abs z)

-- a digit or a point
abbrev pub IsDecimalByte : ℕ → Type 0
IsDecimalByte byte = IsInRange 48 57 byte ⊎ (byte ≡ 46)

-- a digit, a point or a minus
abbrev pub IsSignedDecimalByte : ℕ → Type 0
IsSignedDecimalByte byte = IsDecimalByte byte ⊎ (byte ≡ 45)
