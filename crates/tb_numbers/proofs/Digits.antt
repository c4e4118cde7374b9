-- A number that is capped as its digits are read.
use Rattle.std.proofs.Common.{◌≡◌, ◌∙◌, refl, inl, inr, ◌+◌, ◌-◌, ◌*◌, ◌<◌, ◌≤◌, ℕ, List, [], ◌∷◌, length, min, arith, add-one, get_or, drop, suc, Bool, true, drop-cons}
use Rattle.std.proofs.lemmas.Bool.{cases_lt}
use Rattle.std.proofs.lemmas.Bool.Decides.{nat_tests}
use Rattle.std.specs.Char.{digit_value, is_ascii_digit}
use Rattle.std.specs.Str.{all_ascii_digits}
use Rattle.std.specs.Str.Parse.{digits_value_after}

pub digit_of : (c : ℕ) → is_ascii_digit c ≡ true → digit_value c ≡ c - 48
digit_of c h = grind (arith, nat_tests)

value_grows : (n : ℕ) (ds : List ℕ) → n ≤ digits_value_after 10 n ds
value_grows n [] = omega arith
value_grows n (c ∷ cs) = omega (arith, value_grows (n * 10 + digit_value c) cs)

-- a cap on the way changes nothing at the end
capped_same : (top n : ℕ) (ds : List ℕ) → min (digits_value_after 10 (min n top) ds) top ≡ min (digits_value_after 10 n ds) top
capped_same top n ds = elim (cases_lt top n) [
  | inl above ↦ let cap : min n top ≡ top = omega arith in rw cap (omega (arith, value_grows n ds, value_grows top ds))
  | inr below ↦ let cap : min n top ≡ n = omega arith in rw cap refl
]

pub digits_step : (text : List ℕ) (i : ℕ) (a : Bool) → i < length text → is_ascii_digit (get_or text i 0) ≡ true → all_ascii_digits (drop i text) ≡ a → all_ascii_digits (drop (i + 1) text) ≡ a
digits_step text i a lt d h = rw add-one (rw (drop-cons text i 0 lt, d) at h)

pub number_step : (text : List ℕ) (i number next top v : ℕ) → i < length text → is_ascii_digit (get_or text i 0) ≡ true
    → next ≡ min (number * 10 + (get_or text i 0 - 48)) top
    → min (digits_value_after 10 number (drop i text)) top ≡ v → min (digits_value_after 10 next (drop (i + 1) text)) top ≡ v
number_step text i number next top v lt digit e h =
    let d = digit_of (get_or text i 0) digit in
    rw (e, add-one, ← d) (capped_same top (number * 10 + digit_value (get_or text i 0)) (drop (suc i) text) ∙ rw (drop-cons text i 0 lt) at h)
