-- Members of lists, and lists of rising lines.
use Rattle.std.proofs.Common.{◌≡◌, ℕ, zero, suc, ◌+◌, ◌<◌, ◌≤◌, ◌⊎◌, inl, inr, ⊎_elim, List, [], ◌∷◌, length, get_or, subst, ◌∙◌, arith}
use Rattle.std.specs.List.{Contains}
use Rattle.std.specs.List.Sorted.{IsStrictlyIncreasing}
use Rattle.std.proofs.lemmas.Bool.{cases_lt}
use Rattle.std.proofs.lemmas.List.{get_or_default}
use Rattle.std.proofs.lemmas.List.Kept.{AllPairs-from_increasing}
use Rattle.tb_grid.specs.Axis.{IsLineAt}

pub member_cases : (x : ℕ) (xs : List ℕ) (n : ℕ) → Contains (x ∷ xs) n → (x ≡ n) ⊎ Contains xs n
member_cases x xs n (zero, below, is) = inl is
member_cases x xs n (suc k, below, is) = inr (k, omega arith, is)

pub first_member : (x : ℕ) (xs : List ℕ) (n : ℕ) → x ≡ n → Contains (x ∷ xs) n
first_member x xs n is = (0, omega arith, is)

pub later_member : (x : ℕ) (xs : List ℕ) (n : ℕ) → Contains xs n → Contains (x ∷ xs) n
later_member x xs n (k, below, is) = (suc k, omega arith, is)

pub no_member : (n : ℕ) → Contains [] n → ⊥
no_member n (k, below, is) = omega arith

pub tail_rises : (x : ℕ) (xs : List ℕ) → IsStrictlyIncreasing (x ∷ xs) → IsStrictlyIncreasing xs
tail_rises x xs rising k below =
    let place : suc k + 1 ≡ suc (k + 1) = omega arith in
    subst (λ (m : ℕ). get_or xs k 0 < get_or (x ∷ xs) m 0) place (rising (suc k) (omega arith))

-- a later line is above the first
pub later_is_above : (x : ℕ) (xs : List ℕ) (n : ℕ) → IsStrictlyIncreasing (x ∷ xs) → Contains xs n → x < n
later_is_above x xs n rising (k, below, is) =
    let value : get_or xs k 0 ≡ n = get_or_default xs k 0 n below ∙ is in
    subst (λ (m : ℕ). x < m) value (AllPairs-from_increasing (x ∷ xs) rising 0 (suc k) 0 (omega arith) (omega arith))

pub first_is_least : (x : ℕ) (xs : List ℕ) (n : ℕ) → IsStrictlyIncreasing (x ∷ xs) → Contains (x ∷ xs) n → x ≤ n
first_is_least x xs n rising there =
    ⊎_elim (λ (here : x ≡ n). omega arith)
    (λ (later : Contains xs n). let above : x < n = later_is_above x xs n rising later in omega arith)
    (member_cases x xs n there)

-- a later line is above an earlier one
pub rises : (lines : List ℕ) → IsStrictlyIncreasing lines → (i j : ℕ) → i < j → j < length lines → get_or lines i 0 < get_or lines j 0
rises lines rising i j before within = AllPairs-from_increasing lines rising i j 0 before within

pub never_falls : (lines : List ℕ) → IsStrictlyIncreasing lines → (i j : ℕ) → i ≤ j → j < length lines → get_or lines i 0 ≤ get_or lines j 0
never_falls lines rising i j before within =
    ⊎_elim (λ (early : i < j). let up : get_or lines i 0 < get_or lines j 0 = rises lines rising i j early within in omega arith)
    (λ (late : j ≤ i). let same : i ≡ j = omega arith in subst (λ (m : ℕ). get_or lines i 0 ≤ get_or lines m 0) same (omega arith))
    (cases_lt i j)

-- lines in order have their indexes in order
pub before_from : (lines : List ℕ) → IsStrictlyIncreasing lines → (i j : ℕ) → i < length lines → get_or lines i 0 < get_or lines j 0 → i < j
before_from lines rising i j within below =
    ⊎_elim (λ (early : i < j). early)
    (λ (late : j ≤ i). let up : get_or lines j 0 ≤ get_or lines i 0 = never_falls lines rising j i late within in absurd (omega arith))
    (cases_lt i j)

pub at_most_from : (lines : List ℕ) → IsStrictlyIncreasing lines → (i j : ℕ) → i < length lines → get_or lines i 0 ≤ get_or lines j 0 → i ≤ j
at_most_from lines rising i j within below =
    ⊎_elim (λ (early : j < i). let up : get_or lines j 0 < get_or lines i 0 = rises lines rising j i early within in absurd (omega arith))
    (λ (late : i ≤ j). late)
    (cases_lt j i)

-- where a coordinate has a line
pub line_of_member : (lines : List ℕ) (x : ℕ) → Contains lines x → (i : ℕ) × IsLineAt lines x i
line_of_member lines x (i, within, is) = (i, record { within = within; stands = get_or_default lines i 0 x within ∙ is })
