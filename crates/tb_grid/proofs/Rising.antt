-- Lists of rising lines, and the first line that doesn't rise.
use Rattle.std.proofs.Common.{◌≡◌, ℕ, ◌+◌, ◌-◌, ◌<◌, ◌≤◌, ⊎_elim, List, length, take, get_or, arith, subst}
use Rattle.std.specs.List.Sorted.{IsStrictlyIncreasing}
use Rattle.std.proofs.lemmas.Bool.{cases_order}
use Rattle.std.proofs.lemmas.List.{get_or-take, length-take-le}
use Rattle.tb_grid.specs.Axis.{IsFirstNotRising}

-- each of the first n lines is above the one before it
abbrev pub RisesBelow : List ℕ → ℕ → Type 0
RisesBelow lines n = (k : ℕ) → k + 1 < n → get_or lines k 0 < get_or lines (k + 1) 0

first_rise : (lines : List ℕ) (n k : ℕ) → n ≤ length lines → IsStrictlyIncreasing (take n lines) → k + 1 < n →
    get_or lines k 0 < get_or lines (k + 1) 0
first_rise lines n k within rising below =
    let len : length (take n lines) ≡ n = length-take-le n lines within in
    let here : get_or (take n lines) k 0 ≡ get_or lines k 0 = get_or-take n lines k 0 (omega arith) in
    let next : get_or (take n lines) (k + 1) 0 ≡ get_or lines (k + 1) 0 = get_or-take n lines (k + 1) 0 below in
    let up : get_or (take n lines) k 0 < get_or (take n lines) (k + 1) 0 = rising k (omega arith) in
    omega arith

not_later : (lines : List ℕ) (m n : ℕ) → IsFirstNotRising lines m → IsFirstNotRising lines n → m < n → ⊥
not_later lines m n early late before =
    let some : 0 < m = early.second_or_later in
    let within : n < length lines = late.within in
    let last : m - 1 + 1 ≡ m = omega arith in
    let up : get_or lines (m - 1) 0 < get_or lines (m - 1 + 1) 0 =
    first_rise lines n (m - 1) (omega arith) late.first (omega arith) in
    let here : get_or lines (m - 1) 0 < get_or lines m 0 = subst (λ (k : ℕ). get_or lines (m - 1) 0 < get_or lines k 0) last up in
    let not_above : get_or lines m 0 ≤ get_or lines (m - 1) 0 = early.not_above in
    omega arith

-- only one line is the first
pub first_is_one : (lines : List ℕ) (m n : ℕ) → IsFirstNotRising lines m → IsFirstNotRising lines n → m ≡ n
first_is_one lines m n one other =
    ⊎_elim (λ same. same)
    (λ apart. ⊎_elim (λ before. absurd (not_later lines m n one other before))
    (λ after. absurd (not_later lines n m other one after)) apart)
    (cases_order m n)
