-- Lines never split an interval: a range between two lines has all of its coordinates or none.
use Rattle.std.proofs.Common.{◌≡◌, ℕ, zero, suc, ◌+◌, ◌-◌, ◌<◌, ◌≤◌, ⊎_elim, List, length, get_or, subst, arith}
use Rattle.std.specs.List.{Contains}
use Rattle.std.specs.List.Sorted.{IsStrictlyIncreasing}
use Rattle.std.proofs.lemmas.Bool.{cases_lt}
use Rattle.tb_grid.specs.Axis.{IsIntervalOf}
use Rattle.tb_grid.proofs.RisingLists.{before_from, line_of_member, never_falls, rises}

-- a line at or below a coordinate of an interval is at or below the interval's low end
pub from_low_end : (lines : List ℕ) → IsStrictlyIncreasing lines → (x i lo : ℕ) → IsIntervalOf lines x i → Contains lines lo →
    lo ≤ x → lo ≤ get_or lines i 0
from_low_end lines rising x i lo interval there below =
    let (p, at) = line_of_member lines lo there in
    let within : p < length lines = at.within in
    let stands : get_or lines p 0 ≡ lo = at.stands in
    let above : x < get_or lines (i + 1) 0 = interval.holds.below in
    let order : p < i + 1 = before_from lines rising p (i + 1) within (omega arith) in
    let inside : i + 1 < length lines = interval.within in
    let up : get_or lines p 0 ≤ get_or lines i 0 = never_falls lines rising p i (omega arith) (omega arith) in
    omega arith

-- and a line above the interval's low end is above each of its coordinates
pub above_high_end : (lines : List ℕ) → IsStrictlyIncreasing lines → (x i hi : ℕ) → IsIntervalOf lines x i → Contains lines hi →
    get_or lines i 0 < hi → x < hi
above_high_end lines rising x i hi interval there above =
    let (q, at) = line_of_member lines hi there in
    let within : q < length lines = at.within in
    let stands : get_or lines q 0 ≡ hi = at.stands in
    let below : x < get_or lines (i + 1) 0 = interval.holds.below in
    let inside : i + 1 < length lines = interval.within in
    let order : i < q = before_from lines rising i q (omega arith) (omega arith) in
    let up : get_or lines (i + 1) 0 ≤ get_or lines q 0 = never_falls lines rising (i + 1) q (omega arith) within in
    omega arith

-- the interval has its low end
pub low_end_in : (lines : List ℕ) → IsStrictlyIncreasing lines → (i : ℕ) → i < length lines - 1 → IsIntervalOf lines (get_or lines i 0) i
low_end_in lines rising i within =
    record { within = omega arith; holds = record { from = omega arith; below = rises lines rising i (i + 1) (omega arith) (omega arith) } }

-- a coordinate from the first line up to a later one is in an interval
pub interval_below : (lines : List ℕ) (x n : ℕ) → n < length lines → get_or lines 0 0 ≤ x → x < get_or lines n 0 → (i : ℕ) × IsIntervalOf lines x i
interval_below lines x zero within from below = absurd (omega arith)
interval_below lines x (suc n) within from below =
    ⊎_elim (λ (early : x < get_or lines n 0). interval_below lines x n (omega arith) from early)
    (λ (late : get_or lines n 0 ≤ x).
    let place : suc n ≡ n + 1 = omega arith in
    (n, record { within = omega arith; holds = record { from = late; below = subst (λ (m : ℕ). x < get_or lines m 0) place below } }))
    (cases_lt x (get_or lines n 0))

-- a coordinate has one interval
pub one_interval : (lines : List ℕ) → IsStrictlyIncreasing lines → (x i j : ℕ) → IsIntervalOf lines x i → IsIntervalOf lines x j → i ≡ j
one_interval lines rising x i j here there =
    let a : get_or lines i 0 ≤ x = here.holds.from in
    let b : x < get_or lines (i + 1) 0 = here.holds.below in
    let c : get_or lines j 0 ≤ x = there.holds.from in
    let d : x < get_or lines (j + 1) 0 = there.holds.below in
    let e : i + 1 < length lines = here.within in
    let f : j + 1 < length lines = there.within in
    let g : i < j + 1 = before_from lines rising i (j + 1) (omega arith) (omega arith) in
    let h : j < i + 1 = before_from lines rising j (i + 1) (omega arith) (omega arith) in
    omega arith
