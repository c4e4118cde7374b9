-- The lines through coordinates: there is one such list.
use Rattle.std.proofs.Common.{◌≡◌, ℕ, ◌<◌, ◌≤◌, ⊎_elim, List, [], ◌∷◌, length, refl, sym, ◌↔◌, arith}
use Rattle.std.specs.List.{Contains}
use Rattle.std.specs.List.Sorted.{IsStrictlyIncreasing}
use Rattle.tb_grid.specs.Axis.{AreLinesThrough, HasTwo}
use Rattle.tb_grid.proofs.RisingLists.{first_is_least, first_member, later_is_above, later_member, member_cases, no_member, tail_rises}

-- without their first lines, which are equal, two lists still have the same lines
later_in : (x y : ℕ) (xs ys : List ℕ) → x ≡ y → IsStrictlyIncreasing (x ∷ xs) →
    ((n : ℕ) → Contains (x ∷ xs) n → Contains (y ∷ ys) n) → (n : ℕ) → Contains xs n → Contains ys n
later_in x y xs ys same rising within n there =
    let above : x < n = later_is_above x xs n rising there in
    ⊎_elim (λ (here : y ≡ n). absurd (omega arith)) (λ (later : Contains ys n). later)
    (member_cases y ys n (within n (later_member x xs n there)))

-- two rising lists with the same lines are one list
pub rising_unique : (xs ys : List ℕ) → IsStrictlyIncreasing xs → IsStrictlyIncreasing ys →
    ((n : ℕ) → Contains xs n ↔ Contains ys n) → xs ≡ ys
rising_unique [] [] xs_rise ys_rise same = refl
rising_unique [] (y ∷ ys) xs_rise ys_rise same = absurd (no_member y ((same y).1 (first_member y ys y refl)))
rising_unique (x ∷ xs) [] xs_rise ys_rise same = absurd (no_member x ((same x).0 (first_member x xs x refl)))
rising_unique (x ∷ xs) (y ∷ ys) xs_rise ys_rise same =
    let y_least : y ≤ x = first_is_least y ys x ys_rise ((same x).0 (first_member x xs x refl)) in
    let x_least : x ≤ y = first_is_least x xs y xs_rise ((same y).1 (first_member y ys y refl)) in
    let first : x ≡ y = omega arith in
    let rest : xs ≡ ys =
    rising_unique xs ys (tail_rises x xs xs_rise) (tail_rises y ys ys_rise)
    (λ n. (later_in x y xs ys first xs_rise (λ m. (same m).0) n, later_in y x ys xs (sym first) ys_rise (λ m. (same m).1) n)) in
    cc

pub lines_unique : (coordinates lines others : List ℕ) → AreLinesThrough coordinates lines →
    AreLinesThrough coordinates others → lines ≡ others
lines_unique coordinates lines others some same =
    rising_unique lines others some.rising same.rising
    (λ n. (λ there. (same.same n).1 ((some.same n).0 there), λ there. (some.same n).1 ((same.same n).0 there)))

pub two_members : (xs : List ℕ) (low high : ℕ) → Contains xs low → Contains xs high → low < high → 2 ≤ length xs
two_members [] low high has_low has_high apart = absurd (no_member low has_low)
two_members (x ∷ []) low high has_low has_high apart =
    ⊎_elim (λ (is_low : x ≡ low). ⊎_elim (λ (is_high : x ≡ high). absurd (omega arith))
    (λ later. absurd (no_member high later)) (member_cases x [] high has_high))
    (λ later. absurd (no_member low later)) (member_cases x [] low has_low)
two_members (x ∷ y ∷ xs) low high has_low has_high apart = omega arith

-- two different coordinates make two lines at least
pub two_lines : (coordinates lines : List ℕ) → AreLinesThrough coordinates lines → HasTwo coordinates → 2 ≤ length lines
two_lines coordinates lines through two =
    two_members lines two.low two.high ((through.same two.low).1 two.has_low) ((through.same two.high).1 two.has_high) two.apart
