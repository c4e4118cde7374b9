-- Base lines rise, and are exactly the coordinates of boxes.
use Rattle.std.proofs.Common.{◌≡◌, ℕ, zero, suc, ◌+◌, ◌<◌, ◌⊎◌, inl, inr, ⊎_elim, List, [], ◌∷◌, get_or, refl, sym, subst, arith}
use Rattle.std.specs.List.{Contains}
use Rattle.std.specs.List.Sorted.{IsStrictlyIncreasing}
use Rattle.std.proofs.lemmas.Bool.{cases_order}
use Rattle.std.proofs.lemmas.List.Elements.{Contains-append_left, Contains-append_right, Contains-append_cases}
use Rattle.tb_places.specs.declared.AxisName.{AxisName}
use Rattle.tb_places.specs.Lines.{with_line}
use Rattle.tb_places.proofs.Lines.{with_line-at, with_line-before, with_line-behind, with_line-cases, with_line-new, with_line-old}
use Rattle.tb_detail.specs.declared.SpaceBox.{SpaceBox}
use Rattle.tb_grid.specs.Axis.{AreLinesThrough}
use Rattle.tb_grid.proofs.RisingLists.{first_member, later_is_above, later_member, member_cases, no_member, tail_rises}
use Rattle.tb_model.specs.Refinement.{low, high}
use Rattle.tb_geometry.specs.Base.{base_lines, coordinates}

-- ---- one line more
rises_from : (x : ℕ) (lines : List ℕ) → ((n : ℕ) → Contains lines n → x < n) → IsStrictlyIncreasing lines →
    IsStrictlyIncreasing (x ∷ lines)
rises_from x [] above rising k below = absurd (omega arith)
rises_from x (y ∷ lines) above rising zero below = above y (first_member y lines y refl)
rises_from x (y ∷ lines) above rising (suc k) below =
    let place : suc k + 1 ≡ suc (k + 1) = omega arith in
    subst (λ (m : ℕ). get_or (y ∷ lines) k 0 < get_or (x ∷ y ∷ lines) m 0) (sym place) (rising k (omega arith))

pub with_line_rises : (x : ℕ) (lines : List ℕ) → IsStrictlyIncreasing lines → IsStrictlyIncreasing (with_line x lines)
with_line_rises x [] rising = (rises_from x [] (λ n there. absurd (no_member n there)) rising)
with_line_rises x (y ∷ lines) rising =
    ⊎_elim (λ (same : x ≡ y). subst (λ (t : ℕ). IsStrictlyIncreasing (with_line t (y ∷ lines))) (sym same) (rw (with_line-at y lines) rising))
    (λ apart. ⊎_elim (λ (below : x < y). rw (with_line-before x y lines below)
    (rises_from x (y ∷ lines) (λ n there. ⊎_elim (λ (here : y ≡ n). omega arith)
    (λ later. let up : y < n = later_is_above y lines n rising later in omega arith) (member_cases y lines n there)) rising))
    (λ (above : y < x). rw (with_line-behind x y lines above)
    (rises_from y (with_line x lines) (λ n there. ⊎_elim (λ (here : n ≡ x). omega arith)
    (λ later. later_is_above y lines n rising later) (with_line-cases x lines n there))
    (with_line_rises x lines (tail_rises y lines rising)))) apart)
    (cases_order x y)

-- ---- the lines of boxes
no_base : (a : AxisName) → base_lines a [] ≡ []
unfolding base_lines
no_base a = refl

base_more : (a : AxisName) (b : SpaceBox) (boxes : List SpaceBox) →
    base_lines a (b ∷ boxes) ≡ with_line (low a b) (with_line (high a b) (base_lines a boxes))
unfolding base_lines
base_more a b boxes = refl

pub base_rises : (a : AxisName) (boxes : List SpaceBox) → IsStrictlyIncreasing (base_lines a boxes)
base_rises a [] = rw (no_base a) (λ k below. absurd (omega arith))
base_rises a (b ∷ boxes) =
    rw (base_more a b boxes)
    (with_line_rises (low a b) (with_line (high a b) (base_lines a boxes))
    (with_line_rises (high a b) (base_lines a boxes) (base_rises a boxes)))

two_cases : (x y n : ℕ) → Contains (x ∷ y ∷ []) n → (x ≡ n) ⊎ (y ≡ n)
two_cases x y n there =
    ⊎_elim inl (λ later. ⊎_elim inr (λ none. absurd (no_member n none)) (member_cases y [] n later)) (member_cases x (y ∷ []) n there)

base_from : (a : AxisName) (boxes : List SpaceBox) (n : ℕ) → Contains (base_lines a boxes) n → Contains (coordinates a boxes) n
base_from a [] n there = rw (no_base a) at there
base_from a (b ∷ boxes) n there =
    let ends : List ℕ = low a b ∷ high a b ∷ [] in
    ⊎_elim (λ here. Contains-append_left ends (coordinates a boxes) n (first_member (low a b) (high a b ∷ []) n (sym here)))
    (λ later. ⊎_elim
    (λ here. Contains-append_left ends (coordinates a boxes) n (later_member (low a b) (high a b ∷ []) n (first_member (high a b) [] n (sym here))))
    (λ old. Contains-append_right ends (coordinates a boxes) n (base_from a boxes n old))
    (with_line-cases (high a b) (base_lines a boxes) n later))
    (with_line-cases (low a b) (with_line (high a b) (base_lines a boxes)) n (rw (base_more a b boxes) at there))

base_has : (a : AxisName) (boxes : List SpaceBox) (n : ℕ) → Contains (coordinates a boxes) n → Contains (base_lines a boxes) n
base_has a [] n there = absurd (no_member n there)
base_has a (b ∷ boxes) n there =
    let old = with_line (high a b) (base_lines a boxes) in
    rw (base_more a b boxes)
    (⊎_elim (λ ends. ⊎_elim
    (λ (is_low : low a b ≡ n). subst (λ (m : ℕ). Contains (with_line (low a b) old) m) is_low (with_line-new (low a b) old))
    (λ (is_high : high a b ≡ n). subst (λ (m : ℕ). Contains (with_line (low a b) old) m) is_high (with_line-old (low a b) old (high a b) (with_line-new (high a b) (base_lines a boxes))))
    (two_cases (low a b) (high a b) n ends))
    (λ rest. with_line-old (low a b) old n (with_line-old (high a b) (base_lines a boxes) n (base_has a boxes n rest)))
    (Contains-append_cases (low a b ∷ high a b ∷ []) (coordinates a boxes) n there))

-- the base lines of an axis are the lines through the coordinates of all boxes
pub base_through : (a : AxisName) (boxes : List SpaceBox) → AreLinesThrough (coordinates a boxes) (base_lines a boxes)
base_through a boxes = record { rising = base_rises a boxes; same = λ n. (base_from a boxes n, base_has a boxes n) }
