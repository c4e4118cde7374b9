-- A run with no air along y and z has surfaces at its ends alone.
use Rattle.std.proofs.Common.{◌≡◌, ◌∙◌, refl, sym, ap, ℕ, zero, suc, ◌+◌, ◌-◌, ◌<◌, Option, Some, None, ℤ, pos, ◌+ℤ◌, ◌-ℤ◌, arith}
use Rattle.std.proofs.lemmas.Int.{ints}
use Rattle.tb_math.specs.Sums.{total_ℤ}
use Rattle.tb_geometry.specs.declared.occupant.Occupant.{Occupant}
use Rattle.tb_geometry.specs.declared.occupant.Occupant.TheVariants.{Air, Solid}
use Rattle.tb_rows.specs.declared.run.Run.{Run}
use Rattle.tb_rows.specs.Filled.{IsAir}
use Rattle.tb_rows.specs.Runs.{IsClosed, high_at, low_at}
use Rattle.tb_rows.proofs.Sides.{own_above, own_below}
use Rattle.tb_sums.specs.declared.flow_row.FlowRow.{FlowRow}
use Rattle.tb_sums.specs.declared.row.Row.{Row}
use Rattle.tb_sums.specs.Losses.{entered, side_loss_up}
use Rattle.tb_sums.specs.LossSums.{entered_at, run_entered, sides_loss, sides_loss_at}
use Rattle.tb_sums.specs.RunSums.{sides_at, sides_up}
use Rattle.tb_sums.specs.Sides.{side_up}

-- ---- sums of which only the ends are something

-- terms are nothing between the first place and one further on
abbrev IsNothingBetween : (ℕ → ℤ) → ℕ → Type 0
IsNothingBetween f n = (m : ℕ) → 0 < m → m < n → f m ≡ pos 0

first_alone : (n : ℕ) (f : ℕ → ℤ) → IsNothingBetween f (suc n) → total_ℤ (suc n) f ≡ f 0
first_alone zero f none = omega (arith, ints)
first_alone (suc n) f none =
    let before = first_alone n f (λ m some less. none m some (omega arith)) in
    let last = none (suc n) (omega arith) (omega arith) in
    omega (arith, ints, before, last)

ends_alone : (n : ℕ) (f : ℕ → ℤ) → IsNothingBetween f (suc n) → total_ℤ (suc (suc n)) f ≡ f 0 +ℤ f (suc n)
ends_alone n f none = ap (λ (z : ℤ). z +ℤ f (suc n)) (first_alone n f none)

-- over the places of a run
pub one_place : (from to : ℕ) (g : ℕ → ℤ) → from < to → from ≡ to - 1 → total_ℤ (to - from) (λ m. g (from + m)) ≡ g from
one_place from to g some one =
    let count : to - from ≡ suc zero = omega arith in
    let here : from + 0 ≡ from = omega arith in
    ap (λ (k : ℕ). total_ℤ k (λ m. g (from + m))) count ∙ first_alone zero (λ m. g (from + m)) (λ m some less. absurd (omega arith)) ∙ ap g here

pub end_places : (from to : ℕ) (g : ℕ → ℤ) → from < to - 1 → ((i : ℕ) → from < i → i + 1 < to → g i ≡ pos 0) →
    total_ℤ (to - from) (λ m. g (from + m)) ≡ g from +ℤ g (to - 1)
end_places from to g more none =
    let k : ℕ = to - from - 2 in
    let count : to - from ≡ suc (suc k) = omega arith in
    let here : from + 0 ≡ from = omega arith in
    let there : from + suc k ≡ to - 1 = omega arith in
    ap (λ (n : ℕ). total_ℤ n (λ m. g (from + m))) count
    ∙ ends_alone k (λ m. g (from + m)) (λ m some less. none (from + m) (omega arith) (omega arith))
    ∙ ap (λ (n : ℕ). g n +ℤ g (from + suc k)) here ∙ ap (λ (n : ℕ). g from +ℤ g n) there

-- ---- sides without air

no_energy : (mask : ℕ) (beside : Option Occupant) (b c : ℕ) (t00 t10 t01 t11 : ℤ) → ¬ IsAir beside → side_up mask beside b c t00 t10 t01 t11 ≡ pos 0
no_energy mask (Some (Air e rs)) b c t00 t10 t01 t11 none = absurd (none (e, rs, refl))
no_energy mask (Some (Solid l)) b c t00 t10 t01 t11 none = refl
no_energy mask None b c t00 t10 t01 t11 none = refl

no_loss : (beside : Option Occupant) (b c : ℕ) (flow : ℤ) → ¬ IsAir beside → side_loss_up beside b c flow ≡ pos 0
no_loss (Some (Air e rs)) b c flow none = absurd (none (e, rs, refl))
no_loss (Some (Solid l)) b c flow none = refl
no_loss None b c flow none = refl

nothing_enters : (mask : ℕ) (beside : Option Occupant) (flow : ℤ) → ¬ IsAir beside → entered mask beside flow ≡ pos 0
nothing_enters mask (Some (Air e rs)) flow none = absurd (none (e, rs, refl))
nothing_enters mask (Some (Solid l)) flow none = refl
nothing_enters mask None flow none = refl

no_air : (beside : Option Occupant) (l : ℕ) → beside ≡ Some (Solid l) → ¬ IsAir beside
no_air beside l is (e, rs, air) = other l e rs (sym is ∙ air)
  where
    other : (a b c : ℕ) → Some (Solid a) ≡ Some (Air b c) → ⊥
    other a b c q = cc

six : (a b c d e f : ℤ) → a ≡ pos 0 → b ≡ pos 0 → c ≡ pos 0 → d ≡ pos 0 → e ≡ pos 0 → f ≡ pos 0 → (a +ℤ b) +ℤ ((c +ℤ d) +ℤ (e +ℤ f)) ≡ pos 0
six a b c d e f ea eb ec ed ee ef = omega (arith, ints)

six_apart : (a b c d e f : ℤ) → a ≡ pos 0 → b ≡ pos 0 → c ≡ pos 0 → d ≡ pos 0 → e ≡ pos 0 → f ≡ pos 0 → (a -ℤ b) +ℤ ((c -ℤ d) +ℤ (e -ℤ f)) ≡ pos 0
six_apart a b c d e f ea eb ec ed ee ef = omega (arith, ints)

module _ (run : Run) (closed : IsClosed run) (i : ℕ) (low : run.from < i) (high : i + 1 < run.to) where
  no_low : ¬ IsAir (low_at run i)
  no_low = no_air (low_at run i) run.lambda (own_below run i low)

  no_high : ¬ IsAir (high_at run i)
  no_high = no_air (high_at run i) run.lambda (own_above run i high)

  no_sides : (r : Row) → sides_at r run i ≡ pos 0
  no_sides r = six _ _ _ _ _ _
      (no_energy _ _ _ _ _ _ _ _ no_low) (no_energy _ _ _ _ _ _ _ _ no_high)
      (no_energy _ _ _ _ _ _ _ _ closed.0) (no_energy _ _ _ _ _ _ _ _ closed.1)
      (no_energy _ _ _ _ _ _ _ _ closed.2) (no_energy _ _ _ _ _ _ _ _ closed.3)

  no_sides_loss : (r : FlowRow) → sides_loss_at r run i ≡ pos 0
  no_sides_loss r = six _ _ _ _ _ _
      (no_loss _ _ _ _ no_low) (no_loss _ _ _ _ no_high)
      (no_loss _ _ _ _ closed.0) (no_loss _ _ _ _ closed.1)
      (no_loss _ _ _ _ closed.2) (no_loss _ _ _ _ closed.3)

  none_enters : (r : FlowRow) → entered_at r run i ≡ pos 0
  unfolding entered_at
  none_enters r = six_apart _ _ _ _ _ _
      (nothing_enters _ _ _ no_low) (nothing_enters _ _ _ no_high)
      (nothing_enters _ _ _ closed.0) (nothing_enters _ _ _ closed.1)
      (nothing_enters _ _ _ closed.2) (nothing_enters _ _ _ closed.3)

-- ---- what a closed run adds at its sides

pub sides_of_one : (r : Row) (run : Run) → run.from < run.to → run.from ≡ run.to - 1 → sides_at r run run.from ≡ sides_up r run (run.to - run.from)
unfolding sides_up
sides_of_one r run some one = sym (one_place run.from run.to (sides_at r run) some one)

pub sides_of_ends : (r : Row) (run : Run) → IsClosed run → run.from < run.to - 1 →
    sides_at r run run.from +ℤ sides_at r run (run.to - 1) ≡ sides_up r run (run.to - run.from)
unfolding sides_up
sides_of_ends r run closed more = sym (end_places run.from run.to (sides_at r run) more (λ i low high. no_sides run closed i low high r))

pub loss_of_one : (r : FlowRow) (run : Run) → run.from < run.to → run.from ≡ run.to - 1 → sides_loss_at r run run.from ≡ sides_loss r run (run.to - run.from)
unfolding sides_loss
loss_of_one r run some one = sym (one_place run.from run.to (sides_loss_at r run) some one)

pub loss_of_ends : (r : FlowRow) (run : Run) → IsClosed run → run.from < run.to - 1 →
    sides_loss_at r run run.from +ℤ sides_loss_at r run (run.to - 1) ≡ sides_loss r run (run.to - run.from)
unfolding sides_loss
loss_of_ends r run closed more = sym (end_places run.from run.to (sides_loss_at r run) more (λ i low high. no_sides_loss run closed i low high r))

pub entered_of_one : (r : FlowRow) (run : Run) → run.from < run.to → run.from ≡ run.to - 1 → entered_at r run run.from ≡ run_entered r run (run.to - run.from)
unfolding run_entered
entered_of_one r run some one = sym (one_place run.from run.to (entered_at r run) some one)

pub entered_of_ends : (r : FlowRow) (run : Run) → IsClosed run → run.from < run.to - 1 →
    entered_at r run run.from +ℤ entered_at r run (run.to - 1) ≡ run_entered r run (run.to - run.from)
unfolding run_entered
entered_of_ends r run closed more = sym (end_places run.from run.to (entered_at r run) more (λ i low high. none_enters run closed i low high r))
