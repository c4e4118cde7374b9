-- The cells of a run, one after the other.
use Rattle.std.proofs.Common.{◌≡◌, ◌∙◌, refl, sym, ap, ℕ, ◌+◌, ◌-◌, get_or, Option, ℤ, pos, ◌+ℤ◌, arith, add-one}
use Rattle.std.proofs.lemmas.Int.{ints}
use Rattle.tb_math.specs.Sums.{total_ℤ}
use Rattle.tb_math.proofs.RationalSums.{total_ℤ-plus}
use Rattle.tb_geometry.specs.declared.occupant.Occupant.{Occupant}
use Rattle.tb_sums.specs.declared.cell.Corners.{Corners}
use Rattle.tb_sums.specs.declared.row.Row.{Row}
use Rattle.tb_rows.specs.declared.run.Run.{Run}
use Rattle.tb_sums.specs.Corners.{solid_up}
use Rattle.tb_sums.specs.NodeRows.{corners_at}
use Rattle.tb_rows.specs.Runs.{high_at, low_at}
use Rattle.tb_sums.specs.RunSums.{inside_at, inside_up, run_up, sides_at, sides_up, solid_at}
use Rattle.tb_sums.specs.Sides.{sides_x_up, sides_y_up, sides_z_up}

pub inside_start : (r : Row) (run : Run) → pos 0 ≡ inside_up r run 0
unfolding inside_up
inside_start r run = refl

pub inside_step : (r : Row) (run : Run) (n : ℕ) → inside_up r run (n + 1) ≡ inside_up r run n +ℤ inside_at r run.lambda (run.from + n)
unfolding inside_up
inside_step r run n = ap (λ (k : ℕ). total_ℤ k (λ m. inside_at r run.lambda (run.from + m))) (add-one n)

pub sides_start : (r : Row) (run : Run) → pos 0 ≡ sides_up r run 0
unfolding sides_up
sides_start r run = refl

pub sides_step : (r : Row) (run : Run) (n : ℕ) → sides_up r run (n + 1) ≡ sides_up r run n +ℤ sides_at r run (run.from + n)
unfolding sides_up
sides_step r run n = ap (λ (k : ℕ). total_ℤ k (λ m. sides_at r run (run.from + m))) (add-one n)

pub run_parts : (r : Row) (run : Run) (n : ℕ) → inside_up r run n +ℤ sides_up r run n ≡ run_up r run n
unfolding inside_up sides_up run_up solid_at
run_parts r run n = sym (total_ℤ-plus n (λ m. inside_at r run.lambda (run.from + m)) (λ m. sides_at r run (run.from + m)))

pub one_more : (total term : ℕ) (old new value : ℤ) → pos total ≡ old → pos term ≡ value → new ≡ old +ℤ value → pos (total + term) ≡ new
one_more total term old new value e f g = omega (arith, ints)

pub two_parts : (a b : ℕ) (p q : ℤ) → pos a ≡ p → pos b ≡ q → pos (a + b) ≡ p +ℤ q
two_parts a b p q e f = omega (arith, ints)

pub three_parts : (x y z : ℕ) (q r s : ℤ) → pos x ≡ q → pos y ≡ r → pos z ≡ s → pos (x + (y + z)) ≡ q +ℤ (r +ℤ s)
three_parts x y z q r s h j k = omega (arith, ints)

-- a cell of a run, from the numbers of its row
pub inside_of : (r : Row) (l i w e : ℕ) (t : Corners) → w ≡ get_or r.lines.now (i + 1) 0 - get_or r.lines.now i 0 → t ≡ corners_at r.nodes i →
    pos e ≡ solid_up l w r.y.width r.z.width t → pos e ≡ inside_at r l i
inside_of r l i w e t ew et he =
    let v = get_or r.lines.now (i + 1) 0 - get_or r.lines.now i 0 in
    he ∙ ap (λ (n : ℕ). solid_up l n r.y.width r.z.width t) ew ∙ ap (λ (s : Corners). solid_up l v r.y.width r.z.width s) et

pub sides_of : (r : Row) (run : Run) (i w : ℕ) (t : Corners) (low high : Option Occupant) (x y z : ℕ) → w ≡ get_or r.lines.now (i + 1) 0 - get_or r.lines.now i 0 →
    t ≡ corners_at r.nodes i → low ≡ low_at run i → high ≡ high_at run i →
    pos x ≡ sides_x_up r.mask low high r.y.width r.z.width t → pos y ≡ sides_y_up r.mask run.low_y run.high_y w r.z.width t →
    pos z ≡ sides_z_up r.mask run.low_z run.high_z w r.y.width t → pos (x + (y + z)) ≡ sides_at r run i
sides_of r run i w t low high x y z ew et el eh hx hy hz =
    let v = get_or r.lines.now (i + 1) 0 - get_or r.lines.now i 0 in
    three_parts x y z _ _ _
    (hx ∙ ap (λ (s : Corners). sides_x_up r.mask low high r.y.width r.z.width s) et ∙ ap (λ (o : Option Occupant). sides_x_up r.mask o high r.y.width r.z.width (corners_at r.nodes i)) el
    ∙ ap (λ (o : Option Occupant). sides_x_up r.mask (low_at run i) o r.y.width r.z.width (corners_at r.nodes i)) eh)
    (hy ∙ ap (λ (n : ℕ). sides_y_up r.mask run.low_y run.high_y n r.z.width t) ew ∙ ap (λ (s : Corners). sides_y_up r.mask run.low_y run.high_y v r.z.width s) et)
    (hz ∙ ap (λ (n : ℕ). sides_z_up r.mask run.low_z run.high_z n r.y.width t) ew ∙ ap (λ (s : Corners). sides_z_up r.mask run.low_z run.high_z v r.y.width s) et)
