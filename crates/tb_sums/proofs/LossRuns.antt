-- The cells of a run, one after the other: what they lose, and what enters them.
use Rattle.std.proofs.Common.{◌≡◌, ◌∙◌, refl, sym, ap, ℕ, ◌+◌, ◌-◌, get_or, Option, ℤ, pos, ◌+ℤ◌, arith, add-one}
use Rattle.std.proofs.lemmas.Int.{ints}
use Rattle.tb_math.specs.Sums.{total_ℤ}
use Rattle.tb_math.proofs.RationalSums.{total_ℤ-plus}
use Rattle.tb_geometry.specs.declared.occupant.Occupant.{Occupant}
use Rattle.tb_rows.specs.declared.run.Run.{Run}
use Rattle.tb_rows.specs.Runs.{high_at, low_at}
use Rattle.tb_sums.specs.declared.flow_row.FlowRow.{FlowRow}
use Rattle.tb_sums.specs.declared.solid.CellFlows.{CellFlows}
use Rattle.tb_sums.specs.FlowRows.{flows_at}
use Rattle.tb_sums.specs.Losses.{sides_entered, sides_loss_up, solid_loss_up}
use Rattle.tb_sums.specs.LossSums.{entered_at, inside_loss, inside_loss_at, loss_at, run_entered, run_loss, sides_loss, sides_loss_at}
use Rattle.tb_sums.proofs.Runs.{three_parts}

pub inside_loss_start : (r : FlowRow) (run : Run) → pos 0 ≡ inside_loss r run 0
unfolding inside_loss
inside_loss_start r run = refl

pub inside_loss_step : (r : FlowRow) (run : Run) (n : ℕ) → inside_loss r run (n + 1) ≡ inside_loss r run n +ℤ inside_loss_at r run.lambda (run.from + n)
unfolding inside_loss
inside_loss_step r run n = ap (λ (k : ℕ). total_ℤ k (λ m. inside_loss_at r run.lambda (run.from + m))) (add-one n)

pub sides_loss_start : (r : FlowRow) (run : Run) → pos 0 ≡ sides_loss r run 0
unfolding sides_loss
sides_loss_start r run = refl

pub sides_loss_step : (r : FlowRow) (run : Run) (n : ℕ) → sides_loss r run (n + 1) ≡ sides_loss r run n +ℤ sides_loss_at r run (run.from + n)
unfolding sides_loss
sides_loss_step r run n = ap (λ (k : ℕ). total_ℤ k (λ m. sides_loss_at r run (run.from + m))) (add-one n)

pub loss_parts : (r : FlowRow) (run : Run) (n : ℕ) → inside_loss r run n +ℤ sides_loss r run n ≡ run_loss r run n
unfolding inside_loss sides_loss run_loss loss_at
loss_parts r run n = sym (total_ℤ-plus n (λ m. inside_loss_at r run.lambda (run.from + m)) (λ m. sides_loss_at r run (run.from + m)))

pub entered_start : (r : FlowRow) (run : Run) → pos 0 ≡ run_entered r run 0
unfolding run_entered
entered_start r run = refl

pub entered_step : (r : FlowRow) (run : Run) (n : ℕ) → run_entered r run (n + 1) ≡ run_entered r run n +ℤ entered_at r run (run.from + n)
unfolding run_entered
entered_step r run n = ap (λ (k : ℕ). total_ℤ k (λ m. entered_at r run (run.from + m))) (add-one n)

-- a cell of a run, from the numbers of its row
pub inside_loss_of : (r : FlowRow) (l i cx cy cz e : ℕ) (q : CellFlows) → cx ≡ get_or r.lines.now (i + 1) 0 - get_or r.lines.now i 0 → cy ≡ r.y.width → cz ≡ r.z.width →
    q ≡ flows_at r.flows i → pos e ≡ solid_loss_up l cx cy cz q → pos e ≡ inside_loss_at r l i
inside_loss_of r l i cx cy cz e q ex ey ez eq he =
    let v = get_or r.lines.now (i + 1) 0 - get_or r.lines.now i 0 in
    he ∙ ap (λ (n : ℕ). solid_loss_up l n cy cz q) ex ∙ ap (λ (n : ℕ). solid_loss_up l v n cz q) ey
    ∙ ap (λ (n : ℕ). solid_loss_up l v r.y.width n q) ez ∙ ap (λ (t : CellFlows). solid_loss_up l v r.y.width r.z.width t) eq

pub sides_loss_of : (r : FlowRow) (run : Run) (i cx : ℕ) (q : CellFlows) (low high : Option Occupant) (x y z : ℕ) →
    cx ≡ get_or r.lines.now (i + 1) 0 - get_or r.lines.now i 0 → q ≡ flows_at r.flows i → low ≡ low_at run i → high ≡ high_at run i →
    pos x ≡ sides_loss_up low high r.y.width r.z.width q.x → pos y ≡ sides_loss_up run.low_y run.high_y cx r.z.width q.y →
    pos z ≡ sides_loss_up run.low_z run.high_z cx r.y.width q.z → pos (x + (y + z)) ≡ sides_loss_at r run i
sides_loss_of r run i cx q low high x y z ex eq el eh hx hy hz =
    let v = get_or r.lines.now (i + 1) 0 - get_or r.lines.now i 0 in
    three_parts x y z _ _ _
    (hx ∙ ap (λ (t : CellFlows). sides_loss_up low high r.y.width r.z.width t.x) eq ∙ ap (λ (o : Option Occupant). sides_loss_up o high r.y.width r.z.width (flows_at r.flows i).x) el
    ∙ ap (λ (o : Option Occupant). sides_loss_up (low_at run i) o r.y.width r.z.width (flows_at r.flows i).x) eh)
    (hy ∙ ap (λ (n : ℕ). sides_loss_up run.low_y run.high_y n r.z.width q.y) ex ∙ ap (λ (t : CellFlows). sides_loss_up run.low_y run.high_y v r.z.width t.y) eq)
    (hz ∙ ap (λ (n : ℕ). sides_loss_up run.low_z run.high_z n r.y.width q.z) ex ∙ ap (λ (t : CellFlows). sides_loss_up run.low_z run.high_z v r.y.width t.z) eq)

three : (x y z p q r : ℤ) → x ≡ p → y ≡ q → z ≡ r → x +ℤ (y +ℤ z) ≡ p +ℤ (q +ℤ r)
three x y z p q r h j k = omega (arith, ints)

pub entered_of : (r : FlowRow) (run : Run) (i : ℕ) (q : CellFlows) (low high : Option Occupant) (x y z : ℤ) →
    q ≡ flows_at r.flows i → low ≡ low_at run i → high ≡ high_at run i → x ≡ sides_entered r.mask low high q.x →
    y ≡ sides_entered r.mask run.low_y run.high_y q.y → z ≡ sides_entered r.mask run.low_z run.high_z q.z → x +ℤ (y +ℤ z) ≡ entered_at r run i
unfolding entered_at
entered_of r run i q low high x y z eq el eh hx hy hz =
    three x y z _ _ _
    (hx ∙ ap (λ (t : CellFlows). sides_entered r.mask low high t.x) eq ∙ ap (λ (o : Option Occupant). sides_entered r.mask o high (flows_at r.flows i).x) el
    ∙ ap (λ (o : Option Occupant). sides_entered r.mask (low_at run i) o (flows_at r.flows i).x) eh)
    (hy ∙ ap (λ (t : CellFlows). sides_entered r.mask run.low_y run.high_y t.y) eq)
    (hz ∙ ap (λ (t : CellFlows). sides_entered r.mask run.low_z run.high_z t.z) eq)
