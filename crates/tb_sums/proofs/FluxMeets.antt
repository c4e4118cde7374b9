-- The numbers of a cell of a run meet the terms of the model, of a flux.
use Rattle.std.proofs.Common.{◌≡◌, sym, ap, ◌∙◌, ℕ, suc, ◌+◌, ◌-◌, ◌<◌, ◌≤◌, List, get_or, Option, Some, None, Bool, true, false, if◌then◌else◌, ℤ, pos, neg_ℤ, ◌+ℤ◌, ◌-ℤ◌, arith, add-one}
use Rattle.std.specs.Option.{option_map}
use Rattle.std.proofs.lemmas.Int.{ints}
use Rattle.tb_math.specs.Rational.{ℚ, int, ◌*ℚ◌, neg_ℚ}
use Rattle.tb_math.specs.Ceiling.{ceiling}
use Rattle.tb_math.proofs.CeilingLaws.{ceiling-int}
use Rattle.tb_math.proofs.RationalLaws.{int-neg}
use Rattle.tb_math.proofs.SumInstances.{adds_ℤ}
use Rattle.tb_math.proofs.SumLaws.{sum-cong}
use Rattle.tb_places.specs.declared.AxisName.TheVariants.{X, Y, Z}
use Rattle.tb_detail.specs.declared.Content.{Content}
use Rattle.tb_detail.specs.declared.Content.TheVariants as content
use Rattle.tb_detail.specs.declared.Material.{Material}
use Rattle.tb_grid.specs.Grid.{counts_of}
use Rattle.tb_model.specs.Energy.{cell_loss, passage, surface_loss}
use Rattle.tb_model.specs.Values.{case_of}
use Rattle.tb_terms.specs.Terms.{flux_cell_term, flux_face_term}
use Rattle.tb_geometry.specs.Bodies.{filled_with}
use Rattle.tb_geometry.specs.declared.occupant.Occupant.{Occupant}
use Rattle.tb_rows.specs.declared.run.Run.{Run}
use Rattle.tb_rows.specs.Cells.{at_air}
use Rattle.tb_rows.specs.Rows.{IsRunOf, IsWholeRun, mesh_under}
use Rattle.tb_rows.specs.Sums.{cell_up, cells_from}
use Rattle.tb_rows.proofs.Sides.{high_is, low_is}
use Rattle.tb_sums.specs.declared.flow_row.FlowRow.{FlowRow}
use Rattle.tb_sums.specs.declared.flux.BodyFlux.{BodyFlux}
use Rattle.tb_sums.specs.declared.solid.CellFlows.{CellFlows}
use Rattle.tb_sums.specs.declared.solid.Through.{Through}
use Rattle.tb_sums.specs.BodyFluxes.{IsRowOfFlows, entering_under, flow_at, loss_under}
use Rattle.tb_sums.specs.FlowRows.{flows_at}
use Rattle.tb_sums.specs.Losses.{entered, loss_cell, loss_face, side_loss_up}
use Rattle.tb_sums.specs.LossSums.{entered_at, loss_at, run_entered, run_loss}
use Rattle.tb_sums.proofs.Meets.{areas, nine, solid_is, width_meets}

-- ---- terms
pub cell_loss_meets : (lambda a b c : ℕ) (t : Through) (A B C P Q : ℚ) → int (pos a) ≡ A → int (pos b) ≡ B → int (pos c) ≡ C → int t.low ≡ P → int t.high ≡ Q →
    flux_cell_term (loss_cell lambda a b c t) ≡ cell_loss (int (pos lambda)) A (B *ℚ C) (passage P Q)
cell_loss_meets lambda a b c t A B C P Q ea eb ec ep eq =
    ap (λ (w : ℚ). cell_loss (int (pos lambda)) w (int (pos b) *ℚ int (pos c)) (passage (int t.low) (int t.high))) ea
    ∙ ap (λ (w : ℚ). cell_loss (int (pos lambda)) A w (passage (int t.low) (int t.high))) (areas b c B C eb ec)
    ∙ ap (λ (w : ℚ). cell_loss (int (pos lambda)) A (B *ℚ C) (passage w (int t.high))) ep
    ∙ ap (λ (w : ℚ). cell_loss (int (pos lambda)) A (B *ℚ C) (passage P w)) eq

pub face_loss_meets : (rs b c : ℕ) (flow : ℤ) (B C F : ℚ) → int (pos b) ≡ B → int (pos c) ≡ C → int flow ≡ F →
    flux_face_term (loss_face rs b c flow) ≡ surface_loss rs (B *ℚ C) F
face_loss_meets rs b c flow B C F eb ec ef =
    ap (λ (w : ℚ). surface_loss rs w (int flow)) (areas b c B C eb ec) ∙ ap (λ (w : ℚ). surface_loss rs (B *ℚ C) w) ef

-- ---- the flows of a cell
record AreFlowsOf (f : BodyFlux) (i j k : ℕ) (q : CellFlows) : Type 0 where
  pub low_x : q.x.low ≡ flow_at f X i j k
  pub high_x : q.x.high ≡ flow_at f X (suc i) j k
  pub low_y : q.y.low ≡ flow_at f Y i j k
  pub high_y : q.y.high ≡ flow_at f Y i (suc j) k
  pub low_z : q.z.low ≡ flow_at f Z i j k
  pub high_z : q.z.high ≡ flow_at f Z i j (suc k)

are_flows : (f : BodyFlux) (row : FlowRow) (i j k : ℕ) → IsRowOfFlows f j k row → i < counts_of f.rows.grid.now X → AreFlowsOf f i j k (flows_at row.flows i)
are_flows f row i j k of l =
    let q = of.flows in
    record {
      low_x = q.x.values i (omega arith);
      high_x = q.x.values (i + 1) (omega arith) ∙ ap (λ (n : ℕ). flow_at f X n j k) (add-one i);
      low_y = q.low_y.values i l;
      high_y = q.high_y.values i l ∙ ap (λ (n : ℕ). flow_at f Y i n k) (add-one j);
      low_z = q.low_z.values i l;
      high_z = q.high_z.values i l ∙ ap (λ (n : ℕ). flow_at f Z i j n) (add-one k);
    }

-- ---- the sides of a cell
side_loss_is : (materials : List Material) (o : Option Content) (r : Option Occupant) (b c : ℕ) (flow : ℤ) (h : ℕ → ℕ → ℤ) → r ≡ option_map (filled_with materials) o →
    ((e rs : ℕ) → ceiling (flux_face_term (loss_face rs b c flow)) ≡ h e rs) → side_loss_up r b c flow ≡ at_air (pos 0) h o
side_loss_is materials (Some (content.Air e rs)) r b c flow h is k = ap (λ (s : Option Occupant). side_loss_up s b c flow) is ∙ k e rs
side_loss_is materials (Some (content.Solid n)) r b c flow h is k = ap (λ (s : Option Occupant). side_loss_up s b c flow) is
side_loss_is materials None r b c flow h is k = ap (λ (s : Option Occupant). side_loss_up s b c flow) is

low_entered_is : (materials : List Material) (mask : ℕ) (o : Option Content) (r : Option Occupant) (flow : ℤ) (h : ℕ → ℕ → ℤ) → r ≡ option_map (filled_with materials) o →
    ((e rs : ℕ) → (if case_of mask e then flow else pos 0) ≡ h e rs) → entered mask r flow ≡ at_air (pos 0) h o
low_entered_is materials mask (Some (content.Air e rs)) r flow h is k = ap (λ (s : Option Occupant). entered mask s flow) is ∙ k e rs
low_entered_is materials mask (Some (content.Solid n)) r flow h is k = ap (λ (s : Option Occupant). entered mask s flow) is
low_entered_is materials mask None r flow h is k = ap (λ (s : Option Occupant). entered mask s flow) is

high_entered_is : (materials : List Material) (mask : ℕ) (o : Option Content) (r : Option Occupant) (flow : ℤ) (h : ℕ → ℕ → ℤ) → r ≡ option_map (filled_with materials) o →
    ((e rs : ℕ) → neg_ℤ (if case_of mask e then flow else pos 0) ≡ h e rs) → neg_ℤ (entered mask r flow) ≡ at_air (pos 0) h o
high_entered_is materials mask (Some (content.Air e rs)) r flow h is k = ap (λ (s : Option Occupant). neg_ℤ (entered mask s flow)) is ∙ k e rs
high_entered_is materials mask (Some (content.Solid n)) r flow h is k = ap (λ (s : Option Occupant). neg_ℤ (entered mask s flow)) is
high_entered_is materials mask None r flow h is k = ap (λ (s : Option Occupant). neg_ℤ (entered mask s flow)) is

inwards : (b : Bool) (z : ℤ) → (if b then z else pos 0) ≡ ceiling (if b then int z else int (pos 0))
inwards true z = sym (ceiling-int z)
inwards false z = sym (ceiling-int (pos 0))

outwards : (b : Bool) (z : ℤ) → neg_ℤ (if b then z else pos 0) ≡ ceiling (if b then neg_ℚ (int z) else int (pos 0))
outwards true z = sym (ceiling-int (neg_ℤ z)) ∙ ap ceiling (int-neg z)
outwards false z = sym (ceiling-int (pos 0))

low_flow_is : (m n e : ℕ) (flow u : ℤ) → m ≡ n → flow ≡ u → (if case_of m e then flow else pos 0) ≡ ceiling (if case_of n e then int u else int (pos 0))
low_flow_is m n e flow u em eu =
    ap (λ (p : ℕ). if case_of p e then flow else pos 0) em ∙ ap (λ (z : ℤ). if case_of n e then z else pos 0) eu ∙ inwards (case_of n e) u

high_flow_is : (m n e : ℕ) (flow u : ℤ) → m ≡ n → flow ≡ u → neg_ℤ (if case_of m e then flow else pos 0) ≡ ceiling (if case_of n e then neg_ℚ (int u) else int (pos 0))
high_flow_is m n e flow u em eu =
    ap (λ (p : ℕ). neg_ℤ (if case_of p e then flow else pos 0)) em ∙ ap (λ (z : ℤ). neg_ℤ (if case_of n e then z else pos 0)) eu ∙ outwards (case_of n e) u

-- ---- a cell
pub loss_cell_is : (f : BodyFlux) (row : FlowRow) (run : Run) (i j k : ℕ) → IsRowOfFlows f j k row → IsRunOf f.rows j k run → run.from ≤ i → i < run.to →
    loss_at row run i ≡ cell_up (mesh_under f.rows) (loss_under f) i j k
unfolding loss_at cell_up
loss_cell_is f row run i j k of is low high =
    let d = f.rows.body.now in let g = f.rows.grid.now in let m = mesh_under f.rows in let t = loss_under f in
    let q = flows_at row.flows i in
    let x = get_or row.lines.now (i + 1) 0 - get_or row.lines.now i 0 in
    let c = are_flows f row i j k of (omega (arith, is.within, high)) in
    let wx : int (pos x) ≡ m.width X i = width_meets g.x i x (ap (λ (lines : List ℕ). get_or lines (i + 1) 0 - get_or lines i 0) of.lines) in
    let wy : int (pos row.y.width) ≡ m.width Y j = width_meets g.y j row.y.width of.y in
    let wz : int (pos row.z.width) ≡ m.width Z k = width_meets g.z k row.z.width of.z in
    solid_is d.materials (m.occupant i j k) run.lambda (loss_at row run i) _ (is.own i low high)
    (λ n same.
    nine _ _ _ _ _ _ _ _ _ _ _ _ _ _ _ _ _ _
    (ap ceiling (cell_loss_meets run.lambda x row.y.width row.z.width q.x _ _ _ _ _ wx wy wz (ap int c.low_x) (ap int c.high_x)) ∙ ap (λ (l : ℕ). ceiling (t.cell X i j k (int (pos l)))) same)
    (ap ceiling (cell_loss_meets run.lambda row.y.width x row.z.width q.y _ _ _ _ _ wy wx wz (ap int c.low_y) (ap int c.high_y)) ∙ ap (λ (l : ℕ). ceiling (t.cell Y j i k (int (pos l)))) same)
    (ap ceiling (cell_loss_meets run.lambda row.z.width x row.y.width q.z _ _ _ _ _ wz wx wy (ap int c.low_z) (ap int c.high_z)) ∙ ap (λ (l : ℕ). ceiling (t.cell Z k i j (int (pos l)))) same)
    (side_loss_is d.materials _ _ row.y.width row.z.width q.x.low (λ e rs. ceiling (t.surface X i j k e rs true)) (low_is f.rows run i j k is low high)
    (λ e rs. ap ceiling (face_loss_meets rs row.y.width row.z.width q.x.low _ _ _ wy wz (ap int c.low_x))))
    (side_loss_is d.materials _ _ row.y.width row.z.width q.x.high (λ e rs. ceiling (t.surface X (suc i) j k e rs false)) (high_is f.rows run i j k is low high)
    (λ e rs. ap ceiling (face_loss_meets rs row.y.width row.z.width q.x.high _ _ _ wy wz (ap int c.high_x))))
    (side_loss_is d.materials _ _ x row.z.width q.y.low (λ e rs. ceiling (t.surface Y j i k e rs true)) (is.low_y i low high)
    (λ e rs. ap ceiling (face_loss_meets rs x row.z.width q.y.low _ _ _ wx wz (ap int c.low_y))))
    (side_loss_is d.materials _ _ x row.z.width q.y.high (λ e rs. ceiling (t.surface Y (suc j) i k e rs false)) (is.high_y i low high)
    (λ e rs. ap ceiling (face_loss_meets rs x row.z.width q.y.high _ _ _ wx wz (ap int c.high_y))))
    (side_loss_is d.materials _ _ x row.y.width q.z.low (λ e rs. ceiling (t.surface Z k i j e rs true)) (is.low_z i low high)
    (λ e rs. ap ceiling (face_loss_meets rs x row.y.width q.z.low _ _ _ wx wy (ap int c.low_z))))
    (side_loss_is d.materials _ _ x row.y.width q.z.high (λ e rs. ceiling (t.surface Z (suc k) i j e rs false)) (is.high_z i low high)
    (λ e rs. ap ceiling (face_loss_meets rs x row.y.width q.z.high _ _ _ wx wy (ap int c.high_z)))))

six : (lx hx ly hy lz hz zx zy zz px qx py qy pz qz : ℤ) → pos 0 ≡ zx → pos 0 ≡ zy → pos 0 ≡ zz → lx ≡ px → neg_ℤ hx ≡ qx → ly ≡ py → neg_ℤ hy ≡ qy → lz ≡ pz → neg_ℤ hz ≡ qz →
    (lx -ℤ hx) +ℤ ((ly -ℤ hy) +ℤ (lz -ℤ hz)) ≡ ((zx +ℤ (px +ℤ qx)) +ℤ (zy +ℤ (py +ℤ qy))) +ℤ (zz +ℤ (pz +ℤ qz))
six lx hx ly hy lz hz zx zy zz px qx py qy pz qz e1 e2 e3 e4 e5 e6 e7 e8 e9 = omega (arith, ints)

pub entered_cell_is : (f : BodyFlux) (row : FlowRow) (run : Run) (i j k : ℕ) → IsRowOfFlows f j k row → IsRunOf f.rows j k run → run.from ≤ i → i < run.to →
    entered_at row run i ≡ cell_up (mesh_under f.rows) (entering_under f) i j k
unfolding entered_at cell_up
entered_cell_is f row run i j k of is low high =
    let d = f.rows.body.now in let m = mesh_under f.rows in let t = entering_under f in
    let q = flows_at row.flows i in
    let c = are_flows f row i j k of (omega (arith, is.within, high)) in
    solid_is d.materials (m.occupant i j k) run.lambda (entered_at row run i) _ (is.own i low high)
    (λ n same.
    six _ _ _ _ _ _ _ _ _ _ _ _ _ _ _ (sym (ceiling-int (pos 0))) (sym (ceiling-int (pos 0))) (sym (ceiling-int (pos 0)))
    (low_entered_is d.materials row.mask _ _ q.x.low (λ e rs. ceiling (t.surface X i j k e rs true)) (low_is f.rows run i j k is low high)
    (λ e rs. low_flow_is row.mask f.case.mask e q.x.low _ of.mask c.low_x))
    (high_entered_is d.materials row.mask _ _ q.x.high (λ e rs. ceiling (t.surface X (suc i) j k e rs false)) (high_is f.rows run i j k is low high)
    (λ e rs. high_flow_is row.mask f.case.mask e q.x.high _ of.mask c.high_x))
    (low_entered_is d.materials row.mask _ _ q.y.low (λ e rs. ceiling (t.surface Y j i k e rs true)) (is.low_y i low high)
    (λ e rs. low_flow_is row.mask f.case.mask e q.y.low _ of.mask c.low_y))
    (high_entered_is d.materials row.mask _ _ q.y.high (λ e rs. ceiling (t.surface Y (suc j) i k e rs false)) (is.high_y i low high)
    (λ e rs. high_flow_is row.mask f.case.mask e q.y.high _ of.mask c.high_y))
    (low_entered_is d.materials row.mask _ _ q.z.low (λ e rs. ceiling (t.surface Z k i j e rs true)) (is.low_z i low high)
    (λ e rs. low_flow_is row.mask f.case.mask e q.z.low _ of.mask c.low_z))
    (high_entered_is d.materials row.mask _ _ q.z.high (λ e rs. ceiling (t.surface Z (suc k) i j e rs false)) (is.high_z i low high)
    (λ e rs. high_flow_is row.mask f.case.mask e q.z.high _ of.mask c.high_z)))

-- ---- a run
loss_run_is : (f : BodyFlux) (row : FlowRow) (run : Run) (j k n : ℕ) → IsRowOfFlows f j k row → IsRunOf f.rows j k run → run.from + n ≤ run.to →
    run_loss row run n ≡ cells_from (mesh_under f.rows) (loss_under f) j k run.from n
unfolding run_loss cells_from
loss_run_is f row run j k n of is l = sum-cong adds_ℤ n (λ m. loss_at row run (run.from + m)) (λ m. cell_up (mesh_under f.rows) (loss_under f) (run.from + m) j k)
    (λ m below. loss_cell_is f row run (run.from + m) j k of is (omega arith) (omega (arith, l, below)))

pub whole_loss_is : (f : BodyFlux) (row : FlowRow) (run : Run) (j k from to : ℕ) → from < to → IsRowOfFlows f j k row → IsWholeRun f.rows j k from to run →
    run_loss row run (run.to - run.from) ≡ cells_from (mesh_under f.rows) (loss_under f) j k from (to - from)
whole_loss_is f row run j k from to up of is =
    let ef = is.from_is in let et = is.to_is in
    loss_run_is f row run j k (run.to - run.from) of is.run (omega (arith, up, ef, et))
    ∙ ap (λ (n : ℕ). cells_from (mesh_under f.rows) (loss_under f) j k n (run.to - n)) ef ∙ ap (λ (n : ℕ). cells_from (mesh_under f.rows) (loss_under f) j k from (n - from)) et

entered_run_is : (f : BodyFlux) (row : FlowRow) (run : Run) (j k n : ℕ) → IsRowOfFlows f j k row → IsRunOf f.rows j k run → run.from + n ≤ run.to →
    run_entered row run n ≡ cells_from (mesh_under f.rows) (entering_under f) j k run.from n
unfolding run_entered cells_from
entered_run_is f row run j k n of is l = sum-cong adds_ℤ n (λ m. entered_at row run (run.from + m)) (λ m. cell_up (mesh_under f.rows) (entering_under f) (run.from + m) j k)
    (λ m below. entered_cell_is f row run (run.from + m) j k of is (omega arith) (omega (arith, l, below)))

pub whole_entered_is : (f : BodyFlux) (row : FlowRow) (run : Run) (j k from to : ℕ) → from < to → IsRowOfFlows f j k row → IsWholeRun f.rows j k from to run →
    run_entered row run (run.to - run.from) ≡ cells_from (mesh_under f.rows) (entering_under f) j k from (to - from)
whole_entered_is f row run j k from to up of is =
    let ef = is.from_is in let et = is.to_is in
    entered_run_is f row run j k (run.to - run.from) of is.run (omega (arith, up, ef, et))
    ∙ ap (λ (n : ℕ). cells_from (mesh_under f.rows) (entering_under f) j k n (run.to - n)) ef ∙ ap (λ (n : ℕ). cells_from (mesh_under f.rows) (entering_under f) j k from (n - from)) et
