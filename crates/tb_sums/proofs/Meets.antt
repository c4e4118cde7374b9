-- The numbers of a cell of a run meet the terms of the model.
use Rattle.std.proofs.Common.{◌≡◌, refl, sym, ap, ◌∙◌, ℕ, suc, ◌+◌, ◌-◌, ◌<◌, ◌≤◌, ◌^◌, List, get_or, map, Option, Some, None, Bool, true, false, if◌then◌else◌, ℤ, pos, ◌+ℤ◌, ◌-ℤ◌, arith, add-one}
use Rattle.std.specs.Option.{option_map}
use Rattle.std.proofs.lemmas.Int.{ints}
use Rattle.tb_math.specs.Rational.{ℚ, int, one_over, ratio, ◌*ℚ◌, ◌-ℚ◌}
use Rattle.tb_math.specs.Ceiling.{ceiling}
use Rattle.tb_math.proofs.RationalLaws.{int-difference, *ℚ_comm, *ℚ_one}
use Rattle.tb_math.proofs.SumInstances.{adds_ℤ}
use Rattle.tb_math.proofs.SumLaws.{sum-cong}
use Rattle.tb_places.specs.declared.AxisName.TheVariants.{X, Y, Z}
use Rattle.tb_detail.specs.declared.Content.{Content}
use Rattle.tb_detail.specs.declared.Content.TheVariants as content
use Rattle.tb_detail.specs.declared.Material.{Material}
use Rattle.tb_grid.specs.Grid.{counts_of}
use Rattle.tb_model.specs.Energy.{boundary, cell_energy, of_solid, spread, surface_energy}
use Rattle.tb_model.specs.Values.{case_of}
use Rattle.tb_terms.specs.Terms.{field_cell_term, field_face_term}
use Rattle.tb_geometry.specs.Bodies.{filled_with}
use Rattle.tb_geometry.specs.declared.occupant.Occupant.{Occupant}
use Rattle.tb_geometry.specs.declared.occupant.Occupant.TheVariants.{Solid, Air}
use Rattle.tb_sums.specs.declared.cell.Corners.{Corners}
use Rattle.tb_sums.specs.declared.energy.BodyField.{BodyField}
use Rattle.tb_sums.specs.declared.row.Row.{Row}
use Rattle.tb_rows.specs.declared.run.Run.{Run}
use Rattle.tb_rows.specs.Cells.{at_air}
use Rattle.tb_rows.specs.Rows.{IsRunOf, IsWholeRun, mesh_under}
use Rattle.tb_rows.specs.Sums.{cell_up, cells_from}
use Rattle.tb_rows.proofs.Sides.{high_is, low_is}
use Rattle.tb_sums.specs.BodyFields.{IsRowOf, node_at, terms_under}
use Rattle.tb_sums.specs.Corners.{cell_at, face_across, face_at}
use Rattle.tb_sums.specs.NodeRows.{corners_at}
use Rattle.tb_sums.specs.RunSums.{run_up, solid_at}
use Rattle.tb_sums.specs.Sides.{level_of, side_up}

-- ---- terms
spreads : (p q r s p' q' r' s' : ℚ) → p ≡ p' → q ≡ q' → r ≡ r' → s ≡ s' → spread p q r s ≡ spread p' q' r' s'
spreads p q r s p' q' r' s' e f g h = ap (λ t. spread t q r s) e ∙ ap (λ t. spread p' t r s) f ∙ ap (λ t. spread p' q' t s) g ∙ ap (λ t. spread p' q' r' t) h

pub areas : (b c : ℕ) (B C : ℚ) → int (pos b) ≡ B → int (pos c) ≡ C → int (pos b) *ℚ int (pos c) ≡ B *ℚ C
areas b c B C e f = ap (λ (q : ℚ). q *ℚ int (pos c)) e ∙ ap (λ (q : ℚ). B *ℚ q) f

cell_meets : (lambda a b c : ℕ) (d00 d10 d01 d11 : ℤ) (A B C e00 e10 e01 e11 : ℚ) → int (pos a) ≡ A → int (pos b) ≡ B → int (pos c) ≡ C →
    int d00 ≡ e00 → int d10 ≡ e10 → int d01 ≡ e01 → int d11 ≡ e11 →
    field_cell_term (cell_at lambda a b c d00 d10 d01 d11) ≡ cell_energy (int (pos lambda)) A (B *ℚ C) (spread e00 e10 e01 e11)
cell_meets lambda a b c d00 d10 d01 d11 A B C e00 e10 e01 e11 ea eb ec h00 h10 h01 h11 =
    ap (λ (w : ℚ). cell_energy (int (pos lambda)) w (int (pos b) *ℚ int (pos c)) (spread (int d00) (int d10) (int d01) (int d11))) ea
    ∙ ap (λ (w : ℚ). cell_energy (int (pos lambda)) A w (spread (int d00) (int d10) (int d01) (int d11))) (areas b c B C eb ec)
    ∙ ap (λ (w : ℚ). cell_energy (int (pos lambda)) A (B *ℚ C) w) (spreads _ _ _ _ _ _ _ _ h00 h10 h01 h11)

face_meets : (rs b c : ℕ) (d00 d10 d01 d11 : ℤ) (B C e00 e10 e01 e11 : ℚ) → int (pos b) ≡ B → int (pos c) ≡ C →
    int d00 ≡ e00 → int d10 ≡ e10 → int d01 ≡ e01 → int d11 ≡ e11 →
    field_face_term (face_at rs b c d00 d10 d01 d11) ≡ surface_energy rs (B *ℚ C) (spread e00 e10 e01 e11)
face_meets rs b c d00 d10 d01 d11 B C e00 e10 e01 e11 eb ec h00 h10 h01 h11 =
    ap (λ (w : ℚ). surface_energy rs w (spread (int d00) (int d10) (int d01) (int d11))) (areas b c B C eb ec)
    ∙ ap (λ (w : ℚ). surface_energy rs (B *ℚ C) w) (spreads _ _ _ _ _ _ _ _ h00 h10 h01 h11)

-- ---- numbers
rise_meets : (x y u v : ℤ) → x ≡ u → y ≡ v → int (x -ℤ y) ≡ int u -ℚ int v
rise_meets x y u v e f = ap (λ (z : ℤ). int (z -ℤ y)) e ∙ ap (λ (z : ℤ). int (u -ℤ z)) f ∙ int-difference u v

level_meets : (m n e : ℕ) → m ≡ n → int (level_of m e) ≡ boundary (case_of n) e
level_meets m n e is = ap (λ (p : ℕ). int (level_of p e)) is ∙ by_test (case_of n e)
  where
    by_test : (b : Bool) → int (if b then pos (10 ^ 8) else pos 0) ≡ (if b then int (pos (10 ^ 8)) else int (pos 0))
    by_test true = refl
    by_test false = refl

excess_meets : (x u : ℤ) (m n e : ℕ) → x ≡ u → m ≡ n → int (x -ℤ level_of m e) ≡ int u -ℚ boundary (case_of n) e
excess_meets x u m n e is case_is = rise_meets x (level_of m e) u (level_of m e) is refl ∙ ap (λ (q : ℚ). int u -ℚ q) (level_meets m n e case_is)

one_over_one : one_over 1 ≡ int (pos 1)
unfolding one_over int
one_over_one = refl

unscaled_width : (n : ℕ) → int (pos n) ≡ int (pos n) *ℚ one_over 1
unscaled_width n = sym (ap (λ (q : ℚ). int (pos n) *ℚ q) one_over_one ∙ *ℚ_comm (int (pos n)) (int (pos 1)) ∙ *ℚ_one (int (pos n)))

pub width_meets : (lines : List ℕ) (i w : ℕ) → w ≡ get_or lines (i + 1) 0 - get_or lines i 0 → int (pos w) ≡ ratio (pos (get_or lines (suc i) 0 - get_or lines i 0)) 1
width_meets lines i w e =
    ap (λ (n : ℕ). int (pos n)) (e ∙ ap (λ (n : ℕ). get_or lines n 0 - get_or lines i 0) (add-one i))
    ∙ unscaled_width (get_or lines (suc i) 0 - get_or lines i 0)

-- ---- the corners of a cell
record AreCorners (f : BodyField) (i j k : ℕ) (t : Corners) : Type 0 where
  pub at_000 : t.t000 ≡ node_at f i j k
  pub at_100 : t.t100 ≡ node_at f (suc i) j k
  pub at_010 : t.t010 ≡ node_at f i (suc j) k
  pub at_110 : t.t110 ≡ node_at f (suc i) (suc j) k
  pub at_001 : t.t001 ≡ node_at f i j (suc k)
  pub at_101 : t.t101 ≡ node_at f (suc i) j (suc k)
  pub at_011 : t.t011 ≡ node_at f i (suc j) (suc k)
  pub at_111 : t.t111 ≡ node_at f (suc i) (suc j) (suc k)

corner_at : (f : BodyField) (t : ℤ) (a b c d e g : ℕ) → t ≡ node_at f a b c → a ≡ d → b ≡ e → c ≡ g → t ≡ node_at f d e g
corner_at f t a b c d e g is ea eb ec = is ∙ ap (λ (n : ℕ). node_at f n b c) ea ∙ ap (λ (n : ℕ). node_at f d n c) eb ∙ ap (λ (n : ℕ). node_at f d e n) ec

are_corners : (f : BodyField) (row : Row) (i j k : ℕ) → IsRowOf f j k row → i < counts_of f.rows.grid.now X → AreCorners f i j k (corners_at row.nodes i)
are_corners f row i j k of l =
    let n = of.nodes in
    record {
      at_000 = n.t00.values i (omega arith);
      at_100 = corner_at f _ (i + 1) j k (suc i) j k (n.t00.values (i + 1) (omega arith)) (add-one i) refl refl;
      at_010 = corner_at f _ i (j + 1) k i (suc j) k (n.t10.values i (omega arith)) refl (add-one j) refl;
      at_110 = corner_at f _ (i + 1) (j + 1) k (suc i) (suc j) k (n.t10.values (i + 1) (omega arith)) (add-one i) (add-one j) refl;
      at_001 = corner_at f _ i j (k + 1) i j (suc k) (n.t01.values i (omega arith)) refl refl (add-one k);
      at_101 = corner_at f _ (i + 1) j (k + 1) (suc i) j (suc k) (n.t01.values (i + 1) (omega arith)) (add-one i) refl (add-one k);
      at_011 = corner_at f _ i (j + 1) (k + 1) i (suc j) (suc k) (n.t11.values i (omega arith)) refl (add-one j) (add-one k);
      at_111 = corner_at f _ (i + 1) (j + 1) (k + 1) (suc i) (suc j) (suc k) (n.t11.values (i + 1) (omega arith)) (add-one i) (add-one j) (add-one k);
    }

-- ---- the sides of a cell
-- what a side adds is the term of the surface where air lies beside
side_is : (materials : List Material) (mask : ℕ) (o : Option Content) (r : Option Occupant) (b c : ℕ) (t00 t10 t01 t11 : ℤ) (h : ℕ → ℕ → ℤ) →
    r ≡ option_map (filled_with materials) o →
    ((e rs : ℕ) → ceiling (field_face_term (face_across rs b c (level_of mask e) t00 t10 t01 t11)) ≡ h e rs) → side_up mask r b c t00 t10 t01 t11 ≡ at_air (pos 0) h o
side_is materials mask (Some (content.Air e rs)) r b c t00 t10 t01 t11 h is k = ap (λ (s : Option Occupant). side_up mask s b c t00 t10 t01 t11) is ∙ k e rs
side_is materials mask (Some (content.Solid n)) r b c t00 t10 t01 t11 h is k = ap (λ (s : Option Occupant). side_up mask s b c t00 t10 t01 t11) is
side_is materials mask None r b c t00 t10 t01 t11 h is k = ap (λ (s : Option Occupant). side_up mask s b c t00 t10 t01 t11) is

-- the surface of a side, in the numbers of the cell
surface_is : (n mask rs b c e : ℕ) (B C : ℚ) (t00 t10 t01 t11 u00 u10 u01 u11 : ℤ) → int (pos b) ≡ B → int (pos c) ≡ C → mask ≡ n →
    t00 ≡ u00 → t10 ≡ u10 → t01 ≡ u01 → t11 ≡ u11 →
    ceiling (field_face_term (face_across rs b c (level_of mask e) t00 t10 t01 t11))
    ≡ ceiling (surface_energy rs (B *ℚ C)
    (spread (int u00 -ℚ boundary (case_of n) e) (int u10 -ℚ boundary (case_of n) e) (int u01 -ℚ boundary (case_of n) e) (int u11 -ℚ boundary (case_of n) e)))
surface_is n mask rs b c e B C t00 t10 t01 t11 u00 u10 u01 u11 eb ec em h00 h10 h01 h11 =
    ap ceiling (face_meets rs b c _ _ _ _ B C _ _ _ _ eb ec (excess_meets t00 u00 mask n e h00 em) (excess_meets t10 u10 mask n e h10 em)
    (excess_meets t01 u01 mask n e h01 em) (excess_meets t11 u11 mask n e h11 em))

-- ---- a cell
pub solid_is : (materials : List Material) (o : Option Content) (lambda : ℕ) (v : ℤ) (h : ℕ → ℤ) → Some (Solid lambda) ≡ option_map (filled_with materials) o →
    ((n : ℕ) → lambda ≡ get_or (map (λ m. m.lambda) materials) n 0 → v ≡ h n) → v ≡ of_solid (pos 0) h o
solid_is materials (Some (content.Solid n)) lambda v h is k = k n (same lambda (get_or (map (λ m. m.lambda) materials) n 0) is)
  where
    same : (a b : ℕ) → Some (Solid a) ≡ Some (Solid b) → a ≡ b
    same a b e = cc
solid_is materials (Some (content.Air e rs)) lambda v h is k = absurd (other lambda e rs is)
  where
    other : (a b c : ℕ) → Some (Solid a) ≡ Some (Air b c) → ⊥
    other a b c e = cc
solid_is materials None lambda v h is k = absurd (other lambda is)
  where
    other : (a : ℕ) → Some (Solid a) ≡ None → ⊥
    other a e = cc

pub nine : (cx cy cz lx hx ly hy lz hz ax ay az px qx py qy pz qz : ℤ) → cx ≡ ax → cy ≡ ay → cz ≡ az → lx ≡ px → hx ≡ qx → ly ≡ py → hy ≡ qy → lz ≡ pz → hz ≡ qz →
    (cx +ℤ cy +ℤ cz) +ℤ ((lx +ℤ hx) +ℤ ((ly +ℤ hy) +ℤ (lz +ℤ hz))) ≡ ((ax +ℤ (px +ℤ qx)) +ℤ (ay +ℤ (py +ℤ qy))) +ℤ (az +ℤ (pz +ℤ qz))
nine cx cy cz lx hx ly hy lz hz ax ay az px qx py qy pz qz e1 e2 e3 e4 e5 e6 e7 e8 e9 = omega (arith, ints)

pub cell_is : (f : BodyField) (row : Row) (run : Run) (i j k : ℕ) → IsRowOf f j k row → IsRunOf f.rows j k run → run.from ≤ i → i < run.to →
    solid_at row run i ≡ cell_up (mesh_under f.rows) (terms_under f) i j k
unfolding solid_at cell_up
cell_is f row run i j k of is low high =
    let d = f.rows.body.now in let g = f.rows.grid.now in let m = mesh_under f.rows in
    let t = corners_at row.nodes i in
    let x = get_or row.lines.now (i + 1) 0 - get_or row.lines.now i 0 in
    let c = are_corners f row i j k of (omega (arith, is.within, high)) in
    let wx : int (pos x) ≡ m.width X i = width_meets g.x i x (ap (λ (lines : List ℕ). get_or lines (i + 1) 0 - get_or lines i 0) of.lines) in
    let wy : int (pos row.y.width) ≡ m.width Y j = width_meets g.y j row.y.width of.y in
    let wz : int (pos row.z.width) ≡ m.width Z k = width_meets g.z k row.z.width of.z in
    solid_is d.materials (m.occupant i j k) run.lambda (solid_at row run i) _ (is.own i low high)
    (λ n same.
    nine _ _ _ _ _ _ _ _ _ _ _ _ _ _ _ _ _ _
    (ap ceiling (cell_meets run.lambda x row.y.width row.z.width _ _ _ _ _ _ _ _ _ _ _ wx wy wz (rise_meets _ _ _ _ c.at_100 c.at_000) (rise_meets _ _ _ _ c.at_110 c.at_010)
    (rise_meets _ _ _ _ c.at_101 c.at_001) (rise_meets _ _ _ _ c.at_111 c.at_011)) ∙ ap (λ (l : ℕ). ceiling ((terms_under f).cell X i j k (int (pos l)))) same)
    (ap ceiling (cell_meets run.lambda row.y.width x row.z.width _ _ _ _ _ _ _ _ _ _ _ wy wx wz (rise_meets _ _ _ _ c.at_010 c.at_000) (rise_meets _ _ _ _ c.at_110 c.at_100)
    (rise_meets _ _ _ _ c.at_011 c.at_001) (rise_meets _ _ _ _ c.at_111 c.at_101)) ∙ ap (λ (l : ℕ). ceiling ((terms_under f).cell Y j i k (int (pos l)))) same)
    (ap ceiling (cell_meets run.lambda row.z.width x row.y.width _ _ _ _ _ _ _ _ _ _ _ wz wx wy (rise_meets _ _ _ _ c.at_001 c.at_000) (rise_meets _ _ _ _ c.at_101 c.at_100)
    (rise_meets _ _ _ _ c.at_011 c.at_010) (rise_meets _ _ _ _ c.at_111 c.at_110)) ∙ ap (λ (l : ℕ). ceiling ((terms_under f).cell Z k i j (int (pos l)))) same)
    (side_is d.materials row.mask _ _ row.y.width row.z.width t.t000 t.t010 t.t001 t.t011 (λ e rs. ceiling ((terms_under f).surface X i j k e rs true)) (low_is f.rows run i j k is low high)
    (λ e rs. surface_is f.case.mask row.mask rs row.y.width row.z.width e _ _ _ _ _ _ _ _ _ _ wy wz of.mask c.at_000 c.at_010 c.at_001 c.at_011))
    (side_is d.materials row.mask _ _ row.y.width row.z.width t.t100 t.t110 t.t101 t.t111 (λ e rs. ceiling ((terms_under f).surface X (suc i) j k e rs false)) (high_is f.rows run i j k is low high)
    (λ e rs. surface_is f.case.mask row.mask rs row.y.width row.z.width e _ _ _ _ _ _ _ _ _ _ wy wz of.mask c.at_100 c.at_110 c.at_101 c.at_111))
    (side_is d.materials row.mask _ _ x row.z.width t.t000 t.t100 t.t001 t.t101 (λ e rs. ceiling ((terms_under f).surface Y j i k e rs true)) (is.low_y i low high)
    (λ e rs. surface_is f.case.mask row.mask rs x row.z.width e _ _ _ _ _ _ _ _ _ _ wx wz of.mask c.at_000 c.at_100 c.at_001 c.at_101))
    (side_is d.materials row.mask _ _ x row.z.width t.t010 t.t110 t.t011 t.t111 (λ e rs. ceiling ((terms_under f).surface Y (suc j) i k e rs false)) (is.high_y i low high)
    (λ e rs. surface_is f.case.mask row.mask rs x row.z.width e _ _ _ _ _ _ _ _ _ _ wx wz of.mask c.at_010 c.at_110 c.at_011 c.at_111))
    (side_is d.materials row.mask _ _ x row.y.width t.t000 t.t100 t.t010 t.t110 (λ e rs. ceiling ((terms_under f).surface Z k i j e rs true)) (is.low_z i low high)
    (λ e rs. surface_is f.case.mask row.mask rs x row.y.width e _ _ _ _ _ _ _ _ _ _ wx wy of.mask c.at_000 c.at_100 c.at_010 c.at_110))
    (side_is d.materials row.mask _ _ x row.y.width t.t001 t.t101 t.t011 t.t111 (λ e rs. ceiling ((terms_under f).surface Z (suc k) i j e rs false)) (is.high_z i low high)
    (λ e rs. surface_is f.case.mask row.mask rs x row.y.width e _ _ _ _ _ _ _ _ _ _ wx wy of.mask c.at_001 c.at_101 c.at_011 c.at_111)))

-- ---- a run
run_is : (f : BodyField) (row : Row) (run : Run) (j k n : ℕ) → IsRowOf f j k row → IsRunOf f.rows j k run → run.from + n ≤ run.to →
    run_up row run n ≡ cells_from (mesh_under f.rows) (terms_under f) j k run.from n
unfolding run_up cells_from
run_is f row run j k n of is l = sum-cong adds_ℤ n (λ m. solid_at row run (run.from + m)) (λ m. cell_up (mesh_under f.rows) (terms_under f) (run.from + m) j k)
    (λ m below. cell_is f row run (run.from + m) j k of is (omega arith) (omega (arith, l, below)))

pub whole_run_is : (f : BodyField) (row : Row) (run : Run) (j k from to : ℕ) → from < to → IsRowOf f j k row → IsWholeRun f.rows j k from to run →
    run_up row run (run.to - run.from) ≡ cells_from (mesh_under f.rows) (terms_under f) j k from (to - from)
whole_run_is f row run j k from to up of is =
    let ef = is.from_is in let et = is.to_is in
    run_is f row run j k (run.to - run.from) of is.run (omega (arith, up, ef, et))
    ∙ ap (λ (n : ℕ). cells_from (mesh_under f.rows) (terms_under f) j k n (run.to - n)) ef ∙ ap (λ (n : ℕ). cells_from (mesh_under f.rows) (terms_under f) j k from (n - from)) et
