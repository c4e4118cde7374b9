-- What lies beside the cells of a run along x.
use Rattle.std.proofs.Common.{◌≡◌, sym, ap, ◌∙◌, ℕ, suc, ◌+◌, ◌-◌, ◌<◌, ◌≤◌, ◌⊎◌, inl, inr, Some, Bool, true, false, if◌then◌else◌, arith, add-one, ◌==◌}
use Rattle.std.specs.Option.{option_map}
use Rattle.std.proofs.lemmas.Bool.Decides.{nat_tests}
use Rattle.tb_places.specs.declared.AxisName.TheVariants.{X}
use Rattle.tb_grid.specs.Grid.{counts_of}
use Rattle.tb_geometry.specs.Bodies.{filled_with}
use Rattle.tb_geometry.specs.Grids.{mesh_on}
use Rattle.tb_geometry.specs.declared.occupant.Occupant.TheVariants.{Solid}
use Rattle.tb_rows.specs.declared.rows.Rows.{Rows}
use Rattle.tb_rows.specs.declared.run.Run.{Run}
use Rattle.tb_rows.specs.Around.{filled_above, filled_below}
use Rattle.tb_rows.specs.Rows.{IsRunOf}
use Rattle.tb_rows.specs.Runs.{high_at, low_at}
use Rattle.tb_rows.proofs.Filled.{below_pred}
use Rattle.tb_rows.proofs.Grids.{counts_are}
use Rattle.tb_rows.proofs.Reordering.{above_within}

-- between its ends another cell of the run lies beside
pub own_below : (run : Run) (i : ℕ) → run.from < i → low_at run i ≡ Some (Solid run.lambda)
own_below run i l =
    let test : (i == run.from) ≡ false = grind (arith, nat_tests) in
    ap (λ (b : Bool). if b then run.low_x else Some (Solid run.lambda)) test

pub own_above : (run : Run) (i : ℕ) → i + 1 < run.to → high_at run i ≡ Some (Solid run.lambda)
own_above run i l =
    let test : (i + 1 == run.to) ≡ false = grind (arith, nat_tests) in
    ap (λ (b : Bool). if b then run.high_x else Some (Solid run.lambda)) test

pub low_is : (f : Rows) (run : Run) (i j k : ℕ) → IsRunOf f j k run → run.from ≤ i → i < run.to → low_at run i ≡ filled_below f.body.now f.grid.now X i j k
low_is f run i j k of low high = by_order (from_or_above i run.from low)
  where
    from_or_above : (i m : ℕ) → m ≤ i → (i ≡ m) ⊎ (m < i)
    from_or_above i m l = grind arith

    by_order : (i ≡ run.from) ⊎ (run.from < i) → low_at run i ≡ filled_below f.body.now f.grid.now X i j k
    by_order (inl e) =
        let test : (i == run.from) ≡ true = grind (arith, nat_tests) in
        ap (λ (b : Bool). if b then run.low_x else Some (Solid run.lambda)) test ∙ of.low_x ∙ sym (ap (λ (n : ℕ). filled_below f.body.now f.grid.now X n j k) e)
    by_order (inr l) =
        own_below run i l ∙ of.own (i - 1) (omega arith) (omega arith)
        ∙ sym (ap (option_map (filled_with f.body.now.materials)) (below_pred (λ n. (mesh_on f.body.now f.grid.now).occupant n j k) i (omega arith)))

pub high_is : (f : Rows) (run : Run) (i j k : ℕ) → IsRunOf f j k run → run.from ≤ i → i < run.to → high_at run i ≡ filled_above f.body.now f.grid.now X (suc i) j k
high_is f run i j k of low high = by_order (last_or_before i run.to high)
  where
    last_or_before : (i m : ℕ) → i < m → (i + 1 ≡ m) ⊎ (i + 1 < m)
    last_or_before i m l = grind arith

    by_order : (i + 1 ≡ run.to) ⊎ (i + 1 < run.to) → high_at run i ≡ filled_above f.body.now f.grid.now X (suc i) j k
    by_order (inl e) =
        let test : (i + 1 == run.to) ≡ true = grind (arith, nat_tests) in
        ap (λ (b : Bool). if b then run.high_x else Some (Solid run.lambda)) test ∙ of.high_x ∙ sym (ap (λ (n : ℕ). filled_above f.body.now f.grid.now X n j k) (sym (add-one i) ∙ e))
    by_order (inr l) =
        let within : run.to ≤ counts_of f.grid.now X = of.within in
        let is = counts_are f.grid.now X in
        own_above run i l ∙ of.own (suc i) (omega arith) (omega arith)
        ∙ sym (ap (option_map (filled_with f.body.now.materials))
        (above_within ((mesh_on f.body.now f.grid.now).cells X) (suc i) (λ n. (mesh_on f.body.now f.grid.now).occupant n j k) (omega (arith, within, is, l))))
