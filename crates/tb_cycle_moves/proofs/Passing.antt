-- Where a cycle was put as far as a cell, 1 enters the cell through one side, and nothing flows on its other sides and on
-- those of the cells to come.
use Rattle.std.proofs.Common.{◌≡◌, ◌≢◌, ℕ, ◌<◌, List, arith, refl, sym, ap, ◌∙◌, ⊎_elim, get_or-set_other, get_or-set_same}
use Rattle.std.specs.Prelude.{ℤ, pos, neg_ℤ}
use Rattle.std.proofs.lemmas.List.{length-replicate}
use Rattle.std.proofs.Math.ListN.{replicate}
use Rattle.tb_places.specs.Inverse.{cell_place}
use Rattle.tb_places.specs.Places.{face_count}
use Rattle.tb_model.specs.Mesh.{Mesh}
use Rattle.tb_outlets.specs.declared.side.Side.{Side}
use Rattle.tb_outlets.specs.declared.side.Side.TheVariants.{Low, High}
use Rattle.tb_outlets.specs.Balancing.{flow}
use Rattle.tb_outlets.specs.Cycles.{LeadsTo, carry, opposite, out}
use Rattle.tb_outlets.specs.Flows.{IsTree, Sides}
use Rattle.tb_outlets.specs.Outlets.{IsSolidAt}
use Rattle.tb_outlets.specs.Sides.{face_of}
use Rattle.tb_outlets.proofs.Carrying.{IsOnWay, carried, uncarried}
use Rattle.tb_outlets.proofs.MeshCycles.{none_flows, on_one}
use Rattle.tb_outlets.proofs.Sides.{faces_apart, number_below}
use Rattle.tb_cycles.specs.Entries.{IsEntry, entering_flow}

pub record IsPassing (face : Sides) (inside : ℕ → Type 0) (rank : ℕ → ℕ) (values : List ℤ) (c : ℕ) (s : Side) : Type 0 where
  pub enters : flow values (face c s) ≡ neg_ℤ (out s)
  pub others : (t : Side) → t ≢ s → flow values (face c t) ≡ pos 0
  pub ahead : (d : ℕ) (t : Side) → inside d → rank d < rank c → flow values (face d t) ≡ pos 0

pub out_turned : (o : Side) → out o ≡ neg_ℤ (out (opposite o))
out_turned (Low a) = refl
out_turned (High a) = refl

-- from a cell to the next
pub next_passing : (face : Sides) (inside : ℕ → Type 0) (outlet : ℕ → Side) (rank : ℕ → ℕ) (values : List ℤ) (c e : ℕ) (s : Side) → IsTree face inside outlet rank →
    IsOnWay face inside outlet rank values c → LeadsTo face inside outlet c e → IsPassing face inside rank values c s →
    IsPassing face inside rank (carry face outlet values c) e (opposite (outlet c))
next_passing face inside outlet rank values c e s tree way leads is =
    let after = carry face outlet values c in
    let falls : rank e < rank c = tree.inwards e c (opposite (outlet c)) leads.in_set way.here (λ same. leads.other (sym same)) leads.meets in
    record {
      enters = ap (flow after) leads.meets ∙ carried face outlet values c (way.below c way.here) ∙ out_turned (outlet c);
      others = λ t other. uncarried face outlet values c (face e t) (λ same. other (tree.apart e t (opposite (outlet c)) leads.in_set (same ∙ sym leads.meets)))
          ∙ is.ahead e t leads.in_set falls;
      ahead = λ d t in_set lower. uncarried face outlet values c (face d t) (λ same. ⊎_elim
          (λ (x : d ≡ c). let r = ap rank x in absurd (omega arith))
          (λ (x : d ≡ e). let r = ap rank x in absurd (omega arith))
          (leads.alone d t in_set same))
          ∙ is.ahead d t in_set (omega arith);
    }

-- at the cell where the cycle enters
pub begins_passing : (m : Mesh) (rank : ℕ → ℕ) (f c : ℕ) (s : Side) → IsEntry m f c s → IsPassing (face_of m.cells) (IsSolidAt m) rank (entering_flow m c s) c s
begins_passing m rank f c s entry =
    let n = m.cells in
    let below = number_below n (cell_place n c) s entry.solid.1.0 in
    let long = length-replicate (face_count n) (pos 0) in
    let elsewhere : (g : ℕ) → g ≢ face_of n c s → flow (entering_flow m c s) g ≡ pos 0 =
    λ g other. get_or-set_other (replicate (face_count n) (pos 0)) (face_of n c s) g (neg_ℤ (out s)) (pos 0) other ∙ none_flows (face_count n) g in
    record {
      enters = get_or-set_same (replicate (face_count n) (pos 0)) (face_of n c s) (neg_ℤ (out s)) (pos 0) (omega (arith, below, long));
      others = λ t other. elsewhere (face_of n c t) (λ same. other (faces_apart n (cell_place n c) t s entry.solid.1.0 same));
      ahead = λ d t in_set lower. elsewhere (face_of n d t) (λ same.
          let r = ap rank (on_one m c d t s entry.solid in_set entry.surface same) in absurd (omega arith));
    }
