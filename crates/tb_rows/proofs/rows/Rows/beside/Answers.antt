use Rattle.std.proofs.Common.{ℕ, suc, ◌-◌, ◌<◌, ◌≤◌, add-one, arith, refl, subst}
use Rattle.tb_places.specs.declared.AxisName.TheVariants.{X, Y, Z}
use Rattle.tb_places.specs.Places.{place_at}
use Rattle.tb_grid.specs.Grid.{counts_of}
use Rattle.tb_rows.specs.Around.{IsBaseAbove}
use Rattle.tb_rows.proofs.Filled.{high_side, lies_at, low_side}
use Rattle.tb_rows.proofs.rows.Rows.beside.Goals as goal

pub returns : goal.returns
returns c =
    let f = c.args.self.now in let d = f.body.now in let g = f.grid.now in let carries = c.requires.rows.carries in
    let a = c.requires.around in let at = c.args.around.now in let j = at.j in let k = at.k in let b = c.args.b in
    let from = c.args.from in let to = c.args.to in
    let up : from < to = c.requires.up in
    let end : to ≤ counts_of g X = c.requires.end in
    let hj : j < counts_of g Y = c.requires.within.0 in
    let hk : k < counts_of g Z = c.requires.within.1 in
    record {
      low_x = low_side d g X from j k _ _ c.base_below.ensures c.filling.ensures.none_x
          (λ s is some lies. c.filling.ensures.fills s at.base_j at.base_k (place_at (from - 1) j k) is refl refl carries (omega arith, hj, hk)
          (lies_at d g (from - 1) j k s at.base_j at.base_k lies a.at_j a.at_k));
      high_x = high_side d g X to j k _ _ c.base_above.ensures c.filling-2.ensures.none_x
          (λ s is inside lies. c.filling-2.ensures.fills s at.base_j at.base_k (place_at to j k) is refl refl carries (inside, hj, hk)
          (lies_at d g to j k s at.base_j at.base_k lies a.at_j a.at_k));
      low_y = λ i l u. low_side d g Y j i k _ _ a.low_j c.filling-3.ensures.none_y
          (λ s is some lies. c.filling-3.ensures.fills b s at.base_k (place_at i (j - 1) k) refl is refl carries (omega arith, omega arith, hk)
          (lies_at d g i (j - 1) k b s at.base_k (c.requires.lies i l u) lies a.at_k));
      high_y = λ i l u. high_side d g Y (suc j) i k _ _ (subst (λ (n : ℕ). IsBaseAbove d g Y n at.high_j) (add-one j) a.high_j) c.filling-4.ensures.none_y
          (λ s is inside lies. c.filling-4.ensures.fills b s at.base_k (place_at i (suc j) k) refl is refl carries (omega arith, inside, hk)
          (lies_at d g i (suc j) k b s at.base_k (c.requires.lies i l u) lies a.at_k));
      low_z = λ i l u. low_side d g Z k i j _ _ a.low_k c.filling-5.ensures.none_z
          (λ s is some lies. c.filling-5.ensures.fills b at.base_j s (place_at i j (k - 1)) refl refl is carries (omega arith, hj, omega arith)
          (lies_at d g i j (k - 1) b at.base_j s (c.requires.lies i l u) a.at_j lies));
      high_z = λ i l u. high_side d g Z (suc k) i j _ _ (subst (λ (n : ℕ). IsBaseAbove d g Z n at.high_k) (add-one k) a.high_k) c.filling-6.ensures.none_z
          (λ s is inside lies. c.filling-6.ensures.fills b at.base_j s (place_at i j (suc k)) refl refl is carries (omega arith, hj, inside)
          (lies_at d g i j (suc k) b at.base_j s (c.requires.lies i l u) a.at_j lies));
    }
