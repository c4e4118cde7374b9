-- Balance, place by place.
use Rattle.std.proofs.Common.{◌≡◌, ◌↔◌, ℕ, ◌<◌, ◌≤◌, sym, ◌∙◌}
use Rattle.std.specs.Prelude.{ℤ, pos}
use Rattle.tb_math.specs.Rational.{int}
use Rattle.tb_places.specs.declared.AxisName.{AxisName}
use Rattle.tb_places.specs.declared.AxisName.TheVariants.{X, Y, Z}
use Rattle.tb_places.specs.Places.{along, place_at, second, third}
use Rattle.tb_model.specs.declared.FaceKind.TheVariants.{Shut}
use Rattle.tb_model.specs.Energy.{Flux, IsBalanced}
use Rattle.tb_model.specs.Faults.{IsFirstOuter, IsFirstUnbalanced}
use Rattle.tb_model.specs.Mesh.{Mesh, kind}
use Rattle.tb_flux.proofs.Firsts.{int-zero}
use Rattle.tb_flux.specs.Fluxes.{KeepsHeat, ShutsOff}

pub shut_off : (m : Mesh) (q : Flux) → IsBalanced m q → ShutsOff m q
shut_off m q balanced X p (on_x, on_y, on_z) shut = balanced.shut X p.i p.j p.k on_x on_y on_z shut
shut_off m q balanced Y p (on_x, on_y, on_z) shut = balanced.shut Y p.j p.i p.k on_y on_x on_z shut
shut_off m q balanced Z p (on_x, on_y, on_z) shut = balanced.shut Z p.k p.i p.j on_z on_x on_y shut

shut_along : (m : Mesh) (q : Flux) → ShutsOff m q → (a : AxisName) (i j k : ℕ) →
    i ≤ m.cells a → j < m.cells (second a) → k < m.cells (third a) → kind m a i j k ≡ Shut → along a (q a) i j k ≡ int (pos 0)
shut_along m q off X i j k on_a on_second on_third shut = off X (place_at i j k) (on_a, on_second, on_third) shut
shut_along m q off Y i j k on_a on_second on_third shut = off Y (place_at j i k) (on_second, on_a, on_third) shut
shut_along m q off Z i j k on_a on_second on_third shut = off Z (place_at j k i) (on_second, on_third, on_a) shut

pub balanced_in_parts : (m : Mesh) (q : Flux) → IsBalanced m q ↔ (ShutsOff m q × KeepsHeat m q)
balanced_in_parts m q = (
  λ balanced. (shut_off m q balanced, λ p cell solid. balanced.cells p.i p.j p.k solid.material cell.0 cell.1 cell.2 solid.fills),
  λ parts. record {
    cells = λ i j k material on_x on_y on_z fills. parts.1 (place_at i j k) (on_x, on_y, on_z) (record { material = material; fills = fills });
    shut = shut_along m q parts.0;
  },
)

pub leak_unbalances : (m : Mesh) (q : Flux) (f : ℕ) → IsBalanced m q → IsFirstOuter m q f → ⊥
leak_unbalances m q f balanced leak = leak.passing (shut_off m q balanced leak.axis leak.face leak.in_mesh leak.shut)

pub loss_is_no_heat_kept : (m : Mesh) (q : Flux) (c : ℕ) (sum : ℤ) → KeepsHeat m q → IsFirstUnbalanced m q c sum → ⊥
loss_is_no_heat_kept m q c sum kept loss = loss.unbalanced (int-zero sum (sym loss.leaving ∙ kept loss.cell loss.in_mesh loss.solid))
