-- What a table tells of a face by its indexes along an axis.
use Rattle.std.proofs.Common.{◌≡◌, ap, ◌∙◌, ℕ, List}
use lib.IntN.{ℤ}
use Rattle.tb_places.specs.declared.AxisName.{AxisName}
use Rattle.tb_relax.specs.declared.table.Table.{Table}
use Rattle.tb_relax.specs.Tables.{slope_through}

pub same_slope : (t : Table) (flows : List ℤ) {a b : AxisName} {i j k p q r : ℕ} → a ≡ b → i ≡ p → j ≡ q → k ≡ r → slope_through t flows a i j k ≡ slope_through t flows b p q r
same_slope t flows {a} {b} {i} {j} {k} {p} {q} {r} e f g h =
    ap (λ (x : AxisName). slope_through t flows x i j k) e ∙ ap (λ (x : ℕ). slope_through t flows b x j k) f ∙ ap (λ (x : ℕ). slope_through t flows b p x k) g ∙ ap (λ (x : ℕ). slope_through t flows b p q x) h
