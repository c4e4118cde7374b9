-- Where a sum up to a row passes the limit, the whole does.
use Rattle.std.specs.Prelude.{Result, Ok, Err, OnErr}
use Rattle.std.proofs.Common.{◌≡◌, ℕ, ◌+◌, ◌^◌, ◌<◌, ◌≤◌, ℤ, pos, ◌+ℤ◌, ◌≤ℤ◌, ◌<ℤ◌, arith}
use Rattle.std.proofs.lemmas.Int.{ints}
use Rattle.tb_places.specs.declared.AxisName.TheVariants.{X, Y, Z}
use Rattle.tb_model.specs.Energy.{Terms, rounded_up}
use Rattle.tb_model.specs.Mesh.{Mesh}
use Rattle.tb_rows.specs.Sums.{cells_up, layers_up, rows_up}
use Rattle.tb_rows.proofs.Sums.{Rises, layers_part, rows_part}

pub on_err : {T E : Type 0} (r : Result T E) (P : Type 0) → P → OnErr r P
on_err (Ok x) P p = tt
on_err (Err e) P p = p

passed : (total term : ℕ) (old value whole : ℤ) → pos total ≡ old → pos term ≡ value → 2 ^ 120 < total + term → (old +ℤ value) ≤ℤ whole → pos (2 ^ 120) <ℤ whole
passed total term old value whole e f past l = omega (arith, ints, past)

pub past_after_row : (m : Mesh) (t : Terms) → Rises m t → (j k total row : ℕ) → j < m.cells Y → k < m.cells Z → pos total ≡ rows_up m t k j → pos row ≡ cells_up m t j k (m.cells X) →
    2 ^ 120 < total + row → pos (2 ^ 120) <ℤ rows_up m t k (m.cells Y)
past_after_row m t rises j k total row lj lk e f past = passed total row _ _ _ e f past (rows_part m t rises j k lj lk)

pub past_after_layer : (m : Mesh) (t : Terms) → Rises m t → (k total layer : ℕ) → k < m.cells Z → pos total ≡ layers_up m t k → pos layer ≡ rows_up m t k (m.cells Y) →
    2 ^ 120 < total + layer → pos (2 ^ 120) <ℤ rounded_up m t
past_after_layer m t rises k total layer lk e f past = passed total layer _ _ _ e f past (layers_part m t rises k lk)

still : (total : ℕ) (old layer whole : ℤ) → pos total ≡ old → pos (2 ^ 120) <ℤ layer → (old +ℤ layer) ≤ℤ whole → pos (2 ^ 120) <ℤ whole
still total old layer whole e past l = omega (arith, ints)

pub past_at_layer : (m : Mesh) (t : Terms) → Rises m t → (k total : ℕ) → k < m.cells Z → pos total ≡ layers_up m t k → pos (2 ^ 120) <ℤ rows_up m t k (m.cells Y) →
    pos (2 ^ 120) <ℤ rounded_up m t
past_at_layer m t rises k total lk e past = still total _ _ _ e past (layers_part m t rises k lk)

pub not_past : (loss : ℕ) (whole : ℤ) → loss ≤ 2 ^ 120 → pos loss ≡ whole → pos (2 ^ 120) <ℤ whole → ⊥
not_past loss whole l e past = absurd (omega (arith, ints, l, e, past))
