-- A flux is balanced where nothing is lost in its solid cells, by the numbers of cells and faces.
use Rattle.std.proofs.Common.{◌≡◌, ℕ, List, add-one, refl, sym, ap, subst, ◌∙◌}
use Rattle.std.specs.Prelude.{ℤ, pos, ◌+ℤ◌, ◌-ℤ◌}
use Rattle.tb_math.specs.Rational.{◌≤ℚ◌, ℚ, int, ◌+ℚ◌, ◌-ℚ◌}
use Rattle.tb_math.specs.Integers.{le_antisym}
use Rattle.tb_math.proofs.RationalLaws.{int-difference, int-add}
use Rattle.tb_math.proofs.RationalOrder.{≤ℚ-refl}
use Rattle.tb_math.proofs.StrictOrder.{int-≤}
use Rattle.tb_places.specs.declared.Place.{Place}
use Rattle.tb_places.specs.Inverse.{cell_place}
use Rattle.tb_places.specs.Places.{Counts}
use Rattle.tb_model.specs.Values.{flux_of}
use Rattle.tb_model.specs.Energy.{outflow}
use Rattle.tb_outlets.specs.Flows.{net}
use Rattle.tb_outlets.specs.Sides.{face_of}
use Rattle.tb_outlets.specs.Balancing.{flow}

int_apart : (a b : ℤ) → int a ≡ int b → a ≡ b
int_apart a b same = le_antisym a b
    (int-≤ a b (subst (λ (q : ℚ). int a ≤ℚ q) same (≤ℚ-refl (int a))))
    (int-≤ b a (subst (λ (q : ℚ). q ≤ℚ int a) same (≤ℚ-refl (int a))))

three_differences : (a b c d e f : ℤ) → int ((a -ℤ b) +ℤ (c -ℤ d) +ℤ (e -ℤ f)) ≡ (int a -ℚ int b) +ℚ (int c -ℚ int d) +ℚ (int e -ℚ int f)
three_differences a b c d e f =
    int-add ((a -ℤ b) +ℤ (c -ℤ d)) (e -ℤ f)
    ∙ rw (int-add (a -ℤ b) (c -ℤ d), int-difference a b, int-difference c d, int-difference e f) refl

-- what leaves the cell with a number
outflow_at : (n : Counts) (values : List ℤ) (c : ℕ) → let p = cell_place n c in
    outflow (flux_of n values) p.i p.j p.k ≡ int (net (face_of n) (flow values) c)
outflow_at n values c =
    let p = cell_place n c in
    rw (← add-one p.i, ← add-one p.j, ← add-one p.k) (sym (three_differences _ _ _ _ _ _))

pub nothing_lost : (n : Counts) (values : List ℤ) (c : ℕ) (p : Place) → cell_place n c ≡ p →
    net (face_of n) (flow values) c ≡ pos 0 → outflow (flux_of n values) p.i p.j p.k ≡ int (pos 0)
nothing_lost n values c p place none =
    subst (λ (q : Place). outflow (flux_of n values) q.i q.j q.k ≡ int (pos 0)) place (outflow_at n values c ∙ ap int none)

pub none_lost : (n : Counts) (values : List ℤ) (c : ℕ) → let p = cell_place n c in
    outflow (flux_of n values) p.i p.j p.k ≡ int (pos 0) → net (face_of n) (flow values) c ≡ pos 0
none_lost n values c none = int_apart _ (pos 0) (sym (outflow_at n values c) ∙ none)
