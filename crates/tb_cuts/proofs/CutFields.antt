-- The energy of a field is kept by a cut.
use mathlib.Core.Path.{◌≡◌, refl, ap, ◌∙◌}
use Prim.Native.Nat.{ℕ, suc, ◌<◌}
use Rattle.std.specs.Prelude.{Option, Bool}
use Rattle.tb_math.specs.Rational.{ℚ, ◌+ℚ◌, ◌-ℚ◌, ◌*ℚ◌}
use Rattle.tb_math.proofs.ReadRationals.{by_reading, reading}
use mathlib.Core.List.{[], ◌∷◌}
use Rattle.tb_places.specs.declared.AxisName.{AxisName}
use Rattle.tb_places.specs.declared.AxisName.TheVariants.{X, Y, Z}
use Rattle.tb_places.specs.Places.{along}
use Rattle.tb_detail.specs.declared.Content.{Content}
use Rattle.tb_model.specs.Mesh.{Mesh}
use Rattle.tb_model.specs.Energy.{Case, Field, spread, spread_at, boundary, cell_energy, surface_energy, exact, energy}
use Rattle.tb_places.specs.Cuts.{in_both}
use Rattle.tb_model.specs.Cuts.{between, shared, bridged, cut, cut_field, IsRatio, rest}
use Rattle.tb_cuts.proofs.CutLines.{bridged-up_to, bridged-after}
use Rattle.tb_cuts.proofs.CutIntervals.{Plane, plane, bridged_cut}
use Rattle.tb_cuts.proofs.CutSums.{grid, grid_first, grid_second, grid_third}
use Rattle.tb_cuts.proofs.CutForms.{spread_first, spread_second}
use Rattle.tb_cuts.proofs.CutTerms.{between_minus, between_less, energy_across, surface_across, energy_along}

abbrev Nodes : Type 0
Nodes = ℕ → ℕ → ℕ → ℚ

-- the terms of a field as seen from one axis, with the widths along it and along the two others
abbrev cell : (w w2 w3 : ℕ → ℚ) (conductivity : ℕ → ℚ) (T : Nodes) → ℕ → ℕ → ℕ → ℕ → ℚ
cell w w2 w3 conductivity T i j k n = cell_energy (conductivity n) (w i) (w2 j *ℚ w3 k) (spread_at (λ q r. T (suc i) q r -ℚ T i q r) j k)

abbrev face : (w2 w3 : ℕ → ℚ) (inside : Case) (T : Nodes) → ℕ → ℕ → ℕ → ℕ → ℕ → Bool → ℚ
face w2 w3 inside T i j k e rs low = surface_energy rs (w2 j *ℚ w3 k) (spread_at (λ q r. T i q r -ℚ boundary inside e) j k)

abbrev pub field_grid : (n n2 n3 : ℕ) → (ℕ → ℕ → ℕ → Option Content) → (w w2 w3 : ℕ → ℚ) (conductivity : ℕ → ℚ) (inside : Case) (T : Nodes) → ℚ
field_grid n n2 n3 c w w2 w3 conductivity inside T = grid n n2 n3 c (cell w w2 w3 conductivity T) (face w2 w3 inside T)

part_of : (s v S : ℚ) → (s *ℚ v) *ℚ S ≡ s *ℚ (v *ℚ S)
part_of s v S = by_reading {atoms = s ∷ v ∷ S ∷ []} (search reading) (search reading) refl

part_of_right : (s v S : ℚ) → S *ℚ (s *ℚ v) ≡ s *ℚ (S *ℚ v)
part_of_right s v S = by_reading {atoms = s ∷ v ∷ S ∷ []} (search reading) (search reading) refl

-- Cut along the axis --

pub field_first : (n n2 n3 p : ℕ) (c : ℕ → ℕ → ℕ → Option Content) (w w2 w3 : ℕ → ℚ) (conductivity : ℕ → ℚ) (inside : Case) (T : Nodes) (s : ℚ) → p < n → IsRatio s →
    field_grid (suc n) n2 n3 (λ i j k. in_both p (λ i. c i j k) i) (shared p s w) w2 w3 conductivity inside (λ i j k. bridged p s (λ i. T i j k) i) ≡ field_grid n n2 n3 c w w2 w3 conductivity inside T
field_first n n2 n3 p c w w2 w3 conductivity inside T s l r =
    grid_first n n2 n3 p c (cell w w2 w3 conductivity T) (cell (shared p s w) w2 w3 conductivity T') (face w2 w3 inside T) (face w2 w3 inside T') l
    (λ j k m. bridged_cut p s w T (λ v x y. cell_energy (conductivity m) v (w2 j *ℚ w3 k) (spread_at (λ q r. y q r -ℚ x q r) j k))
    (λ v x y. energy_along s (conductivity m) v (w2 j *ℚ w3 k) (x j k) (x (suc j) k) (x j (suc k)) (x (suc j) (suc k)) (y j k) (y (suc j) k) (y j (suc k)) (y (suc j) (suc k)) r))
    (λ j k. record {
      before = λ i e rs low h. ap (at_face j k e rs) (plane (λ q r. bridged-up_to p s (λ n. T n q r) i h));
      after = λ i e rs low h. ap (at_face j k e rs) (plane (λ q r. bridged-after p s (λ n. T n q r) i h));
    })
  where
    T' : Nodes
    T' i j k = bridged p s (λ i. T i j k) i

    at_face : (j k e rs : ℕ) → Plane → ℚ
    at_face j k e rs x = surface_energy rs (w2 j *ℚ w3 k) (spread_at (λ q r. x q r -ℚ boundary inside e) j k)

-- and across it --

spread_cong : {a b c d a' b' c' d' : ℚ} → a ≡ a' → b ≡ b' → c ≡ c' → d ≡ d' → spread a b c d ≡ spread a' b' c' d'
spread_cong e f g h = λ t. spread (e t) (f t) (g t) (h t)

second_law : (s a b c d ab cd : ℚ) → ab ≡ between s a b → cd ≡ between s c d → s *ℚ spread a ab c cd +ℚ rest s *ℚ spread ab b cd d ≡ spread a b c d
second_law s a b c d ab cd e f = (λ t. s *ℚ spread a (e t) c (f t) +ℚ rest s *ℚ spread (e t) b (f t) d) ∙ spread_first s a b c d

third_law : (s a b c d ac bd : ℚ) → ac ≡ between s a c → bd ≡ between s b d → s *ℚ spread a b ac bd +ℚ rest s *ℚ spread ac bd c d ≡ spread a b c d
third_law s a b c d ac bd e f = (λ t. s *ℚ spread a b (e t) (f t) +ℚ rest s *ℚ spread (e t) (f t) c d) ∙ spread_second s a b c d

pub field_second : (n n2 n3 p : ℕ) (c : ℕ → ℕ → ℕ → Option Content) (w w2 w3 : ℕ → ℚ) (conductivity : ℕ → ℚ) (inside : Case) (T : Nodes) (s : ℚ) → p < n2 →
    field_grid n (suc n2) n3 (λ i j k. in_both p (λ j. c i j k) j) w (shared p s w2) w3 conductivity inside (λ i j k. bridged p s (λ j. T i j k) j) ≡ field_grid n n2 n3 c w w2 w3 conductivity inside T
field_second n n2 n3 p c w w2 w3 conductivity inside T s l =
    grid_second n n2 n3 p c (cell w w2 w3 conductivity T) (cell w (shared p s w2) w3 conductivity T') (face w2 w3 inside T) (face (shared p s w2) w3 inside T') l
    (λ i k m. bridged_cut p s w2 (λ j i k. T i j k)
    (λ v x y. cell_energy (conductivity m) (w i) (v *ℚ w3 k) (spread (x (suc i) k -ℚ x i k) (y (suc i) k -ℚ y i k) (x (suc i) (suc k) -ℚ x i (suc k)) (y (suc i) (suc k) -ℚ y i (suc k))))
    (λ v x y. energy_across s (conductivity m) (w i) (v *ℚ w3 k) ((s *ℚ v) *ℚ w3 k) ((rest s *ℚ v) *ℚ w3 k) _ _ _ (part_of s v (w3 k)) (part_of (rest s) v (w3 k))
    (second_law s (x (suc i) k -ℚ x i k) (y (suc i) k -ℚ y i k) (x (suc i) (suc k) -ℚ x i (suc k)) (y (suc i) (suc k) -ℚ y i (suc k)) _ _ (between_minus s (x (suc i) k) (y (suc i) k) (x i k) (y i k)) (between_minus s (x (suc i) (suc k)) (y (suc i) (suc k)) (x i (suc k)) (y i (suc k))))))
    (λ i k e rs low. bridged_cut p s w2 (λ j i k. T i j k)
    (λ v x y. surface_energy rs (v *ℚ w3 k) (spread (x i k -ℚ boundary inside e) (y i k -ℚ boundary inside e) (x i (suc k) -ℚ boundary inside e) (y i (suc k) -ℚ boundary inside e)))
    (λ v x y. surface_across s rs (v *ℚ w3 k) ((s *ℚ v) *ℚ w3 k) ((rest s *ℚ v) *ℚ w3 k) _ _ _ (part_of s v (w3 k)) (part_of (rest s) v (w3 k))
    (second_law s (x i k -ℚ boundary inside e) (y i k -ℚ boundary inside e) (x i (suc k) -ℚ boundary inside e) (y i (suc k) -ℚ boundary inside e) _ _ (between_less s (x i k) (y i k) (boundary inside e)) (between_less s (x i (suc k)) (y i (suc k)) (boundary inside e)))))
  where
    T' : Nodes
    T' i j k = bridged p s (λ j. T i j k) j

pub field_third : (n n2 n3 p : ℕ) (c : ℕ → ℕ → ℕ → Option Content) (w w2 w3 : ℕ → ℚ) (conductivity : ℕ → ℚ) (inside : Case) (T : Nodes) (s : ℚ) → p < n3 →
    field_grid n n2 (suc n3) (λ i j k. in_both p (λ k. c i j k) k) w w2 (shared p s w3) conductivity inside (λ i j k. bridged p s (λ k. T i j k) k) ≡ field_grid n n2 n3 c w w2 w3 conductivity inside T
field_third n n2 n3 p c w w2 w3 conductivity inside T s l =
    grid_third n n2 n3 p c (cell w w2 w3 conductivity T) (cell w w2 (shared p s w3) conductivity T') (face w2 w3 inside T) (face w2 (shared p s w3) inside T') l
    (λ i j m. bridged_cut p s w3 (λ k i j. T i j k)
    (λ v x y. cell_energy (conductivity m) (w i) (w2 j *ℚ v) (spread (x (suc i) j -ℚ x i j) (x (suc i) (suc j) -ℚ x i (suc j)) (y (suc i) j -ℚ y i j) (y (suc i) (suc j) -ℚ y i (suc j))))
    (λ v x y. energy_across s (conductivity m) (w i) (w2 j *ℚ v) (w2 j *ℚ (s *ℚ v)) (w2 j *ℚ (rest s *ℚ v)) _ _ _ (part_of_right s v (w2 j)) (part_of_right (rest s) v (w2 j))
    (third_law s (x (suc i) j -ℚ x i j) (x (suc i) (suc j) -ℚ x i (suc j)) (y (suc i) j -ℚ y i j) (y (suc i) (suc j) -ℚ y i (suc j)) _ _ (between_minus s (x (suc i) j) (y (suc i) j) (x i j) (y i j)) (between_minus s (x (suc i) (suc j)) (y (suc i) (suc j)) (x i (suc j)) (y i (suc j))))))
    (λ i j e rs low. bridged_cut p s w3 (λ k i j. T i j k)
    (λ v x y. surface_energy rs (w2 j *ℚ v) (spread (x i j -ℚ boundary inside e) (x i (suc j) -ℚ boundary inside e) (y i j -ℚ boundary inside e) (y i (suc j) -ℚ boundary inside e)))
    (λ v x y. surface_across s rs (w2 j *ℚ v) (w2 j *ℚ (s *ℚ v)) (w2 j *ℚ (rest s *ℚ v)) _ _ _ (part_of_right s v (w2 j)) (part_of_right (rest s) v (w2 j))
    (third_law s (x i j -ℚ boundary inside e) (x i (suc j) -ℚ boundary inside e) (y i j -ℚ boundary inside e) (y i (suc j) -ℚ boundary inside e) _ _ (between_less s (x i j) (y i j) (boundary inside e)) (between_less s (x i (suc j)) (y i (suc j)) (boundary inside e)))))
  where
    T' : Nodes
    T' i j k = bridged p s (λ k. T i j k) k

-- The theorem --

added : {x x' y y' z z' : ℚ} → x ≡ x' → y ≡ y' → z ≡ z' → x +ℚ y +ℚ z ≡ x' +ℚ y' +ℚ z'
added e f g = λ t. e t +ℚ f t +ℚ g t

pub energy_kept : (a : AxisName) (p : ℕ) (s : ℚ) (m : Mesh) (inside : Case) (T : Field) → p < m.cells a → IsRatio s → energy (cut a p s m) inside (cut_field a p s T) ≡ energy m inside T
unfolding energy exact
energy_kept X p s m inside T l r = added
    (field_first (m.cells X) (m.cells Y) (m.cells Z) p (along X m.occupant) (m.width X) (m.width Y) (m.width Z) (λ n. m.conductivity n X) inside (along X T) s l r)
    (field_second (m.cells Y) (m.cells X) (m.cells Z) p (along Y m.occupant) (m.width Y) (m.width X) (m.width Z) (λ n. m.conductivity n Y) inside (along Y T) s l)
    (field_second (m.cells Z) (m.cells X) (m.cells Y) p (along Z m.occupant) (m.width Z) (m.width X) (m.width Y) (λ n. m.conductivity n Z) inside (along Z T) s l)
energy_kept Y p s m inside T l r = added
    (field_second (m.cells X) (m.cells Y) (m.cells Z) p (along X m.occupant) (m.width X) (m.width Y) (m.width Z) (λ n. m.conductivity n X) inside (along X T) s l)
    (field_first (m.cells Y) (m.cells X) (m.cells Z) p (along Y m.occupant) (m.width Y) (m.width X) (m.width Z) (λ n. m.conductivity n Y) inside (along Y T) s l r)
    (field_third (m.cells Z) (m.cells X) (m.cells Y) p (along Z m.occupant) (m.width Z) (m.width X) (m.width Y) (λ n. m.conductivity n Z) inside (along Z T) s l)
energy_kept Z p s m inside T l r = added
    (field_third (m.cells X) (m.cells Y) (m.cells Z) p (along X m.occupant) (m.width X) (m.width Y) (m.width Z) (λ n. m.conductivity n X) inside (along X T) s l)
    (field_third (m.cells Y) (m.cells X) (m.cells Z) p (along Y m.occupant) (m.width Y) (m.width X) (m.width Z) (λ n. m.conductivity n Y) inside (along Y T) s l)
    (field_first (m.cells Z) (m.cells X) (m.cells Y) p (along Z m.occupant) (m.width Z) (m.width X) (m.width Y) (λ n. m.conductivity n Z) inside (along Z T) s l r)
