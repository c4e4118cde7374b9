-- The bound of a flux is kept by a cut: its loss, and what enters.
use mathlib.Core.Path.{◌≡◌, refl, ap}
use mathlib.Core.List.{[], ◌∷◌}
use Prim.Native.Nat.{ℕ, suc, ◌*◌, ◌^◌, ◌<◌}
use lib.IntN.{pos}
use Rattle.std.specs.Prelude.{Option, Bool, if◌then◌else◌}
use Rattle.tb_math.specs.Rational.{ℚ, int, ◌+ℚ◌, ◌-ℚ◌, ◌*ℚ◌, neg_ℚ}
use Rattle.tb_math.proofs.ReadRationals.{by_reading, reading}
use Rattle.tb_places.specs.declared.AxisName.{AxisName}
use Rattle.tb_places.specs.declared.AxisName.TheVariants.{X, Y, Z}
use Rattle.tb_places.specs.Places.{along}
use Rattle.tb_detail.specs.declared.Content.{Content}
use Rattle.tb_model.specs.Mesh.{Mesh}
use Rattle.tb_model.specs.Energy.{Case, Flux, passage, cell_loss, surface_loss, flux_terms, entering_terms, exact, source, bound}
use Rattle.tb_places.specs.Cuts.{in_both}
use Rattle.tb_model.specs.Cuts.{shared, bridged, cut, cut_flux, IsRatio, rest}
use Rattle.tb_cuts.proofs.CutLines.{bridged-up_to, bridged-after, cut-none}
use Rattle.tb_cuts.proofs.CutIntervals.{bridged_cut, shared_cut}
use Rattle.tb_cuts.proofs.CutSums.{grid, grid_first, grid_second, grid_third}
use Rattle.tb_cuts.proofs.CutTerms.{loss_across, surface_loss_across, loss_along, entering_across}

abbrev Flows : Type 0
Flows = ℕ → ℕ → ℕ → ℚ

-- The loss, as seen from one axis --

abbrev cell : (w w2 w3 : ℕ → ℚ) (conductivity : ℕ → ℚ) (q : Flows) → ℕ → ℕ → ℕ → ℕ → ℚ
cell w w2 w3 conductivity q i j k n = cell_loss (conductivity n) (w i) (w2 j *ℚ w3 k) (passage (q i j k) (q (suc i) j k))

abbrev face : (w2 w3 : ℕ → ℚ) (q : Flows) → ℕ → ℕ → ℕ → ℕ → ℕ → Bool → ℚ
face w2 w3 q i j k e rs low = surface_loss rs (w2 j *ℚ w3 k) (q i j k)

abbrev loss_grid : (n n2 n3 : ℕ) → (ℕ → ℕ → ℕ → Option Content) → (w w2 w3 : ℕ → ℚ) (conductivity : ℕ → ℚ) (q : Flows) → ℚ
loss_grid n n2 n3 c w w2 w3 conductivity q = grid n n2 n3 c (cell w w2 w3 conductivity q) (face w2 w3 q)

part_of : (s v S : ℚ) → (s *ℚ v) *ℚ S ≡ s *ℚ (v *ℚ S)
part_of s v S = by_reading {atoms = s ∷ v ∷ S ∷ []} (search reading) (search reading) refl

part_of_right : (s v S : ℚ) → S *ℚ (s *ℚ v) ≡ s *ℚ (S *ℚ v)
part_of_right s v S = by_reading {atoms = s ∷ v ∷ S ∷ []} (search reading) (search reading) refl

pub loss_first : (n n2 n3 p : ℕ) (c : ℕ → ℕ → ℕ → Option Content) (w w2 w3 : ℕ → ℚ) (conductivity : ℕ → ℚ) (q : Flows) (s : ℚ) → p < n →
    loss_grid (suc n) n2 n3 (λ i j k. in_both p (λ i. c i j k) i) (shared p s w) w2 w3 conductivity (λ i j k. bridged p s (λ i. q i j k) i) ≡ loss_grid n n2 n3 c w w2 w3 conductivity q
loss_first n n2 n3 p c w w2 w3 conductivity q s l =
    grid_first n n2 n3 p c (cell w w2 w3 conductivity q) (cell (shared p s w) w2 w3 conductivity q') (face w2 w3 q) (face w2 w3 q') l
    (λ j k m. bridged_cut p s w q (λ v x y. cell_loss (conductivity m) v (w2 j *ℚ w3 k) (passage (x j k) (y j k)))
    (λ v x y. loss_along s (conductivity m) v (w2 j *ℚ w3 k) (x j k) (y j k)))
    (λ j k. record {
      before = λ i e rs low h. ap (surface_loss rs (w2 j *ℚ w3 k)) (bridged-up_to p s (λ n. q n j k) i h);
      after = λ i e rs low h. ap (surface_loss rs (w2 j *ℚ w3 k)) (bridged-after p s (λ n. q n j k) i h);
    })
  where
    q' : Flows
    q' i j k = bridged p s (λ i. q i j k) i

pub loss_second : (n n2 n3 p : ℕ) (c : ℕ → ℕ → ℕ → Option Content) (w w2 w3 : ℕ → ℚ) (conductivity : ℕ → ℚ) (q : Flows) (s : ℚ) → p < n2 → IsRatio s →
    loss_grid n (suc n2) n3 (λ i j k. in_both p (λ j. c i j k) j) w (shared p s w2) w3 conductivity (λ i j k. shared p s (λ j. q i j k) j) ≡ loss_grid n n2 n3 c w w2 w3 conductivity q
loss_second n n2 n3 p c w w2 w3 conductivity q s l r =
    grid_second n n2 n3 p c (cell w w2 w3 conductivity q) (cell w (shared p s w2) w3 conductivity q') (face w2 w3 q) (face (shared p s w2) w3 q') l
    (λ i k m. shared_cut p s w2 (λ j i. q i j k) (λ v x. cell_loss (conductivity m) (w i) (v *ℚ w3 k) (passage (x i) (x (suc i))))
    (λ v x. loss_across s (conductivity m) (w i) (v *ℚ w3 k) ((s *ℚ v) *ℚ w3 k) ((rest s *ℚ v) *ℚ w3 k) (x i) (x (suc i)) r (part_of s v (w3 k)) (part_of (rest s) v (w3 k))))
    (λ i k e rs low. shared_cut p s w2 (λ j i. q i j k) (λ v x. surface_loss rs (v *ℚ w3 k) (x i))
    (λ v x. surface_loss_across s rs (v *ℚ w3 k) ((s *ℚ v) *ℚ w3 k) ((rest s *ℚ v) *ℚ w3 k) (x i) r (part_of s v (w3 k)) (part_of (rest s) v (w3 k))))
  where
    q' : Flows
    q' i j k = shared p s (λ j. q i j k) j

pub loss_third : (n n2 n3 p : ℕ) (c : ℕ → ℕ → ℕ → Option Content) (w w2 w3 : ℕ → ℚ) (conductivity : ℕ → ℚ) (q : Flows) (s : ℚ) → p < n3 → IsRatio s →
    loss_grid n n2 (suc n3) (λ i j k. in_both p (λ k. c i j k) k) w w2 (shared p s w3) conductivity (λ i j k. shared p s (λ k. q i j k) k) ≡ loss_grid n n2 n3 c w w2 w3 conductivity q
loss_third n n2 n3 p c w w2 w3 conductivity q s l r =
    grid_third n n2 n3 p c (cell w w2 w3 conductivity q) (cell w w2 (shared p s w3) conductivity q') (face w2 w3 q) (face w2 (shared p s w3) q') l
    (λ i j m. shared_cut p s w3 (λ k i. q i j k) (λ v x. cell_loss (conductivity m) (w i) (w2 j *ℚ v) (passage (x i) (x (suc i))))
    (λ v x. loss_across s (conductivity m) (w i) (w2 j *ℚ v) (w2 j *ℚ (s *ℚ v)) (w2 j *ℚ (rest s *ℚ v)) (x i) (x (suc i)) r (part_of_right s v (w2 j)) (part_of_right (rest s) v (w2 j))))
    (λ i j e rs low. shared_cut p s w3 (λ k i. q i j k) (λ v x. surface_loss rs (w2 j *ℚ v) (x i))
    (λ v x. surface_loss_across s rs (w2 j *ℚ v) (w2 j *ℚ (s *ℚ v)) (w2 j *ℚ (rest s *ℚ v)) (x i) r (part_of_right s v (w2 j)) (part_of_right (rest s) v (w2 j))))
  where
    q' : Flows
    q' i j k = shared p s (λ k. q i j k) k

-- What enters, as seen from one axis --

abbrev none : ℕ → ℕ → ℕ → ℕ → ℚ
none i j k n = int (pos 0)

abbrev enters : (inside : Case) (q : Flows) → ℕ → ℕ → ℕ → ℕ → ℕ → Bool → ℚ
enters inside q i j k e rs low = if inside e then (if low then q i j k else neg_ℚ (q i j k)) else int (pos 0)

abbrev entering_grid : (n n2 n3 : ℕ) → (ℕ → ℕ → ℕ → Option Content) → (inside : Case) (q : Flows) → ℚ
entering_grid n n2 n3 c inside q = grid n n2 n3 c none (enters inside q)

pub entering_first : (n n2 n3 p : ℕ) (c : ℕ → ℕ → ℕ → Option Content) (inside : Case) (q : Flows) (s : ℚ) → p < n →
    entering_grid (suc n) n2 n3 (λ i j k. in_both p (λ i. c i j k) i) inside (λ i j k. bridged p s (λ i. q i j k) i) ≡ entering_grid n n2 n3 c inside q
entering_first n n2 n3 p c inside q s l =
    grid_first n n2 n3 p c none none (enters inside q) (enters inside q') l (λ j k m. cut-none p)
    (λ j k. record {
      before = λ i e rs low h. ap (at_face e low) (bridged-up_to p s (λ n. q n j k) i h);
      after = λ i e rs low h. ap (at_face e low) (bridged-after p s (λ n. q n j k) i h);
    })
  where
    q' : Flows
    q' i j k = bridged p s (λ i. q i j k) i

    at_face : ℕ → Bool → ℚ → ℚ
    at_face e low x = if inside e then (if low then x else neg_ℚ x) else int (pos 0)

pub entering_second : (n n2 n3 p : ℕ) (c : ℕ → ℕ → ℕ → Option Content) (inside : Case) (q : Flows) (s : ℚ) → p < n2 →
    entering_grid n (suc n2) n3 (λ i j k. in_both p (λ j. c i j k) j) inside (λ i j k. shared p s (λ j. q i j k) j) ≡ entering_grid n n2 n3 c inside q
entering_second n n2 n3 p c inside q s l =
    grid_second n n2 n3 p c none none (enters inside q) (enters inside (λ i j k. shared p s (λ j. q i j k) j)) l (λ i k m. cut-none p)
    (λ i k e rs low. shared_cut p s (λ _. s) (λ j _. q i j k) (λ v x. if inside e then (if low then x 0 else neg_ℚ (x 0)) else int (pos 0)) (λ v x. entering_across s (inside e) low (x 0)))

pub entering_third : (n n2 n3 p : ℕ) (c : ℕ → ℕ → ℕ → Option Content) (inside : Case) (q : Flows) (s : ℚ) → p < n3 →
    entering_grid n n2 (suc n3) (λ i j k. in_both p (λ k. c i j k) k) inside (λ i j k. shared p s (λ k. q i j k) k) ≡ entering_grid n n2 n3 c inside q
entering_third n n2 n3 p c inside q s l =
    grid_third n n2 n3 p c none none (enters inside q) (enters inside (λ i j k. shared p s (λ k. q i j k) k)) l (λ i j m. cut-none p)
    (λ i j e rs low. shared_cut p s (λ _. s) (λ k _. q i j k) (λ v x. if inside e then (if low then x 0 else neg_ℚ (x 0)) else int (pos 0)) (λ v x. entering_across s (inside e) low (x 0)))

-- The theorem --

added : {x x' y y' z z' : ℚ} → x ≡ x' → y ≡ y' → z ≡ z' → x +ℚ y +ℚ z ≡ x' +ℚ y' +ℚ z'
added e f g = λ t. e t +ℚ f t +ℚ g t

pub loss_kept : (a : AxisName) (p : ℕ) (s : ℚ) (m : Mesh) (q : Flux) → p < m.cells a → IsRatio s → exact (cut a p s m) (flux_terms (cut a p s m) (cut_flux a p s q)) ≡ exact m (flux_terms m q)
unfolding exact
loss_kept X p s m q l r = added
    (loss_first (m.cells X) (m.cells Y) (m.cells Z) p (along X m.occupant) (m.width X) (m.width Y) (m.width Z) (λ n. m.conductivity n X) (along X (q X)) s l)
    (loss_second (m.cells Y) (m.cells X) (m.cells Z) p (along Y m.occupant) (m.width Y) (m.width X) (m.width Z) (λ n. m.conductivity n Y) (along Y (q Y)) s l r)
    (loss_second (m.cells Z) (m.cells X) (m.cells Y) p (along Z m.occupant) (m.width Z) (m.width X) (m.width Y) (λ n. m.conductivity n Z) (along Z (q Z)) s l r)
loss_kept Y p s m q l r = added
    (loss_second (m.cells X) (m.cells Y) (m.cells Z) p (along X m.occupant) (m.width X) (m.width Y) (m.width Z) (λ n. m.conductivity n X) (along X (q X)) s l r)
    (loss_first (m.cells Y) (m.cells X) (m.cells Z) p (along Y m.occupant) (m.width Y) (m.width X) (m.width Z) (λ n. m.conductivity n Y) (along Y (q Y)) s l)
    (loss_third (m.cells Z) (m.cells X) (m.cells Y) p (along Z m.occupant) (m.width Z) (m.width X) (m.width Y) (λ n. m.conductivity n Z) (along Z (q Z)) s l r)
loss_kept Z p s m q l r = added
    (loss_third (m.cells X) (m.cells Y) (m.cells Z) p (along X m.occupant) (m.width X) (m.width Y) (m.width Z) (λ n. m.conductivity n X) (along X (q X)) s l r)
    (loss_third (m.cells Y) (m.cells X) (m.cells Z) p (along Y m.occupant) (m.width Y) (m.width X) (m.width Z) (λ n. m.conductivity n Y) (along Y (q Y)) s l r)
    (loss_first (m.cells Z) (m.cells X) (m.cells Y) p (along Z m.occupant) (m.width Z) (m.width X) (m.width Y) (λ n. m.conductivity n Z) (along Z (q Z)) s l)

pub entering_kept : (a : AxisName) (p : ℕ) (s : ℚ) (m : Mesh) (inside : Case) (q : Flux) → p < m.cells a → exact (cut a p s m) (entering_terms inside (cut_flux a p s q)) ≡ exact m (entering_terms inside q)
unfolding exact
entering_kept X p s m inside q l = added
    (entering_first (m.cells X) (m.cells Y) (m.cells Z) p (along X m.occupant) inside (along X (q X)) s l)
    (entering_second (m.cells Y) (m.cells X) (m.cells Z) p (along Y m.occupant) inside (along Y (q Y)) s l)
    (entering_second (m.cells Z) (m.cells X) (m.cells Y) p (along Z m.occupant) inside (along Z (q Z)) s l)
entering_kept Y p s m inside q l = added
    (entering_second (m.cells X) (m.cells Y) (m.cells Z) p (along X m.occupant) inside (along X (q X)) s l)
    (entering_first (m.cells Y) (m.cells X) (m.cells Z) p (along Y m.occupant) inside (along Y (q Y)) s l)
    (entering_third (m.cells Z) (m.cells X) (m.cells Y) p (along Z m.occupant) inside (along Z (q Z)) s l)
entering_kept Z p s m inside q l = added
    (entering_third (m.cells X) (m.cells Y) (m.cells Z) p (along X m.occupant) inside (along X (q X)) s l)
    (entering_third (m.cells Y) (m.cells X) (m.cells Z) p (along Y m.occupant) inside (along Y (q Y)) s l)
    (entering_first (m.cells Z) (m.cells X) (m.cells Y) p (along Z m.occupant) inside (along Z (q Z)) s l)

pub bound_kept : (a : AxisName) (p : ℕ) (s : ℚ) (m : Mesh) (inside : Case) (q : Flux) → p < m.cells a → IsRatio s → bound (cut a p s m) inside (cut_flux a p s q) ≡ bound m inside q
unfolding bound source
bound_kept a p s m inside q l r = λ t. int (pos (2 * 10 ^ 6)) *ℚ entering_kept a p s m inside q l t -ℚ loss_kept a p s m q l r t
