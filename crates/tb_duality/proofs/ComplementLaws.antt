-- The complement of a case: a field turned round has the same energy, a balanced flux turned round the same
-- bound, since what enters a balanced flux through all surfaces is nothing.
use mathlib.Core.Path.{◌≡◌, refl, ap, ◌∙◌}
use mathlib.Core.List.{[], ◌∷◌}
use Prim.Native.Nat.{ℕ, suc, ◌*◌, ◌^◌, ◌<◌, ◌≤◌}
use native.Mathlib.Omega.{arith}
use lib.IntN.{pos, negsuc}
use Rattle.std.specs.Prelude.{Bool, true, false, not, if◌then◌else◌}
use Rattle.tb_math.specs.Rational.{ℚ, int, ◌+ℚ◌, ◌-ℚ◌, ◌*ℚ◌, neg_ℚ}
use Rattle.tb_math.specs.Division.{◌/ℚ◌}
use Rattle.tb_math.proofs.RationalProducts.{cancel_ℚ}
use Rattle.tb_math.proofs.ReadRationals.{by_reading, by_given, reading, none, given}
use Rattle.tb_places.specs.declared.AxisName.{AxisName}
use Rattle.tb_places.specs.declared.AxisName.TheVariants.{X, Y, Z}
use Rattle.tb_places.specs.Places.{second, third, along}
use Rattle.tb_model.specs.declared.FaceKind.TheVariants.{Surface}
use Rattle.tb_model.specs.Mesh.{Mesh, kind, cross_section}
use Rattle.tb_model.specs.Energy.{Case, Field, Flux, Terms, IsBalanced, spread, spread_at, passage, boundary, cell_energy, surface_energy, cell_loss, surface_loss, field_terms, flux_terms, entering_terms, exact, energy, source, bound}
use Rattle.tb_duality.specs.MeanValues.{entering}
use Rattle.tb_duality.proofs.Corners.{corner_sum}
use Rattle.tb_duality.proofs.MeshSums.{exact_related}
use Rattle.tb_duality.proofs.Jumps.{jumps, jumps_none}
use Rattle.tb_duality.proofs.Leaks.{leaks, leaks_none}
use Rattle.tb_model.specs.Complements.{AreComplementsOn, turned_field, turned_flux}

-- Two sums with equal terms --

data Side : Type 0 where
  left : Side
  right : Side

abbrev both : Terms → Terms → Side → Terms
both t u left = t
both t u right = u

abbrev Same : (Side → ℚ) → Type 0
Same f = f left ≡ f right

same_adds : (f g : Side → ℚ) → Same f → Same g → Same (λ p. f p +ℚ g p)
same_adds f g e h = λ t. e t +ℚ h t

pub exact_same : (m : Mesh) (t u : Terms) → ((a : AxisName) (i j k : ℕ) (c : ℚ) → t.cell a i j k c ≡ u.cell a i j k c) →
    ((a : AxisName) (i j k e rs : ℕ) (low : Bool) → i ≤ m.cells a → j < m.cells (second a) → k < m.cells (third a) → kind m a i j k ≡ Surface e rs low →
    t.surface a i j k e rs low ≡ u.surface a i j k e rs low) → exact m t ≡ exact m u
exact_same m t u cells surfaces = exact_related Same refl same_adds m (both t u)
    (record { cells = λ a i j k n hi hj hk is. cells a i j k (m.conductivity n a); surfaces = surfaces })

-- Energy --

turned_along : (a : AxisName) (T : Field) → along a (turned_field T) ≡ (λ i j k. int (pos 100000000) -ℚ along a T i j k)
turned_along X T = refl
turned_along Y T = refl
turned_along Z T = refl

spread_even : (a b c d a' b' c' d' : ℚ) → a' ≡ neg_ℚ a → b' ≡ neg_ℚ b → c' ≡ neg_ℚ c → d' ≡ neg_ℚ d → spread a' b' c' d' ≡ spread a b c d
unfolding spread
spread_even a b c d a' b' c' d' ea eb ec ed = (λ t. spread (ea t) (eb t) (ec t) (ed t))
    ∙ by_reading {atoms = a ∷ b ∷ c ∷ d ∷ []} (search reading depth 60 fits 100000) (search reading depth 60 fits 100000) refl

difference_turned : (h l : ℚ) → (int (pos 100000000) -ℚ h) -ℚ (int (pos 100000000) -ℚ l) ≡ neg_ℚ (h -ℚ l)
difference_turned h l = by_reading {atoms = h ∷ l ∷ []} (search reading depth 20) (search reading depth 20) refl

excess_turned : (others inside : Bool) → others ≡ not inside → (x : ℚ) →
    (int (pos 100000000) -ℚ x) -ℚ (if others then int (pos 100000000) else int (pos 0)) ≡ neg_ℚ (x -ℚ (if inside then int (pos 100000000) else int (pos 0)))
excess_turned others inside e x = ap (λ (b : Bool). (int (pos 100000000) -ℚ x) -ℚ (if b then int (pos 100000000) else int (pos 0))) e ∙ opposite inside x
  where
    opposite : (inside : Bool) (x : ℚ) → (int (pos 100000000) -ℚ x) -ℚ (if not inside then int (pos 100000000) else int (pos 0)) ≡ neg_ℚ (x -ℚ (if inside then int (pos 100000000) else int (pos 0)))
    opposite true x = by_reading {atoms = x ∷ []} (search reading depth 20) (search reading depth 20) refl
    opposite false x = by_reading {atoms = x ∷ []} (search reading depth 20) (search reading depth 20) refl

pub energy_turned : (m : Mesh) (inside others : Case) (T : Field) → AreComplementsOn m inside others → energy m others (turned_field T) ≡ energy m inside T
unfolding energy
energy_turned m inside others T complements = exact_same m (field_terms m others (turned_field T)) (field_terms m inside T)
    (λ a i j k c. ap (cell_of a i j k c) (turned_along a T) ∙ ap (cell_energy c (m.width a i) (cross_section m a j k))
    (spread_even (d a i j k) (d a i (suc j) k) (d a i j (suc k)) (d a i (suc j) (suc k)) _ _ _ _
    (difference_turned (along a T (suc i) j k) (along a T i j k)) (difference_turned (along a T (suc i) (suc j) k) (along a T i (suc j) k))
    (difference_turned (along a T (suc i) j (suc k)) (along a T i j (suc k))) (difference_turned (along a T (suc i) (suc j) (suc k)) (along a T i (suc j) (suc k)))))
    (λ a i j k e rs low hi hj hk is. ap (surface_of a i j k e rs) (turned_along a T) ∙ ap (surface_energy rs (cross_section m a j k))
    (spread_even (x a i j k e) (x a i (suc j) k e) (x a i j (suc k) e) (x a i (suc j) (suc k) e) _ _ _ _
    (excess_turned (others e) (inside e) (complements a i j k e rs low hi hj hk is) (along a T i j k)) (excess_turned (others e) (inside e) (complements a i j k e rs low hi hj hk is) (along a T i (suc j) k))
    (excess_turned (others e) (inside e) (complements a i j k e rs low hi hj hk is) (along a T i j (suc k))) (excess_turned (others e) (inside e) (complements a i j k e rs low hi hj hk is) (along a T i (suc j) (suc k)))))
  where
    d : AxisName → ℕ → ℕ → ℕ → ℚ
    d a i j k = along a T (suc i) j k -ℚ along a T i j k

    x : AxisName → ℕ → ℕ → ℕ → ℕ → ℚ
    x a i j k e = along a T i j k -ℚ boundary inside e

    cell_of : (a : AxisName) (i j k : ℕ) (c : ℚ) → (ℕ → ℕ → ℕ → ℚ) → ℚ
    cell_of a i j k c F = cell_energy c (m.width a i) (cross_section m a j k) (spread_at (λ q r. F (suc i) q r -ℚ F i q r) j k)

    surface_of : (a : AxisName) (i j k e rs : ℕ) → (ℕ → ℕ → ℕ → ℚ) → ℚ
    surface_of a i j k e rs F = surface_energy rs (cross_section m a j k) (spread_at (λ q r. F i q r -ℚ boundary others e) j k)

-- Loss --

flux_along : (a : AxisName) (q : Flux) → along a (turned_flux q a) ≡ (λ i j k. neg_ℚ (along a (q a) i j k))
flux_along X q = refl
flux_along Y q = refl
flux_along Z q = refl

passage_even : (F G : ℚ) → passage (neg_ℚ F) (neg_ℚ G) ≡ passage F G
unfolding passage
passage_even F G = by_reading {atoms = F ∷ G ∷ []} (search reading depth 20) (search reading depth 20) refl

square_even : (F : ℚ) → neg_ℚ F *ℚ neg_ℚ F ≡ F *ℚ F
square_even F = by_reading {atoms = F ∷ []} (search reading) (search reading) refl

pub loss_turned : (m : Mesh) (q : Flux) → exact m (flux_terms m (turned_flux q)) ≡ exact m (flux_terms m q)
loss_turned m q = exact_same m (flux_terms m (turned_flux q)) (flux_terms m q)
    (λ a i j k c. ap (λ (F : ℕ → ℕ → ℕ → ℚ). cell_loss c (m.width a i) (cross_section m a j k) (passage (F i j k) (F (suc i) j k))) (flux_along a q)
    ∙ ap (cell_loss c (m.width a i) (cross_section m a j k)) (passage_even (along a (q a) i j k) (along a (q a) (suc i) j k)))
    (λ a i j k e rs low hi hj hk is. ap (λ (F : ℕ → ℕ → ℕ → ℚ). surface_loss rs (cross_section m a j k) (F i j k)) (flux_along a q)
    ∙ (λ t. surface_loss_of rs (cross_section m a j k) (square_even (along a (q a) i j k) t)))
  where
    surface_loss_of : (rs : ℕ) (section square : ℚ) → ℚ
    surface_loss_of rs section square = int (pos (10 * rs)) *ℚ square /ℚ section

-- Nothing enters through all surfaces together --

data Part : Type 0 where
  of_jumps : Part
  of_leaks : Part
  of_entering : Part

abbrev one : Field
one i j k = int (pos 1)

abbrev everywhere : Case
everywhere e = true

abbrev parts : Flux → Part → Terms
parts q of_jumps = jumps (λ a i j k. along a (q a) i j k)
parts q of_leaks = leaks one q
parts q of_entering = entering_terms everywhere q

abbrev Cancel : (Part → ℚ) → Type 0
Cancel f = int (pos 8) *ℚ f of_jumps +ℚ f of_leaks +ℚ int (pos 8) *ℚ f of_entering ≡ int (pos 0)

cancel_none : Cancel (λ _. int (pos 0))
cancel_none = by_reading {atoms = []} (search reading) (search reading) refl

cancel_adds : (f g : Part → ℚ) → Cancel f → Cancel g → Cancel (λ p. f p +ℚ g p)
cancel_adds f g d e = added (f of_jumps) (f of_leaks) (f of_entering) (g of_jumps) (g of_leaks) (g of_entering) d e
  where
    added : (x y z x' y' z' : ℚ) → int (pos 8) *ℚ x +ℚ y +ℚ int (pos 8) *ℚ z ≡ int (pos 0) → int (pos 8) *ℚ x' +ℚ y' +ℚ int (pos 8) *ℚ z' ≡ int (pos 0) →
        int (pos 8) *ℚ (x +ℚ x') +ℚ (y +ℚ y') +ℚ int (pos 8) *ℚ (z +ℚ z') ≡ int (pos 0)
    added x y z x' y' z' d e = by_given {atoms = x ∷ y ∷ z ∷ x' ∷ y' ∷ z' ∷ []} (search reading depth 20) (search reading)
        (given (int (pos 1)) (int (pos 8) *ℚ x +ℚ y +ℚ int (pos 8) *ℚ z) (int (pos 0)) (search reading) (search reading depth 20) (search reading) d
        (given (int (pos 1)) (int (pos 8) *ℚ x' +ℚ y' +ℚ int (pos 8) *ℚ z') (int (pos 0)) (search reading) (search reading depth 20) (search reading) e none)) refl

corners_one : (a : AxisName) (i j k : ℕ) → along a (corner_sum one) i j k ≡ int (pos 8)
corners_one X i j k = by_reading {atoms = []} (search reading depth 20) (search reading) refl
corners_one Y i j k = by_reading {atoms = []} (search reading depth 20) (search reading) refl
corners_one Z i j k = by_reading {atoms = []} (search reading depth 20) (search reading) refl

cell_cancels : (F G w : ℚ) → w ≡ int (pos 8) → int (pos 8) *ℚ (F -ℚ G) +ℚ (G -ℚ F) *ℚ w +ℚ int (pos 8) *ℚ int (pos 0) ≡ int (pos 0)
cell_cancels F G w e = by_given {atoms = F ∷ G ∷ w ∷ []} (search reading depth 20) (search reading)
    (given (G -ℚ F) w (int (pos 8)) (search reading) (search reading) (search reading) e none) refl

face_cancels : (x : ℚ) → int (pos 8) *ℚ neg_ℚ x +ℚ int (pos 0) +ℚ int (pos 8) *ℚ x ≡ int (pos 0)
face_cancels x = by_reading {atoms = x ∷ []} (search reading depth 20) (search reading) refl

all_cancels : (m : Mesh) (q : Flux) → Cancel (λ p. exact m (parts q p))
all_cancels m q = exact_related Cancel cancel_none cancel_adds m (parts q) (record {
  cells = λ a i j k n hi hj hk is. cell_cancels (along a (q a) i j k) (along a (q a) (suc i) j k) (along a (corner_sum one) i j k) (corners_one a i j k);
  surfaces = λ a i j k e rs low hi hj hk is. face_cancels (entering (along a (q a) i j k) low);
})

pub nothing_enters : (m : Mesh) (q : Flux) → IsBalanced m q → exact m (entering_terms everywhere q) ≡ int (pos 0)
nothing_enters m q balanced = last (exact m (parts q of_jumps)) (exact m (parts q of_leaks)) (exact m (parts q of_entering))
    (jumps_none m (λ a i j k. along a (q a) i j k) balanced.shut) (leaks_none m one q balanced) (all_cancels m q)
  where
    last : (x y z : ℚ) → x ≡ int (pos 0) → y ≡ int (pos 0) → int (pos 8) *ℚ x +ℚ y +ℚ int (pos 8) *ℚ z ≡ int (pos 0) → z ≡ int (pos 0)
    last x y z ex ey e = cancel_ℚ 8 z (int (pos 0)) (omega arith) (by_given {atoms = x ∷ y ∷ z ∷ []} (search reading) (search reading)
        (given (int (pos 1)) (int (pos 8) *ℚ x +ℚ y +ℚ int (pos 8) *ℚ z) (int (pos 0)) (search reading) (search reading depth 20) (search reading) e
        (given (int (negsuc 7)) x (int (pos 0)) (search reading) (search reading) (search reading) ex
        (given (int (negsuc 0)) y (int (pos 0)) (search reading) (search reading) (search reading) ey none))) refl)

-- The bound --

data Case3 : Type 0 where
  of_others : Case3
  of_inside : Case3
  of_all : Case3

abbrev three : (inside others : Case) → Flux → Case3 → Terms
three inside others q of_others = entering_terms others (turned_flux q)
three inside others q of_inside = entering_terms inside q
three inside others q of_all = entering_terms everywhere q

abbrev Balances : (Case3 → ℚ) → Type 0
Balances f = f of_others +ℚ f of_all ≡ f of_inside

balances_none : Balances (λ _. int (pos 0))
balances_none = by_reading {atoms = []} (search reading) (search reading) refl

balances_adds : (f g : Case3 → ℚ) → Balances f → Balances g → Balances (λ p. f p +ℚ g p)
balances_adds f g d e = medial (f of_others) (g of_others) (f of_all) (g of_all) ∙ (λ t. d t +ℚ e t)
  where
    medial : (a b c d : ℚ) → (a +ℚ b) +ℚ (c +ℚ d) ≡ (a +ℚ c) +ℚ (b +ℚ d)
    medial a b c d = by_reading {atoms = a ∷ b ∷ c ∷ d ∷ []} (search reading) (search reading) refl

surface_balances : (others inside low : Bool) (F : ℚ) → others ≡ not inside →
    (if others then (if low then neg_ℚ F else neg_ℚ (neg_ℚ F)) else int (pos 0)) +ℚ (if low then F else neg_ℚ F) ≡ (if inside then (if low then F else neg_ℚ F) else int (pos 0))
surface_balances others inside low F e = ap (λ (b : Bool). (if b then (if low then neg_ℚ F else neg_ℚ (neg_ℚ F)) else int (pos 0)) +ℚ (if low then F else neg_ℚ F)) e ∙ opposite inside low F
  where
    opposite : (inside low : Bool) (F : ℚ) → (if not inside then (if low then neg_ℚ F else neg_ℚ (neg_ℚ F)) else int (pos 0)) +ℚ (if low then F else neg_ℚ F) ≡ (if inside then (if low then F else neg_ℚ F) else int (pos 0))
    opposite true true F = by_reading {atoms = F ∷ []} (search reading) (search reading) refl
    opposite true false F = by_reading {atoms = F ∷ []} (search reading) (search reading) refl
    opposite false true F = by_reading {atoms = F ∷ []} (search reading) (search reading) refl
    opposite false false F = by_reading {atoms = F ∷ []} (search reading) (search reading) refl

all_balance : (m : Mesh) (inside others : Case) (q : Flux) → AreComplementsOn m inside others → Balances (λ p. exact m (three inside others q p))
all_balance m inside others q complements = exact_related Balances balances_none balances_adds m (three inside others q) (record {
  cells = λ a i j k n hi hj hk is. balances_none;
  surfaces = λ a i j k e rs low hi hj hk is. ap (λ (F : ℕ → ℕ → ℕ → ℚ). (if others e then (if low then F i j k else neg_ℚ (F i j k)) else int (pos 0)) +ℚ (if low then along a (q a) i j k else neg_ℚ (along a (q a) i j k))) (flux_along a q)
      ∙ surface_balances (others e) (inside e) low (along a (q a) i j k) (complements a i j k e rs low hi hj hk is);
})

pub bound_turned : (m : Mesh) (inside others : Case) (q : Flux) → AreComplementsOn m inside others → IsBalanced m q → bound m others (turned_flux q) ≡ bound m inside q
unfolding bound source
bound_turned m inside others q complements balanced = λ t. int (pos (2 * 10 ^ 6)) *ℚ same t -ℚ loss_turned m q t
  where
    same : exact m (entering_terms others (turned_flux q)) ≡ exact m (entering_terms inside q)
    same = last (exact m (three inside others q of_others)) (exact m (three inside others q of_inside)) (exact m (three inside others q of_all)) (all_balance m inside others q complements) (nothing_enters m q balanced)
      where
        last : (x y z : ℚ) → x +ℚ z ≡ y → z ≡ int (pos 0) → x ≡ y
        last x y z e f = by_given {atoms = x ∷ y ∷ z ∷ []} (search reading) (search reading)
            (given (int (pos 1)) (x +ℚ z) y (search reading) (search reading) (search reading) e
            (given (int (negsuc 0)) z (int (pos 0)) (search reading) (search reading) (search reading) f none)) refl

-- Balance --

pub balance_turned : (m : Mesh) (q : Flux) → IsBalanced m q → IsBalanced m (turned_flux q)
balance_turned m q balanced = record {
  cells = λ i j k n hi hj hk is. opposite (q X (suc i) j k) (q X i j k) (q Y i (suc j) k) (q Y i j k) (q Z i j (suc k)) (q Z i j k) (balanced.cells i j k n hi hj hk is);
  shut = λ a i j k hi hj hk is. ap (λ (F : ℕ → ℕ → ℕ → ℚ). F i j k) (flux_along a q) ∙ ap neg_ℚ (balanced.shut a i j k hi hj hk is) ∙ by_reading {atoms = []} (search reading) (search reading) refl;
}
  where
    opposite : (a b c d e f : ℚ) → (a -ℚ b) +ℚ (c -ℚ d) +ℚ (e -ℚ f) ≡ int (pos 0) → (neg_ℚ a -ℚ neg_ℚ b) +ℚ (neg_ℚ c -ℚ neg_ℚ d) +ℚ (neg_ℚ e -ℚ neg_ℚ f) ≡ int (pos 0)
    opposite a b c d e f h = by_given {atoms = a ∷ b ∷ c ∷ d ∷ e ∷ f ∷ []} (search reading depth 20) (search reading)
        (given (int (negsuc 0)) ((a -ℚ b) +ℚ (c -ℚ d) +ℚ (e -ℚ f)) (int (pos 0)) (search reading) (search reading depth 20) (search reading) h none) refl
