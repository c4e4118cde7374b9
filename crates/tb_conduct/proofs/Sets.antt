-- Each set of the environments of a detail has a sound interval, where each case has one.
use Rattle.std.proofs.Common.{◌≡◌, refl, sym, ap, subst, ◌∙◌, ℕ, zero, suc, ◌*◌, ◌%◌, ◌^◌, ◌<◌, ◌≤◌, ℤ, pos, ◌==◌, Bool, true, false, List, [], ◌∷◌, length, Option, Some, None, inl, inr, ◌⊎◌, arith}
use Rattle.std.proofs.lemmas.Bool.{cases_Bool, cases_lt}
use Rattle.std.proofs.lemmas.Bool.Decides.{nat_tests}
use Rattle.std.proofs.lemmas.List.Quantifiers.{position-Some}
use Rattle.std.proofs.Math.Nat.{zero-div}
use Rattle.std.specs.Prelude.{◌&&◌, ◌||◌, is_some, if◌then◌else◌, position, slice_index, slice_index_or}
use Rattle.tb_math.specs.Division.{inverse, ◌/ℚ◌}
use Rattle.tb_math.specs.Rational.{ℚ, int, one_over, ◌+ℚ◌, ◌-ℚ◌, ◌*ℚ◌, ◌≤ℚ◌, neg_ℚ}
use Rattle.tb_math.proofs.ReadRationals.{by_given, by_reading, given, none, reading}
use Rattle.tb_places.specs.declared.AxisName.{AxisName}
use Rattle.tb_places.specs.declared.AxisName.TheVariants.{X, Y, Z}
use Rattle.tb_places.specs.Places.{along}
use Rattle.tb_detail.specs.declared.Detail.{Detail}
use Rattle.tb_detail.specs.Limits.{InLimits}
use Rattle.tb_geometry.specs.Cases.{case_masks}
use Rattle.tb_model.specs.Complements.{AreComplements, turned_field, turned_flux}
use Rattle.tb_model.specs.Energy.{Case, Field, Flux, IsBalanced, Terms, bound, boundary, cell_loss, energy, entering_terms, exact, field_terms, flux_terms, passage, source, spread, spread_at, surface_loss}
use Rattle.tb_model.specs.Mesh.{Mesh, cross_section}
use Rattle.tb_model.specs.Positive.{HasPositiveBoxes}
use Rattle.tb_model.specs.Refinement.{Scene, mesh, scene_of}
use Rattle.tb_model.specs.Soundness.{IsSound}
use Rattle.tb_model.specs.Values.{case_of}
use Rattle.tb_duality.proofs.AcrossRefinements.{duality_across}
use Rattle.tb_duality.proofs.BodiesInLimits.{boxes_positive, complements_on_meshes}
use Rattle.tb_duality.proofs.ComplementLaws.{balance_turned, bound_turned, energy_turned}
use Rattle.tb_duality.proofs.Masks.{masks_complement}
use Rattle.tb_duality.proofs.MeshSums.{exact_related}
use Rattle.tb_terms.specs.declared.Interval.{Interval}
use Rattle.tb_conduct.specs.Coupling.{AreSound}
use Rattle.tb_conduct.specs.Pairs.{interval_at, interval_of, no_heat, others}

-- ---- nothing flows, and it is cold everywhere

data One : Type 0 where
  only : One

abbrev still : Flux
still a i j k = int (pos 0)

abbrev cold : Field
cold i j k = int (pos 0)

still_along : (a : AxisName) (i j k : ℕ) → along a (still a) i j k ≡ int (pos 0)
still_along X i j k = refl
still_along Y i j k = refl
still_along Z i j k = refl

cold_along : (a : AxisName) (i j k : ℕ) → along a cold i j k ≡ int (pos 0)
cold_along X i j k = refl
cold_along Y i j k = refl
cold_along Z i j k = refl

-- a sum of terms that are all 0
none_of_all : (m : Mesh) (t : Terms) → ((a : AxisName) (i j k : ℕ) (c : ℚ) → t.cell a i j k c ≡ int (pos 0)) →
    ((a : AxisName) (i j k e rs : ℕ) (low : Bool) → t.surface a i j k e rs low ≡ int (pos 0)) → exact m t ≡ int (pos 0)
none_of_all m t cells surfaces = exact_related {I = One} (λ f. f only ≡ int (pos 0)) refl (λ f g d e. added (f only) (g only) d e) m (λ _. t) (record {
  cells = λ a i j k n hi hj hk is. cells a i j k (m.conductivity n a);
  surfaces = λ a i j k e rs low hi hj hk is. surfaces a i j k e rs low;
})
  where
    added : (x y : ℚ) → x ≡ int (pos 0) → y ≡ int (pos 0) → x +ℚ y ≡ int (pos 0)
    added x y d e = by_given {atoms = x ∷ y ∷ []} (search reading) (search reading)
        (given (int (pos 1)) x (int (pos 0)) (search reading) (search reading) (search reading) d
        (given (int (pos 1)) y (int (pos 0)) (search reading) (search reading) (search reading) e none)) refl

-- ---- the still flux

balanced : (m : Mesh) → IsBalanced m still
balanced m = record {
  cells = λ i j k n hi hj hk is. by_reading {atoms = []} (search reading depth 20) (search reading) refl;
  shut = λ a i j k hi hj hk is. still_along a i j k;
}

entering_none : (inside low : Bool) (F : ℚ) → F ≡ int (pos 0) → (if inside then (if low then F else neg_ℚ F) else int (pos 0)) ≡ int (pos 0)
entering_none true true F e = e
entering_none true false F e = ap neg_ℚ e ∙ by_reading {atoms = []} (search reading) (search reading) refl
entering_none false low F e = refl

cell_loss_none : (c w s F G : ℚ) → F ≡ int (pos 0) → G ≡ int (pos 0) → cell_loss c w s (passage F G) ≡ int (pos 0)
unfolding passage
cell_loss_none c w s F G e f = (λ t. cell_loss c w s (passage (e t) (f t))) ∙ cleared w (inverse (int (pos 3) *ℚ s *ℚ c))
  where
    cleared : (w v : ℚ) → w *ℚ (int (pos 0) *ℚ int (pos 0) +ℚ int (pos 0) *ℚ int (pos 0) +ℚ int (pos 0) *ℚ int (pos 0)) *ℚ int (pos 100000) *ℚ v ≡ int (pos 0)
    cleared w v = by_reading {atoms = w ∷ v ∷ []} (search reading depth 20) (search reading) refl

surface_loss_none : (rs : ℕ) (s F : ℚ) → F ≡ int (pos 0) → surface_loss rs s F ≡ int (pos 0)
surface_loss_none rs s F e = (λ t. surface_loss rs s (e t)) ∙ cleared (int (pos (10 * rs))) (inverse s)
  where
    cleared : (r v : ℚ) → r *ℚ (int (pos 0) *ℚ int (pos 0)) *ℚ v ≡ int (pos 0)
    cleared r v = by_reading {atoms = r ∷ v ∷ []} (search reading depth 20) (search reading) refl

no_bound : (m : Mesh) (inside : Case) → bound m inside still ≡ int (pos 0)
unfolding bound source
no_bound m inside = (λ t. int (pos (2 * 10 ^ 6)) *ℚ entering t -ℚ lost t) ∙ by_reading {atoms = []} (search reading depth 20) (search reading) refl
  where
    entering : exact m (entering_terms inside still) ≡ int (pos 0)
    entering = none_of_all m (entering_terms inside still) (λ a i j k c. refl) (λ a i j k e rs low. entering_none (inside e) low (along a (still a) i j k) (still_along a i j k))

    lost : exact m (flux_terms m still) ≡ int (pos 0)
    lost = none_of_all m (flux_terms m still)
        (λ a i j k c. cell_loss_none c (m.width a i) (cross_section m a j k) (along a (still a) i j k) (along a (still a) (suc i) j k) (still_along a i j k) (still_along a (suc i) j k))
        (λ a i j k e rs low. surface_loss_none rs (cross_section m a j k) (along a (still a) i j k) (still_along a i j k))

-- ---- the cold field

spread_none : (p q r s : ℚ) → p ≡ int (pos 0) → q ≡ int (pos 0) → r ≡ int (pos 0) → s ≡ int (pos 0) → spread p q r s ≡ int (pos 0)
unfolding spread
spread_none p q r s e f g h = (λ t. spread (e t) (f t) (g t) (h t)) ∙ by_reading {atoms = []} (search reading depth 60 fits 100000) (search reading) refl

both_none : (x y : ℚ) → x ≡ int (pos 0) → y ≡ int (pos 0) → x -ℚ y ≡ int (pos 0)
both_none x y e f = (λ t. e t -ℚ f t) ∙ by_reading {atoms = []} (search reading) (search reading) refl

scaled_none : (x M y : ℚ) → M ≡ int (pos 0) → x *ℚ M *ℚ y ≡ int (pos 0)
scaled_none x M y e = (λ t. x *ℚ e t *ℚ y) ∙ by_reading {atoms = x ∷ y ∷ []} (search reading) (search reading) refl

outside : (b : Bool) → b ≡ false → (if b then int (pos 100000000) else int (pos 0)) ≡ int (pos 0)
outside b e = ap (λ (t : Bool). if t then int (pos 100000000) else int (pos 0)) e

no_energy : (m : Mesh) (inside : Case) → ((e : ℕ) → inside e ≡ false) → energy m inside cold ≡ int (pos 0)
unfolding energy
no_energy m inside none_inside = none_of_all m (field_terms m inside cold)
    (λ a i j k c. scaled_none (c *ℚ cross_section m a j k /ℚ m.width a i) (spread_at (λ q r. along a cold (suc i) q r -ℚ along a cold i q r) j k) (one_over (36 * 10 ^ 9))
    (spread_none _ _ _ _ (along_none a i j k) (along_none a i (suc j) k) (along_none a i j (suc k)) (along_none a i (suc j) (suc k))))
    (λ a i j k e rs low. scaled_none (cross_section m a j k *ℚ one_over rs) (spread_at (λ q r. along a cold i q r -ℚ boundary inside e) j k) (one_over (36 * 10 ^ 5))
    (spread_none _ _ _ _ (at_none a i j k e) (at_none a i (suc j) k e) (at_none a i j (suc k) e) (at_none a i (suc j) (suc k) e)))
  where
    along_none : (a : AxisName) (i j k : ℕ) → along a cold (suc i) j k -ℚ along a cold i j k ≡ int (pos 0)
    along_none a i j k = both_none (along a cold (suc i) j k) (along a cold i j k) (cold_along a (suc i) j k) (cold_along a i j k)

    at_none : (a : AxisName) (i j k e : ℕ) → along a cold i j k -ℚ boundary inside e ≡ int (pos 0)
    at_none a i j k e = both_none (along a cold i j k) (boundary inside e) (cold_along a i j k) (outside (inside e) (none_inside e))

-- ---- no environment, and the others

pub nothing_sound : (s : Scene) → HasPositiveBoxes s → (inside : Case) → ((e : ℕ) → inside e ≡ false) → IsSound s inside (pos 0) (pos 0)
nothing_sound s positive inside none_inside r refines = record {
  fields = λ T. subst (λ (x : ℚ). x ≤ℚ energy (mesh s r) inside T) (no_bound (mesh s r) inside) (duality_across s r r inside T still refines refines positive (balanced (mesh s r)));
  fluxes = λ q b. subst (λ (x : ℚ). bound (mesh s r) inside q ≤ℚ x) (no_energy (mesh s r) inside none_inside) (duality_across s r r inside cold q refines refines positive b);
}

pub others_sound : (d : Detail) → InLimits d → (inside rest : Case) → AreComplements d inside rest → (lo hi : ℤ) → IsSound (scene_of d) rest lo hi → IsSound (scene_of d) inside lo hi
others_sound d limits inside rest complements lo hi sound r refines =
    let on = complements_on_meshes d r inside rest limits complements in
    record {
      fields = λ T. subst (λ (x : ℚ). int lo ≤ℚ x) (energy_turned (mesh (scene_of d) r) inside rest T on) ((sound r refines).fields (turned_field T));
      fluxes = λ q b. subst (λ (x : ℚ). x ≤ℚ int hi) (bound_turned (mesh (scene_of d) r) inside rest q on b) ((sound r refines).fluxes (turned_flux q) (balance_turned (mesh (scene_of d) r) q b));
    }

none_in_0 : (e : ℕ) → case_of 0 e ≡ false
none_in_0 e = ap (λ (t : ℕ). (t % 2) == 1) (zero-div (2 ^ e))

-- ---- the place of a case

one_of : (c s t : ℕ) → (c == s || c == t) ≡ true → (c ≡ s) ⊎ (c ≡ t)
one_of c s t h = elim (cases_Bool (c == s)) [
  | inl e ↦ inl (grind (arith, nat_tests))
  | inr f ↦ inr (let g : (c == t) ≡ true = rw f at h in grind (arith, nat_tests))
]

both_true : (a b : Bool) → (a && b) ≡ true → (a ≡ true) × (b ≡ true)
both_true true b h = (refl, h)
both_true false b h = absurd (cc h)

-- a test that all numbers below k pass
abbrev all_below : ℕ → (ℕ → Bool) → Bool
all_below zero p = true
all_below (suc k) p = p k && all_below k p

each_below : (k : ℕ) (p : ℕ → Bool) → all_below k p ≡ true → (i : ℕ) → i < k → p i ≡ true
each_below zero p h i within = absurd (omega arith)
each_below (suc k) p h i within =
    let split = both_true (p k) (all_below k p) h in
    elim (cases_lt i k) [
      | inl before ↦ each_below k p split.1 i before
      | inr after ↦ let here : i ≡ k = omega arith in rw here split.0
    ]

-- a set is that of a case or of the others of one, or it is empty or full
abbrev is_told : ℕ → ℕ → Bool
is_told n set = is_some (position (λ c. c == set || c == others n set) (case_masks n)) || (set == 0 || others n set == 0)

all_told : (n set : ℕ) → 2 ≤ n → n ≤ 4 → set < 2 ^ n → is_told n set ≡ true
all_told zero set low high within = absurd (omega arith)
all_told (suc zero) set low high within = absurd (omega arith)
all_told (suc (suc zero)) set low high within = each_below 4 (is_told 2) refl set within
all_told (suc (suc (suc zero))) set low high within = each_below 8 (is_told 3) refl set within
all_told (suc (suc (suc (suc zero)))) set low high within = each_below 16 (is_told 4) refl set within
all_told (suc (suc (suc (suc (suc n))))) set low high within = absurd (omega arith)

-- ---- each set

module _ (d : Detail) (intervals : List Interval) (limits : InLimits d) (sound : AreSound d intervals) (set : ℕ) (within : set < 2 ^ length d.environments) where
  abbrev n : ℕ
  n = length d.environments

  abbrev Holds : Interval → Type 0
  Holds interval = IsSound (scene_of d) (case_of set) interval.lo interval.hi

  from_others : (rest : ℕ) → rest ≡ others n set → (interval : Interval) → IsSound (scene_of d) (case_of rest) interval.lo interval.hi → Holds interval
  from_others rest e interval h = others_sound d limits (case_of set) (case_of rest) (rw e (masks_complement d set within)) interval.lo interval.hi h

  of_case : (place : ℕ) → place < length (case_masks n) → (slice_index (case_masks n) place == set || slice_index (case_masks n) place == others n set) ≡ true →
      Holds (slice_index_or intervals place no_heat)
  of_case place known test = elim (one_of (slice_index (case_masks n) place) set (others n set) test) [
    | inl e ↦ subst (λ (t : ℕ). IsSound (scene_of d) (case_of t) (slice_index_or intervals place no_heat).lo (slice_index_or intervals place no_heat).hi) e (sound place known)
    | inr e ↦ from_others (slice_index (case_masks n) place) e (slice_index_or intervals place no_heat) (sound place known)
  ]

  of_none : HasPositiveBoxes (scene_of d) → (set == 0 || others n set == 0) ≡ true → Holds no_heat
  of_none positive test = elim (cases_Bool (set == 0)) [
    | inl t ↦ let e : set ≡ 0 = grind (arith, nat_tests) in rw e (nothing_sound (scene_of d) positive (case_of 0) none_in_0)
    | inr f ↦ let g : (others n set == 0) ≡ true = rw f at test in let e : others n set ≡ 0 = grind (arith, nat_tests) in
        from_others 0 (sym e) no_heat (nothing_sound (scene_of d) positive (case_of 0) none_in_0)
  ]

  at_place : (o : Option ℕ) → position (λ c. c == set || c == others n set) (case_masks n) ≡ o → is_told n set ≡ true → Holds (interval_at intervals o)
  at_place (Some place) is told = let first = position-Some (λ c. c == set || c == others n set) (case_masks n) place 0 is in of_case place first.0 first.1
  at_place None is told = of_none (boxes_positive d limits) (rw is at told)

pub sets_sound : (d : Detail) (intervals : List Interval) (set : ℕ) → InLimits d → 2 ≤ length d.environments → length d.environments ≤ 4 → AreSound d intervals → set < 2 ^ length d.environments →
    IsSound (scene_of d) (case_of set) (interval_of (length d.environments) intervals set).lo (interval_of (length d.environments) intervals set).hi
sets_sound d intervals set limits low high sound within = at_place d intervals limits sound set within _ refl (all_told (length d.environments) set low high within)
