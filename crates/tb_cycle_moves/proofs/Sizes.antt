-- The slope of a face is bounded by its rate, and what keeps the limits at a face is a range.
use Rattle.std.proofs.Common.{◌≡◌, ◌↔◌, refl, sym, subst, arith, ⊎_elim, ℕ, zero, suc, ◌+◌, ◌*◌, ◌-◌, ◌^◌, ◌<◌, ◌≤◌, Bool, true, false, if◌then◌else◌, cond, ltb, List, [], ◌∷◌, length, map, mul-le-mul_left}
use Rattle.std.specs.Prelude.{negsuc, neg_ℤ, slice_index_or, unsigned_abs}
use Rattle.std.proofs.lemmas.Bool.{cases_lt}
use Rattle.std.proofs.lemmas.Int.{ints, unsigned_abs-mul}
use Rattle.std.proofs.lemmas.List.{get_or_past}
use lib.IntN.{ℤ, pos, ◌+ℤ◌, ◌-ℤ◌, ◌*ℤ◌}
use lib.Signed.{◌≤ℤ◌, ◌<ℤ◌}
use Rattle.tb_math.proofs.ReadIntegers.{by_reading, reading}
use Rattle.tb_places.specs.declared.AxisName.{AxisName}
use Rattle.tb_places.specs.declared.AxisName.TheVariants.{X, Y, Z}
use Rattle.tb_places.specs.Places.{Counts, face_number, place_at, second, third}
use Rattle.tb_outlets.specs.Balancing.{flow}
use Rattle.tb_weighted.specs.Forms.{Spread3, before, behind, only_at}
use Rattle.tb_weighted.specs.Flows.{flow_cell, flow_cell_slope, flow_face_rate, flow_face_slope}
use Rattle.tb_weighted.specs.Limits.{InFlow, IsFlux}
use Rattle.tb_weighted.proofs.FlowLaws as flow_laws
use Rattle.tb_weighted.proofs.Pulls.{axis_flow_rates, axis_flow_slopes}
use Rattle.tb_relax.specs.declared.table.FaceWeight.{FaceWeight}
use Rattle.tb_relax.specs.declared.table.Table.{Table}
use Rattle.tb_relax.specs.Tables.{cell_flux_at, face_flux_at, face_source_at, flow_on, flux_forms, rate_through, slope_through, source_of, table_counts}
use Rattle.tb_cycle_moves.specs.Reaches.{most_slope, passing}

-- ---- flows within the limits
pub all_limits : (n : Counts) (flows : List ℤ) → IsFlux n flows → (g : ℕ) → InFlow (flow flows g)
all_limits n flows flux g = ⊎_elim
    (λ (l : g < length flows). flux.within g (pos 0) l)
    (λ (l : length flows ≤ g). subst InFlow (sym (get_or_past flows g (pos 0) l)) (omega arith))
    (cases_lt g (length flows))

on_limits : (n : Counts) (flows : List ℤ) → ((g : ℕ) → InFlow (flow flows g)) → (a : AxisName) (i j k : ℕ) → InFlow (flow_on n flows a i j k)
on_limits n flows limits X i j k = limits (face_number n X (place_at i j k))
on_limits n flows limits Y i j k = limits (face_number n Y (place_at j i k))
on_limits n flows limits Z i j k = limits (face_number n Z (place_at j k i))

-- ---- sources
source_by : (b c : Bool) → unsigned_abs (if b then (if c then negsuc (60 * 2 ^ 44 - 1) else pos (60 * 2 ^ 44)) else pos 0) ≤ 2 ^ 60
source_by true true = omega arith
source_by true false = omega arith
source_by false c = omega arith

source_in : (rows : List FaceWeight) (r : ℕ) → unsigned_abs (slice_index_or (map source_of rows) r (pos 0)) ≤ 2 ^ 60
source_in [] r = omega arith
source_in (w ∷ ws) zero = source_by w.inside w.low_is_air
source_in (w ∷ ws) (suc r) = source_in ws r

-- ---- products
product_small : (v m : ℕ) (d : ℤ) → unsigned_abs d ≤ m → unsigned_abs (pos v *ℤ d) ≤ v * m
product_small v m d h = subst (λ (k : ℕ). k ≤ v * m) (sym (unsigned_abs-mul (pos v) d)) (mul-le-mul_left v h)

mixed_small : (h x : ℤ) → InFlow h → InFlow x → unsigned_abs (pos 2 *ℤ h +ℤ x) ≤ 3 * 10 ^ 12
mixed_small h x p q = omega (arith, ints)

face_small : (w : ℕ) (y e : ℤ) → unsigned_abs y ≤ w * 10 ^ 12 → unsigned_abs e ≤ 2 ^ 60 → unsigned_abs (pos 2 *ℤ y +ℤ e) ≤ w * (2 * 10 ^ 12) + 2 ^ 60
face_small w y e p q = omega (arith, ints)

all_small : (u v w : ℕ) (r s x y z : ℤ) (rx ry rz : ℤ) → r ≡ (rx +ℤ ry) +ℤ rz → s ≡ (x +ℤ y) +ℤ z → rx ≡ pos u → ry ≡ pos v → rz ≡ pos w → unsigned_abs x ≤ u * (3 * 10 ^ 12) → unsigned_abs y ≤ v * (3 * 10 ^ 12) →
    unsigned_abs z ≤ w * (2 * 10 ^ 12) + 2 ^ 60 → r <ℤ pos (2 ^ 66) → unsigned_abs s ≤ most_slope
all_small u v w r s x y z rx ry rz e f gx gy gz a b c l = omega (arith, ints)

-- what a cell beside a face gives: so much rate, and a slope that it bounds
record IsPart (rate slope : ℤ) : Type 0 where
  pub weight : ℕ
  pub rates : rate ≡ pos weight
  pub slopes : unsigned_abs slope ≤ weight * (3 * 10 ^ 12)

no_part : IsPart (pos 0) (pos 0)
no_part = record { weight = 0; rates = refl; slopes = omega arith }

module _ (t : Table) (flows : List ℤ) (limits : (g : ℕ) → InFlow (flow flows g)) (a : AxisName) (j k : ℕ) where
  abbrev n : Counts
  n = table_counts t

  abbrev g : Spread3
  g = flow_on n flows a

  abbrev v : Spread3
  v i j k = pos (cell_flux_at t a i j k)

  abbrev s : Spread3
  s i j k = pos (face_flux_at t a i j k)

  abbrev e : Spread3
  e i j k = face_source_at t a i j k

  below : (i : ℕ) → IsPart (before (λ h. flow_cell v (only_at i j k) h j k) i) (before (λ h. flow_cell_slope v g (only_at i j k) h j k) i)
  below zero = no_part
  below (suc i) = record {
    weight = cell_flux_at t a i j k;
    rates = flow_laws.rate_below v s e g i j k;
    slopes = subst (λ (z : ℤ). unsigned_abs z ≤ cell_flux_at t a i j k * (3 * 10 ^ 12)) (sym (flow_laws.slope_below v s e g i j k))
        (product_small (cell_flux_at t a i j k) (3 * 10 ^ 12) (pos 2 *ℤ g (suc i) j k +ℤ g i j k) (mixed_small (g (suc i) j k) (g i j k) (on_limits n flows limits a (suc i) j k) (on_limits n flows limits a i j k)));
  }

  above : (i : ℕ) → IsPart (behind (λ h. flow_cell v (only_at i j k) h j k) (n a) i) (behind (λ h. flow_cell_slope v g (only_at i j k) h j k) (n a) i)
  above i = cases (ltb i (n a))
    where
      cases : (b : Bool) → IsPart (cond b (flow_cell v (only_at i j k) i j k) (pos 0)) (cond b (flow_cell_slope v g (only_at i j k) i j k) (pos 0))
      cases true = record {
        weight = cell_flux_at t a i j k;
        rates = flow_laws.rate_above v s e g i j k;
        slopes = subst (λ (z : ℤ). unsigned_abs z ≤ cell_flux_at t a i j k * (3 * 10 ^ 12)) (sym (flow_laws.slope_above v s e g i j k))
            (product_small (cell_flux_at t a i j k) (3 * 10 ^ 12) (pos 2 *ℤ g i j k +ℤ g (suc i) j k) (mixed_small (g i j k) (g (suc i) j k) (on_limits n flows limits a i j k) (on_limits n flows limits a (suc i) j k)));
      }
      cases false = no_part

  pub slope_small : (i : ℕ) → i ≤ n a → j < n (second a) → k < n (third a) → rate_through t a i j k <ℤ pos (2 ^ 66) → unsigned_abs (slope_through t flows a i j k) ≤ most_slope
  unfolding flux_forms
  slope_small i hi hj hk l =
      let first = below i in
      let other = above i in
      all_small first.weight other.weight (face_flux_at t a i j k) (rate_through t a i j k) (slope_through t flows a i j k)
      (before (λ h. flow_cell_slope v g (only_at i j k) h j k) i) (behind (λ h. flow_cell_slope v g (only_at i j k) h j k) (n a) i) (flow_face_slope s e g (only_at i j k) i j k)
      (before (λ h. flow_cell v (only_at i j k) h j k) i) (behind (λ h. flow_cell v (only_at i j k) h j k) (n a) i) (flow_face_rate s (only_at i j k) i j k)
      (axis_flow_rates (flux_forms t) g a i j k hi hj hk) (axis_flow_slopes (flux_forms t) g a i j k hi hj hk) first.rates other.rates (flow_laws.rate_at v s e g i j k) first.slopes other.slopes
      (subst (λ (z : ℤ). unsigned_abs z ≤ face_flux_at t a i j k * (2 * 10 ^ 12) + 2 ^ 60) (sym (flow_laws.slope_at v s e g i j k))
      (face_small (face_flux_at t a i j k) (s i j k *ℤ g i j k) (e i j k) (product_small (face_flux_at t a i j k) (10 ^ 12) (g i j k) (on_limits n flows limits a i j k)) (source_in t.face_rows.now _))) l

-- ---- the range at a face
times_forth : (t : ℤ) → t *ℤ pos 1 ≡ t
times_forth t = by_reading {atoms = t ∷ []} (search reading) (search reading) refl

times_back : (t : ℤ) → t *ℤ negsuc 0 ≡ neg_ℤ t
times_back t = by_reading {atoms = t ∷ []} (search reading) (search reading) refl

pub forth_within : (b : Bool) (l h v t : ℤ) → b ≡ true → l ≡ (negsuc (10 ^ 12 - 1) -ℤ v) → h ≡ (pos (10 ^ 12) -ℤ v) → ((l ≤ℤ t) × (t ≤ℤ h)) ↔ InFlow (v +ℤ t *ℤ passing b)
forth_within b l h v t is e f = subst (λ (c : Bool). ((l ≤ℤ t) × (t ≤ℤ h)) ↔ InFlow (v +ℤ t *ℤ passing c)) (sym is)
    (subst (λ (x : ℤ). ((l ≤ℤ t) × (t ≤ℤ h)) ↔ InFlow (v +ℤ x)) (sym (times_forth t)) (forth, back))
  where
    forth : ((l ≤ℤ t) × (t ≤ℤ h)) → InFlow (v +ℤ t)
    forth (p, q) = omega (arith, ints)

    back : InFlow (v +ℤ t) → ((l ≤ℤ t) × (t ≤ℤ h))
    back p = (omega (arith, ints), omega (arith, ints))

pub back_within : (b : Bool) (l h v t lo hi : ℤ) → b ≡ false → l ≡ neg_ℤ hi → h ≡ neg_ℤ lo → lo ≡ (negsuc (10 ^ 12 - 1) -ℤ v) → hi ≡ (pos (10 ^ 12) -ℤ v) → ((l ≤ℤ t) × (t ≤ℤ h)) ↔ InFlow (v +ℤ t *ℤ passing b)
back_within b l h v t lo hi is e f e' f' = subst (λ (c : Bool). ((l ≤ℤ t) × (t ≤ℤ h)) ↔ InFlow (v +ℤ t *ℤ passing c)) (sym is)
    (subst (λ (x : ℤ). ((l ≤ℤ t) × (t ≤ℤ h)) ↔ InFlow (v +ℤ x)) (sym (times_back t)) (forth, back))
  where
    forth : ((l ≤ℤ t) × (t ≤ℤ h)) → InFlow (v +ℤ neg_ℤ t)
    forth (p, q) = omega (arith, ints)

    back : InFlow (v +ℤ neg_ℤ t) → ((l ≤ℤ t) × (t ≤ℤ h))
    back p = (omega (arith, ints), omega (arith, ints))
