-- The flux without heat: it is within limits and balanced, and its weighted energy is 0.
use Rattle.std.proofs.Common.{◌≡◌, refl, sym, ap, ◌∙◌, ℕ, zero, suc, ◌*◌, ◌^◌, List, [], get_or, replicate, Bool, true, false, if◌then◌else◌, arith}
use Rattle.std.proofs.lemmas.Int.{ints}
use Rattle.std.proofs.lemmas.List.{length-replicate}
use Rattle.std.proofs.lemmas.List.Elements.{All-replicate}
use lib.IntN.{ℤ, pos, ◌+ℤ◌, ◌-ℤ◌, ◌*ℤ◌}
use lib.Signed.{◌≤ℤ◌}
use Rattle.tb_math.specs.Ceiling.{floor}
use Rattle.tb_math.specs.Rational.{ℚ, int, ◌+ℚ◌, ◌-ℚ◌, ◌*ℚ◌, neg_ℚ}
use Rattle.tb_math.proofs.CeilingLaws.{floor-int}
use Rattle.tb_math.proofs.RationalLaws.{int-mul, int-neg}
use Rattle.tb_math.proofs.ReadRationals.{by_reading, reading}
use Rattle.tb_places.specs.declared.AxisName.{AxisName}
use Rattle.tb_places.specs.declared.AxisName.TheVariants.{X, Y, Z}
use Rattle.tb_places.specs.Places.{Counts, along, face_count, face_number, node_count, place_at}
use Rattle.tb_model.specs.Energy.{Case, Flux, IsBalanced, Terms, entering_terms, passage}
use Rattle.tb_model.specs.Mesh.{Mesh, cross_section}
use Rattle.tb_model.specs.Values.{flux_of}
use Rattle.tb_weighted.specs.Limits.{InField, InFlow}
use Rattle.tb_weighted.specs.Weighted.{flux_weight, surface_flux_weight, weighted_flux, weighted_flux_terms, whole_sum}
use Rattle.tb_duality.proofs.MeshSums.{Readings, mesh_related}
use Rattle.tb_costs.specs.Admissible.{IsAdmissible, most_energy, without_heat}

-- ---- what is read from zeros
read_none : (n k : ℕ) → get_or (replicate n (pos 0)) k (pos 0) ≡ pos 0
read_none zero k = refl
read_none (suc n) zero = refl
read_none (suc n) (suc k) = read_none n k

abbrev pub none_flowing : Counts → List ℤ
none_flowing n = (without_heat n).flux

no_flow : (n : Counts) (a : AxisName) (i j k : ℕ) → flux_of n (none_flowing n) a i j k ≡ int (pos 0)
no_flow n a i j k = ap int (read_none (face_count n) (face_number n a (place_at i j k)))

none_along : (n : Counts) (a : AxisName) (i j k : ℕ) → along a (flux_of n (none_flowing n) a) i j k ≡ int (pos 0)
none_along n X i j k = no_flow n X i j k
none_along n Y i j k = no_flow n Y j i k
none_along n Z i j k = no_flow n Z j k i

-- ---- its sums
data Part : Type 0 where
  weighed : Part
  entered : Part

abbrev wholes : Readings Part
wholes = record { Sum = λ _. ℤ; none = λ _. pos 0; plus = λ _. ◌+ℤ◌; read = λ _. floor }

abbrev terms : Mesh → Case → Flux → Part → Terms
terms m inside q weighed = weighted_flux_terms m q
terms m inside q entered = entering_terms inside q

record AreNone (x y : ℤ) : Type 0 where
  first : x ≡ pos 0
  second : y ≡ pos 0

none_adds : (x y x' y' : ℤ) → AreNone x y → AreNone x' y' → AreNone (x +ℤ x') (y +ℤ y')
none_adds x y x' y' h k = record { first = omega (arith, ints, h.first, k.first); second = omega (arith, ints, h.second, k.second) }

no_product : (w : ℤ) → w *ℤ pos 0 ≡ pos 0
no_product w = omega (arith, ints)

no_form : (w : ℤ) (P : ℚ) → P ≡ int (pos 0) → floor (int w *ℚ P) ≡ pos 0
no_form w P e = ap floor (ap (λ (t : ℚ). int w *ℚ t) e ∙ sym (int-mul w (pos 0))) ∙ floor-int (w *ℤ pos 0) ∙ no_product w

no_flows : passage (int (pos 0)) (int (pos 0)) ≡ int (pos 0)
unfolding passage
no_flows = by_reading {atoms = []} (search reading depth 20) (search reading) refl

no_passage : (F G : ℚ) → F ≡ int (pos 0) → G ≡ int (pos 0) → passage F G ≡ int (pos 0)
no_passage F G e f = ap (λ (t : ℚ). passage t G) e ∙ ap (λ (t : ℚ). passage (int (pos 0)) t) f ∙ no_flows

no_square : (F : ℚ) → F ≡ int (pos 0) → F *ℚ F ≡ int (pos 0)
no_square F e = ap (λ (t : ℚ). t *ℚ t) e ∙ sym (int-mul (pos 0) (pos 0))

none_enters : (b low : Bool) (F : ℚ) → F ≡ int (pos 0) → floor (if b then (if low then F else neg_ℚ F) else int (pos 0)) ≡ pos 0
none_enters true true F e = ap floor e ∙ floor-int (pos 0)
none_enters true false F e = ap floor (ap neg_ℚ e ∙ sym (int-neg (pos 0))) ∙ floor-int (pos 0)
none_enters false low F e = floor-int (pos 0)

module _ (m : Mesh) (inside : Case) where
  abbrev q : Flux
  q = flux_of m.cells (none_flowing m.cells)

  sums_none : AreNone (whole_sum m (weighted_flux_terms m q)) (whole_sum m (entering_terms inside q))
  sums_none = mesh_related wholes (λ f. AreNone (f weighed) (f entered)) (record { first = refl; second = refl })
      (λ f g h k. none_adds (f weighed) (f entered) (g weighed) (g entered) h k) m (terms m inside q) (record {
        cells = λ a i j k n hi hj hk is. record {
          first = no_form (flux_weight (m.conductivity n a) (m.width a i) (cross_section m a j k)) _ (no_passage _ _ (none_along m.cells a i j k) (none_along m.cells a (suc i) j k));
          second = floor-int (pos 0);
        };
        surfaces = λ a i j k e rs low hi hj hk is. record {
          first = no_form (surface_flux_weight rs (cross_section m a j k)) _ (no_square _ (none_along m.cells a i j k));
          second = none_enters (inside e) low _ (none_along m.cells a i j k);
        };
      })

  pub no_energy : weighted_flux m inside q ≡ pos 0
  unfolding weighted_flux
  no_energy = less (whole_sum m (weighted_flux_terms m q)) (whole_sum m (entering_terms inside q)) sums_none.first sums_none.second
    where
      less : (x y : ℤ) → x ≡ pos 0 → y ≡ pos 0 → x -ℤ pos (60 * 2 ^ 44) *ℤ y ≡ pos 0
      less x y e f = omega (arith, ints)

  balanced : IsBalanced m q
  balanced = record {
    cells = λ i j k n hx hy hz is. six (no_flow m.cells X (suc i) j k) (no_flow m.cells X i j k) (no_flow m.cells Y i (suc j) k) (no_flow m.cells Y i j k) (no_flow m.cells Z i j (suc k)) (no_flow m.cells Z i j k);
    shut = λ a i j k hi hj hk is. none_along m.cells a i j k;
  }
    where
      six : {a b c d f g : ℚ} → a ≡ int (pos 0) → b ≡ int (pos 0) → c ≡ int (pos 0) → d ≡ int (pos 0) → f ≡ int (pos 0) → g ≡ int (pos 0) → (a -ℚ b) +ℚ (c -ℚ d) +ℚ (f -ℚ g) ≡ int (pos 0)
      six u v w x y z = rw (u, v, w, x, y, z) (by_reading {atoms = []} {a = (int (pos 0) -ℚ int (pos 0)) +ℚ (int (pos 0) -ℚ int (pos 0)) +ℚ (int (pos 0) -ℚ int (pos 0))} {b = int (pos 0)} (search reading depth 20) (search reading) refl)

  pub none_admissible : IsAdmissible m inside (without_heat m.cells)
  none_admissible = record {
    field = record { nodes = length-replicate (node_count m.cells) (pos 0); within = All-replicate InField (node_count m.cells) (pos 0) (omega (arith, ints), omega (arith, ints)) };
    flux = record { faces = length-replicate (face_count m.cells) (pos 0); within = All-replicate InFlow (face_count m.cells) (pos 0) (omega arith) };
    balanced = balanced;
    energy = small (weighted_flux m inside q) no_energy;
  }
    where
      small : (z : ℤ) → z ≡ pos 0 → z ≤ℤ most_energy
      small z e = omega (arith, ints)
