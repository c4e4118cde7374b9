-- A flux changed round an edge, through four faces of which some count: the parabola of its energy is the sum of four, and
-- the least multiple of that is a move.
use mathlib.Core.Path.{◌≡◌, refl, sym, ap, ◌∙◌, subst}
use mathlib.Core.Bool.{Bool, true, false}
use mathlib.Core.List.{List, [], ◌∷◌}
use Prim.Native.Nat.{ℕ, ◌^◌, ◌<◌, ◌≤◌}
use native.Mathlib.Omega.{arith}
use Rattle.std.specs.Prelude.{unsigned_abs}
use Rattle.std.proofs.Common.{◌≢◌, ◌⊎◌, inl, inr, length}
use Rattle.std.proofs.lemmas.Int.{ints}
use lib.IntN.{ℤ, pos, ◌+ℤ◌, ◌-ℤ◌, ◌*ℤ◌, neg_ℤ}
use lib.Signed.{◌≤ℤ◌}
use Rattle.tb_math.proofs.ReadIntegers.{by_reading, reading}
use Rattle.tb_places.specs.declared.AxisName.{AxisName}
use Rattle.tb_places.specs.declared.Place.{Place}
use Rattle.tb_places.specs.Along.{place_along}
use Rattle.tb_places.specs.Places.{IsFace, along, face_count, face_number, place_at}
use Rattle.tb_places.proofs.Faces.{face_number_below}
use Rattle.tb_weighted.specs.Forms.{bit}
use Rattle.tb_weighted.specs.Flows.{FlowForms, Flows3, flow_energy, flow_rate, flow_slope, flows_of}
use Rattle.tb_weighted.specs.FlowMoves.{IsFlowMoveBy, counted, through}
use Rattle.tb_weighted.specs.Least.{IsNearestLeastOf, apart, parabola}
use Rattle.tb_weighted.specs.Limits.{InFlow, IsFlux}
use Rattle.tb_weighted.specs.Moves.{KeepsLimits, value_at, with_multiple}
use Rattle.tb_weighted.proofs.FlowLaws.{flows_parabola}
use Rattle.tb_weighted.proofs.FlowSlopes.{ShareNoLine, mix_flows, rate_apart, rate_of_one, rate_through, slope_linear, slope_of_one, slope_through}
use Rattle.tb_weighted.proofs.Local.{bit_same, bit_other}
use Rattle.tb_weighted.proofs.Through.{bit_of_face, counted_none, counted_sum, counted_through, counted_times, four, four_added, four_kept, length_four}
use Rattle.tb_weighted.proofs.Unique.{IsParabola}

as_mix : (p q r s x y z w : ℤ) → (p *ℤ x -ℤ q *ℤ y) +ℤ (r *ℤ z -ℤ s *ℤ w) ≡ pos 1 *ℤ (p *ℤ x +ℤ neg_ℤ q *ℤ y) +ℤ pos 1 *ℤ (r *ℤ z +ℤ neg_ℤ s *ℤ w)
as_mix p q r s x y z w = by_reading {atoms = p ∷ q ∷ r ∷ s ∷ x ∷ y ∷ z ∷ w ∷ []} (search reading depth 60 fits 100000) (search reading depth 60 fits 100000) refl

slopes_sum : (p q r s x y z w : ℤ) → pos 1 *ℤ (p *ℤ x +ℤ neg_ℤ q *ℤ y) +ℤ pos 1 *ℤ (r *ℤ z +ℤ neg_ℤ s *ℤ w) ≡ (p *ℤ x +ℤ neg_ℤ (q *ℤ y)) +ℤ (r *ℤ z +ℤ neg_ℤ (s *ℤ w))
slopes_sum p q r s x y z w = by_reading {atoms = p ∷ q ∷ r ∷ s ∷ x ∷ y ∷ z ∷ w ∷ []} (search reading depth 60 fits 100000) (search reading depth 60 fits 100000) refl

rates_sum : (p q r s x y z w : ℤ) → (pos 1 *ℤ pos 1) *ℤ ((p *ℤ p) *ℤ x +ℤ (neg_ℤ q *ℤ neg_ℤ q) *ℤ y) +ℤ (pos 1 *ℤ pos 1) *ℤ ((r *ℤ r) *ℤ z +ℤ (neg_ℤ s *ℤ neg_ℤ s) *ℤ w)
    ≡ (p *ℤ (p *ℤ x) +ℤ q *ℤ (q *ℤ y)) +ℤ (r *ℤ (r *ℤ z) +ℤ s *ℤ (s *ℤ w))
rates_sum p q r s x y z w = by_reading {atoms = p ∷ q ∷ r ∷ s ∷ x ∷ y ∷ z ∷ w ∷ []} (search reading depth 60 fits 100000) (search reading depth 60 fits 100000) refl

twice_counted : (b : Bool) (x : ℤ) → counted b (pos 1) *ℤ (counted b (pos 1) *ℤ x) ≡ counted b x
twice_counted true x = by_reading {atoms = x ∷ []} (search reading) (search reading) refl
twice_counted false x = by_reading {atoms = x ∷ []} (search reading) (search reading) refl

mixed_same : (c d x y x' y' : ℤ) → x ≡ x' → y ≡ y' → c *ℤ x +ℤ d *ℤ y ≡ c *ℤ x' +ℤ d *ℤ y'
mixed_same c d x y x' y' e f = rw (e, f) refl

four_same : (a b c d a' b' c' d' : ℤ) → a ≡ a' → b ≡ b' → c ≡ c' → d ≡ d' → (a +ℤ b) +ℤ (c +ℤ d) ≡ (a' +ℤ b') +ℤ (c' +ℤ d')
four_same a b c d a' b' c' d' e f g h = rw (e, f, g, h) refl

four_counted : (a b c d a' b' c' d' : ℤ) → a ≡ a' → b ≡ b' → c ≡ c' → d ≡ d' → (a -ℤ b) +ℤ (c -ℤ d) ≡ (a' -ℤ b') +ℤ (c' -ℤ d')
four_counted a b c d a' b' c' d' e f g h = rw (e, f, g, h) refl

-- the least of a parabola among what is allowed is that of a function that is this parabola, where nothing else is allowed
-- or the parabola is flat
module _ (e : ℤ → ℤ) (r s k rate slope : ℤ) (p : IsParabola e r s k) (er : rate ≡ r) (es : slope ≡ s) (W Allowed : ℤ → Type 0) (step : ℤ)
    (h : IsNearestLeastOf (parabola rate slope) W (pos 0) step) (allowed : Allowed step) (none : W (pos 0)) (within : (y : ℤ) → Allowed y → W y ⊎ ((rate ≡ pos 0) × (slope ≡ pos 0))) where
  at : (t : ℤ) → e t ≡ parabola rate slope t +ℤ k
  at t = p.at t ∙ ap (λ (z : ℤ). parabola z s t +ℤ k) (sym er) ∙ ap (λ (z : ℤ). parabola rate z t +ℤ k) (sym es)

  flat : (t : ℤ) → rate ≡ pos 0 → slope ≡ pos 0 → parabola rate slope t ≡ pos 0
  flat t f g = rw (f, g) (by_reading {atoms = t ∷ []} (search reading) (search reading) refl)

  up : (x y u v : ℤ) → x ≡ u +ℤ k → y ≡ v +ℤ k → u ≤ℤ v → x ≤ℤ y
  up x y u v f g l = omega (arith, ints)

  down : (x y u v : ℤ) → x ≡ u +ℤ k → y ≡ v +ℤ k → x ≤ℤ y → u ≤ℤ v
  down x y u v f g l = omega (arith, ints)

  both_none : (u v : ℤ) → u ≡ pos 0 → v ≡ pos 0 → u ≤ℤ v
  both_none u v f g = omega (arith, ints)

  far : (y : ℤ) → apart step (pos 0) ≤ apart (pos 0) (pos 0) → apart step (pos 0) ≤ apart y (pos 0)
  far y l = omega (arith, ints)

  pub least_of : IsNearestLeastOf e Allowed (pos 0) step
  least_of = record {
    allowed = allowed;
    least = λ y a. least_at y (within y a);
    nearest = λ y a l. nearest_at y (within y a) l;
  }
    where
      least_at : (y : ℤ) → W y ⊎ ((rate ≡ pos 0) × (slope ≡ pos 0)) → e step ≤ℤ e y
      least_at y (inl w) = up (e step) (e y) (parabola rate slope step) (parabola rate slope y) (at step) (at y) (h.least y w)
      least_at y (inr (f, g)) = up (e step) (e y) (parabola rate slope step) (parabola rate slope y) (at step) (at y) (both_none (parabola rate slope step) (parabola rate slope y) (flat step f g) (flat y f g))

      nearest_at : (y : ℤ) → W y ⊎ ((rate ≡ pos 0) × (slope ≡ pos 0)) → e y ≤ℤ e step → apart step (pos 0) ≤ apart y (pos 0)
      nearest_at y (inl w) l = h.nearest y w (down (e y) (e step) (parabola rate slope y) (parabola rate slope step) (at y) (at step) l)
      nearest_at y (inr (f, g)) l = far y (h.nearest (pos 0) none (both_none (parabola rate slope (pos 0)) (parabola rate slope step) (flat (pos 0) f g) (flat step f g)))

idle_sum : (p q r s : Bool) (x y z w : ℤ) → p ≡ false → q ≡ false → r ≡ false → s ≡ false → (counted p x +ℤ counted q y) +ℤ (counted r z +ℤ counted s w) ≡ pos 0
idle_sum p q r s x y z w e f g h = rw (e, f, g, h) refl

idle_difference : (p q r s : Bool) (x y z w : ℤ) → p ≡ false → q ≡ false → r ≡ false → s ≡ false → (counted p x +ℤ neg_ℤ (counted q y)) +ℤ (counted r z +ℤ neg_ℤ (counted s w)) ≡ pos 0
idle_difference p q r s x y z w e f g h = rw (e, f, g, h) refl

-- one of four counts, or none does
abbrev pub AnyOf : Bool → Bool → Bool → Bool → Type 0
AnyOf p q r s = (p ≡ true) ⊎ ((q ≡ true) ⊎ ((r ≡ true) ⊎ (s ≡ true)))

pub any_or_none : (p q r s : Bool) → AnyOf p q r s ⊎ ((p ≡ false) × (q ≡ false) × (r ≡ false) × (s ≡ false))
any_or_none true q r s = inl (inl refl)
any_or_none false true r s = inl (inr (inl refl))
any_or_none false false true s = inl (inr (inr (inl refl)))
any_or_none false false false true = inl (inr (inr (inr refl)))
any_or_none false false false false = inr (refl, refl, refl, refl)

-- faces A and C across one axis, which the change passes forth and back, and B and D across another
module _ (f : FlowForms) (counts : AxisName → ℕ → ℕ → ℕ → Bool) (a : AxisName) (ai aj ak : ℕ) (c : AxisName) (ci cj ck : ℕ) (b : AxisName) (bi bj bk : ℕ) (d : AxisName) (di dj dk : ℕ) where
  abbrev pub counts_a : Bool
  counts_a = along a (counts a) ai aj ak

  abbrev pub counts_c : Bool
  counts_c = along c (counts c) ci cj ck

  abbrev pub counts_b : Bool
  counts_b = along b (counts b) bi bj bk

  abbrev pub counts_d : Bool
  counts_d = along d (counts d) di dj dk

  abbrev pub round_where : Flows3
  round_where x i j k = counted (counts x i j k) ((through a ai aj ak x i j k -ℤ through c ci cj ck x i j k) +ℤ (through b bi bj bk x i j k -ℤ through d di dj dk x i j k))

  round_each : (x : AxisName) (i j k : ℕ) → round_where x i j k
      ≡ (counted counts_a (through a ai aj ak x i j k) -ℤ counted counts_c (through c ci cj ck x i j k)) +ℤ (counted counts_b (through b bi bj bk x i j k) -ℤ counted counts_d (through d di dj dk x i j k))
  round_each x i j k = counted_sum (counts x i j k) (through a ai aj ak x i j k) (through c ci cj ck x i j k) (through b bi bj bk x i j k) (through d di dj dk x i j k)
      ∙ four_counted _ _ _ _ _ _ _ _ (counted_through counts a ai aj ak x i j k) (counted_through counts c ci cj ck x i j k) (counted_through counts b bi bj bk x i j k) (counted_through counts d di dj dk x i j k)

  abbrev forth_and_back : Flows3
  forth_and_back = mix_flows (counted counts_a (pos 1)) (neg_ℤ (counted counts_c (pos 1))) (through a ai aj ak) (through c ci cj ck)

  abbrev across : Flows3
  across = mix_flows (counted counts_b (pos 1)) (neg_ℤ (counted counts_d (pos 1))) (through b bi bj bk) (through d di dj dk)

  round_is : (x : AxisName) (i j k : ℕ) → round_where x i j k ≡ mix_flows (pos 1) (pos 1) forth_and_back across x i j k
  round_is x i j k = round_each x i j k
      ∙ four_counted _ _ _ _ _ _ _ _ (sym (counted_times counts_a (through a ai aj ak x i j k))) (sym (counted_times counts_c (through c ci cj ck x i j k))) (sym (counted_times counts_b (through b bi bj bk x i j k))) (sym (counted_times counts_d (through d di dj dk x i j k)))
      ∙ as_mix (counted counts_a (pos 1)) (counted counts_c (pos 1)) (counted counts_b (pos 1)) (counted counts_d (pos 1)) (through a ai aj ak x i j k) (through c ci cj ck x i j k) (through b bi bj bk x i j k) (through d di dj dk x i j k)

  round_path : ◌≡◌ {A = Flows3} round_where (mix_flows (pos 1) (pos 1) forth_and_back across)
  round_path = λ t x i j k. round_is x i j k t

  pub round_slope : (q : Flows3) → flow_slope f q round_where ≡ (counted counts_a (slope_of_one f q a ai aj ak) +ℤ neg_ℤ (counted counts_c (slope_of_one f q c ci cj ck))) +ℤ (counted counts_b (slope_of_one f q b bi bj bk) +ℤ neg_ℤ (counted counts_d (slope_of_one f q d di dj dk)))
  round_slope q = ap (flow_slope f q) round_path
      ∙ slope_linear f q (pos 1) (pos 1) forth_and_back across
      ∙ mixed_same (pos 1) (pos 1) _ _ _ _ (slope_linear f q (counted counts_a (pos 1)) (neg_ℤ (counted counts_c (pos 1))) (through a ai aj ak) (through c ci cj ck) ∙ mixed_same _ _ _ _ _ _ (slope_through f q a ai aj ak) (slope_through f q c ci cj ck))
      (slope_linear f q (counted counts_b (pos 1)) (neg_ℤ (counted counts_d (pos 1))) (through b bi bj bk) (through d di dj dk) ∙ mixed_same _ _ _ _ _ _ (slope_through f q b bi bj bk) (slope_through f q d di dj dk))
      ∙ slopes_sum (counted counts_a (pos 1)) (counted counts_c (pos 1)) (counted counts_b (pos 1)) (counted counts_d (pos 1)) _ _ _ _
      ∙ four_same _ _ _ _ _ _ _ _ (counted_times counts_a (slope_of_one f q a ai aj ak)) (ap neg_ℤ (counted_times counts_c (slope_of_one f q c ci cj ck))) (counted_times counts_b (slope_of_one f q b bi bj bk)) (ap neg_ℤ (counted_times counts_d (slope_of_one f q d di dj dk)))

  module _ (first : (x : AxisName) → ShareNoLine (along x (through a ai aj ak x)) (along x (through c ci cj ck x))) (second : (x : AxisName) → ShareNoLine (along x (through b bi bj bk x)) (along x (through d di dj dk x)))
      (apart_axes : (p q r s : ℤ) (x : AxisName) → ShareNoLine (along x (mix_flows p q (through a ai aj ak) (through c ci cj ck) x)) (along x (mix_flows r s (through b bi bj bk) (through d di dj dk) x))) where
    pub round_rate : flow_rate f round_where ≡ (counted counts_a (rate_of_one f a ai aj ak) +ℤ counted counts_c (rate_of_one f c ci cj ck)) +ℤ (counted counts_b (rate_of_one f b bi bj bk) +ℤ counted counts_d (rate_of_one f d di dj dk))
    round_rate = ap (flow_rate f) round_path
        ∙ rate_apart f (pos 1) (pos 1) forth_and_back across (apart_axes (counted counts_a (pos 1)) (neg_ℤ (counted counts_c (pos 1))) (counted counts_b (pos 1)) (neg_ℤ (counted counts_d (pos 1))))
        ∙ mixed_same (pos 1 *ℤ pos 1) (pos 1 *ℤ pos 1) _ _ _ _ (rate_apart f (counted counts_a (pos 1)) (neg_ℤ (counted counts_c (pos 1))) (through a ai aj ak) (through c ci cj ck) first ∙ mixed_same _ _ _ _ _ _ (rate_through f a ai aj ak) (rate_through f c ci cj ck))
        (rate_apart f (counted counts_b (pos 1)) (neg_ℤ (counted counts_d (pos 1))) (through b bi bj bk) (through d di dj dk) second ∙ mixed_same _ _ _ _ _ _ (rate_through f b bi bj bk) (rate_through f d di dj dk))
        ∙ rates_sum (counted counts_a (pos 1)) (counted counts_c (pos 1)) (counted counts_b (pos 1)) (counted counts_d (pos 1)) _ _ _ _
        ∙ four_same _ _ _ _ _ _ _ _ (twice_counted counts_a (rate_of_one f a ai aj ak)) (twice_counted counts_c (rate_of_one f c ci cj ck)) (twice_counted counts_b (rate_of_one f b bi bj bk)) (twice_counted counts_d (rate_of_one f d di dj dk))

  -- ---- the flows of the faces
  abbrev pub number_a : ℕ
  number_a = face_number f.cells a (place_along a ai aj ak)

  abbrev pub number_c : ℕ
  number_c = face_number f.cells c (place_along c ci cj ck)

  abbrev pub number_b : ℕ
  number_b = face_number f.cells b (place_along b bi bj bk)

  abbrev pub number_d : ℕ
  number_d = face_number f.cells d (place_along d di dj dk)

  -- a change of the flux by t, within the limits at the faces that count
  pub record Reaches (old : List ℤ) (t : ℤ) : Type 0 where
    pub at_a : counts_a ≡ true → unsigned_abs (value_at old number_a +ℤ t) ≤ 10 ^ 12
    pub at_c : counts_c ≡ true → unsigned_abs (value_at old number_c +ℤ neg_ℤ t) ≤ 10 ^ 12
    pub at_b : counts_b ≡ true → unsigned_abs (value_at old number_b +ℤ t) ≤ 10 ^ 12
    pub at_d : counts_d ≡ true → unsigned_abs (value_at old number_d +ℤ neg_ℤ t) ≤ 10 ^ 12

  -- four faces of the grid that are not the same
  pub record AreFour : Type 0 where
    pub face_a : IsFace f.cells a (place_along a ai aj ak)
    pub face_c : IsFace f.cells c (place_along c ci cj ck)
    pub face_b : IsFace f.cells b (place_along b bi bj bk)
    pub face_d : IsFace f.cells d (place_along d di dj dk)
    pub c_a : number_c ≢ number_a
    pub b_a : number_b ≢ number_a
    pub b_c : number_b ≢ number_c
    pub d_a : number_d ≢ number_a
    pub d_c : number_d ≢ number_c
    pub d_b : number_d ≢ number_b

  module _ (old : List ℤ) (size : length old ≡ face_count f.cells) (h : AreFour) where
    pub below : (x : AxisName) (p : Place) → IsFace f.cells x p → face_number f.cells x p < length old
    below x p w = let l = face_number_below f.cells x p w in omega (arith, size)

    abbrev pub changed_by : ℤ → List ℤ
    changed_by t = four f.cells old counts_a counts_c counts_b counts_d number_a number_c number_b number_d t (below a (place_along a ai aj ak) h.face_a) (below c (place_along c ci cj ck) h.face_c) (below b (place_along b bi bj bk) h.face_b) (below d (place_along d di dj dk) h.face_d) h.c_a h.b_a h.b_c h.d_a h.d_c h.d_b

    abbrev bits : ℕ → ℤ
    bits n = (counted counts_a (bit n number_a) -ℤ counted counts_c (bit n number_c)) +ℤ (counted counts_b (bit n number_b) -ℤ counted counts_d (bit n number_d))

    change_bits : (x : AxisName) (i j k : ℕ) → IsFace f.cells x (place_at i j k) → bits (face_number f.cells x (place_at i j k)) ≡ round_where x i j k
    change_bits x i j k w = four_counted _ _ _ _ _ _ _ _ (ap (counted counts_a) (bit_of_face f.cells x i j k a ai aj ak w h.face_a)) (ap (counted counts_c) (bit_of_face f.cells x i j k c ci cj ck w h.face_c)) (ap (counted counts_b) (bit_of_face f.cells x i j k b bi bj bk w h.face_b)) (ap (counted counts_d) (bit_of_face f.cells x i j k d di dj dk w h.face_d))
        ∙ sym (round_each x i j k)

    pub added_by : (t : ℤ) (x : AxisName) (i j k : ℕ) → IsFace f.cells x (place_at i j k) → value_at (changed_by t) (face_number f.cells x (place_at i j k)) ≡ with_multiple f.cells old round_where t x i j k
    added_by t x i j k w = four_added f.cells old counts_a counts_c counts_b counts_d number_a number_c number_b number_d t (below a (place_along a ai aj ak) h.face_a) (below c (place_along c ci cj ck) h.face_c) (below b (place_along b bi bj bk) h.face_b) (below d (place_along d di dj dk) h.face_d) h.c_a h.b_a h.b_c h.d_a h.d_c h.d_b (face_number f.cells x (place_at i j k))
        ∙ ap (λ (z : ℤ). value_at old (face_number f.cells x (place_at i j k)) +ℤ t *ℤ z) (change_bits x i j k w)

    -- within the limits at the four faces, within the limits at all, and back
    keeps_all : IsFlux f.cells old → (t : ℤ) → Reaches old t → KeepsLimits f.cells (with_multiple f.cells old round_where t)
    keeps_all flux t r x i j k w = subst (λ (z : ℤ). InFlow z) (added_by t x i j k w) (kept.within (face_number f.cells x (place_at i j k)) (pos 0) (let l = face_number_below f.cells x (place_at i j k) w in omega (arith, kept.faces)))
      where
        kept : IsFlux f.cells (changed_by t)
        kept = four_kept f.cells old counts_a counts_c counts_b counts_d number_a number_c number_b number_d t (below a (place_along a ai aj ak) h.face_a) (below c (place_along c ci cj ck) h.face_c) (below b (place_along b bi bj bk) h.face_b) (below d (place_along d di dj dk) h.face_d) h.c_a h.b_a h.b_c h.d_a h.d_c h.d_b flux r.at_a r.at_c r.at_b r.at_d

    one_of_four : (x t p q r s e : ℤ) → (p -ℤ q) +ℤ (r -ℤ s) ≡ e → x +ℤ t *ℤ ((p -ℤ q) +ℤ (r -ℤ s)) ≡ x +ℤ t *ℤ e
    one_of_four x t p q r s e g = ap (λ (z : ℤ). x +ℤ t *ℤ z) g

    up_by : (x t : ℤ) → x +ℤ t *ℤ pos 1 ≡ x +ℤ t
    up_by x t = by_reading {atoms = x ∷ t ∷ []} (search reading) (search reading) refl

    down_by : (x t : ℤ) → x +ℤ t *ℤ neg_ℤ (pos 1) ≡ x +ℤ neg_ℤ t
    down_by x t = by_reading {atoms = x ∷ t ∷ []} (search reading) (search reading) refl

    is_there : (e : Bool) (n m : ℕ) → e ≡ true → n ≡ m → counted e (bit n m) ≡ pos 1
    is_there e n m g k = ap (λ (z : Bool). counted z (bit n m)) g ∙ ap (λ (z : ℕ). bit z m) k ∙ bit_same m

    not_there : (e : Bool) (n m : ℕ) → n ≢ m → counted e (bit n m) ≡ pos 0
    not_there e n m g = ap (counted e) (bit_other n m g) ∙ counted_none e

    with_bits : (t : ℤ) → KeepsLimits f.cells (with_multiple f.cells old round_where t) → (x : AxisName) (p : Place) → IsFace f.cells x p → InFlow (value_at old (face_number f.cells x p) +ℤ t *ℤ bits (face_number f.cells x p))
    with_bits t keep x p w = subst (λ (z : ℤ). InFlow (value_at old (face_number f.cells x p) +ℤ t *ℤ z)) (sym (change_bits x p.i p.j p.k w)) (keep x p.i p.j p.k w)

    at_forth : (x y z w : ℤ) → x ≡ pos 1 → y ≡ pos 0 → z ≡ pos 0 → w ≡ pos 0 → (x -ℤ y) +ℤ (z -ℤ w) ≡ pos 1
    at_forth x y z w e g k l = rw (e, g, k, l) refl

    at_back : (x y z w : ℤ) → x ≡ pos 0 → y ≡ pos 1 → z ≡ pos 0 → w ≡ pos 0 → (x -ℤ y) +ℤ (z -ℤ w) ≡ neg_ℤ (pos 1)
    at_back x y z w e g k l = rw (e, g, k, l) refl

    at_across : (x y z w : ℤ) → x ≡ pos 0 → y ≡ pos 0 → z ≡ pos 1 → w ≡ pos 0 → (x -ℤ y) +ℤ (z -ℤ w) ≡ pos 1
    at_across x y z w e g k l = rw (e, g, k, l) refl

    at_return : (x y z w : ℤ) → x ≡ pos 0 → y ≡ pos 0 → z ≡ pos 0 → w ≡ pos 1 → (x -ℤ y) +ℤ (z -ℤ w) ≡ neg_ℤ (pos 1)
    at_return x y z w e g k l = rw (e, g, k, l) refl

    turn : (m n : ℕ) → m ≢ n → n ≢ m
    turn m n g e = g (sym e)

    reached : (t : ℤ) → KeepsLimits f.cells (with_multiple f.cells old round_where t) → Reaches old t
    reached t keep = record {
      at_a = λ e. subst (λ (z : ℤ). InFlow z) (ap (λ (z : ℤ). value_at old number_a +ℤ t *ℤ z) (at_forth _ _ _ _ (is_there counts_a number_a number_a e refl) (not_there counts_c number_a number_c (turn number_c number_a h.c_a)) (not_there counts_b number_a number_b (turn number_b number_a h.b_a)) (not_there counts_d number_a number_d (turn number_d number_a h.d_a))) ∙ up_by (value_at old number_a) t)
          (with_bits t keep a (place_along a ai aj ak) h.face_a);
      at_c = λ e. subst (λ (z : ℤ). InFlow z) (ap (λ (z : ℤ). value_at old number_c +ℤ t *ℤ z) (at_back _ _ _ _ (not_there counts_a number_c number_a h.c_a) (is_there counts_c number_c number_c e refl) (not_there counts_b number_c number_b (turn number_b number_c h.b_c)) (not_there counts_d number_c number_d (turn number_d number_c h.d_c))) ∙ down_by (value_at old number_c) t)
          (with_bits t keep c (place_along c ci cj ck) h.face_c);
      at_b = λ e. subst (λ (z : ℤ). InFlow z) (ap (λ (z : ℤ). value_at old number_b +ℤ t *ℤ z) (at_across _ _ _ _ (not_there counts_a number_b number_a h.b_a) (not_there counts_c number_b number_c h.b_c) (is_there counts_b number_b number_b e refl) (not_there counts_d number_b number_d (turn number_d number_b h.d_b))) ∙ up_by (value_at old number_b) t)
          (with_bits t keep b (place_along b bi bj bk) h.face_b);
      at_d = λ e. subst (λ (z : ℤ). InFlow z) (ap (λ (z : ℤ). value_at old number_d +ℤ t *ℤ z) (at_return _ _ _ _ (not_there counts_a number_d number_a h.d_a) (not_there counts_c number_d number_c h.d_c) (not_there counts_b number_d number_b h.d_b) (is_there counts_d number_d number_d e refl)) ∙ down_by (value_at old number_d) t)
          (with_bits t keep d (place_along d di dj dk) h.face_d);
    }

    -- the least multiple of the four parabolas, within a range W
    pub round_move : (flux : IsFlux f.cells old) (rate slope step : ℤ) (W : ℤ → Type 0) → rate ≡ flow_rate f round_where → slope ≡ flow_slope f (flows_of f.cells old) round_where
        → IsNearestLeastOf (parabola rate slope) W (pos 0) step → W (pos 0) → Reaches old step → ((y : ℤ) → Reaches old y → W y ⊎ ((rate ≡ pos 0) × (slope ≡ pos 0)))
        → IsFlowMoveBy f round_where step old (changed_by step)
    round_move flux rate slope step W er es l none here within = record {
      least = least_of (λ t. flow_energy f (with_multiple f.cells old round_where t)) (flow_rate f round_where) (flow_slope f (flows_of f.cells old) round_where) (flow_energy f (flows_of f.cells old)) rate slope
          (record { at = (flows_parabola f (flows_of f.cells old) round_where).at }) er es W (λ t. KeepsLimits f.cells (with_multiple f.cells old round_where t)) step l (keeps_all flux step here) none (λ y a. within y (reached y a));
      faces = length_four f.cells old counts_a counts_c counts_b counts_d number_a number_c number_b number_d step (below a (place_along a ai aj ak) h.face_a) (below c (place_along c ci cj ck) h.face_c) (below b (place_along b bi bj bk) h.face_b) (below d (place_along d di dj dk) h.face_d) h.c_a h.b_a h.b_c h.d_a h.d_c h.d_b;
      added = added_by step;
    }
