-- The least multiple that the code finds round an edge is a move of the form of flows.
use Rattle.std.proofs.Common.{◌≡◌, ◌≢◌, ◌⊎◌, inl, inr, refl, sym, ap, ◌∙◌, subst, arith, ℕ, ◌*◌, ◌-◌, ◌^◌, ◌<◌, ◌≤◌, Bool, true, false, List, set, unsigned_abs}
use Rattle.std.proofs.lemmas.Int.{ints}
use lib.IntN.{ℤ, pos, negsuc, ◌+ℤ◌, ◌-ℤ◌, neg_ℤ}
use lib.Signed.{◌≤ℤ◌}
use Rattle.tb_places.specs.declared.AxisName.{AxisName}
use Rattle.tb_places.specs.declared.AxisName.TheVariants.{X, Y, Z}
use Rattle.tb_places.specs.declared.Place.{Place}
use Rattle.tb_places.specs.Along.{place_along}
use Rattle.tb_places.specs.Places.{Counts, IsFace, along, face_number, second, third}
use Rattle.tb_places.proofs.Faces.{face_number_apart}
use Rattle.tb_weighted.specs.Flows.{FlowForms, flow_rate, flow_slope, flows_of}
use Rattle.tb_weighted.specs.FlowMoves.{IsFlowMoveBy, counted, put_where, through}
use Rattle.tb_weighted.specs.Least.{IsNearestLeastOf, parabola}
use Rattle.tb_weighted.specs.Limits.{IsFlux}
use Rattle.tb_weighted.specs.Moves.{value_at}
use Rattle.tb_weighted.proofs.FlowSlopes.{ShareNoLine, axes_apart, faces_apart, mix_flows}
use Rattle.tb_weighted.proofs.Rounds.{AnyOf, AreFour, Reaches, any_or_none, changed_by, round_move, round_rate, round_slope}
use Rattle.tb_weighted.proofs.TwoFaces.{AreApart, apart_second, apart_third}
use Rattle.tb_relax.specs.declared.part.Part.{Part}
use Rattle.tb_relax.specs.declared.part.Parts.{Parts}
use Rattle.tb_relax.specs.declared.site.Round.{Round}
use Rattle.tb_relax.specs.declared.site.Site.{Site}
use Rattle.tb_relax.specs.declared.table.Table.{Table}
use Rattle.tb_relax.specs.Joining.{AllGo, four_rates, four_slopes}
use Rattle.tb_relax.specs.Parts.{Goes}
use Rattle.tb_relax.specs.Rounds.{ArePartsOf, AreRound, IsBack, IsForth, counts_at, number_of, round_change}
use Rattle.tb_relax.specs.Sites.{IsSite}
use Rattle.tb_relax.specs.Tables.{face_counts_at, flow_on, flux_forms, table_counts}

-- ---- sites
face_along : (n : Counts) (a : AxisName) (i j k : ℕ) → i ≤ n a → j < n (second a) → k < n (third a) → IsFace n a (place_along a i j k)
face_along n X i j k p q r = (p, q, r)
face_along n Y i j k p q r = (q, p, r)
face_along n Z i j k p q r = (q, r, p)

same_indexes : (a : AxisName) (i j k i' j' k' : ℕ) → place_along a i j k ≡ place_along a i' j' k' → (j ≡ j') × (k ≡ k')
same_indexes X i j k i' j' k' e = (ap (λ (p : Place). p.j) e, ap (λ (p : Place). p.k) e)
same_indexes Y i j k i' j' k' e = (ap (λ (p : Place). p.i) e, ap (λ (p : Place). p.k) e)
same_indexes Z i j k i' j' k' e = (ap (λ (p : Place). p.i) e, ap (λ (p : Place). p.j) e)

counts_seen : (t : Table) (a : AxisName) (i j k : ℕ) → face_counts_at t a i j k ≡ along a (counts_at t a) i j k
counts_seen t X i j k = refl
counts_seen t Y i j k = refl
counts_seen t Z i j k = refl

flow_seen : (n : Counts) (flows : List ℤ) (a : AxisName) (i j k : ℕ) → flow_on n flows a i j k ≡ value_at flows (face_number n a (place_along a i j k))
flow_seen n flows X i j k = refl
flow_seen n flows Y i j k = refl
flow_seen n flows Z i j k = refl

lines_apart : (j k j' k' : ℕ) → (j ≢ j') ⊎ (k ≢ k') → AreApart j k j' k'
lines_apart j k j' k' (inl h) = apart_second j k j' k' h
lines_apart j k j' k' (inr h) = apart_third j k j' k' h

-- numbers of two faces across one axis, on different lines
numbers_apart : (n : Counts) (a c : AxisName) (i j k i' j' k' : ℕ) → c ≡ a → (j ≢ j') ⊎ (k ≢ k') → IsFace n a (place_along a i j k) → IsFace n c (place_along c i' j' k') → face_number n c (place_along c i' j' k') ≢ face_number n a (place_along a i j k)
numbers_apart n a c i j k i' j' k' e h p q = subst (λ (z : AxisName). IsFace n z (place_along z i' j' k') → face_number n z (place_along z i' j' k') ≢ face_number n a (place_along a i j k)) (sym e) at_a q
  where
    off : (j ≢ j') ⊎ (k ≢ k') → (j' ≡ j) × (k' ≡ k) → ⊥
    off (inl g) (x, y) = g (sym x)
    off (inr g) (x, y) = g (sym y)

    at_a : IsFace n a (place_along a i' j' k') → face_number n a (place_along a i' j' k') ≢ face_number n a (place_along a i j k)
    at_a r s = off h (same_indexes a i' j' k' i j k (face_number_apart n a a (place_along a i' j' k') (place_along a i j k) r p s).1)

others_apart : (n : Counts) (a b : AxisName) (p q : Place) → a ≢ b → IsFace n a p → IsFace n b q → face_number n b q ≢ face_number n a p
others_apart n a b p q h f g e = h (sym (face_number_apart n b a q p g f e).0)

-- ---- ranges
forth_reaches : (b : Bool) (low high v y : ℤ) → (b ≡ true → low ≡ (negsuc (10 ^ 12 - 1) -ℤ v)) → (b ≡ true → high ≡ (pos (10 ^ 12) -ℤ v)) → low ≤ℤ y → y ≤ℤ high → b ≡ true → unsigned_abs (v +ℤ y) ≤ 10 ^ 12
forth_reaches b low high v y l h p q e = let l' = l e in let h' = h e in omega (arith, ints)

back_reaches : (b : Bool) (low high v y : ℤ) → (b ≡ true → low ≡ (v -ℤ pos (10 ^ 12))) → (b ≡ true → high ≡ (v +ℤ pos (10 ^ 12))) → low ≤ℤ y → y ≤ℤ high → b ≡ true → unsigned_abs (v +ℤ neg_ℤ y) ≤ 10 ^ 12
back_reaches b low high v y l h p q e = let l' = l e in let h' = h e in omega (arith, ints)

forth_goes : (b : Bool) (low high v y : ℤ) → (b ≡ true → low ≡ (negsuc (10 ^ 12 - 1) -ℤ v)) → (b ≡ true → high ≡ (pos (10 ^ 12) -ℤ v)) → (b ≡ false → low ≡ negsuc (4 * 10 ^ 12 - 1)) → (b ≡ false → high ≡ pos (4 * 10 ^ 12))
    → unsigned_abs y ≤ 2 * 10 ^ 12 → (b ≡ true → unsigned_abs (v +ℤ y) ≤ 10 ^ 12) → (low ≤ℤ y) × (y ≤ℤ high)
forth_goes true low high v y l h l' h' n r = let p = l refl in let q = h refl in let s = r refl in (omega (arith, ints), omega (arith, ints))
forth_goes false low high v y l h l' h' n r = let p = l' refl in let q = h' refl in (omega (arith, ints), omega (arith, ints))

back_goes : (b : Bool) (low high v y : ℤ) → (b ≡ true → low ≡ (v -ℤ pos (10 ^ 12))) → (b ≡ true → high ≡ (v +ℤ pos (10 ^ 12))) → (b ≡ false → low ≡ negsuc (4 * 10 ^ 12 - 1)) → (b ≡ false → high ≡ pos (4 * 10 ^ 12))
    → unsigned_abs y ≤ 2 * 10 ^ 12 → (b ≡ true → unsigned_abs (v +ℤ neg_ℤ y) ≤ 10 ^ 12) → (low ≤ℤ y) × (y ≤ℤ high)
back_goes true low high v y l h l' h' n r = let p = l refl in let q = h refl in let s = r refl in (omega (arith, ints), omega (arith, ints))
back_goes false low high v y l h l' h' n r = let p = l' refl in let q = h' refl in (omega (arith, ints), omega (arith, ints))

near_forth : (v y : ℤ) → unsigned_abs v ≤ 10 ^ 12 → unsigned_abs (v +ℤ y) ≤ 10 ^ 12 → unsigned_abs y ≤ 2 * 10 ^ 12
near_forth v y h l = omega (arith, ints)

near_back : (v y : ℤ) → unsigned_abs v ≤ 10 ^ 12 → unsigned_abs (v +ℤ neg_ℤ y) ≤ 10 ^ 12 → unsigned_abs y ≤ 2 * 10 ^ 12
near_back v y h l = omega (arith, ints)

none_goes : (low high : ℤ) → low ≤ℤ pos 0 → pos 0 ≤ℤ high → (low ≤ℤ pos 0) × (pos 0 ≤ℤ high)
none_goes low high a b = (a, b)

four_same : (a b c d a' b' c' d' : ℤ) → a ≡ a' → b ≡ b' → c ≡ c' → d ≡ d' → (a +ℤ b) +ℤ (c +ℤ d) ≡ (a' +ℤ b') +ℤ (c' +ℤ d')
four_same a b c d a' b' c' d' e f g h = rw (e, f, g, h) refl

pub put_written : (b : Bool) (vs : List ℤ) (m m' : ℕ) (x x' : ℤ) → b ≡ true → m ≡ m' → x ≡ x' → set vs m x ≡ put_where b vs m' x'
put_written b vs m m' x x' e f g = ap (λ (z : ℕ). set vs z x) f ∙ ap (λ (z : ℤ). set vs m' z) g ∙ ap (λ (z : Bool). put_where z vs m' x') (sym e)

pub put_next : (l : List ℤ) (b : Bool) (vs vs' : List ℤ) (m : ℕ) (v x x' : ℤ) → l ≡ put_where b vs m (v +ℤ x) → vs ≡ vs' → x ≡ x' → l ≡ put_where b vs' m (v +ℤ x')
put_next l b vs vs' m v x x' e f g = e ∙ ap (λ (z : List ℤ). put_where b z m (v +ℤ x)) f ∙ ap (λ (z : ℤ). put_where b vs' m (v +ℤ z)) g

-- ---- round an edge
module _ (t : Table) (flows : List ℤ) (r : Round) (p : Parts) (flux : IsFlux (table_counts t) flows) (round : AreRound (table_counts t) r) (parts : ArePartsOf t flows r p) where
  abbrev n : Counts
  n = table_counts t

  abbrev pub f : FlowForms
  f = flux_forms t

  site_face : (s : Site) → IsSite n s → IsFace n s.axis (place_along s.axis s.i s.j s.k)
  site_face s h = face_along n s.axis s.i s.j s.k h.along h.second h.third

  counts_first : p.first.counts ≡ along r.first.axis (counts_at t r.first.axis) r.first.i r.first.j r.first.k
  counts_first = parts.first.counts ∙ counts_seen t r.first.axis r.first.i r.first.j r.first.k

  counts_first_back : p.first_back.counts ≡ along r.first_back.axis (counts_at t r.first_back.axis) r.first_back.i r.first_back.j r.first_back.k
  counts_first_back = parts.first_back.counts ∙ counts_seen t r.first_back.axis r.first_back.i r.first_back.j r.first_back.k

  counts_second : p.second.counts ≡ along r.second.axis (counts_at t r.second.axis) r.second.i r.second.j r.second.k
  counts_second = parts.second.counts ∙ counts_seen t r.second.axis r.second.i r.second.j r.second.k

  counts_second_back : p.second_back.counts ≡ along r.second_back.axis (counts_at t r.second_back.axis) r.second_back.i r.second_back.j r.second_back.k
  counts_second_back = parts.second_back.counts ∙ counts_seen t r.second_back.axis r.second_back.i r.second_back.j r.second_back.k

  here_first : p.first.here ≡ value_at flows (number_of n r.first)
  here_first = parts.first.here ∙ flow_seen n flows r.first.axis r.first.i r.first.j r.first.k

  here_first_back : p.first_back.here ≡ value_at flows (number_of n r.first_back)
  here_first_back = parts.first_back.here ∙ flow_seen n flows r.first_back.axis r.first_back.i r.first_back.j r.first_back.k

  here_second : p.second.here ≡ value_at flows (number_of n r.second)
  here_second = parts.second.here ∙ flow_seen n flows r.second.axis r.second.i r.second.j r.second.k

  here_second_back : p.second_back.here ≡ value_at flows (number_of n r.second_back)
  here_second_back = parts.second_back.here ∙ flow_seen n flows r.second_back.axis r.second_back.i r.second_back.j r.second_back.k

  are_four : AreFour f (counts_at t) r.first.axis r.first.i r.first.j r.first.k r.first_back.axis r.first_back.i r.first_back.j r.first_back.k r.second.axis r.second.i r.second.j r.second.k r.second_back.axis r.second_back.i r.second_back.j r.second_back.k
  unfolding flux_forms
  are_four = record {
    face_a = site_face r.first round.first;
    face_c = site_face r.first_back round.first_back;
    face_b = site_face r.second round.second;
    face_d = site_face r.second_back round.second_back;
    c_a = numbers_apart n r.first.axis r.first_back.axis r.first.i r.first.j r.first.k r.first_back.i r.first_back.j r.first_back.k round.one_axis round.lines (site_face r.first round.first) (site_face r.first_back round.first_back);
    b_a = others_apart n r.first.axis r.second.axis _ _ round.two_axes (site_face r.first round.first) (site_face r.second round.second);
    b_c = others_apart n r.first_back.axis r.second.axis _ _ (λ e. round.two_axes (sym round.one_axis ∙ e)) (site_face r.first_back round.first_back) (site_face r.second round.second);
    d_a = others_apart n r.first.axis r.second_back.axis _ _ (λ e. round.two_axes (e ∙ round.other_axis)) (site_face r.first round.first) (site_face r.second_back round.second_back);
    d_c = others_apart n r.first_back.axis r.second_back.axis _ _ (λ e. round.two_axes (sym round.one_axis ∙ e ∙ round.other_axis)) (site_face r.first_back round.first_back) (site_face r.second_back round.second_back);
    d_b = numbers_apart n r.second.axis r.second_back.axis r.second.i r.second.j r.second.k r.second_back.i r.second_back.j r.second_back.k round.other_axis round.other_lines (site_face r.second round.second) (site_face r.second_back round.second_back);
  }

  first_apart : (x : AxisName) → ShareNoLine (along x (through r.first.axis r.first.i r.first.j r.first.k x)) (along x (through r.first_back.axis r.first_back.i r.first_back.j r.first_back.k x))
  first_apart = subst (λ (z : AxisName). (x : AxisName) → ShareNoLine (along x (through r.first.axis r.first.i r.first.j r.first.k x)) (along x (through z r.first_back.i r.first_back.j r.first_back.k x))) (sym round.one_axis)
      (faces_apart r.first.axis r.first.i r.first.j r.first.k r.first_back.i r.first_back.j r.first_back.k (lines_apart r.first.j r.first.k r.first_back.j r.first_back.k round.lines))

  second_apart : (x : AxisName) → ShareNoLine (along x (through r.second.axis r.second.i r.second.j r.second.k x)) (along x (through r.second_back.axis r.second_back.i r.second_back.j r.second_back.k x))
  second_apart = subst (λ (z : AxisName). (x : AxisName) → ShareNoLine (along x (through r.second.axis r.second.i r.second.j r.second.k x)) (along x (through z r.second_back.i r.second_back.j r.second_back.k x))) (sym round.other_axis)
      (faces_apart r.second.axis r.second.i r.second.j r.second.k r.second_back.i r.second_back.j r.second_back.k (lines_apart r.second.j r.second.k r.second_back.j r.second_back.k round.other_lines))

  pairs_apart : (c d c' d' : ℤ) (x : AxisName) → ShareNoLine (along x (mix_flows c d (through r.first.axis r.first.i r.first.j r.first.k) (through r.first_back.axis r.first_back.i r.first_back.j r.first_back.k) x)) (along x (mix_flows c' d' (through r.second.axis r.second.i r.second.j r.second.k) (through r.second_back.axis r.second_back.i r.second_back.j r.second_back.k) x))
  pairs_apart c d c' d' = subst (λ (z : AxisName). (x : AxisName) → ShareNoLine (along x (mix_flows c d (through r.first.axis r.first.i r.first.j r.first.k) (through z r.first_back.i r.first_back.j r.first_back.k) x)) (along x (mix_flows c' d' (through r.second.axis r.second.i r.second.j r.second.k) (through r.second_back.axis r.second_back.i r.second_back.j r.second_back.k) x))) (sym round.one_axis)
      (subst (λ (z : AxisName). (x : AxisName) → ShareNoLine (along x (mix_flows c d (through r.first.axis r.first.i r.first.j r.first.k) (through r.first.axis r.first_back.i r.first_back.j r.first_back.k) x)) (along x (mix_flows c' d' (through r.second.axis r.second.i r.second.j r.second.k) (through z r.second_back.i r.second_back.j r.second_back.k) x))) (sym round.other_axis)
      (axes_apart r.first.axis r.second.axis round.two_axes c d c' d' r.first.i r.first.j r.first.k r.first_back.i r.first_back.j r.first_back.k r.second.i r.second.j r.second.k r.second_back.i r.second_back.j r.second_back.k))

  by_counts : (b b' : Bool) (x y : ℤ) → b ≡ b' → x ≡ counted b y → x ≡ counted b' y
  by_counts b b' x y e h = h ∙ ap (λ (z : Bool). counted z y) e

  back_by_counts : (b b' : Bool) (x y : ℤ) → b ≡ b' → x ≡ neg_ℤ (counted b y) → x ≡ neg_ℤ (counted b' y)
  back_by_counts b b' x y e h = h ∙ ap (λ (z : Bool). neg_ℤ (counted z y)) e

  rate_is : four_rates p ≡ flow_rate f (round_change t r)
  unfolding flux_forms
  rate_is = four_same _ _ _ _ _ _ _ _ (by_counts _ _ _ _ counts_first parts.first.rate) (by_counts _ _ _ _ counts_first_back parts.first_back.rate) (by_counts _ _ _ _ counts_second parts.second.rate) (by_counts _ _ _ _ counts_second_back parts.second_back.rate)
      ∙ sym (round_rate f (counts_at t) r.first.axis r.first.i r.first.j r.first.k r.first_back.axis r.first_back.i r.first_back.j r.first_back.k r.second.axis r.second.i r.second.j r.second.k r.second_back.axis r.second_back.i r.second_back.j r.second_back.k first_apart second_apart pairs_apart)

  slope_is : four_slopes p ≡ flow_slope f (flows_of n flows) (round_change t r)
  unfolding flux_forms
  slope_is = four_same _ _ _ _ _ _ _ _ (by_counts _ _ _ _ counts_first parts.first.slope) (back_by_counts _ _ _ _ counts_first_back parts.first_back.slope) (by_counts _ _ _ _ counts_second parts.second.slope) (back_by_counts _ _ _ _ counts_second_back parts.second_back.slope)
      ∙ sym (round_slope f (counts_at t) r.first.axis r.first.i r.first.j r.first.k r.first_back.axis r.first_back.i r.first_back.j r.first_back.k r.second.axis r.second.i r.second.j r.second.k r.second_back.axis r.second_back.i r.second_back.j r.second_back.k (flows_of n flows))

  abbrev Reached : ℤ → Type 0
  Reached = Reaches f (counts_at t) r.first.axis r.first.i r.first.j r.first.k r.first_back.axis r.first_back.i r.first_back.j r.first_back.k r.second.axis r.second.i r.second.j r.second.k r.second_back.axis r.second_back.i r.second_back.j r.second_back.k flows

  forth_at : (s : Site) (q : Part) (b : Bool) (v y : ℤ) → IsForth t flows s q → q.counts ≡ b → q.here ≡ v → Goes q y → b ≡ true → unsigned_abs (v +ℤ y) ≤ 10 ^ 12
  forth_at s q b v y h eb ev g e = subst (λ (z : ℤ). unsigned_abs (z +ℤ y) ≤ 10 ^ 12) ev (forth_reaches q.counts q.low q.high q.here y h.low h.high g.0 g.1 (eb ∙ e))

  back_at : (s : Site) (q : Part) (b : Bool) (v y : ℤ) → IsBack t flows s q → q.counts ≡ b → q.here ≡ v → Goes q y → b ≡ true → unsigned_abs (v +ℤ neg_ℤ y) ≤ 10 ^ 12
  back_at s q b v y h eb ev g e = subst (λ (z : ℤ). unsigned_abs (z +ℤ neg_ℤ y) ≤ 10 ^ 12) ev (back_reaches q.counts q.low q.high q.here y h.low h.high g.0 g.1 (eb ∙ e))

  reaches : (y : ℤ) → AllGo p y → Reached y
  unfolding flux_forms
  reaches y g = record {
    at_a = forth_at r.first p.first _ _ y parts.first counts_first here_first g.0.0;
    at_c = back_at r.first_back p.first_back _ _ y parts.first_back counts_first_back here_first_back g.0.1;
    at_b = forth_at r.second p.second _ _ y parts.second counts_second here_second g.1.0;
    at_d = back_at r.second_back p.second_back _ _ y parts.second_back counts_second_back here_second_back g.1.1;
  }

  forth_from : (s : Site) (q : Part) (b : Bool) (v y : ℤ) → IsForth t flows s q → q.counts ≡ b → q.here ≡ v → (b ≡ true → unsigned_abs (v +ℤ y) ≤ 10 ^ 12) → q.counts ≡ true → unsigned_abs (q.here +ℤ y) ≤ 10 ^ 12
  forth_from s q b v y h eb ev g e = subst (λ (z : ℤ). unsigned_abs (z +ℤ y) ≤ 10 ^ 12) (sym ev) (g (sym eb ∙ e))

  back_from : (s : Site) (q : Part) (b : Bool) (v y : ℤ) → IsBack t flows s q → q.counts ≡ b → q.here ≡ v → (b ≡ true → unsigned_abs (v +ℤ neg_ℤ y) ≤ 10 ^ 12) → q.counts ≡ true → unsigned_abs (q.here +ℤ neg_ℤ y) ≤ 10 ^ 12
  back_from s q b v y h eb ev g e = subst (λ (z : ℤ). unsigned_abs (z +ℤ neg_ℤ y) ≤ 10 ^ 12) (sym ev) (g (sym eb ∙ e))

  -- a change that keeps the limits at the faces that count goes at all of them, where it isn't far
  all_go : (y : ℤ) → Reached y → unsigned_abs y ≤ 2 * 10 ^ 12 → AllGo p y
  unfolding flux_forms
  all_go y h l = (
    (
      forth_goes p.first.counts p.first.low p.first.high p.first.here y parts.first.low parts.first.high parts.first.part.range.low_idle parts.first.part.range.high_idle l (forth_from r.first p.first _ _ y parts.first counts_first here_first h.at_a),
      back_goes p.first_back.counts p.first_back.low p.first_back.high p.first_back.here y parts.first_back.low parts.first_back.high parts.first_back.part.range.low_idle parts.first_back.part.range.high_idle l (back_from r.first_back p.first_back _ _ y parts.first_back counts_first_back here_first_back h.at_c),
    ),
    (
      forth_goes p.second.counts p.second.low p.second.high p.second.here y parts.second.low parts.second.high parts.second.part.range.low_idle parts.second.part.range.high_idle l (forth_from r.second p.second _ _ y parts.second counts_second here_second h.at_b),
      back_goes p.second_back.counts p.second_back.low p.second_back.high p.second_back.here y parts.second_back.low parts.second_back.high parts.second_back.part.range.low_idle parts.second_back.part.range.high_idle l (back_from r.second_back p.second_back _ _ y parts.second_back counts_second_back here_second_back h.at_d),
    ),
  )

  not_far : (y : ℤ) → Reached y → AnyOf p.first.counts p.first_back.counts p.second.counts p.second_back.counts → unsigned_abs y ≤ 2 * 10 ^ 12
  unfolding flux_forms
  not_far y h (inl e) = near_forth p.first.here y parts.first.here_size (forth_from r.first p.first _ _ y parts.first counts_first here_first h.at_a e)
  not_far y h (inr (inl e)) = near_back p.first_back.here y parts.first_back.here_size (back_from r.first_back p.first_back _ _ y parts.first_back counts_first_back here_first_back h.at_c e)
  not_far y h (inr (inr (inl e))) = near_forth p.second.here y parts.second.here_size (forth_from r.second p.second _ _ y parts.second counts_second here_second h.at_b e)
  not_far y h (inr (inr (inr e))) = near_back p.second_back.here y parts.second_back.here_size (back_from r.second_back p.second_back _ _ y parts.second_back counts_second_back here_second_back h.at_d e)

  sum_none : (a b c d : ℤ) → a ≡ pos 0 → b ≡ pos 0 → c ≡ pos 0 → d ≡ pos 0 → (a +ℤ b) +ℤ (c +ℤ d) ≡ pos 0
  sum_none a b c d e g h l = rw (e, g, h, l) refl

  goes_or_flat : (y : ℤ) → Reached y → AllGo p y ⊎ ((four_rates p ≡ pos 0) × (four_slopes p ≡ pos 0))
  goes_or_flat y h = cases (any_or_none p.first.counts p.first_back.counts p.second.counts p.second_back.counts)
    where
      cases : AnyOf p.first.counts p.first_back.counts p.second.counts p.second_back.counts ⊎ ((p.first.counts ≡ false) × (p.first_back.counts ≡ false) × (p.second.counts ≡ false) × (p.second_back.counts ≡ false)) → AllGo p y ⊎ ((four_rates p ≡ pos 0) × (four_slopes p ≡ pos 0))
      cases (inl e) = inl (all_go y h (not_far y h e))
      cases (inr (e, g, k, l)) = inr (
        sum_none _ _ _ _ (parts.first.part.rate_idle e) (parts.first_back.part.rate_idle g) (parts.second.part.rate_idle k) (parts.second_back.part.rate_idle l),
        sum_none _ _ _ _ (parts.first.part.slope_idle e) (parts.first_back.part.slope_idle g) (parts.second.part.slope_idle k) (parts.second_back.part.slope_idle l),
      )

  zero_goes : AllGo p (pos 0)
  zero_goes = (
    (none_goes p.first.low p.first.high parts.first.part.range.under parts.first.part.range.over, none_goes p.first_back.low p.first_back.high parts.first_back.part.range.under parts.first_back.part.range.over),
    (none_goes p.second.low p.second.high parts.second.part.range.under parts.second.part.range.over, none_goes p.second_back.low p.second_back.high parts.second_back.part.range.under parts.second_back.part.range.over),
  )

  -- the flux with the change, as the code writes it
  abbrev pub written : ℤ → List ℤ
  written by = put_where p.second_back.counts (put_where p.second.counts (put_where p.first_back.counts (put_where p.first.counts flows
      (number_of (table_counts t) r.first) (p.first.here +ℤ by))
      (number_of (table_counts t) r.first_back) (p.first_back.here +ℤ neg_ℤ by))
      (number_of (table_counts t) r.second) (p.second.here +ℤ by))
      (number_of (table_counts t) r.second_back) (p.second_back.here +ℤ neg_ℤ by)

  abbrev changed : ℤ → List ℤ
  unfolding flux_forms
  changed step = changed_by f (counts_at t) r.first.axis r.first.i r.first.j r.first.k r.first_back.axis r.first_back.i r.first_back.j r.first_back.k r.second.axis r.second.i r.second.j r.second.k r.second_back.axis r.second_back.i r.second_back.j r.second_back.k flows flux.faces are_four step

  put_into : (b b' : Bool) (vs vs' : List ℤ) (m : ℕ) (x x' by : ℤ) → vs ≡ vs' → b ≡ b' → x ≡ x' → put_where b vs m (x +ℤ by) ≡ put_where b' vs' m (x' +ℤ by)
  put_into b b' vs vs' m x x' by d e g = ap (λ (z : List ℤ). put_where b z m (x +ℤ by)) d ∙ ap (λ (z : Bool). put_where z vs' m (x +ℤ by)) e ∙ ap (λ (z : ℤ). put_where b' vs' m (z +ℤ by)) g

  written_is : (step : ℤ) → written step ≡ changed step
  unfolding flux_forms
  written_is step = put_into _ _ _ _ _ _ _ _ (put_into _ _ _ _ _ _ _ _ (put_into _ _ _ _ _ _ _ _ (put_into _ _ _ _ _ _ _ _ refl counts_first here_first) counts_first_back here_first_back) counts_second here_second) counts_second_back here_second_back

  pub written_move : (step : ℤ) → IsNearestLeastOf (parabola (four_rates p) (four_slopes p)) (AllGo p) (pos 0) step → IsFlowMoveBy f (round_change t r) step flows (written step)
  unfolding flux_forms
  written_move step h = subst (λ (l : List ℤ). IsFlowMoveBy f (round_change t r) step flows l) (sym (written_is step))
      (round_move f (counts_at t) r.first.axis r.first.i r.first.j r.first.k r.first_back.axis r.first_back.i r.first_back.j r.first_back.k r.second.axis r.second.i r.second.j r.second.k r.second_back.axis r.second_back.i r.second_back.j r.second_back.k flows flux.faces are_four flux (four_rates p) (four_slopes p) step (AllGo p) rate_is slope_is h zero_goes (reaches step h.allowed) goes_or_flat)
