-- A move of a loop leaves what leaves each solid cell, and nothing passes the hull by it.
use Rattle.std.proofs.Common.{◌≡◌, ◌≢◌, refl, sym, ap, ◌∙◌, subst, arith, ℕ, zero, suc, ◌-◌, ◌<◌, ◌≤◌, ◌⊎◌, inl, inr, ⊎_elim, Bool, true, false, Option, Some, None, List, [], ◌∷◌}
use Rattle.std.specs.Prelude.{if◌then◌else◌, nat_lt}
use Rattle.std.proofs.lemmas.Bool.{lt-ltb, ltb-true, true≢false}
use Rattle.std.specs.List.{All}
use Rattle.std.proofs.lemmas.List.Elements.{Contains-get_or}
use lib.IntN.{ℤ, pos, ◌+ℤ◌, ◌-ℤ◌, ◌*ℤ◌}
use Rattle.tb_math.specs.Rational.{int}
use Rattle.tb_math.proofs.ReadIntegers.{by_reading, reading}
use Rattle.tb_places.specs.declared.AxisName.{AxisName}
use Rattle.tb_places.specs.declared.AxisName.TheVariants.{X, Y, Z}
use Rattle.tb_places.specs.declared.Place.{Place}
use Rattle.tb_places.specs.Places.{Counts, IsFace, along, place_at, second, third}
use Rattle.tb_detail.specs.declared.Content.{Content}
use Rattle.tb_detail.specs.declared.Content.TheVariants.{Solid, Air}
use Rattle.tb_model.specs.declared.FaceKind.TheVariants.{Shut}
use Rattle.tb_model.specs.Energy.{Case, IsBalanced, outflow}
use Rattle.tb_model.specs.Mesh.{Mesh, above, below, kind, kind_between}
use Rattle.tb_weighted.specs.Flows.{Flows3, flows_of}
use Rattle.tb_weighted.specs.Forms.{bit}
use Rattle.tb_weighted.specs.Moves.{AreMoves, IsInnerEdge, IsLoopMove, IsMove, IsPass, Move, State, loop_of, pass_moves, round_edge, unless_idle, whole_flux}
use Rattle.tb_weighted.specs.Moves.Move.{Loop, Node}
use Rattle.tb_weighted.proofs.Local.{bit_other}
use Rattle.tb_relax.specs.Balance.{IsFilled}
use Rattle.tb_relax.proofs.PassMoves.{IsMoveOn, moves_are}
use Rattle.tb_relax.proofs.RoundFlows.{leaving, round_leaves_none, whole_leaving}

-- ---- faces of a solid cell
solid_below : (lo hi : Option Content) (n : ℕ) (x : ℤ) → lo ≡ Some (Solid n) → unless_idle (kind_between lo hi) x ≡ x
solid_below (Some (Solid m)) (Some (Solid n)) _ x e = refl
solid_below (Some (Solid m)) (Some (Air f rs)) _ x e = refl
solid_below (Some (Solid m)) None _ x e = refl
solid_below (Some (Air f rs)) hi _ x e = cc
solid_below None hi _ x e = cc

solid_above : (lo hi : Option Content) (n : ℕ) (x : ℤ) → hi ≡ Some (Solid n) → unless_idle (kind_between lo hi) x ≡ x
solid_above (Some (Solid m)) (Some (Solid n)) _ x e = refl
solid_above (Some (Air f rs)) (Some (Solid n)) _ x e = refl
solid_above None (Some (Solid n)) _ x e = refl
solid_above lo (Some (Air f rs)) _ x e = cc
solid_above lo None _ x e = cc

above_is : (n i : ℕ) (f : ℕ → Option Content) → i < n → above n f i ≡ f i
above_is n i f h = ap (λ (b : Bool). if b then f i else None) (lt-ltb i n h)

-- ---- sums
six : (t o1 o2 o3 o4 o5 o6 r1 r2 r3 r4 r5 r6 : ℤ)
    → ((o1 +ℤ t *ℤ r1) -ℤ (o2 +ℤ t *ℤ r2)) +ℤ ((o3 +ℤ t *ℤ r3) -ℤ (o4 +ℤ t *ℤ r4)) +ℤ ((o5 +ℤ t *ℤ r5) -ℤ (o6 +ℤ t *ℤ r6)) ≡ ((o1 -ℤ o2) +ℤ (o3 -ℤ o4) +ℤ (o5 -ℤ o6)) +ℤ t *ℤ ((r1 -ℤ r2) +ℤ (r3 -ℤ r4) +ℤ (r5 -ℤ r6))
six t o1 o2 o3 o4 o5 o6 r1 r2 r3 r4 r5 r6 = by_reading {atoms = t ∷ o1 ∷ o2 ∷ o3 ∷ o4 ∷ o5 ∷ o6 ∷ r1 ∷ r2 ∷ r3 ∷ r4 ∷ r5 ∷ r6 ∷ []} (search reading depth 60 fits 100000) (search reading depth 60 fits 100000) refl

plus_none : (x t c : ℤ) → c ≡ pos 0 → x +ℤ t *ℤ c ≡ x
plus_none x t c e = ap (λ (z : ℤ). x +ℤ t *ℤ z) e ∙ by_reading {atoms = x ∷ t ∷ []} {a = x +ℤ t *ℤ pos 0} {b = x} (search reading) (search reading) refl

-- ---- faces at the hull
none_first : (u v w w' : ℤ) → u ≡ pos 0 → (u *ℤ (v *ℤ w)) -ℤ (u *ℤ w') ≡ pos 0
none_first u v w w' e = ap (λ (z : ℤ). (z *ℤ (v *ℤ w)) -ℤ (z *ℤ w')) e ∙ by_reading {atoms = v ∷ w ∷ w' ∷ []} {a = (pos 0 *ℤ (v *ℤ w)) -ℤ (pos 0 *ℤ w')} {b = pos 0} (search reading) (search reading) refl

none_second : (u v w u' w' : ℤ) → v ≡ pos 0 → (u *ℤ (v *ℤ w)) -ℤ (u' *ℤ (v *ℤ w')) ≡ pos 0
none_second u v w u' w' e = ap (λ (z : ℤ). (u *ℤ (z *ℤ w)) -ℤ (u' *ℤ (z *ℤ w'))) e ∙ by_reading {atoms = u ∷ w ∷ u' ∷ w' ∷ []} {a = (u *ℤ (pos 0 *ℤ w)) -ℤ (u' *ℤ (pos 0 *ℤ w'))} {b = pos 0} (search reading depth 20) (search reading depth 20) refl

none_third : (u v w u' v' : ℤ) → w ≡ pos 0 → (u *ℤ (v *ℤ w)) -ℤ (u' *ℤ (v' *ℤ w)) ≡ pos 0
none_third u v w u' v' e = ap (λ (z : ℤ). (u *ℤ (v *ℤ z)) -ℤ (u' *ℤ (v' *ℤ z))) e ∙ by_reading {atoms = u ∷ v ∷ u' ∷ v' ∷ []} {a = (u *ℤ (v *ℤ pos 0)) -ℤ (u' *ℤ (v' *ℤ pos 0))} {b = pos 0} (search reading depth 20) (search reading depth 20) refl

abbrev pub AtHull : ℕ → ℕ → Type 0
AtHull n i = (i ≡ 0) ⊎ (i ≡ n)

apart_from : (n i q : ℕ) → AtHull n i → 0 < q → q < n → bit i q ≡ pos 0
apart_from n i q h l u = bit_other i q (⊎_elim (λ (e : i ≡ 0). λ (f : i ≡ q). omega (arith, e, f, l)) (λ (e : i ≡ n). λ (f : i ≡ q). omega (arith, e, f, u)) h)

pub round_at_hull : (n : Counts) (axis : AxisName) (e : Place) (a : AxisName) (i j k : ℕ) → IsInnerEdge n axis e → AtHull (n a) i → along a (round_edge axis e a) i j k ≡ pos 0
round_at_hull n X e X i j k (x, y, y', z, z') h = refl
round_at_hull n X e Y i j k (x, y, y', z, z') h = none_second _ (bit i e.j) _ _ _ (apart_from (n Y) i e.j h y y')
round_at_hull n X e Z i j k (x, y, y', z, z') h = none_third _ _ (bit i e.k) _ _ (apart_from (n Z) i e.k h z z')
round_at_hull n Y e X i j k (x, x', y, z, z') h = none_first (bit i e.i) (bit j e.j) (bit k e.k) (bit j e.j *ℤ bit k (e.k - 1)) (apart_from (n X) i e.i h x x')
round_at_hull n Y e Y i j k (x, x', y, z, z') h = refl
round_at_hull n Y e Z i j k (x, x', y, z, z') h = none_third _ _ (bit i e.k) _ _ (apart_from (n Z) i e.k h z z')
round_at_hull n Z e X i j k (x, x', y, y', z) h = none_first (bit i e.i) (bit j (e.j - 1)) (bit k e.k) (bit j e.j *ℤ bit k e.k) (apart_from (n X) i e.i h x x')
round_at_hull n Z e Y i j k (x, x', y, y', z) h = none_second _ (bit i e.j) _ _ _ (apart_from (n Y) i e.j h y y')
round_at_hull n Z e Z i j k (x, x', y, y', z) h = refl

-- a face is shut only where nothing lies on one of its sides
one_side : (lo hi : Option Content) → kind_between lo hi ≡ Shut → (lo ≡ None) ⊎ (hi ≡ None)
one_side (Some (Solid m)) (Some (Solid n)) e = cc
one_side (Some (Solid m)) (Some (Air f rs)) e = cc
one_side (Some (Solid m)) None e = inr refl
one_side (Some (Air f rs)) (Some (Solid n)) e = cc
one_side (Some (Air f rs)) (Some (Air g rs')) e = cc
one_side (Some (Air f rs)) None e = inr refl
one_side None hi e = inl refl

-- along a line whose cells are all filled that is at the hull
shut_at : (n i : ℕ) (f : ℕ → Option Content) → i ≤ n → ((c : ℕ) → c < n → f c ≢ None) → kind_between (below f i) (above n f i) ≡ Shut → AtHull n i
shut_at n i f h filled e = ⊎_elim (low i h) (λ (g : above n f i ≡ None). high (nat_lt i n) refl g) (one_side (below f i) (above n f i) e)
  where
    low : (i : ℕ) → i ≤ n → below f i ≡ None → (i ≡ 0) ⊎ (i ≡ n)
    low zero h g = inl refl
    low (suc c) h g = absurd (filled c (omega (arith, h)) g)

    high : (b : Bool) → nat_lt i n ≡ b → (if b then f i else None) ≡ None → (i ≡ 0) ⊎ (i ≡ n)
    high true e g = absurd (filled i (ltb-true i n e) g)
    high false e g = inr (last (λ l. true≢false (sym (lt-ltb i n l) ∙ e)))
      where
        last : (i < n → ⊥) → i ≡ n
        last past = omega (arith, h, past)

module _ (m : Mesh) (inside : Case) (axis : AxisName) (e : Place) (old new : List ℤ) (move : IsLoopMove m inside axis e old new) (edge : IsInnerEdge m.cells axis e) where
  abbrev q : Flows3
  q = flows_of m.cells old

  abbrev q' : Flows3
  q' = flows_of m.cells new

  abbrev r : Flows3
  r = round_edge axis e

  abbrev t : ℤ
  t = move.multiple

  -- through a face where the loop is all that goes round
  at_face : (a : AxisName) (i j k : ℕ) → IsFace m.cells a (place_at i j k) → loop_of m axis e a i j k ≡ r a i j k → q' a i j k ≡ q a i j k +ℤ t *ℤ r a i j k
  at_face a i j k h s = move.added a i j k h ∙ ap (λ (z : ℤ). q a i j k +ℤ t *ℤ z) s

  solid_cell : (i j k material : ℕ) → i < m.cells X → j < m.cells Y → k < m.cells Z → m.occupant i j k ≡ Some (Solid material) → leaving q' i j k ≡ leaving q i j k
  solid_cell i j k n hx hy hz s =
      same_six (at_face X (suc i) j k (omega (arith, hx), hy, hz) (solid_below _ _ n _ s)) (at_face X i j k (omega (arith, hx), hy, hz) (solid_above _ _ n _ (above_is (m.cells X) i (λ c. m.occupant c j k) hx ∙ s)))
      (at_face Y i (suc j) k (hx, omega (arith, hy), hz) (solid_below _ _ n _ s)) (at_face Y i j k (hx, omega (arith, hy), hz) (solid_above _ _ n _ (above_is (m.cells Y) j (λ c. m.occupant i c k) hy ∙ s)))
      (at_face Z i j (suc k) (hx, hy, omega (arith, hz)) (solid_below _ _ n _ s)) (at_face Z i j k (hx, hy, omega (arith, hz)) (solid_above _ _ n _ (above_is (m.cells Z) k (λ c. m.occupant i j c) hz ∙ s)))
      ∙ six t (q X (suc i) j k) (q X i j k) (q Y i (suc j) k) (q Y i j k) (q Z i j (suc k)) (q Z i j k) (r X (suc i) j k) (r X i j k) (r Y i (suc j) k) (r Y i j k) (r Z i j (suc k)) (r Z i j k)
      ∙ plus_none (leaving q i j k) t (leaving r i j k) (round_leaves_none m.cells axis e i j k edge)
    where
      same_six : {a b c d f g a' b' c' d' f' g' : ℤ} → a ≡ a' → b ≡ b' → c ≡ c' → d ≡ d' → f ≡ f' → g ≡ g' → (a -ℤ b) +ℤ (c -ℤ d) +ℤ (f -ℤ g) ≡ (a' -ℤ b') +ℤ (c' -ℤ d') +ℤ (f' -ℤ g')
      same_six u v w x y z = rw (u, v, w, x, y, z) refl

  pub keeps_outflow : (i j k material : ℕ) → i < m.cells X → j < m.cells Y → k < m.cells Z → m.occupant i j k ≡ Some (Solid material) → outflow (whole_flux q') i j k ≡ outflow (whole_flux q) i j k
  keeps_outflow i j k n hx hy hz s = whole_leaving q' i j k ∙ ap int (solid_cell i j k n hx hy hz s) ∙ sym (whole_leaving q i j k)

  -- through a face that the loop leaves
  unmoved : (a : AxisName) (i j k : ℕ) → IsFace m.cells a (place_at i j k) → loop_of m axis e a i j k ≡ r a i j k → r a i j k ≡ pos 0 → int (q' a i j k) ≡ int (q a i j k)
  unmoved a i j k h l none = ap int (at_face a i j k h l ∙ plus_none (q a i j k) t (r a i j k) none)

  pub keeps_balance : IsFilled m → IsBalanced m (whole_flux q) → IsBalanced m (whole_flux q')
  keeps_balance filled b = record {
    cells = λ i j k n hx hy hz s. keeps_outflow i j k n hx hy hz s ∙ b.cells i j k n hx hy hz s;
    shut = shut;
  }
    where
      shut : (a : AxisName) (i j k : ℕ) → i ≤ m.cells a → j < m.cells (second a) → k < m.cells (third a) → kind m a i j k ≡ Shut → along a (whole_flux q' a) i j k ≡ int (pos 0)
      shut X i j k hi hj hk s = unmoved X i j k (hi, hj, hk) (ap (λ f. unless_idle f (r X i j k)) s)
          (round_at_hull m.cells axis e X i j k edge (shut_at (m.cells X) i (λ c. along X m.occupant c j k) hi (λ c l. filled c j k l hj hk) s)) ∙ b.shut X i j k hi hj hk s
      shut Y i j k hi hj hk s = unmoved Y j i k (hj, hi, hk) (ap (λ f. unless_idle f (r Y j i k)) s)
          (round_at_hull m.cells axis e Y i j k edge (shut_at (m.cells Y) i (λ c. along Y m.occupant c j k) hi (λ c l. filled j c k hj l hk) s)) ∙ b.shut Y i j k hi hj hk s
      shut Z i j k hi hj hk s = unmoved Z j k i (hj, hk, hi) (ap (λ f. unless_idle f (r Z j k i)) s)
          (round_at_hull m.cells axis e Z i j k edge (shut_at (m.cells Z) i (λ c. along Z m.occupant c j k) hi (λ c l. filled j k c hj hk l) s)) ∙ b.shut Z i j k hi hj hk s

-- ---- lists of moves
module _ (m : Mesh) (inside : Case) (filled : IsFilled m) where
  abbrev Balanced : List ℤ → Type 0
  Balanced flows = IsBalanced m (whole_flux (flows_of m.cells flows))

  by_move : (move : Move) (old new : State) → IsMoveOn m.cells move → IsMove m inside move old new → Balanced old.flux → Balanced new.flux
  by_move (Node p) old new h (step, rest) b = subst Balanced (sym rest) b
  by_move (Loop axis e) old new h (step, rest) b = keeps_balance m inside axis e old.flux new.flux step h filled b

  by_moves : (moves : List Move) (old new : State) (told : Bool) → All (IsMoveOn m.cells) moves → AreMoves m inside moves old new told → Balanced old.flux → Balanced new.flux
  by_moves [] old new told all (same, none) b = subst (λ (s : State). Balanced s.flux) (sym same) b
  by_moves (move ∷ moves) old new told all made b = by_moves moves made.mid new made.told_after (λ i d h. all (suc i) d (omega (arith, h))) made.after
      (by_move move old made.mid (all 0 move (omega arith)) made.step b)

  pub pass_keeps : (old new : State) (told : Bool) → IsPass m inside old new told → Balanced old.flux → Balanced new.flux
  pass_keeps old new told made b = by_moves (pass_moves m.cells) old new told (λ i d h. moves_are m.cells _ (Contains-get_or (pass_moves m.cells) i d h)) made b
