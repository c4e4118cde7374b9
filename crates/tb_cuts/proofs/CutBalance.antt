-- A cut keeps a flux balanced.
use mathlib.Core.Path.{◌≡◌, refl, ap, ◌∙◌, sym, subst, fun_ext}
use mathlib.Core.List.{[], ◌∷◌}
use mathlib.Core.Logic.{◌⊎◌, inl, inr}
use Prim.Native.Nat.{ℕ, zero, suc, ◌<◌, ◌≤◌}
use native.Mathlib.Omega.{arith}
use lib.IntN.{pos}
use Rattle.std.proofs.Math.Nat.{eq-or-lt_of_le}
use Rattle.std.specs.Prelude.{Option, Some, None}
use Rattle.tb_math.specs.Rational.{ℚ, int, ◌+ℚ◌, ◌-ℚ◌, ◌*ℚ◌}
use Rattle.tb_math.proofs.ReadRationals.{by_reading, by_given, reading, none, given}
use Rattle.tb_places.specs.declared.AxisName.{AxisName}
use Rattle.tb_places.specs.declared.AxisName.TheVariants.{X, Y, Z}
use Rattle.tb_places.specs.Places.{second, third, along}
use Rattle.tb_detail.specs.declared.Content.{Content}
use Rattle.tb_detail.specs.declared.Content.TheVariants.{Solid, Air}
use Rattle.tb_model.specs.declared.FaceKind.TheVariants.{Shut}
use Rattle.tb_model.specs.Mesh.{Mesh, kind, kind_between}
use Rattle.tb_model.specs.Energy.{Flux, IsBalanced, outflow}
use Rattle.tb_places.specs.Cuts.{in_both}
use Rattle.tb_model.specs.Cuts.{shared, bridged, cut, cut_flux, rest}
use Rattle.tb_places.proofs.CutLines.{both-up_to, both-from}
use Rattle.tb_cuts.proofs.CutLines.{bridged-up_to, bridged-after, bridged-middle}
use Rattle.tb_cuts.proofs.CutIntervals.{shared-before, shared-first, shared-second, shared-after}
use Rattle.tb_cuts.proofs.CutSums.{Filled, face_kind, kind_up_to, kind_inside, kind_from}
use Rattle.tb_cuts.proofs.CutTerms.{between_low, between_high}

-- The interval i of a cut line is a part, `share`, of the interval `place` of the old line.
pub record OldPlace (p : ℕ) (s : ℚ) (i : ℕ) : Type 0 where
  pub place : ℕ
  pub share : ℚ
  pub within : (n : ℕ) → p < n → i < suc n → place < n
  pub fills : (f : Filled) → in_both p f i ≡ f place
  pub shares : (f : ℕ → ℚ) → shared p s f i ≡ share *ℚ f place
  pub differs : (f : ℕ → ℚ) → bridged p s f (suc i) -ℚ bridged p s f i ≡ share *ℚ (f (suc place) -ℚ f place)

once : (x : ℚ) → x ≡ int (pos 1) *ℚ x
once x = by_reading {atoms = x ∷ []} (search reading) (search reading) refl

less : {a b c d : ℚ} → a ≡ c → b ≡ d → a -ℚ b ≡ c -ℚ d
less e f = λ t. e t -ℚ f t

old_before : (p : ℕ) (s : ℚ) (i : ℕ) → i < p → OldPlace p s i
old_before p s i h = record {
  place = i;
  share = int (pos 1);
  within = λ n l k. omega arith;
  fills = λ f. both-up_to p f i (omega arith);
  shares = λ f. shared-before p s f i h ∙ once (f i);
  differs = λ f. less (bridged-up_to p s f (suc i) h) (bridged-up_to p s f i (omega arith)) ∙ once (f (suc i) -ℚ f i);
}

old_first : (p : ℕ) (s : ℚ) → OldPlace p s p
old_first p s = record {
  place = p;
  share = s;
  within = λ n l k. l;
  fills = λ f. both-up_to p f p (omega arith);
  shares = λ f. shared-first p s f;
  differs = λ f. less (bridged-middle p s f) (bridged-up_to p s f p (omega arith)) ∙ between_low s (f p) (f (suc p));
}

old_second : (p : ℕ) (s : ℚ) → OldPlace p s (suc p)
old_second p s = record {
  place = p;
  share = rest s;
  within = λ n l k. l;
  fills = λ f. both-from p f p (omega arith);
  shares = λ f. shared-second p s f;
  differs = λ f. less (bridged-after p s f (suc p) (omega arith)) (bridged-middle p s f) ∙ between_high s (f p) (f (suc p));
}

old_after : (p : ℕ) (s : ℚ) (i : ℕ) → p < i → OldPlace p s (suc i)
old_after p s i h = record {
  place = i;
  share = int (pos 1);
  within = λ n l k. omega arith;
  fills = λ f. both-from p f i (omega arith);
  shares = λ f. shared-after p s f i h ∙ once (f i);
  differs = λ f. less (bridged-after p s f (suc i) (omega arith)) (bridged-after p s f i h) ∙ once (f (suc i) -ℚ f i);
}

old_behind : (p : ℕ) (s : ℚ) (i : ℕ) → p ≤ i → OldPlace p s (suc i)
old_behind p s i h = by_place (eq-or-lt_of_le h)
  where
    by_place : (p ≡ i) ⊎ (p < i) → OldPlace p s (suc i)
    by_place (inl e) = subst (λ (t : ℕ). OldPlace p s (suc t)) e (old_second p s)
    by_place (inr l) = old_after p s i l

below_or_not : (i p : ℕ) → (i ≤ p) ⊎ (p < i)
below_or_not i p = grind arith

pub old_place : (p : ℕ) (s : ℚ) (i : ℕ) → OldPlace p s i
old_place p s i = by_place i (below_or_not i p)
  where
    up_to : (i : ℕ) → (i ≡ p) ⊎ (i < p) → OldPlace p s i
    up_to i (inl e) = subst (OldPlace p s) (sym e) (old_first p s)
    up_to i (inr l) = old_before p s i l

    by_place : (i : ℕ) → (i ≤ p) ⊎ (p < i) → OldPlace p s i
    by_place i (inl h) = up_to i (eq-or-lt_of_le h)
    by_place zero (inr h) = absurd (omega arith)
    by_place (suc i) (inr h) = old_behind p s i (omega arith)

-- Balance in a cell --

-- what is shared out on the two sides of a cell
shared_sides : (p : ℕ) (s : ℚ) (i : ℕ) (o : OldPlace p s i) (f g : ℕ → ℚ) → shared p s g i -ℚ shared p s f i ≡ o.share *ℚ (g o.place -ℚ f o.place)
shared_sides p s i o f g = less (o.shares g) (o.shares f) ∙ factored o.share (g o.place) (f o.place)
  where
    factored : (h x y : ℚ) → h *ℚ x -ℚ h *ℚ y ≡ h *ℚ (x -ℚ y)
    factored h x y = by_reading {atoms = h ∷ x ∷ y ∷ []} (search reading) (search reading) refl

part_of_none : (h x y z x' y' z' : ℚ) → x' ≡ h *ℚ x → y' ≡ h *ℚ y → z' ≡ h *ℚ z → x +ℚ y +ℚ z ≡ int (pos 0) → x' +ℚ y' +ℚ z' ≡ int (pos 0)
part_of_none h x y z x' y' z' e f g balanced = (λ t. e t +ℚ f t +ℚ g t) ∙ vanishes h x y z balanced
  where
    vanishes : (h x y z : ℚ) → x +ℚ y +ℚ z ≡ int (pos 0) → h *ℚ x +ℚ h *ℚ y +ℚ h *ℚ z ≡ int (pos 0)
    vanishes h x y z e = by_given {atoms = h ∷ x ∷ y ∷ z ∷ []} (search reading depth 20) (search reading)
        (given h (x +ℚ y +ℚ z) (int (pos 0)) (search reading) (search reading depth 20) (search reading) e none) refl

cells_balanced : (a : AxisName) (p : ℕ) (s : ℚ) (m : Mesh) (q : Flux) → p < m.cells a → IsBalanced m q →
    (i j k material : ℕ) → i < (cut a p s m).cells X → j < (cut a p s m).cells Y → k < (cut a p s m).cells Z → (cut a p s m).occupant i j k ≡ Some (Solid material) → outflow (cut_flux a p s q) i j k ≡ int (pos 0)
cells_balanced X p s m q l b i j k material hi hj hk is =
    let o : OldPlace p s i = old_place p s i in
    part_of_none o.share (q X (suc o.place) j k -ℚ q X o.place j k) (q Y o.place (suc j) k -ℚ q Y o.place j k) (q Z o.place j (suc k) -ℚ q Z o.place j k) _ _ _
    (o.differs (λ n. q X n j k)) (shared_sides p s i o (λ n. q Y n j k) (λ n. q Y n (suc j) k)) (shared_sides p s i o (λ n. q Z n j k) (λ n. q Z n j (suc k)))
    (b.cells o.place j k material (o.within (m.cells X) l hi) hj hk (sym (o.fills (λ n. m.occupant n j k)) ∙ is))
cells_balanced Y p s m q l b i j k material hi hj hk is =
    let o : OldPlace p s j = old_place p s j in
    part_of_none o.share (q X (suc i) o.place k -ℚ q X i o.place k) (q Y i (suc o.place) k -ℚ q Y i o.place k) (q Z i o.place (suc k) -ℚ q Z i o.place k) _ _ _
    (shared_sides p s j o (λ n. q X i n k) (λ n. q X (suc i) n k)) (o.differs (λ n. q Y i n k)) (shared_sides p s j o (λ n. q Z i n k) (λ n. q Z i n (suc k)))
    (b.cells i o.place k material hi (o.within (m.cells Y) l hj) hk (sym (o.fills (λ n. m.occupant i n k)) ∙ is))
cells_balanced Z p s m q l b i j k material hi hj hk is =
    let o : OldPlace p s k = old_place p s k in
    part_of_none o.share (q X (suc i) j o.place -ℚ q X i j o.place) (q Y i (suc j) o.place -ℚ q Y i j o.place) (q Z i j (suc o.place) -ℚ q Z i j o.place) _ _ _
    (shared_sides p s k o (λ n. q X i j n) (λ n. q X (suc i) j n)) (shared_sides p s k o (λ n. q Y i j n) (λ n. q Y i (suc j) n)) (o.differs (λ n. q Z i j n))
    (b.cells i j o.place material hi hj (o.within (m.cells Z) l hk) (sym (o.fills (λ n. m.occupant i j n)) ∙ is))

-- Shut faces --

inside_not_shut : (c : Option Content) → kind_between c c ≡ Shut → ⊥
inside_not_shut (Some (Solid m)) e = grind arith
inside_not_shut (Some (Air f rs)) e = grind arith
inside_not_shut None e = grind arith

-- on a line along the cut,
shut_along : (n p : ℕ) (s : ℚ) (c : Filled) (f : ℕ → ℚ) → p < n → ((i : ℕ) → i ≤ n → face_kind n c i ≡ Shut → f i ≡ int (pos 0)) →
    (i : ℕ) → i ≤ suc n → face_kind (suc n) (in_both p c) i ≡ Shut → bridged p s f i ≡ int (pos 0)
shut_along n p s c f l old i h is = by_place i h is (below_or_not i p)
  where
    behind : (i : ℕ) → i ≤ n → face_kind (suc n) (in_both p c) (suc i) ≡ Shut → (p ≡ i) ⊎ (p < i) → bridged p s f (suc i) ≡ int (pos 0)
    behind i h is (inl e) = absurd (inside_not_shut (c p) (sym (kind_inside n p c l) ∙ subst (λ (t : ℕ). face_kind (suc n) (in_both p c) (suc t) ≡ Shut) (sym e) is))
    behind i h is (inr k) = bridged-after p s f i k ∙ old i h (sym (kind_from n p c i k h) ∙ is)

    by_place : (i : ℕ) → i ≤ suc n → face_kind (suc n) (in_both p c) i ≡ Shut → (i ≤ p) ⊎ (p < i) → bridged p s f i ≡ int (pos 0)
    by_place i h is (inl k) = bridged-up_to p s f i k ∙ old i (omega arith) (sym (kind_up_to n p c i l k) ∙ is)
    by_place zero h is (inr k) = absurd (omega arith)
    by_place (suc i) h is (inr k) = behind i (omega arith) is (eq-or-lt_of_le (omega arith))

-- and on one across it
shut_across : (n n2 p : ℕ) (s : ℚ) (c : ℕ → ℕ → Option Content) (f : ℕ → ℚ) (i : ℕ) → p < n2 → ((j : ℕ) → j < n2 → face_kind n (λ i. c i j) i ≡ Shut → f j ≡ int (pos 0)) →
    (j : ℕ) → j < suc n2 → face_kind n (λ i. in_both p (c i) j) i ≡ Shut → shared p s f j ≡ int (pos 0)
shut_across n n2 p s c f i l old j h is =
    let o : OldPlace p s j = old_place p s j in
    o.shares f ∙ ap (λ (t : ℚ). o.share *ℚ t) (old o.place (o.within n2 l h) (sym (alike o) ∙ is)) ∙ by_reading {atoms = o.share ∷ []} (search reading) (search reading) refl
  where
    alike : (o : OldPlace p s j) → face_kind n (λ i. in_both p (c i) j) i ≡ face_kind n (λ i. c i o.place) i
    alike o = ap {A = Filled} (λ t. face_kind n t i) (fun_ext (λ i. o.fills (c i)))

shut_faces : (a : AxisName) (p : ℕ) (s : ℚ) (m : Mesh) (q : Flux) → p < m.cells a → IsBalanced m q →
    (b : AxisName) (i j k : ℕ) → i ≤ (cut a p s m).cells b → j < (cut a p s m).cells (second b) → k < (cut a p s m).cells (third b) → kind (cut a p s m) b i j k ≡ Shut → along b (cut_flux a p s q b) i j k ≡ int (pos 0)
shut_faces X p s m q l b X i j k hi hj hk is = shut_along (m.cells X) p s (λ n. m.occupant n j k) (λ n. q X n j k) l (λ i h. b.shut X i j k h hj hk) i hi is
shut_faces X p s m q l b Y i j k hi hj hk is = shut_across (m.cells Y) (m.cells X) p s (λ i j. m.occupant j i k) (λ j. q Y j i k) i l (λ j h. b.shut Y i j k hi h hk) j hj is
shut_faces X p s m q l b Z i j k hi hj hk is = shut_across (m.cells Z) (m.cells X) p s (λ i j. m.occupant j k i) (λ j. q Z j k i) i l (λ j h. b.shut Z i j k hi h hk) j hj is
shut_faces Y p s m q l b X i j k hi hj hk is = shut_across (m.cells X) (m.cells Y) p s (λ i j. m.occupant i j k) (λ j. q X i j k) i l (λ j h. b.shut X i j k hi h hk) j hj is
shut_faces Y p s m q l b Y i j k hi hj hk is = shut_along (m.cells Y) p s (λ n. m.occupant j n k) (λ n. q Y j n k) l (λ i h. b.shut Y i j k h hj hk) i hi is
shut_faces Y p s m q l b Z i j k hi hj hk is = shut_across (m.cells Z) (m.cells Y) p s (λ i k. m.occupant j k i) (λ k. q Z j k i) i l (λ k h. b.shut Z i j k hi hj h) k hk is
shut_faces Z p s m q l b X i j k hi hj hk is = shut_across (m.cells X) (m.cells Z) p s (λ i k. m.occupant i j k) (λ k. q X i j k) i l (λ k h. b.shut X i j k hi hj h) k hk is
shut_faces Z p s m q l b Y i j k hi hj hk is = shut_across (m.cells Y) (m.cells Z) p s (λ i k. m.occupant j i k) (λ k. q Y j i k) i l (λ k h. b.shut Y i j k hi hj h) k hk is
shut_faces Z p s m q l b Z i j k hi hj hk is = shut_along (m.cells Z) p s (λ n. m.occupant j k n) (λ n. q Z j k n) l (λ i h. b.shut Z i j k h hj hk) i hi is

pub balance_kept : (a : AxisName) (p : ℕ) (s : ℚ) (m : Mesh) (q : Flux) → p < m.cells a → IsBalanced m q → IsBalanced (cut a p s m) (cut_flux a p s q)
balance_kept a p s m q l b = record { cells = cells_balanced a p s m q l b; shut = shut_faces a p s m q l b }
