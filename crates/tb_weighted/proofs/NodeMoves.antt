-- A step to the least of the parabola at a node is a move of the form.
use mathlib.Core.Path.{◌≡◌, refl, sym, ap, ◌∙◌, subst}
use mathlib.Core.Bool.{Bool, true, false}
use mathlib.Core.List.{List, [], ◌∷◌}
use Prim.Native.Nat.{ℕ, zero, suc, ◌^◌, ◌<◌, ◌≤◌}
use native.Mathlib.Omega.{arith}
use Rattle.std.proofs.Common.{◌≢◌, not, IsTrue, length-set, eqb, length, get_or, set, get_or-set_same, get_or-set_other}
use Rattle.std.proofs.lemmas.Bool.{eqb-true, eqb-false, eq-eqb, ne_eqb, true≢false}
use Rattle.std.proofs.lemmas.Int.{ints}
use lib.IntN.{ℤ, pos, ◌+ℤ◌, ◌-ℤ◌, ◌*ℤ◌}
use lib.Signed.{◌≤ℤ◌}
use Rattle.tb_math.proofs.ReadIntegers.{by_reading, reading}
use Rattle.tb_places.specs.declared.Place.{Place}
use Rattle.tb_places.specs.Places.{Counts, IsNode, node_number, node_count, place_at}
use Rattle.tb_places.proofs.Nodes.{node_number_apart, node_number_below}
use Rattle.tb_weighted.specs.Least.{parabola, IsNearestLeast}
use Rattle.tb_weighted.specs.Forms.{bit, only_at, Forms, form_energy, form_rate, form_slope}
use Rattle.std.specs.Prelude.{unsigned_abs}
use Rattle.tb_weighted.specs.Forms.{values_of, IsFormMove}
use Rattle.tb_weighted.specs.Limits.{IsFlux, InFlow, IsField, InField}
use Rattle.tb_weighted.proofs.Unique.{IsParabola, carried}
use Rattle.tb_weighted.proofs.Local.{bit_same, bit_other}
use Rattle.tb_weighted.proofs.Quadratic.{shift, energy_parabola}
use Rattle.tb_weighted.proofs.Same.{energy_same}

abbrev value_at : List ℤ → ℕ → ℤ
value_at vs n = get_or vs n (pos 0)

-- a value after a change of the one at j by t, whichever it is
pub changed : (vs : List ℤ) (j : ℕ) (t : ℤ) (i : ℕ) → j < length vs → value_at (set vs j (value_at vs j +ℤ t)) i ≡ value_at vs i +ℤ t *ℤ bit i j
changed vs j t i h = cases (eqb i j) refl
  where
    one : (x y u t : ℤ) → y ≡ x → u ≡ pos 1 → y +ℤ t ≡ x +ℤ t *ℤ u
    one x y u t e f = ap (λ (z : ℤ). z +ℤ t) e ∙ by_reading {atoms = x ∷ t ∷ []} {b = x +ℤ t *ℤ pos 1} (search reading) (search reading) refl ∙ ap (λ (z : ℤ). x +ℤ t *ℤ z) (sym f)

    none : (x u t : ℤ) → u ≡ pos 0 → x ≡ x +ℤ t *ℤ u
    none x u t e = by_reading {atoms = x ∷ t ∷ []} {b = x +ℤ t *ℤ pos 0} (search reading) (search reading) refl ∙ ap (λ (z : ℤ). x +ℤ t *ℤ z) (sym e)

    here : i ≡ j → value_at (set vs j (value_at vs j +ℤ t)) i ≡ value_at vs i +ℤ t *ℤ bit i j
    here e = ap (λ (k : ℕ). value_at (set vs j (value_at vs j +ℤ t)) k) e ∙ get_or-set_same vs j (value_at vs j +ℤ t) (pos 0) h
        ∙ one (value_at vs i) (value_at vs j) (bit i j) t (ap (value_at vs) (sym e)) (ap (λ (k : ℕ). bit i k) (sym e) ∙ bit_same i)

    there : i ≢ j → value_at (set vs j (value_at vs j +ℤ t)) i ≡ value_at vs i +ℤ t *ℤ bit i j
    there e = get_or-set_other vs j i (value_at vs j +ℤ t) (pos 0) e ∙ none (value_at vs i) (bit i j) t (bit_other i j e)

    cases : (b : Bool) → eqb i j ≡ b → value_at (set vs j (value_at vs j +ℤ t)) i ≡ value_at vs i +ℤ t *ℤ bit i j
    cases true e = here (eqb-true i j e)
    cases false e = there (eqb-false i j e)

pub stays : (vs : List ℤ) (j : ℕ) (x : ℤ) → x ≡ value_at vs j → set vs j x ≡ vs
stays [] j x e = refl
stays (v ∷ vs) zero x e = ap (λ (z : ℤ). z ∷ vs) e
stays (v ∷ vs) (suc j) x e = ap (λ (l : List ℤ). v ∷ l) (stays vs j x e)

pub leaves : (vs : List ℤ) (j : ℕ) (x : ℤ) → j < length vs → set vs j x ≡ vs → x ≡ value_at vs j
leaves vs j x h e = sym (get_or-set_same vs j x (pos 0) h) ∙ ap (λ (l : List ℤ). value_at l j) e

pub told_at : (vs : List ℤ) (j n : ℕ) (t x : ℤ) → j < length vs → x ≡ value_at vs j +ℤ t → (n ≡ 0 → t ≡ pos 0) → (t ≡ pos 0 → n ≡ 0) → (IsTrue (not (eqb n 0)) → set vs j x ≢ vs) × (set vs j x ≢ vs → IsTrue (not (eqb n 0)))
told_at vs j n t x h e f g = (forth, back)
  where
    none : x ≡ value_at vs j → t ≡ pos 0
    none k = omega (arith, ints)

    same : t ≡ pos 0 → x ≡ value_at vs j
    same k = omega (arith, ints)

    forth : IsTrue (not (eqb n 0)) → set vs j x ≢ vs
    forth p q = absurd (true≢false (sym p ∙ ap not (eq-eqb n 0 (g (none (leaves vs j x h q))))))

    back : (set vs j x ≢ vs) → IsTrue (not (eqb n 0))
    back p = ap not (ne_eqb n 0 (λ k. p (stays vs j x (same (f k)))))

-- ---- the numbers of nodes tell their places apart
zero_of : (x y : ℤ) → x ≡ pos 0 → x *ℤ y ≡ pos 0
zero_of x y e = rw e (by_reading {atoms = y ∷ []} (search reading depth 60 fits 100000) (search reading depth 60 fits 100000) refl)

zero_mid : (x y z : ℤ) → y ≡ pos 0 → x *ℤ (y *ℤ z) ≡ pos 0
zero_mid x y z e = rw e (by_reading {atoms = x ∷ z ∷ []} (search reading depth 60 fits 100000) (search reading depth 60 fits 100000) refl)

zero_last : (x y z : ℤ) → z ≡ pos 0 → x *ℤ (y *ℤ z) ≡ pos 0
zero_last x y z e = rw e (by_reading {atoms = x ∷ y ∷ []} (search reading depth 60 fits 100000) (search reading depth 60 fits 100000) refl)

ones : (x y z : ℤ) → x ≡ pos 1 → y ≡ pos 1 → z ≡ pos 1 → x *ℤ (y *ℤ z) ≡ pos 1
ones x y z e f g = rw (e, f, g) refl

same_bit : (i j : ℕ) → i ≡ j → bit i j ≡ pos 1
same_bit i j e = ap (λ (k : ℕ). bit k j) e ∙ bit_same j

pub bit_of_node : (n : Counts) (i j k p q r : ℕ) → IsNode n (place_at i j k) → IsNode n (place_at p q r) → bit (node_number n (place_at i j k)) (node_number n (place_at p q r)) ≡ only_at p q r i j k
bit_of_node n i j k p q r a b = on_x (eqb i p) refl
  where
    apart : ((node_number n (place_at i j k) ≡ node_number n (place_at p q r)) → ⊥) → only_at p q r i j k ≡ pos 0 → bit (node_number n (place_at i j k)) (node_number n (place_at p q r)) ≡ only_at p q r i j k
    apart h e = bit_other (node_number n (place_at i j k)) (node_number n (place_at p q r)) h ∙ sym e

    on_z : i ≡ p → j ≡ q → (b : Bool) → eqb k r ≡ b → bit (node_number n (place_at i j k)) (node_number n (place_at p q r)) ≡ only_at p q r i j k
    on_z e f true g = same_bit (node_number n (place_at i j k)) (node_number n (place_at p q r)) (ap (λ (x : ℕ). node_number n (place_at x j k)) e ∙ ap (λ (x : ℕ). node_number n (place_at p x k)) f ∙ ap (λ (x : ℕ). node_number n (place_at p q x)) (eqb-true k r g))
        ∙ sym (ones (bit i p) (bit j q) (bit k r) (same_bit i p e) (same_bit j q f) (same_bit k r (eqb-true k r g)))
    on_z e f false g = apart (λ s. eqb-false k r g (ap (λ (x : Place). x.k) (node_number_apart n (place_at i j k) (place_at p q r) a b s))) (zero_last (bit i p) (bit j q) (bit k r) (bit_other k r (eqb-false k r g)))

    on_y : i ≡ p → (b : Bool) → eqb j q ≡ b → bit (node_number n (place_at i j k)) (node_number n (place_at p q r)) ≡ only_at p q r i j k
    on_y e true g = on_z e (eqb-true j q g) (eqb k r) refl
    on_y e false g = apart (λ s. eqb-false j q g (ap (λ (x : Place). x.j) (node_number_apart n (place_at i j k) (place_at p q r) a b s))) (zero_mid (bit i p) (bit j q) (bit k r) (bit_other j q (eqb-false j q g)))

    on_x : (b : Bool) → eqb i p ≡ b → bit (node_number n (place_at i j k)) (node_number n (place_at p q r)) ≡ only_at p q r i j k
    on_x true g = on_y (eqb-true i p g) (eqb j q) refl
    on_x false g = apart (λ s. eqb-false i p g (ap (λ (x : Place). x.i) (node_number_apart n (place_at i j k) (place_at p q r) a b s))) (zero_of (bit i p) (bit j q *ℤ bit k r) (bit_other i p (eqb-false i p g)))

-- the energy as a parabola in the change of the value at a node
pub node_parabola : (f : Forms) (vs : List ℤ) (i j k : ℕ) → length vs ≡ node_count f.cells → IsNode f.cells (place_at i j k)
    → IsParabola (λ t. form_energy f (values_of f.cells (set vs (node_number f.cells (place_at i j k)) (value_at vs (node_number f.cells (place_at i j k)) +ℤ t)))) (form_rate f (only_at i j k)) (form_slope f (values_of f.cells vs) (only_at i j k)) (form_energy f (values_of f.cells vs))
node_parabola f vs i j k e h = record {
  at = λ t.
      energy_same f (values_of f.cells (set vs (node_number f.cells (place_at i j k)) (value_at vs (node_number f.cells (place_at i j k)) +ℤ t))) (shift (values_of f.cells vs) (only_at i j k) t)
      (λ p q r b. changed vs (node_number f.cells (place_at i j k)) t (node_number f.cells (place_at p q r)) below ∙ ap (λ (z : ℤ). value_at vs (node_number f.cells (place_at p q r)) +ℤ t *ℤ z) (bit_of_node f.cells p q r i j k b h))
      ∙ (energy_parabola f (values_of f.cells vs) (only_at i j k)).at t;
}
  where
    below : node_number f.cells (place_at i j k) < length vs
    below = let b = node_number_below f.cells (place_at i j k) h in omega (arith, e)

-- the step that the code finds is a move
pub moved_at : (f : Forms) (vs : List ℤ) (i j k : ℕ) (a b t lo hi x : ℤ) → length vs ≡ node_count f.cells → IsNode f.cells (place_at i j k) → a ≡ form_rate f (only_at i j k) → b ≡ form_slope f (values_of f.cells vs) (only_at i j k)
    → lo ≡ pos 0 -ℤ value_at vs (node_number f.cells (place_at i j k)) → hi ≡ pos (10 ^ 8) -ℤ value_at vs (node_number f.cells (place_at i j k)) → x ≡ value_at vs (node_number f.cells (place_at i j k)) +ℤ t
    → IsNearestLeast (parabola a b) lo hi (pos 0) t → IsFormMove f (node_number f.cells (place_at i j k)) vs (set vs (node_number f.cells (place_at i j k)) x)
moved_at f vs i j k a b t lo hi x e h ea eb el eh ex s = subst (λ (z : ℤ). IsFormMove f (node_number f.cells (place_at i j k)) vs (set vs (node_number f.cells (place_at i j k)) z)) (sym ex) (record {
  value = value_at vs (node_number f.cells (place_at i j k)) +ℤ t;
  least = carried (λ x. form_energy f (values_of f.cells (set vs (node_number f.cells (place_at i j k)) x))) (form_rate f (only_at i j k)) (form_slope f (values_of f.cells vs) (only_at i j k)) (form_energy f (values_of f.cells vs)) (pos 0) (pos (10 ^ 8)) (value_at vs (node_number f.cells (place_at i j k))) t (node_parabola f vs i j k e h)
      (subst (λ (z : ℤ). IsNearestLeast (parabola z (form_slope f (values_of f.cells vs) (only_at i j k))) (pos 0 -ℤ value_at vs (node_number f.cells (place_at i j k))) (pos (10 ^ 8) -ℤ value_at vs (node_number f.cells (place_at i j k))) (pos 0) t) ea
      (subst (λ (z : ℤ). IsNearestLeast (parabola a z) (pos 0 -ℤ value_at vs (node_number f.cells (place_at i j k))) (pos (10 ^ 8) -ℤ value_at vs (node_number f.cells (place_at i j k))) (pos 0) t) eb
      (subst (λ (z : ℤ). IsNearestLeast (parabola a b) z (pos (10 ^ 8) -ℤ value_at vs (node_number f.cells (place_at i j k))) (pos 0) t) el
      (subst (λ (z : ℤ). IsNearestLeast (parabola a b) lo z (pos 0) t) eh s))));
  rest = refl;
})

-- a move keeps the range of a field
pub kept : (n : Counts) (old : List ℤ) (j : ℕ) (x : ℤ) → j < length old → IsField n old → pos 0 ≤ℤ x → x ≤ℤ pos (10 ^ 8) → IsField n (set old j x)
kept n old j x h k lo hi = record { nodes = length-set old j x ∙ k.nodes; within = λ i d l. cases i d (eqb i j) refl (subst (λ (n : ℕ). i < n) (length-set old j x) l) }
  where
    cases : (i : ℕ) (d : ℤ) (b : Bool) → eqb i j ≡ b → i < length old → InField (get_or (set old j x) i d)
    cases i d true e l = subst (λ (z : ℤ). InField z) (sym (ap (λ (n : ℕ). get_or (set old j x) n d) (eqb-true i j e) ∙ get_or-set_same old j x d h)) (lo, hi)
    cases i d false e l = subst (λ (z : ℤ). InField z) (sym (get_or-set_other old j i x d (eqb-false i j e))) (k.within i d l)

-- the same where the node's number has a name
pub moved_by : (f : Forms) (vs : List ℤ) (i j k at : ℕ) (a b t lo hi x : ℤ) → at ≡ node_number f.cells (place_at i j k) → length vs ≡ node_count f.cells → IsNode f.cells (place_at i j k) → a ≡ form_rate f (only_at i j k) → b ≡ form_slope f (values_of f.cells vs) (only_at i j k)
    → lo ≡ pos 0 -ℤ value_at vs at → hi ≡ pos (10 ^ 8) -ℤ value_at vs at → x ≡ value_at vs at +ℤ t
    → IsNearestLeast (parabola a b) lo hi (pos 0) t → IsFormMove f (node_number f.cells (place_at i j k)) vs (set vs at x)
moved_by f vs i j k at a b t lo hi x s e h ea eb el eh ex q =
    subst (λ (m : ℕ). (lo ≡ pos 0 -ℤ value_at vs m) → (hi ≡ pos (10 ^ 8) -ℤ value_at vs m) → (x ≡ value_at vs m +ℤ t) → IsFormMove f (node_number f.cells (place_at i j k)) vs (set vs m x)) (sym s)
    (λ (l : lo ≡ pos 0 -ℤ value_at vs (node_number f.cells (place_at i j k))) (m : hi ≡ pos (10 ^ 8) -ℤ value_at vs (node_number f.cells (place_at i j k))) (o : x ≡ value_at vs (node_number f.cells (place_at i j k)) +ℤ t). moved_at f vs i j k a b t lo hi x e h ea eb l m o q) el eh ex

pub kept_flux : (n : Counts) (old : List ℤ) (j : ℕ) (x : ℤ) → j < length old → IsFlux n old → unsigned_abs x ≤ 10 ^ 12 → IsFlux n (set old j x)
kept_flux n old j x h k b = record { faces = length-set old j x ∙ k.faces; within = λ i d l. cases i d (eqb i j) refl (subst (λ (n : ℕ). i < n) (length-set old j x) l) }
  where
    cases : (i : ℕ) (d : ℤ) (b : Bool) → eqb i j ≡ b → i < length old → InFlow (get_or (set old j x) i d)
    cases i d true e l = subst (λ (z : ℤ). InFlow z) (sym (ap (λ (n : ℕ). get_or (set old j x) n d) (eqb-true i j e) ∙ get_or-set_same old j x d h)) b
    cases i d false e l = subst (λ (z : ℤ). InFlow z) (sym (get_or-set_other old j i x d (eqb-false i j e))) (k.within i d l)
