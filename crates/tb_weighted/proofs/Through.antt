-- A flow of 1 through one face, where it counts, and lists in which the flows of faces change.
use mathlib.Core.Path.{◌≡◌, refl, sym, ap, ◌∙◌, subst}
use mathlib.Core.Bool.{Bool, true, false}
use mathlib.Core.List.{List, [], ◌∷◌}
use Prim.Native.Nat.{ℕ, ◌^◌, ◌<◌, ◌≤◌}
use native.Mathlib.Omega.{arith}
use Rattle.std.specs.Prelude.{unsigned_abs}
use Rattle.std.proofs.Common.{◌≢◌, ◌⊎◌, inl, inr, eqb, length, length-set}
use Rattle.std.proofs.lemmas.Bool.{eqb-true, eqb-false}
use lib.IntN.{ℤ, pos, ◌+ℤ◌, ◌-ℤ◌, ◌*ℤ◌, neg_ℤ}
use Rattle.tb_math.proofs.ReadIntegers.{by_reading, reading}
use Rattle.tb_places.specs.declared.AxisName.{AxisName}
use Rattle.tb_places.specs.declared.AxisName.TheVariants.{X, Y, Z}
use Rattle.tb_places.specs.declared.Place.{Place}
use Rattle.tb_places.specs.Along.{place_along}
use Rattle.tb_places.specs.Places.{Counts, IsFace, along, face_number, place_at}
use Rattle.tb_places.proofs.Faces.{face_number_apart}
use Rattle.tb_weighted.specs.Forms.{bit, only_at}
use Rattle.tb_weighted.specs.FlowMoves.{counted, put_where, through}
use Rattle.tb_weighted.specs.Limits.{IsFlux}
use Rattle.tb_weighted.specs.Moves.{value_at}
use Rattle.tb_weighted.proofs.Local.{bit_same, bit_other}
use Rattle.tb_weighted.proofs.NodeMoves.{changed, kept_flux}

-- ---- where a face counts
times_none : (s : ℤ) → s *ℤ pos 0 ≡ pos 0
times_none s = by_reading {atoms = s ∷ []} (search reading) (search reading) refl

pub counted_none : (b : Bool) → counted b (pos 0) ≡ pos 0
counted_none true = refl
counted_none false = refl

pub counted_times : (b : Bool) (x : ℤ) → counted b (pos 1) *ℤ x ≡ counted b x
counted_times true x = by_reading {atoms = x ∷ []} (search reading) (search reading) refl
counted_times false x = by_reading {atoms = x ∷ []} (search reading) (search reading) refl

pub counted_sum : (b : Bool) (x y z w : ℤ) → counted b ((x -ℤ y) +ℤ (z -ℤ w)) ≡ (counted b x -ℤ counted b y) +ℤ (counted b z -ℤ counted b w)
counted_sum true x y z w = refl
counted_sum false x y z w = refl

zero_of : (x y : ℤ) → x ≡ pos 0 → x *ℤ y ≡ pos 0
zero_of x y e = rw e (by_reading {atoms = y ∷ []} (search reading) (search reading) refl)

zero_mid : (x y z : ℤ) → y ≡ pos 0 → x *ℤ (y *ℤ z) ≡ pos 0
zero_mid x y z e = rw e (by_reading {atoms = x ∷ z ∷ []} (search reading) (search reading) refl)

zero_last : (x y z : ℤ) → z ≡ pos 0 → x *ℤ (y *ℤ z) ≡ pos 0
zero_last x y z e = rw e (by_reading {atoms = x ∷ y ∷ []} (search reading) (search reading) refl)

ones : (x y z : ℤ) → x ≡ pos 1 → y ≡ pos 1 → z ≡ pos 1 → x *ℤ (y *ℤ z) ≡ pos 1
ones x y z e f g = rw (e, f, g) refl

same_bit : (i j : ℕ) → i ≡ j → bit i j ≡ pos 1
same_bit i j e = ap (λ (k : ℕ). bit k j) e ∙ bit_same j

-- a place is the one asked for, or nothing is there
at_or_off : (i j k p r s : ℕ) → ((i ≡ p) × (j ≡ r) × (k ≡ s)) ⊎ (only_at p r s i j k ≡ pos 0)
at_or_off i j k p r s = on_x (eqb i p) refl
  where
    on_z : i ≡ p → j ≡ r → (b : Bool) → eqb k s ≡ b → ((i ≡ p) × (j ≡ r) × (k ≡ s)) ⊎ (only_at p r s i j k ≡ pos 0)
    on_z e f true g = inl (e, f, eqb-true k s g)
    on_z e f false g = inr (zero_last (bit i p) (bit j r) (bit k s) (bit_other k s (eqb-false k s g)))

    on_y : i ≡ p → (b : Bool) → eqb j r ≡ b → ((i ≡ p) × (j ≡ r) × (k ≡ s)) ⊎ (only_at p r s i j k ≡ pos 0)
    on_y e true g = on_z e (eqb-true j r g) (eqb k s) refl
    on_y e false g = inr (zero_mid (bit i p) (bit j r) (bit k s) (bit_other j r (eqb-false j r g)))

    on_x : (b : Bool) → eqb i p ≡ b → ((i ≡ p) × (j ≡ r) × (k ≡ s)) ⊎ (only_at p r s i j k ≡ pos 0)
    on_x true g = on_y (eqb-true i p g) (eqb j r) refl
    on_x false g = inr (zero_of (bit i p) (bit j r *ℤ bit k s) (bit_other i p (eqb-false i p g)))

counted_only : (c : ℕ → ℕ → ℕ → Bool) (p r s i j k : ℕ) → counted (c i j k) (only_at p r s i j k) ≡ counted (c p r s) (only_at p r s i j k)
counted_only c p r s i j k = cases (at_or_off i j k p r s)
  where
    cases : ((i ≡ p) × (j ≡ r) × (k ≡ s)) ⊎ (only_at p r s i j k ≡ pos 0) → counted (c i j k) (only_at p r s i j k) ≡ counted (c p r s) (only_at p r s i j k)
    cases (inl (e, f, g)) = ap (λ (b : Bool). counted b (only_at p r s i j k)) (ap (λ (x : ℕ). c x j k) e ∙ ap (λ (x : ℕ). c p x k) f ∙ ap (λ (x : ℕ). c p r x) g)
    cases (inr z) = ap (counted (c i j k)) z ∙ counted_none (c i j k) ∙ sym (ap (counted (c p r s)) z ∙ counted_none (c p r s))

-- of a flow through one face it matters whether that face counts
pub counted_through : (c : AxisName → ℕ → ℕ → ℕ → Bool) (b : AxisName) (p r s : ℕ) (a : AxisName) (i j k : ℕ) → counted (c a i j k) (through b p r s a i j k) ≡ counted (along b (c b) p r s) (through b p r s a i j k)
counted_through c X p r s X i j k = counted_only (c X) p r s i j k
counted_through c X p r s Y i j k = counted_none (c Y i j k) ∙ sym (counted_none (along X (c X) p r s))
counted_through c X p r s Z i j k = counted_none (c Z i j k) ∙ sym (counted_none (along X (c X) p r s))
counted_through c Y p r s X i j k = counted_none (c X i j k) ∙ sym (counted_none (along Y (c Y) p r s))
counted_through c Y p r s Y i j k = counted_only (c Y) r p s i j k
counted_through c Y p r s Z i j k = counted_none (c Z i j k) ∙ sym (counted_none (along Y (c Y) p r s))
counted_through c Z p r s X i j k = counted_none (c X i j k) ∙ sym (counted_none (along Z (c Z) p r s))
counted_through c Z p r s Y i j k = counted_none (c Y i j k) ∙ sym (counted_none (along Z (c Z) p r s))
counted_through c Z p r s Z i j k = counted_only (c Z) r s p i j k

-- ---- numbers of faces tell them apart
places_equal : (i j k p r s : ℕ) → place_at i j k ≡ place_at p r s → only_at p r s i j k ≡ pos 1
places_equal i j k p r s e = ones (bit i p) (bit j r) (bit k s) (same_bit i p (ap (λ (x : Place). x.i) e)) (same_bit j r (ap (λ (x : Place). x.j) e)) (same_bit k s (ap (λ (x : Place). x.k) e))

bit_of_places : (m n i j k p r s : ℕ) → (m ≡ n → place_at i j k ≡ place_at p r s) → (place_at i j k ≡ place_at p r s → m ≡ n) → bit m n ≡ only_at p r s i j k
bit_of_places m n i j k p r s apart same = cases (eqb m n) refl
  where
    off : m ≢ n → ((i ≡ p) × (j ≡ r) × (k ≡ s)) ⊎ (only_at p r s i j k ≡ pos 0) → bit m n ≡ only_at p r s i j k
    off h (inl (e, f, g)) = absurd (h (same (ap (λ (x : ℕ). place_at x j k) e ∙ ap (λ (x : ℕ). place_at p x k) f ∙ ap (λ (x : ℕ). place_at p r x) g)))
    off h (inr z) = bit_other m n h ∙ sym z

    cases : (b : Bool) → eqb m n ≡ b → bit m n ≡ only_at p r s i j k
    cases true e = same_bit m n (eqb-true m n e) ∙ sym (places_equal i j k p r s (apart (eqb-true m n e)))
    cases false e = off (eqb-false m n e) (at_or_off i j k p r s)

abbrev rank : AxisName → ℕ
rank X = 0
rank Y = 1
rank Z = 2

none_one : ◌≢◌ {A = ℕ} 0 1
none_one e = absurd (omega (arith, e))

none_two : ◌≢◌ {A = ℕ} 0 2
none_two e = absurd (omega (arith, e))

one_none : ◌≢◌ {A = ℕ} 1 0
one_none e = absurd (omega (arith, e))

one_two : ◌≢◌ {A = ℕ} 1 2
one_two e = absurd (omega (arith, e))

two_none : ◌≢◌ {A = ℕ} 2 0
two_none e = absurd (omega (arith, e))

two_one : ◌≢◌ {A = ℕ} 2 1
two_one e = absurd (omega (arith, e))

ranks_differ : (a b : AxisName) → rank a ≢ rank b → a ≢ b
ranks_differ a b h e = h (ap rank e)

other_face : (n : Counts) (a b : AxisName) (p q : Place) → a ≢ b → IsFace n a p → IsFace n b q → bit (face_number n a p) (face_number n b q) ≡ pos 0
other_face n a b p q h g l = bit_other (face_number n a p) (face_number n b q) (λ e. h (face_number_apart n a b p q g l e).0)

pub bit_of_face : (n : Counts) (a : AxisName) (i j k : ℕ) (b : AxisName) (p r s : ℕ) → IsFace n a (place_at i j k) → IsFace n b (place_along b p r s) → bit (face_number n a (place_at i j k)) (face_number n b (place_along b p r s)) ≡ through b p r s a i j k
bit_of_face n X i j k X p r s h g = bit_of_places (face_number n X (place_at i j k)) (face_number n X (place_at p r s)) i j k p r s (λ e. (face_number_apart n X X (place_at i j k) (place_at p r s) h g e).1) (ap (face_number n X))
bit_of_face n X i j k Y p r s h g = other_face n X Y (place_at i j k) (place_at r p s) (ranks_differ X Y none_one) h g
bit_of_face n X i j k Z p r s h g = other_face n X Z (place_at i j k) (place_at r s p) (ranks_differ X Z none_two) h g
bit_of_face n Y i j k X p r s h g = other_face n Y X (place_at i j k) (place_at p r s) (ranks_differ Y X one_none) h g
bit_of_face n Y i j k Y p r s h g = bit_of_places (face_number n Y (place_at i j k)) (face_number n Y (place_at r p s)) i j k r p s (λ e. (face_number_apart n Y Y (place_at i j k) (place_at r p s) h g e).1) (ap (face_number n Y))
bit_of_face n Y i j k Z p r s h g = other_face n Y Z (place_at i j k) (place_at r s p) (ranks_differ Y Z one_two) h g
bit_of_face n Z i j k X p r s h g = other_face n Z X (place_at i j k) (place_at p r s) (ranks_differ Z X two_none) h g
bit_of_face n Z i j k Y p r s h g = other_face n Z Y (place_at i j k) (place_at r p s) (ranks_differ Z Y two_one) h g
bit_of_face n Z i j k Z p r s h g = bit_of_places (face_number n Z (place_at i j k)) (face_number n Z (place_at r s p)) i j k r s p (λ e. (face_number_apart n Z Z (place_at i j k) (place_at r s p) h g e).1) (ap (face_number n Z))

-- ---- lists in which the flow of a face changes
no_change : (x t : ℤ) → x ≡ x +ℤ t *ℤ pos 0
no_change x t = by_reading {atoms = x ∷ t ∷ []} (search reading) (search reading) refl

pub put_changed : (b : Bool) (vs : List ℤ) (n : ℕ) (t : ℤ) (i : ℕ) → n < length vs → value_at (put_where b vs n (value_at vs n +ℤ t)) i ≡ value_at vs i +ℤ t *ℤ counted b (bit i n)
put_changed true vs n t i h = changed vs n t i h
put_changed false vs n t i h = no_change (value_at vs i) t

pub put_length : (b : Bool) (vs : List ℤ) (n : ℕ) (x : ℤ) → length (put_where b vs n x) ≡ length vs
put_length true vs n x = length-set vs n x
put_length false vs n x = refl

pub put_kept : (n : Counts) (b : Bool) (vs : List ℤ) (at : ℕ) (x : ℤ) → at < length vs → IsFlux n vs → (b ≡ true → unsigned_abs x ≤ 10 ^ 12) → IsFlux n (put_where b vs at x)
put_kept n true vs at x h flux l = kept_flux n vs at x h flux (l refl)
put_kept n false vs at x h flux l = flux

counted_zero : (b : Bool) (x : ℤ) → x ≡ pos 0 → counted b x ≡ pos 0
counted_zero b x e = ap (counted b) e ∙ counted_none b

stays_at : (x t c : ℤ) → c ≡ pos 0 → x +ℤ t *ℤ c ≡ x
stays_at x t c e = rw e (by_reading {atoms = x ∷ t ∷ []} (search reading) (search reading) refl)

-- four faces, by t, -t, t and -t
module _ (n : Counts) (vs : List ℤ) (ba bc bb bd : Bool) (a c b d : ℕ) (t : ℤ) (la : a < length vs) (lc : c < length vs) (lb : b < length vs) (ld : d < length vs)
    (ca : c ≢ a) (ba' : b ≢ a) (bc' : b ≢ c) (da : d ≢ a) (dc : d ≢ c) (db : d ≢ b) where
  abbrev pub one : List ℤ
  one = put_where ba vs a (value_at vs a +ℤ t)

  abbrev pub two : List ℤ
  two = put_where bc one c (value_at vs c +ℤ neg_ℤ t)

  abbrev pub three : List ℤ
  three = put_where bb two b (value_at vs b +ℤ t)

  abbrev pub four : List ℤ
  four = put_where bd three d (value_at vs d +ℤ neg_ℤ t)

  put_at : (e : Bool) (us : List ℤ) (m i : ℕ) (x u : ℤ) → m < length us → value_at us m ≡ x → value_at (put_where e us m (x +ℤ u)) i ≡ value_at us i +ℤ u *ℤ counted e (bit i m)
  put_at e us m i x u l h = subst (λ (z : ℤ). value_at (put_where e us m (z +ℤ u)) i ≡ value_at us i +ℤ u *ℤ counted e (bit i m)) h (put_changed e us m u i l)

  length_one : length one ≡ length vs
  length_one = put_length ba vs a (value_at vs a +ℤ t)

  length_two : length two ≡ length vs
  length_two = put_length bc one c (value_at vs c +ℤ neg_ℤ t) ∙ length_one

  length_three : length three ≡ length vs
  length_three = put_length bb two b (value_at vs b +ℤ t) ∙ length_two

  pub length_four : length four ≡ length vs
  length_four = put_length bd three d (value_at vs d +ℤ neg_ℤ t) ∙ length_three

  at_one : (i : ℕ) → value_at one i ≡ value_at vs i +ℤ t *ℤ counted ba (bit i a)
  at_one i = put_changed ba vs a t i la

  at_two : (i : ℕ) → value_at two i ≡ value_at one i +ℤ neg_ℤ t *ℤ counted bc (bit i c)
  at_two i = put_at bc one c i (value_at vs c) (neg_ℤ t) (subst (λ (z : ℕ). c < z) (sym length_one) lc) (at_one c ∙ stays_at (value_at vs c) t (counted ba (bit c a)) (counted_zero ba (bit c a) (bit_other c a ca)))

  at_three : (i : ℕ) → value_at three i ≡ value_at two i +ℤ t *ℤ counted bb (bit i b)
  at_three i = put_at bb two b i (value_at vs b) t (subst (λ (z : ℕ). b < z) (sym length_two) lb)
      (at_two b ∙ stays_at (value_at one b) (neg_ℤ t) (counted bc (bit b c)) (counted_zero bc (bit b c) (bit_other b c bc')) ∙ at_one b ∙ stays_at (value_at vs b) t (counted ba (bit b a)) (counted_zero ba (bit b a) (bit_other b a ba')))

  at_four : (i : ℕ) → value_at four i ≡ value_at three i +ℤ neg_ℤ t *ℤ counted bd (bit i d)
  at_four i = put_at bd three d i (value_at vs d) (neg_ℤ t) (subst (λ (z : ℕ). d < z) (sym length_three) ld)
      (at_three d ∙ stays_at (value_at two d) t (counted bb (bit d b)) (counted_zero bb (bit d b) (bit_other d b db)) ∙ at_two d ∙ stays_at (value_at one d) (neg_ℤ t) (counted bc (bit d c)) (counted_zero bc (bit d c) (bit_other d c dc))
      ∙ at_one d ∙ stays_at (value_at vs d) t (counted ba (bit d a)) (counted_zero ba (bit d a) (bit_other d a da)))

  gather : (x t p q r s : ℤ) → ((x +ℤ t *ℤ p) +ℤ neg_ℤ t *ℤ q) +ℤ t *ℤ r +ℤ neg_ℤ t *ℤ s ≡ x +ℤ t *ℤ ((p -ℤ q) +ℤ (r -ℤ s))
  gather x t p q r s = by_reading {atoms = x ∷ t ∷ p ∷ q ∷ r ∷ s ∷ []} (search reading depth 60 fits 100000) (search reading depth 60 fits 100000) refl

  pub four_added : (i : ℕ) → value_at four i ≡ value_at vs i +ℤ t *ℤ ((counted ba (bit i a) -ℤ counted bc (bit i c)) +ℤ (counted bb (bit i b) -ℤ counted bd (bit i d)))
  four_added i = at_four i ∙ ap (λ (z : ℤ). z +ℤ neg_ℤ t *ℤ counted bd (bit i d)) (at_three i ∙ ap (λ (z : ℤ). z +ℤ t *ℤ counted bb (bit i b)) (at_two i ∙ ap (λ (z : ℤ). z +ℤ neg_ℤ t *ℤ counted bc (bit i c)) (at_one i)))
      ∙ gather (value_at vs i) t (counted ba (bit i a)) (counted bc (bit i c)) (counted bb (bit i b)) (counted bd (bit i d))

  pub four_kept : IsFlux n vs → (ba ≡ true → unsigned_abs (value_at vs a +ℤ t) ≤ 10 ^ 12) → (bc ≡ true → unsigned_abs (value_at vs c +ℤ neg_ℤ t) ≤ 10 ^ 12)
      → (bb ≡ true → unsigned_abs (value_at vs b +ℤ t) ≤ 10 ^ 12) → (bd ≡ true → unsigned_abs (value_at vs d +ℤ neg_ℤ t) ≤ 10 ^ 12) → IsFlux n four
  four_kept flux ha hc hb hd =
      put_kept n bd three d (value_at vs d +ℤ neg_ℤ t) (subst (λ (z : ℕ). d < z) (sym length_three) ld)
      (put_kept n bb two b (value_at vs b +ℤ t) (subst (λ (z : ℕ). b < z) (sym length_two) lb)
      (put_kept n bc one c (value_at vs c +ℤ neg_ℤ t) (subst (λ (z : ℕ). c < z) (sym length_one) lc)
      (put_kept n ba vs a (value_at vs a +ℤ t) la flux ha) hc) hb) hd
