-- sums of parabolas, and sums that few places make
use mathlib.Core.Path.{◌≡◌, refl, sym, ap, ◌∙◌}
use mathlib.Core.Bool.{Bool, true, false}
use mathlib.Core.List.{List, [], ◌∷◌, map}
use Prim.Native.Nat.{ℕ, zero, suc, ◌<◌, ◌≤◌}
use native.Mathlib.Omega.{arith}
use Rattle.std.proofs.Common.{◌≢◌, cond, eqb, ltb}
use Rattle.std.proofs.lemmas.Bool.{eq-eqb, ne_eqb, eqb-true, eqb-false, ltb-true, ltb-false}
use Rattle.std.proofs.lemmas.Int.{ints}
use lib.IntN.{ℤ, pos, ◌+ℤ◌}
use Rattle.tb_math.proofs.ReadIntegers.{by_reading, reading}
use Rattle.tb_math.specs.Sums.{sum_list, total_ℤ}
use Rattle.tb_math.proofs.SumLaws.{sum-cong, sum-plus, sum-none}
use Rattle.tb_math.proofs.SumInstances.{adds_ℤ}
use Rattle.tb_weighted.specs.Least.{parabola}
use Rattle.tb_weighted.specs.Forms.{bit, before, behind}
use Rattle.tb_weighted.proofs.Unique.{IsParabola}

pub plus_assoc : (x y z : ℤ) → (x +ℤ y) +ℤ z ≡ x +ℤ (y +ℤ z)
plus_assoc x y z = omega (arith, ints)

pub plus_comm : (x y : ℤ) → x +ℤ y ≡ y +ℤ x
plus_comm x y = omega (arith, ints)

pub plus_none : (x : ℤ) → x +ℤ pos 0 ≡ x
plus_none x = omega (arith, ints)

-- a sum of parabolas is the parabola of the sums
parabolas_add : (a b c a' b' c' t : ℤ) → (parabola a b t +ℤ c) +ℤ (parabola a' b' t +ℤ c') ≡ parabola (a +ℤ a') (b +ℤ b') t +ℤ (c +ℤ c')
parabolas_add a b c a' b' c' t = by_reading {atoms = a ∷ b ∷ c ∷ a' ∷ b' ∷ c' ∷ t ∷ []} (search reading depth 60 fits 100000) (search reading depth 60 fits 100000) refl

nothing_is : (t : ℤ) → pos 0 ≡ parabola (pos 0) (pos 0) t +ℤ pos 0
nothing_is t = by_reading {atoms = t ∷ []} (search reading depth 60 fits 100000) (search reading depth 60 fits 100000) refl

total_at : (n : ℕ) (f : ℕ → ℤ → ℤ) (a b c : ℕ → ℤ) → ((i : ℕ) → IsParabola (f i) (a i) (b i) (c i)) → (t : ℤ) → total_ℤ n (λ i. f i t) ≡ parabola (total_ℤ n a) (total_ℤ n b) t +ℤ total_ℤ n c
total_at zero f a b c h t = nothing_is t
total_at (suc n) f a b c h t = ap (λ (z : ℤ). z +ℤ f n t) (total_at n f a b c h t)
    ∙ ap (λ (z : ℤ). (parabola (total_ℤ n a) (total_ℤ n b) t +ℤ total_ℤ n c) +ℤ z) ((h n).at t)
    ∙ parabolas_add (total_ℤ n a) (total_ℤ n b) (total_ℤ n c) (a n) (b n) (c n) t

pub total_parabola : (n : ℕ) (f : ℕ → ℤ → ℤ) (a b c : ℕ → ℤ) → ((i : ℕ) → IsParabola (f i) (a i) (b i) (c i)) → IsParabola (λ t. total_ℤ n (λ i. f i t)) (total_ℤ n a) (total_ℤ n b) (total_ℤ n c)
total_parabola n f a b c h = record { at = total_at n f a b c h }

-- ---- a sum that few places make

pub bit_same : (i : ℕ) → bit i i ≡ pos 1
unfolding bit
bit_same i = ap (λ (b : Bool). cond b (pos 1) (pos 0)) (eq-eqb i i refl)

pub bit_other : (i j : ℕ) → i ≢ j → bit i j ≡ pos 0
unfolding bit
bit_other i j h = ap (λ (b : Bool). cond b (pos 1) (pos 0)) (ne_eqb i j h)

abbrev pub Off : ℕ → List ℕ → Type 0
Off i [] = Unit {0}
Off i (x ∷ xs) = (i ≢ x) × Off i xs

abbrev pub Distinct : List ℕ → Type 0
Distinct [] = Unit {0}
Distinct (x ∷ xs) = Off x xs × Distinct xs

abbrev pub Below : ℕ → List ℕ → Type 0
Below n [] = Unit {0}
Below n (x ∷ xs) = (x < n) × Below n xs

abbrev only : ℕ → (ℕ → ℤ) → ℕ → ℤ
only x f i = cond (eqb i x) (f i) (pos 0)

abbrev without : ℕ → (ℕ → ℤ) → ℕ → ℤ
without x f i = cond (eqb i x) (pos 0) (f i)

split : (x : ℕ) (f : ℕ → ℤ) (i : ℕ) → f i ≡ only x f i +ℤ without x f i
split x f i = elim (eqb i x) as (λ b. f i ≡ cond b (f i) (pos 0) +ℤ cond b (pos 0) (f i)) [ true ↦ sym (plus_none (f i)) | false ↦ sym (plus_comm (pos 0) (f i) ∙ plus_none (f i)) ]

pub total_none : (n : ℕ) (f : ℕ → ℤ) → ((i : ℕ) → i < n → f i ≡ pos 0) → total_ℤ n f ≡ pos 0
total_none n f h = sum-cong adds_ℤ n f (λ i. pos 0) h ∙ sum-none adds_ℤ n

only_off : (x : ℕ) (f : ℕ → ℤ) (i : ℕ) → i ≢ x → only x f i ≡ pos 0
only_off x f i h = ap (λ (b : Bool). cond b (f i) (pos 0)) (ne_eqb i x h)

without_off : (x : ℕ) (f : ℕ → ℤ) (i : ℕ) → i ≢ x → without x f i ≡ f i
without_off x f i h = ap (λ (b : Bool). cond b (pos 0) (f i)) (ne_eqb i x h)

without_at : (x : ℕ) (f : ℕ → ℤ) → without x f x ≡ pos 0
without_at x f = ap (λ (b : Bool). cond b (pos 0) (f x)) (eq-eqb x x refl)

total_only : (n x : ℕ) (f : ℕ → ℤ) → x < n → total_ℤ n (only x f) ≡ f x
total_only zero x f h = absurd (omega arith)
total_only (suc n) x f h = cases (eqb n x) refl (total_only n x f)
  where
    last : (u v w : ℤ) → u ≡ pos 0 → v ≡ w → u +ℤ v ≡ w
    last u v w e f = omega (arith, ints)

    more : (u v w : ℤ) → u ≡ w → v ≡ pos 0 → u +ℤ v ≡ w
    more u v w e f = omega (arith, ints)

    here : n ≡ x → eqb n x ≡ true → total_ℤ (suc n) (only x f) ≡ f x
    here same e = last (total_ℤ n (only x f)) (only x f n) (f x) (total_none n (only x f) (λ i l. only_off x f i (omega arith))) (ap (λ (b : Bool). cond b (f n) (pos 0)) e ∙ ap f same)

    there : (n ≢ x) → (x < n → total_ℤ n (only x f) ≡ f x) → total_ℤ (suc n) (only x f) ≡ f x
    there other ih = more (total_ℤ n (only x f)) (only x f n) (f x) (ih (omega arith)) (only_off x f n other)

    cases : (b : Bool) → eqb n x ≡ b → (x < n → total_ℤ n (only x f) ≡ f x) → total_ℤ (suc n) (only x f) ≡ f x
    cases true e ih = here (eqb-true n x e) e
    cases false e ih = there (eqb-false n x e) ih

map_without : (x : ℕ) (f : ℕ → ℤ) (xs : List ℕ) → Off x xs → sum_list (pos 0) ◌+ℤ◌ (map (without x f) xs) ≡ sum_list (pos 0) ◌+ℤ◌ (map f xs)
map_without x f [] h = refl
map_without x f (y ∷ ys) h = ap (λ (z : ℤ). z +ℤ sum_list (pos 0) ◌+ℤ◌ (map (without x f) ys)) (without_off x f y (λ e. h.0 (sym e))) ∙ ap (λ (z : ℤ). f y +ℤ z) (map_without x f ys h.1)

-- a sum whose terms are 0 but at the places of a list
pub total_support : (n : ℕ) (f : ℕ → ℤ) (xs : List ℕ) → Distinct xs → Below n xs → ((i : ℕ) → i < n → Off i xs → f i ≡ pos 0) → total_ℤ n f ≡ sum_list (pos 0) ◌+ℤ◌ (map f xs)
total_support n f [] d b h = total_none n f (λ i l. h i l tt)
total_support n f (x ∷ xs) d b h =
    sum-cong adds_ℤ n f (λ i. only x f i +ℤ without x f i) (λ i l. split x f i)
    ∙ sum-plus adds_ℤ n (only x f) (without x f)
    ∙ ap (λ (z : ℤ). z +ℤ total_ℤ n (without x f)) (total_only n x f b.0)
    ∙ ap (λ (z : ℤ). f x +ℤ z) (total_support n (without x f) xs d.1 b.1 rest ∙ map_without x f xs d.0)
  where
    rest : (i : ℕ) → i < n → Off i xs → without x f i ≡ pos 0
    rest i l o = cases (eqb i x) refl
      where
        cases : (b : Bool) → eqb i x ≡ b → without x f i ≡ pos 0
        cases true e = ap (λ (b : Bool). cond b (pos 0) (f i)) e
        cases false e = ap (λ (b : Bool). cond b (pos 0) (f i)) e ∙ h i l (eqb-false i x e, o)

pub total_near : (n j : ℕ) (f : ℕ → ℤ) → j ≤ n → ((i : ℕ) → i < n → i ≢ j → suc i ≢ j → f i ≡ pos 0) → total_ℤ n f ≡ before f j +ℤ behind f n j
total_near n zero f l h = cases (ltb zero n) refl
  where
    one : (x : ℤ) → x +ℤ pos 0 ≡ pos 0 +ℤ x
    one x = omega (arith, ints)

    cases : (b : Bool) → ltb zero n ≡ b → total_ℤ n f ≡ pos 0 +ℤ behind f n zero
    cases true e = total_support n f (zero ∷ []) (tt, tt) (ltb-true zero n e, tt) (λ i m o. h i m o.0 (λ k. cc)) ∙ one (f zero) ∙ ap (λ (b : Bool). pos 0 +ℤ cond b (f zero) (pos 0)) (sym e)
    cases false e = total_none n f (λ i m. absurd (omega (arith, ltb-false zero n e))) ∙ ap (λ (b : Bool). pos 0 +ℤ cond b (f zero) (pos 0)) (sym e)
total_near n (suc j) f l h = cases (ltb (suc j) n) refl
  where
    two : (x y : ℤ) → x +ℤ (y +ℤ pos 0) ≡ x +ℤ y
    two x y = omega (arith, ints)

    cases : (b : Bool) → ltb (suc j) n ≡ b → total_ℤ n f ≡ f j +ℤ behind f n (suc j)
    cases true e = total_support n f (j ∷ suc j ∷ []) ((omega arith, tt), (tt, tt)) (omega arith, (ltb-true (suc j) n e, tt)) (λ i m o. h i m o.1.0 (λ k. o.0 (omega arith))) ∙ two (f j) (f (suc j)) ∙ ap (λ (b : Bool). f j +ℤ cond b (f (suc j)) (pos 0)) (sym e)
    cases false e = total_support n f (j ∷ []) (tt, tt) (omega arith, tt) (λ i m o. h i m (λ k. absurd (omega (arith, ltb-false (suc j) n e))) (λ k. o.0 (omega arith))) ∙ ap (λ (b : Bool). f j +ℤ cond b (f (suc j)) (pos 0)) (sym e)
