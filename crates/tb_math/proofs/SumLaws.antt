-- Laws of sums, once for every addition: termwise equality, sums of sums, double and triple sums in another order, maps that are additive,
-- telescoping, splitting at a place, rows and triples, a term cut in two or put in, and lists by index.
use mathlib.Core.Path.{◌≡◌, refl, sym, ap, ◌∙◌, subst}
use mathlib.Core.List.{List, [], ◌∷◌, ◌++◌, map}
use mathlib.Core.Logic.{◌⊎◌, inl, inr}
use Prim.Native.Nat.{ℕ, zero, suc, ◌+◌, ◌*◌, ◌<◌, ◌≤◌}
use native.Mathlib.Omega.{arith}
use Rattle.std.proofs.Math.Nat.{eq-or-lt_of_le}
use lib.ListN.{length, get_or}
use Rattle.tb_math.specs.Sums.{sum_to, sum_list}

-- what holds of both zeros and passes through both additions holds of the two sums of terms of which it holds
pub sum-relates : {A B : Type 0} (a : A) (plus_a : A → A → A) (b : B) (plus_b : B → B → B) (R : A → B → Type 0) → R a b →
    ((x x' : A) (y y' : B) → R x y → R x' y' → R (plus_a x x') (plus_b y y')) → (n : ℕ) (f : ℕ → A) (g : ℕ → B) →
    ((i : ℕ) → i < n → R (f i) (g i)) → R (sum_to a plus_a n f) (sum_to b plus_b n g)
sum-relates a plus_a b plus_b R none closed zero f g h = none
sum-relates a plus_a b plus_b R none closed (suc n) f g h =
    closed (sum_to a plus_a n f) (f n) (sum_to b plus_b n g) (g n) (sum-relates a plus_a b plus_b R none closed n f g (λ i l. h i (omega arith))) (h n (omega arith))

-- an addition with a zero
pub record Adds (A : Type 0) : Type 1 where
  pub none : A
  pub plus : A → A → A
  pub plus-assoc : (x y z : A) → plus (plus x y) z ≡ plus x (plus y z)
  pub plus-comm : (x y : A) → plus x y ≡ plus y x
  pub plus-none : (x : A) → plus x none ≡ x

module _ {A : Type 0} (k : Adds A) where
  open k use {none, plus, plus-assoc, plus-comm, plus-none}

  abbrev sum : ℕ → (ℕ → A) → A
  sum n f = sum_to none plus n f

  left : (y : A) {x x' : A} → x ≡ x' → plus x y ≡ plus x' y
  left y e = ap (λ (t : A). plus t y) e

  right : (x : A) {y y' : A} → y ≡ y' → plus x y ≡ plus x y'
  right x e = ap (λ (t : A). plus x t) e

  pub medial : (a b c d : A) → plus (plus a b) (plus c d) ≡ plus (plus a c) (plus b d)
  medial a b c d = plus-assoc a b (plus c d) ∙ right a (sym (plus-assoc b c d) ∙ left d (plus-comm b c) ∙ plus-assoc c b d) ∙ sym (plus-assoc a c (plus b d))

  pub sum-cong : (n : ℕ) (f g : ℕ → A) → ((i : ℕ) → i < n → f i ≡ g i) → sum n f ≡ sum n g
  sum-cong zero f g h = refl
  sum-cong (suc n) f g h = left (f n) (sum-cong n f g (λ i l. h i (omega arith))) ∙ right (sum n g) (h n (omega arith))

  pub sum-plus : (n : ℕ) (f g : ℕ → A) → sum n (λ i. plus (f i) (g i)) ≡ plus (sum n f) (sum n g)
  sum-plus zero f g = sym (plus-none none)
  sum-plus (suc n) f g = left (plus (f n) (g n)) (sum-plus n f g) ∙ medial (sum n f) (sum n g) (f n) (g n)

  pub sum-none : (n : ℕ) → sum n (λ i. none) ≡ none
  sum-none zero = refl
  sum-none (suc n) = plus-none (sum n (λ i. none)) ∙ sum-none n

  -- a double sum, either way round
  pub sum-swap : (n m : ℕ) (f : ℕ → ℕ → A) → sum n (λ i. sum m (λ j. f i j)) ≡ sum m (λ j. sum n (λ i. f i j))
  sum-swap zero m f = sym (sum-none m)
  sum-swap (suc n) m f = left (sum m (λ j. f n j)) (sum-swap n m f) ∙ sym (sum-plus m (λ j. sum n (λ i. f i j)) (λ j. f n j))

  -- a triple sum with its first index last
  pub sum-turn : (n m l : ℕ) (f : ℕ → ℕ → ℕ → A) → sum n (λ i. sum m (λ j. sum l (λ h. f i j h))) ≡ sum m (λ j. sum l (λ h. sum n (λ i. f i j h)))
  sum-turn n m l f = sum-swap n m (λ i j. sum l (f i j))
      ∙ sum-cong m (λ j. sum n (λ i. sum l (f i j))) (λ j. sum l (λ h. sum n (λ i. f i j h))) (λ j t. sum-swap n l (λ i h. f i j h))

  -- a map that is additive goes through a sum
  pub sum-through : (s : A → A) → s none ≡ none → ((x y : A) → s (plus x y) ≡ plus (s x) (s y)) → (n : ℕ) (f : ℕ → A) → s (sum n f) ≡ sum n (λ i. s (f i))
  sum-through s hz hp zero f = hz
  sum-through s hz hp (suc n) f = hp (sum n f) (f n) ∙ left (s (f n)) (sum-through s hz hp n f)

  -- n steps, each from f i to f (i + 1)
  pub sum-telescope : (n : ℕ) (f g : ℕ → A) → ((i : ℕ) → i < n → plus (f i) (g i) ≡ f (suc i)) → plus (f 0) (sum n g) ≡ f n
  sum-telescope zero f g h = plus-none (f 0)
  sum-telescope (suc n) f g h = sym (plus-assoc (f 0) (sum n g) (g n)) ∙ left (g n) (sum-telescope n f g (λ i l. h i (omega arith))) ∙ h n (omega arith)

  pub sum-split : (n m : ℕ) (f : ℕ → A) → sum (n + m) f ≡ plus (sum n f) (sum m (λ i. f (n + i)))
  sum-split n zero f = ap (λ (t : ℕ). sum t f) (zero_eq n) ∙ sym (plus-none (sum n f))
    where
      zero_eq : (n : ℕ) → n + zero ≡ n
      zero_eq n = omega arith
  sum-split n (suc m) f = ap (λ (t : ℕ). sum t f) (suc_eq n m) ∙ left (f (n + m)) (sum-split n m f) ∙ plus-assoc (sum n f) (sum m (λ i. f (n + i))) (f (n + m))
    where
      suc_eq : (n m : ℕ) → n + suc m ≡ suc (n + m)
      suc_eq n m = omega arith

  -- the pairs (i, j) in rows of m
  pub sum-rows : (n m : ℕ) (f : ℕ → A) → sum (n * m) f ≡ sum n (λ i. sum m (λ j. f (i * m + j)))
  sum-rows zero m f = ap (λ (t : ℕ). sum t f) (none_eq m)
    where
      none_eq : (m : ℕ) → zero * m ≡ zero
      none_eq m = omega arith
  sum-rows (suc n) m f = ap (λ (t : ℕ). sum t f) (row_eq n m) ∙ sum-split (n * m) m f ∙ left (sum m (λ j. f (n * m + j))) (sum-rows n m f)
    where
      row_eq : (n m : ℕ) → suc n * m ≡ n * m + m
      row_eq n m = omega arith

  -- the triples (i, j, h), in a line
  pub sum-triples : (n m l : ℕ) (f : ℕ → A) → sum (n * (m * l)) f ≡ sum n (λ i. sum m (λ j. sum l (λ h. f (i * (m * l) + (j * l + h)))))
  sum-triples n m l f = sum-rows n (m * l) f
      ∙ sum-cong n (λ i. sum (m * l) (λ j. f (i * (m * l) + j))) (λ i. sum m (λ j. sum l (λ h. f (i * (m * l) + (j * l + h)))))
      (λ i t. sum-rows m l (λ j. f (i * (m * l) + j)))

  -- one term cut in two at p, the later ones moved on by one place
  pub sum-cut : (n p : ℕ) (f g : ℕ → A) → p < n → ((i : ℕ) → i < p → g i ≡ f i) → plus (g p) (g (suc p)) ≡ f p →
      ((i : ℕ) → p < i → i < n → g (suc i) ≡ f i) → sum (suc n) g ≡ sum n f
  sum-cut zero p f g h before here after = absurd (omega arith)
  sum-cut (suc m) p f g h before here after =
      by_place (eq-or-lt_of_le {n = p} {m = m} (omega arith)) (λ l. sum-cut m p f g l before here (λ i a b. after i a (omega arith)))
    where
      at_end : p ≡ m → (i : ℕ) → i < m → g i ≡ f i
      at_end e i l = before i (omega arith)

      by_place : (p ≡ m) ⊎ (p < m) → (p < m → sum (suc m) g ≡ sum m f) → sum (suc (suc m)) g ≡ sum (suc m) f
      by_place (inl e) ih = plus-assoc (sum m g) (g m) (g (suc m)) ∙ left (plus (g m) (g (suc m))) (sum-cong m g f (at_end e))
          ∙ right (sum m f) (subst (λ (t : ℕ). plus (g t) (g (suc t)) ≡ f t) e here)
      by_place (inr l) ih = left (g (suc m)) (ih l) ∙ right (sum m f) (after m l (omega arith))

  -- a term that is nothing put in at p, the later ones moved on by one place
  pub sum-insert : (n p : ℕ) (f g : ℕ → A) → p ≤ n → ((i : ℕ) → i < p → g i ≡ f i) → g p ≡ none →
      ((i : ℕ) → p ≤ i → i < n → g (suc i) ≡ f i) → sum (suc n) g ≡ sum n f
  sum-insert zero p f g h before here after = right none (subst (λ (t : ℕ). g t ≡ none) (zero_eq p h) here) ∙ plus-none none
    where
      zero_eq : (p : ℕ) → p ≤ 0 → p ≡ 0
      zero_eq p h = omega arith
  sum-insert (suc m) p f g h before here after =
      by_place (eq-or-lt_of_le h) (λ l. sum-insert m p f g (omega arith) before here (λ i a b. after i a (omega arith)))
    where
      at_end : p ≡ suc m → (i : ℕ) → i < suc m → g i ≡ f i
      at_end e i l = before i (omega arith)

      by_place : (p ≡ suc m) ⊎ (p < suc m) → (p < suc m → sum (suc m) g ≡ sum m f) → sum (suc (suc m)) g ≡ sum (suc m) f
      by_place (inl e) ih = left (g (suc m)) (sum-cong (suc m) g f (at_end e)) ∙ right (sum (suc m) f) (subst (λ (t : ℕ). g t ≡ none) e here)
          ∙ plus-none (sum (suc m) f)
      by_place (inr l) ih = left (g (suc m)) (ih l) ∙ right (sum m f) (after m (omega arith) (omega arith))

  -- ---- lists
  pub sum_list-append : (xs ys : List A) → sum_list none plus (xs ++ ys) ≡ plus (sum_list none plus xs) (sum_list none plus ys)
  sum_list-append [] ys = sym (plus-comm none (sum_list none plus ys) ∙ plus-none (sum_list none plus ys))
  sum_list-append (x ∷ xs) ys = right x (sum_list-append xs ys) ∙ sym (plus-assoc x (sum_list none plus xs) (sum_list none plus ys))

  -- the first term apart
  pub sum-front : (n : ℕ) (f : ℕ → A) → sum (suc n) f ≡ plus (f 0) (sum n (λ i. f (suc i)))
  sum-front zero f = plus-comm none (f 0)
  sum-front (suc n) f = left (f (suc n)) (sum-front n f) ∙ plus-assoc (f 0) (sum n (λ i. f (suc i))) (f (suc n))

  -- a sum over a list is a sum over its places
  pub sum_list-index : {X : Type 0} (g : X → A) (d : X) (xs : List X) → sum_list none plus (map g xs) ≡ sum (length xs) (λ i. g (get_or xs i d))
  sum_list-index g d [] = refl
  sum_list-index g d (x ∷ xs) = right (g x) (sum_list-index g d xs) ∙ sym (sum-front (length xs) (λ i. g (get_or (x ∷ xs) i d)))
