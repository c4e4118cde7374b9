-- Lists with one more at their ends: what a filter selects, what is gathered by places.
use Rattle.std.proofs.Common.{◌≡◌, ℕ, zero, suc, ◌+◌, ◌≤◌, Bool, true, false, cond, List, [], ◌∷◌, ◌++◌, length, map, filter, Option, Some, None, refl, ap, ◌∙◌, subst, arith, if◌then◌else◌}
use Rattle.std.specs.List.{enumerate_from, find}
use Rattle.std.specs.Option.{option_or}
use Rattle.tb_reading.specs.Drafts.{changed_at, with_if}
use Rattle.tb_reading.specs.Records.{first_some}

pub filter_push : {X : Type 0} (p : X → Bool) (xs : List X) (x : X) → filter p (xs ++ x ∷ []) ≡ with_if (p x) x (filter p xs)
filter_push {X} p [] x = by (p x)
  where
    by : (b : Bool) → cond b (x ∷ []) [] ≡ with_if b x []
    by true = refl
    by false = refl
filter_push {X} p (y ∷ xs) x = by (p y) (p x) (filter_push p xs x)
  where
    by : (b d : Bool) → filter p (xs ++ x ∷ []) ≡ with_if d x (filter p xs) → cond b (y ∷ filter p (xs ++ x ∷ [])) (filter p (xs ++ x ∷ [])) ≡ with_if d x (cond b (y ∷ filter p xs) (filter p xs))
    by true true h = ap (λ (l : List X). y ∷ l) h
    by true false h = ap (λ (l : List X). y ∷ l) h
    by false d h = h

map_with : {X Y : Type 0} (f : X → Y) (b : Bool) (x : X) (xs : List X) → map f (with_if b x xs) ≡ with_if b (f x) (map f xs)
map_with f true x xs = by xs
  where
    by : (ys : List _) → map f (ys ++ x ∷ []) ≡ map f ys ++ f x ∷ []
    by [] = refl
    by (y ∷ ys) = ap (λ l. f y ∷ l) (by ys)
map_with f false x xs = refl

-- what a selection gives, with one more behind
pub select_push : {X Y : Type 0} (f : X → Y) (p : X → Bool) (xs : List X) (x : X) → map f (filter p (xs ++ x ∷ [])) ≡ with_if (p x) (f x) (map f (filter p xs))
select_push f p xs x = ap (map f) (filter_push p xs x) ∙ map_with f (p x) x (filter p xs)

pub map_push : {X Y : Type 0} (f : X → Y) (xs : List X) (x : X) → map f (xs ++ x ∷ []) ≡ map f xs ++ f x ∷ []
map_push f xs x = map_with f true x xs

pub find_push : {X : Type 0} (p : X → Bool) (xs : List X) (x : X) → find p (xs ++ x ∷ []) ≡ option_or (find p xs) (if p x then Some x else None)
find_push p [] x = refl
find_push p (y ∷ xs) x = by (p y) (find_push p xs x)
  where
    by : (b : Bool) → find p (xs ++ x ∷ []) ≡ option_or (find p xs) (if p x then Some x else None) → cond b (Some y) (find p (xs ++ x ∷ [])) ≡ option_or (cond b (Some y) (find p xs)) (if p x then Some x else None)
    by true h = refl
    by false h = h

pub first_some_push : {X : Type 0} (os : List (Option X)) (o : Option X) → first_some (os ++ o ∷ []) ≡ option_or (first_some os) o
first_some_push [] None = refl
first_some_push [] (Some x) = refl
first_some_push (None ∷ os) o = first_some_push os o
first_some_push (Some x ∷ os) o = refl

-- ---- what is gathered by places

module _ {X : Type 0} where
  abbrev pub gathered_from : (ℕ → X → X) → ℕ → List X → List X
  gathered_from gather n xs = map (λ (item : ℕ × X). gather item.0 item.1) (enumerate_from n xs)

  pub gathered_push : (gather : ℕ → X → X) (n : ℕ) (xs : List X) (x : X) → gathered_from gather n (xs ++ x ∷ []) ≡ gathered_from gather n xs ++ gather (n + length xs) x ∷ []
  gathered_push gather n [] x = ap (λ (i : ℕ). gather i x ∷ []) at
    where
      at : n ≡ n + 0
      at = omega arith
  gathered_push gather n (y ∷ xs) x = ap (λ (l : List X). gather n y ∷ l) (gathered_push gather (n + 1) xs x ∙ ap (λ (i : ℕ). gathered_from gather (n + 1) xs ++ gather i x ∷ []) at)
    where
      at : n + 1 + length xs ≡ n + suc (length xs)
      at = omega arith

  pub gathered_same : (gather gather' : ℕ → X → X) (n : ℕ) (xs : List X) → ((i : ℕ) (x : X) → gather' i x ≡ gather i x) → gathered_from gather' n xs ≡ gathered_from gather n xs
  gathered_same gather gather' n [] h = refl
  gathered_same gather gather' n (x ∷ xs) h = ap (λ (y : X). y ∷ gathered_from gather' (n + 1) xs) (h n x) ∙ ap (λ (l : List X). gather n x ∷ l) (gathered_same gather gather' (n + 1) xs h)

  later : (gather gather' : ℕ → X → X) (n : ℕ) (xs : List X) → ((i : ℕ) (x : X) → n ≤ i → gather' i x ≡ gather i x) → gathered_from gather' n xs ≡ gathered_from gather n xs
  later gather gather' n [] h = refl
  later gather gather' n (x ∷ xs) h = ap (λ (y : X). y ∷ gathered_from gather' (n + 1) xs) (h n x (omega arith)) ∙ ap (λ (l : List X). gather n x ∷ l) (later gather gather' (n + 1) xs (λ i y l. h i y (omega arith)))

  pub gathered_changed : (gather gather' : ℕ → X → X) (change : X → X) (n place : ℕ) (xs : List X)
      → ((i : ℕ) (x : X) → (i ≡ n + place → ⊥) → gather' i x ≡ gather i x)
      → ((x : X) → gather' (n + place) x ≡ change (gather (n + place) x))
      → gathered_from gather' n xs ≡ changed_at place change (gathered_from gather n xs)
  gathered_changed gather gather' change n place [] h g = refl
  gathered_changed gather gather' change n zero (x ∷ xs) h g =
      ap (λ (y : X). y ∷ gathered_from gather' (n + 1) xs) (subst (λ (i : ℕ). gather' i x ≡ change (gather i x)) at (g x))
      ∙ ap (λ (l : List X). change (gather n x) ∷ l) (later gather gather' (n + 1) xs (λ i y l. h i y (λ e. omega arith)))
    where
      at : n + 0 ≡ n
      at = omega arith
  gathered_changed gather gather' change n (suc place) (x ∷ xs) h g =
      ap (λ (y : X). y ∷ gathered_from gather' (n + 1) xs) (h n x (λ e. omega arith))
      ∙ ap (λ (l : List X). gather n x ∷ l) (gathered_changed gather gather' change (n + 1) place xs (λ i y ne. h i y (λ e. ne (omega arith))) (λ y. subst (λ (i : ℕ). gather' i y ≡ change (gather i y)) at (g y)))
    where
      at : n + suc place ≡ n + 1 + place
      at = omega arith
