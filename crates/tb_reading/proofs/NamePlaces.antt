-- the place of a name in a list of names that are kept as vectors
use Rattle.std.proofs.Common.{◌≡◌, ℕ, suc, ◌+◌, ◌<◌, ◌≤◌, Result, Ok, Err, IfOk, OnErr, length-append, Bool, true, false, cond, List, [], ◌∷◌, ◌++◌, map, length, Some, None, refl, sym, ap, ◌∙◌, subst, nat_lt, arith, position, true≢false, if◌then◌else◌, not, ◌||◌}
use Rattle.std.proofs.lemmas.Bool.{lt-ltb, ltb-true}
use Rattle.std.specs.List.{position_or_len, list_any}
use Rattle.std.specs.Str.{bytes_eq}
use Rattle.indexmap.specs.IndexSet.{insert_key}
use Rattle.tb_reading.specs.Names.{place_of}

module _ {X Y : Type 0} (p : Y → Bool) (f : X → Y) where
  position_or_len_map : (xs : List X) → position_or_len (λ x. p (f x)) xs ≡ position_or_len p (map f xs)
  position_or_len_map [] = refl
  position_or_len_map (x ∷ xs) = ap (λ (n : ℕ). cond (not (p (f x))) (1 + n) 0) (position_or_len_map xs)

  length_map : (xs : List X) → length xs ≡ length (map f xs)
  length_map [] = refl
  length_map (x ∷ xs) = ap suc (length_map xs)

  -- a test of what a map gives
  pub position_map : (xs : List X) → position (λ x. p (f x)) xs ≡ position p (map f xs)
  position_map xs = ap (λ (n : ℕ). cond (nat_lt n (length xs)) (Some n) None) (position_or_len_map xs) ∙ ap (λ (n : ℕ). cond (nat_lt (position_or_len p (map f xs)) n) (Some (position_or_len p (map f xs))) None) (length_map xs)

module _ {X : Type 0} (p : X → Bool) where
  stops : (xs : List X) → list_any p xs ≡ true → position_or_len p xs < length xs
  stops [] h = absurd (true≢false (sym h))
  stops (x ∷ xs) h = by (p x) refl (stops xs)
    where
      by : (b : Bool) → p x ≡ b → (list_any p xs ≡ true → position_or_len p xs < length xs) → position_or_len p (x ∷ xs) < length (x ∷ xs)
      by true e rest = subst (λ (b : Bool). cond (not b) (1 + position_or_len p xs) 0 < suc (length xs)) (sym e) (zero_below (length xs))
        where
          zero_below : (n : ℕ) → 0 < suc n
          zero_below n = omega arith
      by false e rest = subst (λ (b : Bool). cond (not b) (1 + position_or_len p xs) 0 < suc (length xs)) (sym e) (one_more (position_or_len p xs) (length xs) (rest (sym (ap (λ (b : Bool). b || list_any p xs) e) ∙ h)))
        where
          one_more : (m n : ℕ) → m < n → 1 + m < suc n
          one_more m n h = omega arith

  -- where no place is found, none passes
  pub none_passes : (xs : List X) → position p xs ≡ None → list_any p xs ≡ false
  none_passes xs h = by (list_any p xs) refl
    where
      by : (b : Bool) → list_any p xs ≡ b → list_any p xs ≡ false
      by false e = e
      by true e = absurd (some_none (sym (ap (λ (b : Bool). cond b (Some (position_or_len p xs)) None) (lt-ltb (position_or_len p xs) (length xs) (stops xs e))) ∙ h))
        where
          some_none : {n : ℕ} → Some n ≡ None → ⊥
          some_none e = cc

-- what an insert leaves, seen as names
pub inserted : {X Y : Type 0} (eq : X → X → Bool) (f : X → Y) (ks : List X) (k : X) (y : Y) → list_any (eq k) ks ≡ false → f k ≡ y → map f (insert_key eq ks k) ≡ map f ks ++ y ∷ []
inserted {X} {Y} eq f ks k y h e = ap (λ (b : Bool). map f (if b then ks else ks ++ k ∷ [])) h ∙ push ks
  where
    push : (xs : List X) → map f (xs ++ k ∷ []) ≡ map f xs ++ y ∷ []
    push [] = ap (λ (z : Y). z ∷ []) e
    push (x ∷ xs) = ap (λ (l : List Y). f x ∷ l) (push xs)

-- a name that has no place goes last
pub added : {X : Type 0} (f : X → List ℕ) (ks : List X) (k : X) (name : List ℕ) → f k ≡ name → place_of (map f ks) name ≡ None → map f (insert_key (λ x y. bytes_eq (f x) (f y)) ks k) ≡ map f ks ++ name ∷ []
added {X} f ks k name e h = inserted (λ x y. bytes_eq (f x) (f y)) f ks k name (none_passes (λ x. bytes_eq (f k) (f x)) ks (position_map (bytes_eq (f k)) f ks ∙ ap (λ (n : List ℕ). place_of (map f ks) n) e ∙ h)) e

-- a place is below the length, and is the first that passes
pub place_within : {X : Type 0} (p : X → Bool) (xs : List X) (i : ℕ) → position p xs ≡ Some i → i < length xs
place_within p xs i h = by (nat_lt (position_or_len p xs) (length xs)) refl h
  where
    by : (b : Bool) → nat_lt (position_or_len p xs) (length xs) ≡ b → cond b (Some (position_or_len p xs)) None ≡ Some i → i < length xs
    by true e f = let k : position_or_len p xs ≡ i = cc in let l = ltb-true (position_or_len p xs) (length xs) e in omega arith
    by false e f = cc

-- one more key at most
pub few_after : {K E : Type 0} (eq : K → K → Bool) (r : Result Bool E) (old new : List K) (k : K) → IfOk r (λ _. new ≡ insert_key eq old k) → OnErr r (new ≡ old) → length old < 256 → length new ≤ 256
few_after eq (Ok b) old new k h g l = by (list_any (eq k) old) h
  where
    by : (b : Bool) → new ≡ (if b then old else old ++ k ∷ []) → length new ≤ 256
    by true e = let f = ap length e in omega arith
    by false e = let f = ap length e in let g = length-append old (k ∷ []) in omega arith
few_after eq (Err x) old new k h g l = let f = ap length g in omega arith
