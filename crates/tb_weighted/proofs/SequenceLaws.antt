-- Lists of moves follow one another.
use Rattle.std.proofs.Common.{◌≡◌, ◌≢◌, ◌↔◌, ℕ, zero, suc, ◌+◌, ◌||◌, Bool, true, false, IsTrue, refl, sym, ap, ◌∙◌, subst, arith, List, [], ◌∷◌, ◌++◌, map, append_assoc}
use Rattle.std.proofs.Math.Bool.{or-false, or_assoc}
use Rattle.tb_weighted.specs.Sequences.{AreMade}
use Rattle.tb_weighted.specs.Moves.{counting, for_each}

module _ (S M : Type 0) (move : M → S → S → Type 0) where
  -- those of one list, and then those of another
  pub then : (ms ns : List M) (old mid new : S) (t d : Bool) → AreMade S M move ms old mid t → AreMade S M move ns mid new d → AreMade S M move (ms ++ ns) old new (t || d)
  then [] ns old mid new t d r q = subst (λ (b : Bool). AreMade S M move ns old new (b || d)) (sym r.1) (subst (λ (s : S). AreMade S M move ns s new d) r.0 q)
  then (m ∷ ms) ns old mid new t d r q = record {
    mid = r.mid;
    told_here = r.told_here;
    told_after = r.told_after || d;
    step = r.step;
    here = r.here;
    after = then ms ns r.mid mid new r.told_after d r.after q;
    any = ap (λ (b : Bool). b || d) r.any ∙ or_assoc r.told_here r.told_after d;
  }

  -- one alone
  pub alone : (m : M) (old new : S) (d : Bool) → move m old new → (IsTrue d ↔ (new ≢ old)) → AreMade S M move (m ∷ []) old new d
  alone m old new d s h = record { mid = new; told_here = d; told_after = false; step = s; here = h; after = (refl, refl); any = sym (or-false d) }

-- what a loop keeps of the flag
pub true_last : (b d : Bool) → d ≡ true → (b || d) ≡ true
true_last true d e = refl
true_last false d e = e

pub false_last : (b d : Bool) → d ≡ false → (b || d) ≡ b
false_last true d e = refl
false_last false d e = e

-- a list that counts, with one number more
counting_more : (from n : ℕ) → counting from (suc n) ≡ counting from n ++ ((from + n) ∷ [])
counting_more from zero = ap (λ (k : ℕ). k ∷ []) (first from)
  where
    first : (from : ℕ) → from ≡ from + 0
    first from = omega arith
counting_more from (suc n) = ap (λ (l : List ℕ). from ∷ l) (counting_more (suc from) n ∙ ap (λ (k : ℕ). counting (suc from) n ++ (k ∷ [])) (next from n))
  where
    next : (from n : ℕ) → suc from + n ≡ from + suc n
    next from n = omega arith

map_append : {A B : Type 0} (f : A → B) (xs ys : List A) → map f (xs ++ ys) ≡ map f xs ++ map f ys
map_append {B = B} f [] ys = refl
map_append {B = B} f (x ∷ xs) ys = ap (λ (l : List B). f x ∷ l) (map_append f xs ys)

for_each_append : {A : Type 0} (xs ys : List ℕ) (f : ℕ → List A) → for_each (xs ++ ys) f ≡ for_each xs f ++ for_each ys f
for_each_append {A = A} [] ys f = refl
for_each_append {A = A} (x ∷ xs) ys f = ap (λ (l : List A). f x ++ l) (for_each_append xs ys f) ∙ sym (append_assoc (f x) (for_each xs f) (for_each ys f))

none_behind : {A : Type 0} (xs : List A) → xs ++ [] ≡ xs
none_behind {A = A} [] = refl
none_behind {A = A} (x ∷ xs) = ap (λ (l : List A). x ∷ l) (none_behind xs)

-- a loop over numbers makes one move each, or a list of moves each
module _ (S M : Type 0) (move : M → S → S → Type 0) where
  pub one_more : (f : ℕ → M) (from n n' at : ℕ) (old mid new : S) (t d e : Bool) → n' ≡ n + 1 → at ≡ from + n → AreMade S M move (map f (counting from n)) old mid t → move (f at) mid new → (IsTrue d ↔ (new ≢ mid)) → (t || d) ≡ e
      → AreMade S M move (map f (counting from n')) old new e
  one_more f from n n' at old mid new t d e s a r m h g =
      subst (λ (k : ℕ). AreMade S M move (map f (counting from k)) old new e) (up n n' s)
      (subst (λ (l : List M). AreMade S M move l old new e) (sym (ap (map f) (counting_more from n) ∙ map_append f (counting from n) ((from + n) ∷ [])))
      (subst (λ (b : Bool). AreMade S M move (map f (counting from n) ++ (f (from + n) ∷ [])) old new b) g
      (then S M move (map f (counting from n)) (f (from + n) ∷ []) old mid new t d r (alone S M move (f (from + n)) mid new d (subst (λ (k : ℕ). move (f k) mid new) a m) h))))
    where
      up : (n n' : ℕ) → n' ≡ n + 1 → suc n ≡ n'
      up n n' e = omega arith

  pub list_more : (f : ℕ → List M) (from n n' at : ℕ) (old mid new : S) (t d e : Bool) → n' ≡ n + 1 → at ≡ from + n → AreMade S M move (for_each (counting from n) f) old mid t → AreMade S M move (f at) mid new d → (t || d) ≡ e
      → AreMade S M move (for_each (counting from n') f) old new e
  list_more f from n n' at old mid new t d e s a r m g =
      subst (λ (k : ℕ). AreMade S M move (for_each (counting from k) f) old new e) (up n n' s)
      (subst (λ (l : List M). AreMade S M move l old new e) (sym (ap (λ (l : List ℕ). for_each l f) (counting_more from n) ∙ for_each_append (counting from n) ((from + n) ∷ []) f ∙ ap (λ (l : List M). for_each (counting from n) f ++ l) (none_behind (f (from + n)))))
      (subst (λ (b : Bool). AreMade S M move (for_each (counting from n) f ++ f (from + n)) old new b) g
      (then S M move (for_each (counting from n) f) (f (from + n)) old mid new t d r (subst (λ (k : ℕ). AreMade S M move (f k) mid new d) a m))))
    where
      up : (n n' : ℕ) → n' ≡ n + 1 → suc n ≡ n'
      up n n' e = omega arith

-- moves of one kind as moves of another, on the same states
pub renamed : (S M N : Type 0) (move : M → S → S → Type 0) (other : N → S → S → Type 0) (g : M → N) → ((m : M) (old new : S) → move m old new → other (g m) old new)
    → (ms : List M) (old new : S) (t : Bool) → AreMade S M move ms old new t → AreMade S N other (map g ms) old new t
renamed S M N move other g h [] old new t r = r
renamed S M N move other g h (m ∷ ms) old new t r = record {
  mid = r.mid;
  told_here = r.told_here;
  told_after = r.told_after;
  step = h m old r.mid r.step;
  here = r.here;
  after = renamed S M N move other g h ms r.mid new r.told_after r.after;
  any = r.any;
}

-- moves of one part of a state, while the rest stays
pub lifted : (S T M : Type 0) (move : M → S → S → Type 0) (other : M → T → T → Type 0) (whole : S → T) → ((u v : S) → whole u ≡ whole v → u ≡ v) → ((m : M) (u v : S) → move m u v → other m (whole u) (whole v))
    → (ms : List M) (old new : S) (t : Bool) → AreMade S M move ms old new t → AreMade T M other ms (whole old) (whole new) t
lifted S T M move other whole part h [] old new t r = (ap whole r.0, r.1)
lifted S T M move other whole part h (m ∷ ms) old new t r = record {
  mid = whole r.mid;
  told_here = r.told_here;
  told_after = r.told_after;
  step = h m old r.mid r.step;
  here = ((λ d e. r.here.0 d (part r.mid old e)), (λ n. r.here.1 (λ e. n (ap whole e))));
  after = lifted S T M move other whole part h ms r.mid new r.told_after r.after;
  any = r.any;
}
