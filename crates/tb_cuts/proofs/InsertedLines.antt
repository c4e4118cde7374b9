-- A rising list with one line more: it is in the list, or it falls into one gap of it.
use mathlib.Core.Path.{◌≡◌, refl, ap, ◌∙◌, sym, subst}
use mathlib.Core.Logic.{◌⊎◌, inl, inr}
use mathlib.Core.List.{List, [], ◌∷◌}
use Prim.Native.Nat.{ℕ, zero, suc, ◌+◌, ◌<◌, ◌≤◌}
use native.Mathlib.Omega.{arith}
use native.Mathlib.Numerals.{add-one}
use lib.ListN.{get_or, length}
use Rattle.std.specs.List.{Contains}
use Rattle.std.specs.List.Sorted.{IsStrictlyIncreasing}
use Rattle.std.proofs.Math.Nat.{eq-or-lt_of_le}
use Rattle.std.proofs.lemmas.List.{get_or_default}
use Rattle.tb_places.specs.Cuts.{with_two}
use Rattle.tb_places.specs.Lines.{with_line}
use Rattle.tb_places.proofs.Lines.{three_ways, with_line-before, with_line-at, with_line-behind}
use Rattle.tb_places.proofs.CutLines.{two-before, two-first, two-second, two-after}

pub below_or_not : (i p : ℕ) → (i ≤ p) ⊎ (p < i)
below_or_not i p = grind arith

-- ys is xs with q in the gap behind line p
pub record Gap (xs : List ℕ) (q : ℕ) (ys : List ℕ) : Type 0 where
  pub p : ℕ
  pub within : suc p < length xs
  pub low : get_or xs p 0 < q
  pub high : q < get_or xs (suc p) 0
  pub longer : length ys ≡ suc (length xs)
  pub lines : (i : ℕ) → get_or ys i 0 ≡ with_two p (get_or xs p 0) q (λ n. get_or xs n 0) i

-- whether q is in the list, and where it is put
abbrev pub Located : List ℕ → ℕ → Type 0
Located xs q = (Contains xs q × (with_line q xs ≡ xs)) ⊎ Gap xs q (with_line q xs)

first_gap : (x y q : ℕ) (ys : List ℕ) → x < q → q < y → Gap (x ∷ y ∷ ys) q (x ∷ q ∷ y ∷ ys)
first_gap x y q ys h k = record {
  p = 0;
  within = omega arith;
  low = h;
  high = k;
  longer = refl;
  lines = at;
}
  where
    at : (i : ℕ) → get_or (x ∷ q ∷ y ∷ ys) i 0 ≡ with_two 0 x q (λ n. get_or (x ∷ y ∷ ys) n 0) i
    at zero = refl
    at (suc zero) = refl
    at (suc (suc i)) = refl

later_gap : (x q : ℕ) (xs ys : List ℕ) → Gap xs q ys → Gap (x ∷ xs) q (x ∷ ys)
later_gap x q xs ys g = record {
  p = suc g.p;
  within = let w : suc g.p < length xs = g.within in omega arith;
  low = g.low;
  high = g.high;
  longer = ap suc g.longer;
  lines = at;
}
  where
    at : (i : ℕ) → get_or (x ∷ ys) i 0 ≡ with_two (suc g.p) (get_or (x ∷ xs) (suc g.p) 0) q (λ n. get_or (x ∷ xs) n 0) i
    at zero = refl
    at (suc i) = g.lines i

pub located : (x : ℕ) (xs : List ℕ) (q k : ℕ) → x < q → k < length (x ∷ xs) → q ≤ get_or (x ∷ xs) k 0 → Located (x ∷ xs) q
located x xs q zero h l le = absurd (omega arith)
located x [] q (suc k) h l le = absurd (omega arith)
located x (y ∷ ys) q (suc k) h l le = by_order (three_ways q y) (λ m. located y ys q k m (omega arith) le)
  where
    found : q ≡ y → (zs : List ℕ) → zs ≡ with_line q (y ∷ ys) → with_line q (x ∷ y ∷ ys) ≡ x ∷ y ∷ ys
    found e zs is = with_line-behind q x (y ∷ ys) h ∙ ap (λ (t : ℕ). x ∷ with_line t (y ∷ ys)) e ∙ ap (λ (zs : List ℕ). x ∷ zs) (with_line-at y ys)

    later : Located (y ∷ ys) q → Located (x ∷ y ∷ ys) q
    later (inl (there, same)) = inl ((suc there.0, let l : there.0 < length (y ∷ ys) = there.1 in omega arith, there.2), with_line-behind q x (y ∷ ys) h ∙ ap (λ (zs : List ℕ). x ∷ zs) same)
    later (inr g) = inr (subst (Gap (x ∷ y ∷ ys) q) (sym (with_line-behind q x (y ∷ ys) h)) (later_gap x q (y ∷ ys) (with_line q (y ∷ ys)) g))

    by_order : (q < y) ⊎ ((q ≡ y) ⊎ (y < q)) → (y < q → Located (y ∷ ys) q) → Located (x ∷ y ∷ ys) q
    by_order (inl m) ih = inr (subst (Gap (x ∷ y ∷ ys) q) (sym (with_line-behind q x (y ∷ ys) h ∙ ap (λ (zs : List ℕ). x ∷ zs) (with_line-before q y ys m))) (first_gap x y q ys h m))
    by_order (inr (inl e)) ih = inl ((1, omega arith, sym e), found e (with_line q (y ∷ ys)) refl)
    by_order (inr (inr m)) ih = later (ih m)

-- Wherever between the first line and some other --

pub located_from : (xs : List ℕ) (q k : ℕ) → 0 < length xs → get_or xs 0 0 ≤ q → k < length xs → q ≤ get_or xs k 0 → Located xs q
located_from [] q k some h l le = absurd (omega arith)
located_from (x ∷ xs) q k some h l le = by_order (eq-or-lt_of_le h)
  where
    by_order : (x ≡ q) ⊎ (x < q) → Located (x ∷ xs) q
    by_order (inl e) = inl ((0, omega arith, e), ap (λ (t : ℕ). with_line t (x ∷ xs)) (sym e) ∙ with_line-at x xs)
    by_order (inr m) = located x xs q k m l le

-- The lines of the longer list --

module _ (xs : List ℕ) (q : ℕ) (ys : List ℕ) (g : Gap xs q ys) where
  pub line_up_to : (i : ℕ) → i ≤ g.p → get_or ys i 0 ≡ get_or xs i 0
  line_up_to i h = g.lines i ∙ by_place (eq-or-lt_of_le h)
    where
      by_place : (i ≡ g.p) ⊎ (i < g.p) → with_two g.p (get_or xs g.p 0) q (λ n. get_or xs n 0) i ≡ get_or xs i 0
      by_place (inl e) = subst (λ (t : ℕ). with_two g.p (get_or xs g.p 0) q (λ n. get_or xs n 0) t ≡ get_or xs t 0) (sym e) (two-first g.p (get_or xs g.p 0) q (λ n. get_or xs n 0))
      by_place (inr l) = two-before g.p (get_or xs g.p 0) q (λ n. get_or xs n 0) i l

  pub line_new : get_or ys (suc g.p) 0 ≡ q
  line_new = g.lines (suc g.p) ∙ two-second g.p (get_or xs g.p 0) q (λ n. get_or xs n 0)

  pub line_after : (i : ℕ) → g.p < i → get_or ys (suc i) 0 ≡ get_or xs i 0
  line_after i h = g.lines (suc i) ∙ two-after g.p (get_or xs g.p 0) q (λ n. get_or xs n 0) i h

  pub rising_still : IsStrictlyIncreasing xs → IsStrictlyIncreasing ys
  rising_still rising k l = subst (λ (t : ℕ). get_or ys k 0 < get_or ys t 0) (add_one_back k) (by_place k (omega (arith, g.longer, l)) (below_or_not k g.p))
    where
      add_one_back : (k : ℕ) → suc k ≡ k + 1
      add_one_back k = omega arith

      old : (k : ℕ) → suc k < length xs → get_or xs k 0 < get_or xs (suc k) 0
      old k h = subst (λ (t : ℕ). get_or xs k 0 < get_or xs t 0) (add-one k) (rising k (omega arith))

      up_to : (k : ℕ) → k < length xs → (k ≡ g.p) ⊎ (k < g.p) → get_or ys k 0 < get_or ys (suc k) 0
      up_to k l (inl e) =
          let first : get_or ys k 0 ≡ get_or xs g.p 0 = ap (λ (t : ℕ). get_or ys t 0) e ∙ line_up_to g.p (omega arith) in
          let second : get_or ys (suc k) 0 ≡ q = ap (λ (t : ℕ). get_or ys (suc t) 0) e ∙ line_new in
          let low : get_or xs g.p 0 < q = g.low in omega arith
      up_to k l (inr m) =
          let w : suc g.p < length xs = g.within in
          let first : get_or ys k 0 ≡ get_or xs k 0 = line_up_to k (omega arith) in
          let second : get_or ys (suc k) 0 ≡ get_or xs (suc k) 0 = line_up_to (suc k) (omega arith) in
          let before : get_or xs k 0 < get_or xs (suc k) 0 = old k (omega arith) in omega arith

      behind : (k : ℕ) → suc k < length xs → (g.p ≡ k) ⊎ (g.p < k) → get_or ys (suc k) 0 < get_or ys (suc (suc k)) 0
      behind k l (inl e) =
          let first : get_or ys (suc k) 0 ≡ q = ap (λ (t : ℕ). get_or ys (suc t) 0) (sym e) ∙ line_new in
          let second : get_or ys (suc (suc k)) 0 ≡ get_or xs (suc k) 0 = line_after (suc k) (omega arith) in
          let third : get_or xs (suc g.p) 0 ≡ get_or xs (suc k) 0 = ap (λ (t : ℕ). get_or xs (suc t) 0) e in
          let high : q < get_or xs (suc g.p) 0 = g.high in omega arith
      behind k l (inr m) =
          let first : get_or ys (suc k) 0 ≡ get_or xs k 0 = line_after k m in
          let second : get_or ys (suc (suc k)) 0 ≡ get_or xs (suc k) 0 = line_after (suc k) (omega arith) in
          let before : get_or xs k 0 < get_or xs (suc k) 0 = old k l in omega arith

      by_place : (k : ℕ) → k < length xs → (k ≤ g.p) ⊎ (g.p < k) → get_or ys k 0 < get_or ys (suc k) 0
      by_place k l (inl h) = up_to k l (eq-or-lt_of_le h)
      by_place zero l (inr h) = absurd (omega arith)
      by_place (suc k) l (inr h) = behind k l (eq-or-lt_of_le (omega arith))

  pub contains_still : (c : ℕ) → Contains xs c → Contains ys c
  contains_still c there = by_place (below_or_not there.0 g.p)
    where
      stands : get_or xs there.0 0 ≡ c
      stands = get_or_default xs there.0 0 c there.1 ∙ there.2

      at : (i : ℕ) → i < length ys → get_or ys i 0 ≡ c → Contains ys c
      at i l e = (i, l, get_or_default ys i c 0 l ∙ e)

      by_place : (there.0 ≤ g.p) ⊎ (g.p < there.0) → Contains ys c
      by_place (inl h) = at there.0 (omega (arith, there.1, g.longer)) (line_up_to there.0 h ∙ stands)
      by_place (inr h) = at (suc there.0) (omega (arith, there.1, g.longer)) (line_after there.0 h ∙ stands)

  pub contains_from : (c : ℕ) → Contains ys c → (c ≡ q) ⊎ Contains xs c
  contains_from c there = by_place there.0 (omega (arith, there.1, g.longer)) (get_or_default ys there.0 0 c there.1 ∙ there.2) (below_or_not there.0 g.p)
    where
      at : (i : ℕ) → i < length xs → get_or xs i 0 ≡ c → Contains xs c
      at i l e = (i, l, get_or_default xs i c 0 l ∙ e)

      behind : (i : ℕ) → i < length xs → get_or ys (suc i) 0 ≡ c → (g.p ≡ i) ⊎ (g.p < i) → (c ≡ q) ⊎ Contains xs c
      behind i l is (inl e) = inl (sym is ∙ ap (λ (t : ℕ). get_or ys (suc t) 0) (sym e) ∙ line_new)
      behind i l is (inr h) = inr (at i l (sym (line_after i h) ∙ is))

      by_place : (i : ℕ) → i < suc (length xs) → get_or ys i 0 ≡ c → (i ≤ g.p) ⊎ (g.p < i) → (c ≡ q) ⊎ Contains xs c
      by_place i l is (inl h) = inr (at i (omega (arith, h, g.within)) (sym (line_up_to i h) ∙ is))
      by_place zero l is (inr h) = absurd (omega arith)
      by_place (suc i) l is (inr h) = behind i (omega arith) is (eq-or-lt_of_le (omega arith))
