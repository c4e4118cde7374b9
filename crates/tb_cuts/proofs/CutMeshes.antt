-- A refinement with one line more has the mesh of the refinement, cut: widths are shared out, and both halves of a
-- cell are filled as the cell was, since no side of a box lies inside it.
use mathlib.Core.Path.{◌≡◌, refl, ap, ◌∙◌, sym, subst}
use mathlib.Core.Logic.{◌⊎◌, inl, inr}
use mathlib.Core.List.{List, [], ◌∷◌}
use Prim.Native.Nat.{ℕ, zero, suc, ◌+◌, ◌-◌, ◌*◌, ◌<◌, ◌≤◌}
use native.Mathlib.Omega.{arith}
use lib.IntN.{pos}
use lib.ListN.{get_or, length}
use Rattle.std.specs.Prelude.{Some, Bool, cond, nat_le, nat_lt, ◌&&◌}
use Rattle.std.specs.Option.{option_map}
use Rattle.std.specs.List.{Contains, find}
use Rattle.std.specs.List.Sorted.{IsStrictlyIncreasing}
use Rattle.std.proofs.Math.Nat.{eq-or-lt_of_le}
use Rattle.std.proofs.lemmas.Bool.{lt-ltb, le-ltb, le-leb, lt-leb}
use Rattle.std.proofs.lemmas.List.{get_or_default}
use Rattle.std.proofs.lemmas.List.Kept.{AllPairs-from_increasing}
use Rattle.tb_math.specs.Rational.{ℚ, int, one_over, ratio, ◌-ℚ◌, ◌*ℚ◌}
use Rattle.tb_math.proofs.RationalLaws.{one_over_cancel}
use Rattle.tb_math.proofs.DivisionLaws.{nonzero}
use Rattle.tb_math.proofs.ReadRationals.{by_given, reading, none, given}
use Rattle.tb_places.specs.declared.AxisName.{AxisName}
use Rattle.tb_places.specs.declared.AxisName.TheVariants.{X, Y, Z}
use Rattle.tb_detail.specs.declared.SpaceBox.{SpaceBox}
use Rattle.tb_model.specs.Refinement.{Scene, Refinement, Refines, low, high, reaches_middle, holds_middle, occupant, mesh}
use Rattle.tb_places.specs.Cuts.{in_both, on_lines}
use Rattle.tb_model.specs.Cuts.{shared, cut, IsRatio, rest}
use Rattle.tb_model.specs.Merges.{relined}
use Rattle.tb_places.proofs.CutLines.{both-up_to, both-from}
use Rattle.tb_cuts.proofs.CutIntervals.{shared-before, shared-first, shared-second, shared-after}
use Rattle.tb_cuts.proofs.CutSums.{Filled}
use Rattle.tb_cuts.proofs.InsertedLines.{below_or_not, Gap, line_up_to, line_new, line_after}

-- What fills the halves --

-- whether the middle of interval i lies between two coordinates
abbrev pub reach : List ℕ → (c h i : ℕ) → Bool
reach xs c h i = nat_le (2 * c) (get_or xs i 0 + get_or xs (suc i) 0) && nat_lt (get_or xs i 0 + get_or xs (suc i) 0) (2 * h)

-- a side of a box is not inside the interval: u and v are its ends, a and b those of one half
le_half : (u v a b c : ℕ) → u ≤ a → a < b → b ≤ v → (c ≤ u) ⊎ (v ≤ c) → nat_le (2 * c) (a + b) ≡ nat_le (2 * c) (u + v)
le_half u v a b c h k l (inl m) = le-leb (2 * c) (a + b) (omega arith) ∙ sym (le-leb (2 * c) (u + v) (omega arith))
le_half u v a b c h k l (inr m) = lt-leb (2 * c) (a + b) (omega arith) ∙ sym (lt-leb (2 * c) (u + v) (omega arith))

lt_half : (u v a b c : ℕ) → u ≤ a → a < b → b ≤ v → (c ≤ u) ⊎ (v ≤ c) → nat_lt (a + b) (2 * c) ≡ nat_lt (u + v) (2 * c)
lt_half u v a b c h k l (inl m) = le-ltb (a + b) (2 * c) (omega arith) ∙ sym (le-ltb (u + v) (2 * c) (omega arith))
lt_half u v a b c h k l (inr m) = lt-ltb (a + b) (2 * c) (omega arith) ∙ sym (lt-ltb (u + v) (2 * c) (omega arith))

-- no line of a rising list is inside one of its intervals
pub outside : (xs : List ℕ) → IsStrictlyIncreasing xs → (p c : ℕ) → suc p < length xs → Contains xs c → (c ≤ get_or xs p 0) ⊎ (get_or xs (suc p) 0 ≤ c)
outside xs rising p c within there = by_place there.0 there.1 (get_or_default xs there.0 0 c there.1 ∙ there.2) (below_or_not there.0 p)
  where
    lower : (i : ℕ) → i ≤ p → get_or xs i 0 ≤ get_or xs p 0
    lower i h = by_order (eq-or-lt_of_le h)
      where
        by_order : (i ≡ p) ⊎ (i < p) → get_or xs i 0 ≤ get_or xs p 0
        by_order (inl e) = let same : get_or xs i 0 ≡ get_or xs p 0 = ap (λ (t : ℕ). get_or xs t 0) e in omega arith
        by_order (inr l) = let below : get_or xs i 0 < get_or xs p 0 = AllPairs-from_increasing xs rising i p 0 l (omega arith) in omega arith

    higher : (i : ℕ) → p < i → i < length xs → get_or xs (suc p) 0 ≤ get_or xs i 0
    higher i h k = by_order (eq-or-lt_of_le h)
      where
        by_order : (suc p ≡ i) ⊎ (suc p < i) → get_or xs (suc p) 0 ≤ get_or xs i 0
        by_order (inl e) = let same : get_or xs (suc p) 0 ≡ get_or xs i 0 = ap (λ (t : ℕ). get_or xs t 0) e in omega arith
        by_order (inr l) = let below : get_or xs (suc p) 0 < get_or xs i 0 = AllPairs-from_increasing xs rising (suc p) i 0 l k in omega arith

    by_place : (i : ℕ) → i < length xs → get_or xs i 0 ≡ c → (i ≤ p) ⊎ (p < i) → (c ≤ get_or xs p 0) ⊎ (get_or xs (suc p) 0 ≤ c)
    by_place i l is (inl h) = inl (let below : get_or xs i 0 ≤ get_or xs p 0 = lower i h in omega arith)
    by_place i l is (inr h) = inr (let above : get_or xs (suc p) 0 ≤ get_or xs i 0 = higher i h l in omega arith)

-- interval i of the longer list is interval `place` of the shorter one, or a half of it
record Whole (xs ys : List ℕ) (p i : ℕ) : Type 0 where
  place : ℕ
  fills : (f : Filled) → in_both p f i ≡ f place
  reaches : (c h : ℕ) → Contains xs c → Contains xs h → reach ys c h i ≡ reach xs c h place

module _ (xs : List ℕ) (q : ℕ) (ys : List ℕ) (rising : IsStrictlyIncreasing xs) (g : Gap xs q ys) where
  alike : (i j c h : ℕ) → get_or ys i 0 ≡ get_or xs j 0 → get_or ys (suc i) 0 ≡ get_or xs (suc j) 0 → reach ys c h i ≡ reach xs c h j
  alike i j c h e f = λ t. nat_le (2 * c) (e t + f t) && nat_lt (e t + f t) (2 * h)

  half : (i a b c h : ℕ) → get_or ys i 0 ≡ a → get_or ys (suc i) 0 ≡ b → get_or xs g.p 0 ≤ a → a < b → b ≤ get_or xs (suc g.p) 0 → Contains xs c → Contains xs h → reach ys c h i ≡ reach xs c h g.p
  half i a b c h e f u l v at_c at_h =
      (λ t. nat_le (2 * c) (e t + f t) && nat_lt (e t + f t) (2 * h))
      ∙ (λ t. le_half (get_or xs g.p 0) (get_or xs (suc g.p) 0) a b c u l v (outside xs rising g.p c g.within at_c) t
      && lt_half (get_or xs g.p 0) (get_or xs (suc g.p) 0) a b h u l v (outside xs rising g.p h g.within at_h) t)

  whole_before : (i : ℕ) → i < g.p → Whole xs ys g.p i
  whole_before i l = record {
    place = i;
    fills = λ f. both-up_to g.p f i (omega arith);
    reaches = λ c h at_c at_h. alike i i c h (line_up_to xs q ys g i (omega arith)) (line_up_to xs q ys g (suc i) l);
  }

  whole_first : Whole xs ys g.p g.p
  whole_first = record {
    place = g.p;
    fills = λ f. both-up_to g.p f g.p (omega arith);
    reaches = λ c h at_c at_h. half g.p (get_or xs g.p 0) q c h (line_up_to xs q ys g g.p (omega arith)) (line_new xs q ys g) (omega arith) g.low (omega (arith, g.high)) at_c at_h;
  }

  whole_second : Whole xs ys g.p (suc g.p)
  whole_second = record {
    place = g.p;
    fills = λ f. both-from g.p f g.p (omega arith);
    reaches = λ c h at_c at_h. half (suc g.p) q (get_or xs (suc g.p) 0) c h (line_new xs q ys g) (line_after xs q ys g (suc g.p) (omega arith)) (omega (arith, g.low)) g.high (omega arith) at_c at_h;
  }

  whole_after : (i : ℕ) → g.p < i → Whole xs ys g.p (suc i)
  whole_after i l = record {
    place = i;
    fills = λ f. both-from g.p f i (omega arith);
    reaches = λ c h at_c at_h. alike (suc i) i c h (line_after xs q ys g i l) (line_after xs q ys g (suc i) (omega arith));
  }

  whole : (i : ℕ) → Whole xs ys g.p i
  whole i = by_place i (below_or_not i g.p)
    where
      up_to : (i : ℕ) → (i ≡ g.p) ⊎ (i < g.p) → Whole xs ys g.p i
      up_to i (inl e) = subst (Whole xs ys g.p) (sym e) whole_first
      up_to i (inr l) = whole_before i l

      behind : (i : ℕ) → (g.p ≡ i) ⊎ (g.p < i) → Whole xs ys g.p (suc i)
      behind i (inl e) = subst (λ (t : ℕ). Whole xs ys g.p (suc t)) e whole_second
      behind i (inr l) = whole_after i l

      by_place : (i : ℕ) → (i ≤ g.p) ⊎ (g.p < i) → Whole xs ys g.p i
      by_place i (inl h) = up_to i (eq-or-lt_of_le h)
      by_place zero (inr h) = absurd (omega arith)
      by_place (suc i) (inr h) = behind i (eq-or-lt_of_le (omega arith))

-- two tests that agree on a list find the same there
pub find_cong : {A : Type 0} (f g : A → Bool) (xs : List A) → ((x : A) → Contains xs x → f x ≡ g x) → find f xs ≡ find g xs
find_cong f g [] h = refl
find_cong f g (x ∷ xs) h = λ t. cond (h x (0, omega arith, refl) t) (Some x) (find_cong f g xs (λ y at. h y (suc at.0, let l : at.0 < length xs = at.1 in omega arith, at.2)) t)

module _ (s : Scene) (r : Refinement) (refines : Refines s r) where
  half_reaches : (a : AxisName) (q : ℕ) (ys : List ℕ) (g : Gap (r.lines a) q ys) (i : ℕ) (b : SpaceBox) → Contains s.boxes b →
      reach ys (r.scale * low a b) (r.scale * high a b) i ≡ reach (r.lines a) (r.scale * low a b) (r.scale * high a b) (whole (r.lines a) q ys (refines.rising a) g i).place
  half_reaches a q ys g i b there = (whole (r.lines a) q ys (refines.rising a) g i).reaches (r.scale * low a b) (r.scale * high a b) (refines.has_lows a b there) (refines.has_highs a b there)

  halves_filled : (a : AxisName) (q : ℕ) (ys : List ℕ) (g : Gap (r.lines a) q ys) (i j k : ℕ) → occupant s (relined a ys r) i j k ≡ on_lines a (in_both g.p) (occupant s r) i j k
  halves_filled X q ys g i j k =
      let w : Whole (r.lines X) ys g.p i = whole (r.lines X) q ys (refines.rising X) g i in
      ap (option_map (λ b. b.content)) (find_cong (holds_middle (relined X ys r) i j k) (holds_middle r w.place j k) s.boxes
      (λ b there. λ t. half_reaches X q ys g i b there t && reaches_middle r b Y j && reaches_middle r b Z k))
      ∙ sym (w.fills (λ n. occupant s r n j k))
  halves_filled Y q ys g i j k =
      let w : Whole (r.lines Y) ys g.p j = whole (r.lines Y) q ys (refines.rising Y) g j in
      ap (option_map (λ b. b.content)) (find_cong (holds_middle (relined Y ys r) i j k) (holds_middle r i w.place k) s.boxes
      (λ b there. λ t. reaches_middle r b X i && half_reaches Y q ys g j b there t && reaches_middle r b Z k))
      ∙ sym (w.fills (λ n. occupant s r i n k))
  halves_filled Z q ys g i j k =
      let w : Whole (r.lines Z) ys g.p k = whole (r.lines Z) q ys (refines.rising Z) g k in
      ap (option_map (λ b. b.content)) (find_cong (holds_middle (relined Z ys r) i j k) (holds_middle r i j w.place) s.boxes
      (λ b there. λ t. reaches_middle r b X i && reaches_middle r b Y j && half_reaches Z q ys g k b there t))
      ∙ sym (w.fills (λ n. occupant s r i j n))

-- Widths --

-- a + b is cut in two at the ratio a/(a + b)
first_width : (a b k : ℕ) → 0 < a → ratio (pos a) k ≡ ratio (pos a) (a + b) *ℚ ratio (pos (a + b)) k
first_width a b k h = by_given {atoms = int (pos a) ∷ int (pos b) ∷ one_over (a + b) ∷ one_over k ∷ []} (search reading depth 20) (search reading depth 20)
    (given (int (pos 0) -ℚ int (pos a) *ℚ one_over k) (int (pos (a + b)) *ℚ one_over (a + b)) (int (pos 1)) (search reading depth 20) (search reading depth 20) (search reading) (one_over_cancel (a + b) (omega arith)) none) refl

second_width : (a b k : ℕ) → 0 < a → ratio (pos b) k ≡ rest (ratio (pos a) (a + b)) *ℚ ratio (pos (a + b)) k
second_width a b k h = by_given {atoms = int (pos a) ∷ int (pos b) ∷ one_over (a + b) ∷ one_over k ∷ []} (search reading depth 20) (search reading depth 20)
    (given (int (pos a) *ℚ one_over k) (int (pos (a + b)) *ℚ one_over (a + b)) (int (pos 1)) (search reading depth 20) (search reading depth 20) (search reading) (one_over_cancel (a + b) (omega arith)) none) refl

is_ratio : (a b : ℕ) → 0 < a → 0 < b → IsRatio (ratio (pos a) (a + b))
is_ratio a b h k = record {
  low = nonzero (ratio (pos a) (a + b)) (one_over a *ℚ int (pos (a + b)))
      (by_given {atoms = int (pos a) ∷ int (pos b) ∷ one_over a ∷ one_over (a + b) ∷ []} (search reading depth 20) (search reading)
      (given (int (pos a) *ℚ one_over a) (int (pos (a + b)) *ℚ one_over (a + b)) (int (pos 1)) (search reading depth 20) (search reading depth 20) (search reading) (one_over_cancel (a + b) (omega arith))
      (given (int (pos 1)) (int (pos a) *ℚ one_over a) (int (pos 1)) (search reading) (search reading depth 20) (search reading) (one_over_cancel a h) none)) refl);
  high = nonzero (rest (ratio (pos a) (a + b))) (one_over b *ℚ int (pos (a + b)))
      (by_given {atoms = int (pos a) ∷ int (pos b) ∷ one_over b ∷ one_over (a + b) ∷ []} (search reading depth 20) (search reading)
      (given (int (pos 0) -ℚ int (pos a) *ℚ one_over b) (int (pos (a + b)) *ℚ one_over (a + b)) (int (pos 1)) (search reading depth 20) (search reading depth 20) (search reading) (one_over_cancel (a + b) (omega arith))
      (given (int (pos 1)) (int (pos b) *ℚ one_over b) (int (pos 1)) (search reading) (search reading depth 20) (search reading) (one_over_cancel b k) none)) refl);
}

abbrev pub width_of : List ℕ → ℕ → ℕ → ℚ
width_of xs k i = ratio (pos (get_or xs (suc i) 0 - get_or xs i 0)) k

module _ (xs : List ℕ) (q : ℕ) (ys : List ℕ) (g : Gap xs q ys) where
  -- how far into its gap the new line stands
  abbrev pub gap_ratio : ℚ
  gap_ratio = ratio (pos (q - get_or xs g.p 0)) ((q - get_or xs g.p 0) + (get_or xs (suc g.p) 0 - q))

  pub gap_ratio_is : IsRatio gap_ratio
  gap_ratio_is = is_ratio (q - get_or xs g.p 0) (get_or xs (suc g.p) 0 - q) (omega (arith, g.low)) (omega (arith, g.high))

  pub parts_make : (q - get_or xs g.p 0) + (get_or xs (suc g.p) 0 - q) ≡ get_or xs (suc g.p) 0 - get_or xs g.p 0
  parts_make = omega (arith, g.low, g.high)

  between_lines : (k i a b : ℕ) → get_or ys i 0 ≡ a → get_or ys (suc i) 0 ≡ b → width_of ys k i ≡ ratio (pos (b - a)) k
  between_lines k i a b e f = λ t. ratio (pos (f t - e t)) k

  pub width_shared : (k i : ℕ) → width_of ys k i ≡ shared g.p gap_ratio (width_of xs k) i
  width_shared k i = by_place i (below_or_not i g.p)
    where
      first : width_of ys k g.p ≡ shared g.p gap_ratio (width_of xs k) g.p
      first = between_lines k g.p (get_or xs g.p 0) q (line_up_to xs q ys g g.p (omega arith)) (line_new xs q ys g)
          ∙ first_width (q - get_or xs g.p 0) (get_or xs (suc g.p) 0 - q) k (omega (arith, g.low))
          ∙ ap (λ (t : ℕ). gap_ratio *ℚ ratio (pos t) k) parts_make
          ∙ sym (shared-first g.p gap_ratio (width_of xs k))

      second : width_of ys k (suc g.p) ≡ shared g.p gap_ratio (width_of xs k) (suc g.p)
      second = between_lines k (suc g.p) q (get_or xs (suc g.p) 0) (line_new xs q ys g) (line_after xs q ys g (suc g.p) (omega arith))
          ∙ second_width (q - get_or xs g.p 0) (get_or xs (suc g.p) 0 - q) k (omega (arith, g.low))
          ∙ ap (λ (t : ℕ). rest gap_ratio *ℚ ratio (pos t) k) parts_make
          ∙ sym (shared-second g.p gap_ratio (width_of xs k))

      up_to : (i : ℕ) → (i ≡ g.p) ⊎ (i < g.p) → width_of ys k i ≡ shared g.p gap_ratio (width_of xs k) i
      up_to i (inl e) = subst (λ (t : ℕ). width_of ys k t ≡ shared g.p gap_ratio (width_of xs k) t) (sym e) first
      up_to i (inr l) = between_lines k i (get_or xs i 0) (get_or xs (suc i) 0) (line_up_to xs q ys g i (omega arith)) (line_up_to xs q ys g (suc i) l)
          ∙ sym (shared-before g.p gap_ratio (width_of xs k) i l)

      behind : (i : ℕ) → (g.p ≡ i) ⊎ (g.p < i) → width_of ys k (suc i) ≡ shared g.p gap_ratio (width_of xs k) (suc i)
      behind i (inl e) = subst (λ (t : ℕ). width_of ys k (suc t) ≡ shared g.p gap_ratio (width_of xs k) (suc t)) e second
      behind i (inr l) = between_lines k (suc i) (get_or xs i 0) (get_or xs (suc i) 0) (line_after xs q ys g i l) (line_after xs q ys g (suc i) (omega arith))
          ∙ sym (shared-after g.p gap_ratio (width_of xs k) i l)

      by_place : (i : ℕ) → (i ≤ g.p) ⊎ (g.p < i) → width_of ys k i ≡ shared g.p gap_ratio (width_of xs k) i
      by_place i (inl h) = up_to i (eq-or-lt_of_le h)
      by_place zero (inr h) = absurd (omega arith)
      by_place (suc i) (inr h) = behind i (eq-or-lt_of_le (omega arith))

  pub one_more : length ys - 1 ≡ suc (length xs - 1)
  one_more = omega (arith, g.longer, g.within)

-- The mesh --

module _ (s : Scene) (r : Refinement) (refines : Refines s r) (q : ℕ) (ys : List ℕ) where
  axis_cells : (a : AxisName) (g : Gap (r.lines a) q ys) (b : AxisName) → (mesh s (relined a ys r)).cells b ≡ (cut a g.p (gap_ratio (r.lines a) q ys g) (mesh s r)).cells b
  axis_cells X g X = one_more (r.lines X) q ys g
  axis_cells Y g Y = one_more (r.lines Y) q ys g
  axis_cells Z g Z = one_more (r.lines Z) q ys g
  axis_cells X g Y = refl
  axis_cells X g Z = refl
  axis_cells Y g X = refl
  axis_cells Y g Z = refl
  axis_cells Z g X = refl
  axis_cells Z g Y = refl

  axis_widths : (a : AxisName) (g : Gap (r.lines a) q ys) (b : AxisName) (i : ℕ) → (mesh s (relined a ys r)).width b i ≡ (cut a g.p (gap_ratio (r.lines a) q ys g) (mesh s r)).width b i
  axis_widths X g X i = width_shared (r.lines X) q ys g r.scale i
  axis_widths Y g Y i = width_shared (r.lines Y) q ys g r.scale i
  axis_widths Z g Z i = width_shared (r.lines Z) q ys g r.scale i
  axis_widths X g Y i = refl
  axis_widths X g Z i = refl
  axis_widths Y g X i = refl
  axis_widths Y g Z i = refl
  axis_widths Z g X i = refl
  axis_widths Z g Y i = refl

  pub mesh_cut : (a : AxisName) (g : Gap (r.lines a) q ys) → mesh s (relined a ys r) ≡ cut a g.p (gap_ratio (r.lines a) q ys g) (mesh s r)
  mesh_cut a g = λ t. record {
    cells = λ b. axis_cells a g b t;
    width = λ b i. axis_widths a g b i t;
    occupant = λ i j k. halves_filled s r refines a q ys g i j k t;
    conductivity = s.conductivity;
  }
