-- Places before and after a cut of an axis.
use mathlib.Core.Path.{◌≡◌, refl, sym, ap, ◌∙◌, subst}
use mathlib.Core.Logic.{◌⊎◌, inl, inr}
use Prim.Native.Nat.{ℕ, zero, suc, ◌+◌, ◌<◌, ◌≤◌}
use native.Mathlib.Omega.{arith}
use Rattle.std.specs.Prelude.{◌≢◌, Bool, if◌then◌else◌}
use Rattle.std.proofs.Math.Nat.{eq-or-lt_of_le}
use Rattle.std.proofs.lemmas.Bool.{lt-ltb, le-ltb}
use Rattle.tb_places.specs.declared.AxisName.{AxisName}
use Rattle.tb_places.specs.declared.AxisName.TheVariants.{X, Y, Z}
use Rattle.tb_places.specs.Cuts.{in_both, cut_counts, moved}
use Rattle.tb_places.specs.declared.Place.{Place}
use Rattle.tb_places.specs.Places.{Counts, IsCell, IsNode, IsFace, IsEdge}
use Rattle.tb_places.proofs.CutLines.{both-up_to, both-from}
use Rattle.tb_grid.specs.Cuts.{moved_place}
use Rattle.tb_places.specs.Places.{place_at}
use Rattle.tb_places.specs.Along.{ahead, index_along}

-- Indexes --

below_or_not : (i p : ℕ) → (i ≤ p) ⊎ (p < i)
below_or_not i p = grind arith

pub moved-up_to : (p i : ℕ) → i ≤ p → moved p i ≡ i
moved-up_to p i h = ap (λ (b : Bool). if b then suc i else i) (le-ltb p i h)

pub moved-behind : (p i : ℕ) → p < i → moved p i ≡ suc i
moved-behind p i h = ap (λ (b : Bool). if b then suc i else i) (lt-ltb p i h)

moved_below : (p i n : ℕ) → i < n → moved p i < suc n
moved_below p i n h = by_place (below_or_not i p)
  where
    by_place : (i ≤ p) ⊎ (p < i) → moved p i < suc n
    by_place (inl l) = subst (λ (t : ℕ). t < suc n) (sym (moved-up_to p i l)) (omega arith)
    by_place (inr l) = subst (λ (t : ℕ). t < suc n) (sym (moved-behind p i l)) (omega arith)

moved_at_most : (p i n : ℕ) → i ≤ n → moved p i ≤ suc n
moved_at_most p i n h = by_place (below_or_not i p)
  where
    by_place : (i ≤ p) ⊎ (p < i) → moved p i ≤ suc n
    by_place (inl l) = subst (λ (t : ℕ). t ≤ suc n) (sym (moved-up_to p i l)) (omega arith)
    by_place (inr l) = subst (λ (t : ℕ). t ≤ suc n) (sym (moved-behind p i l)) (omega arith)

moved_apart : (p i j : ℕ) → moved p i ≡ moved p j → i ≡ j
moved_apart p i j e = by_places (below_or_not i p) (below_or_not j p)
  where
    same : (u v : ℕ) → moved p i ≡ u → moved p j ≡ v → u ≡ v
    same u v f g = sym f ∙ e ∙ g

    by_places : (i ≤ p) ⊎ (p < i) → (j ≤ p) ⊎ (p < j) → i ≡ j
    by_places (inl l) (inl m) = same i j (moved-up_to p i l) (moved-up_to p j m)
    by_places (inl l) (inr m) = let s : i ≡ suc j = same i (suc j) (moved-up_to p i l) (moved-behind p j m) in absurd (omega arith)
    by_places (inr l) (inl m) = let s : suc i ≡ j = same (suc i) j (moved-behind p i l) (moved-up_to p j m) in absurd (omega arith)
    by_places (inr l) (inr m) = let s : suc i ≡ suc j = same (suc i) (suc j) (moved-behind p i l) (moved-behind p j m) in omega arith

-- an index after the cut that isn't new is that of an interval, or of a plane, before it
record OldIndex (p i : ℕ) : Type 0 where
  old : ℕ
  is : moved p old ≡ i
  below : (n : ℕ) → p < n → i < suc n → old < n
  at_most : (n : ℕ) → p < n → i ≤ suc n → old ≤ n

old_index : (p i : ℕ) → (i ≡ p + 1) ⊎ OldIndex p i
old_index p i = by_place i (below_or_not i p)
  where
    behind : (j : ℕ) → (p ≡ j) ⊎ (p < j) → (suc j ≡ p + 1) ⊎ OldIndex p (suc j)
    behind j (inl e) = inl (omega arith)
    behind j (inr l) = inr (record { old = j; is = moved-behind p j l; below = λ n h k. omega arith; at_most = λ n h k. omega arith })

    by_place : (i : ℕ) → (i ≤ p) ⊎ (p < i) → (i ≡ p + 1) ⊎ OldIndex p i
    by_place i (inl l) = inr (record { old = i; is = moved-up_to p i l; below = λ n h k. omega arith; at_most = λ n h k. omega arith })
    by_place zero (inr l) = absurd (omega arith)
    by_place (suc j) (inr l) = behind j (eq-or-lt_of_le (omega arith))

-- Lists --

pub list_moved : (p i : ℕ) (f : ℕ → ℕ) → in_both p f (moved p i) ≡ f i
list_moved p i f = by_place (below_or_not i p)
  where
    by_place : (i ≤ p) ⊎ (p < i) → in_both p f (moved p i) ≡ f i
    by_place (inl l) = ap (in_both p f) (moved-up_to p i l) ∙ both-up_to p f i l
    by_place (inr l) = ap (in_both p f) (moved-behind p i l) ∙ both-from p f i (omega arith)

pub list_second : (p : ℕ) (f : ℕ → ℕ) → in_both p f (p + 1) ≡ f p
list_second p f = ap (in_both p f) (next p) ∙ both-from p f p (omega arith)
  where
    next : (p : ℕ) → p + 1 ≡ suc p
    next p = omega arith

-- Places --

pub moved_is_cell : (a : AxisName) (p : ℕ) (n : Counts) (q : Place) → IsCell n q → let r = moved_place a p q in IsCell (cut_counts a n) r
moved_is_cell X p n q (x, y, z) = (moved_below p q.i (n X) x, y, z)
moved_is_cell Y p n q (x, y, z) = (x, moved_below p q.j (n Y) y, z)
moved_is_cell Z p n q (x, y, z) = (x, y, moved_below p q.k (n Z) z)

pub moved_is_node : (a : AxisName) (p : ℕ) (n : Counts) (q : Place) → IsNode n q → let r = moved_place a p q in IsNode (cut_counts a n) r
moved_is_node X p n q (x, y, z) = (moved_at_most p q.i (n X) x, y, z)
moved_is_node Y p n q (x, y, z) = (x, moved_at_most p q.j (n Y) y, z)
moved_is_node Z p n q (x, y, z) = (x, y, moved_at_most p q.k (n Z) z)

pub moved_is_face : (a : AxisName) (p : ℕ) (n : Counts) (b : AxisName) (q : Place) → IsFace n b q → let r = moved_place a p q in IsFace (cut_counts a n) b r
moved_is_face X p n X q (x, y, z) = (moved_at_most p q.i (n X) x, y, z)
moved_is_face X p n Y q (x, y, z) = (moved_below p q.i (n X) x, y, z)
moved_is_face X p n Z q (x, y, z) = (moved_below p q.i (n X) x, y, z)
moved_is_face Y p n X q (x, y, z) = (x, moved_below p q.j (n Y) y, z)
moved_is_face Y p n Y q (x, y, z) = (x, moved_at_most p q.j (n Y) y, z)
moved_is_face Y p n Z q (x, y, z) = (x, moved_below p q.j (n Y) y, z)
moved_is_face Z p n X q (x, y, z) = (x, y, moved_below p q.k (n Z) z)
moved_is_face Z p n Y q (x, y, z) = (x, y, moved_below p q.k (n Z) z)
moved_is_face Z p n Z q (x, y, z) = (x, y, moved_at_most p q.k (n Z) z)

pub moved_is_edge : (a : AxisName) (p : ℕ) (n : Counts) (b : AxisName) (q : Place) → IsEdge n b q → let r = moved_place a p q in IsEdge (cut_counts a n) b r
moved_is_edge X p n X q (x, y, z) = (moved_below p q.i (n X) x, y, z)
moved_is_edge X p n Y q (x, y, z) = (moved_at_most p q.i (n X) x, y, z)
moved_is_edge X p n Z q (x, y, z) = (moved_at_most p q.i (n X) x, y, z)
moved_is_edge Y p n X q (x, y, z) = (x, moved_at_most p q.j (n Y) y, z)
moved_is_edge Y p n Y q (x, y, z) = (x, moved_below p q.j (n Y) y, z)
moved_is_edge Y p n Z q (x, y, z) = (x, moved_at_most p q.j (n Y) y, z)
moved_is_edge Z p n X q (x, y, z) = (x, y, moved_at_most p q.k (n Z) z)
moved_is_edge Z p n Y q (x, y, z) = (x, y, moved_at_most p q.k (n Z) z)
moved_is_edge Z p n Z q (x, y, z) = (x, y, moved_below p q.k (n Z) z)

-- a place after the cut that isn't new has one before it
pub record OldPlace (a : AxisName) (p : ℕ) (q : Place) : Type 0 where
  pub old : Place
  pub is : moved_place a p old ≡ q
  pub cell : (n : Counts) → p < n a → IsCell (cut_counts a n) q → IsCell n old
  pub node : (n : Counts) → p < n a → IsNode (cut_counts a n) q → IsNode n old
  pub face : (n : Counts) (b : AxisName) → p < n a → IsFace (cut_counts a n) b q → IsFace n b old
  pub edge : (n : Counts) (b : AxisName) → p < n a → IsEdge (cut_counts a n) b q → IsEdge n b old

on_x : (p : ℕ) (q : Place) → (q.i ≡ p + 1) ⊎ OldIndex p q.i → (index_along X q ≡ p + 1) ⊎ OldPlace X p q
on_x p q (inl e) = inl e
on_x p q (inr o) = inr (record {
  old = old;
  is = ap placed o.is;
  cell = λ n l within. of_cell n l within;
  node = λ n l within. of_node n l within;
  face = of_face;
  edge = of_edge;
})
  where
    old : Place
    old = record { i = o.old; j = q.j; k = q.k }

    placed : ℕ → Place
    placed t = record { i = t; j = q.j; k = q.k }

    of_cell : (n : Counts) → p < n X → IsCell (cut_counts X n) q → IsCell n (place_at o.old q.j q.k)
    of_cell n l (x, y, z) = (o.below (n X) l x, y, z)

    of_node : (n : Counts) → p < n X → IsNode (cut_counts X n) q → IsNode n (place_at o.old q.j q.k)
    of_node n l (x, y, z) = (o.at_most (n X) l x, y, z)

    of_face : (n : Counts) (b : AxisName) → p < n X → IsFace (cut_counts X n) b q → IsFace n b (place_at o.old q.j q.k)
    of_face n X l (x, y, z) = (o.at_most (n X) l x, y, z)
    of_face n Y l (x, y, z) = (o.below (n X) l x, y, z)
    of_face n Z l (x, y, z) = (o.below (n X) l x, y, z)

    of_edge : (n : Counts) (b : AxisName) → p < n X → IsEdge (cut_counts X n) b q → IsEdge n b (place_at o.old q.j q.k)
    of_edge n X l (x, y, z) = (o.below (n X) l x, y, z)
    of_edge n Y l (x, y, z) = (o.at_most (n X) l x, y, z)
    of_edge n Z l (x, y, z) = (o.at_most (n X) l x, y, z)

on_y : (p : ℕ) (q : Place) → (q.j ≡ p + 1) ⊎ OldIndex p q.j → (index_along Y q ≡ p + 1) ⊎ OldPlace Y p q
on_y p q (inl e) = inl e
on_y p q (inr o) = inr (record {
  old = old;
  is = ap placed o.is;
  cell = λ n l within. of_cell n l within;
  node = λ n l within. of_node n l within;
  face = of_face;
  edge = of_edge;
})
  where
    old : Place
    old = record { i = q.i; j = o.old; k = q.k }

    placed : ℕ → Place
    placed t = record { i = q.i; j = t; k = q.k }

    of_cell : (n : Counts) → p < n Y → IsCell (cut_counts Y n) q → IsCell n (place_at q.i o.old q.k)
    of_cell n l (x, y, z) = (x, o.below (n Y) l y, z)

    of_node : (n : Counts) → p < n Y → IsNode (cut_counts Y n) q → IsNode n (place_at q.i o.old q.k)
    of_node n l (x, y, z) = (x, o.at_most (n Y) l y, z)

    of_face : (n : Counts) (b : AxisName) → p < n Y → IsFace (cut_counts Y n) b q → IsFace n b (place_at q.i o.old q.k)
    of_face n X l (x, y, z) = (x, o.below (n Y) l y, z)
    of_face n Y l (x, y, z) = (x, o.at_most (n Y) l y, z)
    of_face n Z l (x, y, z) = (x, o.below (n Y) l y, z)

    of_edge : (n : Counts) (b : AxisName) → p < n Y → IsEdge (cut_counts Y n) b q → IsEdge n b (place_at q.i o.old q.k)
    of_edge n X l (x, y, z) = (x, o.at_most (n Y) l y, z)
    of_edge n Y l (x, y, z) = (x, o.below (n Y) l y, z)
    of_edge n Z l (x, y, z) = (x, o.at_most (n Y) l y, z)

on_z : (p : ℕ) (q : Place) → (q.k ≡ p + 1) ⊎ OldIndex p q.k → (index_along Z q ≡ p + 1) ⊎ OldPlace Z p q
on_z p q (inl e) = inl e
on_z p q (inr o) = inr (record {
  old = old;
  is = ap placed o.is;
  cell = λ n l within. of_cell n l within;
  node = λ n l within. of_node n l within;
  face = of_face;
  edge = of_edge;
})
  where
    old : Place
    old = record { i = q.i; j = q.j; k = o.old }

    placed : ℕ → Place
    placed t = record { i = q.i; j = q.j; k = t }

    of_cell : (n : Counts) → p < n Z → IsCell (cut_counts Z n) q → IsCell n (place_at q.i q.j o.old)
    of_cell n l (x, y, z) = (x, y, o.below (n Z) l z)

    of_node : (n : Counts) → p < n Z → IsNode (cut_counts Z n) q → IsNode n (place_at q.i q.j o.old)
    of_node n l (x, y, z) = (x, y, o.at_most (n Z) l z)

    of_face : (n : Counts) (b : AxisName) → p < n Z → IsFace (cut_counts Z n) b q → IsFace n b (place_at q.i q.j o.old)
    of_face n X l (x, y, z) = (x, y, o.below (n Z) l z)
    of_face n Y l (x, y, z) = (x, y, o.below (n Z) l z)
    of_face n Z l (x, y, z) = (x, y, o.at_most (n Z) l z)

    of_edge : (n : Counts) (b : AxisName) → p < n Z → IsEdge (cut_counts Z n) b q → IsEdge n b (place_at q.i q.j o.old)
    of_edge n X l (x, y, z) = (x, y, o.at_most (n Z) l z)
    of_edge n Y l (x, y, z) = (x, y, o.at_most (n Z) l z)
    of_edge n Z l (x, y, z) = (x, y, o.below (n Z) l z)

pub old_place : (a : AxisName) (p : ℕ) (q : Place) → (index_along a q ≡ p + 1) ⊎ OldPlace a p q
old_place X p q = on_x p q (old_index p q.i)
old_place Y p q = on_y p q (old_index p q.j)
old_place Z p q = on_z p q (old_index p q.k)

pub moved_place-apart : (a : AxisName) (p : ℕ) (q r : Place) → moved_place a p q ≡ moved_place a p r → q ≡ r
moved_place-apart X p q r e = λ t. record { i = moved_apart p q.i r.i (ap (λ (u : Place). u.i) e) t; j = ap (λ (u : Place). u.j) e t; k = ap (λ (u : Place). u.k) e t }
moved_place-apart Y p q r e = λ t. record { i = ap (λ (u : Place). u.i) e t; j = moved_apart p q.j r.j (ap (λ (u : Place). u.j) e) t; k = ap (λ (u : Place). u.k) e t }
moved_place-apart Z p q r e = λ t. record { i = ap (λ (u : Place). u.i) e t; j = ap (λ (u : Place). u.j) e t; k = moved_apart p q.k r.k (ap (λ (u : Place). u.k) e) t }

-- Steps --

pub second_within : (a : AxisName) (n : Counts) (q : Place) → IsCell n q → index_along a q + 1 < cut_counts a n a
second_within X n q (x, y, z) = omega arith
second_within Y n q (x, y, z) = omega arith
second_within Z n q (x, y, z) = omega arith

pub high_is_face : (n : Counts) (a : AxisName) (q : Place) → IsCell n q → let r = ahead a 1 q in IsFace n a r
high_is_face n X q (x, y, z) = (omega arith, y, z)
high_is_face n Y q (x, y, z) = (x, omega arith, z)
high_is_face n Z q (x, y, z) = (x, y, omega arith)

-- the first part of an interval stays where it was
pub first_part : (a : AxisName) (p : ℕ) (q : Place) → index_along a q ≡ p → moved_place a p q ≡ q
first_part X p q e = λ t. record { i = moved-up_to p q.i (omega (arith, e)) t; j = q.j; k = q.k }
first_part Y p q e = λ t. record { i = q.i; j = moved-up_to p q.j (omega (arith, e)) t; k = q.k }
first_part Z p q e = λ t. record { i = q.i; j = q.j; k = moved-up_to p q.k (omega (arith, e)) t }

pub ahead_along : (a b : AxisName) (p : ℕ) (q : Place) → b ≢ a → ahead b 1 (moved_place a p q) ≡ moved_place a p (ahead b 1 q)
ahead_along X X p q h = absurd (h refl)
ahead_along X Y p q h = refl
ahead_along X Z p q h = refl
ahead_along Y X p q h = refl
ahead_along Y Y p q h = absurd (h refl)
ahead_along Y Z p q h = refl
ahead_along Z X p q h = refl
ahead_along Z Y p q h = refl
ahead_along Z Z p q h = absurd (h refl)

next_moved : (p i : ℕ) → i ≢ p → moved p i + 1 ≡ moved p (i + 1)
next_moved p i other = by_place (below_or_not i p)
  where
    up_to : (i ≡ p) ⊎ (i < p) → moved p i + 1 ≡ moved p (i + 1)
    up_to (inl e) = absurd (other e)
    up_to (inr l) = ap (λ (t : ℕ). t + 1) (moved-up_to p i (omega arith)) ∙ sym (moved-up_to p (i + 1) (omega arith))

    by_place : (i ≤ p) ⊎ (p < i) → moved p i + 1 ≡ moved p (i + 1)
    by_place (inl l) = up_to (eq-or-lt_of_le l)
    by_place (inr l) = ap (λ (t : ℕ). t + 1) (moved-behind p i l) ∙ same i ∙ sym (moved-behind p (i + 1) (omega arith))
      where
        same : (i : ℕ) → suc i + 1 ≡ suc (i + 1)
        same i = omega arith

pub ahead_across : (a : AxisName) (p : ℕ) (q : Place) → index_along a q ≢ p → ahead a 1 (moved_place a p q) ≡ moved_place a p (ahead a 1 q)
ahead_across X p q h = λ t. record { i = next_moved p q.i h t; j = q.j; k = q.k }
ahead_across Y p q h = λ t. record { i = q.i; j = next_moved p q.j h t; k = q.k }
ahead_across Z p q h = λ t. record { i = q.i; j = q.j; k = next_moved p q.k h t }

behind_second : (p i : ℕ) → i ≡ p → i + 1 + 1 ≡ moved p (i + 1)
behind_second p i e = same i ∙ sym (moved-behind p (i + 1) (omega (arith, e)))
  where
    same : (i : ℕ) → i + 1 + 1 ≡ suc (i + 1)
    same i = omega arith

-- what is behind the second part was behind the whole
pub behind_both : (a : AxisName) (p : ℕ) (q : Place) → index_along a q ≡ p → ahead a 1 (ahead a 1 q) ≡ moved_place a p (ahead a 1 q)
behind_both X p q e = λ t. record { i = behind_second p q.i e t; j = q.j; k = q.k }
behind_both Y p q e = λ t. record { i = q.i; j = behind_second p q.j e t; k = q.k }
behind_both Z p q e = λ t. record { i = q.i; j = q.j; k = behind_second p q.k e t }
