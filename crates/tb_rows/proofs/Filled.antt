-- What fills the cells of a grid that carries a body, and what lies at their sides.
use Rattle.std.proofs.Common.{◌≡◌, refl, sym, subst, ap, ◌∙◌, ℕ, zero, suc, ◌-◌, ◌<◌, ◌≤◌, List, [], ◌∷◌, get_or, length, map, Option, Some, None, Bool, true, false, cond, arith}
use Rattle.std.specs.Prelude.{IfSome, nat_lt, if◌then◌else◌}
use Rattle.std.specs.List.{All, find}
use Rattle.std.specs.Option.{option_map}
use Rattle.std.proofs.lemmas.List.Elements.{All-head, All-tail}
use Rattle.tb_places.specs.declared.AxisName.{AxisName}
use Rattle.tb_places.specs.declared.AxisName.TheVariants.{X, Y, Z}
use Rattle.tb_places.specs.declared.Place.{Place}
use Rattle.tb_places.specs.Places.{along, place_at}
use Rattle.tb_detail.specs.declared.Content.{Content}
use Rattle.tb_detail.specs.declared.Content.TheVariants as content
use Rattle.tb_detail.specs.declared.Detail.{Detail}
use Rattle.tb_detail.specs.declared.Material.{Material}
use Rattle.tb_detail.specs.declared.SpaceBox.{SpaceBox}
use Rattle.tb_detail.specs.declared.quantity.Quantity.TheVariants.{Conductivity}
use Rattle.tb_detail.specs.Limits.{BoxInLimits, ContentInLimits, InLimits}
use Rattle.tb_detail.specs.Quantities.{IsInRange}
use Rattle.tb_grid.specs.Grid.{Axes, counts_of}
use Rattle.tb_model.specs.Mesh.{above, below}
use Rattle.tb_model.specs.Refinement.{holds_middle}
use Rattle.tb_terms.specs.Limits.{IsConductivity}
use Rattle.tb_geometry.specs.Bodies.{filled_with}
use Rattle.tb_geometry.specs.Grids.{LiesInBaseCell, mesh_on, occupant_at, refinement_of}
use Rattle.tb_geometry.specs.declared.occupant.Occupant.{Occupant}
use Rattle.tb_geometry.specs.declared.occupant.Occupant.TheVariants.{Solid, Air}
use Rattle.tb_rows.specs.Around.{IsBaseAbove, IsBaseBelow, LiesIn, filled_above, filled_below}
use Rattle.tb_rows.specs.Filled.{IsFilled}
use Rattle.tb_rows.proofs.Grids.{counts_are}
use Rattle.tb_rows.proofs.Reordering.{above_end, above_within}

-- ---- within limits
abbrev IsKnown : Detail → Content → Type 0
IsKnown d c = ContentInLimits d c

found_known : (d : Detail) (p : SpaceBox → Bool) (boxes : List SpaceBox) → All (BoxInLimits d) boxes →
    IfSome (option_map (λ b. b.content) (find p boxes)) (IsKnown d)
found_known d p [] h = tt
found_known d p (b ∷ boxes) h = by_test (p b) (found_known d p boxes (All-tail (BoxInLimits d) b boxes h))
  where
    by_test : (t : Bool) → IfSome (option_map (λ b. b.content) (find p boxes)) (IsKnown d) → IfSome (option_map (λ b. b.content) (cond t (Some b) (find p boxes))) (IsKnown d)
    by_test true rest = (All-head (BoxInLimits d) b boxes h).content
    by_test false rest = rest

known_at : (d : Detail) (g : Axes) → InLimits d → (i j k : ℕ) → IfSome ((mesh_on d g).occupant i j k) (IsKnown d)
known_at d g limits i j k = found_known d (holds_middle (refinement_of g) i j k) d.boxes limits.boxes

conducts : (materials : List Material) → All (λ m. IsInRange Conductivity m.lambda) materials → (n : ℕ) → n < length materials →
    IsConductivity (get_or (map (λ m. m.lambda) materials) n 0)
conducts [] each n within = absurd (omega arith)
conducts (m ∷ ms) each zero within =
    let here = each 0 m (omega arith) in let low : 1 ≤ m.lambda = here.low in record { above_zero = omega arith; at_most = here.high }
conducts (m ∷ ms) each (suc n) within = conducts ms (λ k e h. each (suc k) e (omega arith)) n (omega arith)

solid_fits : (x : ℕ) → IsConductivity x → IsFilled (Solid x)
solid_fits x h = record { conducts = λ l e. subst (λ (n : ℕ). IsConductivity n) (same l e) h; resists = λ n r e. absurd (other n r e) }
  where
    same : (l : ℕ) → Solid x ≡ Solid l → x ≡ l
    same l e = cc

    other : (n r : ℕ) → Solid x ≡ Air n r → ⊥
    other n r e = cc

fits_if_known : (d : Detail) → InLimits d → (o : Option Content) → IfSome o (IsKnown d) → IfSome (option_map (filled_with d.materials) o) IsFilled
fits_if_known d limits None h = tt
fits_if_known d limits (Some (content.Solid m)) h = solid_fits (get_or (map (λ n. n.lambda) d.materials) m 0) (conducts d.materials limits.conductivities m h)
fits_if_known d limits (Some (content.Air e rs)) h = record {
  conducts = λ l is. absurd (other l is);
  resists = λ n r is. let s = same n r is in let low : 1 ≤ rs = h.1.low in let high = h.1.high in record { above_zero = omega arith; at_most = subst (λ (q : ℕ). q ≤ 100000) s high };
}
  where
    other : (l : ℕ) → Air e rs ≡ Solid l → ⊥
    other l is = cc

    same : (n r : ℕ) → Air e rs ≡ Air n r → rs ≡ r
    same n r is = cc

pub occupant_fits : (d : Detail) (g : Axes) → InLimits d → (p : Place) (o : Option Occupant) → o ≡ occupant_at d g p → IfSome o IsFilled
occupant_fits d g limits p o is = subst (λ (r : Option Occupant). IfSome r IsFilled) (sym is) (fits_if_known d limits ((mesh_on d g).occupant p.i p.j p.k) (known_at d g limits p.i p.j p.k))

known_along : (d : Detail) (g : Axes) → InLimits d → (a : AxisName) (i j k : ℕ) → IfSome (along a (mesh_on d g).occupant i j k) (IsKnown d)
known_along d g limits X i j k = known_at d g limits i j k
known_along d g limits Y i j k = known_at d g limits j i k
known_along d g limits Z i j k = known_at d g limits j k i

known_below : (d : Detail) (f : ℕ → Option Content) → ((n : ℕ) → IfSome (f n) (IsKnown d)) → (i : ℕ) → IfSome (below f i) (IsKnown d)
known_below d f h zero = tt
known_below d f h (suc i) = h i

known_above : (d : Detail) (f : ℕ → Option Content) → ((n : ℕ) → IfSome (f n) (IsKnown d)) → (n i : ℕ) → IfSome (above n f i) (IsKnown d)
known_above d f h n i = by_test (nat_lt i n)
  where
    by_test : (b : Bool) → IfSome (if b then f i else None) (IsKnown d)
    by_test true = h i
    by_test false = tt

pub below_fits : (d : Detail) (g : Axes) → InLimits d → (a : AxisName) (i j k : ℕ) (o : Option Occupant) → o ≡ filled_below d g a i j k → IfSome o IsFilled
below_fits d g limits a i j k o is =
    subst (λ (r : Option Occupant). IfSome r IsFilled) (sym is)
    (fits_if_known d limits (below (λ n. along a (mesh_on d g).occupant n j k) i) (known_below d (λ n. along a (mesh_on d g).occupant n j k) (λ n. known_along d g limits a n j k) i))

pub above_fits : (d : Detail) (g : Axes) → InLimits d → (a : AxisName) (i j k : ℕ) (o : Option Occupant) → o ≡ filled_above d g a i j k → IfSome o IsFilled
above_fits d g limits a i j k o is =
    subst (λ (r : Option Occupant). IfSome r IsFilled) (sym is)
    (fits_if_known d limits (above ((mesh_on d g).cells a) (λ n. along a (mesh_on d g).occupant n j k) i)
    (known_above d (λ n. along a (mesh_on d g).occupant n j k) (λ n. known_along d g limits a n j k) ((mesh_on d g).cells a) i))

-- ---- at the sides
pub below_pred : (f : ℕ → Option Content) (i : ℕ) → 0 < i → below f i ≡ f (i - 1)
below_pred f zero l = absurd (omega arith)
below_pred f (suc i) l = ap f (back i)
  where
    back : (i : ℕ) → i ≡ suc i - 1
    back i = omega arith

pub low_side : (d : Detail) (g : Axes) (a : AxisName) (i j k : ℕ) (q : Option ℕ) (r : Option Occupant) → IsBaseBelow d g a i q → (q ≡ None → r ≡ None) →
    ((s : ℕ) → q ≡ Some s → 0 < i → LiesIn d g a (i - 1) s → r ≡ option_map (filled_with d.materials) (along a (mesh_on d g).occupant (i - 1) j k)) →
    r ≡ filled_below d g a i j k
low_side d g a i j k None r at none some = none refl ∙ sym (ap (λ (n : ℕ). filled_below d g a n j k) at)
low_side d g a i j k (Some s) r at none some =
    some s refl at.0 at.1 ∙ ap (option_map (filled_with d.materials)) (sym (below_pred (λ n. along a (mesh_on d g).occupant n j k) i at.0))

pub high_side : (d : Detail) (g : Axes) (a : AxisName) (i j k : ℕ) (q : Option ℕ) (r : Option Occupant) → IsBaseAbove d g a i q → (q ≡ None → r ≡ None) →
    ((s : ℕ) → q ≡ Some s → i < counts_of g a → LiesIn d g a i s → r ≡ option_map (filled_with d.materials) (along a (mesh_on d g).occupant i j k)) →
    r ≡ filled_above d g a i j k
high_side d g a i j k None r at none some =
    let e : i ≡ (mesh_on d g).cells a = at ∙ counts_are g a in
    none refl ∙ sym (ap (λ (n : ℕ). filled_above d g a n j k) e
    ∙ ap (option_map (filled_with d.materials)) (above_end ((mesh_on d g).cells a) (λ n. along a (mesh_on d g).occupant n j k)))
high_side d g a i j k (Some s) r at none some =
    let l : i < (mesh_on d g).cells a = subst (λ (n : ℕ). i < n) (counts_are g a) at.0 in
    some s refl at.0 at.1 ∙ ap (option_map (filled_with d.materials)) (sym (above_within ((mesh_on d g).cells a) i (λ n. along a (mesh_on d g).occupant n j k) l))

pub lies_at : (d : Detail) (g : Axes) (i j k p q r : ℕ) → LiesIn d g X i p → LiesIn d g Y j q → LiesIn d g Z k r →
    LiesInBaseCell d.boxes g (place_at i j k) (place_at p q r)
lies_at d g i j k p q r x y z X = x
lies_at d g i j k p q r x y z Y = y
lies_at d g i j k p q r x y z Z = z

pub lies_same : (d : Detail) (g : Axes) (c : Place) (i j k p q r : ℕ) → p ≡ i → q ≡ j → r ≡ k → LiesInBaseCell d.boxes g c (place_at i j k) →
    LiesInBaseCell d.boxes g c (place_at p q r)
lies_same d g c i j k p q r ei ej ek lies =
    subst (λ (n : ℕ). LiesInBaseCell d.boxes g c (place_at n q r)) (sym ei)
    (subst (λ (n : ℕ). LiesInBaseCell d.boxes g c (place_at i n r)) (sym ej)
    (subst (λ (n : ℕ). LiesInBaseCell d.boxes g c (place_at i j n)) (sym ek) lies))

pub some_injective : {A : Type 0} (x y : A) → Some x ≡ Some y → x ≡ y
some_injective x y e = cc
