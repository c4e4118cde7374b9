-- Fields and fluxes are carried from a refinement to any with more lines, and so to the merge of two.
use mathlib.Core.Path.{◌≡◌, refl, ap, ◌∙◌, sym, subst}
use mathlib.Core.Logic.{◌⊎◌, inl, inr}
use mathlib.Core.List.{List, [], ◌∷◌}
use Prim.Native.Nat.{ℕ, ◌*◌, ◌<◌, ◌≤◌}
use native.Mathlib.Omega.{arith}
use lib.ListN.{get_or, length}
use Rattle.std.specs.Prelude.{Any}
use Rattle.std.specs.List.{Contains}
use Rattle.std.specs.List.Sorted.{IsStrictlyIncreasing}
use Rattle.std.proofs.lemmas.List.{get_or_default}
use Rattle.std.proofs.lemmas.List.Kept.{AllPairs-from_increasing}
use Rattle.std.proofs.Math.Nat.{eq-or-lt_of_le}
use Rattle.tb_places.specs.declared.AxisName.{AxisName}
use Rattle.tb_places.specs.declared.AxisName.TheVariants.{X, Y, Z}
use Rattle.tb_model.specs.Mesh.{Mesh}
use Rattle.tb_model.specs.Refinement.{Scene, Refinement, Refines, low, high, mesh}
use Rattle.tb_math.specs.Rational.{ℚ}
use Rattle.tb_places.specs.Cuts.{on_axis}
use Rattle.tb_model.specs.Cuts.{IsRatio, cut, cut_field, cut_flux}
use Rattle.tb_places.specs.Lines.{with_line}
use Rattle.tb_model.specs.Merges.{with_lines, relined, rescaled, joined, merged, Carries}
use Rattle.tb_cuts.proofs.CutFields.{energy_kept}
use Rattle.tb_cuts.proofs.CutFluxes.{bound_kept}
use Rattle.tb_cuts.proofs.CutBalance.{balance_kept}
use Rattle.tb_cuts.proofs.InsertedLines.{Gap, Located, located_from, rising_still, contains_still, contains_from}
use Rattle.tb_places.proofs.Lines.{contains_first, contains_later}
use Rattle.tb_cuts.proofs.JoinedLines.{with_lines-old, with_lines-new, with_lines-cases, rising_unique}
use Rattle.tb_cuts.proofs.CutMeshes.{gap_ratio, gap_ratio_is, mesh_cut}
use Rattle.tb_cuts.proofs.Rescaling.{mesh_rescaled, refines_rescaled}

-- Carrying --

pub carries_itself : (m : Mesh) → Carries m m
carries_itself m = record {
  field = λ T. T;
  field_same = λ inside T. refl;
  flux = λ q. q;
  flux_balanced = λ q b. b;
  flux_same = λ inside q. refl;
}

pub carries_on : (m m' m'' : Mesh) → Carries m m' → Carries m' m'' → Carries m m''
carries_on m m' m'' c d = record {
  field = λ T. d.field (c.field T);
  field_same = λ inside T. d.field_same inside (c.field T) ∙ c.field_same inside T;
  flux = λ q. d.flux (c.flux q);
  flux_balanced = λ q b. d.flux_balanced (c.flux q) (c.flux_balanced q b);
  flux_same = λ inside q. d.flux_same inside (c.flux q) ∙ c.flux_same inside q;
}

pub cut_carries : (a : AxisName) (p : ℕ) (s : ℚ) (m : Mesh) → p < m.cells a → IsRatio s → Carries m (cut a p s m)
cut_carries a p s m l r = record {
  field = cut_field a p s;
  field_same = λ inside T. energy_kept a p s m inside T l r;
  flux = cut_flux a p s;
  flux_balanced = λ q b. balance_kept a p s m q l b;
  flux_same = λ inside q. bound_kept a p s m inside q l r;
}

-- One line more --

-- a fact on each axis, of the lines there
on_all : {A : Type 0} (P : AxisName → A → Type 0) (a : AxisName) (y : A) (f : AxisName → A) → P a y → ((b : AxisName) → P b (f b)) → (b : AxisName) → P b (on_axis a b y (f b))
on_all P X y f h k X = h
on_all P Y y f h k Y = h
on_all P Z y f h k Z = h
on_all P X y f h k Y = k Y
on_all P X y f h k Z = k Z
on_all P Y y f h k X = k X
on_all P Y y f h k Z = k Z
on_all P Z y f h k X = k X
on_all P Z y f h k Y = k Y

-- within the hull of the boxes
pub record IsWithin (s : Scene) (scale : ℕ) (a : AxisName) (q : ℕ) : Type 0 where
  pub from : Any (λ b. scale * low a b ≤ q) s.boxes
  pub to : Any (λ b. q ≤ scale * high a b) s.boxes

module _ (s : Scene) where
  gap_refines : (r : Refinement) → Refines s r → (a : AxisName) (q : ℕ) (ys : List ℕ) → Gap (r.lines a) q ys → IsWithin s r.scale a q → Refines s (relined a ys r)
  gap_refines r refines a q ys g hull = record {
    scaled = refines.scaled;
    rising = on_all (λ b l. IsStrictlyIncreasing l) a ys r.lines (rising_still (r.lines a) q ys g (refines.rising a)) refines.rising;
    has_lows = λ b box there. on_all (λ b l. Contains l (r.scale * low b box)) a ys r.lines (contains_still (r.lines a) q ys g (r.scale * low a box) (refines.has_lows a box there)) (λ b. refines.has_lows b box there) b;
    has_highs = λ b box there. on_all (λ b l. Contains l (r.scale * high b box)) a ys r.lines (contains_still (r.lines a) q ys g (r.scale * high a box) (refines.has_highs a box there)) (λ b. refines.has_highs b box there) b;
    from_hull = on_all (λ b l. (p : ℕ) → Contains l p → Any (λ x. r.scale * low b x ≤ p) s.boxes) a ys r.lines (λ p there. from p (contains_from (r.lines a) q ys g p there)) refines.from_hull;
    to_hull = on_all (λ b l. (p : ℕ) → Contains l p → Any (λ x. p ≤ r.scale * high b x) s.boxes) a ys r.lines (λ p there. to p (contains_from (r.lines a) q ys g p there)) refines.to_hull;
  }
    where
      from : (p : ℕ) → (p ≡ q) ⊎ Contains (r.lines a) p → Any (λ x. r.scale * low a x ≤ p) s.boxes
      from p (inl e) = subst (λ (t : ℕ). Any (λ x. r.scale * low a x ≤ t) s.boxes) (sym e) hull.from
      from p (inr there) = refines.from_hull a p there

      to : (p : ℕ) → (p ≡ q) ⊎ Contains (r.lines a) p → Any (λ x. p ≤ r.scale * high a x) s.boxes
      to p (inl e) = subst (λ (t : ℕ). Any (λ x. t ≤ r.scale * high a x) s.boxes) (sym e) hull.to
      to p (inr there) = refines.to_hull a p there

  gap_carries : (r : Refinement) → Refines s r → (a : AxisName) (q : ℕ) (ys : List ℕ) → Gap (r.lines a) q ys → Carries (mesh s r) (mesh s (relined a ys r))
  gap_carries r refines a q ys g = subst (Carries (mesh s r)) (sym (mesh_cut s r refines q ys a g))
      (cut_carries a g.p (gap_ratio (r.lines a) q ys g) (mesh s r) (omega (arith, g.within)) (gap_ratio_is (r.lines a) q ys g))

  relined-same : (a : AxisName) (r : Refinement) → relined a (r.lines a) r ≡ r
  relined-same a r = λ t. record { scale = r.scale; lines = λ b. on_all (λ b l. l ≡ r.lines b) a (r.lines a) r.lines refl (λ b. refl) b t }

  -- a refinement that carries what another does
  pub record Refined (r r' : Refinement) : Type 0 where
    pub refines : Refines s r'
    pub carries : Carries (mesh s r) (mesh s r')

  itself : (r : Refinement) → Refines s r → Refined r r
  itself r refines = record { refines = refines; carries = carries_itself (mesh s r) }

  then_on : (r r' r'' : Refinement) → Refined r r' → Refined r' r'' → Refined r r''
  then_on r r' r'' c d = record { refines = d.refines; carries = carries_on (mesh s r) (mesh s r') (mesh s r'') c.carries d.carries }

  find_place : (r : Refinement) → Refines s r → (a : AxisName) (q : ℕ) → IsWithin s r.scale a q → Located (r.lines a) q
  find_place r refines a q hull =
      let (n, b, within, is, below) = hull.from in
      let (n', b', within', is', above) = hull.to in
      from_lines (refines.has_lows a b (n, within, is)) below (refines.has_highs a b' (n', within', is')) above
    where
      first_least : (k : ℕ) → k < length (r.lines a) → get_or (r.lines a) 0 0 ≤ get_or (r.lines a) k 0
      first_least k l = by_order (eq-or-lt_of_le {n = 0} {m = k} (omega arith))
        where
          by_order : (0 ≡ k) ⊎ (0 < k) → get_or (r.lines a) 0 0 ≤ get_or (r.lines a) k 0
          by_order (inl e) = let same : get_or (r.lines a) 0 0 ≡ get_or (r.lines a) k 0 = ap (λ (t : ℕ). get_or (r.lines a) t 0) e in omega arith
          by_order (inr h) = let up : get_or (r.lines a) 0 0 < get_or (r.lines a) k 0 = AllPairs-from_increasing (r.lines a) (refines.rising a) 0 k 0 h l in omega arith

      from_lines : {c d : ℕ} → Contains (r.lines a) c → c ≤ q → Contains (r.lines a) d → q ≤ d → Located (r.lines a) q
      from_lines {c} {d} at_c below at_d above =
          let lc : at_c.0 < length (r.lines a) = at_c.1 in
          let ld : at_d.0 < length (r.lines a) = at_d.1 in
          let first : get_or (r.lines a) 0 0 ≤ get_or (r.lines a) at_c.0 0 = first_least at_c.0 lc in
          let ec : get_or (r.lines a) at_c.0 0 ≡ c = get_or_default (r.lines a) at_c.0 0 c lc ∙ at_c.2 in
          let ed : get_or (r.lines a) at_d.0 0 ≡ d = get_or_default (r.lines a) at_d.0 0 d ld ∙ at_d.2 in
          located_from (r.lines a) q at_d.0 (omega arith) (omega arith) ld (omega arith)

  pub line_refined : (r : Refinement) → Refines s r → (a : AxisName) (q : ℕ) → IsWithin s r.scale a q → Refined r (relined a (with_line q (r.lines a)) r)
  line_refined r refines a q hull = by_place (find_place r refines a q hull)
    where
      by_place : Located (r.lines a) q → Refined r (relined a (with_line q (r.lines a)) r)
      by_place (inl (there, same)) = subst (Refined r) (sym (ap (λ (l : List ℕ). relined a l r) same ∙ relined-same a r)) (itself r refines)
      by_place (inr g) = record { refines = gap_refines r refines a q (with_line q (r.lines a)) g hull; carries = gap_carries r refines a q (with_line q (r.lines a)) g }

  -- All lines of a list, on one axis --

  on-own : {A : Type 0} (a : AxisName) (x y : A) → on_axis a a x y ≡ x
  on-own X x y = refl
  on-own Y x y = refl
  on-own Z x y = refl

  relined-twice : (a : AxisName) (xs ys : List ℕ) (r : Refinement) → relined a ys (relined a xs r) ≡ relined a ys r
  relined-twice a xs ys r = λ t. record { scale = r.scale; lines = λ b. on_twice a b t }
    where
      on_twice : (a b : AxisName) → on_axis a b ys (on_axis a b xs (r.lines b)) ≡ on_axis a b ys (r.lines b)
      on_twice X X = refl
      on_twice Y Y = refl
      on_twice Z Z = refl
      on_twice X Y = refl
      on_twice X Z = refl
      on_twice Y X = refl
      on_twice Y Z = refl
      on_twice Z X = refl
      on_twice Z Y = refl

  lines_refined : (ys : List ℕ) (r : Refinement) → Refines s r → (a : AxisName) → ((c : ℕ) → Contains ys c → IsWithin s r.scale a c) → Refined r (relined a (with_lines ys (r.lines a)) r)
  lines_refined [] r refines a hull = subst (Refined r) (sym (relined-same a r)) (itself r refines)
  lines_refined (y ∷ ys) r refines a hull =
      let first : Refined r (relined a (with_line y (r.lines a)) r) = line_refined r refines a y (hull y (contains_first y ys)) in
      let later = lines_refined ys (relined a (with_line y (r.lines a)) r) first.refines a (λ c at. hull c (contains_later y ys c at)) in
      then_on r (relined a (with_line y (r.lines a)) r) (relined a (with_lines ys (with_line y (r.lines a))) r) first
      (subst (Refined (relined a (with_line y (r.lines a)) r)) (ap (λ (l : List ℕ). relined a (with_lines ys l) (relined a (with_line y (r.lines a)) r)) (on-own a (with_line y (r.lines a)) (r.lines a)) ∙ relined-twice a (with_line y (r.lines a)) (with_lines ys (with_line y (r.lines a))) r) later)

  -- The three axes --

  within : (r : Refinement) → Refines s r → (a : AxisName) (c : ℕ) → Contains (r.lines a) c → IsWithin s r.scale a c
  within r refines a c there = record { from = refines.from_hull a c there; to = refines.to_hull a c there }

  -- the lines of both, where the scales are one
  pub joined_refined : (r r' : Refinement) → Refines s r → Refines s r' → r'.scale ≡ r.scale → Refined r (joined r' r)
  joined_refined r r' refines refines' scales =
      let x : Refined r (relined X (with_lines (r'.lines X) (r.lines X)) r) = lines_refined (r'.lines X) r refines X (hull X) in
      let y = lines_refined (r'.lines Y) (relined X (with_lines (r'.lines X) (r.lines X)) r) x.refines Y (hull Y) in
      let z = lines_refined (r'.lines Z) (relined Y (with_lines (r'.lines Y) (r.lines Y)) (relined X (with_lines (r'.lines X) (r.lines X)) r)) y.refines Z (hull Z) in
      subst (Refined r) same
      (then_on r (relined X (with_lines (r'.lines X) (r.lines X)) r) all x
      (then_on (relined X (with_lines (r'.lines X) (r.lines X)) r) (relined Y (with_lines (r'.lines Y) (r.lines Y)) (relined X (with_lines (r'.lines X) (r.lines X)) r)) all y z))
    where
      hull : (a : AxisName) (c : ℕ) → Contains (r'.lines a) c → IsWithin s r.scale a c
      hull a c there = subst (λ (n : ℕ). IsWithin s n a c) scales (within r' refines' a c there)

      all : Refinement
      all = relined Z (with_lines (r'.lines Z) (r.lines Z)) (relined Y (with_lines (r'.lines Y) (r.lines Y)) (relined X (with_lines (r'.lines X) (r.lines X)) r))

      same_lines : (b : AxisName) → all.lines b ≡ (joined r' r).lines b
      same_lines X = refl
      same_lines Y = refl
      same_lines Z = refl

      same : all ≡ joined r' r
      same = λ t. record { scale = r.scale; lines = λ b. same_lines b t }

  -- either way round
  joined-turned : (r r' : Refinement) → Refines s r → Refines s r' → r'.scale ≡ r.scale → joined r' r ≡ joined r r'
  joined-turned r r' refines refines' scales = λ t. record { scale = sym scales t; lines = λ a. turned a t }
    where
      turned : (a : AxisName) → with_lines (r'.lines a) (r.lines a) ≡ with_lines (r.lines a) (r'.lines a)
      turned a = rising_unique (with_lines (r'.lines a) (r.lines a)) (with_lines (r.lines a) (r'.lines a))
          ((joined_refined r r' refines refines' scales).refines.rising a) ((joined_refined r' r refines' refines (sym scales)).refines.rising a)
          (λ c at. crossed (r'.lines a) (r.lines a) c (with_lines-cases (r'.lines a) (r.lines a) c at))
          (λ c at. crossed (r.lines a) (r'.lines a) c (with_lines-cases (r.lines a) (r'.lines a) c at))
        where
          crossed : (xs ys : List ℕ) (c : ℕ) → Contains xs c ⊎ Contains ys c → Contains (with_lines ys xs) c
          crossed xs ys c (inl m) = with_lines-old ys xs c m
          crossed xs ys c (inr m) = with_lines-new ys xs c m

  -- The merge --

  scales_turned : (m n : ℕ) → m * n ≡ n * m
  scales_turned m n = omega arith

  merged_refined : (r r' : Refinement) → Refines s r → Refines s r' → Refined (rescaled r'.scale r) (merged r r')
  merged_refined r r' refines refines' = joined_refined (rescaled r'.scale r) (rescaled r.scale r')
      (refines_rescaled s r r'.scale refines'.scaled refines) (refines_rescaled s r' r.scale refines.scaled refines') (scales_turned r.scale r'.scale)

  pub merged_refines : (r r' : Refinement) → Refines s r → Refines s r' → Refines s (merged r r')
  merged_refines r r' refines refines' = (merged_refined r r' refines refines').refines

  pub merged_turned : (r r' : Refinement) → Refines s r → Refines s r' → merged r' r ≡ merged r r'
  merged_turned r r' refines refines' = sym (joined-turned (rescaled r'.scale r) (rescaled r.scale r')
      (refines_rescaled s r r'.scale refines'.scaled refines) (refines_rescaled s r' r.scale refines.scaled refines') (scales_turned r.scale r'.scale))

  pub merged_carries : (r r' : Refinement) → Refines s r → Refines s r' → Carries (mesh s r) (mesh s (merged r r'))
  merged_carries r r' refines refines' = subst (λ (m : Mesh). Carries m (mesh s (merged r r'))) (mesh_rescaled s r r'.scale refines'.scaled) (merged_refined r r' refines refines').carries
