-- The way of outlets, one cell after the other.
use Rattle.std.proofs.Common.{◌≡◌, ℕ, ◌+◌, ◌*◌, ◌<◌, ◌≤◌, List, [], ◌∷◌, length, arith, refl, sym, ap, subst, ◌∙◌, ⊎_elim}
use Rattle.std.specs.Prelude.{ℤ, pos, ◌+ℤ◌, ◌*ℤ◌}
use Rattle.std.proofs.lemmas.Int.{ints}
use Rattle.tb_places.specs.declared.Place.{Place}
use Rattle.tb_places.specs.Inverse.{cell_place}
use Rattle.tb_places.specs.Places.{Counts, cell_count, cell_number}
use Rattle.tb_places.proofs.Cells.{cell_number_of_place}
use Rattle.tb_model.specs.Mesh.{Mesh}
use Rattle.tb_outlets.specs.declared.marks.Mark.{Mark}
use Rattle.tb_outlets.specs.declared.side.Side.{Side}
use Rattle.tb_outlets.specs.Balancing.{side_at}
use Rattle.tb_outlets.specs.Cycles.{IsOutward, LeadsTo, opposite, out}
use Rattle.tb_outlets.specs.Outlets.{IsDistance, IsFirstNearer, IsRoot, IsSolidAt}
use Rattle.tb_outlets.specs.Searching.{distance_at}
use Rattle.tb_outlets.specs.Sides.{IsBeyond, face_of}
use Rattle.tb_outlets.proofs.MeshCycles.{beyond_face, leads_to}
use Rattle.std.proofs.Common.{◌^◌}
use Rattle.std.proofs.Common.{mul-le-mul_right}
use Rattle.tb_outlets.proofs.Sides.{one_beyond}
use Rattle.tb_outlets.proofs.Trees.{one_distance, tree}
use Rattle.tb_cycles.specs.Ways.{IsLast, IsLeft, IsNext, LeadOut, LeadOutOn, way_sum}

-- the distance of the root's cell is 1
root_first : (m : Mesh) (p : Place) (s : Side) → IsRoot m p p s → IsDistance m p 1
root_first m p s root = record {
  solid = root.solid;
  cell = p;
  side = s;
  root = root;
  way = [];
  leads = refl;
  long = refl;
  least = λ other way. omega arith;
}

-- each cell has a distance
pub some_distance : (m : Mesh) (marks : List Mark) (sides : List Side) → LeadOut m marks sides → (c : ℕ) → IsSolidAt m c → 0 < distance_at marks c
some_distance m marks sides leads c here = let long = (leads.distances c here).long in omega arith

-- the cell beyond an outlet that isn't the root is the next on the way, and nearer
pub record IsFollowed (m : Mesh) (marks : List Mark) (sides : List Side) (c d : ℕ) : Type 0 where
  pub leads : LeadsTo (face_of m.cells) (IsSolidAt m) (side_at sides) c d
  pub nearer : distance_at marks d < distance_at marks c

falls : (m : Mesh) (marks : List Mark) (sides : List Side) → LeadOut m marks sides → (c e : ℕ) → IsSolidAt m c →
    LeadsTo (face_of m.cells) (IsSolidAt m) (side_at sides) c e → distance_at marks e < distance_at marks c
falls m marks sides out_of c e here leads =
    (tree m (side_at sides) (distance_at marks) out_of.outlets out_of.distances).inwards e c (opposite (side_at sides c)) leads.in_set here
    (λ same. leads.other (sym same)) leads.meets

pub followed : (m : Mesh) (marks : List Mark) (sides : List Side) → LeadOut m marks sides → (c d : ℕ) → IsSolidAt m c →
    IsNext m.cells marks sides c d → IsFollowed m marks sides c d
followed m marks sides out_of c d here next = ⊎_elim
    (λ (root : IsRoot m (cell_place m.cells c) (cell_place m.cells c) (side_at sides c)).
    let one = one_distance m (cell_place m.cells c) (distance_at marks c) 1 (out_of.distances c here) (root_first m (cell_place m.cells c) (side_at sides c) root) in
    let more = next.further in
    absurd (omega arith))
    (λ (is : IsFirstNearer m (cell_place m.cells c) (side_at sides c)).
    let q = is.leads.next in
    let same : cell_place m.cells d ≡ q = one_beyond (side_at sides c) (cell_place m.cells c) (cell_place m.cells d) q next.beyond is.leads.beyond in
    let number : cell_number m.cells q ≡ d = ap (λ (p : Place). cell_number m.cells p) (sym same) ∙ cell_number_of_place m.cells d in
    let leads : LeadsTo (face_of m.cells) (IsSolidAt m) (side_at sides) c d =
    subst (λ (e : ℕ). LeadsTo (face_of m.cells) (IsSolidAt m) (side_at sides) c e) number (leads_to m (side_at sides) c here is.leads) in
    record { leads = leads; nearer = falls m marks sides out_of c d here leads })
    (out_of.outlets c here)

-- behind the last cell nothing is left of the way
pub nothing_left : (m : Mesh) (marks : List Mark) (sides : List Side) → LeadOut m marks sides → (c : ℕ) → IsSolidAt m c →
    IsLast m.cells marks sides c → (es : List ℕ) → IsOutward (face_of m.cells) (IsSolidAt m) (side_at sides) c es → es ≡ []
nothing_left m marks sides out_of c here last [] outward = refl
nothing_left m marks sides out_of c here last (e ∷ es) (leads, rest) = ⊎_elim
    (λ (small : distance_at marks c ≤ 1).
    let nearer = falls m marks sides out_of c e here leads in
    let some = some_distance m marks sides out_of e leads.in_set in
    absurd (omega arith))
    (λ (none : (d : ℕ) → d < cell_count m.cells → ¬ IsBeyond (side_at sides c) (cell_place m.cells c) (cell_place m.cells d)).
    absurd (none e leads.in_set.0 (beyond_face m c e (opposite (side_at sides c)) (side_at sides c) here leads.in_set (λ same. leads.other (sym same)) leads.meets)))
    last

regroup : (t x y w : ℤ) → t +ℤ (x +ℤ y) ≡ w → (t +ℤ x) +ℤ y ≡ w
regroup t x y w e = omega (arith, ints, e)

-- one step on the way
pub one_step : (m : Mesh) (marks : List Mark) (sides : List Side) → LeadOut m marks sides → (pull : ℕ → ℤ) (start : ℕ) (whole : List ℕ) (c d : ℕ) (total more : ℤ) →
    IsSolidAt m c → IsNext m.cells marks sides c d → more ≡ out (side_at sides c) *ℤ pull (face_of m.cells c (side_at sides c)) →
    IsLeft m (side_at sides) pull start whole c total → IsLeft m (side_at sides) pull start whole d (total +ℤ more)
one_step m marks sides out_of pull start whole c d total more here next is left = on_rest left.rest left.outward left.adds
  where
    there : IsFollowed m marks sides c d
    there = followed m marks sides out_of c d here next

    on_rest : (es : List ℕ) → IsOutward (face_of m.cells) (IsSolidAt m) (side_at sides) c es →
        total +ℤ way_sum (face_of m.cells) (side_at sides) pull c es ≡ way_sum (face_of m.cells) (side_at sides) pull start whole →
        IsLeft m (side_at sides) pull start whole d (total +ℤ more)
    on_rest [] away adds = absurd (there.leads.other (sym (away d (opposite (side_at sides c)) there.leads.in_set there.leads.meets)))
    on_rest (e ∷ es) (leads, rest) adds =
        let same : e ≡ d = ⊎_elim
        (λ (x : e ≡ c). absurd (leads.other (sym x)))
        (λ (x : e ≡ d). x)
        (there.leads.alone e (opposite (side_at sides c)) leads.in_set leads.meets) in
        let own : ℤ = out (side_at sides c) *ℤ pull (face_of m.cells c (side_at sides c)) in
        subst (λ (x : ℕ). IsLeft m (side_at sides) pull start whole x (total +ℤ more)) same (record {
          rest = es;
          outward = rest;
          adds = ap (λ (x : ℤ). (total +ℤ x) +ℤ way_sum (face_of m.cells) (side_at sides) pull e es) is
              ∙ regroup total own (way_sum (face_of m.cells) (side_at sides) pull e es) (way_sum (face_of m.cells) (side_at sides) pull start whole) adds;
        })

-- the last step
pub last_step : (m : Mesh) (marks : List Mark) (sides : List Side) → LeadOut m marks sides → (pull : ℕ → ℤ) (start : ℕ) (whole : List ℕ) (c : ℕ) (total more : ℤ) →
    IsSolidAt m c → IsLast m.cells marks sides c → more ≡ out (side_at sides c) *ℤ pull (face_of m.cells c (side_at sides c)) →
    IsLeft m (side_at sides) pull start whole c total → total +ℤ more ≡ way_sum (face_of m.cells) (side_at sides) pull start whole
last_step m marks sides out_of pull start whole c total more here last is left =
    let none = nothing_left m marks sides out_of c here last left.rest left.outward in
    ap (λ (x : ℤ). total +ℤ x) is
    ∙ sym (ap (λ (es : List ℕ). total +ℤ way_sum (face_of m.cells) (side_at sides) pull c es) none)
    ∙ left.adds

-- ---- lists that lead out on a grid

module _ (n : Counts) (marks : List Mark) (sides : List Side) (on : LeadOutOn n marks sides) where
  pub cell_within : (c : ℕ) → 0 < distance_at marks c → c < cell_count n
  cell_within c found = subst (λ (k : Counts). c < cell_count k) (sym on.counts) (on.leads.found c found).0

  pub marks_long : length marks ≡ cell_count n
  marks_long = on.leads.marked ∙ sym (ap (λ (k : Counts). cell_count k) on.counts)

  pub sides_long : length sides ≡ cell_count n
  sides_long = on.leads.count ∙ sym (ap (λ (k : Counts). cell_count k) on.counts)

  pub distance_near : (c : ℕ) → distance_at marks c ≤ cell_count n
  distance_near c = subst (λ (k : Counts). distance_at marks c ≤ cell_count k) (sym on.counts) (on.leads.near c)

  -- the next cell is found, and nearer
  pub next_found : (c d : ℕ) → 0 < distance_at marks c → IsNext n marks sides c d → (0 < distance_at marks d) × (distance_at marks d < distance_at marks c)
  next_found c d found next =
      let there = followed on.mesh marks sides on.leads c d (on.leads.found c found) (subst (λ (k : Counts). IsNext k marks sides c d) on.counts next) in
      (some_distance on.mesh marks sides on.leads d there.leads.in_set, there.nearer)

-- so many numbers, each at most p in size, are at most 2¹⁸ · p together
pub within_all : (t d s n p : ℕ) → t + d * p ≤ s * p → s ≤ n → n ≤ 2 ^ 18 → t ≤ 2 ^ 18 * p
within_all t d s n p kept near few =
    let more : s * p ≤ 2 ^ 18 * p = mul-le-mul_right p (omega arith) in
    omega arith

pub one_nearer : (t u d e s p : ℕ) → t + d * p ≤ s * p → u ≤ t + p → e < d → u + e * p ≤ s * p
one_nearer t u d e s p kept more nearer =
    let less : (e + 1) * p ≤ d * p = mul-le-mul_right p (omega arith) in
    omega arith

zero_left : (x : ℤ) → pos 0 +ℤ x ≡ x
zero_left x = omega (arith, ints)

-- the whole way is left at its start
pub all_left : (m : Mesh) (outlet : ℕ → Side) (pull : ℕ → ℤ) (start : ℕ) (es : List ℕ) →
    IsOutward (face_of m.cells) (IsSolidAt m) outlet start es → IsLeft m outlet pull start es start (pos 0)
all_left m outlet pull start es outward = record { rest = es; outward = outward; adds = zero_left _ }

-- ---- steps as a program takes them, on counts that are the mesh's

pub step_on : (n : Counts) (m : Mesh) (marks : List Mark) (sides : List Side) (pull : ℕ → ℤ) (start : ℕ) (whole : List ℕ) (c d : ℕ) (total more sum : ℤ) →
    n ≡ m.cells → LeadOut m marks sides → 0 < distance_at marks c → IsNext n marks sides c d →
    more ≡ out (side_at sides c) *ℤ pull (face_of n c (side_at sides c)) → sum ≡ total +ℤ more →
    IsLeft m (side_at sides) pull start whole c total → IsLeft m (side_at sides) pull start whole d sum
step_on n m marks sides pull start whole c d total more sum same out_of found next is adds left =
    subst (λ (x : ℤ). IsLeft m (side_at sides) pull start whole d x) (sym adds)
    (one_step m marks sides out_of pull start whole c d total more (out_of.found c found) (subst (λ (k : Counts). IsNext k marks sides c d) same next)
    (is ∙ ap (λ (k : Counts). out (side_at sides c) *ℤ pull (face_of k c (side_at sides c))) same) left)

pub end_on : (n : Counts) (m : Mesh) (marks : List Mark) (sides : List Side) (pull : ℕ → ℤ) (start : ℕ) (whole : List ℕ) (c : ℕ) (total more sum : ℤ) →
    n ≡ m.cells → LeadOut m marks sides → 0 < distance_at marks c → IsLast n marks sides c →
    more ≡ out (side_at sides c) *ℤ pull (face_of n c (side_at sides c)) → sum ≡ total +ℤ more →
    IsLeft m (side_at sides) pull start whole c total → sum ≡ way_sum (face_of m.cells) (side_at sides) pull start whole
end_on n m marks sides pull start whole c total more sum same out_of found last is adds left =
    adds ∙ last_step m marks sides out_of pull start whole c total more (out_of.found c found) (subst (λ (k : Counts). IsLast k marks sides c) same last)
    (is ∙ ap (λ (k : Counts). out (side_at sides c) *ℤ pull (face_of k c (side_at sides c))) same) left

pub end_size : (t u d s n p : ℕ) → t + d * p ≤ s * p → u ≤ t + p → 0 < d → s ≤ n → n ≤ 2 ^ 18 → u ≤ 2 ^ 18 * p
end_size t u d s n p kept more found near few =
    let all : s * p ≤ 2 ^ 18 * p = mul-le-mul_right p (omega arith) in
    let one : 1 * p ≤ d * p = mul-le-mul_right p (omega arith) in
    omega arith
