-- The sum over a cycle is that at its face and along the way of outlets.
use Rattle.std.proofs.Common.{◌≡◌, ◌≢◌, ℕ, zero, suc, ◌<◌, ◌≤◌, List, [], ◌∷◌, length, arith, refl, sym, ap, ◌∙◌, ⊎_elim, get_or-set_other, get_or-set_same}
use Rattle.std.specs.Prelude.{ℤ, pos, neg_ℤ, ◌+ℤ◌, ◌*ℤ◌, slice_set}
use Rattle.std.proofs.lemmas.Int.{ints}
use Rattle.tb_math.specs.Integers.{zero-mul}
use Rattle.std.proofs.lemmas.Bool.{cases_eq, cases_lt}
use Rattle.std.proofs.lemmas.List.{ext_get_or, length-replicate}
use Rattle.std.proofs.Math.ListN.{length-set, replicate}
use Rattle.tb_math.specs.Sums.{total_ℤ}
use Rattle.tb_places.specs.Inverse.{cell_place}
use Rattle.tb_places.specs.Places.{Counts, face_count}
use Rattle.tb_model.specs.Mesh.{Mesh}
use Rattle.tb_walk.specs.Isolated.{IsSurface}
use Rattle.tb_outlets.specs.declared.side.Side.{Side}
use Rattle.tb_outlets.specs.Balancing.{flow}
use Rattle.tb_outlets.specs.Cycles.{IsOutward, carry, carry_all, out}
use Rattle.tb_outlets.specs.Flows.{IsTree, Sides}
use Rattle.tb_outlets.specs.Outlets.{AreDistances, AreOutlets, IsSolidAt}
use Rattle.tb_outlets.specs.Repair.{IsCycle}
use Rattle.tb_outlets.specs.Sides.{face_of, kind_on}
use Rattle.tb_outlets.proofs.Carrying.{IsOnWay, next_on_way}
use Rattle.tb_outlets.proofs.MeshCycles.{begins_way, entering, is_cycle, none_flows, one_cycle}
use Rattle.tb_outlets.proofs.Sides.{number_below}
use Rattle.tb_outlets.proofs.Trees.{tree}
use Rattle.tb_math.proofs.ReadIntegers.{by_reading, reading}
use Rattle.std.specs.Prelude.{◌-ℤ◌}
use Rattle.tb_outlets.specs.declared.marks.Mark.{Mark}
use Rattle.tb_outlets.specs.Balancing.{side_at}
use Rattle.tb_outlets.specs.Searching.{distance_at}
use Rattle.tb_outlets.proofs.MeshCycles.{outward}
use Rattle.tb_cycles.specs.Entries.{IsEntry}
use Rattle.tb_cycles.specs.Ways.{IsAdditive, LeadOut, sum_over, way_sum}
use Rattle.tb_cycles.proofs.Entering.{root_has_none}

-- ---- sums over a list with one place changed

-- what is told of a place times the value there
abbrev told : List ℤ → (ℕ → ℤ) → ℕ → ℤ
told values pull f = flow values f *ℤ pull f

same_total : (n : ℕ) (f g : ℕ → ℤ) → ((i : ℕ) → i < n → f i ≡ g i) → total_ℤ n f ≡ total_ℤ n g
same_total zero f g same = refl
same_total (suc n) f g same =
    ap (λ (x : ℤ). x +ℤ f n) (same_total n f g (λ i below. same i (omega arith))) ∙ ap (λ (x : ℤ). total_ℤ n g +ℤ x) (same n (omega arith))

times_none : (x y : ℤ) → x ≡ pos 0 → x *ℤ y ≡ pos 0
times_none x y none = ap (λ (z : ℤ). z *ℤ y) none ∙ zero-mul y

put_last : (t x o : ℤ) → o ≡ pos 0 → t +ℤ x ≡ (t +ℤ o) +ℤ x
put_last t x o none = omega (arith, ints, none)

put_before : (s t x l : ℤ) → s ≡ t +ℤ x → s +ℤ l ≡ (t +ℤ l) +ℤ x
put_before s t x l is = omega (arith, ints, is)

pub set_total : (values : List ℤ) (pull : ℕ → ℤ) (k : ℕ) (x : ℤ) → k < length values → flow values k ≡ pos 0 → (n : ℕ) → k < n →
    total_ℤ n (told (slice_set values k x) pull) ≡ total_ℤ n (told values pull) +ℤ x *ℤ pull k
set_total values pull k x within none zero below = absurd (omega arith)
set_total values pull k x within none (suc n) below = ⊎_elim
    (λ (here : k < n).
    ap (λ (y : ℤ). total_ℤ n (told (slice_set values k x) pull) +ℤ y *ℤ pull n) (get_or-set_other values k n x (pos 0) (λ same. absurd (omega (arith, same))))
    ∙ put_before (total_ℤ n (told (slice_set values k x) pull)) (total_ℤ n (told values pull)) (x *ℤ pull k) (told values pull n)
    (set_total values pull k x within none n here))
    (λ (last : n ≤ k).
    let same : n ≡ k = omega arith in
    ap (λ (y : ℤ). y +ℤ told (slice_set values k x) pull n) (same_total n (told (slice_set values k x) pull) (told values pull)
    (λ i early. ap (λ (y : ℤ). y *ℤ pull i) (get_or-set_other values k i x (pos 0) (λ is. absurd (omega (arith, is))))))
    ∙ ap (λ (y : ℤ). total_ℤ n (told values pull) +ℤ y) (ap (told (slice_set values k x) pull) same ∙ ap (λ (y : ℤ). y *ℤ pull k) (get_or-set_same values k x (pos 0) within))
    ∙ put_last (total_ℤ n (told values pull)) (x *ℤ pull k) (told values pull n) (times_none (flow values n) (pull n) (ap (flow values) same ∙ none)))
    (cases_lt k n)

-- ---- along the way

more_total : (s t x w : ℤ) → s ≡ t +ℤ x → s +ℤ w ≡ t +ℤ (x +ℤ w)
more_total s t x w is = omega (arith, ints, is)

pub carried_total : (face : Sides) (inside : ℕ → Type 0) (outlet : ℕ → Side) (rank : ℕ → ℕ) (pull : ℕ → ℤ) (n : ℕ) (values : List ℤ) (c : ℕ) (es : List ℕ) →
    IsTree face inside outlet rank → IsOnWay face inside outlet rank values c → IsOutward face inside outlet c es → length values ≡ n →
    total_ℤ n (told (carry_all face outlet values c es) pull) ≡ total_ℤ n (told values pull) +ℤ way_sum face outlet pull c es
carried_total face inside outlet rank pull n values c [] is_tree way leads long =
    let below = way.below c way.here in
    set_total values pull (face c (outlet c)) (out (outlet c)) below (way.free c way.here (omega arith)) n (omega arith)
carried_total face inside outlet rank pull n values c (e ∷ es) is_tree way (leads, rest) long =
    let below = way.below c way.here in
    let after = carry face outlet values c in
    carried_total face inside outlet rank pull n after e es is_tree (next_on_way face inside outlet rank values c e is_tree way leads) rest
    (length-set values (face c (outlet c)) (out (outlet c)) ∙ long)
    ∙ more_total (total_ℤ n (told after pull)) (total_ℤ n (told values pull)) (out (outlet c) *ℤ pull (face c (outlet c))) (way_sum face outlet pull e es)
    (set_total values pull (face c (outlet c)) (out (outlet c)) below (way.free c way.here (omega arith)) n (omega arith))

nothing_total : (n k : ℕ) (pull : ℕ → ℤ) → total_ℤ k (told (replicate n (pos 0)) pull) ≡ pos 0
nothing_total n zero pull = refl
nothing_total n (suc k) pull =
    ap (λ (x : ℤ). x +ℤ told (replicate n (pos 0)) pull k) (nothing_total n k pull)
    ∙ ap (λ (x : ℤ). pos 0 +ℤ x) (times_none (flow (replicate n (pos 0)) k) (pull k) (none_flows n k))

from_none : (s t e w : ℤ) → s ≡ t +ℤ w → t ≡ pos 0 +ℤ e → s ≡ e +ℤ w
from_none s t e w is none = omega (arith, ints, is, none)

-- the sum over a cycle
pub cycle_total : (m : Mesh) (outlet : ℕ → Side) (distance : ℕ → ℕ) (c : ℕ) (s : Side) (es : List ℕ) (flows : List ℤ) (pull : ℕ → ℤ) →
    AreOutlets m outlet → AreDistances m distance → IsSolidAt m c → IsSurface (kind_on m s (cell_place m.cells c)) → s ≢ outlet c →
    IsOutward (face_of m.cells) (IsSolidAt m) outlet c es → IsCycle m c s flows →
    sum_over m.cells flows pull ≡ neg_ℤ (out s) *ℤ pull (face_of m.cells c s) +ℤ way_sum (face_of m.cells) outlet pull c es
cycle_total m outlet distance c s es flows pull outlets distances here surface other leads cycle =
    let n = face_count m.cells in
    let face = face_of m.cells in
    let is_tree = tree m outlet distance outlets distances in
    let way = begins_way m outlet distance c s here surface other in
    let whole = is_cycle m outlet distance c s es outlets distances here surface other leads in
    let same : flows ≡ carry_all face outlet (entering m c s) c es = one_cycle m outlet distance c s flows _ outlets distances cycle whole in
    let full = length-replicate n (pos 0) in
    let long : length (entering m c s) ≡ n = length-set (replicate n (pos 0)) (face c s) (neg_ℤ (out s)) ∙ full in
    let below : face c s < n = number_below m.cells (cell_place m.cells c) s here.1.0 in
    let first : total_ℤ n (told (entering m c s) pull) ≡ pos 0 +ℤ neg_ℤ (out s) *ℤ pull (face c s) =
    set_total (replicate n (pos 0)) pull (face c s) (neg_ℤ (out s)) (omega (arith, below, full)) (none_flows n (face c s)) n below
    ∙ ap (λ (x : ℤ). x +ℤ neg_ℤ (out s) *ℤ pull (face c s)) (nothing_total n n pull) in
    ap (λ (v : List ℤ). total_ℤ n (told v pull)) same
    ∙ from_none (total_ℤ n (told (carry_all face outlet (entering m c s) c es) pull)) (total_ℤ n (told (entering m c s) pull))
    (neg_ℤ (out s) *ℤ pull (face c s)) (way_sum face outlet pull c es)
    (carried_total face (IsSolidAt m) outlet distance pull n (entering m c s) c es is_tree way leads long) first

turn_sign : (w o : ℤ) (s : Side) (p : ℤ) → o ≡ out s *ℤ p → w -ℤ o ≡ neg_ℤ (out s) *ℤ p +ℤ w
turn_sign w o s p is = ap (λ (x : ℤ). w -ℤ x) is ∙ by_reading {atoms = w ∷ out s ∷ p ∷ []} (search reading) (search reading) refl

-- as a program sums it
pub pulled : (n : Counts) (m : Mesh) (marks : List Mark) (sides : List Side) (pull : ℕ → ℤ) (f c : ℕ) (s : Side) (flows : List ℤ) (along entering sum : ℤ) →
    n ≡ m.cells → LeadOut m marks sides → IsEntry m f c s → IsCycle m c s flows →
    ((es : List ℕ) → IsOutward (face_of m.cells) (IsSolidAt m) (side_at sides) c es → along ≡ way_sum (face_of m.cells) (side_at sides) pull c es) →
    entering ≡ out s *ℤ pull (face_of n c s) → sum ≡ along -ℤ entering → sum ≡ sum_over m.cells flows pull
pulled n m marks sides pull f c s flows along entering sum same leads entry cycle walked enters is =
    let outlet = side_at sides in
    let way = outward m outlet (distance_at marks) leads.outlets leads.distances (distance_at marks c) c entry.solid (omega arith) in
    let other : s ≢ outlet c = λ at. root_has_none m outlet f c s leads.outlets (sym at) entry in
    is
    ∙ ap (λ (x : ℤ). x -ℤ entering) (walked way.0 way.1)
    ∙ turn_sign (way_sum (face_of m.cells) outlet pull c way.0) entering s (pull (face_of m.cells c s)) (enters ∙ ap (λ (k : Counts). out s *ℤ pull (face_of k c s)) same)
    ∙ sym (cycle_total m outlet (distance_at marks) c s way.0 flows pull leads.outlets leads.distances entry.solid entry.surface other way.1 cycle)

-- ---- what adds up over flows is a sum over faces

-- the first values of a list, and nothing behind
first_of : List ℤ → ℕ → ℕ → List ℤ
first_of values n zero = replicate n (pos 0)
first_of values n (suc k) = slice_set (first_of values n k) k (flow values k)

first_long : (values : List ℤ) (n k : ℕ) → length (first_of values n k) ≡ n
unfolding first_of
first_long values n zero = length-replicate n (pos 0)
first_long values n (suc k) = length-set (first_of values n k) k (flow values k) ∙ first_long values n k

behind_none : (values : List ℤ) (n k f : ℕ) → k ≤ f → flow (first_of values n k) f ≡ pos 0
unfolding first_of
behind_none values n zero f behind = none_flows n f
behind_none values n (suc k) f behind =
    get_or-set_other (first_of values n k) k f (flow values k) (pos 0) (λ same. absurd (omega (arith, same))) ∙ behind_none values n k f (omega arith)

first_same : (values : List ℤ) (n k f : ℕ) → k ≤ n → f < k → flow (first_of values n k) f ≡ flow values f
unfolding first_of
first_same values n zero f within below = absurd (omega arith)
first_same values n (suc k) f within below =
    let long = first_long values n k in
    ⊎_elim
    (λ (same : f ≡ k). ap (flow (slice_set (first_of values n k) k (flow values k))) same
    ∙ get_or-set_same (first_of values n k) k (flow values k) (pos 0) (omega arith) ∙ ap (flow values) (sym same))
    (λ (other : f ≢ k). get_or-set_other (first_of values n k) k f (flow values k) (pos 0) other ∙ first_same values n k f (omega arith) (omega arith))
    (cases_eq f k)

first_total : (n : ℕ) (S : List ℤ → ℤ) (pull : ℕ → ℤ) (values : List ℤ) → IsAdditive n S pull → (k : ℕ) → k ≤ n →
    S (first_of values n k) ≡ total_ℤ k (told values pull)
unfolding first_of
first_total n S pull values is zero within = is.none
first_total n S pull values is (suc k) within =
    is.more (first_of values n k) k (flow values k) (first_long values n k) (omega arith) (behind_none values n k k (omega arith))
    ∙ ap (λ (x : ℤ). x +ℤ told values pull k) (first_total n S pull values is k (omega arith))

pub additive_total : (n : ℕ) (S : List ℤ → ℤ) (pull : ℕ → ℤ) (values : List ℤ) → IsAdditive n S pull → length values ≡ n →
    S values ≡ total_ℤ n (told values pull)
additive_total n S pull values is long =
    let full = first_long values n n in
    ap S (ext_get_or (pos 0) values (first_of values n n) (omega arith) (λ f below. sym (first_same values n n f (omega arith) (omega arith))))
    ∙ first_total n S pull values is n (omega arith)
