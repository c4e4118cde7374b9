-- A detail has one fault at most, and none where it is accepted.
use Rattle.std.proofs.Common.{◌≡◌, ℕ, zero, suc, ◌-◌, ◌<◌, ◌≤◌, ◌⊎◌, inl, inr, ⊎_elim, List, length, get_or, Result, Ok, Err, refl, sym, ◌∙◌, ap, arith}
use Rattle.std.proofs.lemmas.Bool.{cases_order}
use Rattle.tb_places.specs.declared.AxisName.TheVariants.{X, Y, Z}
use Rattle.tb_places.specs.declared.Place.{Place}
use Rattle.tb_places.specs.Places.{cell_count}
use Rattle.tb_places.proofs.Cells.{cell_number_apart}
use Rattle.tb_places.proofs.Firsts.{one_first}
use Rattle.tb_detail.specs.declared.Detail.{Detail}
use Rattle.tb_detail.specs.declared.SpaceBox.{SpaceBox}
use Rattle.tb_geometry.specs.declared.fault.BodyFault.{BodyFault}
use Rattle.tb_geometry.specs.declared.fault.BodyFault.TheVariants.{TooFewEnvironments, NoSolid, TooManyCells, Overlap, Uncovered, Isolated}
use Rattle.tb_geometry.specs.declared.fault.BodyRefusal.{BodyRefusal}
use Rattle.tb_geometry.specs.declared.fault.BodyRefusal.TheVariants.{Fault, NoMemory}
use Rattle.tb_geometry.specs.Base.{IsBaseCell, IsCoveredCell, IsFirstUncovered, IsLowCorner, IsUncoveredCell, base_counts, base_lines, base_mesh, base_number}
use Rattle.tb_walk.specs.Isolated.{NoneIsolated}
use Rattle.tb_geometry.specs.Bodies.{AreBoxes, no_box}
use Rattle.tb_geometry.specs.Cubes.{AreApart, IsCovered, IsFirstOverlap}
use Rattle.tb_geometry.specs.Faults.{Answers, HasEnvironments, HasFault, HasFewCells, HasSolid, IsAccepted, IsIsolatedAt}
use Rattle.tb_geometry.proofs.Covers.{corner_cube}
use Rattle.tb_geometry.proofs.Hulls.{corner_in_hull}

-- ---- what is asked of a body in turn, and which of it a fault says is lacking
Holds : Detail → ℕ → Type 0
Holds d zero = HasEnvironments d
Holds d (suc zero) = HasSolid d
Holds d (suc (suc zero)) = HasFewCells d
Holds d (suc (suc (suc zero))) = AreApart d.boxes
Holds d (suc (suc (suc (suc zero)))) = IsCovered d.boxes
Holds d (suc (suc (suc (suc (suc n))))) = NoneIsolated (base_mesh d)

lacking : BodyFault → ℕ
lacking TooFewEnvironments = 0
lacking NoSolid = 1
lacking (TooManyCells n) = 2
lacking (Overlap i j) = 3
lacking (Uncovered x y z) = 4
lacking (Isolated x y z) = 5

holds_before : (d : Detail) (fault : BodyFault) → HasFault d fault → (n : ℕ) → n < lacking fault → Holds d n
unfolding Holds lacking
holds_before d TooFewEnvironments has n before = absurd (omega arith)
holds_before d NoSolid has zero before = has.environments
holds_before d NoSolid has (suc n) before = absurd (omega arith)
holds_before d (TooManyCells m) has zero before = has.environments
holds_before d (TooManyCells m) has (suc zero) before = has.solid
holds_before d (TooManyCells m) has (suc (suc n)) before = absurd (omega arith)
holds_before d (Overlap i j) has zero before = has.environments
holds_before d (Overlap i j) has (suc zero) before = has.solid
holds_before d (Overlap i j) has (suc (suc zero)) before = has.few_cells
holds_before d (Overlap i j) has (suc (suc (suc n))) before = absurd (omega arith)
holds_before d (Uncovered x y z) has zero before = has.environments
holds_before d (Uncovered x y z) has (suc zero) before = has.solid
holds_before d (Uncovered x y z) has (suc (suc zero)) before = has.few_cells
holds_before d (Uncovered x y z) has (suc (suc (suc zero))) before = has.apart
holds_before d (Uncovered x y z) has (suc (suc (suc (suc n)))) before = absurd (omega arith)
holds_before d (Isolated x y z) has zero before = has.environments
holds_before d (Isolated x y z) has (suc zero) before = has.solid
holds_before d (Isolated x y z) has (suc (suc zero)) before = has.few_cells
holds_before d (Isolated x y z) has (suc (suc (suc zero))) before = has.apart
holds_before d (Isolated x y z) has (suc (suc (suc (suc zero)))) before = has.covered
holds_before d (Isolated x y z) has (suc (suc (suc (suc (suc n))))) before = absurd (omega arith)

no_overlap : (boxes : List SpaceBox) (i j : ℕ) → IsFirstOverlap boxes i j → AreApart boxes → ⊥
no_overlap boxes i j first apart =
    let counted : 0 < i = first.overlap.counted in
    let order : i < j = first.overlap.in_order in
    let within : j ≤ length boxes = first.overlap.within in
    apart (i - 1) (j - 1) no_box (omega arith) (omega arith) (first.overlap.shared no_box)

no_uncovered : (boxes : List SpaceBox) (x y z : ℕ) → AreBoxes boxes → IsFirstUncovered boxes x y z → IsCovered boxes → ⊥
no_uncovered boxes x y z are first covered =
    let p : Place = first.cell in
    first.first.is_bad (get_or (base_lines X boxes) p.i 0) (get_or (base_lines Y boxes) p.j 0) (get_or (base_lines Z boxes) p.k 0)
    (corner_cube boxes p first.first.in_set)
    (covered (get_or (base_lines X boxes) p.i 0) (get_or (base_lines Y boxes) p.j 0) (get_or (base_lines Z boxes) p.k 0)
    (corner_in_hull boxes p are first.first.in_set))

lacks : (d : Detail) (fault : BodyFault) → AreBoxes d.boxes → HasFault d fault → Holds d (lacking fault) → ⊥
unfolding Holds lacking
lacks d TooFewEnvironments are has holds = let few : length d.environments < 2 = has.too_few in omega arith
lacks d NoSolid are has holds = has.no_solid holds
lacks d (TooManyCells n) are has holds =
    let count : n ≡ cell_count (base_counts d.boxes) = has.count in
    let many : 262144 < n = has.too_many in
    let few : cell_count (base_counts d.boxes) ≤ 262144 = holds in
    omega arith
lacks d (Overlap i j) are has holds = no_overlap d.boxes i j has.first holds
lacks d (Uncovered x y z) are has holds = no_uncovered d.boxes x y z are has.first holds
lacks d (Isolated x y z) are has holds = has.first.isolated.is_bad (holds has.first.cell has.first.isolated.in_set)

pub accepted_has_none : (d : Detail) (fault : BodyFault) → AreBoxes d.boxes → IsAccepted d → HasFault d fault → ⊥
unfolding Holds lacking
accepted_has_none d TooFewEnvironments are is has = lacks d TooFewEnvironments are has is.environments
accepted_has_none d NoSolid are is has = lacks d NoSolid are has is.solid
accepted_has_none d (TooManyCells n) are is has = lacks d (TooManyCells n) are has is.few_cells
accepted_has_none d (Overlap i j) are is has = lacks d (Overlap i j) are has is.apart
accepted_has_none d (Uncovered x y z) are is has = lacks d (Uncovered x y z) are has is.covered
accepted_has_none d (Isolated x y z) are is has = lacks d (Isolated x y z) are has is.linked

-- ---- the place of a fault
one_overlap : (boxes : List SpaceBox) (i j p q : ℕ) → IsFirstOverlap boxes i j → IsFirstOverlap boxes p q → (i ≡ p) × (j ≡ q)
one_overlap boxes i j p q first other =
    let here = first.first p q other.overlap in
    let there = other.first i j first.overlap in
    ⊎_elim (λ (less : i < p). ⊎_elim (λ (more : p < i). (omega arith, absurd (omega arith))) (λ same. let at : p ≡ i = same.0 in (omega arith, absurd (omega arith))) there)
    (λ same. ⊎_elim (λ (more : p < i). let at : i ≡ p = same.0 in (omega arith, absurd (omega arith)))
    (λ back. let up : j ≤ q = same.1 in let down : q ≤ j = back.1 in (same.0, omega arith)) there)
    here

-- a base cell isn't covered and uncovered
not_both : (boxes : List SpaceBox) (p : Place) → IsBaseCell boxes p → IsCoveredCell boxes p → IsUncoveredCell boxes p → ⊥
not_both boxes p cell covered uncovered =
    let cube = corner_cube boxes p cell in uncovered _ _ _ cube (covered _ _ _ cube)

same_corner : (boxes : List SpaceBox) (p q : Place) (x y z u v w : ℕ) → IsBaseCell boxes p → IsBaseCell boxes q →
    base_number boxes p ≡ base_number boxes q → IsLowCorner boxes p x y z → IsLowCorner boxes q u v w → (x ≡ u) × (y ≡ v) × (z ≡ w)
same_corner boxes p q x y z u v w cell other number corner also =
    let same = cell_number_apart (base_counts boxes) p q cell other number in (
      corner.on_x ∙ ap (λ (r : Place). get_or (base_lines X boxes) r.i 0) same ∙ sym also.on_x,
      corner.on_y ∙ ap (λ (r : Place). get_or (base_lines Y boxes) r.j 0) same ∙ sym also.on_y,
      corner.on_z ∙ ap (λ (r : Place). get_or (base_lines Z boxes) r.k 0) same ∙ sym also.on_z,
    )

one_uncovered : (boxes : List SpaceBox) (x y z u v w : ℕ) → IsFirstUncovered boxes x y z → IsFirstUncovered boxes u v w → (x ≡ u) × (y ≡ v) × (z ≡ w)
one_uncovered boxes x y z u v w one other =
    same_corner boxes one.cell other.cell x y z u v w one.first.in_set other.first.in_set
    (one_first _ _ _ _ one.cell other.cell (not_both boxes) one.first other.first) one.corner other.corner

one_isolated : (d : Detail) (x y z u v w : ℕ) → IsIsolatedAt d x y z → IsIsolatedAt d u v w → (x ≡ u) × (y ≡ v) × (z ≡ w)
one_isolated d x y z u v w one other =
    same_corner d.boxes one.cell other.cell x y z u v w one.isolated.in_set.0 other.isolated.in_set.0
    (one_first _ _ _ _ one.cell other.cell (λ p here way none. none way) one.isolated other.isolated) one.corner other.corner

same_place_of_fault : (d : Detail) (fault other : BodyFault) → lacking fault ≡ lacking other → HasFault d fault → HasFault d other → fault ≡ other
unfolding lacking
same_place_of_fault d TooFewEnvironments TooFewEnvironments same has also = refl
same_place_of_fault d NoSolid NoSolid same has also = refl
same_place_of_fault d (TooManyCells n) (TooManyCells m) same has also = ap TooManyCells (has.count ∙ sym also.count)
same_place_of_fault d (Overlap i j) (Overlap p q) same has also =
    let (earlier, later) = one_overlap d.boxes i j p q has.first also.first in cc
same_place_of_fault d (Uncovered x y z) (Uncovered u v w) same has also =
    let (at_x, at_y, at_z) = one_uncovered d.boxes x y z u v w has.first also.first in cc
same_place_of_fault d (Isolated x y z) (Isolated u v w) same has also =
    let (at_x, at_y, at_z) = one_isolated d x y z u v w has.first also.first in cc
same_place_of_fault d _ _ same has also = absurd (omega arith)

pub one_fault : (d : Detail) (fault other : BodyFault) → AreBoxes d.boxes → HasFault d fault → HasFault d other → fault ≡ other
one_fault d fault other are has also =
    ⊎_elim (λ same. same_place_of_fault d fault other same has also)
    (λ apart. ⊎_elim (λ before. absurd (lacks d fault are has (holds_before d other also (lacking fault) before)))
    (λ after. absurd (lacks d other are also (holds_before d fault has (lacking other) after))) apart)
    (cases_order (lacking fault) (lacking other))

-- ---- the answer
pub accepted_answer : (d : Detail) (result : Result Detail BodyRefusal) → AreBoxes d.boxes → IsAccepted d → Answers d result →
    (result ≡ Ok d) ⊎ (result ≡ Err NoMemory)
accepted_answer d (Ok body) are is answers = inl (ap Ok answers.0)
accepted_answer d (Err (Fault fault)) are is answers = absurd (accepted_has_none d fault are is answers)
accepted_answer d (Err NoMemory) are is answers = inr refl

pub fault_answer : (d : Detail) (fault : BodyFault) (result : Result Detail BodyRefusal) → AreBoxes d.boxes → HasFault d fault → Answers d result →
    (result ≡ Err (Fault fault)) ⊎ (result ≡ Err NoMemory)
fault_answer d fault (Ok body) are has answers = absurd (accepted_has_none d fault are answers.1 has)
fault_answer d fault (Err (Fault other)) are has answers = inl (ap (λ (f : BodyFault). Err (Fault f)) (one_fault d other fault are answers has))
fault_answer d fault (Err NoMemory) are has answers = inr refl
