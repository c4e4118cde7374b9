-- Where no work is left, just those marked cells are reached that reach an opening.
use Rattle.std.proofs.Common.{◌≡◌, ℕ, ◌+◌, ◌<◌, ◌≤◌, List, [], ◌∷◌, length, Bool, true, false, arith, sym, subst, ◌∙◌, ⊎_elim}
use Rattle.std.specs.List.{Contains}
use Rattle.std.proofs.lemmas.Bool.{cases_lt, true≢false}
use Rattle.tb_places.specs.declared.Place.{Place}
use Rattle.tb_places.specs.Inverse.{cell_place}
use Rattle.tb_places.specs.Places.{Counts, cell_count, cell_number}
use Rattle.tb_places.proofs.Cells.{cell_number_below, cell_number_of_place, cell_place_of_number, cell_place_within}
use Rattle.tb_grid.specs.declared.ids.CellId.{CellId}
use Rattle.tb_walk.specs.Paths.{IsPath, Reaches}
use Rattle.tb_walk.specs.Marks.{AreReached, IsFirstWithoutOpening, IsMarked, HasOpening, ReachesOpening, flag_at}
use Rattle.tb_walk.specs.Spreading.{IsSpread, IsWalk, flag}
use Rattle.tb_walk.proofs.Sets.{shares_back}
use Rattle.tb_walk.proofs.Beside.{flag_of_place, share_is_neighbours}

pub nothing_listed : (work : List CellId) (x : CellId) → length work ≡ 0 → Contains work x → ⊥
nothing_listed work x none (k, below, is) = omega arith

-- where no work is left, a path out is reached from its end to its start
way_reached : (n : Counts) (marked reached : List Bool) (work : List CellId) → length work ≡ 0 →
    IsWalk n marked (cell_count n) (cell_count n) reached work →
    (path : List Place) (p exit : Place) → IsMarked n marked p → IsPath (IsMarked n marked) p path exit → HasOpening n marked exit → flag_at n reached p ≡ true
way_reached n marked reached work none walk [] p exit here same opening =
    let at : cell_place n (cell_number n p) ≡ exit = cell_place_of_number n p here.0 ∙ same in
    walk.begun (cell_number n p) (cell_number_below n p here.0) here.1 (subst (λ (q : Place). HasOpening n marked q) (sym at) opening)
way_reached n marked reached work none walk (c ∷ cs) p exit here (shared, next, rest) opening =
    let id : CellId = record { 0 = cell_number n c } in
    let below : cell_number n c < cell_count n = cell_number_below n c next.0 in
    let beside = share_is_neighbours n c p next.0 here.0 (shares_back p c shared) in
    ⊎_elim
    (λ (listed : Contains work id). absurd (nothing_listed work id none listed))
    (λ (spread : IsSpread n marked reached (cell_number n c)). spread beside.0 (cell_number n p) beside.1 here.1)
    (walk.spread id (way_reached n marked reached work none walk cs c exit next rest opening) (λ same. absurd (omega arith)))

pub all_reached : (n : Counts) (marked reached : List Bool) (work : List CellId) → length work ≡ 0 →
    IsWalk n marked (cell_count n) (cell_count n) reached work → AreReached n marked reached
all_reached n marked reached work none walk = record {
  same_length = walk.same_length;
  exactly = λ p in_grid. (
    (λ set.
        let sound = walk.sound (cell_number n p) set in
        ((in_grid, sound.0), subst (λ (q : Place). ReachesOpening n marked q) (cell_place_of_number n p in_grid) sound.1)),
    (λ way. way_reached n marked reached work none walk way.1.path p way.1.exit way.0 way.1.leads way.1.is_open),
  );
}

-- ---- the first marked cell that is not reached

-- every cell of a set whose number is below k reaches an opening
abbrev pub AllReachBelow : Counts → (inside opens : Place → Type 0) → ℕ → Type 0
AllReachBelow n inside opens k = (p : Place) → inside p → cell_number n p < k → Reaches inside opens p

pub first_left : (n : Counts) (marked reached : List Bool) (c : ℕ) → AreReached n marked reached → c < cell_count n →
    flag marked c ≡ true → flag reached c ≡ false →
    AllReachBelow n (IsMarked n marked) (HasOpening n marked) c → IsFirstWithoutOpening n marked (cell_place n c)
first_left n marked reached c are below is_marked unset before =
    let within = cell_place_within n c below in
    let here : IsMarked n marked (cell_place n c) = (within, flag_of_place n marked c ∙ is_marked) in
    record {
      in_set = here;
      is_bad = λ way. true≢false (sym ((are.exactly (cell_place n c) within).1 (here, way)) ∙ flag_of_place n reached c ∙ unset);
      before = subst (λ (k : ℕ). AllReachBelow n (IsMarked n marked) (HasOpening n marked) k) (sym (cell_number_of_place n c)) before;
    }

pub one_more : (n : Counts) (marked reached : List Bool) (c : ℕ) → AreReached n marked reached → (flag marked c ≡ true → flag reached c ≡ true) →
    AllReachBelow n (IsMarked n marked) (HasOpening n marked) c → AllReachBelow n (IsMarked n marked) (HasOpening n marked) (c + 1)
one_more n marked reached c are here before p is_marked below = ⊎_elim
    (λ (l : cell_number n p < c). before p is_marked l)
    (λ (l : c ≤ cell_number n p).
    let same : c ≡ cell_number n p = omega arith in
    ((are.exactly p is_marked.0).0 (subst (λ (m : ℕ). flag marked m ≡ true → flag reached m ≡ true) same here is_marked.1)).1)
    (cases_lt (cell_number n p) c)
