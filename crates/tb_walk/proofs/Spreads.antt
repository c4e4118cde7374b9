-- Marks spread from a reached cell to its neighbours.
use Rattle.std.proofs.Common.{◌≡◌, ◌≢◌, inl, inr, ℕ, ◌<◌, ◌≤◌, List, [], ◌∷◌, ◌++◌, length, Option, Some, None, Bool, true, false, arith, refl, sym, ap, subst, ◌∙◌, ⊎_elim}
use Rattle.std.specs.Prelude.{MatchOption}
use Rattle.std.specs.List.{Contains}
use Rattle.std.proofs.lemmas.Bool.{cases_eq, cases_lt, true≢false}
use Rattle.std.proofs.lemmas.List.{get_or_past}
use Rattle.std.proofs.lemmas.List.Elements.{Contains-append_left, Contains-push_cases}
use Rattle.tb_places.specs.declared.AxisName.{AxisName}
use Rattle.tb_places.specs.declared.AxisName.TheVariants.{X, Y, Z}
use Rattle.tb_places.specs.Places.{Counts, cell_count}
use Rattle.tb_grid.specs.Views.{along_axes}
use Rattle.tb_grid.specs.declared.counts.CellCounts.{CellCounts}
use Rattle.tb_grid.specs.declared.ids.CellId.{CellId}
use Rattle.tb_walk.specs.Spreading.{IsNextCell, IsSpread, IsSpreadAlong, IsStep, IsStepAlong, IsWalk, Visits, flag}
use Rattle.tb_walk.proofs.NextCells.{one_next, one_before}
use Rattle.tb_walk.proofs.Visits.{IsVisited, visited}
use Rattle.tb_walk.proofs.Beside.{may_visit}

-- ---- the cell that was found, where there is one at most

pub found_is : (IsSought : ℕ → Type 0) (found : Option CellId) (x : CellId) →
    MatchOption found ((d : ℕ) → ¬ IsSought d) (λ y. IsSought y.0) → found ≡ Some x → IsSought x.0
found_is IsSought None x is same = absurd (cc same)
found_is IsSought (Some y) x is same = let e : y ≡ x = cc same in subst (λ (z : CellId). IsSought z.0) e is

pub is_found : (IsSought : ℕ → Type 0) → ((d e : ℕ) → IsSought d → IsSought e → d ≡ e) → (found : Option CellId) →
    MatchOption found ((d : ℕ) → ¬ IsSought d) (λ y. IsSought y.0) → (d : ℕ) → IsSought d →
    (x : CellId) × (found ≡ Some x) × (x.0 ≡ d)
is_found IsSought one None none d here = absurd (none d here)
is_found IsSought one (Some x) is d here = (x, refl, one x.0 d is here)

-- ---- along one axis: the cell before and the cell behind are visited

pub two_steps : (reached : List Bool) (work : List CellId) (reached' : List Bool) (work' : List CellId) (reached'' : List Bool) (work'' : List CellId) →
    IsStep reached work reached' work' → IsStep reached' work' reached'' work'' → IsStep reached work reached'' work''
two_steps reached work reached' work' reached'' work'' one two =
    let falls_one = one.falls in
    let falls_two = two.falls in
    record { more = λ d e. two.more d (one.more d e); falls = omega arith }

pub both_visited : (n : Counts) (marked : List Bool) (c : ℕ) (a : AxisName) (before after : Option CellId) (reached : List Bool) (work : List CellId) (reached' : List Bool) (work' : List CellId) (reached'' : List Bool) (work'' : List CellId) →
    IsWalk n marked c (cell_count n) reached work → flag reached c ≡ true →
    MatchOption before ((d : ℕ) → ¬ IsNextCell n a d c) (λ d. IsNextCell n a d.0 c) → MatchOption after ((d : ℕ) → ¬ IsNextCell n a c d) (λ d. IsNextCell n a c d.0) →
    Visits marked before reached work reached' work' → Visits marked after reached' work' reached'' work'' → IsStepAlong n marked c a reached work reached'' work''
both_visited n marked c a before after reached work reached' work' reached'' work'' walk here is_before is_after one two =
    let first : IsVisited n marked c (cell_count n) before reached work reached' work' = visited n marked c (cell_count n) before reached work reached' work' walk
    (λ x e. may_visit n marked a c x (inl (found_is (λ d. IsNextCell n a d c) before x is_before e)) (walk.sound c here)) one in
    let second : IsVisited n marked c (cell_count n) after reached' work' reached'' work'' = visited n marked c (cell_count n) after reached' work' reached'' work'' first.walk
    (λ x e. may_visit n marked a c x (inr (found_is (λ d. IsNextCell n a c d) after x is_after e)) (walk.sound c here)) two in
    record {
      walk = second.walk;
      step = two_steps reached work reached' work' reached'' work'' first.step second.step;
      spread = λ d beside t. ⊎_elim
          (λ (next : IsNextCell n a d c).
          let f = is_found (λ e. IsNextCell n a e c) (λ e g. one_before n a c e g) before is_before d next in
          second.step.more d (subst (λ (m : ℕ). flag reached' m ≡ true) f.2 (first.here f.0 f.1 (subst (λ (m : ℕ). flag marked m ≡ true) (sym f.2) t))))
          (λ (next : IsNextCell n a c d).
          let f = is_found (λ e. IsNextCell n a c e) (λ e g. one_next n a c e g) after is_after d next in
          subst (λ (m : ℕ). flag reached'' m ≡ true) f.2 (second.here f.0 f.1 (subst (λ (m : ℕ). flag marked m ≡ true) (sym f.2) t)))
          beside;
    }

-- ---- along all axes

more_spread : (n : Counts) (marked reached reached' : List Bool) (c : ℕ) (a : AxisName) →
    ((d : ℕ) → flag reached d ≡ true → flag reached' d ≡ true) → IsSpreadAlong n marked reached c a →
    IsSpreadAlong n marked reached' c a
more_spread n marked reached reached' c a more spread d beside t = more d (spread d beside t)

all_axes : (n : Counts) (marked reached : List Bool) (c : ℕ) → IsSpreadAlong n marked reached c X →
    IsSpreadAlong n marked reached c Y → IsSpreadAlong n marked reached c Z → IsSpread n marked reached c
all_axes n marked reached c on_x on_y on_z X = on_x
all_axes n marked reached c on_x on_y on_z Y = on_y
all_axes n marked reached c on_x on_y on_z Z = on_z

-- the cell in hand is done
put_down : (n : Counts) (marked : List Bool) (c : ℕ) (reached : List Bool) (work : List CellId) →
    IsWalk n marked c (cell_count n) reached work → IsSpread n marked reached c →
    IsWalk n marked (cell_count n) (cell_count n) reached work
put_down n marked c reached work walk spread = record {
  same_length = walk.same_length;
  sound = walk.sound;
  begun = walk.begun;
  listed = walk.listed;
  spread = λ d e other. ⊎_elim
      (λ (q : d.0 ≡ c). inr (subst (λ (m : ℕ). IsSpread n marked reached m) (sym q) spread))
      (λ (q : d.0 ≢ c). walk.spread d e q) (cases_eq d.0 c);
}

pub all_spread : (n : Counts) (marked : List Bool) (c : ℕ) (reached : List Bool) (work : List CellId) (reached_x : List Bool) (work_x : List CellId) (reached_y : List Bool) (work_y : List CellId) (reached_z : List Bool) (work_z : List CellId) →
    IsStepAlong n marked c X reached work reached_x work_x → IsStepAlong n marked c Y reached_x work_x reached_y work_y → IsStepAlong n marked c Z reached_y work_y reached_z work_z →
    IsWalk n marked (cell_count n) (cell_count n) reached_z work_z
all_spread n marked c reached work reached_x work_x reached_y work_y reached_z work_z on_x on_y on_z = put_down n marked c reached_z work_z on_z.walk
    (all_axes n marked reached_z c
    (more_spread n marked reached_x reached_z c X (λ d e. on_z.step.more d (on_y.step.more d e)) on_x.spread)
    (more_spread n marked reached_y reached_z c Y on_z.step.more on_y.spread)
    on_z.spread)

-- ---- a cell of the list of work is taken in hand

pub flag_below : (flags : List Bool) (c : ℕ) → flag flags c ≡ true → c < length flags
flag_below flags c set = ⊎_elim (λ (l : c < length flags). l) (λ (l : length flags ≤ c). absurd (true≢false (sym set ∙ get_or_past flags c false l))) (cases_lt c (length flags))

-- a cell is taken from the list of work
pub taken : (n : Counts) (marked : List Bool) (x : CellId) (reached : List Bool) (work : List CellId) →
    IsWalk n marked (cell_count n) (cell_count n) reached (work ++ x ∷ []) → IsWalk n marked x.0 (cell_count n) reached work
taken n marked x reached work walk = record {
  same_length = walk.same_length;
  sound = walk.sound;
  begun = walk.begun;
  listed = λ d listed. walk.listed d (Contains-append_left work (x ∷ []) d listed);
  spread = λ d set other. ⊎_elim
      (λ (c : Contains (work ++ x ∷ []) d). ⊎_elim (λ (l : Contains work d). inl l) (λ (same : x ≡ d). absurd (other (ap (λ (y : CellId). y.0) (sym same)))) (Contains-push_cases work x d c))
      (λ (c : IsSpread n marked reached d.0). inr c)
      (walk.spread d set (λ at. let below : d.0 < length reached = flag_below reached d.0 set in let len : length reached ≡ cell_count n = walk.same_length in omega arith));
}

pub walk_at : (counts counts' : CellCounts) (x x' : CellId) (marked reached : List Bool) (work : List CellId) → counts' ≡ counts → x' ≡ x →
    IsWalk (along_axes counts) marked x.0 (cell_count (along_axes counts)) reached work → IsWalk (along_axes counts') marked x'.0 (cell_count (along_axes counts')) reached work
walk_at counts counts' x x' marked reached work same_counts same_cell walk =
    subst (λ (k : CellCounts). IsWalk (along_axes k) marked x'.0 (cell_count (along_axes k)) reached work) (sym same_counts)
    (subst (λ (y : CellId). IsWalk (along_axes counts) marked y.0 (cell_count (along_axes counts)) reached work) (sym same_cell) walk)

pub walk_from : (counts counts' : CellCounts) (marked reached : List Bool) (work : List CellId) → counts' ≡ counts →
    IsWalk (along_axes counts') marked (cell_count (along_axes counts')) (cell_count (along_axes counts')) reached work → IsWalk (along_axes counts) marked (cell_count (along_axes counts)) (cell_count (along_axes counts)) reached work
walk_from counts counts' marked reached work same_counts walk =
    subst (λ (k : CellCounts). IsWalk (along_axes k) marked (cell_count (along_axes k)) (cell_count (along_axes k)) reached work) same_counts walk
