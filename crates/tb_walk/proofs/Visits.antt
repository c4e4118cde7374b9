-- One visit of the walk.
use Rattle.std.proofs.Common.{◌≡◌, ◌≢◌, ◌⊎◌, inl, inr, ℕ, ◌+◌, ◌<◌, List, [], ◌∷◌, ◌++◌, length, Option, Some, None, Bool, true, false, arith, refl, sym, ap, subst, ◌∙◌, ⊎_elim, get_or-set_same, get_or-set_other, length-append}
use Rattle.std.specs.Prelude.{slice_set, if◌then◌else◌}
use Rattle.std.specs.List.{Contains}
use Rattle.std.proofs.lemmas.Bool.{cases_eq, true≢false}
use Rattle.std.proofs.lemmas.List.{length-set}
use Rattle.std.proofs.lemmas.List.Sums.{sum_by-set}
use Rattle.std.proofs.lemmas.List.Elements.{Contains-append_left, Contains-push, Contains-push_cases}
use Rattle.tb_places.specs.Inverse.{cell_place}
use Rattle.tb_places.specs.Places.{Counts, cell_count}
use Rattle.tb_grid.specs.declared.ids.CellId.{CellId}
use Rattle.tb_walk.specs.Marks.{ReachesOpening}
use Rattle.tb_walk.specs.Spreading.{IsSpread, IsStep, IsWalk, Visits, flag, unset_count}

-- ---- one flag is set

set_more : (flags : List Bool) (c d : ℕ) → c < length flags → flag flags d ≡ true → flag (slice_set flags c true) d ≡ true
set_more flags c d h e = ⊎_elim
    (λ (q : d ≡ c). subst (λ (k : ℕ). flag (slice_set flags c true) k ≡ true) (sym q) (get_or-set_same flags c true false h))
    (λ (q : d ≢ c). get_or-set_other flags c d true false q ∙ e) (cases_eq d c)

set_only : (flags : List Bool) (c d : ℕ) → flag (slice_set flags c true) d ≡ true → (d ≡ c) ⊎ (flag flags d ≡ true)
set_only flags c d e = ⊎_elim
    (λ (q : d ≡ c). inl q)
    (λ (q : d ≢ c). inr (sym (get_or-set_other flags c d true false q) ∙ e)) (cases_eq d c)

set_falls : (flags : List Bool) (c : ℕ) → c < length flags → flag flags c ≡ false → unset_count (slice_set flags c true) + 1 ≡ unset_count flags
set_falls flags c h e =
    let one : Bool → ℕ = λ b. if b then 0 else 1 in
    let sums : unset_count (slice_set flags c true) + one (flag flags c) ≡ unset_count flags + 0 = sum_by-set one flags c true false h in
    let unset : one (flag flags c) ≡ 1 = ap one e in
    omega arith

same_cell : (c d : CellId) → c.0 ≡ d.0 → c ≡ d
same_cell c d e = ap (λ (m : ℕ). let x : CellId = record { 0 = m } in x) e

-- ---- one visit

-- what a visit leaves behind
pub record IsVisited (n : Counts) (marked : List Bool) (c k : ℕ) (visited : Option CellId) (reached : List Bool) (work : List CellId) (reached' : List Bool) (work' : List CellId) : Type 0 where
  pub walk : IsWalk n marked c k reached' work'
  pub step : IsStep reached work reached' work'
  pub here : (x : CellId) → visited ≡ Some x → flag marked x.0 ≡ true → flag reached' x.0 ≡ true

same_step : (reached : List Bool) (work : List CellId) → IsStep reached work reached work
same_step reached work = record { more = λ d e. e; falls = omega arith }

unchanged : (n : Counts) (marked : List Bool) (c k : ℕ) (visited : Option CellId) (reached : List Bool) (work : List CellId) →
    IsWalk n marked c k reached work →
    ((x : CellId) → visited ≡ Some x → flag marked x.0 ≡ true → flag reached x.0 ≡ true) → IsVisited n marked c k visited reached work reached work
unchanged n marked c k visited reached work walk here = record { walk = walk; step = same_step reached work; here = here }

-- a visited cell is in the grid, and reaches an opening where it is marked
pub record MayVisit (n : Counts) (marked : List Bool) (x : CellId) : Type 0 where
  pub within : x.0 < cell_count n
  pub reaches : flag marked x.0 ≡ true → ReachesOpening n marked (cell_place n x.0)

newly_reached : (n : Counts) (marked : List Bool) (c k : ℕ) (x : CellId) (reached : List Bool) (work : List CellId) →
    IsWalk n marked c k reached work → MayVisit n marked x →
    flag marked x.0 ≡ true → flag reached x.0 ≡ false → IsVisited n marked c k (Some x) reached work (slice_set reached x.0 true) (work ++ x ∷ [])
newly_reached n marked c k x reached work walk may is_marked unset =
    let len : length reached ≡ cell_count n = walk.same_length in
    let within : x.0 < cell_count n = may.within in
    let below : x.0 < length reached = omega arith in
    let more : (d : ℕ) → flag reached d ≡ true → flag (slice_set reached x.0 true) d ≡ true = λ d e. set_more reached x.0 d below e in
    record {
      walk = record {
        same_length = length-set reached x.0 true ∙ len;
        sound = λ d e. ⊎_elim
            (λ (q : d ≡ x.0). subst (λ (m : ℕ). (flag marked m ≡ true) × ReachesOpening n marked (cell_place n m)) (sym q) (is_marked, may.reaches is_marked))
            (λ (q : flag reached d ≡ true). walk.sound d q) (set_only reached x.0 d e);
        begun = λ d l t opening. more d (walk.begun d l t opening);
        listed = λ d e. ⊎_elim
            (λ (q : Contains work d). more d.0 (walk.listed d q))
            (λ (q : x ≡ d). subst (λ (y : CellId). flag (slice_set reached x.0 true) y.0 ≡ true) q (get_or-set_same reached x.0 true false below))
            (Contains-push_cases work x d e);
        spread = λ d e other. ⊎_elim
            (λ (q : d.0 ≡ x.0). inl (subst (λ (y : CellId). Contains (work ++ x ∷ []) y) (sym (same_cell d x q)) (Contains-push work x)))
            (λ (q : flag reached d.0 ≡ true). ⊎_elim
            (λ (s : Contains work d). inl (Contains-append_left work (x ∷ []) d s))
            (λ (s : IsSpread n marked reached d.0). inr (λ a b beside t. more b (s a b beside t)))
            (walk.spread d q other))
            (set_only reached x.0 d.0 e);
      };
      step = record {
        more = more;
        falls =
            let one : unset_count (slice_set reached x.0 true) + 1 ≡ unset_count reached = set_falls reached x.0 below unset in
            let two : length (work ++ x ∷ []) ≡ length work + 1 = length-append work (x ∷ []) in
            omega arith;
      };
      here = λ y is t.
          let same : x ≡ y = cc is in
          subst (λ (z : CellId). flag (slice_set reached x.0 true) z.0 ≡ true) same (get_or-set_same reached x.0 true false below);
    }

pub visited : (n : Counts) (marked : List Bool) (c k : ℕ) (cell : Option CellId) (reached : List Bool) (work : List CellId) (reached' : List Bool) (work' : List CellId) →
    IsWalk n marked c k reached work →
    ((x : CellId) → cell ≡ Some x → MayVisit n marked x) → Visits marked cell reached work reached' work' → IsVisited n marked c k cell reached work reached' work'
visited n marked c k None reached work reached' work' walk may visits = rw (visits.0, visits.1)
    (unchanged n marked c k None reached work walk (λ x is. absurd (cc is)))
visited n marked c k (Some x) reached work reached' work' walk may (inl (not_new, same_reached, same_work)) = rw (same_reached, same_work)
    (unchanged n marked c k (Some x) reached work walk (λ y is t.
    let same : x ≡ y = cc is in
    let at_x : flag marked x.0 ≡ true = subst (λ (z : CellId). flag marked z.0 ≡ true) (sym same) t in
    let was : flag reached x.0 ≡ true = ⊎_elim (λ (e : flag marked x.0 ≡ false). absurd (true≢false (sym at_x ∙ e))) (λ (e : flag reached x.0 ≡ true). e) not_new in
    subst (λ (z : CellId). flag reached z.0 ≡ true) same was))
visited n marked c k (Some x) reached work reached' work' walk may (inr (is_marked, unset, is_set, is_pushed)) = rw (is_set, is_pushed)
    (newly_reached n marked c k x reached work walk (may x refl) is_marked unset)
