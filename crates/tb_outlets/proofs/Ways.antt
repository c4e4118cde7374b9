-- Where the search is done, the marks tell roots and distances: by ways of cells that share faces.
use Rattle.std.proofs.Common.{◌≡◌, ℕ, zero, suc, ◌+◌, ◌<◌, ◌≤◌, List, [], ◌∷◌, length, Bool, true, arith, refl, sym, ap, subst, ◌∙◌, ⊎_elim}
use Rattle.tb_places.specs.declared.Place.{Place}
use Rattle.tb_places.specs.Inverse.{cell_place}
use Rattle.tb_places.specs.Places.{Counts, IsCell, cell_count, cell_number}
use Rattle.tb_grid.specs.declared.ids.CellId.{CellId}
use Rattle.tb_walk.specs.Paths.{IsPath}
use Rattle.tb_walk.specs.Spreading.{flag}
use Rattle.tb_walk.proofs.Sets.{shares_back}
use Rattle.tb_walk.proofs.Beside.{neighbours_below, neighbours_share, share_is_neighbours}
use Rattle.tb_outlets.specs.Searching.{HasNearer, HasRoot, IsSearch, IsSpread, distance_at, root_at}
use Rattle.tb_outlets.specs.declared.marks.Mark.{Mark}

-- a search that is done: no cell found has a turn to come
abbrev pub IsDone : Counts → List Bool → ℕ → List Mark → List CellId → Type 0
IsDone n solid f marks order = IsSearch n solid f (length order) marks order

-- a set of cells, as a property of places, is that of the flags
pub record AreFlags (n : Counts) (solid : List Bool) (inside : Place → Type 0) : Type 0 where
  pub cell : (p : Place) → inside p → IsCell n p
  pub set : (p : Place) → inside p → flag solid (cell_number n p) ≡ true
  pub back : (c : ℕ) → c < cell_count n → flag solid c ≡ true → inside (cell_place n c)

abbrev pub number_of : Counts → Place → ℕ
number_of n p = cell_number n p

-- the neighbours of a cell found
pub spreads : (n : Counts) (solid : List Bool) (f : ℕ) (marks : List Mark) (order : List CellId) → IsDone n solid f marks order →
    (c : ℕ) → 0 < distance_at marks c → IsSpread n solid marks c
spreads n solid f marks order done c found =
    let at = done.placed c found in subst (IsSpread n solid marks) at.2 (done.spread at.0 at.1)

-- along a way from a cell found, cells are found from the same root, and the distance rises by one a step at the most
pub record IsAlong (marks : List Mark) (c d length_of_way : ℕ) : Type 0 where
  pub found : 0 < distance_at marks d
  pub same_root : root_at marks d ≡ root_at marks c
  pub close : distance_at marks c ≤ distance_at marks d + length_of_way

pub along_way : (n : Counts) (solid : List Bool) (f : ℕ) (marks : List Mark) (order : List CellId) (inside : Place → Type 0) →
    IsDone n solid f marks order → AreFlags n solid inside → (way : List Place) (p q : Place) → inside p → 0 < distance_at marks (number_of n p) →
    IsPath inside p way q → IsAlong marks (number_of n p) (number_of n q) (length way)
along_way n solid f marks order inside done flags [] p q here found same = record {
  found = subst (λ (r : Place). 0 < distance_at marks (number_of n r)) same found;
  same_root = ap (λ (r : Place). root_at marks (number_of n r)) (sym same);
  close = let e = ap (λ (r : Place). distance_at marks (number_of n r)) same in omega arith;
}
along_way n solid f marks order inside done flags (x ∷ xs) p q here found (shared, next, rest) =
    let beside = share_is_neighbours n p x (flags.cell p here) (flags.cell x next) shared in
    let there = spreads n solid f marks order done (number_of n p) found beside.0 (number_of n x) beside.1 (flags.set x next) in
    let back = share_is_neighbours n x p (flags.cell x next) (flags.cell p here) (shares_back p x shared) in
    let close = (spreads n solid f marks order done (number_of n x) there.0 back.0 (number_of n p) back.1 (flags.set p here)).2 in
    let on = along_way n solid f marks order inside done flags xs x q next there.0 rest in
    let on_close = on.close in
    record { found = on.found; same_root = on.same_root ∙ there.1; close = omega arith }

-- a way from a cell of the set ends in the set
pub exit_in_set : (inside : Place → Type 0) (p : Place) (path : List Place) (q : Place) → inside p → IsPath inside p path q → inside q
exit_in_set inside p [] q here same = subst inside same here
exit_in_set inside p (c ∷ cs) q here (shared, next, rest) = exit_in_set inside c cs q next rest

-- a way back from a cell found
pub found_back : (n : Counts) (solid : List Bool) (f : ℕ) (marks : List Mark) (order : List CellId) (inside : Place → Type 0) →
    IsDone n solid f marks order → AreFlags n solid inside → (way : List Place) (p q : Place) → inside p → IsPath inside p way q →
    0 < distance_at marks (number_of n q) → 0 < distance_at marks (number_of n p)
found_back n solid f marks order inside done flags [] p q here same found = subst (λ (r : Place). 0 < distance_at marks (number_of n r)) (sym same) found
found_back n solid f marks order inside done flags (x ∷ xs) p q here (shared, next, rest) found =
    let there = found_back n solid f marks order inside done flags xs x q next rest found in
    let back = share_is_neighbours n x p (flags.cell x next) (flags.cell p here) (shares_back p x shared) in
    (spreads n solid f marks order done (number_of n x) there back.0 (number_of n p) back.1 (flags.set p here)).0

-- a way from a cell found to the cell of its root, as long as the distance says
pub record HasWay (n : Counts) (solid : List Bool) (marks : List Mark) (inside : Place → Type 0) (c : ℕ) : Type 0 where
  pub end : ℕ
  pub found : 0 < distance_at marks end
  pub root : HasRoot n solid marks end
  pub same_root : root_at marks end ≡ root_at marks c
  pub way : List Place
  pub leads : IsPath inside (cell_place n c) way (cell_place n end)
  pub long : distance_at marks c ≡ suc (length way)

pub way_to_root : (n : Counts) (solid : List Bool) (f : ℕ) (marks : List Mark) (order : List CellId) (inside : Place → Type 0) →
    IsDone n solid f marks order → AreFlags n solid inside → (k c : ℕ) → distance_at marks c ≡ suc k → HasWay n solid marks inside c
way_to_root n solid f marks order inside done flags zero c is = ⊎_elim
    (λ (has : HasRoot n solid marks c). at_root has)
    (λ (has : HasNearer n marks c). let some = has.found in let nearer = has.nearer in absurd (omega arith))
    (done.origin c (omega arith))
  where
    at_root : HasRoot n solid marks c → HasWay n solid marks inside c
    at_root has = record { end = c; found = omega arith; root = has; same_root = refl; way = []; leads = refl; long = is }
way_to_root n solid f marks order inside done flags (suc k) c is = ⊎_elim
    (λ (has : HasRoot n solid marks c). let first = has.first in absurd (omega arith))
    (λ (has : HasNearer n marks c).
    let nearer = has.nearer in
    let rest = way_to_root n solid f marks order inside done flags k has.next (omega arith) in
    let long = rest.long in
    let next = cell_place n has.next in
    let below = neighbours_below n has.axis c has.next has.beside in
    record {
      end = rest.end;
      found = rest.found;
      root = rest.root;
      same_root = rest.same_root ∙ has.same_root;
      way = next ∷ rest.way;
      leads = (neighbours_share n has.axis c has.next has.beside, flags.back has.next below.1 (done.in_set has.next has.found), rest.leads);
      long = is ∙ ap suc (let e : suc k ≡ suc (length rest.way) = omega arith in e);
    })
    (done.origin c (omega arith))
