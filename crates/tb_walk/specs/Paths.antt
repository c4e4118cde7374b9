-- Cells that share faces, and the paths that lead through them.
--
-- A set of cells is told by a property of places: `inside` holds of the cells of the set, `opens` of those with an
-- opening.
use Rattle.std.specs.Prelude.{◌≡◌, ◌⊎◌, List, [], ◌∷◌}
use Rattle.tb_places.specs.declared.AxisName.{AxisName}
use Rattle.tb_places.specs.declared.Place.{Place}
use Rattle.tb_places.specs.Places.{Counts, cell_number}
use Rattle.tb_places.specs.Ranges.{IsFirst}
use Rattle.tb_places.specs.Along.{ahead}

-- two cells share a face: one of them is the next of the other along an axis
abbrev pub SharesFace : Place → Place → Type 0
SharesFace p q = (a : AxisName) × ((ahead a 1 p ≡ q) ⊎ (ahead a 1 q ≡ p))

-- a path from p to q: a list of cells of the set, each sharing a face with the one before it, the last of them q. The
-- empty path stays at p
abbrev pub IsPath : (inside : Place → Type 0) → Place → List Place → Place → Type 0
IsPath inside p [] q = p ≡ q
IsPath inside p (c ∷ cs) q = SharesFace p c × inside c × IsPath inside c cs q

-- from p a path leads to a cell with an opening
pub record Reaches (inside opens : Place → Type 0) (p : Place) : Type 0 where
  pub path : List Place
  pub exit : Place
  pub leads : IsPath inside p path exit
  pub is_open : opens exit

-- every cell of the set reaches an opening
abbrev pub AllReach : (inside opens : Place → Type 0) → Type 0
AllReach inside opens = (p : Place) → inside p → Reaches inside opens p

-- a cell of the set that reaches none
pub record IsEnclosed (inside opens : Place → Type 0) (p : Place) : Type 0 where
  pub in_set : inside p
  pub no_way : ¬ Reaches inside opens p

-- and the first such cell, in the order of the numbers of cells
abbrev pub IsFirstEnclosed : Counts → (inside opens : Place → Type 0) → Place → Type 0
IsFirstEnclosed n inside opens = IsFirst (cell_number n) inside (Reaches inside opens) (λ p. ¬ Reaches inside opens p)
