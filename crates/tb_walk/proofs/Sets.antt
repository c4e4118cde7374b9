-- How paths go on; and paths of one set of cells are paths of another that has the same cells and openings.
use Rattle.std.proofs.Common.{inl, inr, List, [], ◌∷◌, subst}
use Rattle.tb_places.specs.declared.Place.{Place}
use Rattle.tb_places.specs.Places.{Counts}
use Rattle.tb_walk.specs.Paths.{SharesFace, IsPath, Reaches, AllReach, IsFirstEnclosed}

pub shares_back : (p q : Place) → SharesFace p q → SharesFace q p
shares_back p q (a, inl next) = (a, inr next)
shares_back p q (a, inr next) = (a, inl next)

-- a way out of a cell of the set is one out of each cell that shares a face with it
pub further_out : (inside opens : Place → Type 0) (p q : Place) → SharesFace p q → inside q → Reaches inside opens q → Reaches inside opens p
further_out inside opens p q shared next way = record { path = q ∷ way.path; exit = way.exit; leads = (shared, next, way.leads); is_open = way.is_open }

-- the cells of one set are in another, and where they have an opening there, they have one here
pub record Extends (inside opens inside' opens' : Place → Type 0) : Type 0 where
  pub cells : (p : Place) → inside p → inside' p
  pub openings : (p : Place) → inside p → opens p → opens' p

path_in : (inside inside' : Place → Type 0) → ((p : Place) → inside p → inside' p) → (p : Place) (path : List Place) (q : Place) →
    IsPath inside p path q → IsPath inside' p path q
path_in inside inside' cells p [] q same = same
path_in inside inside' cells p (c ∷ cs) q (shared, here, rest) = (shared, cells c here, path_in inside inside' cells c cs q rest)

-- a path from a cell of the set ends in the set
pub exit_in_set : (inside : Place → Type 0) (p : Place) (path : List Place) (q : Place) → inside p → IsPath inside p path q → inside q
exit_in_set inside p [] q here same = subst inside same here
exit_in_set inside p (c ∷ cs) q here (shared, next, rest) = exit_in_set inside c cs q next rest

pub reaches_in : (inside opens inside' opens' : Place → Type 0) → Extends inside opens inside' opens' → (p : Place) → inside p →
    Reaches inside opens p → Reaches inside' opens' p
reaches_in inside opens inside' opens' more p here way = record {
  path = way.path;
  exit = way.exit;
  leads = path_in inside inside' more.cells p way.path way.exit way.leads;
  is_open = more.openings way.exit (exit_in_set inside p way.path way.exit here way.leads) way.is_open;
}

pub all_reach_in : (inside opens inside' opens' : Place → Type 0) → Extends inside opens inside' opens' →
    Extends inside' opens' inside opens → AllReach inside opens → AllReach inside' opens'
all_reach_in inside opens inside' opens' there back all p here =
    reaches_in inside opens inside' opens' there p (back.cells p here) (all p (back.cells p here))

pub first_in : (n : Counts) (inside opens inside' opens' : Place → Type 0) → Extends inside opens inside' opens' →
    Extends inside' opens' inside opens → (p : Place) → IsFirstEnclosed n inside opens p → IsFirstEnclosed n inside' opens' p
first_in n inside opens inside' opens' there back p is = record {
  in_set = there.cells p is.in_set;
  is_bad = λ way. is.is_bad (reaches_in inside' opens' inside opens back p (there.cells p is.in_set) way);
  before = λ q here below. reaches_in inside opens inside' opens' there q (back.cells q here) (is.before q (back.cells q here) below);
}
