-- What the limits of a detail say of its boxes, and what the steps towards a body answer.
use Rattle.std.proofs.Common.{◌≡◌, ℕ, suc, ⊎_elim, true, false, List, [], ◌∷◌, length, get_or, map, Ok, Err, refl, subst, sym, ◌∙◌, ap, arith}
use Rattle.std.specs.Prelude.{Vec}
use Rattle.std.specs.Global.{Global}
use Rattle.std.specs.List.{Any, list_any}
use Rattle.std.proofs.lemmas.Bool.{cases_Bool, false≢true}
use Rattle.tb_places.specs.declared.AxisName.TheVariants.{X, Y, Z}
use Rattle.tb_detail.specs.declared.Detail.{Detail}
use Rattle.tb_detail.specs.declared.Material.{Material}
use Rattle.tb_detail.specs.declared.SpaceBox.{SpaceBox}
use Rattle.tb_detail.specs.Limits.{BoxInLimits, InLimits}
use Rattle.tb_grid.specs.Grid.{Axes}
use Rattle.tb_geometry.specs.declared.occupant.Occupant.{Occupant}
use Rattle.tb_geometry.specs.declared.fault.BodyFault.{BodyFault}
use Rattle.tb_geometry.specs.declared.fault.BodyRefusal.{BodyRefusal}
use Rattle.tb_geometry.specs.declared.fault.BodyRefusal.TheVariants.{Fault, NoMemory}
use Rattle.tb_walk.specs.Isolated.{NoneIsolated}
use Rattle.tb_geometry.specs.Base.{base_mesh}
use Rattle.tb_geometry.specs.Bodies.{AreBoxes, IsProper, Keeps, occupant_of}
use Rattle.tb_geometry.specs.Cubes.{AreApart, IsCovered, IsFirstOverlap}
use Rattle.tb_geometry.specs.Faults.{Answers, HasEnvironments, HasFault, HasFewCells, HasOverlap, HasSolid, IsAccepted, IsSolidBox}
use Rattle.tb_geometry.specs.Outcomes.{Covers, HasGrid, Links}
use Rattle.tb_geometry.specs.Boxes.{is_solid}
use Rattle.tb_geometry.proofs.Tested.{solid_content}

-- ---- limits
proper_box : (d : Detail) (b : SpaceBox) → BoxInLimits d b → IsProper b
proper_box d b limits X = limits.span.x.rises
proper_box d b limits Y = limits.span.y.rises
proper_box d b limits Z = limits.span.z.rises

pub boxes_in_limits : (d : Detail) → InLimits d → AreBoxes d.boxes
boxes_in_limits d limits =
    record { few = limits.few.boxes; proper = λ k e within. proper_box d (get_or d.boxes k e) (limits.boxes k e within) }

-- ---- solid boxes
pub solid_from_test : (boxes : List SpaceBox) → list_any (λ b. is_solid b.content) boxes ≡ true → Any IsSolidBox boxes
solid_from_test [] found = absurd (false≢true found)
solid_from_test (b ∷ boxes) found =
    ⊎_elim
    (λ (here : is_solid b.content ≡ true).
    let (material, fills) = solid_content b.content here in
    (0, b, omega arith, refl, record { material = material; fills = fills }))
    (λ (none : is_solid b.content ≡ false).
    let later : list_any (λ c. is_solid c.content) boxes ≡ true = rw none at found in
    let (k, c, within, is, solid) = solid_from_test boxes later in
    (suc k, c, omega arith, is, solid))
    (cases_Bool (is_solid b.content))

-- ---- refusals of the steps
pub grid_refused : (d : Detail) (refusal : BodyRefusal) → HasEnvironments d → HasSolid d → HasGrid d.boxes (Err refusal) →
    Answers d (Err refusal)
grid_refused d (Fault fault) environments solid (is, too_many) =
    subst (λ (f : BodyFault). HasFault d f) (sym is)
    (record { environments = environments; solid = solid; count = refl; too_many = too_many })
grid_refused d NoMemory environments solid free = tt

pub cover_refused : (d : Detail) (refusal : BodyRefusal) → HasEnvironments d → HasSolid d → HasFewCells d → AreApart d.boxes →
    Covers d.boxes (Err refusal) → Answers d (Err refusal)
cover_refused d (Fault fault) environments solid few apart (x, y, z, is, first) =
    subst (λ (f : BodyFault). HasFault d f) (sym is)
    (record { environments = environments; solid = solid; few_cells = few; apart = apart; first = first })
cover_refused d NoMemory environments solid few apart free = tt

pub link_refused : (d : Detail) (refusal : BodyRefusal) → HasEnvironments d → HasSolid d → HasFewCells d → AreApart d.boxes →
    IsCovered d.boxes → Links d (Err refusal) → Answers d (Err refusal)
link_refused d (Fault fault) environments solid few apart covered (x, y, z, is, first) =
    subst (λ (f : BodyFault). HasFault d f) (sym is)
    (record { environments = environments; solid = solid; few_cells = few; apart = apart; covered = covered; first = first })
link_refused d NoMemory environments solid few apart covered free = tt

-- ---- the whole way
-- the steps that are done where the boxes share no cube: enough environments, a solid box, the base grid
pub record AreFound (d : Detail) (boxes : List SpaceBox) (g : Axes) : Type 0 where
  pub same : boxes ≡ d.boxes
  pub environments : HasEnvironments d
  pub solid : list_any (λ b. is_solid b.content) boxes ≡ true
  pub grid : HasGrid boxes (Ok g)

pub solid_found : (d : Detail) (boxes : List SpaceBox) → boxes ≡ d.boxes → list_any (λ b. is_solid b.content) boxes ≡ true → HasSolid d
solid_found d boxes same found = subst (λ (all : List SpaceBox). Any IsSolidBox all) same (solid_from_test boxes found)

pub overlap_answered : (d : Detail) (boxes : List SpaceBox) (g : Axes) (i j : ℕ) → AreFound d boxes g → IsFirstOverlap boxes i j → HasOverlap d i j
overlap_answered d boxes g i j found first =
    let grid = subst (λ (all : List SpaceBox). HasGrid all (Ok g)) found.same found.grid in
    record {
      environments = found.environments;
      solid = solid_found d boxes found.same found.solid;
      few_cells = grid.1;
      first = subst (λ (all : List SpaceBox). IsFirstOverlap all i j) found.same first;
    }

pub grid_answered : (d : Detail) (boxes : List SpaceBox) (refusal : BodyRefusal) → boxes ≡ d.boxes → HasEnvironments d →
    list_any (λ b. is_solid b.content) boxes ≡ true → HasGrid boxes (Err refusal) → Answers d (Err refusal)
grid_answered d boxes refusal same environments solid grid =
    grid_refused d refusal environments (solid_found d boxes same solid)
    (subst (λ (all : List SpaceBox). HasGrid all (Err refusal)) same grid)

pub cover_answered : (d : Detail) (boxes : List SpaceBox) (g : Axes) (refusal : BodyRefusal) → AreFound d boxes g → AreApart boxes →
    Covers boxes (Err refusal) → Answers d (Err refusal)
cover_answered d boxes g refusal found apart covers =
    let grid = subst (λ (all : List SpaceBox). HasGrid all (Ok g)) found.same found.grid in
    cover_refused d refusal found.environments (solid_found d boxes found.same found.solid) grid.1
    (subst (λ (all : List SpaceBox). AreApart all) found.same apart)
    (subst (λ (all : List SpaceBox). Covers all (Err refusal)) found.same covers)

pub link_answered : (d : Detail) (boxes : List SpaceBox) (g : Axes) (table : Vec ℕ Global) (refusal : BodyRefusal) → AreFound d boxes g →
    AreApart boxes → Covers boxes (Ok table) → Links d (Err refusal) → Answers d (Err refusal)
link_answered d boxes g table refusal found apart covers links =
    let grid = subst (λ (all : List SpaceBox). HasGrid all (Ok g)) found.same found.grid in
    let covered = subst (λ (all : List SpaceBox). Covers all (Ok table)) found.same covers in
    link_refused d refusal found.environments (solid_found d boxes found.same found.solid) grid.1
    (subst (λ (all : List SpaceBox). AreApart all) found.same apart) covered.1 links

pub accepted : (d : Detail) (boxes : List SpaceBox) (g : Axes) (table : Vec ℕ Global) → AreFound d boxes g → AreApart boxes →
    Covers boxes (Ok table) → NoneIsolated (base_mesh d) → IsAccepted d
accepted d boxes g table found apart covers linked =
    let grid = subst (λ (all : List SpaceBox). HasGrid all (Ok g)) found.same found.grid in
    let covered = subst (λ (all : List SpaceBox). Covers all (Ok table)) found.same covers in
    record {
      environments = found.environments;
      solid = solid_found d boxes found.same found.solid;
      few_cells = grid.1;
      apart = subst (λ (all : List SpaceBox). AreApart all) found.same apart;
      covered = covered.1;
      linked = linked;
    }

pub kept : (d : Detail) (boxes : List SpaceBox) (materials : List Material) (g : Axes) (table : Vec ℕ Global) (occupants : List Occupant) →
    InLimits d → AreFound d boxes g → AreApart boxes → Covers boxes (Ok table) → NoneIsolated (base_mesh d) → materials ≡ d.materials →
    occupants ≡ map (occupant_of materials) boxes → Keeps d g table.items occupants (length d.environments)
kept d boxes materials g table occupants limits found apart covers linked same filled =
    let grid = subst (λ (all : List SpaceBox). HasGrid all (Ok g)) found.same found.grid in
    let covered = subst (λ (all : List SpaceBox). Covers all (Ok table)) found.same covers in
    record {
      limits = limits;
      accepted = accepted d boxes g table found apart covers linked;
      lines = grid.0;
      holders = covered.0;
      filled = filled ∙ ap (λ (all : List Material). map (occupant_of all) boxes) same ∙ ap (λ (all : List SpaceBox). map (occupant_of d.materials) all) found.same;
      environments = refl;
    }
