-- What a round of the solver does to a session.
use Rattle.std.specs.Prelude.{pos, ◌≤ℤ◌, ◌≡◌, ◌↔◌, List, ℤ, ◌<ℤ◌}
use Rattle.tb_grid.specs.Grid.{counts_of}
use Rattle.tb_field.specs.Fields.{FitsNodes}
use Rattle.tb_flux.specs.Fluxes.{FitsFaces}
use Rattle.tb_trees.specs.Bodies.{BodyOnGrid}
use Rattle.tb_moves.specs.Sessions.{AreAlike, Session, inside_of, lower_of, mesh_of, upper_of}
use Rattle.tb_moves.specs.Moves.{IsRelaxedField}
use Rattle.tb_moves.specs.FluxPasses.{IsRelaxedFlux}
use Rattle.tb_rounds.specs.declared.work.Step.{Step}
use Rattle.tb_rounds.specs.declared.work.Step.TheVariants.{Lowered, NoGain}

abbrev pub site_of : Session → BodyOnGrid
site_of s = record { body = s.body; grid = s.grid }

-- a field and a flux have a value for each node and each face of a grid
pub record Fits (b : BodyOnGrid) (field flux : List ℤ) : Type 0 where
  pub field_fits : FitsNodes (counts_of b.grid) field
  pub flux_fits : FitsFaces (counts_of b.grid) flux

-- the present field after the nodes' part of a plain pass, whose upper end isn't lower
pub record RelaxingKeepsUpper (s : Session) : Type 0 where
  pub field : List ℤ
  pub relaxed : IsRelaxedField (mesh_of s) (inside_of s) s.field field
  pub no_gain : ¬ (upper_of s field <ℤ upper_of s s.field)

-- the present flux after the loops' and cycles' part of a plain pass, whose lower end is below 0 or not above
pub record RelaxingKeepsLower (s : Session) : Type 0 where
  pub flux : List ℤ
  pub relaxed : IsRelaxedFlux (mesh_of s) (inside_of s) s.flux flux
  pub no_gain : pos 0 ≤ℤ lower_of s flux → ¬ (lower_of s s.flux <ℤ lower_of s flux)

-- A round on the field: `Lowered` exactly where the upper end fell, and `NoGain` exactly where nothing changed, which
-- comes only where the moves of a plain pass don't lower it either. The flux stays, and so do body, grid and case.
pub record IsFieldRound (old : Session) (step : Step) (new : Session) : Type 0 where
  pub alike : AreAlike old new
  pub flux : new.flux ≡ old.flux
  pub lowered : (step ≡ Lowered) ↔ (upper_of new new.field <ℤ upper_of old old.field)
  pub unchanged : (step ≡ NoGain) ↔ (new ≡ old)
  pub relaxed : step ≡ NoGain → RelaxingKeepsUpper old

-- A round on the flux: `Lowered` exactly where the lower end rose, and `NoGain` exactly where nothing changed.
pub record IsFluxRound (old : Session) (step : Step) (new : Session) : Type 0 where
  pub alike : AreAlike old new
  pub field : new.field ≡ old.field
  pub lowered : (step ≡ Lowered) ↔ (lower_of old old.flux <ℤ lower_of new new.flux)
  pub unchanged : (step ≡ NoGain) ↔ (new ≡ old)
  pub relaxed : step ≡ NoGain → RelaxingKeepsLower old
