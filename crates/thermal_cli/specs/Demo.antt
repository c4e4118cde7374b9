-- `demo`: what it answers to a number of storeys, and the text and the status of each answer. It reads nothing.
use Rattle.std.specs.Prelude.{◌≡◌, ◌*◌, ℕ, List, if◌then◌else◌}
use Rattle.tb_places.specs.Places.{cell_count}
use Rattle.tb_grid.specs.Grid.{Axes, counts_of}
use Rattle.tb_grid.specs.Levels.{IsLevelOf}
use Rattle.tb_model.specs.Refinement.{scene_of}
use Rattle.tb_model.specs.Soundness.{IsSound}
use Rattle.tb_model.specs.Values.{case_of}
use Rattle.tb_geometry.specs.Base.{base_axes}
use Rattle.tb_bundle_text.specs.Canonical.{verdict_word}
use Rattle.tb_demo.specs.Line as line
use Rattle.tb_demo.specs.Line.{demo_grading, demo_sweeps, demo_width}
use Rattle.tb_demo.specs.Section.{section}
use Rattle.tb_driver.specs.declared.solved.Solved.{Solved}
use Rattle.tb_driver.specs.Solved.{IsSolution}
use Rattle.tb_solving.specs.Solved.{is_done}
use Rattle.thermal_cli.specs.declared.demo.DemoAnswer.{DemoAnswer}
use Rattle.thermal_cli.specs.declared.status.Status.{Status}
use Rattle.thermal_cli.specs.declared.status.Status.TheVariants.{Fine, WidthNotReached}

-- its one case: inside is at 1, outside at 0
abbrev pub inside : ℕ
inside = 1

-- This is answered to a number of storeys: how many cells the level grid of their section has, and the interval and the
-- verdict of a solution of its case there, for the demo's width and passes. The interval is sound on every refinement of
-- the section
pub record DemoAnswers (storeys : ℕ) (a : DemoAnswer) : Type 0 where
  pub same : a.storeys ≡ storeys
  pub level : Axes
  pub is_level : IsLevelOf demo_grading (base_axes (section storeys).boxes) level
  pub cells : a.cells ≡ cell_count (counts_of level)
  pub counted : a.cells ≡ 240 * storeys
  pub found : Solved
  pub solution : IsSolution (section storeys) level inside (demo_width storeys) demo_sweeps found
  pub interval : a.interval ≡ found.interval
  pub verdict : a.verdict ≡ found.verdict
  pub sound : IsSound (scene_of (section storeys)) (case_of inside) a.interval.lo a.interval.hi

abbrev pub demo_text : DemoAnswer → List ℕ
demo_text a = line.demo_text a.storeys a.cells a.interval.lo a.interval.hi (verdict_word a.verdict)

-- whether its interval is as narrow as was wanted
abbrev pub demo_status : DemoAnswer → Status
demo_status a = if is_done a.verdict then Fine else WidthNotReached
