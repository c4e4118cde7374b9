-- What is found of a demo answers it.
use Rattle.std.proofs.Common.{◌≡◌, ◌∙◌, refl, subst, sym, ℕ, ◌*◌}
use Rattle.tb_places.specs.Places.{cell_count}
use Rattle.tb_detail.specs.declared.Detail.{Detail}
use Rattle.tb_detail.specs.Limits.{InLimits}
use Rattle.tb_grid.specs.Grid.{Axes, counts_of}
use Rattle.tb_grid.specs.Levels.{IsLevelOf}
use Rattle.tb_model.specs.Refinement.{scene_of}
use Rattle.tb_model.specs.Soundness.{IsSound}
use Rattle.tb_model.specs.Values.{case_of}
use Rattle.tb_terms.specs.declared.Interval.{Interval}
use Rattle.tb_geometry.specs.Base.{base_axes}
use Rattle.tb_geometry.specs.Grids.{CarriesBody}
use Rattle.tb_field.specs.Fields.{field_on}
use Rattle.tb_flux.specs.Fluxes.{flux_on}
use Rattle.tb_duality.proofs.BodyEnds.{ends_sound}
use Rattle.tb_demo.specs.Line.{demo_grading, demo_sweeps, demo_width}
use Rattle.tb_demo.specs.Section.{section}
use Rattle.tb_driver.specs.declared.solved.Solved.{Solved}
use Rattle.tb_driver.specs.Solved.{IsSolution}
use Rattle.thermal_cli.specs.Demo.{DemoAnswers, inside}

-- a solution is sound
solution_sound : (d : Detail) (g : Axes) (mask width sweeps : ℕ) (s : Solved) → InLimits d → CarriesBody g d → IsSolution d g mask width sweeps s
    → IsSound (scene_of d) (case_of mask) s.interval.lo s.interval.hi
solution_sound d g mask width sweeps s limits carries solution =
    subst (λ (i : Interval). IsSound (scene_of d) (case_of mask) i.lo i.hi) (sym solution.ends)
    (ends_sound d limits g g (case_of mask) (field_on g s.field) (flux_on g s.flux) carries carries solution.proof.balanced)

-- found of the section of so many storeys
pub found_answers : (n cells : ℕ) (d : Detail) (g : Axes) (s : Solved) → d ≡ section n → InLimits d → IsLevelOf demo_grading (base_axes (section n).boxes) g
    → cells ≡ cell_count (counts_of g) → cell_count (counts_of g) ≡ 240 * n → CarriesBody g d → IsSolution d g inside (demo_width n) demo_sweeps s
    → DemoAnswers n (record { storeys = n; cells = cells; interval = s.interval; verdict = s.verdict })
found_answers n cells d g s is limits level counts counted carries solution = record {
  same = refl;
  level = g;
  is_level = level;
  cells = counts;
  counted = counts ∙ counted;
  found = s;
  solution = subst (λ (e : Detail). IsSolution e g inside (demo_width n) demo_sweeps s) is solution;
  interval = refl;
  verdict = refl;
  sound = subst (λ (e : Detail). IsSound (scene_of e) (case_of inside) s.interval.lo s.interval.hi) is (solution_sound d g inside _ _ s limits carries solution);
}
