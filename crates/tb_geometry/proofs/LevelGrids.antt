-- The level grids of a body: its base lines are in reach, and its level grid carries it.
use Rattle.std.proofs.Common.{◌≡◌, ℕ, ◌-◌, ◌≤◌, ⊎_elim, List, [], ◌∷◌, length, get_or, Result, Ok, Err, IfOk, arith}
use Rattle.std.specs.List.{All, Contains}
use Rattle.std.proofs.lemmas.List.Elements.{All-head, All-tail, Contains-get_or}
use Rattle.tb_places.specs.declared.AxisName.{AxisName}
use Rattle.tb_places.specs.declared.AxisName.TheVariants.{X, Y, Z}
use Rattle.tb_detail.specs.Limits.{BoxInLimits, InLimits}
use Rattle.tb_detail.specs.declared.Detail.{Detail}
use Rattle.tb_detail.specs.declared.SpaceBox.{SpaceBox}
use Rattle.tb_grid.specs.Grid.{Axes, IsGrid, lines_of}
use Rattle.tb_grid.specs.Levels.{AnswersLevel, IsLevelOf, IsWithinReach, grade_along, halve_along}
use Rattle.tb_grid.specs.declared.levels.LevelFault.{LevelFault}
use Rattle.tb_grid.specs.declared.levels.Grading.{Grading}
use Rattle.tb_grid.proofs.Carries.{level_first, level_has_all, level_last}
use Rattle.tb_grid.proofs.RisingLists.{member_cases, no_member}
use Rattle.tb_model.specs.Refinement.{high, low}
use Rattle.tb_geometry.specs.Base.{base_axes, base_lines, coordinates}
use Rattle.tb_geometry.specs.Bodies.{HasHolders}
use Rattle.tb_geometry.specs.Grids.{CarriesBody}
use Rattle.tb_geometry.proofs.Carrying.{refines_from_carries}
use Rattle.tb_geometry.proofs.Lines.{base_through}
use Rattle.tb_geometry.proofs.Tables.{base_lines_of}

-- ---- the base lines are in reach
high_within : (d : Detail) (b : SpaceBox) → BoxInLimits d b → (a : AxisName) → high a b ≤ 500000
high_within d b limits X = limits.span.x.in_range.high
high_within d b limits Y = limits.span.y.in_range.high
high_within d b limits Z = limits.span.z.in_range.high

low_within : (d : Detail) (b : SpaceBox) → BoxInLimits d b → (a : AxisName) → low a b ≤ high a b
low_within d b limits X = let rises = limits.span.x.rises in omega arith
low_within d b limits Y = let rises = limits.span.y.rises in omega arith
low_within d b limits Z = let rises = limits.span.z.rises in omega arith

coordinates_within : (d : Detail) (a : AxisName) (boxes : List SpaceBox) → All (BoxInLimits d) boxes → (x : ℕ) →
    Contains (coordinates a boxes) x → x ≤ 500000
coordinates_within d a [] limits x there = absurd (no_member x there)
coordinates_within d a (b ∷ boxes) limits x there =
    let here = All-head (BoxInLimits d) b boxes limits in
    let top = high_within d b here a in
    let bottom = low_within d b here a in
    ⊎_elim (λ (is_low : low a b ≡ x). omega arith)
    (λ rest. ⊎_elim (λ (is_high : high a b ≡ x). omega arith)
    (λ later. coordinates_within d a boxes (All-tail (BoxInLimits d) b boxes limits) x later)
    (member_cases (high a b) (coordinates a boxes) x rest))
    (member_cases (low a b) (high a b ∷ coordinates a boxes) x there)

last_within : (lines : List ℕ) (most : ℕ) → ((x : ℕ) → Contains lines x → x ≤ most) → get_or lines (length lines - 1) 0 ≤ most
last_within [] most within = omega arith
last_within (p ∷ qs) most within =
    within (get_or (p ∷ qs) (length (p ∷ qs) - 1) 0) (Contains-get_or (p ∷ qs) (length (p ∷ qs) - 1) 0 (omega arith))

pub base_within : (d : Detail) (base : Axes) → base ≡ base_axes d.boxes → InLimits d → IsWithinReach base
base_within d base is limits a =
    rw (base_lines_of base d.boxes is a)
    (last_within (base_lines a d.boxes) 500000
    (λ x there. coordinates_within d a d.boxes limits.boxes x (((base_through a d.boxes).same x).0 there)))

-- ---- the level grid carries the body
pub level_carries : (d : Detail) (g : Grading) (base level : Axes) (table : List ℕ) → base ≡ base_axes d.boxes → HasHolders d.boxes table →
    IsGrid base → IsGrid level → IsLevelOf g base level → CarriesBody level d
level_carries d g base level table is has base_grid level_grid of =
    refines_from_carries d base level table is has base_grid level_grid
    (λ a. let rising = (base_grid.axes a).rising in
    record {
      has_all = level_has_all (grade_along g a) (halve_along g a) (lines_of base a) (lines_of level a) (of a);
      first = level_first (grade_along g a) (halve_along g a) (lines_of base a) (lines_of level a) rising (of a);
      last = level_last (grade_along g a) (halve_along g a) (lines_of base a) (lines_of level a) rising (of a);
    })

pub level_carries_if : (d : Detail) (g : Grading) (base : Axes) (table : List ℕ) → base ≡ base_axes d.boxes → HasHolders d.boxes table →
    IsGrid base → (result : Result Axes LevelFault) → AnswersLevel g base result → IfOk result IsGrid →
    IfOk result (λ level. CarriesBody level d)
level_carries_if d g base table is has base_grid (Ok level) of level_grid =
    level_carries d g base level table is has base_grid level_grid of
level_carries_if d g base table is has base_grid (Err fault) of level_grid = tt
