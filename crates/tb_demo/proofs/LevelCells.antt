-- The level grid of the section.
use Rattle.std.proofs.Common.{◌≡◌, ◌∙◌, ℕ, ◌+◌, ◌-◌, ◌*◌, ◌≤◌, ◌==◌, List, length, arith, refl, ap, subst}
use Rattle.std.proofs.lemmas.Bool.{eqb-true}
use Rattle.tb_places.specs.declared.AxisName.{AxisName}
use Rattle.tb_places.specs.declared.AxisName.TheVariants.{X, Y, Z}
use Rattle.tb_places.specs.Places.{cell_count}
use Rattle.tb_detail.specs.declared.Detail.{Detail}
use Rattle.tb_grid.specs.Axis.{IsAxis}
use Rattle.tb_grid.specs.Grid.{Axes, counts_of, lines_of}
use Rattle.tb_grid.specs.Levels.{IsLevelAxis, IsLevelOf, IsTooLarge}
use Rattle.tb_grid.specs.declared.levels.Grading.{Grading}
use Rattle.tb_grid.specs.declared.levels.GridTooLarge.{GridTooLarge}
use Rattle.tb_grid.specs.declared.levels.GridTooLarge.TheVariants.{Lines, Cells}
use Rattle.tb_grid.proofs.CutLines.{cut_lines}
use Rattle.tb_grid.proofs.LevelLines.{level_lines, level_unique}
use Rattle.tb_grid.proofs.Rises.{cut_increases}
use Rattle.tb_geometry.specs.Base.{base_axes, base_lines}
use Rattle.tb_geometry.proofs.Lines.{base_rises}
use Rattle.tb_demo.specs.Level.{HasLevelCells}
use Rattle.tb_demo.specs.Line.{demo_grading}
use Rattle.tb_demo.specs.Section.{section, storeys}
use Rattle.tb_demo.proofs.Computed.{each_number}

-- the lines of the level grid along an axis
abbrev lines_along : ℕ → AxisName → List ℕ
lines_along n X = cut_lines 2 (base_lines X (storeys n))
lines_along n Y = cut_lines 2 (base_lines Y (storeys n))
lines_along n Z = cut_lines 0 (base_lines Z (storeys n))

abbrev level : ℕ → Axes
level n = record { x = lines_along n X; y = lines_along n Y; z = lines_along n Z }

is_level : (n : ℕ) → IsLevelOf demo_grading (base_axes (storeys n)) (level n)
is_level n X = level_lines 2 0 (base_lines X (storeys n)) (base_rises X (storeys n))
is_level n Y = level_lines 2 0 (base_lines Y (storeys n)) (base_rises Y (storeys n))
is_level n Z = level_lines 0 0 (base_lines Z (storeys n)) (base_rises Z (storeys n))

-- 20 cells along x, 12 a storey along y, one along z
x_lines : (n : ℕ) → 1 ≤ n → n ≤ 16 → length (lines_along n X) ≡ 21
unfolding base_lines
x_lines n some few = eqb-true (length (lines_along n X)) 21 (each_number (λ k. length (lines_along k X) == 21) refl n some few)

y_lines : (n : ℕ) → 1 ≤ n → n ≤ 16 → length (lines_along n Y) ≡ 12 * n + 1
unfolding base_lines
y_lines n some few = eqb-true (length (lines_along n Y)) (12 * n + 1) (each_number (λ k. length (lines_along k Y) == 12 * k + 1) refl n some few)

z_lines : (n : ℕ) → 1 ≤ n → n ≤ 16 → length (lines_along n Z) ≡ 2
unfolding base_lines
z_lines n some few = eqb-true (length (lines_along n Z)) 2 (each_number (λ k. length (lines_along k Z) == 2) refl n some few)

are_axes : (n : ℕ) → 1 ≤ n → n ≤ 16 → (a : AxisName) → IsAxis (lines_of (level n) a)
are_axes n some few X = record { least = omega (arith, x_lines n some few); most = omega (arith, x_lines n some few); rising = cut_increases 2 (base_lines X (storeys n)) (base_rises X (storeys n)) }
are_axes n some few Y = record { least = omega (arith, y_lines n some few); most = omega (arith, y_lines n some few); rising = cut_increases 2 (base_lines Y (storeys n)) (base_rises Y (storeys n)) }
are_axes n some few Z = record { least = omega (arith, z_lines n some few); most = omega (arith, z_lines n some few); rising = cut_increases 0 (base_lines Z (storeys n)) (base_rises Z (storeys n)) }

-- so many cells by the numbers of lines
counted_by : (n x y z : ℕ) → x ≡ 21 → y ≡ 12 * n + 1 → z ≡ 2 → (x - 1) * ((y - 1) * (z - 1)) ≡ 240 * n
counted_by n x y z on_x on_y on_z =
    let one : 12 * n + 1 - 1 ≡ 12 * n = omega arith in
    rw (on_x, on_y, on_z, one) (omega arith)

counted : (n : ℕ) → 1 ≤ n → n ≤ 16 → cell_count (counts_of (level n)) ≡ 240 * n
counted n some few = counted_by n _ _ _ (x_lines n some few) (y_lines n some few) (z_lines n some few)

pub section_level : (n : ℕ) → 1 ≤ n → n ≤ 16 → HasLevelCells (section n) (240 * n)
section_level n some few = record {
  level = level n;
  is_level = is_level n;
  is_grid = record { axes = are_axes n some few; few = omega (arith, counted n some few) };
  counted = counted n some few;
}

-- ---- and it is the only one

along_x : (n : ℕ) (lines : List ℕ) → IsLevelAxis demo_grading (base_axes (storeys n)) X lines → lines ≡ lines_along n X
along_x n lines h = level_unique 2 0 (base_lines X (storeys n)) lines (lines_along n X) h (is_level n X)

along_y : (n : ℕ) (lines : List ℕ) → IsLevelAxis demo_grading (base_axes (storeys n)) Y lines → lines ≡ lines_along n Y
along_y n lines h = level_unique 2 0 (base_lines Y (storeys n)) lines (lines_along n Y) h (is_level n Y)

along_z : (n : ℕ) (lines : List ℕ) → IsLevelAxis demo_grading (base_axes (storeys n)) Z lines → lines ≡ lines_along n Z
along_z n lines h = level_unique 0 0 (base_lines Z (storeys n)) lines (lines_along n Z) h (is_level n Z)

pub level_counted : (n : ℕ) → 1 ≤ n → n ≤ 16 → (g : Axes) → IsLevelOf demo_grading (base_axes (storeys n)) g → cell_count (counts_of g) ≡ 240 * n
level_counted n some few g h =
    counted_by n _ _ _
    (ap (λ (lines : List ℕ). length lines) (along_x n g.x (h X)) ∙ x_lines n some few)
    (ap (λ (lines : List ℕ). length lines) (along_y n g.y (h Y)) ∙ y_lines n some few)
    (ap (λ (lines : List ℕ). length lines) (along_z n g.z (h Z)) ∙ z_lines n some few)

-- so it isn't too large
pub not_too_large : (n : ℕ) → 1 ≤ n → n ≤ 16 → (why : GridTooLarge) → IsTooLarge demo_grading (base_axes (storeys n)) why → ⊥
not_too_large n some few (Lines X count) h =
    let same = ap (λ (lines : List ℕ). length lines) (along_x n h.lines h.level) ∙ x_lines n some few in
    absurd (omega (arith, h.many, same))
not_too_large n some few (Lines Y count) h =
    let same = ap (λ (lines : List ℕ). length lines) (along_y n h.1.lines h.1.level) ∙ y_lines n some few in
    absurd (omega (arith, h.1.many, same, few))
not_too_large n some few (Lines Z count) h =
    let same = ap (λ (lines : List ℕ). length lines) (along_z n h.2.lines h.2.level) ∙ z_lines n some few in
    absurd (omega (arith, h.2.many, same))
not_too_large n some few (Cells count) h =
    let same = level_counted n some few h.level h.is_level in
    absurd (omega (arith, h.many, same, few))

-- the same of equal gradings and details
pub never_too_large : (n : ℕ) (g : Grading) (d : Detail) → 1 ≤ n → n ≤ 16 → g ≡ demo_grading → d ≡ section n → (why : GridTooLarge) → IsTooLarge g (base_axes d.boxes) why → ⊥
never_too_large n g d some few is of why h =
    not_too_large n some few why
    (subst (λ (f : Grading). IsTooLarge f (base_axes (storeys n)) why) is (subst (λ (e : Detail). IsTooLarge g (base_axes e.boxes) why) of h))

pub counted_of : (n : ℕ) (g : Grading) (d : Detail) → 1 ≤ n → n ≤ 16 → g ≡ demo_grading → d ≡ section n → (a : Axes) → IsLevelOf g (base_axes d.boxes) a → cell_count (counts_of a) ≡ 240 * n
counted_of n g d some few is of a h =
    level_counted n some few a
    (subst (λ (f : Grading). IsLevelOf f (base_axes (storeys n)) a) is (subst (λ (e : Detail). IsLevelOf g (base_axes e.boxes) a) of h))
