-- A level grid has all base lines, and begins and ends with them.
use Rattle.std.proofs.Common.{◌≡◌, ℕ, zero, suc, ◌-◌, ◌<◌, ◌≤◌, inl, List, [], ◌∷◌, ◌++◌, length, get_or, refl, sym, ◌∙◌, arith}
use Rattle.std.specs.List.{Contains}
use Rattle.tb_grid.specs.CutPoints.{cuts}
use Rattle.tb_grid.proofs.CutLines.{cut_after, cut_lines, halved}
use Rattle.tb_grid.specs.Level.{IsHalvedTimes, IsLevelGrid, never, once_more}
use Rattle.std.specs.List.Sorted.{IsStrictlyIncreasing}
use Rattle.std.proofs.lemmas.List.{get_or_default}
use Rattle.tb_grid.proofs.LevelLines.{level_lines, level_unique}
use Rattle.tb_grid.proofs.Pieces.{last_from, last_is}
use Rattle.tb_grid.proofs.Through.{two_members}

times_keep : {times : ℕ} {old new : List ℕ} → IsHalvedTimes times old new → (x : ℕ) → Contains old x → Contains new x
times_keep never x there = there
times_keep (once_more first rest) x there = times_keep rest x ((first.same x).1 (inl there))

-- each base line is a line
pub level_has_all : (grade halve : ℕ) (base lines : List ℕ) → IsLevelGrid grade halve base lines →
    (x : ℕ) → Contains base x → Contains lines x
level_has_all grade halve base lines level x there = times_keep level.halved x ((level.graded.same x).1 (inl there))

-- ---- the ends
last_of_parts : (p q : ℕ) (xs ys : List ℕ) → last_from p (xs ++ q ∷ ys) ≡ last_from q ys
last_of_parts p q [] ys = refl
last_of_parts p q (x ∷ xs) ys = last_of_parts x q xs ys

cut_last : (grade p : ℕ) (qs : List ℕ) → last_from p (cut_after grade p qs) ≡ last_from p qs
cut_last grade p [] = refl
cut_last grade p (q ∷ qs) = last_of_parts p q (cuts grade p q) (cut_after grade q qs) ∙ cut_last grade q qs

last_line : (p : ℕ) (qs : List ℕ) → get_or (p ∷ qs) (length (p ∷ qs) - 1) 0 ≡ last_from p qs
last_line p qs = let place : length (p ∷ qs) - 1 ≡ length qs = omega arith in rw place (sym (last_is p qs))

pub cut_first_line : (grade : ℕ) (lines : List ℕ) → get_or (cut_lines grade lines) 0 0 ≡ get_or lines 0 0
cut_first_line grade [] = refl
cut_first_line grade (p ∷ qs) = refl

pub cut_last_line : (grade : ℕ) (lines : List ℕ) →
    get_or (cut_lines grade lines) (length (cut_lines grade lines) - 1) 0 ≡ get_or lines (length lines - 1) 0
cut_last_line grade [] = refl
cut_last_line grade (p ∷ qs) = last_line p (cut_after grade p qs) ∙ cut_last grade p qs ∙ sym (last_line p qs)

pub halved_first : (times : ℕ) (lines : List ℕ) → get_or (halved times lines) 0 0 ≡ get_or lines 0 0
halved_first zero lines = refl
halved_first (suc times) lines = halved_first times (cut_lines 1 lines) ∙ cut_first_line 1 lines

pub halved_last : (times : ℕ) (lines : List ℕ) →
    get_or (halved times lines) (length (halved times lines) - 1) 0 ≡ get_or lines (length lines - 1) 0
halved_last zero lines = refl
halved_last (suc times) lines = halved_last times (cut_lines 1 lines) ∙ cut_last_line 1 lines

pub level_first : (grade halve : ℕ) (base lines : List ℕ) → IsStrictlyIncreasing base → IsLevelGrid grade halve base lines →
    get_or lines 0 0 ≡ get_or base 0 0
level_first grade halve base lines rising level =
    let all = halved halve (cut_lines grade base) in
    let is : lines ≡ all = level_unique grade halve base lines all level (level_lines grade halve base rising) in
    rw is (halved_first halve (cut_lines grade base) ∙ cut_first_line grade base)

pub level_last : (grade halve : ℕ) (base lines : List ℕ) → IsStrictlyIncreasing base → IsLevelGrid grade halve base lines →
    get_or lines (length lines - 1) 0 ≡ get_or base (length base - 1) 0
level_last grade halve base lines rising level =
    let all = halved halve (cut_lines grade base) in
    let is : lines ≡ all = level_unique grade halve base lines all level (level_lines grade halve base rising) in
    rw is (halved_last halve (cut_lines grade base) ∙ cut_last_line grade base)

-- two lines at least, since the first and the last of the base lines stay
pub level_two : (grade halve : ℕ) (base lines : List ℕ) → 2 ≤ length base → IsStrictlyIncreasing base →
    IsLevelGrid grade halve base lines → 2 ≤ length lines
level_two grade halve base lines two rising level =
    let has : (i : ℕ) → i < length base → Contains lines (get_or base i 0) =
    λ i within. level_has_all grade halve base lines level (get_or base i 0) (i, within, get_or_default base i (get_or base i 0) 0 within) in
    two_members lines (get_or base 0 0) (get_or base 1 0) (has 0 (omega arith)) (has 1 (omega arith)) (rising 0 (omega arith))
