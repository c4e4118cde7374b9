-- Lines with their cut points as a list, and how many lines the level grid has as a sum.
use Rattle.std.proofs.Common.{◌≡◌, ℕ, zero, suc, ◌+◌, ◌-◌, ◌<◌, List, [], ◌∷◌, ◌++◌, length, get_or, drop, refl, arith}
use Rattle.std.proofs.lemmas.List.{drop_all, drop_more}
use Rattle.tb_grid.specs.CutPoints.{cuts, pieces_graded}

-- the lines after p, with the cut points before each
abbrev pub cut_after : ℕ → ℕ → List ℕ → List ℕ
cut_after grade p [] = []
cut_after grade p (q ∷ qs) = cuts grade p q ++ q ∷ cut_after grade q qs

-- lines with the cut points of their intervals
abbrev pub cut_lines : ℕ → List ℕ → List ℕ
cut_lines grade [] = []
cut_lines grade (p ∷ qs) = p ∷ cut_after grade p qs

-- lines cut at the middles so many times
abbrev pub halved : ℕ → List ℕ → List ℕ
halved zero lines = lines
halved (suc times) lines = halved times (cut_lines 1 lines)

-- all pieces from p on
abbrev pub pieces_after : ℕ → ℕ → ℕ → List ℕ → ℕ
pieces_after k grade p [] = 0
pieces_after k grade p (q ∷ qs) = pieces_graded k grade (q - p) + pieces_after k grade q qs

-- how many lines the level grid of lines has
abbrev pub level_count : ℕ → ℕ → List ℕ → ℕ
level_count k grade [] = 0
level_count k grade (p ∷ qs) = suc (pieces_after k grade p qs)

-- ---- the steps along a list
two_more : (lines : List ℕ) (i : ℕ) → i + 1 < length lines →
    drop i lines ≡ get_or lines i 0 ∷ get_or lines (i + 1) 0 ∷ drop (i + 1 + 1) lines
two_more lines i within =
    let here : drop i lines ≡ get_or lines i 0 ∷ drop (i + 1) lines = drop_more lines i 0 (omega arith) in
    let next : drop (i + 1) lines ≡ get_or lines (i + 1) 0 ∷ drop (i + 1 + 1) lines = drop_more lines (i + 1) 0 within in
    cc

pub cut_step : (grade : ℕ) (lines : List ℕ) (i : ℕ) → i + 1 < length lines →
    cut_lines grade (drop i lines) ≡
    get_or lines i 0 ∷ (cuts grade (get_or lines i 0) (get_or lines (i + 1) 0) ++ cut_lines grade (drop (i + 1) lines))
cut_step grade lines i within =
    let next : drop (i + 1) lines ≡ get_or lines (i + 1) 0 ∷ drop (i + 1 + 1) lines = drop_more lines (i + 1) 0 within in
    rw (two_more lines i within, next) refl

pub cut_last_step : (grade : ℕ) (lines : List ℕ) (i : ℕ) → i + 1 ≡ length lines →
    cut_lines grade (drop i lines) ≡ get_or lines i 0 ∷ cut_lines grade (drop (i + 1) lines)
cut_last_step grade lines i last =
    let here : drop i lines ≡ get_or lines i 0 ∷ drop (i + 1) lines = drop_more lines i 0 (omega arith) in
    let end : drop (i + 1) lines ≡ [] = drop_all (i + 1) lines (omega arith) in
    rw (here, end) refl

pub count_step : (k grade : ℕ) (lines : List ℕ) (i : ℕ) → i + 1 < length lines →
    level_count k grade (drop i lines) ≡
    pieces_graded k grade (get_or lines (i + 1) 0 - get_or lines i 0) + level_count k grade (drop (i + 1) lines)
count_step k grade lines i within =
    let next : drop (i + 1) lines ≡ get_or lines (i + 1) 0 ∷ drop (i + 1 + 1) lines = drop_more lines (i + 1) 0 within in
    rw (two_more lines i within, next) (omega arith)

pub count_last_step : (k grade : ℕ) (lines : List ℕ) (i : ℕ) → i + 1 ≡ length lines → level_count k grade (drop i lines) ≡ 1
count_last_step k grade lines i last =
    let here : drop i lines ≡ get_or lines i 0 ∷ drop (i + 1) lines = drop_more lines i 0 (omega arith) in
    let end : drop (i + 1) lines ≡ [] = drop_all (i + 1) lines (omega arith) in
    rw (here, end) refl
