-- How many lines a level grid has, without a list of them: an interval of width w that is halved k times has 2^k
-- pieces, or as many as it is wide.
use Rattle.std.proofs.Common.{◌≡◌, ℕ, zero, suc, ◌+◌, ◌-◌, ◌/◌, ◌^◌, ◌<◌, ◌≤◌, min, List, [], ◌∷◌, ◌++◌, length, refl, ap, ◌∙◌, arith, append_assoc, get_or}
use Rattle.std.proofs.Math.Nat.{two-pow-succ}
use Rattle.std.proofs.Math.Pow.{pow_pos}
use Rattle.tb_grid.specs.CutPoints.{low_cuts, high_cuts, cuts_round, cuts, pieces, pieces_towards, pieces_round, pieces_graded}
use Rattle.tb_grid.proofs.CutLines.{cut_after, cut_lines, halved, pieces_after, level_count}
use Rattle.std.specs.List.Sorted.{IsStrictlyIncreasing}
use Rattle.tb_grid.proofs.Rises.{RisesFrom, rises_from, cut_increases}

-- ---- sums over lists
pub pieces_append : (k grade p q : ℕ) (xs ys : List ℕ) →
    pieces_after k grade p (xs ++ q ∷ ys) ≡ pieces_after k grade p (xs ++ q ∷ []) + pieces_after k grade q ys
pieces_append k grade p q [] ys = omega arith
pieces_append k grade p q (x ∷ xs) ys = let h = pieces_append k grade x q xs ys in omega arith

pub pieces_low : (k n p top c : ℕ) → c ≤ top →
    pieces_after k 0 p (low_cuts n p c ++ (p + top) ∷ []) ≡ pieces_towards k n top c
pieces_low k zero p top c below = let w : p + top - p ≡ top = omega arith in rw w (omega arith)
pieces_low k (suc n) p top zero below = let w : p + top - p ≡ top = omega arith in rw w (omega arith)
pieces_low k (suc n) p top (suc c) below =
    let w : p + top - (p + suc c) ≡ top - suc c = omega arith in
    let before = pieces_low k n p (suc c) (suc c / 2) (omega arith) in
    let last : pieces_after k 0 (p + suc c) ((p + top) ∷ []) ≡ pieces k (top - suc c) = rw w (omega arith) in
    let parts = pieces_append k 0 p (p + suc c) (low_cuts n p (suc c / 2)) ((p + top) ∷ []) in
    rw append_assoc (omega (arith, parts, last, before))

pub pieces_high : (k n q width c : ℕ) → c ≤ width → width ≤ q →
    pieces_after k 0 (q - width) (high_cuts n q c ++ q ∷ []) ≡ pieces_towards k n width c
pieces_high k zero q width c below within = let w : q - (q - width) ≡ width = omega arith in rw w (omega arith)
pieces_high k (suc n) q width zero below within = let w : q - (q - width) ≡ width = omega arith in rw w (omega arith)
pieces_high k (suc n) q width (suc c) below within =
    let w : q - suc c - (q - width) ≡ width - suc c = omega arith in
    let rest = pieces_high k n q (suc c) (suc c / 2) (omega arith) (omega arith) in
    rw (w, rest) refl

pieces_both : (k n p q h : ℕ) → h ≡ (q - p) / 2 → p ≤ q →
    pieces_after k 0 p (cuts_round n p q h ++ q ∷ []) ≡ pieces_round k n (q - p) h
pieces_both k n p q zero is below = omega arith
pieces_both k n p q (suc h) is below =
    let low = pieces_low k n p (suc h) (suc h / 2) (omega arith) in
    let start : q - (q - p - suc h) ≡ p + suc h = omega arith in
    let high = rw start at (pieces_high k n q (q - p - suc h) (suc h / 2) (omega arith) (omega arith)) in
    let parts = pieces_append k 0 p (p + suc h) (low_cuts n p (suc h / 2)) (high_cuts n q (suc h / 2) ++ q ∷ []) in
    rw append_assoc (omega (arith, parts, low, high))

pub pieces_cuts : (k grade p q : ℕ) → p ≤ q → pieces_after k 0 p (cuts grade p q ++ q ∷ []) ≡ pieces_graded k grade (q - p)
pieces_cuts k zero p q below = omega arith
pieces_cuts k (suc n) p q below = pieces_both k n p q ((q - p) / 2) refl below

-- the pieces of lines with their cut points are those that the grade says
pub pieces_of_cut : (k grade p : ℕ) (qs : List ℕ) → RisesFrom p qs →
    pieces_after k 0 p (cut_after grade p qs) ≡ pieces_after k grade p qs
pieces_of_cut k grade p [] rises = refl
pieces_of_cut k grade p (q ∷ qs) (up, rises) =
    let here = pieces_cuts k grade p q (omega arith) in
    let rest = pieces_of_cut k grade q qs rises in
    let parts = pieces_append k 0 p q (cuts grade p q) (cut_after grade q qs) in
    omega (arith, parts, here, rest)

-- ---- halving
halving_more : (t w h : ℕ) → h ≡ w / 2 → min t h + min t (w - h) ≡ min (t + t) w
halving_more t w h is = omega arith

halved_round : (k w h : ℕ) → 0 < w → h ≡ w / 2 → pieces_round k 0 w h ≡ pieces (suc k) w
halved_round k w zero some is = let twice = two-pow-succ k in let t : 0 < 2 ^ k = pow_pos k in omega arith
halved_round k w (suc h) some is = let twice = two-pow-succ k in let both = halving_more (2 ^ k) w (suc h) is in rw twice both

-- one cut at the middle is one halving
pub halved_once : (k w : ℕ) → 0 < w → pieces_graded k 1 w ≡ pieces (suc k) w
halved_once k w some = halved_round k w (w / 2) some refl

pub pieces_halved : (k p : ℕ) (qs : List ℕ) → RisesFrom p qs → pieces_after k 1 p qs ≡ pieces_after (suc k) 0 p qs
pieces_halved k p [] rises = refl
pieces_halved k p (q ∷ qs) (up, rises) =
    let here = halved_once k (q - p) (omega arith) in
    let rest = pieces_halved k q qs rises in
    rw (here, rest) refl

-- each line after the first ends one piece
pub pieces_are_lines : (p : ℕ) (qs : List ℕ) → RisesFrom p qs → length qs ≡ pieces_after 0 0 p qs
pieces_are_lines p [] rises = refl
pieces_are_lines p (q ∷ qs) (up, rises) = let rest = pieces_are_lines q qs rises in omega arith

-- ---- an interval has at most as many pieces as it is wide
towards_few : (k n width c : ℕ) → c ≤ width → pieces_towards k n width c ≤ width
towards_few k zero width c below = omega arith
towards_few k (suc n) width zero below = omega arith
towards_few k (suc n) width (suc c) below = let rest = towards_few k n (suc c) (suc c / 2) (omega arith) in omega arith

round_few : (k n w h : ℕ) → h ≡ w / 2 → pieces_round k n w h ≤ w
round_few k n w zero is = omega arith
round_few k n w (suc h) is =
    let low = towards_few k n (suc h) (suc h / 2) (omega arith) in
    let high = towards_few k n (w - suc h) (suc h / 2) (omega arith) in
    omega arith

pub graded_few : (k grade w : ℕ) → pieces_graded k grade w ≤ w
graded_few k zero w = omega arith
graded_few k (suc n) w = round_few k n w (w / 2) refl

-- the last line from p on
abbrev pub last_from : ℕ → List ℕ → ℕ
last_from p [] = p
last_from p (q ∷ qs) = last_from q qs

pub last_is : (p : ℕ) (qs : List ℕ) → last_from p qs ≡ get_or (p ∷ qs) (length qs) 0
last_is p [] = refl
last_is p (q ∷ qs) = last_is q qs

pub pieces_few : (k grade p : ℕ) (qs : List ℕ) → RisesFrom p qs → p + pieces_after k grade p qs ≤ last_from p qs
pieces_few k grade p [] rises = omega arith
pieces_few k grade p (q ∷ qs) (up, rises) =
    let here = graded_few k grade (q - p) in let rest = pieces_few k grade q qs rises in omega arith

-- ---- the level grid has as many lines as its base lines and options say
pub halved_count : (times : ℕ) (lines : List ℕ) → IsStrictlyIncreasing lines →
    length (halved times lines) ≡ level_count times 0 lines
halved_count zero [] rising = refl
halved_count zero (p ∷ qs) rising = ap suc (pieces_are_lines p qs (rises_from p qs rising))
halved_count (suc times) [] rising = halved_count times [] rising
halved_count (suc times) (p ∷ qs) rising =
    let rises = rises_from p qs rising in
    halved_count times (cut_lines 1 (p ∷ qs)) (cut_increases 1 (p ∷ qs) rising) ∙
    ap suc (pieces_of_cut times 1 p qs rises ∙ pieces_halved times p qs rises)

pub level_counted : (halve grade : ℕ) (base : List ℕ) → IsStrictlyIncreasing base →
    length (halved halve (cut_lines grade base)) ≡ level_count halve grade base
level_counted halve grade [] rising = halved_count halve [] rising
level_counted halve grade (p ∷ qs) rising =
    halved_count halve (cut_lines grade (p ∷ qs)) (cut_increases grade (p ∷ qs) rising) ∙
    ap suc (pieces_of_cut halve grade p qs (rises_from p qs rising))

-- not more lines than there are coordinates up to the last line
pub count_few : (halve grade : ℕ) (base : List ℕ) → IsStrictlyIncreasing base → 0 < length base →
    level_count halve grade base ≤ get_or base (length base - 1) 0 + 1
count_few halve grade [] rising some = absurd (omega arith)
count_few halve grade (p ∷ qs) rising some =
    let few = pieces_few halve grade p qs (rises_from p qs rising) in
    let last = last_is p qs in
    let place : length (p ∷ qs) - 1 ≡ length qs = omega arith in
    rw place (omega arith)
