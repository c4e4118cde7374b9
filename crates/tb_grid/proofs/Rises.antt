-- Lines with their cut points rise.
use Rattle.std.proofs.Common.{◌≡◌, ℕ, zero, suc, ◌+◌, ◌-◌, ◌/◌, ◌<◌, List, [], ◌∷◌, ◌++◌, get_or, refl, subst, arith, append_assoc}
use Rattle.std.specs.List.Sorted.{IsStrictlyIncreasing}
use Rattle.tb_grid.specs.CutPoints.{low_cuts, high_cuts, cuts_round, cuts}
use Rattle.tb_grid.proofs.CutLines.{cut_after, cut_lines}
use Rattle.tb_grid.proofs.RisingLists.{tail_rises}

-- ---- rising from a line, and rising by index
-- lines after p rise from p
abbrev pub RisesFrom : ℕ → List ℕ → Type 0
RisesFrom p [] = Unit {0}
RisesFrom p (q ∷ qs) = (p < q) × RisesFrom q qs

pub rises_from : (p : ℕ) (qs : List ℕ) → IsStrictlyIncreasing (p ∷ qs) → RisesFrom p qs
rises_from p [] rising = tt
rises_from p (q ∷ qs) rising = (rising 0 (omega arith), rises_from q qs (tail_rises p (q ∷ qs) rising))

pub increasing : (p : ℕ) (qs : List ℕ) → RisesFrom p qs → IsStrictlyIncreasing (p ∷ qs)
increasing p [] rises k below = absurd (omega arith)
increasing p (q ∷ qs) (up, rises) zero below = up
increasing p (q ∷ qs) (up, rises) (suc k) below =
    let place : suc (k + 1) ≡ suc k + 1 = omega arith in
    subst (λ (m : ℕ). get_or (q ∷ qs) k 0 < get_or (p ∷ q ∷ qs) m 0) place (increasing q qs rises k (omega arith))

-- ---- cut points rise within their interval
rises_append : (p q : ℕ) (xs ys : List ℕ) → RisesFrom p (xs ++ q ∷ []) → RisesFrom q ys → RisesFrom p (xs ++ q ∷ ys)
rises_append p q [] ys (up, end) rest = (up, rest)
rises_append p q (x ∷ xs) ys (up, more) rest = (up, rises_append x q xs ys more rest)

low_rises : (n p c top : ℕ) → c < top → RisesFrom p (low_cuts n p c ++ (p + top) ∷ [])
low_rises zero p c top below = (omega arith, tt)
low_rises (suc n) p zero top below = (omega arith, tt)
low_rises (suc n) p (suc c) top below =
    let before = low_rises n p (suc c / 2) (suc c) (omega arith) in
    let last : RisesFrom (p + suc c) ((p + top) ∷ []) = (omega arith, tt) in
    rw append_assoc (rises_append p (p + suc c) (low_cuts n p (suc c / 2)) ((p + top) ∷ []) before last)

high_rises : (start n q c : ℕ) → start < q - c → RisesFrom start (high_cuts n q c ++ q ∷ [])
high_rises start zero q c above = (omega arith, tt)
high_rises start (suc n) q zero above = (omega arith, tt)
high_rises start (suc n) q (suc c) above = (above, high_rises (q - suc c) n q (suc c / 2) (omega arith))

round_rises : (n p q h : ℕ) → p < q → h ≡ (q - p) / 2 → RisesFrom p (cuts_round n p q h ++ q ∷ [])
round_rises n p q zero up is = (up, tt)
round_rises n p q (suc h) up is =
    let low = low_rises n p (suc h / 2) (suc h) (omega arith) in
    let high = high_rises (p + suc h) n q (suc h / 2) (omega arith) in
    rw append_assoc (rises_append p (p + suc h) (low_cuts n p (suc h / 2)) (high_cuts n q (suc h / 2) ++ q ∷ []) low high)

pub cuts_rise : (grade p q : ℕ) → p < q → RisesFrom p (cuts grade p q ++ q ∷ [])
cuts_rise zero p q up = (up, tt)
cuts_rise (suc n) p q up = round_rises n p q ((q - p) / 2) up refl

pub cut_rises : (grade p : ℕ) (qs : List ℕ) → RisesFrom p qs → RisesFrom p (cut_after grade p qs)
cut_rises grade p [] rises = tt
cut_rises grade p (q ∷ qs) (up, rises) =
    rises_append p q (cuts grade p q) (cut_after grade q qs) (cuts_rise grade p q up) (cut_rises grade q qs rises)

pub cut_increases : (grade : ℕ) (lines : List ℕ) → IsStrictlyIncreasing lines → IsStrictlyIncreasing (cut_lines grade lines)
cut_increases grade [] rising = rising
cut_increases grade (p ∷ qs) rising = increasing p (cut_after grade p qs) (cut_rises grade p qs (rises_from p qs rising))
