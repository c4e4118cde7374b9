-- The steps of cut points and pieces: where there is one more, and where there is none.
use Rattle.std.proofs.Common.{◌≡◌, ℕ, zero, suc, ◌+◌, ◌-◌, ◌/◌, ◌<◌, [], ◌∷◌, ◌++◌, refl, arith}
use Rattle.tb_grid.specs.CutPoints.{low_cuts, high_cuts, cuts, cuts_round, pieces, pieces_towards, pieces_graded, pieces_round}

-- ---- cut points
pub low_more : (n p c : ℕ) → 0 < n → 0 < c → low_cuts n p c ≡ low_cuts (n - 1) p (c / 2) ++ (p + c) ∷ []
low_more zero p c some far = absurd (omega arith)
low_more (suc n) p zero some far = absurd (omega arith)
low_more (suc n) p (suc c) some far = let e : suc n - 1 ≡ n = omega arith in rw e refl

pub low_none : (n p : ℕ) → low_cuts n p 0 ≡ []
low_none zero p = refl
low_none (suc n) p = refl

pub high_more : (n q c : ℕ) → 0 < n → 0 < c → high_cuts n q c ≡ (q - c) ∷ high_cuts (n - 1) q (c / 2)
high_more zero q c some far = absurd (omega arith)
high_more (suc n) q zero some far = absurd (omega arith)
high_more (suc n) q (suc c) some far = let e : suc n - 1 ≡ n = omega arith in rw e refl

pub high_none : (n q : ℕ) → high_cuts n q 0 ≡ []
high_none zero q = refl
high_none (suc n) q = refl

round_more : (n p q h : ℕ) → 0 < h → cuts_round n p q h ≡ low_cuts n p (h / 2) ++ (p + h) ∷ high_cuts n q (h / 2)
round_more n p q zero some = absurd (omega arith)
round_more n p q (suc h) some = refl

pub cuts_more : (grade p q h : ℕ) → 0 < grade → h ≡ (q - p) / 2 → 0 < h →
    cuts grade p q ≡ low_cuts (grade - 1) p (h / 2) ++ (p + h) ∷ high_cuts (grade - 1) q (h / 2)
cuts_more zero p q h some is wide = absurd (omega arith)
cuts_more (suc n) p q h some is wide =
    let e : suc n - 1 ≡ n = omega arith in rw (e, ← is) (round_more n p q h wide)

pub cuts_none : (grade p q : ℕ) → (q - p) / 2 ≡ 0 → cuts grade p q ≡ []
cuts_none zero p q narrow = refl
cuts_none (suc n) p q narrow = rw narrow refl

-- ---- pieces
pub towards_more : (k n width c : ℕ) → 0 < n → 0 < c →
    pieces_towards k n width c ≡ pieces k (width - c) + pieces_towards k (n - 1) c (c / 2)
towards_more k zero width c some far = absurd (omega arith)
towards_more k (suc n) width zero some far = absurd (omega arith)
towards_more k (suc n) width (suc c) some far = let e : suc n - 1 ≡ n = omega arith in rw e refl

pub towards_none : (k n width : ℕ) → pieces_towards k n width 0 ≡ pieces k width
towards_none k zero width = refl
towards_none k (suc n) width = refl

pieces_more : (k n w h : ℕ) → 0 < h →
    pieces_round k n w h ≡ pieces_towards k n h (h / 2) + pieces_towards k n (w - h) (h / 2)
pieces_more k n w zero some = absurd (omega arith)
pieces_more k n w (suc h) some = refl

pub graded_more : (k grade w h : ℕ) → 0 < grade → h ≡ w / 2 → 0 < h →
    pieces_graded k grade w ≡ pieces_towards k (grade - 1) h (h / 2) + pieces_towards k (grade - 1) (w - h) (h / 2)
graded_more k zero w h some is wide = absurd (omega arith)
graded_more k (suc n) w h some is wide =
    let e : suc n - 1 ≡ n = omega arith in rw (e, ← is) (pieces_more k n w h wide)

pub graded_none : (k grade w : ℕ) → w / 2 ≡ 0 → pieces_graded k grade w ≡ pieces k w
graded_none k zero w narrow = refl
graded_none k (suc n) w narrow = rw narrow refl
