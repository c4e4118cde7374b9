-- What the steps towards a level grid answer for one interval: its cut points as a list, and how many pieces it is cut
-- into. `Level` has the definition that these serve.
use Rattle.std.specs.Prelude.{ℕ, zero, suc, ◌+◌, ◌-◌, ◌/◌, ◌^◌, min, List, [], ◌∷◌, ◌++◌}

-- the cut points towards the low end p of an interval, n of them at the most: at the distance c, at half of it, ..
abbrev pub low_cuts : ℕ → ℕ → ℕ → List ℕ
low_cuts zero p c = []
low_cuts (suc n) p zero = []
low_cuts (suc n) p (suc c) = low_cuts n p (suc c / 2) ++ (p + suc c) ∷ []

-- those towards its high end q
abbrev pub high_cuts : ℕ → ℕ → ℕ → List ℕ
high_cuts zero q c = []
high_cuts (suc n) q zero = []
high_cuts (suc n) q (suc c) = (q - suc c) ∷ high_cuts n q (suc c / 2)

-- those round the middle at the distance h from the low end, and the middle itself
abbrev pub cuts_round : ℕ → ℕ → ℕ → ℕ → List ℕ
cuts_round n p q zero = []
cuts_round n p q (suc h) = low_cuts n p (suc h / 2) ++ (p + suc h) ∷ high_cuts n q (suc h / 2)

-- all cut points of the interval from p to q
abbrev pub cuts : ℕ → ℕ → ℕ → List ℕ
cuts zero p q = []
cuts (suc n) p q = cuts_round n p q ((q - p) / 2)

-- ---- how many pieces there are
-- the pieces of an interval of width w, halved k times
abbrev pub pieces : ℕ → ℕ → ℕ
pieces k w = min (2 ^ k) w

-- the pieces of the part of an interval, of this width, that is cut towards its end, n times at the most, at the
-- distance c from the end, at half of it, ..
abbrev pub pieces_towards : ℕ → ℕ → ℕ → ℕ → ℕ
pieces_towards k zero width c = pieces k width
pieces_towards k (suc n) width zero = pieces k width
pieces_towards k (suc n) width (suc c) = pieces k (width - suc c) + pieces_towards k n (suc c) (suc c / 2)

-- the pieces of an interval of width w that is cut round its middle, at the distance h from the low end
abbrev pub pieces_round : ℕ → ℕ → ℕ → ℕ → ℕ
pieces_round k n w zero = pieces k w
pieces_round k n w (suc h) = pieces_towards k n (suc h) (suc h / 2) + pieces_towards k n (w - suc h) (suc h / 2)

-- the pieces of an interval of width w by grade
abbrev pub pieces_graded : ℕ → ℕ → ℕ → ℕ
pieces_graded k zero w = pieces k w
pieces_graded k (suc n) w = pieces_round k n w (w / 2)
