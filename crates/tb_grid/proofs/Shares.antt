-- The cut points of an interval are its shares above the low end and below the high end.
use Rattle.std.proofs.Common.{◌≡◌, ℕ, zero, suc, ◌+◌, ◌-◌, ◌/◌, ◌^◌, ◌<◌, ◌≤◌, ◌⊎◌, inl, inr, ⊎_elim, [], ◌∷◌, refl, sym, ap, ◌∙◌, arith}
use Rattle.std.proofs.Math.Nat.{div-div-eq-div-mul, div-one, zero-div, pow-succ'}
use Rattle.std.specs.List.{Contains}
use Rattle.std.proofs.lemmas.List.Elements.{Contains-append_cases, Contains-append_left, Contains-append_right}
use Rattle.tb_grid.specs.Level.{IsCutOf, share}
use Rattle.tb_grid.specs.CutPoints.{low_cuts, high_cuts, cuts_round, cuts}
use Rattle.tb_grid.proofs.RisingLists.{member_cases, first_member, later_member, no_member}

-- half of a distance, halved i times, is the distance halved once more
pub half_share : (c i : ℕ) → c / 2 / 2 ^ i ≡ c / 2 ^ suc i
half_share c i = div-div-eq-div-mul c 2 (2 ^ i) ∙ ap (λ (d : ℕ). c / d) (sym (pow-succ' 2 i))

-- s is the distance c, halved less than n times, and at least 1
pub record IsShare (n c s : ℕ) : Type 0 where
  pub i : ℕ
  pub below : i < n
  pub some : 1 ≤ s
  pub is : s ≡ c / 2 ^ i

whole_share : (n c : ℕ) → IsShare (suc n) (suc c) (suc c)
whole_share n c = record { i = 0; below = omega arith; some = omega arith; is = sym (div-one (suc c)) }

half_more : (n c s : ℕ) → IsShare n (c / 2) s → IsShare (suc n) c s
half_more n c s h = record { i = suc h.i; below = let b = h.below in omega arith; some = h.some; is = h.is ∙ half_share c h.i }

share_cases : (n c s : ℕ) → IsShare (suc n) c s → (s ≡ c) ⊎ IsShare n (c / 2) s
share_cases n c s h = by_halvings h.i h.below h.some h.is where
  by_halvings : (i : ℕ) → i < suc n → 1 ≤ s → s ≡ c / 2 ^ i → (s ≡ c) ⊎ IsShare n (c / 2) s
  by_halvings zero below some is = inl (is ∙ div-one c)
  by_halvings (suc i) below some is =
      inr (record { i = i; below = omega arith; some = some; is = is ∙ sym (half_share c i) })

no_share : (n s : ℕ) → IsShare n 0 s → ⊥
no_share n s h = let none = zero-div (2 ^ h.i) in let some = h.some in let is = h.is in omega arith

none_left : (c s : ℕ) → IsShare 0 c s → ⊥
none_left c s h = let below = h.below in omega arith

-- ---- towards the low end
pub record IsLow (n p c x : ℕ) : Type 0 where
  pub s : ℕ
  pub is_share : IsShare n c s
  pub at : x ≡ p + s

pub low_are : (n p c x : ℕ) → Contains (low_cuts n p c) x → IsLow n p c x
low_are zero p c x there = absurd (no_member x there)
low_are (suc n) p zero x there = absurd (no_member x there)
low_are (suc n) p (suc c) x there =
    ⊎_elim (λ nearer. let h = low_are n p (suc c / 2) x nearer in
    record { s = h.s; is_share = half_more n (suc c) h.s h.is_share; at = h.at })
    (λ last. ⊎_elim (λ (here : p + suc c ≡ x). record { s = suc c; is_share = whole_share n c; at = sym here })
    (λ none. absurd (no_member x none)) (member_cases (p + suc c) [] x last))
    (Contains-append_cases (low_cuts n p (suc c / 2)) ((p + suc c) ∷ []) x there)

pub low_have : (n p c s : ℕ) → IsShare n c s → Contains (low_cuts n p c) (p + s)
low_have zero p c s h = absurd (none_left c s h)
low_have (suc n) p zero s h = absurd (no_share (suc n) s h)
low_have (suc n) p (suc c) s h =
    ⊎_elim (λ (is : s ≡ suc c).
    rw is (Contains-append_right (low_cuts n p (suc c / 2)) ((p + suc c) ∷ []) (p + suc c) (first_member (p + suc c) [] _ refl)))
    (λ less. Contains-append_left (low_cuts n p (suc c / 2)) ((p + suc c) ∷ []) (p + s) (low_have n p (suc c / 2) s less))
    (share_cases n (suc c) s h)

-- ---- towards the high end
pub record IsHigh (n q c x : ℕ) : Type 0 where
  pub s : ℕ
  pub is_share : IsShare n c s
  pub at : x ≡ q - s

pub high_are : (n q c x : ℕ) → Contains (high_cuts n q c) x → IsHigh n q c x
high_are zero q c x there = absurd (no_member x there)
high_are (suc n) q zero x there = absurd (no_member x there)
high_are (suc n) q (suc c) x there =
    ⊎_elim (λ (here : q - suc c ≡ x). record { s = suc c; is_share = whole_share n c; at = sym here })
    (λ nearer. let h = high_are n q (suc c / 2) x nearer in
    record { s = h.s; is_share = half_more n (suc c) h.s h.is_share; at = h.at })
    (member_cases (q - suc c) (high_cuts n q (suc c / 2)) x there)

pub high_have : (n q c s : ℕ) → IsShare n c s → Contains (high_cuts n q c) (q - s)
high_have zero q c s h = absurd (none_left c s h)
high_have (suc n) q zero s h = absurd (no_share (suc n) s h)
high_have (suc n) q (suc c) s h =
    ⊎_elim (λ (is : s ≡ suc c). rw is (first_member (q - suc c) (high_cuts n q (suc c / 2)) _ refl))
    (λ less. later_member (q - suc c) (high_cuts n q (suc c / 2)) (q - s) (high_have n q (suc c / 2) s less))
    (share_cases n (suc c) s h)

-- ---- both ends
-- half of the width, halved i times, is share i + 1, and a quarter of it share i + 2
round_are : (n p q h x : ℕ) → h ≡ (q - p) / 2 → Contains (cuts_round n p q h) x → IsCutOf (suc n) p q x
round_are n p q zero x is there = absurd (no_member x there)
round_are n p q (suc h) x is there =
    ⊎_elim (λ low. let l = low_are n p (suc h / 2) x low in let s = l.is_share in let below = s.below in
    let two : l.s ≡ share p q (suc (suc s.i)) = quarter s.i l.s s.is in
    record {
      j = suc (suc s.i);
      most = omega arith;
      some = rw (← two) s.some;
      at = inl (omega arith, l.at ∙ ap (λ (m : ℕ). p + m) two);
    })
    (λ rest. ⊎_elim (λ (here : p + suc h ≡ x).
    let one : suc h ≡ share p q 1 = is in
    record { j = 1; most = omega arith; some = omega arith; at = inl (omega arith, sym here ∙ ap (λ (m : ℕ). p + m) one) })
    (λ high. let l = high_are n q (suc h / 2) x high in let s = l.is_share in let below = s.below in
    let two : l.s ≡ share p q (suc (suc s.i)) = quarter s.i l.s s.is in
    record {
      j = suc (suc s.i);
      most = omega arith;
      some = rw (← two) s.some;
      at = inr (omega arith, l.at ∙ ap (λ (m : ℕ). q - m) two);
    })
    (member_cases (p + suc h) (high_cuts n q (suc h / 2)) x rest))
    (Contains-append_cases (low_cuts n p (suc h / 2)) ((p + suc h) ∷ high_cuts n q (suc h / 2)) x there) where
      quarter : (i s : ℕ) → s ≡ suc h / 2 / 2 ^ i → s ≡ share p q (suc (suc i))
      quarter i s at = at ∙ half_share (suc h) i ∙ ap (λ (m : ℕ). m / 2 ^ suc i) is ∙ half_share (q - p) (suc i)

pub cuts_are : (grade p q x : ℕ) → Contains (cuts grade p q) x → IsCutOf grade p q x
cuts_are zero p q x there = absurd (no_member x there)
cuts_are (suc n) p q x there = round_are n p q ((q - p) / 2) x refl there

-- the shares from the second on are shares of a quarter
later_share : (n p q h j : ℕ) → h ≡ (q - p) / 2 → suc (suc j) ≤ suc n → 1 ≤ share p q (suc (suc j)) →
    IsShare n (h / 2) (share p q (suc (suc j)))
later_share n p q h j is most some =
    record {
      i = j;
      below = omega arith;
      some = some;
      is = sym (half_share h j ∙ ap (λ (m : ℕ). m / 2 ^ suc j) is ∙ half_share (q - p) (suc j));
    }

-- where half of the width is 0, so is each share
no_half : (p q j : ℕ) → 0 ≡ (q - p) / 2 → 1 ≤ share p q (suc j) → ⊥
no_half p q j is some =
    let e : 0 / 2 ^ j ≡ share p q (suc j) = ap (λ (m : ℕ). m / 2 ^ j) is ∙ half_share (q - p) j in
    let none = zero-div (2 ^ j) in omega arith

round_low : (n p q h j : ℕ) → h ≡ (q - p) / 2 → 1 ≤ j → j ≤ suc n → 1 ≤ share p q j →
    Contains (cuts_round n p q h) (p + share p q j)
round_low n p q h zero is first most some = absurd (omega arith)
round_low n p q zero (suc j) is first most some = absurd (no_half p q j is some)
round_low n p q (suc h) (suc zero) is first most some =
    let one : share p q 1 ≡ suc h = sym is in
    rw one (Contains-append_right (low_cuts n p (suc h / 2)) ((p + suc h) ∷ high_cuts n q (suc h / 2)) (p + suc h)
    (first_member (p + suc h) (high_cuts n q (suc h / 2)) _ refl))
round_low n p q (suc h) (suc (suc j)) is first most some =
    Contains-append_left (low_cuts n p (suc h / 2)) ((p + suc h) ∷ high_cuts n q (suc h / 2)) (p + share p q (suc (suc j)))
    (low_have n p (suc h / 2) (share p q (suc (suc j))) (later_share n p q (suc h) j is most some))

round_high : (n p q h j : ℕ) → h ≡ (q - p) / 2 → 2 ≤ j → j ≤ suc n → 1 ≤ share p q j →
    Contains (cuts_round n p q h) (q - share p q j)
round_high n p q h zero is first most some = absurd (omega arith)
round_high n p q h (suc zero) is first most some = absurd (omega arith)
round_high n p q zero (suc (suc j)) is first most some = absurd (no_half p q (suc j) is some)
round_high n p q (suc h) (suc (suc j)) is first most some =
    let x = q - share p q (suc (suc j)) in
    Contains-append_right (low_cuts n p (suc h / 2)) ((p + suc h) ∷ high_cuts n q (suc h / 2)) x
    (later_member (p + suc h) (high_cuts n q (suc h / 2)) x
    (high_have n q (suc h / 2) (share p q (suc (suc j))) (later_share n p q (suc h) j is most some)))

pub cuts_have : (grade p q x : ℕ) → IsCutOf grade p q x → Contains (cuts grade p q) x
cuts_have zero p q x cut =
    let most = cut.most in
    absurd (⊎_elim (λ low. let first = low.0 in omega arith) (λ high. let first = high.0 in omega arith) cut.at)
cuts_have (suc n) p q x cut =
    ⊎_elim (λ low. rw low.1 (round_low n p q ((q - p) / 2) cut.j refl low.0 cut.most cut.some))
    (λ high. rw high.1 (round_high n p q ((q - p) / 2) cut.j refl high.0 cut.most cut.some)) cut.at
