-- The lines that stand whole in a front of a text.
use Rattle.std.proofs.Common.{◌≡◌, ◌≢◌, ◌∙◌, refl, sym, ap, subst, inl, inr, ℕ, zero, suc, ◌+◌, ◌-◌, ◌==◌, false, List, [], ◌∷◌, ◌++◌, length, take, arith, All, if◌then◌else◌}
use Rattle.std.specs.Prelude.{codes}
use Rattle.std.specs.List.{flat_map}
use Rattle.std.proofs.lemmas.Bool.{cases_Bool, cases_lt}
use Rattle.std.proofs.lemmas.Bool.Decides.{nat_tests}
use Rattle.std.proofs.lemmas.List.{append-nil, append_assoc, take-append-le}
use Rattle.std.proofs.Math.Seq.{take-append-add}
use Rattle.std.proofs.lemmas.List.Elements.{All-cons, All-nil, All-head, All-tail, All-take}
use Rattle.tb_checker.specs.Lines.{EndsLine, IsWholeLine}

abbrev pub Unbroken : List ℕ → Type 0
Unbroken text = All (λ byte. byte ≢ 10) text

-- the whole lines of a text, the first of which has begun
lines_from : List ℕ → List ℕ → List (List ℕ)
lines_from begun [] = []
lines_from begun (x ∷ xs) = if x == 10 then begun ∷ lines_from [] xs else lines_from (begun ++ (x ∷ [])) xs

ended : (begun xs : List ℕ) → lines_from begun (10 ∷ xs) ≡ begun ∷ lines_from [] xs
unfolding lines_from
ended begun xs = refl

going : (begun : List ℕ) (x : ℕ) (xs : List ℕ) → x ≢ 10 → lines_from begun (x ∷ xs) ≡ lines_from (begun ++ (x ∷ [])) xs
unfolding lines_from
going begun x xs h = let f : (x == 10) ≡ false = grind (arith, nat_tests, h) in rw f refl

no_lines : (begun : List ℕ) → lines_from begun [] ≡ []
unfolding lines_from
no_lines begun = refl

-- a line without a line feed, and what follows it
line_then : (begun line after : List ℕ) → Unbroken line → lines_from begun (line ++ (10 ∷ after)) ≡ (begun ++ line) ∷ lines_from [] after
line_then begun [] after h = ended begun after ∙ ap (λ l. l ∷ lines_from [] after) (sym (append-nil begun))
line_then begun (x ∷ xs) after h =
    going begun x (xs ++ (10 ∷ after)) (All-head (λ byte. byte ≢ 10) x xs h)
    ∙ line_then (begun ++ (x ∷ [])) xs after (All-tail (λ byte. byte ≢ 10) x xs h)
    ∙ ap (λ l. l ∷ lines_from [] after) (append_assoc begun (x ∷ []) xs)

unended : (begun text : List ℕ) → Unbroken text → lines_from begun text ≡ []
unended begun [] h = no_lines begun
unended begun (x ∷ xs) h = going begun x xs (All-head (λ byte. byte ≢ 10) x xs h) ∙ unended (begun ++ (x ∷ [])) xs (All-tail (λ byte. byte ≢ 10) x xs h)

-- ---- each whole line is among them

module _ (P : List ℕ → Type 0) where
  -- what holds of all whole lines holds of those behind a line feed
  behind : (begun front rest : List ℕ) → All P (lines_from begun (front ++ (10 ∷ rest))) → All P (lines_from [] rest)
  behind begun [] rest h = All-tail P begun (lines_from [] rest) (rw (ended begun rest) at h)
  behind begun (x ∷ xs) rest h = elim (cases_Bool (x == 10)) [
    | inl e ↦
        let is : x ≡ 10 = grind (arith, nat_tests) in
        behind [] xs rest (All-tail P begun (lines_from [] (xs ++ (10 ∷ rest))) (rw (is, ended begun (xs ++ (10 ∷ rest))) at h))
    | inr f ↦
        let is_not : x ≢ 10 = λ e. grind (arith, nat_tests) in
        behind (begun ++ (x ∷ [])) xs rest (rw (going begun x (xs ++ (10 ∷ rest)) is_not) at h)
  ]

  from_start : (line after : List ℕ) → Unbroken line → All P (lines_from [] (line ++ (10 ∷ after))) → P line
  from_start line after h all = All-head P line (lines_from [] after) (rw (line_then [] line after h) at all)

  whole : (text line : List ℕ) → IsWholeLine text line → All P (lines_from [] text) → P line
  whole text line w all = by w.before w.begins w.stands
    where
      nested : (line ++ codes "\n") ++ w.after ≡ line ++ (10 ∷ w.after)
      nested = append_assoc line (10 ∷ []) w.after

      by : (before : List ℕ) → EndsLine before → text ≡ before ++ (line ++ codes "\n" ++ w.after) → P line
      by before (inl none) is =
          from_start line w.after w.unbroken (subst (λ t. All P (lines_from [] t)) (is ∙ ap (λ b. b ++ (line ++ codes "\n" ++ w.after)) none ∙ nested) all)
      by before (inr (front, ends)) is =
          from_start line w.after w.unbroken (behind [] front (line ++ (10 ∷ w.after)) (subst (λ t. All P (lines_from [] t))
          (is ∙ ap (λ b. b ++ (line ++ codes "\n" ++ w.after)) ends ∙ ap (λ t. (front ++ codes "\n") ++ t) nested ∙ append_assoc front (10 ∷ []) (line ++ (10 ∷ w.after))) all))

  -- ---- the whole lines of a front

  abbrev with_feeds : List (List ℕ) → List ℕ
  with_feeds texts = flat_map (λ text. text ++ codes "\n") texts

  front_lines : (texts : List (List ℕ)) (n : ℕ) → All (λ text. P text × Unbroken text) texts → All P (lines_from [] (take n (with_feeds texts)))
  front_lines [] n h = subst (λ t. All P (lines_from [] t)) (none n) (rw (no_lines []) (All-nil P))
    where
      none : (n : ℕ) → ◌≡◌ {A = List ℕ} [] (take n [])
      none zero = refl
      none (suc n) = refl
  front_lines (text ∷ texts) n h = elim (cases_lt (length text) n) [
    | inl past ↦
        let here = All-head (λ text. P text × Unbroken text) text texts h in
        let count : length text + suc (n - length text - 1) ≡ n = omega arith in
        subst (λ t. All P (lines_from [] t))
        (sym (ap (λ m. take m (with_feeds (text ∷ texts))) (sym count) ∙ ap (take (length text + suc (n - length text - 1))) (append_assoc text (10 ∷ []) (with_feeds texts)) ∙ take-append-add text (10 ∷ with_feeds texts) (suc (n - length text - 1))))
        (rw (line_then [] text (take (n - length text - 1) (with_feeds texts)) here.1)
        (All-cons P text (lines_from [] (take (n - length text - 1) (with_feeds texts))) here.0 (front_lines texts (n - length text - 1) (All-tail (λ text. P text × Unbroken text) text texts h))))
    | inr within ↦
        let here = All-head (λ text. P text × Unbroken text) text texts h in
        let cut : take n (with_feeds (text ∷ texts)) ≡ take n text = ap (take n) (append_assoc text (10 ∷ []) (with_feeds texts)) ∙ take-append-le n text (10 ∷ with_feeds texts) within in
        rw (cut, unended [] (take n text) (All-take (λ byte. byte ≢ 10) n text here.1)) (All-nil P)
  ]

  pub whole_lines : (texts : List (List ℕ)) (n : ℕ) → All (λ text. P text × Unbroken text) texts → (line : List ℕ) → IsWholeLine (take n (with_feeds texts)) line → P line
  whole_lines texts n h line w = whole (take n (with_feeds texts)) line w (front_lines texts n h)
