-- The lists of lines with cut points are the level grid, and the only one.
use Rattle.std.proofs.Common.{ap, ◌∙◌, ◌≡◌, ◌↔◌, ℕ, zero, suc, ◌+◌, ◌-◌, ◌/◌, ◌<◌, ◌⊎◌, inl, inr, ⊎_elim, List, [], ◌∷◌, length, get_or, refl, subst, arith}
use Rattle.std.specs.List.{Contains}
use Rattle.std.specs.List.Sorted.{IsStrictlyIncreasing}
use Rattle.std.proofs.lemmas.List.Elements.{Contains-append_cases, Contains-append_left, Contains-append_right}
use Rattle.tb_grid.specs.Level.{HasInterval, IsCutPoint, IsGraded, IsHalved, IsHalvedTimes, IsLevelGrid, IsMiddle, IsTooFine, never, once_more, share}
use Rattle.tb_grid.specs.Axis.{most_lines}
use Rattle.tb_grid.specs.CutPoints.{cuts}
use Rattle.tb_grid.proofs.CutLines.{cut_after, cut_lines, halved, level_count}
use Rattle.tb_grid.proofs.Pieces.{level_counted}
use Rattle.tb_grid.proofs.Rises.{cut_increases}
use Rattle.tb_grid.proofs.Shares.{cuts_are, cuts_have}
use Rattle.tb_grid.proofs.RisingLists.{member_cases, first_member, later_member}
use Rattle.tb_grid.proofs.Through.{rising_unique}

-- ---- intervals of a list, and of its tail
first_interval : (p q : ℕ) (qs : List ℕ) → HasInterval (p ∷ q ∷ qs) p q
first_interval p q qs = record { i = 0; within = omega arith; low = refl; high = refl }

later_interval : (p a b : ℕ) (qs : List ℕ) → HasInterval qs a b → HasInterval (p ∷ qs) a b
later_interval p a b qs h =
    let within = h.within in
    let place : suc (h.i + 1) ≡ suc h.i + 1 = omega arith in
    record {
      i = suc h.i;
      within = omega arith;
      low = h.low;
      high = subst (λ (m : ℕ). get_or (p ∷ qs) m 0 ≡ b) place h.high;
    }

interval_cases : (p q a b : ℕ) (qs : List ℕ) → HasInterval (p ∷ q ∷ qs) a b →
    ((p ≡ a) × (q ≡ b)) ⊎ HasInterval (q ∷ qs) a b
interval_cases p q a b qs h = by_index h.i h.within h.low h.high where
  by_index : (i : ℕ) → i + 1 < length (p ∷ q ∷ qs) → get_or (p ∷ q ∷ qs) i 0 ≡ a → get_or (p ∷ q ∷ qs) (i + 1) 0 ≡ b →
      ((p ≡ a) × (q ≡ b)) ⊎ HasInterval (q ∷ qs) a b
  by_index zero within low high = inl (low, high)
  by_index (suc i) within low high =
      let place : suc i + 1 ≡ suc (i + 1) = omega arith in
      inr (record {
        i = i;
        within = omega arith;
        low = low;
        high = subst (λ (m : ℕ). get_or (p ∷ q ∷ qs) m 0 ≡ b) place high;
      })

-- ---- which lines there are
base_stays : (grade p x : ℕ) (qs : List ℕ) → Contains (p ∷ qs) x → Contains (p ∷ cut_after grade p qs) x
base_stays grade p x [] there = there
base_stays grade p x (q ∷ qs) there =
    ⊎_elim (λ (here : p ≡ x). rw (← here) (first_member p (cut_after grade p (q ∷ qs)) _ refl))
    (λ later. later_member p (cut_after grade p (q ∷ qs)) x
    (Contains-append_right (cuts grade p q) (q ∷ cut_after grade q qs) x (base_stays grade q x qs later)))
    (member_cases p (q ∷ qs) x there)

cut_comes : (grade p x a b : ℕ) (qs : List ℕ) → HasInterval (p ∷ qs) a b → Contains (cuts grade a b) x →
    Contains (p ∷ cut_after grade p qs) x
cut_comes grade p x a b [] interval cut = let within = interval.within in absurd (omega arith)
cut_comes grade p x a b (q ∷ qs) interval cut =
    later_member p (cut_after grade p (q ∷ qs)) x
    (⊎_elim (λ here. Contains-append_left (cuts grade p q) (q ∷ cut_after grade q qs) x (rw (here.0, here.1) cut))
    (λ later. Contains-append_right (cuts grade p q) (q ∷ cut_after grade q qs) x (cut_comes grade q x a b qs later cut))
    (interval_cases p q a b qs interval))

no_others : (grade p x : ℕ) (qs : List ℕ) → Contains (p ∷ cut_after grade p qs) x →
    Contains (p ∷ qs) x ⊎ IsCutPoint grade (p ∷ qs) x
no_others grade p x [] there = inl there
no_others grade p x (q ∷ qs) there =
    ⊎_elim (λ (here : p ≡ x). inl (rw (← here) (first_member p (q ∷ qs) _ refl)))
    (λ later. ⊎_elim
    (λ cut. inr (record { p = p; q = q; interval = first_interval p q qs; cut = cuts_are grade p q x cut }))
    (λ rest. ⊎_elim (λ base. inl (later_member p (q ∷ qs) x base))
    (λ point. inr (record {
      p = point.p;
      q = point.q;
      interval = later_interval p point.p point.q (q ∷ qs) point.interval;
      cut = point.cut;
    }))
    (no_others grade q x qs rest))
    (Contains-append_cases (cuts grade p q) (q ∷ cut_after grade q qs) x later))
    (member_cases p (cut_after grade p (q ∷ qs)) x there)

no_intervals : (a b : ℕ) → HasInterval [] a b → ⊥
no_intervals a b h = let within = h.within in omega arith

cut_same : (grade : ℕ) (lines : List ℕ) (x : ℕ) →
    Contains (cut_lines grade lines) x ↔ (Contains lines x ⊎ IsCutPoint grade lines x)
cut_same grade [] x =
    (λ there. inl there, λ there. ⊎_elim (λ base. base) (λ point. absurd (no_intervals point.p point.q point.interval)) there)
cut_same grade (p ∷ qs) x = (
  no_others grade p x qs,
  λ there. ⊎_elim (base_stays grade p x qs)
      (λ point. cut_comes grade p x point.p point.q qs point.interval (cuts_have grade point.p point.q x point.cut)) there,
)

pub cut_graded : (grade : ℕ) (lines : List ℕ) → IsStrictlyIncreasing lines → IsGraded grade lines (cut_lines grade lines)
cut_graded grade lines rising = record { rising = cut_increases grade lines rising; same = cut_same grade lines }

-- ---- a cut by the first grade is a halving
middle_is : (lines : List ℕ) (x : ℕ) → IsCutPoint 1 lines x → IsMiddle lines x
middle_is lines x point =
    let cut = point.cut in let most = cut.most in let some = cut.some in
    ⊎_elim (λ low. let first = low.0 in
    let one : cut.j ≡ 1 = omega arith in
    let half : share point.p point.q cut.j ≡ (point.q - point.p) / 2 = rw one refl in
    record { p = point.p; q = point.q; interval = point.interval; wide = omega arith; at = rw (← half) low.1 })
    (λ high. let first = high.0 in absurd (omega arith)) cut.at

middle_of : (lines : List ℕ) (x : ℕ) → IsMiddle lines x → IsCutPoint 1 lines x
middle_of lines x middle =
    let wide = middle.wide in
    record {
      p = middle.p;
      q = middle.q;
      interval = middle.interval;
      cut = record { j = 1; most = omega arith; some = omega arith; at = inl (omega arith, middle.at) };
    }

pub first_grade_halves : (old new : List ℕ) → IsGraded 1 old new → IsHalved old new
first_grade_halves old new graded = record {
  rising = graded.rising;
  same = λ x. (
    λ there. ⊎_elim (λ base. inl base) (λ point. inr (middle_is old x point)) ((graded.same x).0 there),
    λ there. (graded.same x).1 (⊎_elim (λ base. inl base) (λ middle. inr (middle_of old x middle)) there),
  );
}

pub halved_times : (times : ℕ) (lines : List ℕ) → IsStrictlyIncreasing lines → IsHalvedTimes times lines (halved times lines)
halved_times zero lines rising = never
halved_times (suc times) lines rising =
    let once = cut_graded 1 lines rising in
    once_more (first_grade_halves lines (cut_lines 1 lines) once) (halved_times times (cut_lines 1 lines) once.rising)

-- ---- there is one level grid
pub level_lines : (grade halve : ℕ) (base : List ℕ) → IsStrictlyIncreasing base →
    IsLevelGrid grade halve base (halved halve (cut_lines grade base))
level_lines grade halve base rising =
    let cut = cut_graded grade base rising in
    record { cut = cut_lines grade base; graded = cut; halved = halved_times halve (cut_lines grade base) cut.rising }

pub graded_unique : (grade : ℕ) (base lines others : List ℕ) → IsGraded grade base lines → IsGraded grade base others → lines ≡ others
graded_unique grade base lines others some same =
    rising_unique lines others some.rising same.rising
    (λ n. (λ there. (same.same n).1 ((some.same n).0 there), λ there. (some.same n).1 ((same.same n).0 there)))

pub halved_unique : (old new other : List ℕ) → IsHalved old new → IsHalved old other → new ≡ other
halved_unique old new other some same =
    rising_unique new other some.rising same.rising
    (λ n. (λ there. (same.same n).1 ((some.same n).0 there), λ there. (some.same n).1 ((same.same n).0 there)))

pub times_unique : {times : ℕ} {old new : List ℕ} → IsHalvedTimes times old new → (other : List ℕ) → IsHalvedTimes times old other → new ≡ other
times_unique never other never = refl
times_unique (once_more {mid = mid} first rest) other (once_more {mid = mid'} first' rest') =
    times_unique rest other (rw (halved_unique _ mid mid' first first') rest')

pub level_unique : (grade halve : ℕ) (base lines others : List ℕ) → IsLevelGrid grade halve base lines →
    IsLevelGrid grade halve base others → lines ≡ others
level_unique grade halve base lines others some same =
    times_unique some.halved others (rw (graded_unique grade base some.cut same.cut some.graded same.graded) same.halved)

-- the level grid has as many lines as are counted
pub level_length : (grade halve : ℕ) (base lines : List ℕ) → IsStrictlyIncreasing base → IsLevelGrid grade halve base lines →
    length lines ≡ level_count halve grade base
level_length grade halve base lines rising level =
    let counted = level_counted halve grade base rising in
    rw (level_unique grade halve base lines (halved halve (cut_lines grade base)) level (level_lines grade halve base rising)) counted

-- n lines are too many exactly where the level grid is too fine
pub too_fine : (grade halve n : ℕ) (base : List ℕ) → IsStrictlyIncreasing base →
    ((lines : List ℕ) → IsLevelGrid grade halve base lines → n ≡ length lines) → most_lines < n → IsTooFine grade halve base n
too_fine grade halve n base rising counts many =
    let lines = halved halve (cut_lines grade base) in
    let level = level_lines grade halve base rising in
    let count : n ≡ length lines = counts lines level in
    record { lines = lines; level = level; many = omega arith; counted = count }

pub too_fine_by : (grade halve n count : ℕ) (base : List ℕ) →
    ((lines : List ℕ) → IsLevelGrid grade halve base lines → n ≡ length lines) → IsTooFine grade halve base count →
    (n ≡ count) × (most_lines < n)
too_fine_by grade halve n count base counts fine =
    let is : n ≡ length fine.lines = counts fine.lines fine.level in
    let many = fine.many in let counted = fine.counted in (omega arith, omega arith)

-- one halving more
pub once_again : {times : ℕ} {old mid : List ℕ} → IsHalvedTimes times old mid → (new : List ℕ) → IsHalved mid new →
    IsHalvedTimes (suc times) old new
once_again never new more = once_more more never
once_again (once_more first rest) new more = once_more first (once_again rest new more)

-- ---- no cut at all
uncut_after : (p : ℕ) (qs : List ℕ) → cut_after 0 p qs ≡ qs
uncut_after p [] = refl
uncut_after p (q ∷ qs) = ap (λ (rest : List ℕ). q ∷ rest) (uncut_after q qs)

uncut : (lines : List ℕ) → cut_lines 0 lines ≡ lines
uncut [] = refl
uncut (p ∷ qs) = ap (λ (rest : List ℕ). p ∷ rest) (uncut_after p qs)

-- without a grade and without halvings the level grid is the base lines
pub level_kept : (base lines : List ℕ) → IsStrictlyIncreasing base → IsLevelGrid 0 0 base lines → lines ≡ base
level_kept base lines rising level =
    level_unique 0 0 base lines (cut_lines 0 base) level (level_lines 0 0 base rising) ∙ uncut base
