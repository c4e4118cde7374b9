-- Lines of an axis record without a fault carry the base lines.
use Rattle.std.proofs.Common.{◌≡◌, ◌∙◌, ap, refl, sym, subst, ℕ, zero, suc, ◌+◌, ◌-◌, ◌<◌, ◌≤◌, ◌==◌, Bool, true, false, not, List, [], ◌∷◌, ◌++◌, length, Option, Some, None, Result, Ok, Err, arith, nat_lt, slice_index, get_or, ◌||◌, if◌then◌else◌, inl, inr, ⊎_elim, All}
use Rattle.std.proofs.lemmas.Bool.{eqb-true, ltb-false}
use Rattle.std.proofs.lemmas.List.Elements.{All-cons, All-nil, Contains-get_or}
use Rattle.std.specs.List.{Contains, find, list_any}
use Rattle.std.specs.List.Sorted.{IsStrictlyIncreasing}
use Rattle.tb_detail.specs.Names.{Text}
use Rattle.tb_numbers.specs.declared.parse.NumberFault.{NumberFault}
use Rattle.tb_numbers.specs.declared.parse.NumberFault.TheVariants as number
use Rattle.tb_grid.proofs.RisingLists.{first_member, later_member, member_cases, no_member}
use Rattle.tb_geometry.specs.Grids.{CarriesLines, HasLines}
use Rattle.tb_geometry.proofs.Carrying.{first_is_least, last_is_greatest}
use Rattle.tb_reading.specs.Records.{first_some}
use Rattle.tb_case_records.specs.declared.fault.RecordFault.{RecordFault}
use Rattle.tb_case_records.specs.declared.fault.RecordFault.TheVariants as fault
use Rattle.tb_case_records.specs.Rows.{numbers, read_of}
use Rattle.tb_case_records.specs.Table.{is_above, is_none_of, last_of, line_fault, line_faults, line_reading, read_line}
use Rattle.tb_case_records.proofs.Rising.{impossible}

-- ---- within the hull

abbrev IsBetween : ℕ → ℕ → ℕ → Type 0
IsBetween low high x = (low ≤ x) × (x ≤ high)

line_inside : (f g : RecordFault) (above under over : Bool) (rest : List (Option RecordFault))
    → first_some ((if not above then Some f else (if under || over then Some g else None)) ∷ rest) ≡ None → (under ≡ false) × ((over ≡ false) × (first_some rest ≡ None))
line_inside f g false under over rest h = impossible f h
line_inside f g true true over rest h = impossible g h
line_inside f g true false true rest h = impossible g h
line_inside f g true false false rest h = (refl, (refl, h))

lines_inside : (low high : ℕ) (before : Option ℕ) (field : ℕ) (texts : List Text) → first_some (line_faults low high before field texts) ≡ None
    → All (IsBetween low high) (numbers line_reading texts)
lines_inside low high before field [] h = All-nil (IsBetween low high)
lines_inside low high before field (text ∷ texts) h = by (line_reading text) (λ next. lines_inside low high next (field + 1) texts) h
  where
    by : (r : Result ℕ NumberFault) → ((next : Option ℕ) → first_some (line_faults low high next (field + 1) texts) ≡ None → All (IsBetween low high) (numbers line_reading texts))
        → first_some (line_fault low high before field r ∷ line_faults low high (read_line r) (field + 1) texts) ≡ None → All (IsBetween low high) (read_of r ++ numbers line_reading texts)
    by (Err number.BadNumber) more h = impossible (fault.BadNumber field) h
    by (Err number.OutOfRange) more h = impossible (fault.OutOfRange field) h
    by (Ok x) more h =
        let here = line_inside (fault.NotRising field) (fault.LineOutside field) (is_above before x) (nat_lt x low) (nat_lt high x) (line_faults low high (Some x) (field + 1) texts) h in
        All-cons (IsBetween low high) x (numbers line_reading texts) (ltb-false x low here.0, ltb-false high x here.1.0) (more (Some x) here.1.1)

-- ---- none is missing

among : (lines : List ℕ) (x : ℕ) → list_any (λ line. line == x) lines ≡ true → Contains lines x
among [] x h = cc
among (y ∷ lines) x h = by (y == x) refl h (among lines x)
  where
    by : (b : Bool) → (y == x) ≡ b → (b || list_any (λ line. line == x) lines) ≡ true → (list_any (λ line. line == x) lines ≡ true → Contains lines x) → Contains (y ∷ lines) x
    by true e h more = first_member y lines x (eqb-true y x e)
    by false e h more = later_member y lines x (more h)

has_all : (lines bases : List ℕ) → find (is_none_of lines) bases ≡ None → HasLines bases lines
has_all lines [] h x there = absurd (no_member x there)
has_all lines (b ∷ bases) h x there = by (list_any (λ line. line == b) lines) refl h (has_all lines bases)
  where
    by : (o : Bool) → list_any (λ line. line == b) lines ≡ o → (if not o then Some b else find (is_none_of lines) bases) ≡ None
        → (find (is_none_of lines) bases ≡ None → HasLines bases lines) → Contains lines x
    by false e h more = impossible b h
    by true e h more =
        ⊎_elim (λ (here : b ≡ x). subst (Contains lines) here (among lines b e)) (λ later. more h x later) (member_cases b bases x there)

-- ---- they carry

pub carried : (bases : List ℕ) (field : ℕ) (texts : List Text) → 1 ≤ length bases → IsStrictlyIncreasing (numbers line_reading texts)
    → first_some (line_faults (slice_index bases 0) (last_of bases) None field texts) ≡ None
    → find (is_none_of (numbers line_reading texts)) bases ≡ None → CarriesLines bases (numbers line_reading texts)
carried bases field texts some rising inside complete =
    let lines : List ℕ = numbers line_reading texts in
    let within = lines_inside (slice_index bases 0) (last_of bases) None field texts inside in
    let has : HasLines bases lines = has_all lines bases complete in
    let low : Contains lines (slice_index bases 0) = has (slice_index bases 0) (Contains-get_or bases 0 0 some) in
    let high : Contains lines (last_of bases) = has (last_of bases) (Contains-get_or bases (length bases - 1) 0 (omega arith)) in
    let lines_some : 0 < length lines = (let w = low.1 in omega arith) in
    let a : slice_index lines 0 ≤ slice_index bases 0 = first_is_least lines rising (slice_index bases 0) low in
    let b : last_of bases ≤ slice_index lines (length lines - 1) = last_is_greatest lines rising (last_of bases) high in
    let c = (within 0 0 lines_some).0 in
    let d = (within (length lines - 1) 0 (omega arith)).1 in
    record { has_all = has; first = omega arith; last = omega arith }
