-- Lines that rise, and lines of an axis record without a fault.
use Rattle.std.proofs.Common.{◌≡◌, ◌∙◌, ap, refl, sym, subst, ℕ, zero, suc, ◌+◌, ◌<◌, ◌≤◌, Bool, true, false, not, List, [], ◌∷◌, ◌++◌, length, Option, Some, None, Result, Ok, Err, arith, slice_index, nat_lt, ◌||◌, if◌then◌else◌}
use Rattle.std.proofs.lemmas.Bool.{ltb-true}
use Rattle.std.specs.Option.{option_or}
use Rattle.std.specs.List.Sorted.{IsStrictlyIncreasing}
use Rattle.tb_detail.specs.Names.{Text}
use Rattle.tb_numbers.specs.declared.parse.NumberFault.{NumberFault}
use Rattle.tb_numbers.specs.declared.parse.NumberFault.TheVariants as number
use Rattle.tb_reading.specs.Records.{first_some}
use Rattle.tb_case_records.specs.declared.fault.RecordFault.{RecordFault}
use Rattle.tb_case_records.specs.declared.fault.RecordFault.TheVariants as fault
use Rattle.tb_case_records.specs.Rows.{numbers, read_of}
use Rattle.tb_case_records.specs.Table.{is_above, line_fault, line_faults, line_reading, read_line}

-- each line is above the one before it
abbrev pub Rise : Option ℕ → List ℕ → Type 0
Rise before [] = Unit {0}
Rise before (x ∷ xs) = (is_above before x ≡ true) × Rise (Some x) xs

pub increasing : (before : Option ℕ) (xs : List ℕ) → Rise before xs → IsStrictlyIncreasing xs
increasing before [] r k h = absurd (omega arith)
increasing before (x ∷ []) r k h = absurd (omega arith)
increasing before (x ∷ y ∷ xs) r zero h = ltb-true x y r.1.0
increasing before (x ∷ y ∷ xs) r (suc k) h = subst (λ (n : ℕ). slice_index (y ∷ xs) k < slice_index (x ∷ y ∷ xs) n) (sym next) (increasing (Some x) (y ∷ xs) r.1 k (omega arith))
  where
    next : suc k + 1 ≡ suc (k + 1)
    next = omega arith

-- ---- what holds where no fault is told

pub impossible : {X P : Type 0} (x : X) → Some x ≡ None → P
impossible x h = cc

pub none_both : {X : Type 0} (o p : Option X) → option_or o p ≡ None → (o ≡ None) × (p ≡ None)
none_both None p h = (refl, h)
none_both (Some x) p h = impossible x h

line_above : (f g : RecordFault) (above outside : Bool) (rest : List (Option RecordFault))
    → first_some ((if not above then Some f else (if outside then Some g else None)) ∷ rest) ≡ None → (above ≡ true) × (first_some rest ≡ None)
line_above f g true true rest h = impossible g h
line_above f g true false rest h = (refl, h)
line_above f g false outside rest h = impossible f h

-- what the texts of lines without a fault read as
pub record AreRisen (before : Option ℕ) (texts : List Text) : Type 0 where
  pub rise : Rise before (numbers line_reading texts)
  pub each : length (numbers line_reading texts) ≡ length texts

pub risen : (low high : ℕ) (before : Option ℕ) (field : ℕ) (texts : List Text) → first_some (line_faults low high before field texts) ≡ None → AreRisen before texts
risen low high before field [] h = record { rise = tt; each = refl }
risen low high before field (text ∷ texts) h = by (line_reading text) refl (λ next. risen low high next (field + 1) texts) h
  where
    by : (r : Result ℕ NumberFault) → line_reading text ≡ r → ((next : Option ℕ) → first_some (line_faults low high next (field + 1) texts) ≡ None → AreRisen next texts)
        → first_some (line_fault low high before field r ∷ line_faults low high (read_line r) (field + 1) texts) ≡ None → AreRisen before (text ∷ texts)
    by (Err number.BadNumber) e more h = impossible (fault.BadNumber field) h
    by (Err number.OutOfRange) e more h = impossible (fault.OutOfRange field) h
    by (Ok x) e more h =
        let here : (is_above before x ≡ true) × (first_some (line_faults low high (Some x) (field + 1) texts) ≡ None) =
        line_above (fault.NotRising field) (fault.LineOutside field) (is_above before x) (nat_lt x low || nat_lt high x) (line_faults low high (Some x) (field + 1) texts) h in
        let rest : AreRisen (Some x) texts = more (Some x) here.1 in
        record { rise = rw e (here.0, rest.rise); each = rw e (ap suc rest.each) }
