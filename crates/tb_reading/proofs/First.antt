-- The first fault of records that grow.
use Rattle.std.proofs.Common.{◌≡◌, ℕ, List, [], ◌∷◌, ◌++◌, Option, Some, None, refl, sym, ap, ◌∙◌, append_assoc, option_map}
use Rattle.std.proofs.lemmas.List.{append-nil}
use Rattle.std.specs.Option.{option_or}
use Rattle.tb_reading.specs.declared.fault.DetailFault.{DetailFault}
use Rattle.tb_reading.specs.Reading.{Numbered, at_number, fault_of, first_record_fault, record_faults, rows_of}
use Rattle.tb_reading.specs.Records.{Row, first_some}

faults_append : (before : List Row) (given more : List Numbered) → record_faults before (given ++ more) ≡ record_faults before given ++ record_faults (before ++ rows_of given) more
faults_append before [] more = ap (λ (rows : List Row). record_faults rows more) (sym (append-nil before))
faults_append before (r ∷ given) more =
    ap (λ (l : List (Option DetailFault)). option_map (at_number r.0) (fault_of before r.1) ∷ l)
    (faults_append (before ++ r.1 ∷ []) given more
    ∙ ap (λ (rows : List Row). record_faults (before ++ r.1 ∷ []) given ++ record_faults rows more) (append_assoc before (r.1 ∷ []) (rows_of given)))

first_append : {X : Type 0} (xs ys : List (Option X)) → first_some (xs ++ ys) ≡ option_or (first_some xs) (first_some ys)
first_append [] ys = refl
first_append (None ∷ xs) ys = first_append xs ys
first_append (Some x ∷ xs) ys = refl

-- the first fault of more records is the first of those before, or else of the new ones
pub fault_append : (given more : List Numbered) → first_record_fault (given ++ more) ≡ option_or (first_record_fault given) (first_some (record_faults (rows_of given) more))
fault_append given more = ap first_some (faults_append [] given more) ∙ first_append (record_faults [] given) (record_faults (rows_of given) more)

pub fault_stays : (given more : List Numbered) (f : DetailFault) → first_record_fault given ≡ Some f → first_record_fault (given ++ more) ≡ Some f
fault_stays given more f e = fault_append given more ∙ ap (λ (o : Option DetailFault). option_or o (first_some (record_faults (rows_of given) more))) e

one : {X : Type 0} (o : Option X) → first_some (o ∷ []) ≡ o
one None = refl
one (Some x) = refl

pub fault_next : (given : List Numbered) (number : ℕ) (row : Row) → first_record_fault given ≡ None → first_record_fault (given ++ (number, row) ∷ []) ≡ option_map (at_number number) (fault_of (rows_of given) row)
fault_next given number row e =
    fault_append given ((number, row) ∷ [])
    ∙ ap (λ (o : Option DetailFault). option_or o (first_some (record_faults (rows_of given) ((number, row) ∷ [])))) e
    ∙ one (option_map (at_number number) (fault_of (rows_of given) row))
