-- What a builder stands for after a record, and what it answers at the end.
use Rattle.std.proofs.Common.{◌≡◌, ℕ, ◌+◌, Bool, true, List, [], ◌∷◌, ◌++◌, Option, Some, None, Result, Ok, Err, refl, sym, ap, ◌∙◌, subst, option_map, if◌then◌else◌, is_none, is_some, not}
use Rattle.std.proofs.lemmas.Bool.{eq-eqb, ne_eqb}
use Rattle.std.specs.Option.{option_map_or, option_or}
use Rattle.tb_detail.specs.declared.Detail.{Detail}
use Rattle.tb_reading.specs.declared.draft.Draft.{Draft}
use Rattle.tb_reading.specs.declared.draft.Stop.{Stop}
use Rattle.tb_reading.specs.declared.draft.Stop.TheVariants as stop
use Rattle.tb_reading.specs.declared.fault.DetailFault.{DetailFault}
use Rattle.tb_reading.specs.declared.fault.DetailKind.TheVariants.{NotFormat}
use Rattle.tb_reading.specs.declared.fault.DetailRefusal.{DetailRefusal}
use Rattle.tb_reading.specs.declared.fault.DetailRefusal.TheVariants as refusal
use Rattle.tb_reading.specs.declared.fault.FieldFault.{FieldFault}
use Rattle.tb_reading.specs.Builders.{Feeds, Stands, StandsAs, told_as, whole_fault_of}
use Rattle.tb_reading.specs.Details.{detail_of, dimension_of, head_of}
use Rattle.tb_reading.specs.Drafts.{Holds, Takes, Unit0}
use Rattle.tb_reading.specs.Progress.{Progress}
use Rattle.tb_reading.specs.Reading.{Answers, Numbered, at_number, bare_fault, detail_reading, fault_of, first_record_fault, format_fault, numbered, part_numbers, rows_of, whole_fault}
use Rattle.tb_reading.specs.Records.{Row, head_dimension, unless}
use Rattle.tb_reading.proofs.First.{fault_next, fault_stays}
use Rattle.tb_reading.proofs.Holding.{dimension_is}

-- ---- one record

pub fed_ok : (new : Draft) (given : List Numbered) (number : ℕ) (row : Row) → first_record_fault given ≡ None → Takes (Ok tt) given number row new → StandsAs None new (given ++ (number, row) ∷ [])
fed_ok new given number row e t = (fault_next given number row e ∙ ap (option_map (at_number number)) t.0, t.1)

pub fed_fault : (given : List Numbered) (number : ℕ) (row : Row) (f : FieldFault) → first_record_fault given ≡ None → fault_of (rows_of given) row ≡ Some f → first_record_fault (given ++ (number, row) ∷ []) ≡ Some (at_number number f)
fed_fault given number row f e t = fault_next given number row e ∙ ap (option_map (at_number number)) t

-- a refusal stands
pub fed_same : (r : Option DetailRefusal) (draft : Draft) (given more : List Numbered) → is_some r ≡ true → StandsAs r draft given → StandsAs r draft (given ++ more)
fed_same None draft given more e s = cc
fed_same (Some (refusal.Fault f)) draft given more e s = fault_stays given more f s
fed_same (Some refusal.NoMemory) draft given more e s = tt

-- a builder by its parts
pub parts_stand : (b : Progress) (draft : Draft) (r : Option DetailRefusal) (given : List Numbered) → (let x : Progress = record { draft = draft; refusal = r } in x) ≡ b → Stands b given → StandsAs r draft given
parts_stand b draft r given e s = subst (λ (x : Progress). Stands x given) (sym e) s

pub none_stands : (r : Option DetailRefusal) (draft : Draft) (given : List Numbered) → r ≡ None → StandsAs r draft given → StandsAs None draft given
none_stands r draft given e s = subst (λ (o : Option DetailRefusal). StandsAs o draft given) e s

pub is_none_at : (r : Option DetailRefusal) (b : Bool) → is_some r ≡ not b → b ≡ true → r ≡ None
is_none_at None b e f = refl
is_none_at (Some r) b e f = let g = ap not f in cc

pub answer_is : (r : Option DetailRefusal) (draft : Draft) (given : List Numbered) (result : Result Unit0 DetailRefusal) → result ≡ told_as r → StandsAs r draft given → Feeds result (first_record_fault given)
answer_is r draft given result e s = subst (λ (a : Result Unit0 DetailRefusal). Feeds a (first_record_fault given)) (sym e) (by r s)
  where
    by : (r : Option DetailRefusal) → StandsAs r draft given → Feeds (told_as r) (first_record_fault given)
    by None s = s.0
    by (Some (refusal.Fault f)) s = s
    by (Some refusal.NoMemory) s = tt

-- ---- the end

whole_is : (draft : Draft) (given : List Numbered) → Holds draft given → option_or (format_fault 1 given) (bare_fault (part_numbers given) (detail_of (rows_of given))) ≡ whole_fault_of draft
whole_is draft given h = by (head_of (rows_of given)) refl
  where
    bare : bare_fault (part_numbers given) (detail_of (rows_of given)) ≡ bare_fault draft.part_numbers draft.detail
    bare = ap (λ (n : List ℕ). bare_fault n (detail_of (rows_of given))) (sym h.part_numbers) ∙ ap (bare_fault draft.part_numbers) (sym h.detail)

    dimension : draft.detail.dimension ≡ dimension_of (rows_of given)
    dimension = dimension_is draft (rows_of given) (part_numbers given) h

    by : (o : Option Row) → head_of (rows_of given) ≡ o → option_or (if is_none o then Some (whole_fault NotFormat 1) else None) (bare_fault (part_numbers given) (detail_of (rows_of given))) ≡ whole_fault_of draft
    by None e = sym (ap (λ (b : Bool). if b then Some (whole_fault NotFormat 1) else bare_fault draft.part_numbers draft.detail) (eq-eqb draft.detail.dimension 0 (dimension ∙ ap (λ (o : Option Row). option_map_or head_dimension o 0) e)))
    by (Some r) e = bare ∙ sym (ap (λ (b : Bool). if b then Some (whole_fault NotFormat 1) else bare_fault draft.part_numbers draft.detail) (ne_eqb draft.detail.dimension 0 (λ z. clash (sym (h.headed (sym dimension ∙ z)) ∙ e))))
      where
        clash : None ≡ Some r → ⊥
        clash e = cc

pub reading_is : (draft : Draft) (given : List Numbered) → StandsAs None draft given → detail_reading 1 given ≡ unless (whole_fault_of draft) draft.detail
reading_is draft given s =
    ap (λ (o : Option DetailFault). unless (option_or o (option_or (format_fault 1 given) (bare_fault (part_numbers given) (detail_of (rows_of given))))) (detail_of (rows_of given))) s.0
    ∙ ap (λ (o : Option DetailFault). unless o (detail_of (rows_of given))) (whole_is draft given s.1)
    ∙ ap (λ (d : Detail). unless (whole_fault_of draft) d) (sym s.1.detail)

-- after a refusal
pub refused_reading : (r : Option DetailRefusal) (draft : Draft) (given : List Numbered) (x : DetailRefusal) → r ≡ Some x → StandsAs r draft given → Answers (Err x) (detail_reading 1 given)
refused_reading None draft given x e s = cc
refused_reading (Some r) draft given x e s = subst (λ (y : DetailRefusal). Answers (Err y) (detail_reading 1 given)) same (by r s)
  where
    same : r ≡ x
    same = cc

    by : (r : DetailRefusal) → StandsAs (Some r) draft given → Answers (Err r) (detail_reading 1 given)
    by (refusal.Fault f) s = ap (λ (o : Option DetailFault). unless (option_or o (option_or (format_fault 1 given) (bare_fault (part_numbers given) (detail_of (rows_of given))))) (detail_of (rows_of given))) s
    by refusal.NoMemory s = tt

-- ---- a whole text

-- what was read, then the next record, then the rest
pub next_all : (done : List Numbered) (n : ℕ) (row : Row) (rest : List Row) → (done ++ (n, row) ∷ []) ++ numbered (n + 1) rest ≡ done ++ numbered n (row ∷ rest)
next_all [] n row rest = refl
next_all (r ∷ done) n row rest = ap (λ (l : List Numbered). r ∷ l) (next_all done n row rest)

pub fault_from : (r : Result Unit0 Stop) (f : FieldFault) (given : List Numbered) (number : ℕ) (row : Row) (new : Draft) → r ≡ Err (stop.Fault f) → Takes r given number row new → fault_of (rows_of given) row ≡ Some f
fault_from r f given number row new e t = subst (λ (x : Result Unit0 Stop). Takes x given number row new) e t

-- a refusal of the records so far is the answer to the whole text
pub refused_all : (b : Progress) (done rest all : List Numbered) (x : DetailRefusal) → done ++ rest ≡ all → Err x ≡ told_as b.refusal → Stands b done → Answers {X = Detail} (Err x) (detail_reading 1 all)
refused_all b done rest all x e t s = subst (λ (l : List Numbered). Answers {X = Detail} (Err x) (detail_reading 1 l)) e (by b.refusal t s)
  where
    by : (r : Option DetailRefusal) → Err x ≡ told_as r → StandsAs r b.draft done → Answers {X = Detail} (Err x) (detail_reading 1 (done ++ rest))
    by None t s = cc
    by (Some y) t s = let same : y ≡ x = cc in refused_reading (Some y) b.draft (done ++ rest) x (ap Some same) (fed_same (Some y) b.draft done rest refl s)
