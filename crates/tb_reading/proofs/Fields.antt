-- The fields of a record from one place on.
use Rattle.std.proofs.Common.{◌≡◌, ℕ, zero, suc, ◌+◌, ◌<◌, List, [], ◌∷◌, ◌++◌, length, drop, get_or, Option, Some, None, Ok, Err, refl, sym, ap, ◌∙◌, arith, append_assoc, ◌⊎◌, inl, inr}
use Rattle.std.proofs.lemmas.List.{append-nil, drop_more}
use Rattle.csv.specs.Records.{field_at}
use Rattle.tb_reading.specs.declared.fault.DetailKind.{DetailKind}
use Rattle.tb_reading.specs.declared.fault.FieldFault.{FieldFault}
use Rattle.tb_reading.specs.declared.kinds.FieldRule.{FieldRule}
use Rattle.tb_reading.specs.declared.kinds.FieldRule.TheVariants.{Word}
use Rattle.tb_reading.specs.declared.values.FieldValue.{FieldValue}
use Rattle.tb_detail.specs.Names.{Text}
use Rattle.tb_reading.specs.Names.{NamesByKind}
use Rattle.tb_reading.specs.Records.{Row, at_field, field_fault, field_faults, first_some, unless, value, values}

-- the fields from a field on begin with it
pub drop_field : (row : Row) (i : ℕ) (text : Text) → field_at row i ≡ Some text → drop i row ≡ text ∷ drop (i + 1) row
unfolding field_at
drop_field [] i text h = cc
drop_field (f ∷ row) zero text h = let e : f ≡ text = cc in ap (λ (t : Text). t ∷ row) e
drop_field (f ∷ row) (suc i) text h = drop_field row i text h ∙ ap (λ (l : Row). text ∷ l) (later row i)
  where
    later : (row : Row) (i : ℕ) → drop (i + 1) row ≡ drop (suc i + 1) (f ∷ row)
    later row i = sym (ap (λ (n : ℕ). drop n (f ∷ row)) (one i))
      where
        one : (i : ℕ) → suc i + 1 ≡ suc (i + 1)
        one i = omega arith

-- past the last field there is none
pub drop_no_field : (row : Row) (i : ℕ) → field_at row i ≡ None → drop i row ≡ []
unfolding field_at
drop_no_field [] zero h = refl
drop_no_field [] (suc i) h = refl
drop_no_field (f ∷ row) zero h = cc
drop_no_field (f ∷ row) (suc i) h = drop_no_field row i h

module _ (names : NamesByKind) (rules : List FieldRule) (row : Row) (i : ℕ) (rule : FieldRule) (text : Text) (rule_is : drop i rules ≡ rule ∷ drop (i + 1) rules) (text_is : drop i row ≡ text ∷ drop (i + 1) row) where
  pub said_next : (said all : List FieldValue) → said ++ values names (drop i rules) (drop i row) ≡ all → (said ++ value names rule text ∷ []) ++ values names (drop (i + 1) rules) (drop (i + 1) row) ≡ all
  said_next said all h =
      append_assoc said (value names rule text ∷ []) (values names (drop (i + 1) rules) (drop (i + 1) row))
      ∙ sym (ap (λ (l : List FieldValue). said ++ l) (ap (λ (rs : List FieldRule). values names rs (drop i row)) rule_is ∙ ap (λ (ts : Row). values names (rule ∷ drop (i + 1) rules) ts) text_is))
      ∙ h

  split : (before : FieldValue) → field_faults names (i + 1) before (drop i rules) (drop i row) ≡ at_field (i + 1) (field_fault names rule before text) ∷ field_faults names (i + 1 + 1) (value names rule text) (drop (i + 1) rules) (drop (i + 1) row)
  split before =
      ap (λ (rs : List FieldRule). field_faults names (i + 1) before rs (drop i row)) rule_is
      ∙ ap (λ (ts : Row). field_faults names (i + 1) before (rule ∷ drop (i + 1) rules) ts) text_is

  pub faults_next : (before : FieldValue) (all : Option FieldFault) → field_fault names rule before text ≡ None
      → first_some (field_faults names (i + 1) before (drop i rules) (drop i row)) ≡ all
      → first_some (field_faults names (i + 1 + 1) (value names rule text) (drop (i + 1) rules) (drop (i + 1) row)) ≡ all
  faults_next before all none h =
      sym (ap first_some (split before)
      ∙ ap (λ (f : Option DetailKind). first_some (at_field (i + 1) f ∷ field_faults names (i + 1 + 1) (value names rule text) (drop (i + 1) rules) (drop (i + 1) row))) none)
      ∙ h

  pub faults_here : (before : FieldValue) (all : Option FieldFault) (f : DetailKind) → field_fault names rule before text ≡ Some f
      → first_some (field_faults names (i + 1) before (drop i rules) (drop i row)) ≡ all
      → all ≡ Some (record { field = i + 1; kind = f })
  faults_here before all f some h =
      sym h ∙ ap first_some (split before)
      ∙ ap (λ (f : Option DetailKind). first_some (at_field (i + 1) f ∷ field_faults names (i + 1 + 1) (value names rule text) (drop (i + 1) rules) (drop (i + 1) row))) some

-- where an answer is a value there is no fault, and where it is a fault there is that one
pub unless_ok : {X F : Type 0} (f : Option F) (x y : X) → Ok y ≡ unless f x → (f ≡ None) × (x ≡ y)
unless_ok None x y h = (refl, (let e : y ≡ x = cc in sym e))
unless_ok (Some f) x y h = cc

pub unless_err : {X F : Type 0} (f : Option F) (x : X) (g : F) → Err g ≡ unless f x → f ≡ Some g
unless_err None x g h = cc
unless_err (Some f) x g h = let e : g ≡ f = cc in sym (ap Some e)

-- the field at a place of a record, by its rule
module _ (names : NamesByKind) (rules : List FieldRule) (row : Row) (i : ℕ) (before : FieldValue) (text : Text) (within : i < length rules) (text_is : Some text ≡ field_at row i) where
  abbrev rule : FieldRule
  rule = get_or rules i Word

  pub next_said : (said new all : List FieldValue) (v : FieldValue) → Ok v ≡ unless (field_fault names rule before text) (value names rule text) → new ≡ said ++ v ∷ []
      → said ++ values names (drop i rules) (drop i row) ≡ all → new ++ values names (drop (i + 1) rules) (drop (i + 1) row) ≡ all
  next_said said new all v ok pushed h =
      ap (λ (l : List FieldValue). l ++ values names (drop (i + 1) rules) (drop (i + 1) row)) (pushed ∙ ap (λ (w : FieldValue). said ++ w ∷ []) (sym (unless_ok (field_fault names rule before text) (value names rule text) v ok).1))
      ∙ said_next names rules row i rule text (drop_more rules i Word within) (drop_field row i text (sym text_is)) said all h

  pub next_faults : (all : Option FieldFault) (v : FieldValue) → Ok v ≡ unless (field_fault names rule before text) (value names rule text)
      → first_some (field_faults names (i + 1) before (drop i rules) (drop i row)) ≡ all
      → first_some (field_faults names (i + 1 + 1) v (drop (i + 1) rules) (drop (i + 1) row)) ≡ all
  next_faults all v ok h =
      ap (λ (w : FieldValue). first_some (field_faults names (i + 1 + 1) w (drop (i + 1) rules) (drop (i + 1) row))) (sym u.1)
      ∙ faults_next names rules row i rule text (drop_more rules i Word within) (drop_field row i text (sym text_is)) before all u.0 h
    where
      u : (field_fault names rule before text ≡ None) × (value names rule text ≡ v)
      u = unless_ok (field_fault names rule before text) (value names rule text) v ok

  pub fault_here : (all : Option FieldFault) (vs : List FieldValue) (f : DetailKind) → Err f ≡ unless (field_fault names rule before text) (value names rule text)
      → first_some (field_faults names (i + 1) before (drop i rules) (drop i row)) ≡ all
      → Err (record { field = i + 1; kind = f }) ≡ unless all vs
  fault_here all vs f err h = sym (ap (λ (o : Option FieldFault). unless o vs)
      (faults_here names rules row i rule text (drop_more rules i Word within) (drop_field row i text (sym text_is)) before all f (unless_err (field_fault names rule before text) (value names rule text) f err) h))

-- at the end of the rules or of the record
pub ended : (names : NamesByKind) (rules : List FieldRule) (row : Row) (i : ℕ) (before : FieldValue) (said all : List FieldValue) (faults : Option FieldFault)
    → (drop i rules ≡ []) ⊎ (drop i row ≡ [])
    → said ++ values names (drop i rules) (drop i row) ≡ all
    → first_some (field_faults names (i + 1) before (drop i rules) (drop i row)) ≡ faults
    → Ok said ≡ unless faults all
ended names rules row i before said all faults at_end h g = by (drop i rules) (drop i row) at_end h g
  where
    done : said ++ [] ≡ all → None ≡ faults → Ok said ≡ unless faults all
    done h g = ap Ok (sym (append-nil said) ∙ h) ∙ ap (λ (f : Option FieldFault). unless f all) g

    by : (rs : List FieldRule) (ts : Row) → (rs ≡ []) ⊎ (ts ≡ []) → said ++ values names rs ts ≡ all → first_some (field_faults names (i + 1) before rs ts) ≡ faults → Ok said ≡ unless faults all
    by [] ts e h g = done h g
    by (r ∷ rs) [] e h g = done h g
    by (r ∷ rs) (t ∷ ts) (inl e) h g = cc
    by (r ∷ rs) (t ∷ ts) (inr e) h g = cc
