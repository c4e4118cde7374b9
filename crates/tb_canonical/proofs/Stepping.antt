-- What a record that is written by the table of kinds leads to.
use Rattle.std.proofs.Common.{◌≡◌, refl, sym, subst, ◌==◌, true, false, List, ◌∷◌, length, Some}
use Rattle.csv.specs.Records.{field_at}
use Rattle.tb_records.specs.Plain.{is_blank}
use Rattle.tb_records.specs.Records.{is_remark}
use Rattle.tb_detail.specs.declared.Detail.{Detail}
use Rattle.tb_detail.specs.Names.{Text}
use Rattle.tb_reading.specs.declared.kinds.RecordKind.{RecordKind}
use Rattle.tb_reading.specs.declared.kinds.RecordKind.TheVariants as kind
use Rattle.tb_reading.specs.declared.records.Said.TheVariants as said
use Rattle.tb_reading.specs.declared.values.FieldValue.{FieldValue}
use Rattle.tb_reading.specs.declared.values.FieldValue.TheVariants.{Nothing}
use Rattle.tb_reading.specs.Drafts.{entry_of, with_entry}
use Rattle.tb_reading.specs.Kinds.{fields, is_allowed}
use Rattle.tb_reading.specs.Names.{NamesByKind}
use Rattle.tb_reading.specs.Records.{Row, is_count, is_full, kind_of, record_fault, said_by, sections_of}
use Rattle.tb_canonical.specs.Canonical.{names_in, row_of}
use Rattle.tb_canonical.proofs.RowReading.{Agree, AllFit, fields_back, same_texts}
use Rattle.tb_canonical.proofs.Runs.{Goes}

-- a record of this kind is no remark, and has its word
record IsOfKind (k : RecordKind) (row : Row) : Type 0 where
  pub no_remark : is_remark row ≡ false
  pub kind : kind_of row ≡ Some k
  pub not_blank : is_blank row ≡ false

of_kind : (names : NamesByKind) (k : RecordKind) (item : Text) (vs : List FieldValue) → IsOfKind k (row_of names k item vs)
unfolding kind_of field_at
of_kind names kind.Environment item vs = record { no_remark = refl; kind = refl; not_blank = refl }
of_kind names kind.Material item vs = record { no_remark = refl; kind = refl; not_blank = refl }
of_kind names kind.Solid item vs = record { no_remark = refl; kind = refl; not_blank = refl }
of_kind names kind.Air item vs = record { no_remark = refl; kind = refl; not_blank = refl }
of_kind names kind.Part item vs = record { no_remark = refl; kind = refl; not_blank = refl }
of_kind names kind.Layer item vs = record { no_remark = refl; kind = refl; not_blank = refl }
of_kind names kind.Psi item vs = record { no_remark = refl; kind = refl; not_blank = refl }
of_kind names kind.Length item vs = record { no_remark = refl; kind = refl; not_blank = refl }
of_kind names kind.Chi item vs = record { no_remark = refl; kind = refl; not_blank = refl }
of_kind names kind.Area item vs = record { no_remark = refl; kind = refl; not_blank = refl }
of_kind names kind.Line item vs = record { no_remark = refl; kind = refl; not_blank = refl }

-- what makes a record that is written with these names readable behind a detail
pub record Enters (names : NamesByKind) (a : Detail) (k : RecordKind) (item : Text) (vs : List FieldValue) : Type 0 where
  pub agree : Agree names (names_in a) (fields k)
  pub dimension : (a.dimension == 0) ≡ false
  pub allowed : is_allowed a.dimension k ≡ true
  pub count : is_count a.dimension (sections_of (names_in a) a (row_of (names_in a) k item vs)) k (length (Nothing ∷ vs)) ≡ true
  pub fits : AllFit (names_in a) k item Nothing (fields k) (Nothing ∷ vs)
  pub room : is_full (names_in a) a k (Nothing ∷ vs) ≡ false

pub enters : (names : NamesByKind) (a b : Detail) (k : RecordKind) (item : Text) (vs : List FieldValue) → Enters names a k item vs
    → with_entry (entry_of k (Nothing ∷ vs) (row_of (names_in a) k item vs)) a ≡ b → Goes a (row_of names k item vs) b
unfolding record_fault said_by
enters names a b k item vs e leads =
    let row = row_of (names_in a) k item vs in
    let o = of_kind (names_in a) k item vs in
    let back = fields_back (names_in a) k item 1 Nothing (fields k) (Nothing ∷ vs) e.fits in
    let count : is_count a.dimension (sections_of (names_in a) a row) k (length row) ≡ true = rw back.size e.count in
    let goes : Goes a row b = record {
      said = said.Record k (Nothing ∷ vs);
      reads = rw (o.no_remark, e.dimension, o.kind, e.allowed, count, back.faultless, back.gives, e.room) refl;
      leads = leads;
      plain = rw (back.plain, o.not_blank) refl;
    } in
    subst (λ (row : Row). Goes a row b) (sym (same_texts names (names_in a) k item (fields k) (Nothing ∷ vs) e.agree)) goes
