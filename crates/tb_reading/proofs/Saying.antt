-- What holds of a record that was read without a fault.
use Rattle.std.proofs.Common.{◌≡◌, ◌==◌, Bool, true, false, Option, Some, None, Result, Ok, refl, subst, if◌then◌else◌}
use Rattle.tb_records.specs.Records.{is_remark}
use Rattle.tb_detail.specs.declared.Detail.{Detail}
use Rattle.tb_reading.specs.declared.fault.DetailKind.TheVariants as fault
use Rattle.tb_reading.specs.declared.fault.FieldFault.{FieldFault}
use Rattle.tb_reading.specs.declared.kinds.RecordKind.{RecordKind}
use Rattle.tb_reading.specs.declared.records.Said.{Said}
use Rattle.tb_reading.specs.declared.records.Said.TheVariants as said
use Rattle.tb_reading.specs.Kinds.{fields}
use Rattle.tb_reading.specs.Names.{NamesByKind}
use Rattle.tb_reading.specs.Records.{Row, fault_as, fault_if, head_dimension, kind_fault, kind_of, reading, record_fault, said_as, said_by, unless, values}

-- what holds where a record says this
abbrev pub Says : Said → NamesByKind → Detail → Row → Type 0
Says said.Remark names d row = is_remark row ≡ true
Says (said.Head dimension) names d row = (is_remark row ≡ false) × ((d.dimension == 0) ≡ true) × (head_dimension row ≡ dimension) × ((dimension == 0) ≡ false)
Says (said.Record k vs) names d row = (is_remark row ≡ false) × ((d.dimension == 0) ≡ false) × (kind_of row ≡ Some k) × (kind_fault names d k row ≡ None) × (values names (fields k) row ≡ vs)

pub says : (names : NamesByKind) (d : Detail) (row : Row) (s : Said) → reading names d row ≡ Ok s → Says s names d row
unfolding record_fault said_by
says names d row s h = by (is_remark row) (d.dimension == 0) (kind_of row) refl refl refl h
  where
    is : (x y : Said) → (let r : Result Said FieldFault = Ok x in r) ≡ Ok y → x ≡ y
    is x y e = cc

    head : (b : Bool) → is_remark row ≡ false → (d.dimension == 0) ≡ true → (head_dimension row == 0) ≡ b → unless (fault_if b fault.NotFormat) (said.Head (head_dimension row)) ≡ Ok s → Says s names d row
    head true e f g h = cc
    head false e f g h = subst (λ (s : Said). Says s names d row) (is (said.Head (head_dimension row)) s h) (e, f, refl, g)

    record_of : (k : RecordKind) (o : Option FieldFault) → is_remark row ≡ false → (d.dimension == 0) ≡ false → kind_of row ≡ Some k → kind_fault names d k row ≡ o → unless o (said.Record k (values names (fields k) row)) ≡ Ok s → Says s names d row
    record_of k None e f g i h = subst (λ (s : Said). Says s names d row) (is (said.Record k (values names (fields k) row)) s h) (e, f, g, i, refl)
    record_of k (Some x) e f g i h = cc

    by : (b c : Bool) (o : Option RecordKind) → is_remark row ≡ b → (d.dimension == 0) ≡ c → kind_of row ≡ o
        → unless (if b then None else (if c then fault_if (head_dimension row == 0) fault.NotFormat else fault_as names d o row))
        (if b then said.Remark else (if c then said.Head (head_dimension row) else said_as names o row)) ≡ Ok s → Says s names d row
    by true c o e f g h = subst (λ (s : Said). Says s names d row) (is said.Remark s h) e
    by false true o e f g h = head (head_dimension row == 0) e f refl h
    by false false None e f g h = cc
    by false false (Some k) e f g h = record_of k (kind_fault names d k row) e f g refl h
