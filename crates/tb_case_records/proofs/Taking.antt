-- Records that are awaited one behind the other.
use Rattle.std.proofs.Common.{◌≡◌, ℕ, zero, suc, ◌+◌, ◌-◌, ◌<◌, arith, append_assoc, OnOk, List, [], ◌∷◌, ◌++◌, length, take, drop, replicate, Option, Some, None, Result, Ok, Err, refl, sym, ap, subst, ◌∙◌, length-append}
use Rattle.std.proofs.lemmas.Grind.{flat_map-append}
use Rattle.std.proofs.lemmas.List.{append-nil, drop-drop, length-replicate, replicate-append-replicate}
use Rattle.std.proofs.Math.Seq.{take-add}
use Rattle.std.specs.List.{flat_map, repeat}
use Rattle.tb_detail.specs.Names.{Text}
use Rattle.tb_numbers.specs.declared.parse.NumberFault.{NumberFault}
use Rattle.std.specs.Option.{option_or}
use Rattle.tb_reading.specs.Reading.{Numbered}
use Rattle.tb_reading.specs.Records.{Row, first_some}
use Rattle.tb_case_records.specs.declared.fault.BundleFault.{BundleFault}
use Rattle.tb_case_records.specs.declared.fault.BundleFault.TheVariants as bundle
use Rattle.tb_case_records.specs.declared.fault.BundleRefusal.{BundleRefusal}
use Rattle.tb_case_records.specs.declared.fault.BundleRefusal.TheVariants as refusal
use Rattle.tb_case_records.specs.declared.fault.RecordFault.{RecordFault}
use Rattle.tb_case_records.specs.Faults.{placed}
use Rattle.tb_case_records.specs.Ahead.{Ahead, IsAt, IsOnePast, row_numbers}
use Rattle.tb_case_records.specs.Rows.{Unit0, numbers}
use Rattle.tb_case_records.specs.Table.{Expected, IsPast, Stops, Taken, fault_of, faults, first_fault, line_of_fault}

-- the first fault of two lists of awaited records
pub first_of_both : (es fs : List Expected) (given : List Numbered)
    → first_fault es given ≡ None → first_fault (es ++ fs) given ≡ first_fault fs (drop (length es) given)
first_of_both [] fs given h = refl
first_of_both (e ∷ es) fs [] h = cc
first_of_both (e ∷ es) fs (r ∷ given) h = by (line_of_fault r.0 (fault_of e r.1)) (first_of_both es fs given) h
  where
    by : (o : Option BundleFault) → (first_fault es given ≡ None → first_fault (es ++ fs) given ≡ first_fault fs (drop (length es) given))
        → first_some (o ∷ faults es given) ≡ None → first_some (o ∷ faults (es ++ fs) given) ≡ first_fault fs (drop (length es) given)
    by None k h = k h
    by (Some f) k h = cc

pub fault_stays : (es fs : List Expected) (given : List Numbered) (f : BundleFault) → first_fault es given ≡ Some f → first_fault (es ++ fs) given ≡ Some f
fault_stays [] fs given f h = cc
fault_stays (e ∷ es) fs [] f h = h
fault_stays (e ∷ es) fs (r ∷ given) f h = by (line_of_fault r.0 (fault_of e r.1)) (fault_stays es fs given f) h
  where
    by : (o : Option BundleFault) → (first_fault es given ≡ Some f → first_fault (es ++ fs) given ≡ Some f)
        → first_some (o ∷ faults es given) ≡ Some f → first_some (o ∷ faults (es ++ fs) given) ≡ Some f
    by None k h = k h
    by (Some g) k h = h

-- awaited records, and more behind them
module _ (es fs : List Expected) (old : Ahead) where
  pub past_then : (mid new : Ahead) → IsPast es old mid → IsPast fs mid new → IsPast (es ++ fs) old new
  past_then mid new p t = record {
    faultless = first_of_both es fs old.ahead p.faultless ∙ ap (first_fault fs) (sym p.rest) ∙ t.faultless;
    rest = t.rest ∙ ap (drop (length fs)) p.rest ∙ drop-drop (length fs) (length es) old.ahead ∙ ap (λ (n : ℕ). drop n old.ahead) (sym (length-append es fs));
    total = t.total ∙ p.total;
  }

  pub stops_then : (mid : Ahead) (e : BundleRefusal) → IsPast es old mid → Stops fs mid e → Stops (es ++ fs) old e
  stops_then mid (refusal.Fault f) p t = first_of_both es fs old.ahead p.faultless ∙ ap (first_fault fs) (sym p.rest) ∙ t
  stops_then mid refusal.NoMemory p t = tt

  -- what failed before its end
  pub stops_short : (e : BundleRefusal) → Stops es old e → Stops (es ++ fs) old e
  stops_short (refusal.Fault f) t = fault_stays es fs old.ahead f t
  stops_short refusal.NoMemory t = tt

  pub taken_then : {X : Type 0} (mid new : Ahead) (r : Result X BundleRefusal) → IsPast es old mid → Taken fs mid new r → Taken (es ++ fs) old new r
  taken_then mid new (Ok x) p t = past_then mid new p t
  taken_then mid new (Err e) p t = stops_then mid e p t

-- ---- one record

pub none_left : (e : Expected) (old : Ahead) → old.ahead ≡ [] → first_fault (e ∷ []) old.ahead ≡ Some bundle.NoEnd
none_left e old h = ap (first_fault (e ∷ [])) h

pub one_fault : (e : Expected) (old : Ahead) (n : ℕ) (row : Row) (f : RecordFault) → IsAt n row old.ahead → fault_of e row ≡ Some f → first_fault (e ∷ []) old.ahead ≡ Some (placed n f)
one_fault e old n row f at h = ap (first_fault (e ∷ [])) at ∙ ap (λ (o : Option RecordFault). first_some (line_of_fault n o ∷ [])) h

pub one_past : (e : Expected) (old new : Ahead) (n : ℕ) (row : Row) → IsAt n row old.ahead → fault_of e row ≡ None → IsOnePast old new → IsPast (e ∷ []) old new
one_past e old new n row at h p = record {
  faultless = ap (first_fault (e ∷ [])) at ∙ ap (λ (o : Option RecordFault). first_some (line_of_fault n o ∷ [])) h;
  rest = p.rest;
  total = p.total;
}

-- ---- rows with their numbers

module _ {X : Type 0} (reading : Text → Result X NumberFault) where
  pub numbers_add : (m n : ℕ) (given : List Numbered) → row_numbers reading (m + n) given ≡ row_numbers reading m given ++ row_numbers reading n (drop m given)
  numbers_add m n given =
      ap (flat_map (λ (r : Numbered). numbers reading (drop 1 r.1))) (take-add m n given)
      ∙ flat_map-append (λ (r : Numbered). numbers reading (drop 1 r.1)) (take m given) (take n (drop m given))

  -- the numbers of awaited records, and those of more behind them
  pub read_then : (es fs : List Expected) (old mid : Ahead) (before between after : List X) → IsPast es old mid
      → between ≡ before ++ row_numbers reading (length es) old.ahead
      → after ≡ between ++ row_numbers reading (length fs) mid.ahead
      → after ≡ before ++ row_numbers reading (length (es ++ fs)) old.ahead
  read_then es fs old mid before between after p h k =
      k
      ∙ ap (λ (l : List X). l ++ row_numbers reading (length fs) mid.ahead) h
      ∙ append_assoc before (row_numbers reading (length es) old.ahead) (row_numbers reading (length fs) mid.ahead)
      ∙ ap (λ (l : List Numbered). before ++ (row_numbers reading (length es) old.ahead ++ row_numbers reading (length fs) l)) p.rest
      ∙ ap (λ (l : List X). before ++ l) (sym (numbers_add (length es) (length fs) old.ahead))
      ∙ ap (λ (n : ℕ). before ++ row_numbers reading n old.ahead) (sym (length-append es fs))

pub one_row_more : (e : Expected) (n : ℕ) → replicate n e ++ e ∷ [] ≡ replicate (n + 1) e
one_row_more e n = replicate-append-replicate n 1 e

-- the rows from one on
pub rows_from : (e : Expected) (n rows : ℕ) → n < rows → (replicate n e ++ e ∷ []) ++ replicate (rows - (n + 1)) e ≡ replicate rows e
rows_from e n rows h =
    ap (λ (l : List Expected). l ++ replicate (rows - (n + 1)) e) (one_row_more e n)
    ∙ replicate-append-replicate (n + 1) (rows - (n + 1)) e
    ∙ ap (λ (m : ℕ). replicate m e) all
  where
    all : n + 1 + (rows - (n + 1)) ≡ rows
    all = omega arith

-- one row more
module _ (e : Expected) (at : ℕ) (old mid : Ahead) (p : IsPast (replicate at e) old mid) where
  pub row_past : (new : Ahead) → IsPast (e ∷ []) mid new → IsPast (replicate (at + 1) e) old new
  row_past new q = subst (λ (es : List Expected). IsPast es old new) (one_row_more e at) (past_then (replicate at e) (e ∷ []) old mid new p q)

  pub row_cut : (rows : ℕ) (x : BundleRefusal) → at < rows → Stops (e ∷ []) mid x → Stops (replicate rows e) old x
  row_cut rows x h t =
      subst (λ (es : List Expected). Stops es old x) (rows_from e at rows h)
      (stops_short (replicate at e ++ e ∷ []) (replicate (rows - (at + 1)) e) old x (stops_then (replicate at e) (e ∷ []) old mid x p t))

  pub row_read : {X : Type 0} (reading : Text → Result X NumberFault) (before between after : List X)
      → between ≡ before ++ row_numbers reading at old.ahead
      → after ≡ between ++ row_numbers reading 1 mid.ahead
      → after ≡ before ++ row_numbers reading (at + 1) old.ahead
  row_read {X} reading before between after h k =
      read_then reading (replicate at e) (e ∷ []) old mid before between after p
      (h ∙ ap (λ (n : ℕ). before ++ row_numbers reading n old.ahead) (sym (length-replicate at e))) k
      ∙ ap (λ (n : ℕ). before ++ row_numbers reading n old.ahead) (ap length (one_row_more e at) ∙ length-replicate (at + 1) e)

-- ---- layers

pub one_layer_more : (es : List Expected) (n : ℕ) → repeat n es ++ es ≡ repeat (suc n) es
one_layer_more es zero = sym (append-nil es)
one_layer_more es (suc n) = append_assoc es (repeat n es) es ∙ ap (λ (l : List Expected). es ++ l) (one_layer_more es n)

pub layers_add : (es : List Expected) (m n : ℕ) → repeat m es ++ repeat n es ≡ repeat (m + n) es
layers_add es zero n = ap (λ (k : ℕ). repeat k es) none
  where
    none : n ≡ 0 + n
    none = omega arith
layers_add es (suc m) n = append_assoc es (repeat m es) (repeat n es) ∙ ap (λ (l : List Expected). es ++ l) (layers_add es m n) ∙ ap (λ (k : ℕ). repeat k es) one
  where
    one : suc (m + n) ≡ suc m + n
    one = omega arith

module _ (es : List Expected) (at : ℕ) (old mid : Ahead) (p : IsPast (repeat at es) old mid) where
  layer_at : repeat at es ++ es ≡ repeat (at + 1) es
  layer_at = one_layer_more es at ∙ ap (λ (k : ℕ). repeat k es) one
    where
      one : suc at ≡ at + 1
      one = omega arith

  pub layer_past : (new : Ahead) → IsPast es mid new → IsPast (repeat (at + 1) es) old new
  layer_past new q = subst (λ (fs : List Expected). IsPast fs old new) layer_at (past_then (repeat at es) es old mid new p q)

  -- a layer that failed, with what would have come behind
  pub layer_cut : (layers : ℕ) (fs : List Expected) (x : BundleRefusal) → at < layers → Stops es mid x → Stops (repeat layers es ++ fs) old x
  layer_cut layers fs x h t =
      subst (λ (gs : List Expected). Stops gs old x) all
      (stops_short (repeat at es ++ es) (repeat (layers - (at + 1)) es ++ fs) old x (stops_then (repeat at es) es old mid x p t))
    where
      total : at + 1 + (layers - (at + 1)) ≡ layers
      total = omega arith

      all : (repeat at es ++ es) ++ (repeat (layers - (at + 1)) es ++ fs) ≡ repeat layers es ++ fs
      all = ap (λ (l : List Expected). l ++ (repeat (layers - (at + 1)) es ++ fs)) layer_at
          ∙ sym (append_assoc (repeat (at + 1) es) (repeat (layers - (at + 1)) es) fs)
          ∙ ap (λ (l : List Expected). l ++ fs) (layers_add es (at + 1) (layers - (at + 1)) ∙ ap (λ (k : ℕ). repeat k es) total)

  pub layer_read : {X : Type 0} (reading : Text → Result X NumberFault) (before between after : List X)
      → between ≡ before ++ row_numbers reading (length (repeat at es)) old.ahead
      → after ≡ between ++ row_numbers reading (length es) mid.ahead
      → after ≡ before ++ row_numbers reading (length (repeat (at + 1) es)) old.ahead
  layer_read reading before between after h k =
      read_then reading (repeat at es) es old mid before between after p h k
      ∙ ap (λ (gs : List Expected). before ++ row_numbers reading (length gs) old.ahead) layer_at

pub rows_read : {X : Type 0} (reading : Text → Result X NumberFault) (e : Expected) (n : ℕ) (given : List Numbered) (before after : List X)
    → after ≡ before ++ row_numbers reading n given → after ≡ before ++ row_numbers reading (length (replicate n e)) given
rows_read reading e n given before after h = h ∙ ap (λ (m : ℕ). before ++ row_numbers reading m given) (sym (length-replicate n e))

pub on_ok : {X E : Type 0} (P Q : Type 0) (r : Result X E) → (P → Q) → OnOk r P → OnOk r Q
on_ok P Q (Ok x) f p = f p
on_ok P Q (Err e) f p = tt
