-- Texts of rows of values, put one behind the other.
use Rattle.std.proofs.Common.{◌≡◌, ◌∙◌, ap, refl, sym, subst, ℕ, suc, ℤ, ◌+◌, ◌*◌, ◌≤◌, ◌<◌, List, [], ◌∷◌, ◌++◌, length, map, take, drop, replicate, Option, arith, append-nil}
use Rattle.std.proofs.lemmas.Grind.{flat_map-append}
use Rattle.std.proofs.lemmas.List.{drop-drop, length-drop}
use Rattle.std.proofs.lemmas.Nat.{mul-le}
use Rattle.std.specs.List.{repeat}
use Rattle.tb_outside.proofs.Gathered.{gathers_both, gathers_none, gathers_same}
use Rattle.tb_outside.specs.Buffers.{Gathers}
use Rattle.tb_records.specs.Plain.{record_text, records_text}
use Rattle.tb_detail.specs.Names.{Text}
use Rattle.tb_case_records.specs.declared.rows.RowKind.{RowKind}
use Rattle.tb_case_records.specs.Rows.{word_of}
use Rattle.tb_case_records.specs.Table.{Expected, Values}
use Rattle.tb_case_records.proofs.Taking.{one_layer_more, one_row_more}
use Rattle.tb_bundle_text.specs.Canonical.{value_count, value_row, value_rows, value_text, values_in}
use Rattle.tb_bundle_text.specs.Writing.{Puts}
use Rattle.tb_bundle_text.proofs.RowsBack.{rows_append, values_append, values_repeat, values_replicate}

abbrev pub rows_text : List Expected → List ℤ → List ℕ
rows_text es values = records_text (value_rows es values)

-- the text of two lists of rows
pub texts_append : (es fs : List Expected) (values : List ℤ) → rows_text es values ++ rows_text fs (drop (values_in es) values) ≡ rows_text (es ++ fs) values
texts_append es fs values = sym (ap records_text (rows_append es fs values) ∙ flat_map-append record_text (value_rows es values) (value_rows fs (drop (values_in es) values)))

pub row_alone : (e : Expected) (values : List ℤ) → record_text (value_row e (take (value_count e) values)) ≡ rows_text (e ∷ []) values
row_alone e values = sym (append-nil (record_text (value_row e (take (value_count e) values))))

-- ---- what is left behind them

-- rows, and more behind them
pub puts_both : {K : Type 0} {h : K → Option (List ℕ)} {f : K → ℕ} {a b c : K} {u v w : Option (List ℕ)} (es fs : List Expected) (values mid left : List ℤ)
    → Puts h f a b u v es values mid → Puts h f b c v w fs mid left → Puts h f a c u w (es ++ fs) values left
puts_both es fs values mid left p q = record {
  text = gathers_same (texts_append es fs values) (gathers_both p.text (rw p.rest at q.text));
  rest = q.rest ∙ ap (drop (values_in fs)) p.rest ∙ drop-drop (values_in fs) (values_in es) values ∙ ap (λ (n : ℕ). drop n values) (sym (values_append es fs));
}

-- enough values are left
pub enough : (es fs : List Expected) (values mid : List ℤ) → mid ≡ drop (values_in es) values → values_in (es ++ fs) ≤ length values → values_in fs ≤ length mid
enough es fs values mid is h = rw is (omega (arith, h, values_append es fs, length-drop (values_in es) values))

-- nothing is put
pub puts_none : {K : Type 0} {h : K → Option (List ℕ)} {f : K → ℕ} (a : K) (u : Option (List ℕ)) (values : List ℤ) → Puts h f a a u u [] values values
puts_none a u values = record { text = gathers_none a u; rest = refl }

-- a row that is put as a record of its own
pub puts_row : {K : Type 0} {h : K → Option (List ℕ)} {f : K → ℕ} {a b : K} {u v : Option (List ℕ)} (e : Expected) (values row left : List ℤ)
    → Gathers h f a b u (record_text (value_row e row)) v → row ≡ take (value_count e) values → left ≡ drop (value_count e) values → Puts h f a b u v (e ∷ []) values left
puts_row e values row left put front back = record {
  text = gathers_same (row_alone e values) (rw front at put);
  rest = back ∙ ap (λ (n : ℕ). drop n values) (alone e);
}
  where
    alone : (e : Expected) → value_count e ≡ values_in (e ∷ [])
    alone e = omega arith

-- the values of a row more are left, where all rows have theirs
pub one_more_fits : (e : Expected) (at rows : ℕ) (values mid : List ℤ) → at < rows → mid ≡ drop (values_in (replicate at e)) values → values_in (replicate rows e) ≤ length values
    → value_count e ≤ length mid
one_more_fits e at rows values mid below is h =
    let whole = values_replicate rows e in
    let done = values_replicate at e in
    let step : (at + 1) * value_count e ≤ rows * value_count e = mul-le (at + 1) (value_count e) rows (value_count e) (omega arith) (omega arith) in
    rw is (omega (arith, h, whole, done, step, length-drop (values_in (replicate at e)) values))

-- a row more, and a layer more
pub puts_next_row : {K : Type 0} {h : K → Option (List ℕ)} {f : K → ℕ} {a b c : K} {u v w : Option (List ℕ)} (kind : RowKind) (count at : ℕ) (word : Text) (values mid row left : List ℤ)
    → Puts h f a b u v (replicate at (Values kind count)) values mid → Gathers h f b c v (record_text (word ∷ map value_text row)) w → word ≡ word_of kind
    → row ≡ take count mid → left ≡ drop count mid → Puts h f a c u w (replicate (at + 1) (Values kind count)) values left
puts_next_row {h = h} {f = f} {a = a} {c = c} {u = u} {w = w} kind count at word values mid row left p put is front back =
    subst (λ (es : List Expected). Puts h f a c u w es values left) (one_row_more (Values kind count) at)
    (puts_both (replicate at (Values kind count)) (Values kind count ∷ []) values mid left p (puts_row (Values kind count) mid row left (rw is at put) front back))

pub puts_next_layer : {K : Type 0} {h : K → Option (List ℕ)} {f : K → ℕ} {a b c : K} {u v w : Option (List ℕ)} (es : List Expected) (at : ℕ) (values mid left : List ℤ)
    → Puts h f a b u v (repeat at es) values mid → Puts h f b c v w es mid left → Puts h f a c u w (repeat (at + 1) es) values left
puts_next_layer {h = h} {f = f} {a = a} {c = c} {u = u} {w = w} es at values mid left p q =
    subst (λ (fs : List Expected). Puts h f a c u w fs values left) (one_layer_more es at ∙ ap (λ (n : ℕ). repeat n es) next)
    (puts_both (repeat at es) es values mid left p q)
  where
    next : suc at ≡ at + 1
    next = omega arith

-- the values of a layer more are left
pub layer_fits : (es : List Expected) (at layers : ℕ) (values mid : List ℤ) → at < layers → mid ≡ drop (values_in (repeat at es)) values → values_in (repeat layers es) ≤ length values
    → values_in es ≤ length mid
layer_fits es at layers values mid below is h =
    let whole = values_repeat layers es in
    let done = values_repeat at es in
    let step : (at + 1) * values_in es ≤ layers * values_in es = mul-le (at + 1) (values_in es) layers (values_in es) (omega arith) (omega arith) in
    rw is (omega (arith, h, whole, done, step, length-drop (values_in (repeat at es)) values))
