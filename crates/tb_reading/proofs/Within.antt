-- A detail that was read is within limits.
use Rattle.std.proofs.Common.{◌≡◌, ℕ, ◌+◌, ◌<◌, ◌≤◌, ◌==◌, ◌&&◌, ◌⊎◌, inl, inr, Bool, true, false, List, [], ◌∷◌, ◌++◌, length, map, get_or, Option, Some, None, Result, Ok, Err, IfOk, refl, sym, ap, ◌∙◌, subst, arith, if◌then◌else◌, All, IsTrue, lit≤, append_assoc, option_map, position, is_none, codes}
use Rattle.std.proofs.lemmas.Bool.{eqb-true, eqb-false}
use Rattle.std.proofs.lemmas.List.{append-nil, get_or-map, length-map}
use Rattle.std.proofs.lemmas.List.Elements.{All-nil, All-weaker}
use Rattle.std.proofs.lemmas.List.Folds.{list_any_at}
use Rattle.std.specs.Option.{option_or}
use Rattle.std.specs.Str.{bytes_eq}
use Rattle.tb_detail.specs.declared.ChiItem.{ChiItem}
use Rattle.tb_detail.specs.declared.Detail.{Detail}
use Rattle.tb_detail.specs.declared.Environment.{Environment}
use Rattle.tb_detail.specs.declared.Material.{Material}
use Rattle.tb_detail.specs.declared.Part.{Part}
use Rattle.tb_detail.specs.declared.PsiItem.{PsiItem}
use Rattle.tb_detail.specs.Limits.{BoxInLimits, ChiInLimits, InLimits, PartInLimits, PsiInLimits}
use Rattle.tb_detail.specs.Names.{AreNamed, Text, is_name}
use Rattle.tb_reading.specs.declared.draft.Draft.{Draft}
use Rattle.tb_reading.specs.declared.fault.DetailFault.{DetailFault}
use Rattle.tb_reading.specs.declared.fault.DetailKind.TheVariants.{NotFormat}
use Rattle.tb_reading.specs.declared.fault.DetailRefusal.{DetailRefusal}
use Rattle.tb_reading.specs.declared.fault.FieldFault.{FieldFault}
use Rattle.tb_reading.specs.declared.names.Names.{Names}
use Rattle.tb_reading.specs.declared.records.Said.{Said}
use Rattle.tb_reading.specs.declared.records.Said.TheVariants as said
use Rattle.tb_reading.specs.declared.values.FieldValue.{FieldValue}
use Rattle.tb_reading.specs.Details.{detail_from, detail_of, head_of}
use Rattle.tb_reading.specs.Drafts.{Holds, reading_behind, with_said}
use Rattle.tb_reading.specs.NameLists.{names_in, no_names}
use Rattle.tb_reading.specs.Reading.{Answers, Numbered, at_number, bare_fault, detail_reading, fault_of, first_record_fault, format_fault, is_bare, part_numbers, record_faults, rows_of, whole_fault}
use Rattle.tb_reading.specs.Records.{Row, first_some, head_dimension, said_by, text_at, unless}
use Rattle.tb_reading.proofs.Fields.{unless_ok}
use Rattle.tb_reading.proofs.Holding.{dimension_is, fault_behind, holds_none, no_names_in, rows_more, taken}
use Rattle.tb_reading.proofs.Kept.{keeps_kind}
use Rattle.tb_reading.proofs.NamePlaces.{none_passes}
use Rattle.tb_reading.proofs.Saying.{Says, says}
use Rattle.tb_reading.proofs.Settled.{neither, sound}
use Rattle.tb_reading.proofs.SoFar.{AreKept, AreTexts, Grows, PartSoFar, chi_more, part_more, psi_more}

-- ---- the start and the head

texts_none : AreTexts []
texts_none = record {
  formed = All-nil (λ (t : Text). IsTrue (is_name t));
  distinct = λ i j d l m. absurd (omega arith);
}

pub kept_none : AreKept no_names (detail_from 0 [])
kept_none = record {
  dimension = record { known = λ h. absurd (h refl); no_box = λ e. refl; no_psi = λ h. refl; no_chi = λ h. refl };
  few_environments = lit≤ tt;
  few_boxes = lit≤ tt;
  few_names = lit≤ tt;
  those = record { environments = refl; materials = refl; parts = refl; psis = refl; chis = refl };
  texts = record { environments = texts_none; materials = texts_none; parts = texts_none; psis = texts_none; chis = texts_none };
  conductivities = All-nil _;
  boxes = All-nil _;
  parts = All-nil _;
  psis = All-nil _;
  chis = All-nil _;
}

head_is : (row : Row) → (head_dimension row == 0) ≡ false → (head_dimension row ≡ 2) ⊎ (head_dimension row ≡ 3)
unfolding head_dimension
head_is row h = by (length row == 3 && (bytes_eq (text_at row 0) (codes "detail") && bytes_eq (text_at row 1) (codes "1"))) (bytes_eq (text_at row 2) (codes "2")) (bytes_eq (text_at row 2) (codes "3")) h
  where
    dimension : Bool → Bool → Bool → ℕ
    dimension a b c = if a then (if b then 2 else (if c then 3 else 0)) else 0

    by : (a b c : Bool) → (dimension a b c == 0) ≡ false → (dimension a b c ≡ 2) ⊎ (dimension a b c ≡ 3)
    by true true c h = inl refl
    by true false true h = inr refl
    by true false false h = cc
    by false b c h = cc

kept_head : (n : Names) (d : Detail) (dimension : ℕ) → AreKept n d → (d.dimension == 0) ≡ true → (dimension ≡ 2) ⊎ (dimension ≡ 3) → AreKept n (record d { dimension = dimension })
kept_head n d dimension kept z two_or_three = record {
  dimension = record {
    known = λ h. two_or_three;
    no_box = λ e. kept.dimension.no_box zero_is;
    no_psi = λ h. kept.dimension.no_psi (λ e. other 2 (sym zero_is ∙ e) (lit≤ tt));
    no_chi = λ h. kept.dimension.no_chi (λ e. other 3 (sym zero_is ∙ e) (lit≤ tt));
  };
  few_environments = kept.few_environments;
  few_boxes = kept.few_boxes;
  few_names = kept.few_names;
  those = record { environments = kept.those.environments; materials = kept.those.materials; parts = kept.those.parts; psis = kept.those.psis; chis = kept.those.chis };
  texts = kept.texts;
  conductivities = kept.conductivities;
  boxes = subst (All (BoxInLimits more)) (sym (kept.dimension.no_box zero_is)) (All-nil (BoxInLimits more));
  parts = All-weaker (PartSoFar d) (PartSoFar more) (part_more d more grows) d.parts kept.parts;
  psis = All-weaker (PsiInLimits d) (PsiInLimits more) (psi_more d more grows) d.psis kept.psis;
  chis = All-weaker (ChiInLimits d) (ChiInLimits more) (chi_more d more grows) d.chis kept.chis;
}
  where
    more : Detail
    more = record d { dimension = dimension }

    grows : Grows d (record d { dimension = dimension })
    grows = record { environments = omega arith; materials = omega arith; parts = omega arith }

    zero_is : d.dimension ≡ 0
    zero_is = eqb-true d.dimension 0 z

    other : (n : ℕ) → 0 ≡ n → 2 ≤ n → ⊥
    other n e l = omega arith

-- ---- one more record

kept_more : (x : Draft) (s : Said) (number : ℕ) (row : Row) → AreKept x.names x.detail → Says s (names_in x.names) x.detail row → AreKept (with_said s number row x).names (with_said s number row x).detail
kept_more x said.Remark number row kept e = kept
kept_more x (said.Head dimension) number row kept e =
    kept_head x.names x.detail dimension kept e.1 (subst (λ (n : ℕ). (n ≡ 2) ⊎ (n ≡ 3)) e.2 (head_is row (ap (λ (n : ℕ). n == 0) e.2 ∙ e.3)))
kept_more x (said.Record k vs) number row kept e =
    subst (λ (vs : List FieldValue). AreKept (with_said (said.Record k vs) number row x).names (with_said (said.Record k vs) number row x).detail) e.4
    (keeps_kind x.names x.detail row kept k (sound (names_in x.names) x.detail k row e.3) e.1)

-- a draft that holds these records and keeps the limits
record IsReached (given : List Numbered) : Type 0 where
  draft : Draft
  holds : Holds draft given
  kept : AreKept draft.names draft.detail

no_fault : {X Y : Type 0} (f : X → Y) (o : Option X) (rest : List (Option Y)) → first_some (option_map f o ∷ rest) ≡ None → (o ≡ None) × (first_some rest ≡ None)
no_fault f None rest h = (refl, h)
no_fault f (Some x) rest h = cc

goes_on : (done rest : List Numbered) → IsReached done → first_some (record_faults (rows_of done) rest) ≡ None → IsReached (done ++ rest)
goes_on done [] r e = subst IsReached (sym (append-nil done)) r
goes_on done (next ∷ rest) r e =
    subst IsReached (append_assoc done (next ∷ []) rest)
    (goes_on (done ++ next ∷ []) rest reached (ap (λ (rows : List Row). first_some (record_faults rows rest)) (rows_more done next.0 next.1) ∙ none.1))
  where
    none : (fault_of (rows_of done) next.1 ≡ None) × (first_some (record_faults (rows_of done ++ next.1 ∷ []) rest) ≡ None)
    none = no_fault (at_number next.0) (fault_of (rows_of done) next.1) (record_faults (rows_of done ++ next.1 ∷ []) rest) e

    s : Said
    s = said_by (names_in r.draft.names) r.draft.detail next.1

    reading : reading_behind r.draft next.1 ≡ Ok (said_by (names_in r.draft.names) r.draft.detail next.1)
    reading = ap (λ (o : Option FieldFault). unless o (said_by (names_in r.draft.names) r.draft.detail next.1)) (fault_behind r.draft done next.1 r.holds ∙ none.0)

    reached : IsReached (done ++ next ∷ [])
    reached = record {
      draft = with_said (said_by (names_in r.draft.names) r.draft.detail next.1) next.0 next.1 r.draft;
      holds = (taken r.draft _ done (said_by (names_in r.draft.names) r.draft.detail next.1) next.0 next.1 r.holds reading refl).1;
      kept = kept_more r.draft (said_by (names_in r.draft.names) r.draft.detail next.1) next.0 next.1 r.kept (says (names_in r.draft.names) r.draft.detail next.1 _ reading);
    }

first_reached : IsReached []
first_reached = record {
  draft = record { names = no_names; detail = detail_from 0 []; part_numbers = [] };
  holds = holds_none _ no_names_in refl refl;
  kept = kept_none;
}

-- ---- the whole detail

module _ {X : Type 0} (f : X → Text) (xs : List X) where
  named_all : AreTexts (map f xs) → AreNamed f xs
  named_all h = record {
    formed = λ k d l. subst (λ (t : Text). IsTrue (is_name t)) (get_or-map f xs k d (f d) l) (h.formed k (f d) (let e = length-map xs f in omega arith));
    distinct = λ i j d l m same. h.distinct i j (f d) l (let e = length-map xs f in omega arith) (get_or-map f xs i d (f d) (omega arith) ∙ same ∙ sym (get_or-map f xs j d (f d) m));
  }

  named : (names : List Text) → map f xs ≡ names → AreTexts names → AreNamed f xs
  named names e h = named_all (subst AreTexts (sym e) h)

  counted : (names : List Text) → map f xs ≡ names → length xs ≡ length names
  counted names e = sym (length-map xs f) ∙ ap length e

has_layer : (ps : List Part) → position is_bare ps ≡ None → (k : ℕ) (p : Part) → k < length ps → 1 ≤ length (get_or ps k p).layers
has_layer ps none k p l = by (is_bare (get_or ps k p)) refl
  where
    no : true ≡ false → ⊥
    no e = cc

    by : (b : Bool) → is_bare (get_or ps k p) ≡ b → 1 ≤ length (get_or ps k p).layers
    by true e = absurd (no (sym (list_any_at is_bare ps k p l e) ∙ none_passes is_bare ps none))
    by false e = let z = eqb-false (length (get_or ps k p).layers) 0 e in omega arith

all_in_limits : (n : Names) (d : Detail) → AreKept n d → (d.dimension ≡ 0 → ⊥) → position is_bare d.parts ≡ None → InLimits d
all_in_limits n d kept headed none = record {
  dimension = record {
    known = kept.dimension.known headed;
    no_psi = λ e. kept.dimension.no_psi (λ f. clash (sym f ∙ e));
    no_chi = λ e. kept.dimension.no_chi (λ f. clash (sym e ∙ f));
  };
  few = record {
    environments = kept.few_environments;
    boxes = kept.few_boxes;
    names = few_names;
  };
  named = record {
    environments = named (λ (e : Environment). e.name) d.environments n.environments kept.those.environments kept.texts.environments;
    materials = named (λ (m : Material). m.name) d.materials n.materials kept.those.materials kept.texts.materials;
    parts = named (λ (p : Part). p.name) d.parts n.parts kept.those.parts kept.texts.parts;
    psis = named (λ (p : PsiItem). p.name) d.psis n.psis kept.those.psis kept.texts.psis;
    chis = named (λ (c : ChiItem). c.name) d.chis n.chis kept.those.chis kept.texts.chis;
  };
  conductivities = kept.conductivities;
  boxes = kept.boxes;
  parts = λ k p l. part (get_or d.parts k p) (kept.parts k p l) (has_layer d.parts none k p l);
  psis = kept.psis;
  chis = kept.chis;
}
  where
    clash : ◌≡◌ {A = ℕ} 2 3 → ⊥
    clash e = omega arith

    few_names : length d.environments + length d.materials + length d.parts + length d.psis + length d.chis ≤ 256
    few_names =
        let a = counted (λ (e : Environment). e.name) d.environments n.environments kept.those.environments in
        let b = counted (λ (m : Material). m.name) d.materials n.materials kept.those.materials in
        let c = counted (λ (p : Part). p.name) d.parts n.parts kept.those.parts in
        let e = counted (λ (p : PsiItem). p.name) d.psis n.psis kept.those.psis in
        let f = counted (λ (c : ChiItem). c.name) d.chis n.chis kept.those.chis in
        let l = kept.few_names in
        omega arith

    part : (p : Part) → PartSoFar d p → 1 ≤ length p.layers → PartInLimits d p
    part p h some = record {
      rsi = h.rsi;
      rse = h.rse;
      some_area = h.some_area;
      few_areas = h.few_areas;
      areas = h.areas;
      some_layer = some;
      few_layers = h.few_layers;
      layers = h.layers;
    }

headed_as : (number : ℕ) (given : List Numbered) → format_fault number given ≡ None → head_of (rows_of given) ≡ None → ⊥
headed_as number given none e = by (sym (ap (λ (o : Option Row). if is_none o then Some (whole_fault NotFormat number) else None) e) ∙ none)
  where
    by : (let f : Option DetailFault = Some (whole_fault NotFormat number) in f) ≡ None → ⊥
    by e = cc

no_map : {X Y : Type 0} (f : X → Y) (o : Option X) → option_map f o ≡ None → o ≡ None
no_map f None h = refl
no_map f (Some x) h = cc

pub read_in_limits : (number : ℕ) (given : List Numbered) (d : Detail) → detail_reading number given ≡ Ok d → InLimits d
read_in_limits number given d h = subst InLimits (reached.holds.detail ∙ whole.1) (all_in_limits reached.draft.names reached.draft.detail reached.kept headed bare)
  where
    whole : (option_or (first_record_fault given) (option_or (format_fault number given) (bare_fault (part_numbers given) (detail_of (rows_of given)))) ≡ None) × (detail_of (rows_of given) ≡ d)
    whole = unless_ok _ _ d (sym h)

    records : (first_record_fault given ≡ None) × (option_or (format_fault number given) (bare_fault (part_numbers given) (detail_of (rows_of given))) ≡ None)
    records = neither _ _ whole.0

    rest : (format_fault number given ≡ None) × (bare_fault (part_numbers given) (detail_of (rows_of given)) ≡ None)
    rest = neither _ _ records.1

    reached : IsReached given
    reached = goes_on [] given first_reached records.0

    headed : reached.draft.detail.dimension ≡ 0 → ⊥
    headed e = headed_as number given rest.0 (reached.holds.headed (sym (dimension_is reached.draft (rows_of given) (part_numbers given) reached.holds) ∙ e))

    bare : position is_bare reached.draft.detail.parts ≡ None
    bare = ap (λ (x : Detail). position is_bare x.parts) reached.holds.detail ∙ no_map _ _ rest.1

-- the same of an answer
pub answer_in_limits : (number : ℕ) (given : List Numbered) (result : Result Detail DetailRefusal) → Answers result (detail_reading number given) → IfOk result InLimits
answer_in_limits number given (Ok d) a = read_in_limits number given d a
answer_in_limits number given (Err r) a = tt
