-- A draft keeps the limits of a detail, record by record.
use Rattle.std.proofs.Common.{◌≡◌, ◌≢◌, ℕ, ◌<◌, ◌≤◌, ◌==◌, ◌||◌, Bool, true, false, List, [], ◌∷◌, ◌++◌, length, map, get_or, Option, Some, None, refl, sym, ap, ◌∙◌, arith, nat_le, All, IsTrue, lit≤, length-append}
use Rattle.std.proofs.lemmas.Bool.{eqb-false, eqb-true, leb-false}
use Rattle.std.proofs.lemmas.List.{length-map, map-append}
use Rattle.std.proofs.lemmas.List.Elements.{All-nil, All-push, All-weaker}
use Rattle.std.proofs.lemmas.List.Folds.{list_any_at}
use Rattle.std.proofs.lemmas.List.Quantifiers.{all_pairs_push}
use Rattle.std.proofs.lemmas.Slice.Eq.{bytes_eq-Decides}
use Rattle.std.specs.Str.{bytes_eq}
use Rattle.tb_detail.specs.declared.ChiItem.{ChiItem}
use Rattle.tb_detail.specs.declared.Detail.{Detail}
use Rattle.tb_detail.specs.declared.Environment.{Environment}
use Rattle.tb_detail.specs.declared.LineTerm.{LineTerm}
use Rattle.tb_detail.specs.declared.Material.{Material}
use Rattle.tb_detail.specs.declared.Part.{Part}
use Rattle.tb_detail.specs.declared.PlanarTerm.{PlanarTerm}
use Rattle.tb_detail.specs.declared.PsiItem.{PsiItem}
use Rattle.tb_detail.specs.declared.quantity.Quantity.{Quantity}
use Rattle.tb_detail.specs.declared.quantity.Quantity.TheVariants as quantity
use Rattle.tb_detail.specs.Limits.{BoxInLimits, ChiInLimits, LineInLimits, LinesInLimits, PsiInLimits, TermInLimits, TermsInLimits}
use Rattle.tb_detail.specs.Names.{Text, is_name}
use Rattle.tb_detail.specs.Quantities.{IsInRange}
use Rattle.tb_reading.specs.declared.kinds.NameKind.{NameKind}
use Rattle.tb_reading.specs.declared.kinds.NameKind.TheVariants as name
use Rattle.tb_reading.specs.declared.kinds.RecordKind.{RecordKind}
use Rattle.tb_reading.specs.declared.kinds.RecordKind.TheVariants as kind
use Rattle.tb_reading.specs.declared.names.Names.{Names}
use Rattle.tb_reading.specs.Details.{Entry, box_of, environment_of}
use Rattle.tb_reading.specs.Drafts.{IsNewName, entry_of, with_declared, with_entry}
use Rattle.tb_reading.specs.Kinds.{declares, is_allowed}
use Rattle.tb_reading.specs.NameLists.{names_in}
use Rattle.tb_reading.specs.Names.{NamesByKind, name_count, place_of}
use Rattle.tb_reading.specs.declared.values.FieldValue.{FieldValue}
use Rattle.tb_reading.specs.Records.{Row, chi_areas, chi_lines, is_full, psi_lengths, text_at, value_at}
use Rattle.tb_reading.proofs.Added.{AreAsMany, air_added, area_added, chi_added, length_added, line_added, material_added, psi_added, solid_added, vals}
use Rattle.tb_reading.proofs.AddedParts.{layer_added, part_added, room_in}
use Rattle.tb_reading.proofs.NamePlaces.{none_passes}
use Rattle.tb_reading.proofs.Settled.{IsFormed, IsSound, neither_is, new_formed, new_name}
use Rattle.tb_reading.proofs.SoFar.{AreAllTexts, AreKept, AreTexts, AreThose, PartSoFar, all_changed, box_more, chi_more, entry_grows, map_changed, part_more, psi_more}

-- ---- names

texts_push : (names : List Text) (text : Text) → AreTexts names → is_name text ≡ true → place_of names text ≡ None → AreTexts (names ++ text ∷ [])
texts_push names text h formed new = record {
  formed = All-push (λ name. IsTrue (is_name name)) names text h.formed formed;
  distinct = all_pairs_push (λ name other. name ≢ other) names text h.distinct other;
}
  where
    other : (k : ℕ) (d : Text) → k < length names → get_or names k d ≢ text
    other k d l same = no (sym (list_any_at (bytes_eq text) names k d l ((bytes_eq-Decides text (get_or names k d)).1 (sym same))) ∙ none_passes (bytes_eq text) names new)
      where
        no : true ≡ false → ⊥
        no e = cc

texts_more : (n : Names) (k : Option NameKind) (text : Text) → AreAllTexts n → IsFormed k text → IsNewName (names_in n) k text → AreAllTexts (with_declared k text n)
texts_more n None text h formed new = h
texts_more n (Some name.Environment) text h formed new = record { environments = texts_push n.environments text h.environments formed new.0; materials = h.materials; parts = h.parts; psis = h.psis; chis = h.chis }
texts_more n (Some name.Material) text h formed new = record { environments = h.environments; materials = texts_push n.materials text h.materials formed new.0; parts = h.parts; psis = h.psis; chis = h.chis }
texts_more n (Some name.Part) text h formed new = record { environments = h.environments; materials = h.materials; parts = texts_push n.parts text h.parts formed new.0; psis = h.psis; chis = h.chis }
texts_more n (Some name.Psi) text h formed new = record { environments = h.environments; materials = h.materials; parts = h.parts; psis = texts_push n.psis text h.psis formed new.0; chis = h.chis }
texts_more n (Some name.Chi) text h formed new = record { environments = h.environments; materials = h.materials; parts = h.parts; psis = h.psis; chis = texts_push n.chis text h.chis formed new.0 }

count_more : (n : Names) (d : Detail) (k : RecordKind) (vs : List FieldValue) (text : Text) → is_full (names_in n) d k vs ≡ false → name_count (names_in n) ≤ 256 → name_count (names_in (with_declared (declares k) text n)) ≤ 256
count_more n d kind.Environment vs text r h = let l = leb-false 256 (name_count (names_in n)) (neither_is (nat_le 4 (length d.environments)) (nat_le 256 (name_count (names_in n))) r) in let e = length-append n.environments (text ∷ []) in omega arith
count_more n d kind.Material vs text r h = let l = leb-false 256 (name_count (names_in n)) r in let e = length-append n.materials (text ∷ []) in omega arith
count_more n d kind.Part vs text r h = let l = leb-false 256 (name_count (names_in n)) r in let e = length-append n.parts (text ∷ []) in omega arith
count_more n d kind.Psi vs text r h = let l = leb-false 256 (name_count (names_in n)) r in let e = length-append n.psis (text ∷ []) in omega arith
count_more n d kind.Chi vs text r h = let l = leb-false 256 (name_count (names_in n)) r in let e = length-append n.chis (text ∷ []) in omega arith
count_more n d _ vs text r h = h

push_named : {X : Type 0} (f : X → Text) (xs : List X) (x : X) (names : List Text) → map f xs ≡ names → map f (xs ++ x ∷ []) ≡ names ++ f x ∷ []
push_named f xs x names e = map-append f xs (x ∷ []) ∙ ap (λ (l : List Text). l ++ f x ∷ []) e

-- the names of the things are those declared, after one more record
module _ (n : Names) (d : Detail) (vs : List FieldValue) (row : Row) (h : AreThose n d) where
  abbrev grown : RecordKind → Detail
  grown k = with_entry (entry_of k vs row) d

  abbrev said : RecordKind → Names
  said k = with_declared (declares k) (text_at row 1) n

  those_environments : (k : RecordKind) → map (λ (e : Environment). e.name) (grown k).environments ≡ (said k).environments
  those_environments kind.Environment = push_named (λ (e : Environment). e.name) d.environments _ n.environments h.environments
  those_environments _ = h.environments

  those_materials : (k : RecordKind) → map (λ (m : Material). m.name) (grown k).materials ≡ (said k).materials
  those_materials kind.Material = push_named (λ (m : Material). m.name) d.materials _ n.materials h.materials
  those_materials _ = h.materials

  those_parts : (k : RecordKind) → map (λ (p : Part). p.name) (grown k).parts ≡ (said k).parts
  those_parts kind.Part = push_named (λ (p : Part). p.name) d.parts _ n.parts h.parts
  those_parts kind.Layer = map_changed (λ (p : Part). p.name) _ _ d.parts (λ p. refl) ∙ h.parts
  those_parts _ = h.parts

  those_psis : (k : RecordKind) → map (λ (p : PsiItem). p.name) (grown k).psis ≡ (said k).psis
  those_psis kind.Psi = push_named (λ (p : PsiItem). p.name) d.psis _ n.psis h.psis
  those_psis kind.Length = map_changed (λ (p : PsiItem). p.name) _ _ d.psis (λ p. refl) ∙ h.psis
  those_psis _ = h.psis

  those_chis : (k : RecordKind) → map (λ (c : ChiItem). c.name) (grown k).chis ≡ (said k).chis
  those_chis kind.Chi = push_named (λ (c : ChiItem). c.name) d.chis _ n.chis h.chis
  those_chis kind.Area = map_changed (λ (c : ChiItem). c.name) _ _ d.chis (λ c. refl) ∙ h.chis
  those_chis kind.Line = map_changed (λ (c : ChiItem). c.name) _ _ d.chis (λ c. refl) ∙ h.chis
  those_chis _ = h.chis

  those_more : (k : RecordKind) → AreThose (said k) (grown k)
  those_more k = record {
    environments = those_environments k;
    materials = those_materials k;
    parts = those_parts k;
    psis = those_psis k;
    chis = those_chis k;
  }

many_of : {X : Type 0} (f : X → Text) (xs : List X) (names : List Text) → map f xs ≡ names → length names ≡ length xs
many_of f xs names e = sym (ap length e) ∙ length-map xs f

pub as_many : (n : Names) (d : Detail) → AreThose n d → AreAsMany (names_in n) d
as_many n d h = record {
  environments = many_of (λ (e : Environment). e.name) d.environments n.environments h.environments;
  materials = many_of (λ (m : Material). m.name) d.materials n.materials h.materials;
  parts = many_of (λ (p : Part). p.name) d.parts n.parts h.parts;
}

-- ---- terms

no_terms : (d : Detail) (q : Quantity) → TermsInLimits d q []
no_terms d q = record { few = lit≤ tt; each = All-nil (TermInLimits d q) }

no_lines : LinesInLimits []
no_lines = record { few = lit≤ tt; each = All-nil LineInLimits }

terms_push : (d : Detail) (q : Quantity) (ts : List PlanarTerm) (t : PlanarTerm) → TermsInLimits d q ts → length ts < 16 → TermInLimits d q t → TermsInLimits d q (ts ++ t ∷ [])
terms_push d q ts t h room k = record {
  few = let e = length-append ts (t ∷ []) in omega arith;
  each = All-push (TermInLimits d q) ts t h.each k;
}

lines_push : (ls : List LineTerm) (l : LineTerm) → LinesInLimits ls → length ls < 16 → LineInLimits l → LinesInLimits (ls ++ l ∷ [])
lines_push ls l h room k = record {
  few = let e = length-append ls (l ∷ []) in omega arith;
  each = All-push LineInLimits ls l h.each k;
}

-- ---- the lists of a detail, after one more record

either_is : (a b : Bool) → (a || b) ≡ false → a ≡ false
either_is true b h = cc
either_is false b h = refl

module _ (n : Names) (d : Detail) (row : Row) (kept : AreKept n d) where
  abbrev names : NamesByKind
  names = names_in n

  abbrev added : RecordKind → Entry
  added k = entry_of k (vals names d row k) row

  many : AreAsMany (names_in n) d
  many = as_many n d kept.those

  environments_few : (k : RecordKind) → IsSound names d k row → length (with_entry (added k) d).environments ≤ 4
  environments_few kind.Environment s =
      let l = leb-false 4 (length d.environments) (either_is (nat_le 4 (length d.environments)) (nat_le 256 (name_count names)) s.room) in
      let e = length-append d.environments (environment_of (added kind.Environment) ∷ []) in
      omega arith
  environments_few _ s = kept.few_environments

  boxes_few : (k : RecordKind) → IsSound names d k row → length (with_entry (added k) d).boxes ≤ 512
  boxes_few kind.Solid s = let l = leb-false 512 (length d.boxes) s.room in let e = length-append d.boxes (box_of (added kind.Solid) ∷ []) in omega arith
  boxes_few kind.Air s = let l = leb-false 512 (length d.boxes) s.room in let e = length-append d.boxes (box_of (added kind.Air) ∷ []) in omega arith
  boxes_few _ s = kept.few_boxes

  conductivities_more : (k : RecordKind) → IsSound names d k row → All (λ (m : Material). IsInRange quantity.Conductivity m.lambda) (with_entry (added k) d).materials
  conductivities_more kind.Material s = All-push (λ (m : Material). IsInRange quantity.Conductivity m.lambda) d.materials _ kept.conductivities (material_added names d row s)
  conductivities_more _ s = kept.conductivities

  boxes_more : (k : RecordKind) → IsSound names d k row → All (BoxInLimits d) (with_entry (added k) d).boxes
  boxes_more kind.Solid s = let a = solid_added names d row many s in All-push (BoxInLimits d) d.boxes _ kept.boxes (record { content = a.0; span = a.1 })
  boxes_more kind.Air s = let a = air_added names d row many s in All-push (BoxInLimits d) d.boxes _ kept.boxes (record { content = a.0; span = a.1 })
  boxes_more _ s = kept.boxes

  parts_more : (k : RecordKind) → IsSound names d k row → All (PartSoFar d) (with_entry (added k) d).parts
  parts_more kind.Part s = All-push (PartSoFar d) d.parts _ kept.parts (part_added names d row s)
  parts_more kind.Layer s = all_changed (PartSoFar d) _ _ d.parts kept.parts (λ p found h. layer_added names d row many s p found h)
  parts_more _ s = kept.parts

  psis_more : (k : RecordKind) → IsSound names d k row → All (PsiInLimits d) (with_entry (added k) d).psis
  psis_more kind.Psi s = All-push (PsiInLimits d) d.psis _ kept.psis (record { pair = psi_added names d row many s; lengths = no_terms d quantity.Length })
  psis_more kind.Length s = all_changed (PsiInLimits d) _ _ d.psis kept.psis (λ p found h. record {
    pair = h.pair;
    lengths = terms_push d quantity.Length p.lengths _ h.lengths (room_in psi_lengths d.psis (value_at (vals names d row kind.Length) 1) p found s.room) (length_added names d row many s);
  })
  psis_more _ s = kept.psis

  chis_more : (k : RecordKind) → IsSound names d k row → All (ChiInLimits d) (with_entry (added k) d).chis
  chis_more kind.Chi s = All-push (ChiInLimits d) d.chis _ kept.chis (record { pair = chi_added names d row many s; areas = no_terms d quantity.Area; lines = no_lines })
  chis_more kind.Area s = all_changed (ChiInLimits d) _ _ d.chis kept.chis (λ c found h. record {
    pair = h.pair;
    areas = terms_push d quantity.Area c.areas _ h.areas (room_in chi_areas d.chis (value_at (vals names d row kind.Area) 1) c found s.room) (area_added names d row many s);
    lines = h.lines;
  })
  chis_more kind.Line s = all_changed (ChiInLimits d) _ _ d.chis kept.chis (λ c found h. record {
    pair = h.pair;
    areas = h.areas;
    lines = lines_push c.lines _ h.lines (room_in chi_lines d.chis (value_at (vals names d row kind.Line) 1) c found s.room) (line_added names d row s);
  })
  chis_more _ s = kept.chis

  no_psi_more : (k : RecordKind) → is_allowed d.dimension k ≡ true → (d.dimension ≡ 2 → ⊥) → (with_entry (added k) d).psis ≡ []
  no_psi_more kind.Psi a h = absurd (h (eqb-true d.dimension 2 a))
  no_psi_more kind.Length a h = absurd (h (eqb-true d.dimension 2 a))
  no_psi_more _ a h = kept.dimension.no_psi h

  no_chi_more : (k : RecordKind) → is_allowed d.dimension k ≡ true → (d.dimension ≡ 3 → ⊥) → (with_entry (added k) d).chis ≡ []
  no_chi_more kind.Chi a h = absurd (h (eqb-true d.dimension 3 a))
  no_chi_more kind.Area a h = absurd (h (eqb-true d.dimension 3 a))
  no_chi_more kind.Line a h = absurd (h (eqb-true d.dimension 3 a))
  no_chi_more _ a h = kept.dimension.no_chi h

  -- what is kept after one more record of a kind
  pub keeps_kind : (k : RecordKind) → IsSound names d k row → (d.dimension == 0) ≡ false → AreKept (with_declared (declares k) (text_at row 1) n) (with_entry (added k) d)
  keeps_kind k s headed = record {
    dimension = record {
      known = kept.dimension.known;
      no_box = λ e. absurd (eqb-false d.dimension 0 headed e);
      no_psi = no_psi_more k s.allowed;
      no_chi = no_chi_more k s.allowed;
    };
    few_environments = environments_few k s;
    few_boxes = boxes_few k s;
    few_names = count_more n d k (vals names d row k) (text_at row 1) s.room kept.few_names;
    those = those_more n d (vals names d row k) row kept.those k;
    texts = texts_more n (declares k) (text_at row 1) kept.texts (new_formed names d k row s) (new_name names d k row s);
    conductivities = conductivities_more k s;
    boxes = All-weaker (BoxInLimits d) (BoxInLimits (with_entry (added k) d)) (box_more d (with_entry (added k) d) (entry_grows (added k) d) refl) _ (boxes_more k s);
    parts = All-weaker (PartSoFar d) (PartSoFar (with_entry (added k) d)) (part_more d (with_entry (added k) d) (entry_grows (added k) d)) _ (parts_more k s);
    psis = All-weaker (PsiInLimits d) (PsiInLimits (with_entry (added k) d)) (psi_more d (with_entry (added k) d) (entry_grows (added k) d)) _ (psis_more k s);
    chis = All-weaker (ChiInLimits d) (ChiInLimits (with_entry (added k) d)) (chi_more d (with_entry (added k) d) (entry_grows (added k) d)) _ (chis_more k s);
  }
