-- What a `part` or a `layer` without a fault adds to a detail is within limits.
use Rattle.std.proofs.Common.{◌≡◌, ℕ, ◌+◌, ◌<◌, ◌≤◌, true, false, List, [], ◌∷◌, length, map, drop, Option, Some, None, refl, sym, ap, ◌∙◌, arith, nat_le, slice_get, All, lit<, lit≤, length-append, option_map}
use Rattle.std.proofs.lemmas.Bool.{eqb-true, leb-true, leb-false}
use Rattle.std.proofs.lemmas.List.{length-drop, length-map}
use Rattle.std.proofs.lemmas.List.Elements.{All-cons, All-nil, All-push, All-weaker}
use Rattle.std.specs.Option.{option_and_then, option_map_or}
use Rattle.csv.specs.Records.{field_at}
use Rattle.tb_detail.specs.declared.Detail.{Detail}
use Rattle.tb_detail.specs.declared.Part.{Part}
use Rattle.tb_detail.specs.declared.quantity.Quantity.TheVariants as quantity
use Rattle.tb_detail.specs.Limits.{LayerInLimits}
use Rattle.tb_detail.specs.Quantities.{IsInRange}
use Rattle.tb_reading.specs.declared.kinds.NameKind.TheVariants as name
use Rattle.tb_reading.specs.declared.kinds.RecordKind.TheVariants as kind
use Rattle.tb_reading.specs.declared.values.FieldValue.{FieldValue}
use Rattle.tb_reading.specs.declared.values.FieldValue.TheVariants.{Nothing, Place}
use Rattle.tb_reading.specs.Details.{areas_from, layer_of, part_of, place_at}
use Rattle.tb_reading.specs.Drafts.{entry_of, more_layer}
use Rattle.tb_reading.specs.Kinds.{fields}
use Rattle.tb_reading.specs.Names.{NamesByKind, place_of}
use Rattle.tb_reading.specs.Records.{Row, count_at, is_count, is_layer_count, number_in, part_layers, place_in, place_value, sections_of, text_at, value_at, values}
use Rattle.tb_reading.proofs.Added.{AreAsMany, at, vals}
use Rattle.tb_reading.proofs.Obeying.{AllObey, IsPlaceOf, all_obey, length_values, obey_from, reads_all, uses_all}
use Rattle.tb_reading.proofs.Settled.{IsSound, both}
use Rattle.tb_reading.proofs.SoFar.{PartSoFar}

-- ---- parts

record AreAreas (areas : List ℕ) : Type 0 where
  some : 1 ≤ length areas
  few : length areas ≤ 4
  each : All (IsInRange quantity.Section) areas

areas_are : (vs : List FieldValue) → length vs ≤ 4 → All (IsInRange quantity.Section) (map number_in vs) → AreAreas (areas_from vs)
areas_are [] l h = record {
  some = lit≤ tt;
  few = lit≤ tt;
  each = All-cons (IsInRange quantity.Section) 1 [] (record { low = lit≤ tt; high = lit≤ tt }) (All-nil (IsInRange quantity.Section));
}
areas_are (v ∷ vs) l h = record {
  some = let e = length-map vs number_in in omega arith;
  few = let e = length-map vs number_in in omega arith;
  each = h;
}

pub part_added : (names : NamesByKind) (d : Detail) (row : Row) → IsSound names d kind.Part row → PartSoFar d (part_of (entry_of kind.Part (vals names d row kind.Part) row))
part_added names d row s = record {
  rsi = at names d row kind.Part s 1 (lit< tt) (let e = long in let l = least in omega arith);
  rse = at names d row kind.Part s 2 (lit< tt) (let e = long in let l = least in omega arith);
  some_area = areas.some;
  few_areas = areas.few;
  areas = areas.each;
  few_layers = lit≤ tt;
  layers = All-nil _;
}
  where
    least : 4 ≤ length row
    least = leb-true 4 (length row) (both (nat_le 4 (length row)) (nat_le (length row) 8) s.count).0

    most : length row ≤ 8
    most = leb-true (length row) 8 (both (nat_le 4 (length row)) (nat_le (length row) 8) s.count).1

    long : length (vals names d row kind.Part) ≡ length row
    long = length_values names (fields kind.Part) row most

    rest : (b : FieldValue) × AllObey names b (drop 4 (fields kind.Part)) (drop 4 (vals names d row kind.Part))
    rest = obey_from names Nothing 4 (fields kind.Part) (vals names d row kind.Part) (all_obey names 1 Nothing (fields kind.Part) row s.in_fields)

    short : length (drop 4 (vals names d row kind.Part)) ≤ 4
    short = let e = length-drop 4 (vals names d row kind.Part) in let l = long in let m = most in omega arith

    areas : AreAreas (areas_from (drop 4 (vals names d row kind.Part)))
    areas = areas_are (drop 4 (vals names d row kind.Part)) short (reads_all names quantity.Section 4 rest.0 (drop 4 (vals names d row kind.Part)) rest.1 short)

-- ---- layers

owner_value : (names : NamesByKind) (row : Row) → 2 ≤ length row → value_at (values names (fields kind.Layer) row) 1 ≡ place_value (place_of (names name.Part) (text_at row 1))
unfolding field_at
owner_value names [] l = absurd (omega arith)
owner_value names (word ∷ []) l = absurd (omega arith)
owner_value names (word ∷ text ∷ row) l = refl

place_is : (o : Option ℕ) (place : ℕ) → place_value o ≡ Place place → o ≡ Some place
place_is None place h = cc
place_is (Some i) place h = let e : i ≡ place = cc in ap Some e

two_values : (names : NamesByKind) (row : Row) → 2 ≤ length row → 1 < length (values names (fields kind.Layer) row)
two_values names [] l = absurd (omega arith)
two_values names (word ∷ []) l = absurd (omega arith)
two_values names (word ∷ text ∷ row) l = omega arith

-- a list has room for one more
pub room_in : {X : Type 0} (count : X → ℕ) (xs : List X) (v : FieldValue) (x : X) → slice_get xs (place_in v) ≡ Some x → nat_le 16 (count_at count xs v) ≡ false → count x < 16
room_in {X} count xs v x e h = leb-false 16 (count x) (sym (ap (λ (o : Option X). nat_le 16 (option_map_or count o 0)) e) ∙ h)

layer_long : (dimension : ℕ) (sections : Option ℕ) (n : ℕ) → is_count dimension sections kind.Layer n ≡ true → 3 ≤ n
layer_long dimension None n h = let l = leb-true 4 n (both _ _ h).0 in omega arith
layer_long dimension (Some sections) n h = let e = eqb-true n (sections + 3) h in omega arith

pub layer_added : (names : NamesByKind) (d : Detail) (row : Row) → AreAsMany names d → IsSound names d kind.Layer row → (p : Part)
    → slice_get d.parts (place_at (vals names d row kind.Layer) 1) ≡ Some p → PartSoFar d p
    → PartSoFar d (more_layer (layer_of (entry_of kind.Layer (vals names d row kind.Layer) row)) p)
layer_added names d row many s p found kept = record {
  rsi = kept.rsi;
  rse = kept.rse;
  some_area = kept.some_area;
  few_areas = kept.few_areas;
  areas = kept.areas;
  few_layers = (let r = room_in part_layers d.parts (value_at (vals names d row kind.Layer) 1) p found s.room in let e = length-append p.layers (layer_of (entry_of kind.Layer (vals names d row kind.Layer) row) ∷ []) in omega arith);
  layers = All-push (LayerInLimits d (length p.areas)) p.layers (layer_of (entry_of kind.Layer (vals names d row kind.Layer) row)) kept.layers layer;
}
  where
    least : 3 ≤ length row
    least = layer_long d.dimension (sections_of names d row) (length row) s.count

    -- the second field names the part
    owner : IsPlaceOf names name.Part (value_at (vals names d row kind.Layer) 1) → sections_of names d row ≡ Some (length p.areas)
    owner (place, known) =
        ap (λ (o : Option ℕ). option_map (λ (p : Part). length p.areas) (option_and_then (slice_get d.parts) o))
        (place_is (place_of (names name.Part) (text_at row 1)) place (sym (owner_value names row (let l = least in omega arith)) ∙ known.0))
        ∙ ap (λ (i : ℕ). option_map (λ (p : Part). length p.areas) (slice_get d.parts i)) (sym (ap place_in known.0))
        ∙ ap (option_map (λ (p : Part). length p.areas)) found

    count : IsPlaceOf names name.Part (value_at (vals names d row kind.Layer) 1) → length row ≡ length p.areas + 3
    count o = eqb-true (length row) (length p.areas + 3) (sym (ap (λ (o : Option ℕ). is_layer_count o (length row)) (owner o)) ∙ s.count)

    two : 1 < length (vals names d row kind.Layer)
    two = two_values names row (let l = least in omega arith)

    exact : length row ≡ length p.areas + 3
    exact = count (at names d row kind.Layer s 0 (lit< tt) two)

    long : length (vals names d row kind.Layer) ≡ length row
    long = length_values names (fields kind.Layer) row (let e = exact in let f = kept.few_areas in omega arith)

    rest : (b : FieldValue) × AllObey names b (drop 3 (fields kind.Layer)) (drop 3 (vals names d row kind.Layer))
    rest = obey_from names Nothing 3 (fields kind.Layer) (vals names d row kind.Layer) (all_obey names 1 Nothing (fields kind.Layer) row s.in_fields)

    short : length (drop 3 (vals names d row kind.Layer)) ≤ 4
    short = let e = length-drop 3 (vals names d row kind.Layer) in let l = long in let f = kept.few_areas in let g = exact in omega arith

    one_each : length (map place_in (drop 3 (vals names d row kind.Layer))) ≡ length p.areas
    one_each = length-map (drop 3 (vals names d row kind.Layer)) place_in ∙ (let e = length-drop 3 (vals names d row kind.Layer) in let l = long in let g = exact in omega arith)

    layer : LayerInLimits d (length p.areas) (layer_of (entry_of kind.Layer (vals names d row kind.Layer) row))
    layer = record {
      thickness = at names d row kind.Layer s 1 (lit< tt) (let e = long in let l = least in omega arith);
      one_each = one_each;
      known = All-weaker (λ m. m < length (names name.Material)) (λ m. m < length d.materials) (λ m l. let e = many.materials in omega arith) (map place_in (drop 3 (vals names d row kind.Layer))) (uses_all names name.Material 4 rest.0 (drop 3 (vals names d row kind.Layer)) rest.1 short);
    }
