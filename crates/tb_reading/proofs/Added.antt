-- What a record without a fault adds to a detail is within limits.
use Rattle.std.proofs.Common.{◌≡◌, ℕ, suc, ◌+◌, ◌<◌, ◌≤◌, ◌==◌, ◌⊎◌, inl, inr, Bool, true, false, List, length, refl, sym, ap, ◌∙◌, subst, arith, if◌then◌else◌, slice_index_or, lit<, lit≤}
use Rattle.std.proofs.lemmas.Bool.{eqb-true, eqb-false}
use Rattle.std.proofs.lemmas.List.{get_or_default, get_or_past}
use Rattle.tb_detail.specs.declared.Detail.{Detail}
use Rattle.tb_detail.specs.declared.Content.TheVariants.{Air, Solid}
use Rattle.tb_detail.specs.declared.quantity.Quantity.TheVariants as quantity
use Rattle.tb_detail.specs.Limits.{ContentInLimits, IsExtent, IsPair, LineInLimits, SpanInLimits, TermInLimits}
use Rattle.tb_detail.specs.Quantities.{IsInRange}
use Rattle.tb_reading.specs.declared.kinds.FieldRule.TheVariants.{Word, Uses, UsesOther, ReadsAbove}
use Rattle.tb_reading.specs.declared.kinds.NameKind.TheVariants as name
use Rattle.tb_reading.specs.declared.kinds.RecordKind.{RecordKind}
use Rattle.tb_reading.specs.declared.kinds.RecordKind.TheVariants as kind
use Rattle.tb_reading.specs.declared.values.FieldValue.{FieldValue}
use Rattle.tb_reading.specs.declared.values.FieldValue.TheVariants.{Nothing, Number}
use Rattle.tb_reading.specs.Details.{line_term_of, number_at, number_or, place_at, planar_term_of, span_at}
use Rattle.tb_reading.specs.Drafts.{entry_of}
use Rattle.tb_reading.specs.Kinds.{fields}
use Rattle.tb_reading.specs.Names.{NamesByKind}
use Rattle.tb_reading.specs.Records.{Row, is_place, number_in, place_in, value_at, values}
use Rattle.tb_reading.proofs.Obeying.{Obeys, all_obey, length_values, obeys_next, place_below}
use Rattle.tb_reading.proofs.Settled.{IsSound}

-- as many names of a kind as things in the list of a detail
pub record AreAsMany (names : NamesByKind) (d : Detail) : Type 0 where
  pub environments : length (names name.Environment) ≡ length d.environments
  pub materials : length (names name.Material) ≡ length d.materials
  pub parts : length (names name.Part) ≡ length d.parts

-- ---- spans

-- six coordinates, of which the last two are given or are those of dimension 2
abbrev HasHeight : ℕ → List FieldValue → ℕ → Type 0
HasHeight dimension vs i =
    ((dimension ≡ 2) × (length vs ≤ i + 4))
    ⊎ ((dimension ≡ 2 → ⊥) × (i + 5 < length vs) × IsExtent (number_at vs (i + 4)) (number_at vs (i + 5)))

past : (n : ℕ) (vs : List FieldValue) (i : ℕ) → length vs ≤ i → number_or n vs i ≡ n
past n vs i h = ap number_in (get_or_past vs i (Number n) h)

within : (n : ℕ) (vs : List FieldValue) (i : ℕ) → i < length vs → number_or n vs i ≡ number_at vs i
within n vs i h = ap number_in (get_or_default vs i (Number n) Nothing h)

metre : IsExtent 0 10000
metre = record { rises = lit< tt; in_range = record { low = lit≤ tt; high = lit≤ tt } }

span_is : (dimension : ℕ) (vs : List FieldValue) (i : ℕ) → IsExtent (number_at vs i) (number_at vs (i + 1)) → IsExtent (number_at vs (i + 2)) (number_at vs (i + 3)) → HasHeight dimension vs i → SpanInLimits dimension (span_at vs i)
span_is dimension vs i x y (inl (flat, short)) = record {
  x = x;
  y = y;
  z = subst (λ (n : ℕ). IsExtent n (number_or 10000 vs (i + 5))) (sym low) (subst (λ (n : ℕ). IsExtent 0 n) (sym high) metre);
  flat = λ e. (low, high);
}
  where
    low : number_or 0 vs (i + 4) ≡ 0
    low = past 0 vs (i + 4) short

    high : number_or 10000 vs (i + 5) ≡ 10000
    high = past 10000 vs (i + 5) (omega arith)
span_is dimension vs i x y (inr (deep, long, z)) = record {
  x = x;
  y = y;
  z = subst (λ (n : ℕ). IsExtent n (number_or 10000 vs (i + 5))) (sym (within 0 vs (i + 4) (omega arith))) (subst (λ (n : ℕ). IsExtent (number_at vs (i + 4)) n) (sym (within 10000 vs (i + 5) long)) z);
  flat = λ e. absurd (deep e);
}

extent : (names : NamesByKind) (before v : FieldValue) → Obeys names (ReadsAbove quantity.Length) before v → IsExtent (number_in before) (number_in v)
extent names before v o = record { rises = o.1; in_range = o.0 }

-- ---- records of a kind

module _ (names : NamesByKind) (d : Detail) (row : Row) where
  abbrev pub vals : RecordKind → List FieldValue
  vals k = values names (fields k) row

  sized : (k : RecordKind) (n : ℕ) → length row ≡ n → n ≤ length (fields k) → length (vals k) ≡ n
  sized k n e l = length_values names (fields k) row (omega arith) ∙ e

  -- a field behind the first
  pub at : (k : RecordKind) → IsSound names d k row → (i : ℕ) → suc i < length (fields k) → suc i < length (vals k) → Obeys names (slice_index_or (fields k) (suc i) Word) (value_at (vals k) i) (value_at (vals k) (suc i))
  at k s i l m = obeys_next names Nothing (fields k) (vals k) i (all_obey names 1 Nothing (fields k) row s.in_fields) l m

  pub material_added : IsSound names d kind.Material row → IsInRange quantity.Conductivity (number_at (vals kind.Material) 2)
  material_added s = at kind.Material s 1 (lit< tt) (let e = sized kind.Material 3 (eqb-true (length row) 3 s.count) (lit≤ tt) in omega arith)

  pub solid_added : AreAsMany names d → IsSound names d kind.Solid row → ContentInLimits d (Solid (place_at (vals kind.Solid) 1)) × SpanInLimits d.dimension (span_at (vals kind.Solid) 2)
  solid_added many s = by (d.dimension == 2) refl s.count
    where
      of_size : (n : ℕ) → length (vals kind.Solid) ≡ n → 6 ≤ n → HasHeight d.dimension (vals kind.Solid) 2 → ContentInLimits d (Solid (place_at (vals kind.Solid) 1)) × SpanInLimits d.dimension (span_at (vals kind.Solid) 2)
      of_size n e l z = (
        (let p = place_below names name.Material (value_at (vals kind.Solid) 1) (at kind.Solid s 0 (lit< tt) (omega arith)) in let m = many.materials in omega arith),
        span_is d.dimension (vals kind.Solid) 2
            (extent names (value_at (vals kind.Solid) 2) (value_at (vals kind.Solid) 3) (at kind.Solid s 2 (lit< tt) (omega arith)))
            (extent names (value_at (vals kind.Solid) 4) (value_at (vals kind.Solid) 5) (at kind.Solid s 4 (lit< tt) (omega arith))) z,
      )

      by : (b : Bool) → (d.dimension == 2) ≡ b → (length row == (if b then 6 else 8)) ≡ true → ContentInLimits d (Solid (place_at (vals kind.Solid) 1)) × SpanInLimits d.dimension (span_at (vals kind.Solid) 2)
      by true f c = let e = sized kind.Solid 6 (eqb-true (length row) 6 c) (lit≤ tt) in of_size 6 e (lit≤ tt) (inl (eqb-true d.dimension 2 f, omega arith))
      by false f c =
          let e = sized kind.Solid 8 (eqb-true (length row) 8 c) (lit≤ tt) in
          of_size 8 e (lit≤ tt) (inr (eqb-false d.dimension 2 f, (omega arith), extent names (value_at (vals kind.Solid) 6) (value_at (vals kind.Solid) 7) (at kind.Solid s 6 (lit< tt) (omega arith))))

  pub air_added : AreAsMany names d → IsSound names d kind.Air row → ContentInLimits d (Air (place_at (vals kind.Air) 1) (number_at (vals kind.Air) 2)) × SpanInLimits d.dimension (span_at (vals kind.Air) 3)
  air_added many s = by (d.dimension == 2) refl s.count
    where
      of_size : (n : ℕ) → length (vals kind.Air) ≡ n → 7 ≤ n → HasHeight d.dimension (vals kind.Air) 3 → ContentInLimits d (Air (place_at (vals kind.Air) 1) (number_at (vals kind.Air) 2)) × SpanInLimits d.dimension (span_at (vals kind.Air) 3)
      of_size n e l z = (
        ((let p = place_below names name.Environment (value_at (vals kind.Air) 1) (at kind.Air s 0 (lit< tt) (omega arith)) in let m = many.environments in omega arith), at kind.Air s 1 (lit< tt) (omega arith)),
        span_is d.dimension (vals kind.Air) 3
            (extent names (value_at (vals kind.Air) 3) (value_at (vals kind.Air) 4) (at kind.Air s 3 (lit< tt) (omega arith)))
            (extent names (value_at (vals kind.Air) 5) (value_at (vals kind.Air) 6) (at kind.Air s 5 (lit< tt) (omega arith))) z,
      )

      by : (b : Bool) → (d.dimension == 2) ≡ b → (length row == (if b then 7 else 9)) ≡ true → ContentInLimits d (Air (place_at (vals kind.Air) 1) (number_at (vals kind.Air) 2)) × SpanInLimits d.dimension (span_at (vals kind.Air) 3)
      by true f c = let e = sized kind.Air 7 (eqb-true (length row) 7 c) (lit≤ tt) in of_size 7 e (lit≤ tt) (inl (eqb-true d.dimension 2 f, omega arith))
      by false f c =
          let e = sized kind.Air 9 (eqb-true (length row) 9 c) (lit≤ tt) in
          of_size 9 e (lit≤ tt) (inr (eqb-false d.dimension 2 f, (omega arith), extent names (value_at (vals kind.Air) 7) (value_at (vals kind.Air) 8) (at kind.Air s 7 (lit< tt) (omega arith))))

  -- ---- pairs and terms

  pair_is : (first second : FieldValue) → AreAsMany names d → Obeys names (Uses name.Environment) first first → Obeys names (UsesOther name.Environment) first second → IsPair d (place_in first) (place_in second)
  pair_is first second many f s = record {
    first_known = let l = place_below names name.Environment first f in let m = many.environments in omega arith;
    second_known = let l = place_below names name.Environment second s.0 in let m = many.environments in omega arith;
    differ = λ same. eqb-false f.0 (place_in second) (sym (ap (is_place (place_in second)) f.1.0) ∙ s.1) (sym (ap place_in f.1.0) ∙ same);
  }

  pub psi_added : AreAsMany names d → IsSound names d kind.Psi row → IsPair d (place_at (vals kind.Psi) 2) (place_at (vals kind.Psi) 3)
  psi_added many s =
      let e = sized kind.Psi 4 (eqb-true (length row) 4 s.count) (lit≤ tt) in
      pair_is (value_at (vals kind.Psi) 2) (value_at (vals kind.Psi) 3) many (at kind.Psi s 1 (lit< tt) (omega arith)) (at kind.Psi s 2 (lit< tt) (omega arith))

  pub chi_added : AreAsMany names d → IsSound names d kind.Chi row → IsPair d (place_at (vals kind.Chi) 2) (place_at (vals kind.Chi) 3)
  chi_added many s =
      let e = sized kind.Chi 4 (eqb-true (length row) 4 s.count) (lit≤ tt) in
      pair_is (value_at (vals kind.Chi) 2) (value_at (vals kind.Chi) 3) many (at kind.Chi s 1 (lit< tt) (omega arith)) (at kind.Chi s 2 (lit< tt) (omega arith))

  pub length_added : AreAsMany names d → IsSound names d kind.Length row → TermInLimits d quantity.Length (planar_term_of (entry_of kind.Length (vals kind.Length) row))
  length_added many s =
      let e = sized kind.Length 4 (eqb-true (length row) 4 s.count) (lit≤ tt) in record {
        known = let l = place_below names name.Part _ (at kind.Length s 1 (lit< tt) (omega arith)) in let m = many.parts in omega arith;
        amount = at kind.Length s 2 (lit< tt) (omega arith);
      }

  pub area_added : AreAsMany names d → IsSound names d kind.Area row → TermInLimits d quantity.Area (planar_term_of (entry_of kind.Area (vals kind.Area) row))
  area_added many s =
      let e = sized kind.Area 4 (eqb-true (length row) 4 s.count) (lit≤ tt) in record {
        known = let l = place_below names name.Part _ (at kind.Area s 1 (lit< tt) (omega arith)) in let m = many.parts in omega arith;
        amount = at kind.Area s 2 (lit< tt) (omega arith);
      }

  pub line_added : IsSound names d kind.Line row → LineInLimits (line_term_of (entry_of kind.Line (vals kind.Line) row))
  line_added s =
      let e = sized kind.Line 5 (eqb-true (length row) 5 s.count) (lit≤ tt) in
      let hi = at kind.Line s 2 (lit< tt) (omega arith) in record {
        lo = at kind.Line s 1 (lit< tt) (omega arith);
        hi = hi.0;
        in_order = hi.1;
        length = at kind.Line s 3 (lit< tt) (omega arith);
      }
