-- The canonical records of the things of a detail read back, each behind those before it.
use Rattle.std.proofs.Common.{◌≡◌, ◌∙◌, ap, refl, sym, subst, ℕ, suc, ◌+◌, ◌<◌, ◌≤◌, ◌==◌, ◌&&◌, ◌⊎◌, inl, inr, true, false, List, [], ◌∷◌, ◌++◌, length, map, nat_le, arith}
use Rattle.std.proofs.lemmas.Bool.{eq-eqb, le-leb, ne_eqb}
use Rattle.std.proofs.lemmas.List.{length-append, length-map}
use Rattle.csv.specs.Records.{field_at}
use Rattle.tb_detail.specs.declared.ChiItem.{ChiItem}
use Rattle.tb_detail.specs.declared.Content.{Content}
use Rattle.tb_detail.specs.declared.Content.TheVariants.{Air, Solid}
use Rattle.tb_detail.specs.declared.Detail.{Detail}
use Rattle.tb_detail.specs.declared.Environment.{Environment}
use Rattle.tb_detail.specs.declared.Layer.{Layer}
use Rattle.tb_detail.specs.declared.LineTerm.{LineTerm}
use Rattle.tb_detail.specs.declared.Material.{Material}
use Rattle.tb_detail.specs.declared.Part.{Part}
use Rattle.tb_detail.specs.declared.PlanarTerm.{PlanarTerm}
use Rattle.tb_detail.specs.declared.PsiItem.{PsiItem}
use Rattle.tb_detail.specs.declared.SpaceBox.{SpaceBox}
use Rattle.tb_detail.specs.declared.Span.{Span}
use Rattle.tb_detail.specs.declared.quantity.Quantity.TheVariants as quantity
use Rattle.tb_detail.specs.Limits.{BoxInLimits, ChiInLimits, ContentInLimits, InLimits, IsExtent, LayerInLimits, LineInLimits, PartInLimits, PsiInLimits, SpanInLimits, TermInLimits}
use Rattle.tb_detail.specs.Names.{Text}
use Rattle.tb_detail.specs.Quantities.{IsInRange}
use Rattle.tb_reading.specs.declared.kinds.NameKind.TheVariants as name
use Rattle.tb_reading.specs.declared.kinds.RecordKind.{RecordKind}
use Rattle.tb_reading.specs.declared.kinds.RecordKind.TheVariants as kind
use Rattle.tb_reading.specs.declared.values.FieldValue.{FieldValue}
use Rattle.tb_reading.specs.declared.values.FieldValue.TheVariants.{Nothing, Number, Place, Signed}
use Rattle.tb_reading.specs.Details.{areas_from}
use Rattle.tb_reading.specs.Drafts.{changed_at, more_area, more_layer, more_length, more_line}
use Rattle.tb_reading.specs.Kinds as kinds
use Rattle.tb_reading.specs.Names.{NamesByKind}
use Rattle.tb_reading.specs.Records.{number_in, place_in}
use Rattle.tb_canonical.specs.Canonical.{box_row, content_row, environment_row, layer_row, line_row, material_row, names_in, pair_values, part_values, row_of, term_row}
use Rattle.tb_canonical.proofs.LastItem.{last_changed, last_got}
use Rattle.tb_canonical.proofs.Names.{all_known, declared, known, owner}
use Rattle.tb_canonical.proofs.RowReading.{AllFit, numbers_fit, places_fit}
use Rattle.tb_canonical.proofs.Runs.{Goes}
use Rattle.tb_canonical.proofs.States.{at_split, before_all, few_names, has_dimension, neither, not_le, with_boxes, with_chis, with_environments, with_materials, with_parts, with_psis}
use Rattle.tb_canonical.proofs.Stepping.{enters}

-- ---- lists of values

-- what a map puts in, another takes out
map_back : {X Y : Type 0} (f : X → Y) (g : Y → X) → ((x : X) → g (f x) ≡ x) → (xs : List X) → map g (map f xs) ≡ xs
map_back f g h [] = refl
map_back {X} f g h (x ∷ xs) = ap (λ (y : X). y ∷ map g (map f xs)) (h x) ∙ ap (λ (l : List X). x ∷ l) (map_back f g h xs)

areas_back : (areas : List ℕ) → 1 ≤ length areas → areas_from (map Number areas) ≡ areas
areas_back [] h = absurd (omega arith)
areas_back (area ∷ areas) h = map_back Number number_in (λ n. refl) (area ∷ areas)

between : (low high n : ℕ) → low ≤ n → n ≤ high → (nat_le low n && nat_le n high) ≡ true
between low high n l h = rw (le-leb low n l, le-leb n high h) refl

-- ---- boxes

abbrev box : Content → Span → SpaceBox
box content s = record { content = content; span = s }

-- a box without z coordinates reaches from 0 to 10,000 there
abbrev flat : Span → Span
flat s = record s { z0 = 0; z1 = 10000 }

flat_span : (s : Span) → s.z0 ≡ 0 → s.z1 ≡ 10000 → flat s ≡ s
flat_span s e f = λ i. record s { z0 = sym e i; z1 = sym f i }

low_in_range : (low high : ℕ) → IsExtent low high → IsInRange quantity.Length low
low_in_range low high e = record { low = omega arith; high = let r = e.rises in let m = e.in_range.high in omega arith }

module _ (names : NamesByKind) (k : RecordKind) (item : Text) (n : ℕ) (s : Span) (l : SpanInLimits n s) (before : FieldValue) where
  flat_fits : AllFit names k item before kinds.span_fields (Number s.x0 ∷ Number s.x1 ∷ Number s.y0 ∷ Number s.y1 ∷ [])
  flat_fits = (low_in_range s.x0 s.x1 l.x, ((l.x.in_range, l.x.rises), (low_in_range s.y0 s.y1 l.y, ((l.y.in_range, l.y.rises), tt))))

  deep_fits : AllFit names k item before kinds.span_fields (Number s.x0 ∷ Number s.x1 ∷ Number s.y0 ∷ Number s.y1 ∷ Number s.z0 ∷ Number s.z1 ∷ [])
  deep_fits = (
    low_in_range s.x0 s.x1 l.x,
    (
      (l.x.in_range, l.x.rises),
      (
        low_in_range s.y0 s.y1 l.y,
        (
          (l.y.in_range, l.y.rises),
          (low_in_range s.z0 s.z1 l.z, ((l.z.in_range, l.z.rises), tt)),
        ),
      ),
    ),
  )

module _ (d : Detail) (h : InLimits d) where
  z : (d.dimension == 0) ≡ false
  z = has_dimension d.dimension h.dimension.known

  -- ---- environments and materials

  pub environment_goes : (before : List Environment) (e : Environment) (after : List Environment) → before ++ (e ∷ after) ≡ d.environments
      → Goes (with_environments d before) (environment_row (names_in d) e) (with_environments d (before ++ (e ∷ [])))
  unfolding field_at
  environment_goes before e after split =
      let short = before_all before e after d.environments split in
      let few = h.few.environments in
      let names = h.few.names in
      enters (names_in d) (with_environments d before) (with_environments d (before ++ (e ∷ []))) kind.Environment e.name (Nothing ∷ []) (record {
        agree = tt;
        dimension = z;
        allowed = refl;
        count = refl;
        fits = (tt, (declared (λ (e : Environment). e.name) before e after d.environments split h.named.environments, tt));
        room = neither _ _ (not_le 4 (length before) (omega arith)) (few_names (with_environments d before) (omega arith));
      }) refl

  pub material_goes : (before : List Material) (m : Material) (after : List Material) → before ++ (m ∷ after) ≡ d.materials
      → Goes (with_materials d before) (material_row (names_in d) m) (with_materials d (before ++ (m ∷ [])))
  unfolding field_at
  material_goes before m after split =
      let short = before_all before m after d.materials split in
      let names = h.few.names in
      enters (names_in d) (with_materials d before) (with_materials d (before ++ (m ∷ []))) kind.Material m.name (Nothing ∷ Number m.lambda ∷ []) (record {
        agree = tt;
        dimension = z;
        allowed = refl;
        count = refl;
        fits = (
          tt,
          (
            declared (λ (m : Material). m.name) before m after d.materials split h.named.materials,
            (at_split (λ (m : Material). IsInRange quantity.Conductivity m.lambda) before m after d.materials split h.conductivities, tt),
          ),
        );
        room = few_names (with_materials d before) (omega arith);
      }) refl

  -- ---- boxes

  abbrev state : ℕ → List SpaceBox → Detail
  state n bs = record { dimension = n; environments = d.environments; materials = d.materials; boxes = bs; parts = []; psis = []; chis = [] }

  module _ (before : List SpaceBox) (few : length before < 512) (s : Span) where
    abbrev BoxGoes : ℕ → Content → Type 0
    BoxGoes n content = Goes (state n before) (content_row (names_in d) n content s) (state n (before ++ (box content s ∷ [])))

    deep_goes : (content : Content) → ContentInLimits d content → SpanInLimits 3 s → BoxGoes 3 content
    unfolding field_at
    deep_goes (Solid material) c l =
        enters (names_in d) (state 3 before) (state 3 (before ++ (box (Solid material) s ∷ []))) kind.Solid []
        (Place material ∷ Number s.x0 ∷ Number s.x1 ∷ Number s.y0 ∷ Number s.y1 ∷ Number s.z0 ∷ Number s.z1 ∷ []) (record {
          agree = (refl, tt);
          dimension = refl;
          allowed = refl;
          count = refl;
          fits = (tt, (known (λ (m : Material). m.name) d.materials material h.named.materials c, deep_fits (names_in (state 3 before)) kind.Solid [] 3 s l (Place material)));
          room = not_le 512 (length before) few;
        }) refl
    deep_goes (Air environment rs) c l =
        enters (names_in d) (state 3 before) (state 3 (before ++ (box (Air environment rs) s ∷ []))) kind.Air []
        (Place environment ∷ Number rs ∷ Number s.x0 ∷ Number s.x1 ∷ Number s.y0 ∷ Number s.y1 ∷ Number s.z0 ∷ Number s.z1 ∷ []) (record {
          agree = (refl, tt);
          dimension = refl;
          allowed = refl;
          count = refl;
          fits = (tt, (known (λ (e : Environment). e.name) d.environments environment h.named.environments c.0, (c.1, deep_fits (names_in (state 3 before)) kind.Air [] 3 s l (Number rs))));
          room = not_le 512 (length before) few;
        }) refl

    flat_goes : (content : Content) → ContentInLimits d content → SpanInLimits 2 s → BoxGoes 2 content
    unfolding field_at
    flat_goes (Solid material) c l =
        enters (names_in d) (state 2 before) (state 2 (before ++ (box (Solid material) s ∷ []))) kind.Solid []
        (Place material ∷ Number s.x0 ∷ Number s.x1 ∷ Number s.y0 ∷ Number s.y1 ∷ []) (record {
          agree = (refl, tt);
          dimension = refl;
          allowed = refl;
          count = refl;
          fits = (tt, (known (λ (m : Material). m.name) d.materials material h.named.materials c, flat_fits (names_in (state 2 before)) kind.Solid [] 2 s l (Place material)));
          room = not_le 512 (length before) few;
        }) (ap (λ (t : Span). state 2 (before ++ (box (Solid material) t ∷ []))) (flat_span s (l.flat refl).0 (l.flat refl).1))
    flat_goes (Air environment rs) c l =
        enters (names_in d) (state 2 before) (state 2 (before ++ (box (Air environment rs) s ∷ []))) kind.Air []
        (Place environment ∷ Number rs ∷ Number s.x0 ∷ Number s.x1 ∷ Number s.y0 ∷ Number s.y1 ∷ []) (record {
          agree = (refl, tt);
          dimension = refl;
          allowed = refl;
          count = refl;
          fits = (tt, (known (λ (e : Environment). e.name) d.environments environment h.named.environments c.0, (c.1, flat_fits (names_in (state 2 before)) kind.Air [] 2 s l (Number rs))));
          room = not_le 512 (length before) few;
        }) (ap (λ (t : Span). state 2 (before ++ (box (Air environment rs) t ∷ []))) (flat_span s (l.flat refl).0 (l.flat refl).1))

    content_goes : (n : ℕ) → (n ≡ 2) ⊎ (n ≡ 3) → (content : Content) → ContentInLimits d content → SpanInLimits n s → BoxGoes n content
    content_goes n (inl e) content c l =
        subst (λ (n : ℕ). BoxGoes n content) (sym e) (flat_goes content c (subst (λ (n : ℕ). SpanInLimits n s) e l))
    content_goes n (inr e) content c l =
        subst (λ (n : ℕ). BoxGoes n content) (sym e) (deep_goes content c (subst (λ (n : ℕ). SpanInLimits n s) e l))

  pub box_goes : (before : List SpaceBox) (b : SpaceBox) (after : List SpaceBox) → before ++ (b ∷ after) ≡ d.boxes
      → Goes (with_boxes d before) (box_row (names_in d) d.dimension b) (with_boxes d (before ++ (b ∷ [])))
  box_goes before b after split =
      let short = before_all before b after d.boxes split in
      let few = h.few.boxes in
      let l = at_split (BoxInLimits d) before b after d.boxes split h.boxes in
      content_goes before (omega arith) b.span d.dimension h.dimension.known b.content l.content l.span

  -- ---- parts and layers

  pub part_goes : (before : List Part) (p : Part) (after : List Part) → before ++ (p ∷ after) ≡ d.parts
      → Goes (with_parts d before) (row_of (names_in d) kind.Part p.name (part_values p)) (with_parts d (before ++ ((record p { layers = [] }) ∷ [])))
  unfolding field_at
  part_goes before p after split =
      let short = before_all before p after d.parts split in
      let names = h.few.names in
      let l = at_split (PartInLimits d) before p after d.parts split h.parts in
      let few = l.few_areas in
      let size = length-map p.areas Number in
      enters (names_in d) (with_parts d before) (with_parts d (before ++ ((record p { layers = [] }) ∷ []))) kind.Part p.name
      (Nothing ∷ Number p.rsi ∷ Number p.rse ∷ map Number p.areas) (record {
        agree = tt;
        dimension = z;
        allowed = refl;
        count = between 4 8 (suc (suc (suc (suc (length (map Number p.areas)))))) (omega arith) (omega arith);
        fits = (
          tt,
          (
            declared (λ (p : Part). p.name) before p after d.parts split h.named.parts,
            (
              l.rsi,
              (
                l.rse,
                numbers_fit (names_in (with_parts d before)) kind.Part p.name quantity.Section 4 (Number p.rse) p.areas few l.areas,
              ),
            ),
          ),
        );
        room = few_names (with_parts d before) (omega arith);
      }) (ap (λ (areas : List ℕ). with_parts d (before ++ ((record p { areas = areas; layers = [] }) ∷ []))) (areas_back p.areas l.some_area))

  -- the next layer of the part that was read last
  pub layer_goes : (before : List Part) (p : Part) (after : List Part) → before ++ (p ∷ after) ≡ d.parts
      → (done : List Layer) (l : Layer) (rest : List Layer) → done ++ (l ∷ rest) ≡ p.layers
      → Goes (with_parts d (before ++ ((record p { layers = done }) ∷ []))) (layer_row (names_in d) p.name l)
      (with_parts d (before ++ ((record p { layers = done ++ (l ∷ []) }) ∷ [])))
  unfolding field_at
  layer_goes before p after split done l rest layers =
      let in_limits = at_split (PartInLimits d) before p after d.parts split h.parts in
      let here = at_split (LayerInLimits d (length p.areas)) done l rest p.layers layers in_limits.layers in
      let short = before_all done l rest p.layers layers in
      let few = in_limits.few_layers in
      let so_far : Part = record p { layers = done } in
      let a = with_parts d (before ++ (so_far ∷ [])) in
      let part = owner (λ (p : Part). p.name) before p after d.parts so_far split h.named.parts refl in
      let got = last_got before so_far in
      let one_each = here.one_each in
      let areas = in_limits.few_areas in
      let few_materials : length l.materials ≤ 4 = omega arith in
      let size = length-map l.materials Place in
      enters (names_in d) a (with_parts d (before ++ ((record p { layers = done ++ (l ∷ []) }) ∷ []))) kind.Layer p.name
      (Place (length before) ∷ Number l.thickness ∷ map Place l.materials) (record {
        agree = (refl, (refl, (refl, (refl, tt))));
        dimension = z;
        allowed = refl;
        count = rw (part.found, got) (eq-eqb (suc (suc (suc (length (map Place l.materials))))) (length p.areas + 3) (omega arith));
        fits = (
          tt,
          (
            part,
            (
              here.thickness,
              places_fit (names_in a) kind.Layer p.name name.Material 4 (Number l.thickness) l.materials few_materials
                  (all_known (λ (m : Material). m.name) d.materials l.materials h.named.materials here.known),
            ),
          ),
        );
        room = rw got (not_le 16 (length done) (omega arith));
      })
      (ap (λ (ms : List ℕ). with_parts d (changed_at (length before) (more_layer (record { thickness = l.thickness; materials = ms })) (before ++ (so_far ∷ [])))) (map_back Place place_in (λ n. refl) l.materials)
      ∙ ap (with_parts d) (last_changed before so_far (more_layer l)))

  -- ---- Ψ and χ

  -- a Ψ stands in dimension 2 alone, and a χ in dimension 3
  in_plane : (before : List PsiItem) (p : PsiItem) (after : List PsiItem) → before ++ (p ∷ after) ≡ d.psis → (d.dimension == 2) ≡ true
  in_plane before p after split = by h.dimension.known
    where
      by : (d.dimension ≡ 2) ⊎ (d.dimension ≡ 3) → (d.dimension == 2) ≡ true
      by (inl e) = eq-eqb d.dimension 2 e
      by (inr e) = absurd (omega (arith, ap length (split ∙ h.dimension.no_psi e), length-append before (p ∷ after)))

  in_space : (before : List ChiItem) (c : ChiItem) (after : List ChiItem) → before ++ (c ∷ after) ≡ d.chis → (d.dimension == 3) ≡ true
  in_space before c after split = by h.dimension.known
    where
      by : (d.dimension ≡ 2) ⊎ (d.dimension ≡ 3) → (d.dimension == 3) ≡ true
      by (inl e) = absurd (omega (arith, ap length (split ∙ h.dimension.no_chi e), length-append before (c ∷ after)))
      by (inr e) = eq-eqb d.dimension 3 e

  pub psi_goes : (before : List PsiItem) (p : PsiItem) (after : List PsiItem) → before ++ (p ∷ after) ≡ d.psis
      → Goes (with_psis d before) (row_of (names_in d) kind.Psi p.name (pair_values p.first p.second)) (with_psis d (before ++ ((record p { lengths = [] }) ∷ [])))
  unfolding field_at
  psi_goes before p after split =
      let short = before_all before p after d.psis split in
      let names = h.few.names in
      let pair = (at_split (PsiInLimits d) before p after d.psis split h.psis).pair in
      enters (names_in d) (with_psis d before) (with_psis d (before ++ ((record p { lengths = [] }) ∷ []))) kind.Psi p.name
      (Nothing ∷ Place p.first ∷ Place p.second ∷ []) (record {
        agree = (refl, (refl, tt));
        dimension = z;
        allowed = in_plane before p after split;
        count = refl;
        fits = (
          tt,
          (
            declared (λ (p : PsiItem). p.name) before p after d.psis split h.named.psis,
            (
              known (λ (e : Environment). e.name) d.environments p.first h.named.environments pair.first_known,
              ((known (λ (e : Environment). e.name) d.environments p.second h.named.environments pair.second_known, ne_eqb p.first p.second pair.differ), tt),
            ),
          ),
        );
        room = few_names (with_psis d before) (omega arith);
      }) refl

  pub length_goes : (before : List PsiItem) (p : PsiItem) (after : List PsiItem) → before ++ (p ∷ after) ≡ d.psis
      → (done : List PlanarTerm) (t : PlanarTerm) (rest : List PlanarTerm) → done ++ (t ∷ rest) ≡ p.lengths
      → Goes (with_psis d (before ++ ((record p { lengths = done }) ∷ []))) (term_row (names_in d) kind.Length p.name t)
      (with_psis d (before ++ ((record p { lengths = done ++ (t ∷ []) }) ∷ [])))
  unfolding field_at
  length_goes before p after split done t rest lengths =
      let terms = (at_split (PsiInLimits d) before p after d.psis split h.psis).lengths in
      let here = at_split (TermInLimits d quantity.Length) done t rest p.lengths lengths terms.each in
      let short = before_all done t rest p.lengths lengths in
      let few = terms.few in
      let so_far : PsiItem = record p { lengths = done } in
      enters (names_in d) (with_psis d (before ++ (so_far ∷ []))) (with_psis d (before ++ ((record p { lengths = done ++ (t ∷ []) }) ∷ []))) kind.Length p.name
      (Place (length before) ∷ Place t.part ∷ Number t.amount ∷ []) (record {
        agree = (refl, tt);
        dimension = z;
        allowed = in_plane before p after split;
        count = refl;
        fits = (
          tt,
          (
            owner (λ (p : PsiItem). p.name) before p after d.psis so_far split h.named.psis refl,
            (known (λ (p : Part). p.name) d.parts t.part h.named.parts here.known, (here.amount, tt)),
          ),
        );
        room = rw (last_got before so_far) (not_le 16 (length done) (omega arith));
      })
      (ap (with_psis d) (last_changed before so_far (more_length t)))

  pub chi_goes : (before : List ChiItem) (c : ChiItem) (after : List ChiItem) → before ++ (c ∷ after) ≡ d.chis
      → Goes (with_chis d before) (row_of (names_in d) kind.Chi c.name (pair_values c.first c.second)) (with_chis d (before ++ ((record c { areas = []; lines = [] }) ∷ [])))
  unfolding field_at
  chi_goes before c after split =
      let short = before_all before c after d.chis split in
      let names = h.few.names in
      let pair = (at_split (ChiInLimits d) before c after d.chis split h.chis).pair in
      enters (names_in d) (with_chis d before) (with_chis d (before ++ ((record c { areas = []; lines = [] }) ∷ []))) kind.Chi c.name
      (Nothing ∷ Place c.first ∷ Place c.second ∷ []) (record {
        agree = (refl, (refl, tt));
        dimension = z;
        allowed = in_space before c after split;
        count = refl;
        fits = (
          tt,
          (
            declared (λ (c : ChiItem). c.name) before c after d.chis split h.named.chis,
            (
              known (λ (e : Environment). e.name) d.environments c.first h.named.environments pair.first_known,
              ((known (λ (e : Environment). e.name) d.environments c.second h.named.environments pair.second_known, ne_eqb c.first c.second pair.differ), tt),
            ),
          ),
        );
        room = few_names (with_chis d before) (omega arith);
      }) refl

  pub area_goes : (before : List ChiItem) (c : ChiItem) (after : List ChiItem) → before ++ (c ∷ after) ≡ d.chis
      → (done : List PlanarTerm) (t : PlanarTerm) (rest : List PlanarTerm) → done ++ (t ∷ rest) ≡ c.areas
      → Goes (with_chis d (before ++ ((record c { areas = done; lines = [] }) ∷ []))) (term_row (names_in d) kind.Area c.name t)
      (with_chis d (before ++ ((record c { areas = done ++ (t ∷ []); lines = [] }) ∷ [])))
  unfolding field_at
  area_goes before c after split done t rest areas =
      let terms = (at_split (ChiInLimits d) before c after d.chis split h.chis).areas in
      let here = at_split (TermInLimits d quantity.Area) done t rest c.areas areas terms.each in
      let short = before_all done t rest c.areas areas in
      let few = terms.few in
      let so_far : ChiItem = record c { areas = done; lines = [] } in
      enters (names_in d) (with_chis d (before ++ (so_far ∷ []))) (with_chis d (before ++ ((record c { areas = done ++ (t ∷ []); lines = [] }) ∷ []))) kind.Area c.name
      (Place (length before) ∷ Place t.part ∷ Number t.amount ∷ []) (record {
        agree = (refl, tt);
        dimension = z;
        allowed = in_space before c after split;
        count = refl;
        fits = (
          tt,
          (
            owner (λ (c : ChiItem). c.name) before c after d.chis so_far split h.named.chis refl,
            (known (λ (p : Part). p.name) d.parts t.part h.named.parts here.known, (here.amount, tt)),
          ),
        );
        room = rw (last_got before so_far) (not_le 16 (length done) (omega arith));
      })
      (ap (with_chis d) (last_changed before so_far (more_area t)))

  pub line_goes : (before : List ChiItem) (c : ChiItem) (after : List ChiItem) → before ++ (c ∷ after) ≡ d.chis
      → (done : List LineTerm) (l : LineTerm) (rest : List LineTerm) → done ++ (l ∷ rest) ≡ c.lines
      → Goes (with_chis d (before ++ ((record c { lines = done }) ∷ []))) (line_row (names_in d) c.name l)
      (with_chis d (before ++ ((record c { lines = done ++ (l ∷ []) }) ∷ [])))
  unfolding field_at
  line_goes before c after split done l rest lines =
      let all = (at_split (ChiInLimits d) before c after d.chis split h.chis).lines in
      let here = at_split LineInLimits done l rest c.lines lines all.each in
      let short = before_all done l rest c.lines lines in
      let few = all.few in
      let so_far : ChiItem = record c { lines = done } in
      enters (names_in d) (with_chis d (before ++ (so_far ∷ []))) (with_chis d (before ++ ((record c { lines = done ++ (l ∷ []) }) ∷ []))) kind.Line c.name
      (Place (length before) ∷ Signed l.psi_lo ∷ Signed l.psi_hi ∷ Number l.length ∷ []) (record {
        agree = tt;
        dimension = z;
        allowed = in_space before c after split;
        count = refl;
        fits = (
          tt,
          (
            owner (λ (c : ChiItem). c.name) before c after d.chis so_far split h.named.chis refl,
            (here.lo, ((here.hi, here.in_order), (here.length, tt))),
          ),
        );
        room = rw (last_got before so_far) (not_le 16 (length done) (omega arith));
      })
      (ap (with_chis d) (last_changed before so_far (more_line l)))
