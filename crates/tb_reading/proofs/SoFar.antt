-- What a draft keeps of the limits of a detail: all but that each part has a layer.
use Rattle.std.proofs.Common.{◌≡◌, ℕ, zero, suc, ◌<◌, ◌≤◌, ◌⊎◌, Bool, true, false, List, [], ◌∷◌, length, map, Option, Some, refl, sym, ap, subst, arith, All, slice_get, length-append}
use Rattle.std.proofs.lemmas.List.Elements.{All-cons, All-push, All-tail, All-weaker}
use Rattle.tb_detail.specs.declared.ChiItem.{ChiItem}
use Rattle.tb_detail.specs.declared.Content.{Content}
use Rattle.tb_detail.specs.declared.Content.TheVariants.{Air, Solid}
use Rattle.tb_detail.specs.declared.Detail.{Detail}
use Rattle.tb_detail.specs.declared.Environment.{Environment}
use Rattle.tb_detail.specs.declared.Layer.{Layer}
use Rattle.tb_detail.specs.declared.Material.{Material}
use Rattle.tb_detail.specs.declared.Part.{Part}
use Rattle.tb_detail.specs.declared.PlanarTerm.{PlanarTerm}
use Rattle.tb_detail.specs.declared.PsiItem.{PsiItem}
use Rattle.tb_detail.specs.declared.SpaceBox.{SpaceBox}
use Rattle.tb_detail.specs.declared.quantity.Quantity.{Quantity}
use Rattle.tb_detail.specs.declared.quantity.Quantity.TheVariants as quantity
use Rattle.tb_detail.specs.Limits.{BoxInLimits, ChiInLimits, ContentInLimits, IsPair, LayerInLimits, PsiInLimits, SpanInLimits, TermInLimits, TermsInLimits}
use Rattle.tb_detail.specs.Names.{AreNamed, Text}
use Rattle.tb_detail.specs.Quantities.{IsInRange}
use Rattle.tb_reading.specs.declared.kinds.RecordKind.{RecordKind}
use Rattle.tb_reading.specs.declared.kinds.RecordKind.TheVariants as kind
use Rattle.tb_reading.specs.declared.names.Names.{Names}
use Rattle.tb_reading.specs.Details.{Entry, layer_of, place_at}
use Rattle.tb_reading.specs.Drafts.{changed_at, more_layer, more_parts, with_entry, with_if}
use Rattle.tb_reading.specs.NameLists.{names_in}
use Rattle.tb_reading.specs.Names.{name_count}

-- ---- the limits so far

-- a part that may have no layer yet
pub record PartSoFar (d : Detail) (p : Part) : Type 0 where
  pub rsi : IsInRange quantity.Resistance p.rsi
  pub rse : IsInRange quantity.Resistance p.rse
  pub some_area : 1 ≤ length p.areas
  pub few_areas : length p.areas ≤ 4
  pub areas : All (IsInRange quantity.Section) p.areas
  pub few_layers : length p.layers ≤ 16
  pub layers : All (LayerInLimits d (length p.areas)) p.layers

-- the names of the things of a detail are those that were declared
pub record AreThose (n : Names) (d : Detail) : Type 0 where
  pub environments : map (λ (e : Environment). e.name) d.environments ≡ n.environments
  pub materials : map (λ (m : Material). m.name) d.materials ≡ n.materials
  pub parts : map (λ (p : Part). p.name) d.parts ≡ n.parts
  pub psis : map (λ (p : PsiItem). p.name) d.psis ≡ n.psis
  pub chis : map (λ (c : ChiItem). c.name) d.chis ≡ n.chis

-- names have the form of a name and are distinct
abbrev pub AreTexts : List Text → Type 0
AreTexts names = AreNamed (λ (name : Text). name) names

pub record AreAllTexts (n : Names) : Type 0 where
  pub environments : AreTexts n.environments
  pub materials : AreTexts n.materials
  pub parts : AreTexts n.parts
  pub psis : AreTexts n.psis
  pub chis : AreTexts n.chis

-- before the head, a detail of dimension 0 has no box, no Ψ and no χ
pub record SuitsSoFar (d : Detail) : Type 0 where
  pub known : (d.dimension ≡ 0 → ⊥) → (d.dimension ≡ 2) ⊎ (d.dimension ≡ 3)
  pub no_box : d.dimension ≡ 0 → d.boxes ≡ []
  pub no_psi : (d.dimension ≡ 2 → ⊥) → d.psis ≡ []
  pub no_chi : (d.dimension ≡ 3 → ⊥) → d.chis ≡ []

pub record AreKept (n : Names) (d : Detail) : Type 0 where
  pub dimension : SuitsSoFar d
  pub few_environments : length d.environments ≤ 4
  pub few_boxes : length d.boxes ≤ 512
  pub few_names : name_count (names_in n) ≤ 256
  pub those : AreThose n d
  pub texts : AreAllTexts n
  pub conductivities : All (λ (m : Material). IsInRange quantity.Conductivity m.lambda) d.materials
  pub boxes : All (BoxInLimits d) d.boxes
  pub parts : All (PartSoFar d) d.parts
  pub psis : All (PsiInLimits d) d.psis
  pub chis : All (ChiInLimits d) d.chis

-- ---- lists

pub all_if : {X : Type 0} (P : X → Type 0) (b : Bool) (x : X) (xs : List X) → All P xs → (b ≡ true → P x) → All P (with_if b x xs)
all_if P true x xs h p = All-push P xs x h (p refl)
all_if P false x xs h p = h

pub length_changed : {X : Type 0} (place : ℕ) (change : X → X) (xs : List X) → length (changed_at place change xs) ≡ length xs
length_changed place change [] = refl
length_changed zero change (x ∷ xs) = refl
length_changed (suc place) change (x ∷ xs) = ap suc (length_changed place change xs)

zero_below : (n : ℕ) → 0 < suc n
zero_below n = omega arith

pub all_changed : {X : Type 0} (P : X → Type 0) (place : ℕ) (change : X → X) (xs : List X) → All P xs → ((x : X) → slice_get xs place ≡ Some x → P x → P (change x)) → All P (changed_at place change xs)
all_changed P place change [] h f = h
all_changed P zero change (x ∷ xs) h f = All-cons P (change x) xs (f x refl (h 0 x (zero_below (length xs)))) (All-tail P x xs h)
all_changed P (suc place) change (x ∷ xs) h f = All-cons P x (changed_at place change xs) (h 0 x (zero_below (length xs))) (all_changed P place change xs (All-tail P x xs h) f)

pub map_changed : {X Y : Type 0} (f : X → Y) (place : ℕ) (change : X → X) (xs : List X) → ((x : X) → f (change x) ≡ f x) → map f (changed_at place change xs) ≡ map f xs
map_changed f place change [] h = refl
map_changed f zero change (x ∷ xs) h = ap (λ y. y ∷ map f xs) (h x)
map_changed f (suc place) change (x ∷ xs) h = ap (λ ys. f x ∷ ys) (map_changed f place change xs h)

-- ---- a detail that grows

pub record Grows (d more : Detail) : Type 0 where
  pub environments : length d.environments ≤ length more.environments
  pub materials : length d.materials ≤ length more.materials
  pub parts : length d.parts ≤ length more.parts

longer_if : {X : Type 0} (b : Bool) (x : X) (xs : List X) → length xs ≤ length (with_if b x xs)
longer_if true x xs = let e = length-append xs (x ∷ []) in omega arith
longer_if false x xs = omega arith

more_parts_longer : (k : Option RecordKind) (e : Entry) (ps : List Part) → length ps ≤ length (more_parts k e ps)
more_parts_longer (Some kind.Part) e ps = longer_if true _ ps
more_parts_longer (Some kind.Layer) e ps = let l = length_changed (place_at e.values 1) (more_layer (layer_of e)) ps in omega arith
more_parts_longer _ e ps = omega arith

pub entry_grows : (e : Entry) (d : Detail) → Grows d (with_entry e d)
entry_grows e d = record {
  environments = longer_if _ _ d.environments;
  materials = longer_if _ _ d.materials;
  parts = more_parts_longer e.kind e d.parts;
}

module _ (d more : Detail) (grows : Grows d more) where
  content_more : (c : Content) → ContentInLimits d c → ContentInLimits more c
  content_more (Solid material) h = let g = grows.materials in omega arith
  content_more (Air environment rs) h = (let g = grows.environments in let l = h.0 in omega arith, h.1)

  pub box_more : more.dimension ≡ d.dimension → (b : SpaceBox) → BoxInLimits d b → BoxInLimits more b
  box_more e b h = record {
    content = content_more b.content h.content;
    span = subst (λ (n : ℕ). SpanInLimits n b.span) (sym e) h.span;
  }

  layer_more : (sections : ℕ) (l : Layer) → LayerInLimits d sections l → LayerInLimits more sections l
  layer_more sections l h = record {
    thickness = h.thickness;
    one_each = h.one_each;
    known = All-weaker (λ m. m < length d.materials) (λ m. m < length more.materials) (λ m k. let g = grows.materials in omega arith) l.materials h.known;
  }

  pub part_more : (p : Part) → PartSoFar d p → PartSoFar more p
  part_more p h = record {
    rsi = h.rsi;
    rse = h.rse;
    some_area = h.some_area;
    few_areas = h.few_areas;
    areas = h.areas;
    few_layers = h.few_layers;
    layers = All-weaker (LayerInLimits d (length p.areas)) (LayerInLimits more (length p.areas)) (layer_more (length p.areas)) p.layers h.layers;
  }

  pair_more : (first second : ℕ) → IsPair d first second → IsPair more first second
  pair_more first second h = record {
    first_known = let g = grows.environments in let l = h.first_known in omega arith;
    second_known = let g = grows.environments in let l = h.second_known in omega arith;
    differ = h.differ;
  }

  terms_more : (q : Quantity) (ts : List PlanarTerm) → TermsInLimits d q ts → TermsInLimits more q ts
  terms_more q ts h = record {
    few = h.few;
    each = All-weaker (TermInLimits d q) (TermInLimits more q) (λ t k. record { known = (let g = grows.parts in let l = k.known in omega arith); amount = k.amount }) ts h.each;
  }

  pub psi_more : (p : PsiItem) → PsiInLimits d p → PsiInLimits more p
  psi_more p h = record { pair = pair_more p.first p.second h.pair; lengths = terms_more quantity.Length p.lengths h.lengths }

  pub chi_more : (c : ChiItem) → ChiInLimits d c → ChiInLimits more c
  chi_more c h = record { pair = pair_more c.first c.second h.pair; areas = terms_more quantity.Area c.areas h.areas; lines = h.lines }
