-- Which details are within limits.
use Rattle.std.specs.Prelude.{◌≡◌, ◌≢◌, ℕ, ◌+◌, ◌<◌, ◌≤◌, ◌⊎◌, List, [], length, ◌≤ℤ◌, unsigned_abs, All}
use Rattle.tb_detail.specs.declared.ChiItem.{ChiItem}
use Rattle.tb_detail.specs.declared.Content.{Content}
use Rattle.tb_detail.specs.declared.Content.TheVariants.{Air, Solid}
use Rattle.tb_detail.specs.declared.Detail.{Detail}
use Rattle.tb_detail.specs.declared.Environment.{Environment}
use Rattle.tb_detail.specs.declared.Layer.{Layer}
use Rattle.tb_detail.specs.declared.LineTerm.{LineTerm}
use Rattle.tb_detail.specs.declared.Material.{Material}
use Rattle.tb_detail.specs.declared.Part.{Part}
use Rattle.tb_detail.specs.declared.PlanarTerm.{PlanarTerm}
use Rattle.tb_detail.specs.declared.PsiItem.{PsiItem}
use Rattle.tb_detail.specs.declared.SpaceBox.{SpaceBox}
use Rattle.tb_detail.specs.declared.Span.{Span}
use Rattle.tb_detail.specs.declared.limits.TheConstants.{FLAT_HEIGHT, MOST_BOXES, MOST_ENVIRONMENTS, MOST_LAYERS, MOST_NAMES, MOST_PSI, MOST_SECTIONS, MOST_TERMS}
use Rattle.tb_detail.specs.declared.quantity.Quantity.{Quantity}
use Rattle.tb_detail.specs.declared.quantity.Quantity.TheVariants as quantity
use Rattle.tb_detail.specs.Names.{AreNamed}
use Rattle.tb_detail.specs.Quantities.{IsInRange}

-- ---- names and counts

-- the names of each kind are told apart
pub record AreAllNamed (d : Detail) : Type 0 where
  pub environments : AreNamed (λ (e : Environment). e.name) d.environments
  pub materials : AreNamed (λ (m : Material). m.name) d.materials
  pub parts : AreNamed (λ (p : Part). p.name) d.parts
  pub psis : AreNamed (λ (p : PsiItem). p.name) d.psis
  pub chis : AreNamed (λ (c : ChiItem). c.name) d.chis

-- the names over all five kinds
abbrev pub name_count : Detail → ℕ
name_count d = length d.environments + length d.materials + length d.parts + length d.psis + length d.chis

pub record AreFew (d : Detail) : Type 0 where
  pub environments : length d.environments ≤ MOST_ENVIRONMENTS
  pub boxes : length d.boxes ≤ MOST_BOXES
  pub names : name_count d ≤ MOST_NAMES

-- the dimension is 2 or 3, a Ψ stands only in the one and a χ only in the other
pub record SuitsDimension (d : Detail) : Type 0 where
  pub known : (d.dimension ≡ 2) ⊎ (d.dimension ≡ 3)
  pub no_psi : d.dimension ≡ 3 → d.psis ≡ []
  pub no_chi : d.dimension ≡ 2 → d.chis ≡ []

-- ---- boxes

-- the lower coordinate is in range where the upper one is, since the least coordinate is 0
pub record IsExtent (low high : ℕ) : Type 0 where
  pub rises : low < high
  pub in_range : IsInRange quantity.Length high

pub record SpanInLimits (dimension : ℕ) (s : Span) : Type 0 where
  pub x : IsExtent s.x0 s.x1
  pub y : IsExtent s.y0 s.y1
  pub z : IsExtent s.z0 s.z1
  pub flat : dimension ≡ 2 → (s.z0 ≡ 0) × (s.z1 ≡ FLAT_HEIGHT)

-- what a box is filled with is known
abbrev pub ContentInLimits : Detail → Content → Type 0
ContentInLimits d (Solid material) = material < length d.materials
ContentInLimits d (Air environment rs) = (environment < length d.environments) × IsInRange quantity.Resistance rs

pub record BoxInLimits (d : Detail) (b : SpaceBox) : Type 0 where
  pub content : ContentInLimits d b.content
  pub span : SpanInLimits d.dimension b.span

-- ---- parts

-- a layer has a known material for each section of its part
pub record LayerInLimits (d : Detail) (sections : ℕ) (l : Layer) : Type 0 where
  pub thickness : IsInRange quantity.Thickness l.thickness
  pub one_each : length l.materials ≡ sections
  pub known : All (λ material. material < length d.materials) l.materials

pub record PartInLimits (d : Detail) (p : Part) : Type 0 where
  pub rsi : IsInRange quantity.Resistance p.rsi
  pub rse : IsInRange quantity.Resistance p.rse
  pub some_area : 1 ≤ length p.areas
  pub few_areas : length p.areas ≤ MOST_SECTIONS
  pub areas : All (IsInRange quantity.Section) p.areas
  pub some_layer : 1 ≤ length p.layers
  pub few_layers : length p.layers ≤ MOST_LAYERS
  pub layers : All (LayerInLimits d (length p.areas)) p.layers

-- ---- transmittances

-- two known environments that differ
pub record IsPair (d : Detail) (first second : ℕ) : Type 0 where
  pub first_known : first < length d.environments
  pub second_known : second < length d.environments
  pub differ : first ≢ second

-- a known part and a length or an area
pub record TermInLimits (d : Detail) (q : Quantity) (t : PlanarTerm) : Type 0 where
  pub known : t.part < length d.parts
  pub amount : IsInRange q t.amount

pub record LineInLimits (l : LineTerm) : Type 0 where
  pub lo : unsigned_abs l.psi_lo ≤ MOST_PSI
  pub hi : unsigned_abs l.psi_hi ≤ MOST_PSI
  pub in_order : l.psi_lo ≤ℤ l.psi_hi
  pub length : IsInRange quantity.Length l.length

pub record TermsInLimits (d : Detail) (q : Quantity) (ts : List PlanarTerm) : Type 0 where
  pub few : length ts ≤ MOST_TERMS
  pub each : All (TermInLimits d q) ts

pub record LinesInLimits (ls : List LineTerm) : Type 0 where
  pub few : length ls ≤ MOST_TERMS
  pub each : All LineInLimits ls

pub record PsiInLimits (d : Detail) (p : PsiItem) : Type 0 where
  pub pair : IsPair d p.first p.second
  pub lengths : TermsInLimits d quantity.Length p.lengths

pub record ChiInLimits (d : Detail) (c : ChiItem) : Type 0 where
  pub pair : IsPair d c.first c.second
  pub areas : TermsInLimits d quantity.Area c.areas
  pub lines : LinesInLimits c.lines

-- ---- a detail

pub record InLimits (d : Detail) : Type 0 where
  pub dimension : SuitsDimension d
  pub few : AreFew d
  pub named : AreAllNamed d
  pub conductivities : All (λ (m : Material). IsInRange quantity.Conductivity m.lambda) d.materials
  pub boxes : All (BoxInLimits d) d.boxes
  pub parts : All (PartInLimits d) d.parts
  pub psis : All (PsiInLimits d) d.psis
  pub chis : All (ChiInLimits d) d.chis
