-- The details that the canonical records lead to, one after the other.
use Rattle.std.proofs.Common.{◌≡◌, ◌∙◌, ap, refl, sym, ℕ, ◌<◌, ◌==◌, ◌||◌, ◌⊎◌, inl, inr, Bool, false, List, [], ◌∷◌, ◌++◌, length, get_or, nat_le, All, subst, arith}
use Rattle.std.proofs.lemmas.Bool.{lt-leb}
use Rattle.std.proofs.Math.Seq.{get_or-append_seam}
use Rattle.std.proofs.lemmas.List.{length-append, length-map}
use Rattle.tb_detail.specs.declared.ChiItem.{ChiItem}
use Rattle.tb_detail.specs.declared.Detail.{Detail}
use Rattle.tb_detail.specs.declared.Environment.{Environment}
use Rattle.tb_detail.specs.declared.Material.{Material}
use Rattle.tb_detail.specs.declared.Part.{Part}
use Rattle.tb_detail.specs.declared.PsiItem.{PsiItem}
use Rattle.tb_detail.specs.declared.SpaceBox.{SpaceBox}
use Rattle.tb_detail.specs.Limits as limits
use Rattle.tb_detail.specs.Limits.{InLimits}
use Rattle.tb_reading.specs.Names.{name_count}
use Rattle.tb_canonical.specs.Canonical.{names_in}

-- a detail, with the environments and so on that were read so far, and no more
module _ (d : Detail) where
  abbrev pub with_environments : List Environment → Detail
  with_environments es = record { dimension = d.dimension; environments = es; materials = []; boxes = []; parts = []; psis = []; chis = [] }

  abbrev pub with_materials : List Material → Detail
  with_materials ms = record { dimension = d.dimension; environments = d.environments; materials = ms; boxes = []; parts = []; psis = []; chis = [] }

  abbrev pub with_boxes : List SpaceBox → Detail
  with_boxes bs = record { dimension = d.dimension; environments = d.environments; materials = d.materials; boxes = bs; parts = []; psis = []; chis = [] }

  abbrev pub with_parts : List Part → Detail
  with_parts ps = record { dimension = d.dimension; environments = d.environments; materials = d.materials; boxes = d.boxes; parts = ps; psis = []; chis = [] }

  abbrev pub with_psis : List PsiItem → Detail
  with_psis ps = record { dimension = d.dimension; environments = d.environments; materials = d.materials; boxes = d.boxes; parts = d.parts; psis = ps; chis = [] }

  abbrev pub with_chis : List ChiItem → Detail
  with_chis cs = record { dimension = d.dimension; environments = d.environments; materials = d.materials; boxes = d.boxes; parts = d.parts; psis = d.psis; chis = cs }

-- ---- counts

pub before_all : {X : Type 0} (before : List X) (x : X) (after all : List X) → before ++ (x ∷ after) ≡ all → length before < length all
before_all before x after all e = omega (arith, ap length e, length-append before (x ∷ after))

-- what holds of all things holds of the one at a split
pub at_split : {X : Type 0} (P : X → Type 0) (before : List X) (x : X) (after all : List X) → before ++ (x ∷ after) ≡ all → All P all → P x
at_split {X} P before x after all e h =
    subst P (ap (λ (xs : List X). get_or xs (length before) x) (sym e) ∙ get_or-append_seam before x after x) (h (length before) x (before_all before x after all e))

pub not_le : (n m : ℕ) → m < n → nat_le n m ≡ false
not_le n m h = lt-leb n m h

pub neither : (a b : Bool) → a ≡ false → b ≡ false → (a || b) ≡ false
neither a b h k = rw (h, k) refl

-- a detail with fewer names than there may be
pub few_names : (d : Detail) → limits.name_count d < 256 → nat_le 256 (name_count (names_in d)) ≡ false
few_names d h =
    let e = length-map d.environments (λ (e : Environment). e.name) in
    let m = length-map d.materials (λ (m : Material). m.name) in
    let p = length-map d.parts (λ (p : Part). p.name) in
    let s = length-map d.psis (λ (p : PsiItem). p.name) in
    let c = length-map d.chis (λ (c : ChiItem). c.name) in
    not_le 256 (name_count (names_in d)) (omega arith)

pub has_dimension : (n : ℕ) → (n ≡ 2) ⊎ (n ≡ 3) → (n == 0) ≡ false
has_dimension n (inl e) = rw e refl
has_dimension n (inr e) = rw e refl
