-- The section is within limits.
use Rattle.std.proofs.Common.{◌≡◌, ℕ, zero, suc, ◌+◌, ◌*◌, ◌<◌, ◌≤◌, inl, List, [], ◌++◌, length, length-append, arith, refl, codes}
use Rattle.std.specs.List.{All}
use Rattle.std.specs.Prelude.{◌≢◌, IsTrue}
use Rattle.std.proofs.lemmas.List.Elements.{All-append, All-nil}
use Rattle.tb_detail.specs.declared.Content.{Content}
use Rattle.tb_detail.specs.declared.Environment.{Environment}
use Rattle.tb_detail.specs.declared.Material.{Material}
use Rattle.tb_detail.specs.declared.Part.{Part}
use Rattle.tb_detail.specs.declared.PsiItem.{PsiItem}
use Rattle.tb_detail.specs.declared.ChiItem.{ChiItem}
use Rattle.tb_detail.specs.Limits.{BoxInLimits, ChiInLimits, ContentInLimits, InLimits, PartInLimits, PsiInLimits}
use Rattle.tb_detail.specs.Names.{AreNamed, is_name, is_name_byte}
use Rattle.tb_detail.specs.Quantities.{IsInRange}
use Rattle.tb_detail.specs.declared.quantity.Quantity.TheVariants as quantity
use Rattle.tb_demo.proofs.Lists.{all_of_four, all_of_three, all_of_two, no_pairs, pairs_of_three, pairs_of_two}
use Rattle.tb_demo.specs.Section.{air_inside, air_outside, concrete, environments, flat_box, insulation, masonry, materials, section, slab, storey, storeys, wall}

-- ---- boxes
box_within : (n : ℕ) (c : Content) (x0 x1 y0 y1 : ℕ) → ContentInLimits (section n) c → x0 < x1 → x1 ≤ 500000 → y0 < y1 → y1 ≤ 500000 →
    BoxInLimits (section n) (flat_box c x0 x1 y0 y1)
box_within n c x0 x1 y0 y1 known x_rises x_within y_rises y_within = record {
  content = known;
  span = record {
    x = record { rises = x_rises; in_range = record { low = omega arith; high = x_within } };
    y = record { rises = y_rises; in_range = record { low = omega arith; high = y_within } };
    z = record { rises = omega arith; in_range = record { low = omega arith; high = omega arith } };
    flat = λ two. (refl, refl);
  };
}

inside_known : (n : ℕ) → ContentInLimits (section n) air_inside
inside_known n = (omega arith, record { low = omega arith; high = omega arith })

outside_known : (n : ℕ) → ContentInLimits (section n) air_outside
outside_known n = (omega arith, record { low = omega arith; high = omega arith })

wall_within : (n y0 y1 : ℕ) → y0 < y1 → y1 ≤ 500000 → All (BoxInLimits (section n)) (wall y0 y1)
wall_within n y0 y1 rises within =
    all_of_four (BoxInLimits (section n)) (flat_box air_inside 0 10000 y0 y1) (flat_box masonry 10000 12000 y0 y1)
    (flat_box insulation 12000 13000 y0 y1) (flat_box air_outside 13000 24000 y0 y1)
    (box_within n air_inside 0 10000 y0 y1 (inside_known n) (omega arith) (omega arith) rises within)
    (box_within n masonry 10000 12000 y0 y1 (omega arith) (omega arith) (omega arith) rises within)
    (box_within n insulation 12000 13000 y0 y1 (omega arith) (omega arith) (omega arith) rises within)
    (box_within n air_outside 13000 24000 y0 y1 (outside_known n) (omega arith) (omega arith) rises within)

slab_within : (n y0 y1 : ℕ) → y0 < y1 → y1 ≤ 500000 → All (BoxInLimits (section n)) (slab y0 y1)
slab_within n y0 y1 rises within =
    all_of_two (BoxInLimits (section n)) (flat_box concrete 0 23000 y0 y1) (flat_box air_outside 23000 24000 y0 y1)
    (box_within n concrete 0 23000 y0 y1 (omega arith) (omega arith) (omega arith) rises within)
    (box_within n air_outside 23000 24000 y0 y1 (outside_known n) (omega arith) (omega arith) rises within)

storeys_within : (n m : ℕ) → m ≤ 16 → All (BoxInLimits (section n)) (storeys m)
storeys_within n zero few = All-nil (BoxInLimits (section n))
storeys_within n (suc m) few =
    let P = BoxInLimits (section n) in
    let y = 30000 * m in
    let top : y + 30000 ≤ 500000 = omega arith in
    All-append P (storeys m) (storey y) (storeys_within n m (omega arith))
    (All-append P (wall y (y + 14000)) (slab (y + 14000) (y + 16000) ++ wall (y + 16000) (y + 30000))
    (wall_within n y (y + 14000) (omega arith) (omega arith))
    (All-append P (slab (y + 14000) (y + 16000)) (wall (y + 16000) (y + 30000))
    (slab_within n (y + 14000) (y + 16000) (omega arith) (omega arith))
    (wall_within n (y + 16000) (y + 30000) (omega arith) top)))

pub ten_each : (n : ℕ) → length (storeys n) ≡ 10 * n
ten_each zero = refl
ten_each (suc n) = omega (arith, length-append (storeys n) (storey (30000 * n)), ten_each n)

-- ---- names
abbrev environment : List ℕ → Environment
environment name = record { name = name }

environments_named : AreNamed (λ (e : Environment). e.name) environments
unfolding is_name_byte
environments_named =
    let inside = environment (codes "inside") in
    let outside = environment (codes "outside") in
    record {
      formed = all_of_two (λ (e : Environment). IsTrue (is_name e.name)) inside outside refl refl;
      distinct = pairs_of_two (λ (e f : Environment). e.name ≢ f.name) inside outside (λ e. absurd (cc e));
    }

abbrev material : List ℕ → ℕ → Material
material name lambda = record { name = name; lambda = lambda }

materials_named : AreNamed (λ (m : Material). m.name) materials
unfolding is_name_byte
materials_named =
    let one = material (codes "masonry") 8000 in
    let two = material (codes "insulation") 400 in
    let three = material (codes "concrete") 23000 in
    record {
      formed = all_of_three (λ (m : Material). IsTrue (is_name m.name)) one two three refl refl refl;
      distinct = pairs_of_three (λ (m n : Material). m.name ≢ n.name) one two three (λ e. absurd (cc e)) (λ e. absurd (cc e)) (λ e. absurd (cc e));
    }

none_named : {X : Type 0} (name : X → List ℕ) → AreNamed name []
none_named name = record { formed = All-nil (λ thing. IsTrue (is_name (name thing))); distinct = no_pairs (λ thing other. name thing ≢ name other) }

conductivity_within : (n : ℕ) → 1 ≤ n → n ≤ 5000000 → IsInRange quantity.Conductivity n
conductivity_within n low high = record { low = low; high = high }

conductivities_within : All (λ (m : Material). IsInRange quantity.Conductivity m.lambda) materials
conductivities_within =
    all_of_three (λ (m : Material). IsInRange quantity.Conductivity m.lambda)
    (material (codes "masonry") 8000) (material (codes "insulation") 400) (material (codes "concrete") 23000)
    (conductivity_within 8000 (omega arith) (omega arith)) (conductivity_within 400 (omega arith) (omega arith))
    (conductivity_within 23000 (omega arith) (omega arith))

-- ---- the detail
pub section_within : (n : ℕ) → n ≤ 16 → InLimits (section n)
section_within n few = record {
  dimension = record { known = inl refl; no_psi = λ three. refl; no_chi = λ two. refl };
  few = record { environments = omega arith; boxes = omega (arith, ten_each n); names = omega arith };
  named = record {
    environments = environments_named;
    materials = materials_named;
    parts = none_named (λ (p : Part). p.name);
    psis = none_named (λ (p : PsiItem). p.name);
    chis = none_named (λ (c : ChiItem). c.name);
  };
  conductivities = conductivities_within;
  boxes = storeys_within n n few;
  parts = All-nil (PartInLimits (section n));
  psis = All-nil (PsiInLimits (section n));
  chis = All-nil (ChiInLimits (section n));
}
