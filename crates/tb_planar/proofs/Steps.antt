-- One section or one layer more.
use Rattle.std.proofs.Common.{◌≡◌, refl, ◌∙◌, ℕ, ◌+◌, ◌<◌, List, length, get_or, ap, sym, subst, add-one, arith, ℤ, ◌+ℤ◌}
use Rattle.std.proofs.lemmas.Int.{ints}
use Rattle.std.proofs.lemmas.List.{get_or-map, get_or_default}
use Rattle.std.proofs.lemmas.List.Elements.{All-get_or}
use Rattle.std.specs.Prelude.{All}
use Rattle.tb_detail.specs.declared.Detail.{Detail}
use Rattle.tb_detail.specs.declared.Layer.{Layer}
use Rattle.tb_detail.specs.declared.Material.{Material}
use Rattle.tb_detail.specs.declared.Part.{Part}
use Rattle.tb_detail.specs.declared.quantity.Quantity.TheVariants as quantity
use Rattle.tb_detail.specs.Limits.{LayerInLimits}
use Rattle.tb_detail.specs.Quantities.{IsInRange}
use Rattle.tb_math.specs.Sums.{total_ℕ}
use Rattle.tb_planar.specs.declared.bounds.Bounds.{Bounds}
use Rattle.tb_planar.specs.Bounds.{plus, total}
use Rattle.tb_planar.specs.Parts.{HasSections}
use Rattle.tb_planar.specs.Sections.{area, conductivity, layer, no_layer}

pub area_in_range : (p : Part) (xs : List ℕ) (i : ℕ) → xs ≡ p.areas → i < length xs → HasSections p → IsInRange quantity.Section (get_or xs i 0)
area_in_range p xs i e l h = All-get_or (IsInRange quantity.Section) xs i 0 l (subst (λ (t : List ℕ). All (IsInRange quantity.Section) t) (sym e) h.areas)

pub area_at : (p : Part) (xs : List ℕ) (i : ℕ) → xs ≡ p.areas → get_or xs i 0 ≡ area p i
area_at p xs i e = ap (λ (t : List ℕ). get_or t i 0) e

pub total_next : (i : ℕ) (f : ℕ → ℕ) (sum term : ℕ) → sum ≡ total_ℕ i f → term ≡ f i → sum + term ≡ total_ℕ (i + 1) f
total_next i f sum term e h = rw (add-one) cc

pub layer_at : (p : Part) (xs : List Layer) (i : ℕ) (x : Layer) → xs ≡ p.layers → i < length xs → x ≡ get_or xs i x → x ≡ layer p i
layer_at p xs i x e l h = let d = get_or_default xs i x no_layer l in let at = ap (λ (t : List Layer). get_or t i no_layer) e in cc

-- the surfaces and i layers, and one layer more
pub bounds_next : (s : Bounds) (i : ℕ) (f : ℕ → Bounds) (sum term : Bounds) → sum ≡ plus s (total i f) → term ≡ f i → plus sum term ≡ plus s (total (i + 1) f)
bounds_next s i f sum term e h = rw (add-one, e, h) (regrouped s (total i f) (f i))
  where
    regrouped : (a b c : Bounds) → plus (plus a b) c ≡ plus a (plus b c)
    regrouped a b c = sums a.low b.low c.low a.high b.high c.high
      where
        sums : (p q r x y z : ℤ) → ◌≡◌ {A = Bounds} (record { low = (p +ℤ q) +ℤ r; high = (x +ℤ y) +ℤ z }) (record { low = p +ℤ (q +ℤ r); high = x +ℤ (y +ℤ z) })
        sums p q r x y z = let e : (p +ℤ q) +ℤ r ≡ p +ℤ (q +ℤ r) = omega (arith, ints) in let f : (x +ℤ y) +ℤ z ≡ x +ℤ (y +ℤ z) = omega (arith, ints) in
            ap (λ (t : ℤ). record { low = t; high = (x +ℤ y) +ℤ z }) e ∙ ap (λ (t : ℤ). record { low = p +ℤ (q +ℤ r); high = t }) f

-- i numbers, and one more
pub bounds_added : (i : ℕ) (f : ℕ → Bounds) (sum term : Bounds) → sum ≡ total i f → term ≡ f i → plus sum term ≡ total (i + 1) f
bounds_added i f sum term e h = rw (add-one, e, h) refl

pub conductivity_at : (d : Detail) (l : Layer) (ms : List Material) (ps : List ℕ) (s n : ℕ) (m : Material) → ms ≡ d.materials → ps ≡ l.materials
    → n ≡ get_or ps s 0 → n < length ms → m ≡ get_or ms n m → m.lambda ≡ conductivity d l s
unfolding conductivity
conductivity_at d l ms ps s n m e f g b h =
    let place : n ≡ get_or l.materials s 0 = g ∙ ap (λ (t : List ℕ). get_or t s 0) f in
    let below : get_or l.materials s 0 < length d.materials = omega (arith, place, b, ap (λ (t : List Material). length t) e) in
    ap (λ (t : Material). t.lambda) (h ∙ ap (λ (t : List Material). get_or t n m) e ∙ ap (λ (i : ℕ). get_or d.materials i m) place)
    ∙ sym (get_or-map (λ (t : Material). t.lambda) d.materials (get_or l.materials s 0) m 0 below)

pub material_known : (d : Detail) (n : ℕ) (l : Layer) (ms : List Material) (ps : List ℕ) (s : ℕ) → ms ≡ d.materials → ps ≡ l.materials → LayerInLimits d n l → s < length ps
    → get_or ps s 0 < length ms
material_known d n l ms ps s e f h b =
    let known = All-get_or (λ material. material < length d.materials) ps s 0 b (subst (λ (t : List ℕ). All (λ material. material < length d.materials) t) (sym f) h.known) in
    omega (arith, known, ap (λ (t : List Material). length t) e)
