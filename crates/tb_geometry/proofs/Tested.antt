-- What tests of the program tell.
use Rattle.std.proofs.Common.{◌≡◌, ℕ, Bool, true, false, ◌&&◌, refl}
use Rattle.std.proofs.lemmas.Bool.{false≢true}
use Rattle.tb_detail.specs.declared.Content.{Content}
use Rattle.tb_detail.specs.declared.Content.TheVariants.{Solid, Air}
use Rattle.tb_geometry.specs.Boxes.{is_solid}

pub both_true : (a b : Bool) → (a && b) ≡ true → (a ≡ true) × (b ≡ true)
both_true true b both = (refl, both)
both_true false b both = absurd (false≢true both)

pub solid_content : (c : Content) → is_solid c ≡ true → (material : ℕ) × (c ≡ Solid material)
solid_content (Solid material) is = (material, refl)
solid_content (Air environment rs) is = absurd (false≢true is)
