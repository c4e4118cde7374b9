-- What a detail within limits is made of is positive, and each environment that its meshes have a surface to is one of
-- its own.
use mathlib.Core.Path.{◌≡◌}
use mathlib.Core.List.{List, [], ◌∷◌, map}
use Prim.Native.Nat.{ℕ, zero, suc, ◌<◌, ◌≤◌}
use native.Mathlib.Omega.{arith}
use Rattle.std.proofs.lemmas.Int.{ints}
use lib.IntN.{pos}
use lib.ListN.{get_or, length}
use Rattle.std.specs.Prelude.{Some}
use Rattle.std.specs.List.{All}
use Rattle.tb_math.proofs.StrictOrder.{<ℚ-int}
use Rattle.tb_detail.specs.declared.Content.{Content}
use Rattle.tb_detail.specs.declared.Content.TheVariants.{Solid, Air}
use Rattle.tb_detail.specs.declared.Detail.{Detail}
use Rattle.tb_detail.specs.declared.Material.{Material}
use Rattle.tb_detail.specs.declared.quantity.Quantity.TheVariants.{Conductivity}
use Rattle.tb_detail.specs.Limits.{InLimits, ContentInLimits}
use Rattle.tb_detail.specs.Quantities.{IsInRange}
use Rattle.tb_model.specs.Complements.{AreComplements, AreComplementsOn}
use Rattle.tb_model.specs.Energy.{Case}
use Rattle.tb_model.specs.Positive.{IsPositive, HasPositiveBoxes}
use Rattle.tb_model.specs.Refinement.{Refinement, mesh, occupant, scene_of}
use Rattle.tb_duality.proofs.PhysicalMeshes.{content_of_box}
use Rattle.tb_duality.proofs.Surfaces.{surfaces_are_of_airs}

-- Positive boxes --

conducts : (materials : List Material) → All (λ m. IsInRange Conductivity m.lambda) materials → (n : ℕ) → n < length materials → 0 < get_or (map (λ m. m.lambda) materials) n 0
conducts [] each n within = absurd (omega arith)
conducts (m ∷ ms) each zero within = let low : 1 ≤ m.lambda = (each 0 m (omega arith)).low in omega arith
conducts (m ∷ ms) each (suc n) within = conducts ms (λ k e h. each (suc k) e (omega arith)) n (omega arith)

content_positive : (d : Detail) → InLimits d → (c : Content) → ContentInLimits d c → IsPositive (scene_of d) c
content_positive d limits (Solid material) known = λ a. let some : 0 < get_or (map (λ m. m.lambda) d.materials) material 0 = conducts d.materials limits.conductivities material known in
    <ℚ-int (pos 0) (pos (get_or (map (λ m. m.lambda) d.materials) material 0)) (omega (arith, ints, some))
content_positive d limits (Air environment rs) known = let low : 1 ≤ rs = known.1.low in omega arith

pub boxes_positive : (d : Detail) → InLimits d → HasPositiveBoxes (scene_of d)
boxes_positive d limits k e within = content_positive d limits (get_or d.boxes k e).content (limits.boxes k e within).content

-- Environments --

content_known : (d : Detail) → InLimits d → (r : Refinement) (i j k : ℕ) (c : Content) → occupant (scene_of d) r i j k ≡ Some c → ContentInLimits d c
content_known d limits r i j k c is = content_of_box (scene_of d) r (ContentInLimits d) (λ k e within. (limits.boxes k e within).content) i j k c is

pub complements_on_meshes : (d : Detail) (r : Refinement) (inside others : Case) → InLimits d → AreComplements d inside others → AreComplementsOn (mesh (scene_of d) r) inside others
complements_on_meshes d r inside others limits complements a i j k e rs low hi hj hk is =
    complements e (surfaces_are_of_airs (λ e rs. e < length d.environments) (mesh (scene_of d) r) (λ i j k e rs at. (content_known d limits r i j k (Air e rs) at).0) a i j k e rs low is)
