-- Refinements with more lines, and with all coordinates multiplied.
use Rattle.std.specs.Prelude.{◌≡◌, ℕ, ◌*◌, List, [], ◌∷◌, map}
use Rattle.tb_places.specs.declared.AxisName.{AxisName}
use Rattle.tb_model.specs.Mesh.{Mesh}
use Rattle.tb_model.specs.Refinement.{Refinement}
use Rattle.tb_model.specs.Energy.{Case, Field, Flux, IsBalanced, energy, bound}
use Rattle.tb_places.specs.Cuts.{on_axis}
use Rattle.tb_places.specs.Lines.{with_line}

-- a rising list with all lines of another
abbrev pub with_lines : List ℕ → List ℕ → List ℕ
with_lines [] xs = xs
with_lines (y ∷ ys) xs = with_lines ys (with_line y xs)

-- other lines on one axis
abbrev pub relined : AxisName → List ℕ → Refinement → Refinement
relined a ys r = record { scale = r.scale; lines = λ b. on_axis a b ys (r.lines b) }

-- scale and lines multiplied: each line stands where it stood
abbrev pub rescaled : ℕ → Refinement → Refinement
rescaled k r = record { scale = k * r.scale; lines = λ a. map (λ x. k * x) (r.lines a) }

-- the lines of both, in the scale of the second
abbrev pub joined : Refinement → Refinement → Refinement
joined r' r = record { scale = r.scale; lines = λ a. with_lines (r'.lines a) (r.lines a) }

-- the merge of two: the product of the scales, and all lines of both
abbrev pub merged : Refinement → Refinement → Refinement
merged r r' = joined (rescaled r.scale r') (rescaled r'.scale r)

-- Each field of the first mesh has one of the same energy on the second, whatever the case, and each flux one of the
-- same bound, balanced where it is.
pub record Carries (m m' : Mesh) : Type 0 where
  pub field : Field → Field
  pub field_same : (inside : Case) (T : Field) → energy m' inside (field T) ≡ energy m inside T
  pub flux : Flux → Flux
  pub flux_balanced : (q : Flux) → IsBalanced m q → IsBalanced m' (flux q)
  pub flux_same : (inside : Case) (q : Flux) → bound m' inside (flux q) ≡ bound m inside q
