-- Moves of a flux on a form of flows: what goes round an edge, where not every face counts.
use Rattle.std.specs.Prelude.{◌≡◌, ℕ, Bool, true, false, List, length, slice_set, ℤ, pos}
use Rattle.tb_places.specs.declared.AxisName.{AxisName}
use Rattle.tb_places.specs.declared.AxisName.TheVariants.{X, Y, Z}
use Rattle.tb_places.specs.declared.Place.{Place}
use Rattle.tb_places.specs.Places.{face_number, place_at, IsFace}
use Rattle.tb_model.specs.declared.FaceKind.{FaceKind}
use Rattle.tb_model.specs.declared.FaceKind.TheVariants.{Idle}
use Rattle.tb_weighted.specs.Flows.{FlowForms, Flows3, flow_energy}
use Rattle.tb_weighted.specs.Forms.{only_at}
use Rattle.tb_weighted.specs.Least.{IsNearestLeastOf}
use Rattle.tb_weighted.specs.Moves.{KeepsLimits, round_edge, value_at, with_multiple}

-- where a face counts, else nothing
abbrev pub counted : Bool → ℤ → ℤ
counted true x = x
counted false x = pos 0

-- a face of this kind counts
abbrev pub counts_as : FaceKind → Bool
counts_as Idle = false
counts_as _ = true

-- the loop of an edge: faces that don't count are left out
abbrev pub loop_where : (AxisName → ℕ → ℕ → ℕ → Bool) → AxisName → Place → Flows3
loop_where counts axis e a i j k = counted (counts a i j k) (round_edge axis e a i j k)

-- a list with a number put into its place, where that counts
abbrev pub put_where : Bool → List ℤ → ℕ → ℤ → List ℤ
put_where true xs i x = slice_set xs i x
put_where false xs i x = xs

-- a flow of 1 through one face: the face i of a line of cells, across its axis
abbrev pub through : AxisName → ℕ → ℕ → ℕ → Flows3
through X i j k X = only_at i j k
through Y i j k Y = only_at j i k
through Z i j k Z = only_at j k i
through _ i j k _ = λ x y z. pos 0

-- a multiple of a change is added: of the multiples within the limits that make the form least, the one nearest to 0
pub record IsFlowMoveBy (f : FlowForms) (change : Flows3) (multiple : ℤ) (old new : List ℤ) : Type 0 where
  pub least : IsNearestLeastOf (λ t. flow_energy f (with_multiple f.cells old change t)) (λ t. KeepsLimits f.cells (with_multiple f.cells old change t)) (pos 0) multiple
  pub faces : length new ≡ length old
  pub added : (a : AxisName) (i j k : ℕ) → IsFace f.cells a (place_at i j k) → value_at new (face_number f.cells a (place_at i j k)) ≡ with_multiple f.cells old change multiple a i j k

pub record IsFlowMove (f : FlowForms) (change : Flows3) (old new : List ℤ) : Type 0 where
  pub multiple : ℤ
  pub move : IsFlowMoveBy f change multiple old new
