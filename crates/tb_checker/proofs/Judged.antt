-- The first fault of what a case says.
use Rattle.std.proofs.Common.{refl, ℕ, ℤ, Option, Some, None, inl, inr}
use Rattle.tb_detail.specs.declared.Detail.{Detail}
use Rattle.tb_grid.specs.declared.ids.CellId.{CellId}
use Rattle.tb_grid.specs.declared.ids.FaceId.{FaceId}
use Rattle.tb_model.specs.Faults.{IsFirstOuter, IsFirstUnbalanced}
use Rattle.tb_flux.specs.Fluxes.{KeepsHeat, ShutsOff}
use Rattle.tb_case_records.specs.declared.case.CaseProof.{CaseProof}
use Rattle.tb_checker.specs.declared.fault.CheckFault.{CheckFault}
use Rattle.tb_checker.specs.declared.fault.CheckFault.TheVariants.{OuterFlux, Unbalanced}
use Rattle.tb_checker.specs.Contents.{flux_in, mesh_of}
use Rattle.tb_checker.specs.Faults.{OfCase, OfEnds}

module _ (d : Detail) (n : ℕ) (c : CaseProof) where
  pub passes_out : (face : FaceId) → IsFirstOuter (mesh_of d c) (flux_in c) face.0 → OfCase d n c (Some (OuterFlux n face))
  unfolding OfCase
  passes_out face h = inl (face, h, refl)

  pub loses : (cell : CellId) (sum : ℤ) → ShutsOff (mesh_of d c) (flux_in c) → IsFirstUnbalanced (mesh_of d c) (flux_in c) cell.0 sum → OfCase d n c (Some (Unbalanced n cell sum))
  unfolding OfCase
  loses cell sum shut h = inr (shut, inl ((cell, sum), h, refl))

  pub then_ends : (o : Option CheckFault) → ShutsOff (mesh_of d c) (flux_in c) → KeepsHeat (mesh_of d c) (flux_in c) → OfEnds d n c o → OfCase d n c o
  unfolding OfCase
  then_ends None shut keeps h = (shut, (keeps, h))
  then_ends (Some f) shut keeps h = inr (shut, inr (keeps, h))
