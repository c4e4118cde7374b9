-- What is asked of a case of a bundle, once its records have no fault: of its flux, its interval and its verdict.
use Rattle.std.specs.Prelude.{◌≡◌, ◌↔◌, ◌*◌, ◌^◌, ◌≤◌, ℤ, pos, ◌-ℤ◌, ◌≤ℤ◌, All}
use Rattle.tb_detail.specs.declared.Detail.{Detail}
use Rattle.tb_model.specs.Energy as model
use Rattle.tb_model.specs.Energy.{IsBalanced, flux_terms, lower_end, rounded_up, upper_end}
use Rattle.tb_model.specs.Mesh.{Mesh}
use Rattle.tb_model.specs.Refinement.{scene_of}
use Rattle.tb_model.specs.Soundness.{IsSound}
use Rattle.tb_model.specs.Values.{case_of}
use Rattle.tb_geometry.specs.Faults.{IsAccepted}
use Rattle.tb_geometry.specs.Grids.{CarriesBody, mesh_on}
use Rattle.tb_terms.specs.declared.Interval.{Interval}
use Rattle.tb_grid.specs.Grid.{counts_of}
use Rattle.tb_field.specs.Fields.{AreTemperatures, FitsNodes, field_on}
use Rattle.tb_flux.specs.Fluxes.{AreFlows, FitsFaces, flux_on}
use Rattle.tb_case_records.specs.Limits.{IsEnd}
use Rattle.tb_case_records.specs.declared.case.CaseProof.{CaseProof}
use Rattle.tb_case_records.specs.declared.ends.Verdict.TheVariants.{Done}
use Rattle.tb_bundle.specs.declared.bundle.Bundle.{Bundle}
use Rattle.tb_bundle.specs.Limits.{BundleInLimits}

-- the mesh of a case, its environments, its field and its flux
abbrev pub mesh_of : Detail → CaseProof → Mesh
mesh_of d c = mesh_on d c.grid

abbrev pub inside_of : CaseProof → model.Case
inside_of c = case_of c.case.mask

abbrev pub field_in : CaseProof → model.Field
field_in c = field_on c.grid c.field

abbrev pub flux_in : CaseProof → model.Flux
flux_in c = flux_on c.grid c.flux

-- the loss of the flux, each term rounded up, in fW/K
abbrev pub rounded_loss : Detail → CaseProof → ℤ
rounded_loss d c = rounded_up (mesh_of d c) (flux_terms (mesh_of d c) (flux_in c))

-- the greatest loss of which a lower end is told: 2¹²⁰ fW/K
abbrev pub HasEnds : Detail → CaseProof → Type 0
HasEnds d c = rounded_loss d c ≤ℤ pos (2 ^ 120)

-- the two ends of the field and the flux
abbrev pub ends_of : Detail → CaseProof → Interval
ends_of d c = record {
  lo = lower_end (mesh_of d c) (inside_of c) (flux_in c);
  hi = upper_end (mesh_of d c) (inside_of c) (field_in c);
}

-- the interval is as narrow as was wanted; the width is in µW/K, which is 10⁹ fW/K
abbrev pub IsNarrow : CaseProof → Type 0
IsNarrow c = (c.interval.hi -ℤ c.interval.lo) ≤ℤ pos (c.width * 10 ^ 9)

-- the verdict says whether it is
abbrev pub IsJudgedRightly : CaseProof → Type 0
IsJudgedRightly c = (c.verdict ≡ Done) ↔ IsNarrow c

-- what is read of a case lets it be judged: its grid carries the body, its values are one for each node and face, and all is
-- within limits
pub record IsJudgeable (d : Detail) (c : CaseProof) : Type 0 where
  pub carries : CarriesBody c.grid d
  pub nodes : FitsNodes (counts_of c.grid) c.field
  pub temperatures : AreTemperatures c.field
  pub faces : FitsFaces (counts_of c.grid) c.flux
  pub flows : AreFlows c.flux
  pub low_end : IsEnd c.interval.lo
  pub high_end : IsEnd c.interval.hi
  pub width : c.width ≤ 10 ^ 9

-- A case without a fault: its interval is that of its field and its flux, which is balanced. So the interval is sound:
-- on every refinement of the body each field has an energy of at least the lower end, and each balanced flux a bound of
-- at most the upper end. The loss of the flux is within its limit
pub record IsCertifiedCase (d : Detail) (c : CaseProof) : Type 0 where
  pub carries : CarriesBody c.grid d
  pub balanced : IsBalanced (mesh_of d c) (flux_in c)
  pub loss : HasEnds d c
  pub ends : c.interval ≡ ends_of d c
  pub verdict : IsJudgedRightly c
  pub sound : IsSound (scene_of d) (inside_of c) c.interval.lo c.interval.hi

-- a bundle without a fault: it is within the limits of its format, its detail is a body, and so is each case
pub record AreCertified (b : Bundle) : Type 0 where
  pub limits : BundleInLimits b
  pub body : IsAccepted b.detail
  pub cases : All (IsCertifiedCase b.detail) b.cases
