-- The first fault of a bundle: what is asked of it in turn, as conditions on the records of its text.
use Rattle.std.specs.Prelude.{◌≡◌, ◌⊎◌, ℕ, ℤ, List, [], ◌∷◌, length, drop, Option, Some, None, option_map, Result, Ok, Err}
use Rattle.tb_detail.specs.declared.Detail.{Detail}
use Rattle.tb_grid.specs.declared.ids.CellId.{CellId}
use Rattle.tb_grid.specs.declared.ids.FaceId.{FaceId}
use Rattle.tb_model.specs.Faults.{IsFirstOuter, IsFirstUnbalanced}
use Rattle.tb_geometry.specs.Faults.{HasFault, IsAccepted}
use Rattle.tb_terms.specs.declared.Interval.{Interval}
use Rattle.tb_flux.specs.Fluxes.{KeepsHeat, ShutsOff}
use Rattle.tb_reading.specs.Reading.{Numbered}
use Rattle.tb_reading.specs.Records.{Row}
use Rattle.tb_reading.specs.declared.fault.DetailFault.{DetailFault}
use Rattle.tb_case_records.specs.declared.case.CaseProof.{CaseProof}
use Rattle.tb_case_records.specs.declared.fault.BundleFault.{BundleFault}
use Rattle.tb_case_records.specs.declared.fault.BundleFault.TheVariants as bundle
use Rattle.tb_case_records.specs.Ahead.{Ahead, all_ahead}
use Rattle.tb_case_records.specs.Cases.{CaseForm, IsCase, case_of, case_table}
use Rattle.tb_case_records.specs.Table.{first_fault}
use Rattle.tb_bundle.specs.declared.bundle.Bundle.{Bundle}
use Rattle.tb_bundle.specs.Bodies.{AreCases, behind_case, case_forms, cases_of, cases_table, end_fault}
use Rattle.tb_bundle.specs.Bundles.{behind_head, bundle_reading, head_fault, reading_ahead}
use Rattle.tb_bundle.specs.Details.{body_part, detail_ahead}
use Rattle.tb_checker.specs.Contents.{HasEnds, IsJudgedRightly, ends_of, flux_in, mesh_of}
use Rattle.tb_checker.specs.declared.fault.CheckFault.{CheckFault}
use Rattle.tb_checker.specs.declared.fault.CheckFault.TheVariants as check
use Rattle.tb_checker.specs.declared.fault.CheckRefusal.{CheckRefusal}
use Rattle.tb_checker.specs.declared.fault.CheckRefusal.TheVariants as refusal

-- ---- conditions

-- A condition on a bundle: whether it finds this fault, or none
abbrev pub Condition : Type 1
Condition = Option CheckFault → Type 0

-- all is right, or else this fault is found
abbrev pub Or : Type 0 → CheckFault → Condition
Or Right f None = Right
Or Right f (Some g) = (¬ Right) × (g ≡ f)

-- all is right, or else the fault at such a place is found
abbrev pub OrAt : {A : Type 0} → Type 0 → (A → Type 0) → (A → CheckFault) → Condition
OrAt Right Wrong told None = Right
OrAt {A} Right Wrong told (Some f) = (a : A) × Wrong a × (f ≡ told a)

-- the records have this fault, or none
abbrev pub Records : Option BundleFault → Condition
Records o found = found ≡ option_map check.Bundle o

-- the fault of the first of two conditions, or where it finds none that of the second
abbrev pub InTurn : Condition → Condition → Condition
InTurn First Second None = First None × Second None
InTurn First Second (Some f) = First (Some f) ⊎ (First None × Second (Some f))

-- ---- what is asked in turn

-- of the claims of a case, where these are the ends of its field and its flux: that they are its interval, and that its
-- verdict says whether that is narrow enough
abbrev pub OfClaims : ℕ → CaseProof → Interval → Condition
OfClaims n c found = InTurn (Or (c.interval ≡ found) (check.IntervalDiffers n c.interval found)) (Or (IsJudgedRightly c) (check.VerdictDiffers n))

-- of the ends of its field and its flux: that there are such, and that they are what it claims
abbrev pub OfEnds : Detail → ℕ → CaseProof → Condition
OfEnds d n c = InTurn (Or (HasEnds d c) (check.SumPastLimit n)) (OfClaims n c (ends_of d c))

-- of what a case says: that nothing passes an adiabatic face, that nothing is lost in a solid cell, and of its ends
unfoldable pub OfCase : Detail → ℕ → CaseProof → Condition
OfCase d n c =
    InTurn (OrAt (ShutsOff (mesh_of d c) (flux_in c)) (λ (face : FaceId). IsFirstOuter (mesh_of d c) (flux_in c) face.0) (λ face. check.OuterFlux n face))
    (InTurn (OrAt (KeepsHeat (mesh_of d c) (flux_in c)) (λ (cell : CellId × ℤ). IsFirstUnbalanced (mesh_of d c) (flux_in c) cell.0.0 cell.1) (λ cell. check.Unbalanced n cell.0 cell.1))
    (OfEnds d n c))

-- of a case by its records, and then of what they say
abbrev pub OfOne : Detail → CaseForm → List Numbered → Condition
OfOne d f given = InTurn (Records (first_fault (case_table f given) given)) (OfCase d f.number (case_of f given))

-- of cases in order
abbrev pub OfCases : Detail → List CaseForm → List Numbered → Condition
OfCases d [] given = Records None
OfCases d (f ∷ fs) given = InTurn (OfOne d f given) (OfCases d fs (behind_case f given))

-- the records behind the cases
abbrev pub behind_cases : Detail → List Numbered → List Numbered
behind_cases d given = drop (length (cases_table (case_forms d) given)) given

-- of the records behind a detail: of its cases, and of the end
abbrev pub OfBody : Detail → List Numbered → Condition
OfBody d given = InTurn (OfCases d (case_forms d) given) (Records (end_fault (behind_cases d given)))

-- of the detail, as records and as a body, and of the records behind it
abbrev pub OfDetail : List Numbered → Result Detail DetailFault → Condition
OfDetail given (Err f) = Records (Some (bundle.Detail f))
OfDetail given (Ok d) = InTurn (OrAt (IsAccepted d) (HasFault d) check.Body) (OfBody d given)

-- of the head, and of all behind it
abbrev pub OfBundle : Ahead → Condition
OfBundle a = InTurn (Records (head_fault a.ahead)) (OfDetail (body_part (drop 1 a.ahead)) (detail_ahead (behind_head a)))

-- these records are a bundle with this first fault, or without a fault
unfoldable pub FirstFault : List Row → Condition
FirstFault rows = OfBundle (all_ahead rows)

-- ---- what is answered

-- a refusal tells the fault that a condition finds, or that memory ran out
abbrev pub Finds : Condition → CheckRefusal → Type 0
Finds Asked (refusal.Fault f) = Asked (Some f)
Finds Asked refusal.NoMemory = Unit {0}

-- a case was read, and has no fault
pub record IsFaultless (d : Detail) (f : CaseForm) (old new : Ahead) (c : CaseProof) : Type 0 where
  pub read : IsCase f old new c
  pub right : OfCase d f.number c None

-- cases were read, and have no fault
pub record AreFaultless (d : Detail) (fs : List CaseForm) (old new : Ahead) (cs : List CaseProof) : Type 0 where
  pub read : AreCases fs old new cs
  pub right : OfCases d fs old.ahead None

-- the records behind a detail have no fault, and are these cases
pub record IsFaultlessBody (d : Detail) (given : List Numbered) (cs : List CaseProof) : Type 0 where
  pub cases : first_fault (cases_table (case_forms d) given) given ≡ None
  pub said : cs ≡ cases_of (case_forms d) given
  pub right : OfCases d (case_forms d) given None
  pub ended : end_fault (behind_cases d given) ≡ None

-- so do those of a detail whose body is accepted
pub record IsFaultlessDetail (d : Detail) (given : List Numbered) (cs : List CaseProof) : Type 0 where
  pub accepted : IsAccepted d
  pub body : IsFaultlessBody d given cs

-- the bundle of the records ahead, which has no fault, or its first fault, unless memory ran out
abbrev pub AnswersAhead : Ahead → Result Bundle CheckRefusal → Type 0
AnswersAhead a (Ok b) = OfBundle a None × (reading_ahead a ≡ Ok b)
AnswersAhead a (Err e) = Finds (OfBundle a) e

-- the bundle of the records, which has no fault, or its first fault, unless memory ran out
abbrev pub Answers : List Row → Result Bundle CheckRefusal → Type 0
Answers rows (Ok b) = FirstFault rows None × (bundle_reading rows ≡ Ok b)
Answers rows (Err e) = Finds (FirstFault rows) e
