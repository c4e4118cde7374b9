-- What is printed of a bundle: a line for each case of one without a fault, or one line for its first fault.
use Rattle.std.specs.Prelude.{◌==◌, ℕ, zero, suc, ◌%◌, ◌^◌, ◌++◌, List, [], length, slice_index_or, codes, decimal, if◌then◌else◌}
use Rattle.std.specs.List.{flat_map}
use Rattle.tb_detail.specs.declared.Detail.{Detail}
use Rattle.tb_model.specs.Values.{case_of}
use Rattle.tb_numbers.specs.Texts.{fixed_text}
use Rattle.tb_terms.specs.declared.Interval.{Interval}
use Rattle.tb_geometry.specs.FaultTexts as body
use Rattle.tb_case_records.specs.FaultTexts as records
use Rattle.tb_case_records.specs.declared.case.CaseProof.{CaseProof}
use Rattle.tb_bundle.specs.declared.bundle.Bundle.{Bundle}
use Rattle.tb_checker.specs.declared.fault.CheckFault.{CheckFault}
use Rattle.tb_checker.specs.declared.fault.CheckFault.TheVariants as check

-- ---- a bundle without a fault

abbrev pub name_of : Detail → ℕ → List ℕ
name_of d e = (slice_index_or d.environments e (record { name = [] })).name

-- the name of an environment, where it is in a set, behind a plus where another one of the set comes before it
abbrev pub name_in_set : Detail → ℕ → ℕ → List ℕ
name_in_set d set e = if case_of set e then (if set % 2 ^ e == 0 then [] else codes "+") ++ name_of d e else []

abbrev pub names_up_to : Detail → ℕ → ℕ → List ℕ
names_up_to d set zero = []
names_up_to d set (suc e) = names_up_to d set e ++ name_in_set d set e

-- the names of the environments of a set, in order, with a plus between them
abbrev pub set_name : Detail → ℕ → List ℕ
set_name d set = names_up_to d set (length d.environments)

-- the two ends in fW/K, with a separator between them
abbrev pub ends_text : List ℕ → Interval → List ℕ
ends_text separator i = fixed_text 0 i.lo ++ separator ++ fixed_text 0 i.hi

-- the environments of a case, and its interval
abbrev pub accepted_line : Detail → CaseProof → List ℕ
accepted_line d c = codes "accepted," ++ set_name d c.case.mask ++ (codes "," ++ ends_text (codes ",") c.interval ++ codes "\n")

abbrev pub accepted_lines : Bundle → List ℕ
accepted_lines b = flat_map (accepted_line b.detail) b.cases

abbrev pub accepted_text : Bundle → List ℕ
accepted_text b = accepted_lines b ++ codes "end\n"

-- ---- a fault

-- the fault, and its place: the case, and the face or the cell; what leaves the cell; the ends that are claimed, and those
-- that were found
abbrev pub fault_text : CheckFault → List ℕ
fault_text (check.Bundle f) = records.fault_text f
fault_text (check.Body f) = body.fault_text f
fault_text (check.OuterFlux n face) = codes "refused,OuterFlux,case " ++ decimal n ++ codes " face " ++ decimal face.0 ++ codes "\n"
fault_text (check.Unbalanced n cell sum) = codes "refused,Unbalanced,case " ++ decimal n ++ codes " cell " ++ decimal cell.0 ++ codes " sum " ++ fixed_text 0 sum ++ codes "\n"
fault_text (check.SumPastLimit n) = codes "refused,SumPastLimit,case " ++ decimal n ++ codes "\n"
fault_text (check.IntervalDiffers n claimed found) =
    codes "refused,IntervalDiffers,case " ++ decimal n ++ codes " claimed " ++ ends_text (codes " ") claimed ++ codes " found " ++ ends_text (codes " ") found ++ codes "\n"
fault_text (check.VerdictDiffers n) = codes "refused,VerdictDiffers,case " ++ decimal n ++ codes "\n"
