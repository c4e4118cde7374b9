-- The lists of records for which a builder stands.
use Rattle.std.specs.Prelude.{◌≡◌, ◌==◌, List, Option, Some, None, Result, Ok, Err, if◌then◌else◌}
use Rattle.tb_reading.specs.declared.draft.Draft.{Draft}
use Rattle.tb_reading.specs.declared.fault.DetailFault.{DetailFault}
use Rattle.tb_reading.specs.declared.fault.DetailKind.TheVariants.{NotFormat}
use Rattle.tb_reading.specs.declared.fault.DetailRefusal.{DetailRefusal}
use Rattle.tb_reading.specs.declared.fault.DetailRefusal.TheVariants as refusal
use Rattle.tb_reading.specs.Drafts.{Holds, Unit0}
use Rattle.tb_reading.specs.Progress.{Progress}
use Rattle.tb_reading.specs.Reading.{Numbered, bare_fault, first_record_fault, whole_fault}

-- what a draft and a refusal stand for: records without a fault, or records with this first fault
abbrev pub StandsAs : Option DetailRefusal → Draft → List Numbered → Type 0
StandsAs None draft given = (first_record_fault given ≡ None) × Holds draft given
StandsAs (Some (refusal.Fault f)) draft given = first_record_fault given ≡ Some f
StandsAs (Some refusal.NoMemory) draft given = Unit {0}

-- a builder stands for these records
abbrev pub Stands : Progress → List Numbered → Type 0
Stands b given = StandsAs b.refusal b.draft given

-- an answer tells this fault, or that there is none, unless memory ran out
abbrev pub Feeds : Result Unit0 DetailRefusal → Option DetailFault → Type 0
Feeds (Ok u) fault = fault ≡ None
Feeds (Err (refusal.Fault f)) fault = fault ≡ Some f
Feeds (Err refusal.NoMemory) fault = Unit {0}

-- a refusal is answered, and Ok where there is none
abbrev pub told_as : Option DetailRefusal → Result Unit0 DetailRefusal
told_as None = Ok tt
told_as (Some r) = Err r

-- the fault of a whole detail whose records have none
abbrev pub whole_fault_of : Draft → Option DetailFault
whole_fault_of d = if d.detail.dimension == 0 then Some (whole_fault NotFormat 1) else bare_fault d.part_numbers d.detail
