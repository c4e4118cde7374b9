-- The records behind the detail of a bundle: its cases in order, and the end.
use Rattle.std.specs.Prelude.{◌≡◌, ℕ, ◌+◌, ◌/◌, ◌%◌, ◌==◌, List, [], ◌∷◌, ◌++◌, length, drop, codes, nat_lt, Option, Some, None, if◌then◌else◌}
use Rattle.std.specs.Option.{option_or}
use Rattle.tb_places.specs.declared.AxisName.TheVariants.{X, Y, Z}
use Rattle.tb_detail.specs.declared.Detail.{Detail}
use Rattle.tb_detail.specs.declared.Environment.{Environment}
use Rattle.tb_detail.specs.Names.{Text}
use Rattle.tb_geometry.specs.Base.{base_lines}
use Rattle.tb_geometry.specs.Cases.{case_masks}
use Rattle.tb_reading.specs.Reading.{Numbered}
use Rattle.tb_case_records.specs.declared.case.CaseProof.{CaseProof}
use Rattle.tb_case_records.specs.declared.fault.BundleFault.{BundleFault}
use Rattle.tb_case_records.specs.declared.fault.BundleFault.TheVariants as bundle
use Rattle.tb_case_records.specs.Ahead.{Ahead}
use Rattle.tb_case_records.specs.Cases.{CaseForm, case_of, case_table}
use Rattle.tb_case_records.specs.Table.{Exactly, Expected, IsPast, Never, first_fault}
use Rattle.tb_bundle.specs.declared.body.Body.{Body}

-- ---- the forms of the cases of a detail

-- the names of a set of environments, in order: the lowest bit of its number tells of the first one
abbrev pub names_of_set : ℕ → List Environment → List Text
names_of_set mask [] = []
names_of_set mask (e ∷ es) = if mask % 2 == 1 then e.name ∷ names_of_set (mask / 2) es else names_of_set (mask / 2) es

abbrev pub case_form : Detail → ℕ → ℕ → CaseForm
case_form d number mask = record {
  number = number;
  case = record { mask = mask };
  words = codes "case" ∷ names_of_set mask d.environments;
  x = base_lines X d.boxes;
  y = base_lines Y d.boxes;
  z = base_lines Z d.boxes;
}

-- the forms of cases with these sets, counted on from here
abbrev pub case_forms_from : Detail → ℕ → List ℕ → List CaseForm
case_forms_from d number [] = []
case_forms_from d number (mask ∷ masks) = case_form d number mask ∷ case_forms_from d (number + 1) masks

abbrev pub case_forms : Detail → List CaseForm
case_forms d = case_forms_from d 1 (case_masks (length d.environments))

-- the lines that a program has are the base lines of the detail
pub record HasBaseLines (b : Body) : Type 0 where
  pub on_x : b.x.now ≡ base_lines X b.detail.now.boxes
  pub on_y : b.y.now ≡ base_lines Y b.detail.now.boxes
  pub on_z : b.z.now ≡ base_lines Z b.detail.now.boxes

-- ---- all cases, one behind the other

-- the records behind a case
abbrev pub behind_case : CaseForm → List Numbered → List Numbered
behind_case f given = drop (length (case_table f given)) given

abbrev pub cases_table : List CaseForm → List Numbered → List Expected
cases_table [] given = []
cases_table (f ∷ fs) given = case_table f given ++ cases_table fs (behind_case f given)

abbrev pub cases_of : List CaseForm → List Numbered → List CaseProof
cases_of [] given = []
cases_of (f ∷ fs) given = case_of f given ∷ cases_of fs (behind_case f given)

-- cases are read as their records say
pub record AreCases (fs : List CaseForm) (old new : Ahead) (cs : List CaseProof) : Type 0 where
  pub past : IsPast (cases_table fs old.ahead) old new
  pub said : cs ≡ cases_of fs old.ahead

-- ---- the whole

abbrev pub end_table : List Expected
end_table = Exactly (codes "end" ∷ []) ∷ []

-- a detail with fewer than two environments has no case, and no record is right behind it
abbrev pub body_table : Detail → List Numbered → List Expected
body_table d given = if nat_lt (length d.environments) 2 then Never ∷ [] else cases_table (case_forms d) given ++ end_table

-- a record behind the end
abbrev pub extra_fault : List Numbered → Option BundleFault
extra_fault [] = None
extra_fault (r ∷ given) = Some (bundle.Shape r.0)

-- the first fault of the records behind the cases
abbrev pub end_fault : List Numbered → Option BundleFault
end_fault given = option_or (first_fault end_table given) (extra_fault (drop 1 given))

-- the first fault of the records behind the detail
abbrev pub body_fault : Detail → List Numbered → Option BundleFault
body_fault d given = option_or (first_fault (body_table d given) given) (extra_fault (drop (length (body_table d given)) given))

-- these are the cases of records without a fault
pub record IsBody (d : Detail) (given : List Numbered) (cs : List CaseProof) : Type 0 where
  pub faultless : body_fault d given ≡ None
  pub said : cs ≡ cases_of (case_forms d) given
