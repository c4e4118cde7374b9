-- The text of a report: a record a line.
use Rattle.std.specs.Prelude.{◌==◌, ℕ, ◌++◌, List, [], map, length, nat_lt, codes, if◌then◌else◌, Option, Some, None, Result, Ok, Err}
use Rattle.std.specs.List.{flat_map}
use Rattle.tb_detail.specs.declared.Detail.{Detail}
use Rattle.tb_detail.specs.declared.Part.{Part}
use Rattle.tb_numbers.specs.Texts.{fixed_text}
use Rattle.tb_planar.specs.declared.PlanarU.{PlanarU}
use Rattle.tb_planar.specs.declared.RatioAbove.{RatioAbove}
use Rattle.tb_planar.specs.Printed.{answer}
use Rattle.tb_terms.specs.declared.Interval.{Interval}
use Rattle.tb_factors.specs.declared.extremes.Extremes.{Extremes}
use Rattle.tb_factors.specs.Factors.{extremes, surface_values}
use Rattle.tb_factors.specs.Joined.{joined}
use Rattle.tb_case_records.specs.declared.case.CaseProof.{CaseProof}
use Rattle.tb_case_records.specs.declared.ends.Verdict.{Verdict}
use Rattle.tb_case_records.specs.declared.ends.Verdict.TheVariants.{Done, GridLimit, SweepsSpent}
use Rattle.tb_bundle.specs.declared.bundle.Bundle.{Bundle}
use Rattle.tb_checker.specs.Texts.{name_of, set_name}
use Rattle.tb_report.specs.Ends.{ends_text}
use Rattle.tb_report.specs.Values.{chi_value, pair_interval, psi_value}

-- ---- cases

abbrev pub verdict_text : Verdict → List ℕ
verdict_text Done = codes ",done\n"
verdict_text GridLimit = codes ",grid\n"
verdict_text SweepsSpent = codes ",sweeps\n"

abbrev pub case_line : Detail → CaseProof → List ℕ
case_line d c = codes "case," ++ set_name d c.case.mask ++ ends_text c.interval ++ verdict_text c.verdict

-- ---- pairs, in W/(m·K) for one metre of a detail of dimension 2

abbrev pub coefficient_word : Detail → List ℕ
coefficient_word d = if d.dimension == 2 then codes "L2D," else codes "L3D,"

abbrev pub pair_line : Detail → List Interval → ℕ → ℕ → List ℕ
pair_line d intervals i j =
    (coefficient_word d ++ name_of d i ++ codes "," ++ name_of d j) ++ ends_text (pair_interval (length d.environments) intervals i j) ++ codes "\n"

-- each pair once, by the earlier environment, then by the later
abbrev pub pair_lines : Detail → List Interval → List ℕ
pair_lines d intervals = joined (length d.environments) (λ i. joined (length d.environments) (λ j. if nat_lt i j then pair_line d intervals i j else []))

-- ---- parts, linear and point transmittances

-- a word, a name and an interval
abbrev pub value_line : List ℕ → List ℕ → Interval → List ℕ
value_line word name value = (word ++ name) ++ ends_text value ++ codes "\n"

abbrev pub u_line : Part → Result PlanarU RatioAbove → List ℕ
u_line p (Ok v) = value_line (codes "U,") p.name (record { lo = v.u.lo; hi = v.u.hi })
u_line p (Err e) = []

abbrev pub u_lines : Detail → List ℕ
u_lines d = flat_map (λ p. u_line p (answer d p)) d.parts

abbrev pub psi_lines : Detail → List Interval → List ℕ
psi_lines d intervals = flat_map (λ p. value_line (codes "psi,") p.name (psi_value d intervals p)) d.psis

abbrev pub chi_lines : Detail → List Interval → List ℕ
chi_lines d intervals = flat_map (λ c. value_line (codes "chi,") c.name (chi_value d intervals c)) d.chis

-- ---- temperature factors, of which no bound is claimed

abbrev pub extremes_text : Option Extremes → List ℕ
extremes_text None = codes ",none,none"
extremes_text (Some x) = codes "," ++ fixed_text 8 x.least ++ codes "," ++ fixed_text 8 x.greatest

abbrev pub factor_line : Detail → CaseProof → ℕ → List ℕ
factor_line d c e =
    codes "factor," ++ set_name d c.case.mask ++ (codes "," ++ name_of d e) ++ extremes_text (extremes (surface_values d c.grid c.field e)) ++ codes ",grid value no bound\n"

abbrev pub factor_lines : Detail → CaseProof → List ℕ
factor_lines d c = joined (length d.environments) (factor_line d c)

-- ---- the whole

abbrev pub intervals_of : Bundle → List Interval
intervals_of b = map (λ c. c.interval) b.cases

-- what follows from the intervals of the cases
abbrev pub figure_lines : Detail → List Interval → List ℕ
figure_lines d intervals = pair_lines d intervals ++ u_lines d ++ psi_lines d intervals ++ chi_lines d intervals

abbrev pub report_text : Bundle → List ℕ
report_text b =
    codes "report,1\n"
    ++ flat_map (case_line b.detail) b.cases
    ++ figure_lines b.detail (intervals_of b)
    ++ flat_map (factor_lines b.detail) b.cases
    ++ codes "end\n"
