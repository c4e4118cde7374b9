-- A bundle that is the reading of records is within limits.
use Rattle.std.proofs.Common.{◌≡◌, refl, subst, List, drop, Option, Some, None, Result, Ok, Err}
use Rattle.tb_detail.specs.declared.Detail.{Detail}
use Rattle.tb_reading.proofs.Within.{read_in_limits}
use Rattle.tb_reading.specs.declared.fault.DetailFault.{DetailFault}
use Rattle.tb_reading.specs.Reading.{Numbered}
use Rattle.tb_reading.specs.Records.{Row, unless}
use Rattle.tb_case_records.specs.declared.fault.BundleFault.{BundleFault}
use Rattle.tb_case_records.specs.Ahead.{Ahead, all_ahead}
use Rattle.tb_bundle.specs.declared.bundle.Bundle.{Bundle}
use Rattle.tb_bundle.specs.Bodies.{body_fault, case_forms, cases_of}
use Rattle.tb_bundle.specs.Bundles.{behind_head, bundle_reading, head_fault, with_detail, with_head}
use Rattle.tb_bundle.specs.Details.{body_part, detail_ahead}
use Rattle.tb_bundle.specs.Limits.{BundleInLimits}
use Rattle.tb_bundle.proofs.GoodBundle.{within}
use Rattle.tb_bundle.proofs.Wholes.{read_limits}

-- what holds where a reading gives this bundle
abbrev Gives : Result Bundle BundleFault → Type 0
Gives (Ok b) = BundleInLimits b
Gives (Err f) = Unit {0}

module _ (a : Ahead) where
  abbrev given : List Numbered
  given = body_part (drop 1 a.ahead)

  by_fault : (d : Detail) → detail_ahead (behind_head a) ≡ Ok d → (o : Option BundleFault) → body_fault d given ≡ o
      → Gives (unless o (let b : Bundle = record { detail = d; cases = cases_of (case_forms d) given } in b))
  by_fault d read (Some f) e = tt
  by_fault d read None e =
      within d given (cases_of (case_forms d) given) (read_limits read_in_limits (behind_head a) d read) (record { faultless = e; said = refl })

  by_detail : (r : Result Detail DetailFault) → detail_ahead (behind_head a) ≡ r → Gives (with_detail given r)
  by_detail (Err f) read = tt
  by_detail (Ok d) read = by_fault d read (body_fault d given) refl

  by_head : (o : Option BundleFault) → Gives (with_head o a)
  by_head (Some f) = tt
  by_head None = by_detail (detail_ahead (behind_head a)) refl

pub read_within : (rows : List Row) (b : Bundle) → bundle_reading rows ≡ Ok b → BundleInLimits b
unfolding bundle_reading
read_within rows b h = subst (λ (r : Result Bundle BundleFault). Gives r) h (by_head (all_ahead rows) (head_fault (all_ahead rows).ahead))
