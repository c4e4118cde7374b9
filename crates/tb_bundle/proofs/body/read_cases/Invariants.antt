use Rattle.std.proofs.Common.{◌≡◌, ◌+◌, ◌++◌, drop}
use Rattle.tb_case_records.specs.declared.fault.BundleRefusal.{BundleRefusal}
use Rattle.tb_bundle.specs.Bodies.{case_forms_from, cases_of, cases_table}
use Rattle.tb_case_records.specs.Ahead.{Ahead}
use Rattle.tb_case_records.specs.Table.{IsPast, Stops}
use Rattle.tb_bundle.proofs.body.read_cases.Given as goal

abbrev pub invariant-loop-at : goal.invariant-loop-at
invariant-loop-at l = record {
  stops : (e : BundleRefusal) → Stops (cases_table (case_forms_from l.body.detail.now (l.at + 1) (drop l.at l.masks)) l.reader.ahead) l.reader e
      → Stops (cases_table (case_forms_from l.body.detail.now 1 l.masks) l.initial.reader.ahead) l.initial.reader e;
  past : (new : Ahead) → IsPast (cases_table (case_forms_from l.body.detail.now (l.at + 1) (drop l.at l.masks)) l.reader.ahead) l.reader new
      → IsPast (cases_table (case_forms_from l.body.detail.now 1 l.masks) l.initial.reader.ahead) l.initial.reader new;
  said : l.proofs.items ++ cases_of (case_forms_from l.body.detail.now (l.at + 1) (drop l.at l.masks)) l.reader.ahead
      ≡ cases_of (case_forms_from l.body.detail.now 1 l.masks) l.initial.reader.ahead;
}
