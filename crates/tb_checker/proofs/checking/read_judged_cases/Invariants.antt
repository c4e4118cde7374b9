use Rattle.std.proofs.Common.{◌+◌, ◌++◌, List, drop}
use Rattle.tb_case_records.specs.declared.case.CaseProof.{CaseProof}
use Rattle.tb_case_records.specs.Ahead.{Ahead}
use Rattle.tb_bundle.specs.Bodies.{case_forms_from}
use Rattle.tb_checker.specs.declared.fault.CheckRefusal.{CheckRefusal}
use Rattle.tb_checker.specs.Faults.{AreFaultless, Finds, OfCases}
use Rattle.tb_checker.proofs.checking.read_judged_cases.Given as goal

-- what is found in the cases that are left is found in all, and where all of them are read they are
abbrev pub invariant-loop-at : goal.invariant-loop-at
invariant-loop-at l = record {
  finds : (e : CheckRefusal) → Finds (OfCases l.body (case_forms_from l.body (l.at + 1) (drop l.at l.masks)) l.reader.ahead) e
      → Finds (OfCases l.body (case_forms_from l.body 1 l.masks) l.initial.reader.ahead) e;
  reads : (new : Ahead) (cs : List CaseProof) → AreFaultless l.body (case_forms_from l.body (l.at + 1) (drop l.at l.masks)) l.reader new cs
      → AreFaultless l.body (case_forms_from l.body 1 l.masks) l.initial.reader new (l.proofs.items ++ cs);
}
