use Rattle.std.proofs.Common.{sym, ap, ◌∷◌, [], length, arith, length-append, inl, inr}
use Rattle.std.proofs.lemmas.List.{drop_all}
use Rattle.csv.specs.Records.{fields_of}
use Rattle.tb_reading.specs.NameLists.{names_in}
use Rattle.tb_reading.proofs.Fields.{drop_no_field, ended, fault_here, next_faults, next_said}
use Rattle.tb_reading.proofs.records.read_fields.Goals as goal
use Rattle.tb_reading.proofs.records.read_fields.Goals.{else-loop-at-test, then-loop-at-test+in_default}

pub returns-in-Err : goal.returns-in-Err
returns-in-Err c = fault_here (names_in c.args.names.now) c.args.rules.now (fields_of c.args.row.now) c.loop-at.at c.loop-at.before c.in-Some.text.now c.loop-at-test.true c.in-Some.ensures.value _ _ c.in-Err.kind c.in-Err.ensures c.loop-at.invariant.faults

pub loop-at-preserved : goal.loop-at-preserved
loop-at-preserved c = record {
  as_many = (let e = ap length c.push.ensures in let l = length-append c.loop-at.values (c.in-Ok.value ∷ []) in let n = c.loop-at.invariant.as_many in omega arith);
  said = next_said (names_in c.args.names.now) c.args.rules.now (fields_of c.args.row.now) c.loop-at.at c.loop-at.before c.in-Some.text.now c.loop-at-test.true c.in-Some.ensures.value c.loop-at.values c.push.new.self _ c.in-Ok.value c.in-Ok.ensures c.push.ensures c.loop-at.invariant.said;
  faults = next_faults (names_in c.args.names.now) c.args.rules.now (fields_of c.args.row.now) c.loop-at.at c.loop-at.before c.in-Some.text.now c.loop-at-test.true c.in-Some.ensures.value _ c.in-Ok.value c.in-Ok.ensures c.loop-at.invariant.faults;
}

pub returns : goal.returns
returns c = ended (names_in c.args.names.now) c.args.rules.now (fields_of c.args.row.now) c.loop-at.at c.loop-at.before c.loop-at.values _ _
    (elim c.loop-at-test.branch [
      | else-loop-at-test w ↦ inl (drop_all c.loop-at.at c.args.rules.now w.loop-at-test.false)
      | then-loop-at-test+in_default w ↦ inr (drop_no_field (fields_of c.args.row.now) c.loop-at.at (sym w.in_default.ensures.value))
    ]) c.loop-at.invariant.said c.loop-at.invariant.faults
