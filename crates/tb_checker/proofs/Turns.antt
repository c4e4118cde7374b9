-- Conditions in turn.
use Rattle.std.proofs.Common.{Option, Some, None, inl, inr}
use Rattle.tb_checker.specs.declared.fault.CheckFault.{CheckFault}
use Rattle.tb_checker.specs.declared.fault.CheckRefusal.{CheckRefusal}
use Rattle.tb_checker.specs.declared.fault.CheckRefusal.TheVariants as refusal
use Rattle.tb_checker.specs.Faults.{Condition, Finds, InTurn}

module _ (First Second : Condition) where
  pub by_first : (e : CheckRefusal) → Finds First e → Finds (InTurn First Second) e
  by_first (refusal.Fault f) h = inl h
  by_first refusal.NoMemory h = tt

  pub second_found : (o : Option CheckFault) → First None → Second o → InTurn First Second o
  second_found None right h = (right, h)
  second_found (Some f) right h = inr (right, h)

  pub by_second : (e : CheckRefusal) → First None → Finds Second e → Finds (InTurn First Second) e
  by_second (refusal.Fault f) right h = inr (right, h)
  by_second refusal.NoMemory right h = tt
