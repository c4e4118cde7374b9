-- What a builder is seen as.
use Rattle.std.specs.Prelude.{Option}
use Rattle.tb_reading.specs.declared.draft.Draft.{Draft}
use Rattle.tb_reading.specs.declared.fault.DetailRefusal.{DetailRefusal}

-- the detail so far, and the refusal that was answered
pub record Progress : Type 0 where
  pub draft : Draft
  pub refusal : Option DetailRefusal
