-- What is written, and telling it.
use Rattle.std.specs.Prelude.{◌≡◌, ◌⊎◌, ℕ, List, Option}
use Rattle.tb_outside.specs.Faults.{Rose, Stands}
use Rattle.tb_outside.specs.Outside.{Adds, WritesFront}
use Rattle.thermal_cli.specs.declared.status.Status.{Status}
use Rattle.thermal_cli.specs.declared.status.Status.TheVariants.{SinkFault}

-- a text, and the status that goes with it
pub record Message : Type 0 where
  pub text : List ℕ
  pub status : Status

-- The whole text was written, and the status is its own. Or the sink failed, and a front of the text was written. The
-- sink is told by the bytes that it holds and by its count of faults.
abbrev pub Tells : {K : Type 0} → (K → Option (List ℕ)) → (K → ℕ) → Message → (old new : K) → Status → Type 0
Tells holds faults m old new s =
    ((s ≡ m.status) × Adds (holds old) (holds new) m.text × Stands (faults old) (faults new))
    ⊎ ((s ≡ SinkFault) × WritesFront (holds old) (holds new) m.text × Rose (faults old) (faults new))
