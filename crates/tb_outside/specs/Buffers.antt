-- Texts that go into a sink through a buffer. A buffer is seen as the bytes that wait in it, or as None once the sink has failed.
use Rattle.std.specs.Prelude.{◌≡◌, ◌++◌, ℕ, List, [], Option, Some, None, Result, Ok, Err}
use Rattle.tb_outside.specs.Faults.{Rose, Stands}
use Rattle.tb_outside.specs.Outside.{Adds, WritesFront}

-- the text was appended, all but its rest
abbrev pub WritesAllBut : Option (List ℕ) → Option (List ℕ) → List ℕ → List ℕ → Type 0
WritesAllBut old new text rest = (written : List ℕ) × (text ≡ written ++ rest) × Adds old new written

-- What putting a text into a buffer did. What waited and the text went into the sink, all but what waits now; or the sink failed on the way, and a front of them went. After a fault the sink isn't called any more, and the buffer keeps the fault.
abbrev pub IsGathered : {K : Type 0} → (K → Option (List ℕ)) → (K → ℕ) → K → K → Option (List ℕ) → List ℕ → Option (List ℕ) → Type 0
IsGathered holds faults old new (Some waiting) text (Some rest) =
    WritesAllBut (holds old) (holds new) (waiting ++ text) rest × Stands (faults old) (faults new)
IsGathered holds faults old new (Some waiting) text None =
    WritesFront (holds old) (holds new) (waiting ++ text) × Rose (faults old) (faults new)
IsGathered holds faults old new None text None = new ≡ old
IsGathered holds faults old new None text (Some rest) = ⊥

-- the same as a record, whose parts lemmas find: the sink, told by what it holds and how often it failed, and the buffer, each before and after
pub record Gathers {K : Type 0} (holds : K → Option (List ℕ)) (faults : K → ℕ) (old new : K) (before : Option (List ℕ)) (text : List ℕ) (after : Option (List ℕ)) : Type 0 where
  pub gathered : IsGathered holds faults old new before text after

-- a flush that went well left nothing waiting, and one that failed left the fault
abbrev pub TellsBuffer : {E : Type 0} → Option (List ℕ) → Result (Unit {0}) E → Type 0
TellsBuffer after (Ok u) = after ≡ Some []
TellsBuffer after (Err e) = after ≡ None
