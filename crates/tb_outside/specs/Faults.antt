-- What a call tells of the faults that were counted while it ran.
use Rattle.std.specs.Prelude.{◌≡◌, ◌⊎◌, ◌+◌, ◌-◌, ◌^◌, ◌<◌, ℕ, min, Result, Ok, Err}
use Rattle.tb_outside.specs.declared.source.InFault.{InFault}
use Rattle.tb_outside.specs.declared.source.InFault.TheVariants.{SourceFault, TooLong, NoMemory}

-- the last value of a count of faults or of calls, where it stays
abbrev pub last_count : ℕ
last_count = 2 ^ 64 - 1

-- one more
abbrev pub counted_up : ℕ → ℕ
counted_up count = min (count + 1) last_count

-- the count stands as before: nothing failed
abbrev pub Stands : ℕ → ℕ → Type 0
Stands before now = now ≡ before

-- the count rose, or stands at its last value: something failed
abbrev pub Rose : ℕ → ℕ → Type 0
Rose before now = (before < now) ⊎ ((before ≡ last_count) × (now ≡ last_count))

-- a call that went well met no fault, and one that failed met one
abbrev pub TellsFaults : {T E : Type 0} → ℕ → ℕ → Result T E → Type 0
TellsFaults before now (Ok x) = Stands before now
TellsFaults before now (Err e) = Rose before now

-- a reading to the end told SourceFault where a fault was met, and nowhere else
abbrev pub TellsSourceFault : {T : Type 0} → ℕ → ℕ → Result T InFault → Type 0
TellsSourceFault before now (Ok x) = Stands before now
TellsSourceFault before now (Err SourceFault) = Rose before now
TellsSourceFault before now (Err TooLong) = Stands before now
TellsSourceFault before now (Err NoMemory) = Stands before now

-- one more fault for a call that failed
abbrev pub faults_after : {T E : Type 0} → ℕ → Result T E → ℕ
faults_after before (Ok x) = before
faults_after before (Err e) = counted_up before
