-- What the words of a run mean.
use Rattle.std.specs.Prelude.{◌≡◌, ◌≤◌, ℕ, Bool, true, false, List, Some, codes, slice_get}
use Rattle.clap.specs.Words.{new_app}
use Rattle.tb_options.specs.Options.{AreWithin, HasMatches, IsReading, IsStoreyReading}
use Rattle.tb_options.specs.declared.SolveOptions.{SolveOptions}
use Rattle.thermal_cli.specs.declared.words.Command.{Command}
use Rattle.thermal_cli.specs.declared.words.Command.TheVariants.{Check, Report, Solve, UValue, Demo}

-- this is the first word
abbrev pub IsFirstWord : List ℕ → List (List ℕ) → Type 0
IsFirstWord word words = slice_get words 0 ≡ Some word

-- the words name a command that takes nothing: its name comes first, and clap has matches of them
abbrev pub NamesAlone : List ℕ → List (List ℕ) → Type 0
NamesAlone name words = IsFirstWord name words × HasMatches (new_app name) words

-- the words name this command: a command that takes nothing, `solve` with the options that they give, or `demo` with
-- their number of storeys
abbrev pub Names : List (List ℕ) → Command → Type 0
Names words Check = NamesAlone (codes "check") words
Names words Report = NamesAlone (codes "report") words
Names words (Solve options) = IsFirstWord (codes "solve") words × IsReading words options
Names words UValue = NamesAlone (codes "uvalue") words
Names words (Demo storeys) = IsFirstWord (codes "demo") words × IsStoreyReading words storeys

-- the words name a command
abbrev pub HasReading : List (List ℕ) → Type 0
HasReading words = (c : Command) × Names words c

-- the words are `solve` with options
abbrev pub NamesSolve : List (List ℕ) → Type 0
NamesSolve words = (o : SolveOptions) × Names words (Solve o)

-- the words are `demo` with a number
abbrev pub NamesDemo : List (List ℕ) → Type 0
NamesDemo words = (storeys : ℕ) × Names words (Demo storeys)

-- whether a command reads its input
abbrev pub reads_input : Command → Bool
reads_input (Demo storeys) = false
reads_input c = true

-- the words name a command that reads its input
abbrev pub NamesReader : List (List ℕ) → Type 0
NamesReader words = (c : Command) × Names words c × (reads_input c ≡ true)

-- what words give a command is in its range
abbrev pub HasRanges : Command → Type 0
HasRanges Check = Unit {0}
HasRanges Report = Unit {0}
HasRanges (Solve options) = AreWithin options
HasRanges UValue = Unit {0}
HasRanges (Demo storeys) = (1 ≤ storeys) × (storeys ≤ 16)
