-- What a run tells: which text and which status belong to its words and to the bytes of its source.
use Rattle.std.specs.Prelude.{◌≡◌, ◌≤◌, ◌+◌, ◌⊎◌, ◌++◌, ℕ, List, [], Option, Ok, length, take, codes}
use Rattle.tb_outside.specs.Faults.{Rose, Stands}
use Rattle.tb_outside.specs.Limits.{most_input_bytes}
use Rattle.tb_outside.specs.Outside.{Adds, IsAtEnd, Takes, TakesAtMost, TakesExactly, WritesFront}
use Rattle.thermal_cli.specs.declared.answer.Answer.{Answer}
use Rattle.tb_bundle.specs.declared.bundle.Bundle.{Bundle}
use Rattle.tb_bundle_text.specs.Canonical.{bundle_text}
use Rattle.tb_checker.specs.Lines.{HasCertifiedLines}
use Rattle.tb_checker.specs.Texts.{accepted_text}
use Rattle.tb_detail.specs.declared.Detail.{Detail}
use Rattle.tb_options.specs.declared.SolveOptions.{SolveOptions}
use Rattle.thermal_cli.specs.declared.check.CheckAnswer.TheVariants.{Accepted}
use Rattle.thermal_cli.specs.declared.status.Status.{Status}
use Rattle.thermal_cli.specs.declared.status.Status.TheVariants as status
use Rattle.thermal_cli.specs.declared.told.Told.{Told}
use Rattle.thermal_cli.specs.declared.told.Told.TheVariants.{Usage, NoMemory, SourceFault, TooLong, Answered}
use Rattle.thermal_cli.specs.declared.words.Command.{Command}
use Rattle.thermal_cli.specs.declared.demo.DemoAnswer.{DemoAnswer}
use Rattle.thermal_cli.specs.declared.words.Command.TheVariants.{Demo}
use Rattle.thermal_cli.specs.Answers.{Answers, answer_message}
use Rattle.tb_report.specs.Sound.{HasSoundFigures}
use Rattle.tb_report.specs.Texts as report
use Rattle.thermal_cli.specs.Check.{Accepts, CheckAnswers, check_text}
use Rattle.thermal_cli.specs.Demo.{DemoAnswers, demo_status, demo_text}
use Rattle.thermal_cli.specs.Details.{detail_spelt}
use Rattle.thermal_cli.specs.Messages.{Message, Tells}
use Rattle.thermal_cli.specs.Solve.{IsAcceptedAs, IsSolvedTo, solved_status}
use Rattle.thermal_cli.specs.Words.{HasReading, Names, NamesReader}

-- ---- what is told

-- the source was read to its end, and gave these bytes
abbrev pub IsRead : (old new : Option (List ℕ)) → List ℕ → Type 0
IsRead old new bytes = Takes old new bytes × IsAtEnd new × (length bytes ≤ most_input_bytes)

-- These bytes were read by a command: `demo` reads none, and leaves the source as it is; every other command reads the
-- source to its end
abbrev pub Reads : {S : Type 0} → (S → Option (List ℕ)) → Command → (old new : S) → List ℕ → Type 0
Reads left (Demo storeys) old new bytes = (new ≡ old) × (bytes ≡ [])
Reads left c old new bytes = IsRead (left old) (left new) bytes

-- What is told belongs to the words, and to the source before and after, which is told by the bytes that are left and
-- by its count of faults. Memory may run out at any time; words that name no command that reads leave the source alone; a
-- fault of the source is told exactly where one was counted.
abbrev pub IsOutcome : {S : Type 0} → (S → Option (List ℕ)) → (S → ℕ) → (words : List (List ℕ)) (old new : S) → Told → Type 0
IsOutcome left faults words old new Usage = (¬ HasReading words) × (new ≡ old)
IsOutcome left faults words old new NoMemory = (NamesReader words ⊎ (new ≡ old)) × TakesAtMost (left old) (left new) (most_input_bytes + 1) × Stands (faults old) (faults new)
IsOutcome left faults words old new SourceFault = NamesReader words × TakesAtMost (left old) (left new) most_input_bytes × Rose (faults old) (faults new)
IsOutcome left faults words old new TooLong = NamesReader words × TakesExactly (left old) (left new) (most_input_bytes + 1) × Stands (faults old) (faults new)
IsOutcome left faults words old new (Answered a) =
    (c : Command) × Names words c × (bytes : List ℕ) × Reads left c old new bytes × Answers c bytes a × Stands (faults old) (faults new)

-- a command tells this of the bytes that it read: what it answers, or that memory ran out
abbrev pub TellsFrom : Command → List ℕ → Told → Type 0
TellsFrom c bytes (Answered a) = Answers c bytes a
TellsFrom c bytes NoMemory = Unit {0}
TellsFrom c bytes t = ⊥

-- its text and its status
abbrev pub told_message : Told → Message
told_message Usage = record { text = codes "refused,Usage\n"; status = status.Usage }
told_message NoMemory = record { text = codes "refused,NoMemory\n"; status = status.NoMemory }
told_message SourceFault = record { text = codes "refused,SourceFault\n"; status = status.SourceFault }
told_message TooLong = record { text = codes "refused,TooLong\n"; status = status.Refused }
told_message (Answered a) = answer_message a

-- A run: what is told is an outcome of the words and the source, and it was told.
abbrev pub Runs : {S K : Type 0} → (S → Option (List ℕ)) → (S → ℕ) → (K → Option (List ℕ)) → (K → ℕ) → (words : List (List ℕ)) (source_old source_new : S) (sink_old sink_new : K) → Status → Type 0
Runs left source_faults holds sink_faults words source_old source_new sink_old sink_new s =
    (t : Told) × IsOutcome left source_faults words source_old source_new t × Tells holds sink_faults (told_message t) sink_old sink_new s

-- ---- what a run promises, taken by itself

-- memory ran out, or the source or the sink failed
abbrev pub IsInterrupted : Status → Type 0
IsInterrupted s = (s ≡ status.NoMemory) ⊎ ((s ≡ status.SourceFault) ⊎ (s ≡ status.SinkFault))

-- a front was written of the text that belongs to the words and the bytes, or of the line of a source's fault where the
-- source failed, or of the line for want of memory
abbrev pub WritesFrontOfOne : {S : Type 0} → (S → Option (List ℕ)) → (S → ℕ) → (words : List (List ℕ)) (source_old source_new : S) (holds_old holds_new : Option (List ℕ)) → Type 0
WritesFrontOfOne left faults words source_old source_new holds_old holds_new =
    (t : Told) × IsOutcome left faults words source_old source_new t × WritesFront holds_old holds_new (told_message t).text

-- what a command answers to these bytes was written whole
abbrev pub TellsOf : Command → List ℕ → (holds_old holds_new : Option (List ℕ)) → Status → Type 0
TellsOf c bytes holds_old holds_new s =
    (a : Answer) × Answers c bytes a × (s ≡ (answer_message a).status) × Adds holds_old holds_new (answer_message a).text

-- what the command reads was read, and what it answers to these bytes was written whole
abbrev pub IsAnswered : {S : Type 0} → (S → Option (List ℕ)) → (words : List (List ℕ)) (source_old source_new : S) (holds_old holds_new : Option (List ℕ)) → Status → Type 0
IsAnswered left words source_old source_new holds_old holds_new s =
    (c : Command) × Names words c × (bytes : List ℕ) × Reads left c source_old source_new bytes × TellsOf c bytes holds_old holds_new s

-- the source was read to its end, `check` accepts its bytes as a bundle, and the intervals that it thereby certifies were
-- written
abbrev pub TellsAccepted : (left_old left_new holds_old holds_new : Option (List ℕ)) → Type 0
TellsAccepted left_old left_new holds_old holds_new =
    (bytes : List ℕ) × IsRead left_old left_new bytes × (b : Bundle) × CheckAnswers bytes (Accepted b) × Adds holds_old holds_new (check_text (Accepted b))

-- A front was written of a line that refuses. Or the source was read to its end, `check` accepts its bytes as a bundle, and a front
-- of the intervals that it thereby certifies was written: each line that stands whole in it tells the certified interval of a case,
-- or ends the list
abbrev pub WritesCertifiedFront : (left_old left_new holds_old holds_new : Option (List ℕ)) → Type 0
WritesCertifiedFront left_old left_new holds_old holds_new =
    ((line : List ℕ) × WritesFront holds_old holds_new (codes "refused," ++ line))
    ⊎ ((bytes : List ℕ) × IsRead left_old left_new bytes × (b : Bundle) × Accepts bytes b
    × (n : ℕ) × (n ≤ length (accepted_text b)) × HasCertifiedLines b (take n (accepted_text b)) × Adds holds_old holds_new (take n (accepted_text b)))

-- the source was read to its end, `check` accepts its bytes as a bundle, and its report was written, of which all figures
-- are sound
abbrev pub TellsReport : (left_old left_new holds_old holds_new : Option (List ℕ)) → Type 0
TellsReport left_old left_new holds_old holds_new =
    (bytes : List ℕ) × IsRead left_old left_new bytes × (b : Bundle) × Accepts bytes b × HasSoundFigures b × Adds holds_old holds_new (report.report_text b)

-- the source was read to its end, its bytes spell a detail, and the bundle that it is solved to was written, with the status
-- that its verdicts give. The text that was written has no fault: `check` accepts it as this bundle
abbrev pub TellsSolved : SolveOptions → (left_old left_new holds_old holds_new : Option (List ℕ)) → Status → Type 0
TellsSolved o left_old left_new holds_old holds_new s =
    (bytes : List ℕ) × IsRead left_old left_new bytes × (d : Detail) × (detail_spelt bytes ≡ Ok d) × (b : Bundle) × IsSolvedTo o d b
    × IsAcceptedAs (bundle_text b) b × (s ≡ solved_status b) × Adds holds_old holds_new (bundle_text b)

-- What is told of a demo is its line, or that memory ran out: it was written whole, or a front of it, as `Tells` says
abbrev pub TellsDemo : {K : Type 0} → (K → Option (List ℕ)) → (K → ℕ) → ℕ → (old new : K) → Status → Type 0
TellsDemo holds faults storeys old new s =
    ((a : DemoAnswer) × DemoAnswers storeys a × Tells holds faults (record { text = demo_text a; status = demo_status a }) old new s)
    ⊎ Tells holds faults (told_message NoMemory) old new s
