-- The words of a command, as `clap` reads them: the options of `solve`, and the one word of `demo`.
use Rattle.std.specs.Prelude.{◌≡◌, ◌≤◌, ℕ, List, [], Option, Some, None, true, Result, Ok, Err, codes, if◌then◌else◌, ◌==◌}
use Rattle.clap.specs.Words.{App, Row, Rule, Text, fault_of, first_of, matches_of, new_app, new_rule, with_rule}
use Rattle.clap.specs.declared.builder.action.ArgAction.TheVariants.{Set}
use Rattle.tb_numbers.specs.Reading.{decimal_reading, in_range}
use Rattle.tb_numbers.specs.declared.parse.NumberFault.{NumberFault}
use Rattle.tb_numbers.specs.declared.parse.NumberFault.TheVariants.{BadNumber}
use Rattle.tb_options.specs.declared.SolveOption.{SolveOption}
use Rattle.tb_options.specs.declared.SolveOption.TheVariants.{Width, Grade, Halve, Sweeps}
use Rattle.tb_options.specs.declared.SolveOptions.{SolveOptions}

-- ---- the words of a command

-- clap has matches of these words by this command: it meets no fault in them. The first word is the command's own, and
-- clap looks only at those behind it.
abbrev pub HasMatches : App → List Text → Type 0
HasMatches command words = fault_of command words ≡ []

-- ---- the four options of `solve`

abbrev pub name_of : SolveOption → Text
name_of Width = codes "width"
name_of Grade = codes "grade"
name_of Halve = codes "halve"
name_of Sweeps = codes "sweeps"

-- the least and the greatest value of each: the width in µW/K, the others are counts
abbrev pub least_of : SolveOption → ℕ
least_of Width = 0
least_of Grade = 0
least_of Halve = 0
least_of Sweeps = 1

abbrev pub most_of : SolveOption → ℕ
most_of Width = 1000000000
most_of Grade = 12
most_of Halve = 6
most_of Sweeps = 10000

-- an option of this name takes one value, and may be given once
abbrev pub option_rule : Text → Rule
option_rule name = record (new_rule name) { long = Some name; action = Some Set }

-- the command `solve`, as clap knows it
abbrev pub solve_app : App
solve_app = with_rule (with_rule (with_rule (with_rule (new_app (codes "solve"))
    (option_rule (name_of Width))) (option_rule (name_of Grade))) (option_rule (name_of Halve))) (option_rule (name_of Sweeps))

-- ---- what its words give

-- a number that was read is given
abbrev pub is_given : Result ℕ NumberFault → Result (Option ℕ) NumberFault
is_given (Ok n) = Ok (Some n)
is_given (Err fault) = Err fault

-- the value of an option by its text: none where it has no text, else the whole number of the text, in the option's range
abbrev pub value_of_text : SolveOption → Option Text → Result (Option ℕ) NumberFault
value_of_text option None = Ok None
value_of_text option (Some text) = is_given (in_range (least_of option) (most_of option) (decimal_reading 0 text))

-- the value of an option, if it was given
abbrev pub given : SolveOptions → SolveOption → Option ℕ
given o Width = o.width
given o Grade = o.grade
given o Halve = o.halve
given o Sweeps = o.sweeps

-- each option has the value of the text that stands for it in the matches
abbrev pub GivesOptions : List Row → SolveOptions → Type 0
GivesOptions rows o = (option : SolveOption) → value_of_text option (first_of (name_of option) rows) ≡ Ok (given o option)

-- clap has matches of the words of `solve`, and they give these options
pub record IsReading (words : List Text) (o : SolveOptions) : Type 0 where
  pub matches : HasMatches solve_app words
  pub gives : GivesOptions (matches_of solve_app words) o

-- each value is between the least and the greatest
abbrev pub AreWithin : SolveOptions → Type 0
AreWithin o = (option : SolveOption) (n : ℕ) → given o option ≡ Some n → (least_of option ≤ n) × (n ≤ most_of option)

-- ---- the one word of `demo`

-- a word that must be there
abbrev pub word_rule : Text → Rule
word_rule name = record (new_rule name) { required = true; action = Some Set }

-- the command `demo`, as clap knows it
abbrev pub demo_app : App
demo_app = with_rule (new_app (codes "demo")) (word_rule (codes "storeys"))

-- the number of storeys by its text, a whole number from 1 to 16
abbrev pub storeys_of_text : Option Text → Result ℕ NumberFault
storeys_of_text None = Err BadNumber
storeys_of_text (Some text) = in_range 1 16 (decimal_reading 0 text)

-- clap has matches of the words of `demo`, and they give this number of storeys
pub record IsStoreyReading (words : List Text) (n : ℕ) : Type 0 where
  pub matches : HasMatches demo_app words
  pub gives : storeys_of_text (first_of (codes "storeys") (matches_of demo_app words)) ≡ Ok n

-- ---- where options of `solve` are not given: the grade and the halvings go by the dimension of the detail
abbrev pub usual_grade : ℕ → ℕ
usual_grade dimension = if dimension == 2 then 4 else 2

abbrev pub usual_halve : ℕ → ℕ
usual_halve dimension = if dimension == 2 then 1 else 0
