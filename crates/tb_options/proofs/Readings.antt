-- What matches say of options, and that words give one list of options at most.
use Rattle.std.proofs.Common.{codes, ◌≡◌, ◌∙◌, ap, refl, sym, subst, ℕ, ◌≤◌, List, Bool, true, false, ◌&&◌, Option, Some, None, Result, Ok, Err, leb-true, arith, if◌then◌else◌, nat_le}
use Rattle.std.specs.Prelude.{IfErr}
use Rattle.clap.proofs.WalkLemmas.{first_value-rows}
use Rattle.clap.specs.Words.{App, Row, Text, first_of, first_value, matches_of, rows_of}
use Rattle.clap.specs.declared.parser.matches.Found.{Found}
use Rattle.tb_numbers.specs.Reading.{decimal_reading, in_range}
use Rattle.tb_numbers.specs.declared.parse.NumberFault.{NumberFault}
use Rattle.tb_numbers.specs.declared.parse.NumberFault.TheVariants.{OutOfRange}
use Rattle.tb_options.specs.declared.SolveOption.{SolveOption}
use Rattle.tb_options.specs.declared.SolveOption.TheVariants.{Width, Grade, Halve, Sweeps}
use Rattle.tb_options.specs.declared.SolveOptions.{SolveOptions}
use Rattle.tb_options.specs.Options.{AreWithin, GivesOptions, IsReading, IsStoreyReading, demo_app, given, is_given, least_of, most_of, name_of, solve_app, storeys_of_text, value_of_text}

-- ---- what clap tells

-- the text of an option is that of its row
pub looked_up : (f : Found) (id : Text) → first_value f id ≡ first_of id (rows_of f)
looked_up f id = first_value-rows f id

-- ---- values

in_range_within : (least most n : ℕ) (v : Option ℕ) → in_range least most v ≡ Ok n → (least ≤ n) × (n ≤ most)
in_range_within least most n None is = absurd (cc)
in_range_within least most n (Some m) is = by_tests (nat_le least m) (nat_le m most) refl refl is where
  by_tests : (a b : Bool) → nat_le least m ≡ a → nat_le m most ≡ b → (if a && b then Ok m else Err OutOfRange) ≡ Ok n →
      (least ≤ n) × (n ≤ most)
  by_tests false b low high is = absurd (cc)
  by_tests true false low high is = absurd (cc)
  by_tests true true low high is =
      let same : m ≡ n = cc in
      let above : least ≤ m = leb-true least m low in let below : m ≤ most = leb-true m most high in
      (omega arith, omega arith)

-- a value is within the range of its option
value_within : (option : SolveOption) (text : Option Text) (n : ℕ) → value_of_text option text ≡ Ok (Some n) → (least_of option ≤ n) × (n ≤ most_of option)
value_within option None n is = let none : ◌≡◌ {A = Option ℕ} None (Some n) = cc is in absurd (cc none)
value_within option (Some text) n is = by_result (in_range (least_of option) (most_of option) (decimal_reading 0 text)) refl is where
  by_result : (r : Result ℕ NumberFault) → in_range (least_of option) (most_of option) (decimal_reading 0 text) ≡ r →
      is_given r ≡ Ok (Some n) → (least_of option ≤ n) × (n ≤ most_of option)
  by_result (Ok m) read same =
      let value : m ≡ n = cc same in
      in_range_within (least_of option) (most_of option) n (decimal_reading 0 text) (read ∙ ap (λ (k : ℕ). Ok k) value)
  by_result (Err fault) read same = absurd (cc same)

pub reading_within : (words : List Text) (o : SolveOptions) → IsReading words o → AreWithin o
reading_within words o r option n is =
    value_within option _ n (r.gives option ∙ ap (λ (v : Option ℕ). Ok v) is)

-- ---- one reading

same_options : (o p : SolveOptions) → ((option : SolveOption) → given o option ≡ given p option) → o ≡ p
same_options o p same =
    ap (λ (w : Option ℕ). record o { width = w }) (same Width) ∙
    ap (λ (g : Option ℕ). record p { grade = g; halve = o.halve; sweeps = o.sweeps }) (same Grade) ∙
    ap (λ (h : Option ℕ). record p { halve = h; sweeps = o.sweeps }) (same Halve) ∙
    ap (λ (n : Option ℕ). record p { sweeps = n }) (same Sweeps)

pub one_reading : (words : List Text) (o p : SolveOptions) → IsReading words o → IsReading words p → o ≡ p
one_reading words o p r s =
    same_options o p (λ option. let both : ◌≡◌ {A = Result (Option ℕ) NumberFault} (Ok (given o option)) (Ok (given p option)) = sym (r.gives option) ∙ s.gives option in cc both)

pub one_number_of_storeys : (words : List Text) (n m : ℕ) → IsStoreyReading words n → IsStoreyReading words m → n ≡ m
one_number_of_storeys words n m r s = let both : ◌≡◌ {A = Result ℕ NumberFault} (Ok n) (Ok m) = sym r.gives ∙ s.gives in cc both

-- ---- no reading

-- what holds without an error holds of each
pub of_error : {A E : Type 0} (r : Result A E) (P : Type 0) → P → IfErr r (λ e. P)
of_error (Ok x) P p = tt
of_error (Err e) P p = p

-- where a text has no value, the matches give no options
pub gives_none : (rows : List Row) (option : SolveOption) (fault : NumberFault) → Err fault ≡ value_of_text option (first_of (name_of option) rows) →
    (o : SolveOptions) → ¬ GivesOptions rows o
gives_none rows option fault is o gives = let both : ◌≡◌ {A = Result (Option ℕ) NumberFault} (Err fault) (Ok (given o option)) = is ∙ gives option in cc both

pub no_options : (command : App) (words : List Text) (rows : List Row) → command ≡ solve_app → rows ≡ matches_of command words →
    ((o : SolveOptions) → ¬ GivesOptions rows o) → (o : SolveOptions) → ¬ IsReading words o
no_options command words rows is found none o r =
    none o (subst (λ (found : List Row). GivesOptions found o) (sym (found ∙ ap (λ (a : App). matches_of a words) is)) r.gives)

pub no_storeys : (command : App) (words : List Text) (rows : List Row) (fault : NumberFault) → command ≡ demo_app → rows ≡ matches_of command words →
    Err fault ≡ storeys_of_text (first_of (codes "storeys") rows) → (n : ℕ) → ¬ IsStoreyReading words n
no_storeys command words rows fault is found none n r =
    let same : rows ≡ matches_of demo_app words = found ∙ ap (λ (a : App). matches_of a words) is in
    let both : ◌≡◌ {A = Result ℕ NumberFault} (Err fault) (Ok n) =
    none ∙ ap (λ (found : List Row). storeys_of_text (first_of (codes "storeys") found)) same ∙ r.gives in cc both
