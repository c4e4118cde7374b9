-- Words name at most one command.
use Rattle.std.proofs.Common.{◌≡◌, ◌∙◌, refl, sym, ap, subst, ℕ, ◌≤◌, List, true, false, Option, Some, None, codes, inl, inr, arith}
use Rattle.std.proofs.lemmas.Bool.{cases_Bool}
use Rattle.std.proofs.lemmas.Slice.Eq.{bytes_eq-Decides}
use Rattle.std.specs.Prelude.{◌==◌, unwrap_or}
use Rattle.std.specs.Str.{bytes_eq}
use Rattle.tb_options.proofs.Readings.{one_number_of_storeys, one_reading}
use Rattle.tb_options.specs.Options.{IsReading, IsStoreyReading, usual_halve}
use Rattle.tb_options.specs.declared.SolveOptions.{SolveOptions}
use Rattle.thermal_cli.specs.declared.words.Command.{Command}
use Rattle.thermal_cli.specs.declared.words.Command.TheVariants.{Check, Report, Solve, UValue, Demo}
use Rattle.thermal_cli.specs.Words.{HasReading, IsFirstWord, Names, NamesReader, reads_input}

-- ---- the first word

one_first : (words : List (List ℕ)) (a b : List ℕ) → IsFirstWord a words → IsFirstWord b words → a ≡ b
one_first words a b h k = let both : ◌≡◌ {A = Option (List ℕ)} (Some a) (Some b) = sym h ∙ k in cc both

-- words that begin in two ways
differ : (words : List (List ℕ)) (a b : List ℕ) → IsFirstWord a words → IsFirstWord b words → bytes_eq a b ≡ false → ⊥
differ words a b h k f = let t = (bytes_eq-Decides a b).1 (one_first words a b h k) in cc (t, f)

-- ---- the command

pub one_command : (words : List (List ℕ)) (c d : Command) → Names words c → Names words d → c ≡ d
one_command words Check Check a b = refl
one_command words Check Report a b = absurd (differ words (codes "check") (codes "report") a.0 b.0 refl)
one_command words Check (Solve p) a b = absurd (differ words (codes "check") (codes "solve") a.0 b.0 refl)
one_command words Check UValue a b = absurd (differ words (codes "check") (codes "uvalue") a.0 b.0 refl)
one_command words Check (Demo m) a b = absurd (differ words (codes "check") (codes "demo") a.0 b.0 refl)
one_command words Report Check a b = absurd (differ words (codes "report") (codes "check") a.0 b.0 refl)
one_command words Report Report a b = refl
one_command words Report (Solve p) a b = absurd (differ words (codes "report") (codes "solve") a.0 b.0 refl)
one_command words Report UValue a b = absurd (differ words (codes "report") (codes "uvalue") a.0 b.0 refl)
one_command words Report (Demo m) a b = absurd (differ words (codes "report") (codes "demo") a.0 b.0 refl)
one_command words (Solve o) Check a b = absurd (differ words (codes "solve") (codes "check") a.0 b.0 refl)
one_command words (Solve o) Report a b = absurd (differ words (codes "solve") (codes "report") a.0 b.0 refl)
one_command words (Solve o) (Solve p) a b = ap Solve (one_reading words o p a.1 b.1)
one_command words (Solve o) UValue a b = absurd (differ words (codes "solve") (codes "uvalue") a.0 b.0 refl)
one_command words (Solve o) (Demo m) a b = absurd (differ words (codes "solve") (codes "demo") a.0 b.0 refl)
one_command words UValue Check a b = absurd (differ words (codes "uvalue") (codes "check") a.0 b.0 refl)
one_command words UValue Report a b = absurd (differ words (codes "uvalue") (codes "report") a.0 b.0 refl)
one_command words UValue (Solve p) a b = absurd (differ words (codes "uvalue") (codes "solve") a.0 b.0 refl)
one_command words UValue UValue a b = refl
one_command words UValue (Demo m) a b = absurd (differ words (codes "uvalue") (codes "demo") a.0 b.0 refl)
one_command words (Demo n) Check a b = absurd (differ words (codes "demo") (codes "check") a.0 b.0 refl)
one_command words (Demo n) Report a b = absurd (differ words (codes "demo") (codes "report") a.0 b.0 refl)
one_command words (Demo n) (Solve p) a b = absurd (differ words (codes "demo") (codes "solve") a.0 b.0 refl)
one_command words (Demo n) UValue a b = absurd (differ words (codes "demo") (codes "uvalue") a.0 b.0 refl)
one_command words (Demo n) (Demo m) a b = ap Demo (one_number_of_storeys words n m a.1 b.1)

-- ---- which words have a reading

-- a first word that is tested
pub is_first : (words : List (List ℕ)) (w v : List ℕ) → IsFirstWord w words → bytes_eq w v ≡ true → IsFirstWord v words
is_first words w v h e = subst (λ (u : List ℕ). IsFirstWord u words) ((bytes_eq-Decides w v).0 e) h

-- `solve` with words that give no options
pub no_solve : (words : List (List ℕ)) → IsFirstWord (codes "solve") words → ((o : SolveOptions) → ¬ IsReading words o) → ¬ HasReading words
no_solve words h none (Check, k) = differ words (codes "solve") (codes "check") h k.0 refl
no_solve words h none (Report, k) = differ words (codes "solve") (codes "report") h k.0 refl
no_solve words h none (Solve o, k) = none o k.1
no_solve words h none (UValue, k) = differ words (codes "solve") (codes "uvalue") h k.0 refl
no_solve words h none (Demo n, k) = differ words (codes "solve") (codes "demo") h k.0 refl

-- `demo` with words that give no number
pub no_demo : (words : List (List ℕ)) → IsFirstWord (codes "demo") words → ((n : ℕ) → ¬ IsStoreyReading words n) → ¬ HasReading words
no_demo words h none (Check, k) = differ words (codes "demo") (codes "check") h k.0 refl
no_demo words h none (Report, k) = differ words (codes "demo") (codes "report") h k.0 refl
no_demo words h none (Solve o, k) = differ words (codes "demo") (codes "solve") h k.0 refl
no_demo words h none (UValue, k) = differ words (codes "demo") (codes "uvalue") h k.0 refl
no_demo words h none (Demo n, k) = none n k.1

-- ---- which commands read

-- what reads isn't `demo`
pub reader_alone : (words : List (List ℕ)) (n : ℕ) → NamesReader words → Names words (Demo n) → ⊥
reader_alone words n (c, h, reads) k =
    let e : reads_input c ≡ false = ap reads_input (one_command words c (Demo n) h k) in cc (e, reads)

-- ---- the halvings of a level grid

usual : (d : ℕ) → usual_halve d ≤ 6
usual d = elim (cases_Bool (d == 2)) [
  | inl t ↦ rw t (omega arith)
  | inr f ↦ rw f (omega arith)
]

pub halvings : (h : Option ℕ) (d : ℕ) → ((n : ℕ) → h ≡ Some n → n ≤ 6) → unwrap_or h (usual_halve d) ≤ 6
halvings None d f = usual d
halvings (Some n) d f = f n refl
