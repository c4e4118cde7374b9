-- What follows from what a run tells.
use Rattle.std.proofs.Common.{◌≡◌, ◌<◌, ◌≤◌, ◌+◌, ◌⊎◌, ◌++◌, ℕ, List, Bool, true, false, Option, Some, None, length, inl, inr, refl, sym, ap, ◌∙◌, arith, codes, length-append, subst, append-nil}
use Rattle.tb_outside.specs.Faults.{Rose, Stands}
use Rattle.tb_outside.specs.Limits.{most_input_bytes}
use Rattle.tb_outside.specs.Outside.{Adds, IsAtEnd, Takes, TakesExactly}
use Rattle.tb_bundle.specs.declared.bundle.Bundle.{Bundle}
use Rattle.thermal_cli.specs.declared.answer.Answer.{Answer}
use Rattle.thermal_cli.specs.declared.check.CheckAnswer.{CheckAnswer}
use Rattle.thermal_cli.specs.declared.check.CheckAnswer.TheVariants as check
use Rattle.thermal_cli.specs.declared.report.ReportAnswer.{ReportAnswer}
use Rattle.thermal_cli.specs.declared.report.ReportAnswer.TheVariants as report
use Rattle.thermal_cli.specs.declared.status.Status.{Status}
use Rattle.thermal_cli.specs.declared.status.Status.TheVariants as status
use Rattle.thermal_cli.specs.declared.told.Told.TheVariants as told
use Rattle.thermal_cli.specs.declared.words.Command.{Command}
use Rattle.thermal_cli.specs.declared.words.Command.TheVariants.{Check, Report, Solve, UValue, Demo}
use Rattle.thermal_cli.specs.Answers.{Answers, answer_message}
use Rattle.thermal_cli.specs.Check.{Accepts, CheckAnswers, check_status, check_text}
use Rattle.thermal_cli.specs.Messages.{Tells}
use Rattle.thermal_cli.specs.Outcome.{IsAnswered, IsInterrupted, IsRead, Reads, Runs, TellsAccepted, TellsDemo, TellsOf, TellsReport, TellsSolved, WritesFrontOfOne}
use Rattle.thermal_cli.specs.Report.{ReportAnswers, report_status, report_text}
use Rattle.thermal_cli.specs.Solve.{solve_status, solve_text}
use Rattle.tb_options.specs.declared.SolveOptions.{SolveOptions}
use Rattle.thermal_cli.specs.Words.{HasReading, Names, NamesDemo, NamesReader, NamesSolve, reads_input}
use Rattle.tb_report.specs.Sound.{HasSoundFigures}
use Rattle.tb_report.specs.Texts as figures
use Rattle.tb_report.proofs.Figures.{figures_sound}
use Rattle.thermal_cli.proofs.Endings.{IsDemo, IsEndingOf, IsSolve, answers_end}
use Rattle.thermal_cli.proofs.Commands.{one_command, reader_alone}
use Rattle.thermal_cli.proofs.Solving.{solved_bundle}

-- ---- which status belongs to what is told

-- whether answers have this status
abbrev is_of_answers : Status → Bool
is_of_answers status.Fine = true
is_of_answers status.Refused = true
is_of_answers status.WidthNotReached = true
is_of_answers status.CertificateRefused = true
is_of_answers s = false

ends_so : (c : Command) (s : Status) → IsEndingOf c s → is_of_answers s ≡ true
ends_so c s (inl e) = ap is_of_answers e
ends_so c s (inr (inl e)) = ap is_of_answers e
ends_so c s (inr (inr (inl e))) = ap is_of_answers e.0
ends_so c s (inr (inr (inr e))) = ap is_of_answers e.0

-- and no other text
abbrev is_of_answers_alone : Status → Bool
is_of_answers_alone status.Fine = true
is_of_answers_alone status.WidthNotReached = true
is_of_answers_alone status.CertificateRefused = true
is_of_answers_alone s = false

-- no answer has one of the other statuses
not_answered : (c : Command) (bytes : List ℕ) (x : Answer) (s other : Status) → Answers c bytes x → s ≡ (answer_message x).status → s ≡ other → is_of_answers other ≡ false → ⊥
not_answered c bytes x s other h e p f =
    let t : is_of_answers s ≡ true = ap is_of_answers e ∙ ends_so c (answer_message x).status (answers_end c bytes x h) in
    let g : is_of_answers s ≡ false = ap is_of_answers p ∙ f in
    cc (t, g)

-- only `check` and `report` refuse a certificate
by_check : (c : Command) (s : Status) → IsEndingOf c s → s ≡ status.CertificateRefused → (c ≡ Check) ⊎ (c ≡ Report)
by_check c s (inl a) e = cc (a, e)
by_check c s (inr (inl a)) e = cc (a, e)
by_check c s (inr (inr (inl a))) e = let f = a.0 in cc (f, e)
by_check c s (inr (inr (inr a))) e = a.1

-- only `solve` and `demo` miss a width
by_search : (c : Command) (s : Status) → IsEndingOf c s → s ≡ status.WidthNotReached → IsSolve c ⊎ IsDemo c
by_search c s (inl a) e = cc (a, e)
by_search c s (inr (inl a)) e = cc (a, e)
by_search c s (inr (inr (inl a))) e = a.1
by_search c s (inr (inr (inr a))) e = let f = a.0 in cc (f, e)

not_fine : status.Fine ≡ status.CertificateRefused → ⊥
not_fine e = cc e

-- what `check` accepts
accepted : (bytes : List ℕ) (a : CheckAnswer) (holds_old holds_new : Option (List ℕ)) → CheckAnswers bytes a → status.Fine ≡ check_status a → Adds holds_old holds_new (check_text a)
    → (b : Bundle) × CheckAnswers bytes (check.Accepted b) × Adds holds_old holds_new (check_text (check.Accepted b))
accepted bytes (check.Fault f) holds_old holds_new h e w = absurd (not_fine e)
accepted bytes (check.Accepted b) holds_old holds_new h e w = (b, h, w)

not_refused : status.Fine ≡ status.Refused → ⊥
not_refused e = cc e

-- the report that is written
shown : (bytes : List ℕ) (a : ReportAnswer) (holds_old holds_new : Option (List ℕ)) → ReportAnswers bytes a → status.Fine ≡ report_status a → Adds holds_old holds_new (report_text a)
    → (b : Bundle) × Accepts bytes b × HasSoundFigures b × Adds holds_old holds_new (figures.report_text b)
shown bytes (report.Fault f) holds_old holds_new h e w = absurd (not_fine e)
shown bytes (report.FaultOfPart f) holds_old holds_new h e w = absurd (not_refused e)
shown bytes (report.Report r) holds_old holds_new (b, a, (is, none)) e w =
    (b, a, figures_sound b a.2, subst (λ (x : Bundle). Adds holds_old holds_new (figures.report_text x)) is w)

-- ---- what a command reads

-- what reads its input read it to its end
pub was_read : {S : Type 0} (left : S → Option (List ℕ)) (c : Command) (old new : S) (bytes : List ℕ) → reads_input c ≡ true → Reads left c old new bytes
    → IsRead (left old) (left new) bytes
was_read left Check old new bytes e r = r
was_read left Report old new bytes e r = r
was_read left (Solve o) old new bytes e r = r
was_read left UValue old new bytes e r = r
was_read left (Demo n) old new bytes e r = absurd (cc e)

-- words that name a command which reads its input name no other
reader_reads : (words : List (List ℕ)) (c : Command) → NamesReader words → Names words c → reads_input c ≡ true
reader_reads words c (d, h, reads) k = ap reads_input (one_command words c d k h) ∙ reads

-- ---- what each status says

module _ {S K : Type 0} (left : S → Option (List ℕ)) (source_faults : S → ℕ) (holds : K → Option (List ℕ)) (sink_faults : K → ℕ) (words : List (List ℕ)) (a b : S) (k l : K) where
  abbrev Ran : Status → Type 0
  Ran = Runs left source_faults holds sink_faults words a b k l

  -- Usage comes only for words without a reading
  pub usage_words : (s : Status) → s ≡ status.Usage → Ran s → ¬ HasReading words
  usage_words s p (told.Usage, o, inl t) = o.0
  usage_words s p (told.NoMemory, o, inl t) = let e = t.0 in cc (e, p)
  usage_words s p (told.SourceFault, o, inl t) = let e = t.0 in cc (e, p)
  usage_words s p (told.TooLong, o, inl t) = let e = t.0 in cc (e, p)
  usage_words s p (told.Answered x, o, inl t) = absurd (not_answered o.0 o.2 x s _ o.4 t.0 p refl)
  usage_words s p (x, o, inr t) = let e = t.0 in cc (e, p)

  -- memory that ran out on words without a reading left the source untouched
  untouched : (¬ HasReading words) → NamesReader words ⊎ (b ≡ a) → b ≡ a
  untouched h (inl reads) = absurd (h (reads.0, reads.1))
  untouched h (inr same) = same

  -- words without a reading are told so, unless memory runs out, and the source is untouched
  pub no_reading : (s : Status) → (¬ HasReading words) → Ran s → ((s ≡ status.Usage) ⊎ ((s ≡ status.NoMemory) ⊎ (s ≡ status.SinkFault))) × (b ≡ a)
  no_reading s h (told.Usage, o, inl t) = (inl t.0, o.1)
  no_reading s h (told.Usage, o, inr t) = (inr (inr t.0), o.1)
  no_reading s h (told.NoMemory, o, inl t) = (inr (inl t.0), untouched h o.0)
  no_reading s h (told.NoMemory, o, inr t) = (inr (inr t.0), untouched h o.0)
  no_reading s h (told.SourceFault, o, t) = absurd (h (o.0.0, o.0.1))
  no_reading s h (told.TooLong, o, t) = absurd (h (o.0.0, o.0.1))
  no_reading s h (told.Answered x, o, t) = absurd (h (o.0, o.1))

  -- a source's fault has its cause, and its line alone is written
  pub source_fault : (s : Status) → s ≡ status.SourceFault → Ran s → NamesReader words × Rose (source_faults a) (source_faults b) × Adds (holds k) (holds l) (codes "refused,SourceFault\n")
  source_fault s p (told.Usage, o, inl t) = let e = t.0 in cc (e, p)
  source_fault s p (told.NoMemory, o, inl t) = let e = t.0 in cc (e, p)
  source_fault s p (told.SourceFault, o, inl t) = (o.0, o.2, t.1)
  source_fault s p (told.TooLong, o, inl t) = let e = t.0 in cc (e, p)
  source_fault s p (told.Answered x, o, inl t) = absurd (not_answered o.0 o.2 x s _ o.4 t.0 p refl)
  source_fault s p (x, o, inr t) = let e = t.0 in cc (e, p)

  -- want of memory is told alone
  pub no_memory : (s : Status) → s ≡ status.NoMemory → Ran s → Adds (holds k) (holds l) (codes "refused,NoMemory\n")
  no_memory s p (told.Usage, o, inl t) = let e = t.0 in cc (e, p)
  no_memory s p (told.NoMemory, o, inl t) = t.1
  no_memory s p (told.SourceFault, o, inl t) = let e = t.0 in cc (e, p)
  no_memory s p (told.TooLong, o, inl t) = let e = t.0 in cc (e, p)
  no_memory s p (told.Answered x, o, inl t) = absurd (not_answered o.0 o.2 x s _ o.4 t.0 p refl)
  no_memory s p (x, o, inr t) = let e = t.0 in cc (e, p)

  -- a sink's fault has its cause, and a front of the text was written
  pub sink_fault : (s : Status) → s ≡ status.SinkFault → Ran s → Rose (sink_faults k) (sink_faults l) × WritesFrontOfOne left source_faults words a b (holds k) (holds l)
  sink_fault s p (told.Usage, o, inl t) = let e = t.0 in cc (e, p)
  sink_fault s p (told.NoMemory, o, inl t) = let e = t.0 in cc (e, p)
  sink_fault s p (told.SourceFault, o, inl t) = let e = t.0 in cc (e, p)
  sink_fault s p (told.TooLong, o, inl t) = let e = t.0 in cc (e, p)
  sink_fault s p (told.Answered x, o, inl t) = absurd (not_answered o.0 o.2 x s _ o.4 t.0 p refl)
  sink_fault s p (x, o, inr t) = (t.2, (x, o, t.1))

  -- a fault that was counted is told
  pub source_faults_told : (s : Status) → Ran s → Stands (source_faults a) (source_faults b) ⊎ ((s ≡ status.SourceFault) ⊎ (s ≡ status.SinkFault))
  source_faults_told s (told.Usage, o, t) = inl (ap source_faults o.1)
  source_faults_told s (told.NoMemory, o, t) = inl o.2
  source_faults_told s (told.SourceFault, o, inl t) = inr (inl t.0)
  source_faults_told s (told.SourceFault, o, inr t) = inr (inr t.0)
  source_faults_told s (told.TooLong, o, t) = inl o.2
  source_faults_told s (told.Answered x, o, t) = inl o.5

  pub sink_faults_told : (s : Status) → Ran s → Stands (sink_faults k) (sink_faults l) ⊎ (s ≡ status.SinkFault)
  sink_faults_told s (x, o, inl t) = inl t.2
  sink_faults_told s (x, o, inr t) = inr t.0

  -- an input is refused for its length, or by the command
  pub refused : (s : Status) → s ≡ status.Refused → Ran s → (NamesReader words × TakesExactly (left a) (left b) (most_input_bytes + 1) × Adds (holds k) (holds l) (codes "refused,TooLong\n")) ⊎ IsAnswered left words a b (holds k) (holds l) status.Refused
  refused s p (told.Usage, o, inl t) = let e = t.0 in cc (e, p)
  refused s p (told.NoMemory, o, inl t) = let e = t.0 in cc (e, p)
  refused s p (told.SourceFault, o, inl t) = let e = t.0 in cc (e, p)
  refused s p (told.TooLong, o, inl t) = inl (o.0, o.1, t.1)
  refused s p (told.Answered x, o, inl t) = inr (o.0, o.1, o.2, o.3, (x, o.4, sym p ∙ t.0, t.1))
  refused s p (x, o, inr t) = let e = t.0 in cc (e, p)

  -- a status that only answers have: what the command reads was read
  told_answer : (s : Status) → is_of_answers_alone s ≡ true → Ran s → IsAnswered left words a b (holds k) (holds l) s
  told_answer s p (told.Usage, o, inl t) = let e : is_of_answers_alone s ≡ false = ap is_of_answers_alone t.0 in cc (e, p)
  told_answer s p (told.NoMemory, o, inl t) = let e : is_of_answers_alone s ≡ false = ap is_of_answers_alone t.0 in cc (e, p)
  told_answer s p (told.SourceFault, o, inl t) = let e : is_of_answers_alone s ≡ false = ap is_of_answers_alone t.0 in cc (e, p)
  told_answer s p (told.TooLong, o, inl t) = let e : is_of_answers_alone s ≡ false = ap is_of_answers_alone t.0 in cc (e, p)
  told_answer s p (told.Answered x, o, inl t) = (o.0, o.1, o.2, o.3, (x, o.4, t.0, t.1))
  told_answer s p (x, o, inr t) = let e : is_of_answers_alone s ≡ false = ap is_of_answers_alone t.0 in cc (e, p)

  pub fine : (s : Status) → s ≡ status.Fine → Ran s → IsAnswered left words a b (holds k) (holds l) status.Fine
  fine s p r = subst (IsAnswered left words a b (holds k) (holds l)) p (told_answer s (ap is_of_answers_alone p) r)

  one_of_both : (c : Command) → (c ≡ Check) ⊎ (c ≡ Report) → Names words c → Names words Check ⊎ Names words Report
  one_of_both c (inl e) h = inl (subst (Names words) e h)
  one_of_both c (inr e) h = inr (subst (Names words) e h)

  pub certificate_refused : (s : Status) → s ≡ status.CertificateRefused → Ran s → (Names words Check ⊎ Names words Report) × IsAnswered left words a b (holds k) (holds l) status.CertificateRefused
  certificate_refused s p r =
      let h = subst (IsAnswered left words a b (holds k) (holds l)) p (told_answer s (ap is_of_answers_alone p) r) in
      (one_of_both h.0 (by_check h.0 _ (answers_end h.0 h.2 h.4.0 h.4.1) (sym h.4.2)) h.1, h)

  -- of a bundle that was accepted, what `check` accepts was written
  pub certified : (s : Status) → s ≡ status.Fine → Names words Check → Ran s → TellsAccepted (left a) (left b) (holds k) (holds l)
  certified s p w r =
      let h = fine s p r in
      let c : h.0 ≡ Check = one_command words h.0 Check h.1 w in
      let x : Answers Check h.2 h.4.0 = subst (λ (d : Command). Answers d h.2 h.4.0) c h.4.1 in
      let e : status.Fine ≡ check_status x.0 = h.4.2 ∙ ap (λ (y : Answer). (answer_message y).status) x.1 in
      let t : Adds (holds k) (holds l) (check_text x.0) = subst (λ (y : Answer). Adds (holds k) (holds l) (answer_message y).text) x.1 h.4.3 in
      let i = accepted h.2 x.0 (holds k) (holds l) x.2 e t in
      (h.2, was_read left h.0 a b h.2 (ap reads_input c) h.3, i.0, i.1, i.2)

  -- of a bundle that was accepted, its report was written
  pub reported : (s : Status) → s ≡ status.Fine → Names words Report → Ran s → TellsReport (left a) (left b) (holds k) (holds l)
  reported s p w r =
      let h = fine s p r in
      let c : h.0 ≡ Report = one_command words h.0 Report h.1 w in
      let x : Answers Report h.2 h.4.0 = subst (λ (d : Command). Answers d h.2 h.4.0) c h.4.1 in
      let e : status.Fine ≡ report_status x.0 = h.4.2 ∙ ap (λ (y : Answer). (answer_message y).status) x.1 in
      let t : Adds (holds k) (holds l) (report_text x.0) = subst (λ (y : Answer). Adds (holds k) (holds l) (answer_message y).text) x.1 h.4.3 in
      let i = shown h.2 x.0 (holds k) (holds l) x.2 e t in
      (h.2, was_read left h.0 a b h.2 (ap reads_input c) h.3, i.0, i.1, i.2, i.3)

  searched : (c : Command) → IsSolve c ⊎ IsDemo c → Names words c → NamesSolve words ⊎ NamesDemo words
  searched c (inl (o, e)) h = inl (o, subst (Names words) e h)
  searched c (inr (n, e)) h = inr (n, subst (Names words) e h)

  -- a width is missed by `solve` and `demo` alone
  pub width_not_reached : (s : Status) → s ≡ status.WidthNotReached → Ran s → (NamesSolve words ⊎ NamesDemo words) × IsAnswered left words a b (holds k) (holds l) status.WidthNotReached
  width_not_reached s p r =
      let h = subst (IsAnswered left words a b (holds k) (holds l)) p (told_answer s (ap is_of_answers_alone p) r) in
      (searched h.0 (by_search h.0 _ (answers_end h.0 h.2 h.4.0 h.4.1) (sym h.4.2)) h.1, h)

  either : (s : Status) → (s ≡ status.Fine) ⊎ (s ≡ status.WidthNotReached) → is_of_answers_alone s ≡ true
  either s (inl e) = ap is_of_answers_alone e
  either s (inr e) = ap is_of_answers_alone e

  -- of a detail that was solved, its bundle was written
  pub solved : (s : Status) → (s ≡ status.Fine) ⊎ (s ≡ status.WidthNotReached) → (o : SolveOptions) → Names words (Solve o) → Ran s
      → TellsSolved o (left a) (left b) (holds k) (holds l) s
  solved s p o w r =
      let h = told_answer s (either s p) r in
      let c : h.0 ≡ Solve o = one_command words h.0 (Solve o) h.1 w in
      let x : Answers (Solve o) h.2 h.4.0 = subst (λ (d : Command). Answers d h.2 h.4.0) c h.4.1 in
      let e : s ≡ solve_status x.0 = h.4.2 ∙ ap (λ (y : Answer). (answer_message y).status) x.1 in
      let t : Adds (holds k) (holds l) (solve_text x.0) = subst (λ (y : Answer). Adds (holds k) (holds l) (answer_message y).text) x.1 h.4.3 in
      let i = solved_bundle o h.2 x.0 s (holds k) (holds l) is_of_answers_alone (either s p) refl x.2 e t in
      (h.2, was_read left h.0 a b h.2 (ap reads_input c) h.3, i.0, i.1, i.2, i.3, i.4, i.5, i.6)

  -- of a demo its line is told, or that memory ran out, and the source is untouched
  unread : (n : ℕ) → Names words (Demo n) → NamesReader words ⊎ (b ≡ a) → b ≡ a
  unread n w (inl reads) = absurd (reader_alone words n reads w)
  unread n w (inr same) = same

  pub demonstrated : (s : Status) (n : ℕ) → Names words (Demo n) → Ran s → (b ≡ a) × TellsDemo holds sink_faults n k l s
  demonstrated s n w (told.Usage, o, t) = absurd (o.0 (Demo n, w))
  demonstrated s n w (told.NoMemory, o, t) = (unread n w o.0, inr t)
  demonstrated s n w (told.SourceFault, o, t) = absurd (reader_alone words n o.0 w)
  demonstrated s n w (told.TooLong, o, t) = absurd (reader_alone words n o.0 w)
  demonstrated s n w (told.Answered x, o, t) =
      let c : o.0 ≡ Demo n = one_command words o.0 (Demo n) o.1 w in
      let r : Reads left (Demo n) a b o.2 = subst (λ (d : Command). Reads left d a b o.2) c o.3 in
      let y : Answers (Demo n) o.2 x = subst (λ (d : Command). Answers d o.2 x) c o.4 in
      (r.0, inl (y.0, y.2, subst (λ (z : Answer). Tells holds sink_faults (answer_message z) k l s) y.1 t))

-- ---- what becomes of an input

-- a source that was read to its end gave all its bytes
read_whole : (bytes given : List ℕ) (new : Option (List ℕ)) → Takes (Some bytes) new given → IsAtEnd new → bytes ≡ given
read_whole bytes given None h e = cc h
read_whole bytes given (Some rest) h e = let whole : bytes ≡ given ++ rest = cc h in whole ∙ ap (λ (r : List ℕ). given ++ r) e ∙ append-nil given

-- what was taken is a front of all its bytes
taken_length : (bytes given : List ℕ) (new : Option (List ℕ)) → Takes (Some bytes) new given → length given ≤ length bytes
taken_length bytes given None h = cc h
taken_length bytes given (Some rest) h = let whole : bytes ≡ given ++ rest = cc h in omega (arith, ap length whole, length-append given rest)

module _ {S K : Type 0} (left : S → Option (List ℕ)) (source_faults : S → ℕ) (holds : K → Option (List ℕ)) (sink_faults : K → ℕ) (words : List (List ℕ)) (a b : S) (k l : K) (bytes : List ℕ) (tells : left a ≡ Some bytes) where
  abbrev RanOn : Status → Type 0
  RanOn = Runs left source_faults holds sink_faults words a b k l

  whole : (given : List ℕ) → IsRead (left a) (left b) given → bytes ≡ given
  whole given r = read_whole bytes given (left b) (subst (λ (o : Option (List ℕ)). Takes o (left b) given) tells r.0) r.1

  too_many : TakesExactly (left a) (left b) (most_input_bytes + 1) → length bytes ≤ most_input_bytes → ⊥
  too_many x h = let m = taken_length bytes x.0 (left b) (subst (λ (o : Option (List ℕ)). Takes o (left b) x.0) tells x.2) in absurd (omega (arith, m, x.1, h))

  too_short : (given : List ℕ) → IsRead (left a) (left b) given → most_input_bytes < length bytes → ⊥
  too_short given r h = let e = ap length (whole given r) in absurd (omega (arith, e, r.2, h))

  -- what was read are all its bytes, or a command answers to them what it answers to all
  on_whole : (c : Command) (given : List ℕ) (x : Answer) → Reads left c a b given → Answers c given x → Answers c bytes x
  on_whole Check given x r s = subst (λ (y : List ℕ). Answers Check y x) (sym (whole given r)) s
  on_whole Report given x r s = subst (λ (y : List ℕ). Answers Report y x) (sym (whole given r)) s
  on_whole (Solve o) given x r s = subst (λ (y : List ℕ). Answers (Solve o) y x) (sym (whole given r)) s
  on_whole UValue given x r s = subst (λ (y : List ℕ). Answers UValue y x) (sym (whole given r)) s
  on_whole (Demo n) given x r s = s

  answered_so : (c d : Command) (given : List ℕ) (x : Answer) → Names words c → Names words d → Reads left d a b given → Answers d given x → Answers c bytes x
  answered_so c d given x h i r s =
      subst (λ (y : Command). Answers y bytes x) (one_command words d c i h) (on_whole d given x r s)

  -- an input within the limit gets what the command answers to it, unless the run is interrupted
  pub answered : (s : Status) (c : Command) → Names words c → length bytes ≤ most_input_bytes → RanOn s → IsInterrupted s ⊎ TellsOf c bytes (holds k) (holds l) s
  answered s c h m (told.Usage, o, inl t) = absurd (o.0 (c, h))
  answered s c h m (told.NoMemory, o, inl t) = inl (inl t.0)
  answered s c h m (told.SourceFault, o, inl t) = inl (inr (inl t.0))
  answered s c h m (told.TooLong, o, inl t) = absurd (too_many o.1 m)
  answered s c h m (told.Answered x, o, inl t) = inr (x, answered_so c o.0 o.2 x h o.1 o.3 o.4, t.0, t.1)
  answered s c h m (x, o, inr t) = inl (inr (inr t.0))

  -- a longer one is refused, unless the run is interrupted
  pub too_long : (s : Status) → NamesReader words → most_input_bytes < length bytes → RanOn s → IsInterrupted s ⊎ ((s ≡ status.Refused) × Adds (holds k) (holds l) (codes "refused,TooLong\n"))
  too_long s h m (told.Usage, o, inl t) = absurd (o.0 (h.0, h.1))
  too_long s h m (told.NoMemory, o, inl t) = inl (inl t.0)
  too_long s h m (told.SourceFault, o, inl t) = inl (inr (inl t.0))
  too_long s h m (told.TooLong, o, inl t) = inr (t.0, t.1)
  too_long s h m (told.Answered x, o, inl t) = absurd (too_short o.2 (was_read left o.0 a b o.2 (reader_reads words o.0 h o.1) o.3) m)
  too_long s h m (x, o, inr t) = inl (inr (inr t.0))
