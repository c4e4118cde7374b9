-- One record of a text: it takes something of the text, and it has a field.
use Rattle.std.proofs.Common.{◌≡◌, refl, ◌+◌, ◌<◌, ◌≤◌, ℕ, suc, List, [], ◌∷◌, ◌++◌, length, true, false, Some, None, arith}
use Rattle.std.proofs.lemmas.Bool.{cond_both}
use Rattle.std.specs.Prelude.{if◌then◌else◌, ◌==◌, ◌||◌, IsSome}
use Rattle.csv.specs.Machine.{Read, ends_at_end, fields_after, in_field, is_end, next_record, step}
use Rattle.csv.specs.Records.{field_at}
use Rattle.csv.specs.Reading.{default_config}
use Rattle.csv.specs.declared.parser.Action.{Action}
use Rattle.csv.specs.declared.parser.Action.TheVariants as act
use Rattle.csv.specs.declared.parser.State.{State}
use Rattle.csv.specs.declared.parser.State.TheVariants as st

-- the records that a state may give at the end of the text: one at most
abbrev pub pending : State → ℕ
pending s = if ends_at_end s then 1 else 0

pub pending_le : (s : State) → pending s ≤ 1
pending_le s = cond_both (ends_at_end s) 1 0 (λ n. n ≤ 1) (λ _. omega arith) (λ _. omega arith)

-- a step that ends a record leaves nothing pending
abbrev EndsClean : State × Action → Type 0
EndsClean p = is_end p.1 ≡ true → ends_at_end p.0 ≡ false

in_field_clean : (c : ℕ) → EndsClean (in_field default_config c)
in_field_clean c = cond_both (c == 44) (st.StartField, act.EndField) _ EndsClean (λ _ h. cc h)
    (λ _. cond_both ((c == 13) || (c == 10)) _ (st.InField, act.Copy) EndsClean
    (λ _ _. cond_both (c == 13) st.AfterCr st.StartRecord (λ s. ends_at_end s ≡ false) (λ _. refl) (λ _. refl))
    (λ _ h. cc h))

start_field_clean : (c : ℕ) → EndsClean (step default_config st.StartField c)
start_field_clean c = cond_both (c == 34) (st.InQuoted, act.Skip) _ EndsClean (λ _ h. cc h) (λ _. in_field_clean c)

start_record_clean : (c : ℕ) → EndsClean (step default_config st.StartRecord c)
start_record_clean c = cond_both ((c == 13) || (c == 10)) (st.StartRecord, act.Skip) _ EndsClean (λ _ h. cc) (λ _. start_field_clean c)

step_clean : (s : State) (c : ℕ) → EndsClean (step default_config s c)
step_clean st.StartRecord c = start_record_clean c
step_clean st.StartField c = start_field_clean c
step_clean st.InField c = in_field_clean c
step_clean st.InQuoted c = cond_both (c == 34) (st.AfterQuote, act.Skip) _ EndsClean (λ _ h. cc h) (λ _ h. cc h)
step_clean st.InEscape c = λ h. cc h
step_clean st.AfterQuote c = cond_both (c == 34) (st.InQuoted, act.Copy) _ EndsClean (λ _ h. cc h) (λ _. in_field_clean c)
step_clean st.InComment c = cond_both (c == 10) (st.StartRecord, act.Skip) (st.InComment, act.Skip) EndsClean (λ _ h. cc) (λ _ h. cc h)
step_clean st.AfterCr c = cond_both (c == 10) (st.StartRecord, act.Skip) _ EndsClean (λ _ h. cc) (λ _. start_record_clean c)

at_some : (x y : Read) → Some x ≡ Some y → x ≡ y
at_some x y e = cc

-- a record leaves less than there was
pub next_record-shrinks : (s : State) (fields : List (List ℕ)) (field xs : List ℕ) (p : Read)
    → next_record default_config s fields field xs ≡ Some p → length p.2 + pending p.1 < length xs + pending s
unfolding next_record
next_record-shrinks s fields field [] = λ p. cond_both (ends_at_end s) (Some (fields ++ (field ∷ []), st.StartRecord, [])) None
    (λ o. o ≡ Some p → length p.2 + pending p.1 < length {A = ℕ} [] + pending s)
    (λ ends e. let q = at_some _ p e in rw (← q, ends) omega arith) (λ _ e. cc e)
next_record-shrinks s fields field (c ∷ rest) = λ p. cond_both (is_end (step default_config s c).1) _ _
    (λ o. o ≡ Some p → length p.2 + pending p.1 < suc (length rest) + pending s)
    (λ ends e. let q = at_some _ p e in rw (← q, step_clean s c ends) omega arith)
    (λ _ e. omega (arith, next_record-shrinks (step default_config s c).0 _ _ rest p e, pending_le (step default_config s c).0))

-- a record has a first field
abbrev pub HasField : List (List ℕ) → Type 0
HasField fields = IsSome (field_at fields 0)

last_field : (fields : List (List ℕ)) (field : List ℕ) → HasField (fields ++ (field ∷ []))
unfolding field_at
last_field [] field = refl
last_field (f ∷ fs) field = refl

ended_field : (a : Action) (fields : List (List ℕ)) (field : List ℕ) → is_end a ≡ true → HasField (fields_after a fields field)
ended_field act.EndField fields field h = cc h
ended_field act.Skip fields field h = cc h
ended_field act.Copy fields field h = cc h
ended_field act.EndRecord fields field h = last_field fields field

pub next_record-field : (s : State) (fields : List (List ℕ)) (field xs : List ℕ) (p : Read)
    → next_record default_config s fields field xs ≡ Some p → HasField p.0
unfolding next_record
next_record-field s fields field [] = λ p. cond_both (ends_at_end s) (Some (fields ++ (field ∷ []), st.StartRecord, [])) None
    (λ o. o ≡ Some p → HasField p.0)
    (λ _ e. let q = at_some _ p e in rw (← q) (last_field fields field)) (λ _ e. cc e)
next_record-field s fields field (c ∷ rest) = λ p. cond_both (is_end (step default_config s c).1) _ _
    (λ o. o ≡ Some p → HasField p.0)
    (λ ends e. let q = at_some _ p e in rw (← q) (ended_field (step default_config s c).1 fields field ends))
    (λ _ e. next_record-field (step default_config s c).0 _ _ rest p e)
