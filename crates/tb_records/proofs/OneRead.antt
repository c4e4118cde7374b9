-- From what `csv` says of one read to the records that are left before and after it.
use Rattle.std.proofs.Common.{◌≡◌, refl, ℕ, List, [], ◌∷◌, Bool, true, false, Option, Some, None}
use Rattle.std.specs.Prelude.{IsSome, MatchBool, not}
use Rattle.csv.specs.Machine.{Read, next_record}
use Rattle.csv.specs.Reading.{NextIs, ReadRecord, ReadsNext, Ready, default_config, reader_state, reader_trim}
use Rattle.csv.specs.declared.parser.State.{State}
use Rattle.csv.specs.declared.reader.Trim.TheVariants as trim
use Rattle.tb_records.specs.Ahead.{IsReading, SliceReader, bytes_ahead, records_after, records_ahead, records_left}
use Rattle.tb_records.proofs.Machine.{HasField, next_record-field}
use Rattle.tb_records.proofs.Turns.{records_after-none, records_after-some}

-- the bytes that are known
known_bytes : (o : Option (List ℕ)) → IsSome o → (xs : List ℕ) × (o ≡ Some xs)
known_bytes None h = cc h
known_bytes (Some xs) h = (xs, refl)

-- a read with a record takes the first of those ahead
abbrev TakesFirst : State → List ℕ → List (List ℕ) → State → Option (List ℕ) → Type 0
TakesFirst s xs fields s2 after = (records_after s xs ≡ fields ∷ records_ahead s2 after) × HasField fields

taken_first : (s s2 : State) (xs ys : List ℕ) (fields : List (List ℕ)) (o : Option Read) → next_record default_config s [] [] xs ≡ o
    → NextIs o true fields s2 ys → TakesFirst s xs fields s2 (Some ys)
taken_first s s2 xs ys fields None e n = cc n
taken_first s s2 xs ys fields (Some p) e n =
    (rw (n.1, n.2, n.3) (records_after-some s xs p e), rw n.1 (next_record-field s [] [] xs p e))

first_read : (s s2 : State) (xs : List ℕ) (after : Option (List ℕ)) (fields : List (List ℕ))
    → ReadsNext default_config s (Some xs) after true fields s2 → TakesFirst s xs fields s2 after
first_read s s2 xs None fields r = absurd r
first_read s s2 xs (Some ys) fields r = taken_first s s2 xs ys fields (next_record default_config s [] [] xs) refl r

-- a read with none is at the end of them
none_next : (o : Option Read) (fields : List (List ℕ)) (s : State) (ys : List ℕ) → NextIs o false fields s ys → o ≡ None
none_next None fields s ys n = refl
none_next (Some p) fields s ys n = cc n.0

none_read : (s s2 : State) (xs : List ℕ) (after : Option (List ℕ)) (fields : List (List ℕ))
    → ReadsNext default_config s (Some xs) after false fields s2 → records_after s xs ≡ []
none_read s s2 xs None fields r = absurd r
none_read s s2 xs (Some ys) fields r = records_after-none s xs (none_next _ fields s2 ys r)

-- what `csv` says of a read over a slice
abbrev ReadsOne : SliceReader → SliceReader → List (List ℕ) → Bool → Type 0
ReadsOne a b fields found = reader_trim a ≡ trim.None → Ready a → ReadRecord (λ s. Some s.now) a b found fields

-- what it comes to: the first of the records ahead, or none
abbrev LeavesRest : SliceReader → SliceReader → List (List ℕ) → Bool → Type 0
LeavesRest a b fields found = MatchBool found (records_left false a ≡ fields ∷ records_left (not found) b) (records_left false a ≡ [])

pub leaves_rest : (a b : SliceReader) (fields : List (List ℕ)) (found : Bool) → IsReading a → ReadsOne a b fields found
    → LeavesRest a b fields found
leaves_rest a b fields true reading reads =
    let r = reads reading.trim reading.ready in
    let before = known_bytes (bytes_ahead a) reading.known in
    let next = rw (reading.config, before.1) at r.0 in
    rw (before.1, r.1) (first_read (reader_state a) (reader_state b) before.0 _ fields next).0
leaves_rest a b fields false reading reads =
    let r = reads reading.trim reading.ready in
    let before = known_bytes (bytes_ahead a) reading.known in
    let next = rw (reading.config, before.1) at r.0 in
    rw before.1 (none_read (reader_state a) (reader_state b) before.0 _ fields next)

pub read_field : (a b : SliceReader) (fields : List (List ℕ)) → IsReading a → ReadsOne a b fields true → HasField fields
read_field a b fields reading reads =
    let r = reads reading.trim reading.ready in
    let before = known_bytes (bytes_ahead a) reading.known in
    let next = rw (reading.config, before.1) at r.0 in
    (first_read (reader_state a) (reader_state b) before.0 _ fields next).1
