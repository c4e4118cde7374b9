-- What sources and sinks do to the bytes that they tell.
use Rattle.std.specs.Prelude.{◌≡◌, ◌<◌, ◌≤◌, ◌++◌, ℕ, List, take, length, Option, Result, Ok, Err}
use Rattle.std.specs.Io.KnownBytes.{append_known, prepend_known}
use Rattle.tb_outside.specs.declared.Failed.{Failed}
-- nothing is left, where the bytes are told
pub use Rattle.std.specs.Io.KnownBytes.{IsAtEnd}

-- old is these bytes and then new, where the bytes are told; they are told after exactly where they were told before
abbrev pub Takes : Option (List ℕ) → Option (List ℕ) → List ℕ → Type 0
Takes old new bytes = old ≡ prepend_known bytes new

-- new is old and then these bytes, where the bytes are told; they are told after exactly where they were told before
abbrev pub Adds : Option (List ℕ) → Option (List ℕ) → List ℕ → Type 0
Adds old new bytes = new ≡ append_known old bytes

-- just so many bytes were taken
abbrev pub TakesExactly : Option (List ℕ) → Option (List ℕ) → ℕ → Type 0
TakesExactly old new count = (bytes : List ℕ) × (length bytes ≡ count) × Takes old new bytes

-- no more than so many bytes were taken
abbrev pub TakesAtMost : Option (List ℕ) → Option (List ℕ) → ℕ → Type 0
TakesAtMost old new count = (bytes : List ℕ) × (length bytes ≤ count) × Takes old new bytes

-- a read gave the next n bytes at the front of the buffer, and none only where it has no room or nothing is left; one that failed took nothing
abbrev pub Reads : Option (List ℕ) → Option (List ℕ) → List ℕ → Result ℕ Failed → Type 0
Reads old new buf (Ok n) = (n ≤ length buf) × Takes old new (take n buf) × (n ≡ 0 → 0 < length buf → IsAtEnd old)
Reads old new buf (Err e) = new ≡ old

-- a put appended the first n bytes of the piece, and none only where the piece is empty; one that failed appended nothing
abbrev pub Puts : Option (List ℕ) → Option (List ℕ) → List ℕ → Result ℕ Failed → Type 0
Puts old new piece (Ok n) = (n ≤ length piece) × (0 < length piece → 0 < n) × Adds old new (take n piece)
Puts old new piece (Err e) = new ≡ old

-- a read put n more bytes behind those that were kept before
pub record ReadMore (old new : Option (List ℕ)) (kept grown : List ℕ) (room n : ℕ) : Type 0 where
  pub piece : List ℕ
  pub grows : grown ≡ kept ++ piece
  pub count : length piece ≡ n
  pub takes : Takes old new piece
  pub fits : n ≤ room
  pub end : n ≡ 0 → IsAtEnd new

-- a front of the text was appended
abbrev pub WritesFront : Option (List ℕ) → Option (List ℕ) → List ℕ → Type 0
WritesFront old new text = (n : ℕ) × (n ≤ length text) × Adds old new (take n text)

-- the whole text was appended, or a front of it where the sink failed
abbrev pub Writes : {E : Type 0} → Option (List ℕ) → Option (List ℕ) → List ℕ → Result (Unit {0}) E → Type 0
Writes old new text (Ok u) = Adds old new text
Writes old new text (Err e) = WritesFront old new text
