-- What a reader over a slice has ahead of it.
use Rattle.std.specs.Prelude.{◌≡◌, ◌+◌, ℕ, List, [], Option, Some, None, Bool, true, false, IsSome, length}
use Rattle.std.specs.Borrow.{Bor}
use Rattle.csv.specs.Reading.{Ready, default_config, is_flexible, reader_config, reader_state, reader_trim, records_from, source_of}
use Rattle.csv.specs.declared.parser.State.{State}
use Rattle.csv.specs.declared.reader.Reader.{Reader}
use Rattle.csv.specs.declared.reader.Trim.TheVariants as trim

-- a reader of `csv` over a slice
abbrev pub SliceReader : Type 0
SliceReader = Reader (Bor (List ℕ))

-- the bytes that a reader has yet to read
abbrev pub bytes_ahead : SliceReader → Option (List ℕ)
bytes_ahead r = source_of (λ s. Some s.now) r

-- the records from a state on: inside a record there may be one more than there are bytes
unfoldable pub records_after : State → List ℕ → List (List (List ℕ))
records_after s bytes = records_from default_config (length bytes + 2) s bytes

-- the same, none where the bytes are not known
abbrev pub records_ahead : State → Option (List ℕ) → List (List (List ℕ))
records_ahead s None = []
records_ahead s (Some bytes) = records_after s bytes

-- the records that a reader has left, none once it is done
abbrev pub records_left : Bool → SliceReader → List (List (List ℕ))
records_left true r = []
records_left false r = records_ahead (reader_state r) (bytes_ahead r)

-- a reader that reads by the defaults, without a header record and with any number of fields
pub record IsReading (r : SliceReader) : Type 0 where
  pub config : reader_config r ≡ default_config
  pub trim : reader_trim r ≡ trim.None
  pub flexible : is_flexible r ≡ true
  pub ready : Ready r
  pub known : IsSome (bytes_ahead r)
