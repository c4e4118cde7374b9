-- The records of a text. A record is a list of fields, and a field a list of bytes.
use Rattle.std.specs.Prelude.{ℕ, List, Bool, false, codes, nat_eq}
use Rattle.std.specs.List.{starts_with}
use Rattle.std.specs.Option.{option_map_or}
use Rattle.csv.specs.Reading.{default_config, records, strip_bom}
pub use Rattle.csv.specs.Records.{field_at, fields_of}

-- the records that `csv`'s machine reads by its defaults, from the bytes after a byte order mark if they begin with one
abbrev pub records_of : List ℕ → List (List (List ℕ))
records_of bytes = records default_config (strip_bom bytes)

-- whether a record is a remark: its first field begins with '#'
abbrev pub is_remark : List (List ℕ) → Bool
is_remark row = option_map_or (λ field. starts_with nat_eq field (codes "#")) (field_at row 0) false
