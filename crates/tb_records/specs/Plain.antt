-- Plain records, whose text needs no quotes.
use Rattle.std.specs.Prelude.{ℕ, ◌==◌, ◌&&◌, ◌||◌, not, Bool, true, false, List, [], ◌∷◌, ◌++◌, nat_eq}
use Rattle.std.specs.List.{flat_map, join_with_byte, list_all, starts_with}

-- a comma, a quote, a carriage return or a line feed
abbrev pub is_special : ℕ → Bool
is_special c = c == 44 || c == 34 || c == 13 || c == 10

-- whether a field has no such byte
abbrev pub is_plain : List ℕ → Bool
is_plain field = list_all (λ c. not (is_special c)) field

-- whether the line of a record is blank: it has no field, or one empty field alone
abbrev pub is_blank : List (List ℕ) → Bool
is_blank [] = true
is_blank ([] ∷ []) = true
is_blank _ = false

-- whether a record has plain fields alone, and its line isn't blank
abbrev pub is_plain_record : List (List ℕ) → Bool
is_plain_record row = list_all is_plain row && not (is_blank row)

-- the text of a record: a comma between each two fields, and a line feed at the end
abbrev pub record_text : List (List ℕ) → List ℕ
record_text row = join_with_byte 44 row ++ 10 ∷ []

-- the text of records, one behind the other
abbrev pub records_text : List (List (List ℕ)) → List ℕ
records_text rows = flat_map record_text rows

-- whether a text begins with a byte order mark, U+FEFF in UTF-8
abbrev pub begins_with_mark : List ℕ → Bool
begins_with_mark text = starts_with nat_eq text (0xEF ∷ 0xBB ∷ 0xBF ∷ [])
