-- The places of names in their lists.
use Rattle.std.specs.Prelude.{ℕ, ◌+◌, Bool, true, false, List, length, Option, Some, None, position}
use Rattle.std.specs.Str.{bytes_eq}
use Rattle.tb_detail.specs.Names.{Text}
use Rattle.tb_reading.specs.declared.kinds.NameKind.{NameKind}
use Rattle.tb_reading.specs.declared.kinds.NameKind.TheVariants as name

-- the first place of a name in a list of names
abbrev pub place_of : List Text → Text → Option ℕ
place_of names text = position (bytes_eq text) names

-- the names of each kind, in order
abbrev pub NamesByKind : Type 0
NamesByKind = NameKind → List Text

abbrev pub same_name_kind : NameKind → NameKind → Bool
same_name_kind name.Environment name.Environment = true
same_name_kind name.Material name.Material = true
same_name_kind name.Part name.Part = true
same_name_kind name.Psi name.Psi = true
same_name_kind name.Chi name.Chi = true
same_name_kind _ _ = false

-- whether what is declared is of this kind
abbrev pub is_of_kind : NameKind → Option NameKind → Bool
is_of_kind k None = false
is_of_kind k (Some declared) = same_name_kind k declared

-- the names over all kinds
abbrev pub name_count : NamesByKind → ℕ
name_count names =
    length (names name.Environment) + length (names name.Material) + length (names name.Part)
    + length (names name.Psi) + length (names name.Chi)
