-- The form of a name, and of names that are told apart.
use Rattle.std.specs.Prelude.{◌≢◌, ℕ, ◌==◌, ◌&&◌, ◌||◌, Bool, List, length, nat_le, All, AllPairs, IsTrue}
use Rattle.std.specs.List.{list_all}
use Rattle.tb_detail.specs.declared.limits.TheConstants.{MOST_NAME_BYTES}

abbrev pub Text : Type 0
Text = List ℕ

abbrev pub is_between : ℕ → ℕ → ℕ → Bool
is_between low high c = nat_le low c && nat_le c high

-- an ASCII letter, a digit, a space, `_`, `-` or `.`
unfoldable pub is_name_byte : ℕ → Bool
is_name_byte c =
    is_between 97 122 c || is_between 65 90 c || is_between 48 57 c || c == 32 || c == 95 || c == 45 || c == 46

-- 1 to so many of such bytes
abbrev pub is_name : Text → Bool
is_name text = is_between 1 MOST_NAME_BYTES (length text) && list_all is_name_byte text

-- the names of things have the form of a name, and no two of them are the same
pub record AreNamed {X : Type 0} (name : X → Text) (things : List X) : Type 0 where
  pub formed : All (λ thing. IsTrue (is_name (name thing))) things
  pub distinct : AllPairs (λ thing other. name thing ≢ name other) things
