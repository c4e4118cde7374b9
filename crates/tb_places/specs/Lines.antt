-- Lines along an axis, as a rising list of coordinates.
use Rattle.std.specs.Prelude.{ℕ, List, [], ◌∷◌, nat_lt, nat_eq, if◌then◌else◌}

-- a rising list with one line more, at its place; the list as it is where it has the line
abbrev pub with_line : ℕ → List ℕ → List ℕ
with_line q [] = q ∷ []
with_line q (x ∷ xs) = if nat_lt q x then q ∷ x ∷ xs else (if nat_eq q x then x ∷ xs else x ∷ with_line q xs)
