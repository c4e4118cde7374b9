-- The cases of a body: the sets of environments that are at 1 while the others are at 0, as masks.
use Rattle.std.specs.Prelude.{ℕ, ◌==◌, Bool, List, [], ◌∷◌, if◌then◌else◌}
use Rattle.std.specs.List.{list_any}

-- of two environments, of three and of four
abbrev pub case_masks : ℕ → List ℕ
case_masks environments =
    if environments == 2 then 1 ∷ []
    else (if environments == 3 then 1 ∷ 2 ∷ 4 ∷ [] else 1 ∷ 2 ∷ 4 ∷ 8 ∷ 3 ∷ 5 ∷ 9 ∷ [])

abbrev pub is_case : ℕ → ℕ → Bool
is_case environments mask = list_any (λ c. c == mask) (case_masks environments)
