-- Lists put one behind the other.
use Rattle.std.specs.Prelude.{ℕ, zero, suc, List, [], ◌++◌}

-- f 0 ++ f 1 ++ .. ++ f (n - 1)
abbrev pub joined : {A : Type 0} → ℕ → (ℕ → List A) → List A
joined zero f = []
joined (suc n) f = joined n f ++ f n
