-- What a field ends as, where a `&mut` to its values is lent.
use Rattle.std.specs.Prelude.{List, ℤ, length, ◌++◌, take, drop}
use Rattle.std.specs.Borrow.{Array, Fml, Lends, MutBor, i64}
use Rattle.tb_field.specs.contracts.field.Field.{the_row}

-- values with others written over them from the first on
abbrev pub written_over : List ℤ → List ℤ → List ℤ
written_over old new = take (length old) (new ++ drop (length new) old)

abbrev pub LendsTemperatures : MutBor (List ℤ) → MutBor (List ℤ) → Fml
LendsTemperatures s r = Lends the_row (Array i64 0) s r (written_over s.now)
