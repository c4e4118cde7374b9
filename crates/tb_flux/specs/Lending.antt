-- What a flux ends as, where a `&mut` to its flows is lent.
use Rattle.std.specs.Prelude.{List, ℤ, length, ◌++◌, take, drop}
use Rattle.std.specs.Borrow.{Array, Fml, Lends, MutBor, i64}
use Rattle.tb_flux.specs.contracts.flux.Flux.{the_row}

-- flows with others written over them from the first on
abbrev pub written_over : List ℤ → List ℤ → List ℤ
written_over old new = take (length old) (new ++ drop (length new) old)

abbrev pub LendsFlows : MutBor (List ℤ) → MutBor (List ℤ) → Fml
LendsFlows s r = Lends the_row (Array i64 0) s r (written_over s.now)
