-- Lists of whole numbers that aren't told apart are one.
use Rattle.std.proofs.Common.{◌≡◌, ◌≢◌, Bool, true, false, List, rules}
use Rattle.std.specs.Bool.{Decides}
use Rattle.std.specs.Cmp.Lexicographic.{pointwise}
use Rattle.std.specs.Cmp.Rules.{signed_items}
use Rattle.std.specs.Ordering.{int_eq}
use lib.IntN.{ℤ}

decided : (b : Bool) (P : Type 0) → Decides b P → ((P → ⊥) → ⊥) → P
decided true P d n = search rules
decided false P d n = search rules

pub same_lists : (xs ys : List ℤ) → ((xs ≢ ys) → ⊥) → xs ≡ ys
same_lists xs ys n = decided (pointwise int_eq xs ys) (xs ≡ ys) (signed_items xs ys) n
