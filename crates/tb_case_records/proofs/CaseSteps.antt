-- The records of a case one behind the other.
use Rattle.std.proofs.Common.{◌≡◌, ◌∙◌, ap, refl, sym, subst, ℕ, zero, suc, ◌+◌, ◌-◌, ◌*◌, List, [], ◌∷◌, ◌++◌, length, drop, arith}
use Rattle.tb_reading.specs.Reading.{Numbered}
use Rattle.tb_reading.specs.Records.{Row}
use Rattle.tb_case_records.specs.Cases.{cells_in, lines_in, row_at}
use Rattle.tb_case_records.specs.Rows.{numbers}
use Rattle.tb_case_records.specs.Table.{line_reading}

pub row_at_drop : (k i : ℕ) (given : List Numbered) → row_at (drop k given) i ≡ row_at given (k + i)
row_at_drop zero i given = ap (row_at given) at
  where
    at : i ≡ 0 + i
    at = omega arith
row_at_drop (suc k) i [] = refl
row_at_drop (suc k) i (r ∷ given) = row_at_drop k i given ∙ ap (row_at (r ∷ given)) at
  where
    at : suc (k + i) ≡ suc k + i
    at = omega arith

pub lines_at : (k : ℕ) (given mid : List Numbered) → mid ≡ drop k given → lines_in mid 0 ≡ lines_in given k
lines_at k given mid e =
    ap (λ (g : List Numbered). lines_in g 0) e
    ∙ ap (λ (row : Row). numbers line_reading (drop 1 row)) (row_at_drop k 0 given ∙ ap (row_at given) at)
  where
    at : k + 0 ≡ k
    at = omega arith

-- the cells of an interval of the third axis
pub cells_are : (given : List Numbered) (x y : List ℕ) (a b : ℕ) → a ≡ length x → b ≡ length y → x ≡ lines_in given 1 → y ≡ lines_in given 2
    → (a - 1) * (b - 1) ≡ cells_in given 1 * cells_in given 2
cells_are given x y a b e f h k = ap (λ (n : ℕ). (n - 1) * (b - 1)) (e ∙ ap length h) ∙ ap (λ (n : ℕ). cells_in given 1 * (n - 1)) (f ∙ ap length k)
