-- Values written over others of the same number.
use Rattle.std.proofs.Common.{◌≡◌, sym, ap, ◌∙◌, List, ◌++◌, length, take, drop, ℕ}
use Rattle.std.proofs.Math.Seq.{take-append_seam}
use lib.IntN.{ℤ}

pub written : (old new : List ℤ) → length new ≡ length old → new ≡ take (length old) (new ++ drop (length new) old)
written old new e = sym (ap (λ (n : ℕ). take n (new ++ drop (length new) old)) (sym e) ∙ take-append_seam new (drop (length new) old))
