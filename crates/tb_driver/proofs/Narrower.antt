-- The narrower of a state and a plain one is a solution.
use Rattle.std.proofs.Common.{sym, subst, arith, inl, inr, ℕ, ℤ, ◌≤ℤ◌, ◌<ℤ◌}
use Rattle.std.proofs.lemmas.Int.{ints}
use Rattle.tb_detail.specs.declared.Detail.{Detail}
use Rattle.tb_grid.specs.Grid.{Axes}
use Rattle.tb_terms.specs.declared.Interval.{Interval}
use Rattle.tb_driver.specs.declared.solved.Solved.{Solved}
use Rattle.tb_driver.specs.Candidates.{IsCandidate, IsNarrowerOf, IsPlainOne}
use Rattle.tb_driver.specs.Solved.{AreInLimits, IsSolution, state_of, width_of}

module _ (d : Detail) (g : Axes) (mask width sweeps : ℕ) (first second : Solved) (one : IsCandidate d g mask width first) (other : IsCandidate d g mask width second) (plain : IsPlainOne d g mask sweeps second) where
  -- a state that is no wider than the plain one
  no_wider : (s : Solved) → IsCandidate d g mask width s → width_of s.interval ≤ℤ width_of second.interval → IsSolution d g mask width sweeps s
  no_wider s c w = record {
    proof = c.proof;
    ends = c.ends;
    narrow = inr (record {
      plain = state_of second;
      is_plain = plain;
      no_wider = subst (λ (i : Interval). width_of s.interval ≤ℤ width_of i) other.ends w;
    });
    verdict = c.verdict;
  }

  below : (x y : ℤ) → x <ℤ y → x ≤ℤ y
  below x y h = omega (arith, ints)

  itself : (x : ℤ) → x ≤ℤ x
  itself x = omega (arith, ints)

  pub chosen : (s : Solved) → IsNarrowerOf first second s → IsSolution d g mask width sweeps s
  chosen s (inl (e, l)) = subst (λ (x : Solved). IsSolution d g mask width sweeps x) (sym e) (no_wider first one (below (width_of first.interval) (width_of second.interval) l))
  chosen s (inr (e, l)) = subst (λ (x : Solved). IsSolution d g mask width sweeps x) (sym e) (no_wider second other (itself (width_of second.interval)))

  pub chosen_limits : (s : Solved) → IsNarrowerOf first second s → AreInLimits d g s
  chosen_limits s (inl (e, l)) = subst (λ (x : Solved). AreInLimits d g x) (sym e) one.limits
  chosen_limits s (inr (e, l)) = subst (λ (x : Solved). AreInLimits d g x) (sym e) other.limits
