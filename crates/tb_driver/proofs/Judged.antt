-- A session's state as a candidate of a search.
use Rattle.std.proofs.Common.{◌≡◌, ◌∙◌, ap, sym, subst, ℕ, ◌^◌, List, ℤ, pos, ◌≤ℤ◌}
use Rattle.tb_detail.specs.declared.Detail.{Detail}
use Rattle.tb_grid.specs.Grid.{Axes}
use Rattle.tb_model.specs.Energy.{flux_terms, rounded_up}
use Rattle.tb_terms.specs.declared.Interval.{Interval}
use Rattle.tb_geometry.specs.declared.case.Case.{Case}
use Rattle.tb_flux.specs.Fluxes.{flux_on}
use Rattle.tb_case_records.specs.declared.ends.Verdict.{Verdict}
use Rattle.tb_weighted.specs.Moves.{State}
use Rattle.tb_moves.specs.Moves.{IsPlain, IsSettled}
use Rattle.tb_moves.specs.Sessions as sessions
use Rattle.tb_moves.specs.Sessions.{AreAlike, IsKept, Session, inside_of, lower_of, mesh_of, upper_of}
use Rattle.tb_driver.specs.declared.solved.Solved.{Solved}
use Rattle.tb_driver.specs.Candidates.{IsCandidate, IsPlainOne}
use Rattle.tb_driver.specs.Solved.{AreSmall, IsReached, IsVerdict, state_of}
use Rattle.tb_driver.proofs.Plain.{in_place}

abbrev between : ℤ → ℤ → Interval
between lo hi = record { lo = lo; hi = hi }

abbrev found : List ℤ → List ℤ → Interval → Verdict → Solved
found field flux i v = record { field = field; flux = flux; interval = i; verdict = v }

module _ (s : Session) (width : ℕ) (i : Interval) (v : Verdict) (kept : IsKept s)
    (loss : rounded_up (mesh_of s) (flux_terms (mesh_of s) (flux_on s.grid s.flux)) ≤ℤ pos (2 ^ 120)) (small : AreSmall i)
    (low : i.lo ≡ lower_of s s.flux) (high : i.hi ≡ upper_of s s.field)
    (verdict : IsVerdict v (IsReached width i) (IsSettled (mesh_of s) (inside_of s) (sessions.state_of s))) where
  here : IsCandidate s.body s.grid s.case.mask width (found s.field s.flux i v)
  here = record {
    proof = record {
      nodes = kept.field_fits;
      temperatures = kept.field_limits;
      faces = kept.flux_fits;
      flows = kept.flux_limits;
      balanced = kept.balanced;
    };
    ends = ap (λ (lo : ℤ). between lo i.hi) low ∙ ap (λ (hi : ℤ). between (lower_of s s.flux) hi) high;
    verdict = verdict;
    limits = record { loss = loss; small = small };
  }

  -- with its field and its flux taken out
  pub candidate : (field flux : List ℤ) → field ≡ s.field → flux ≡ s.flux → IsCandidate s.body s.grid s.case.mask width (found field flux i v)
  candidate field flux e f =
      subst (λ (x : List ℤ). IsCandidate s.body s.grid s.case.mask width (found x flux i v)) (sym e)
      (subst (λ (x : List ℤ). IsCandidate s.body s.grid s.case.mask width (found s.field x i v)) (sym f) here)

-- ---- of a new session

module _ (d : Detail) (g : Axes) (case : Case) (field flux : List ℤ) (s t : Session) (new : s ≡ record { body = d; grid = g; case = case; field = field; flux = flux }) where
  pub candidate_in : (width : ℕ) (r : Solved) → AreAlike s t → IsCandidate t.body t.grid t.case.mask width r → IsCandidate d g case.mask width r
  candidate_in width r alike h =
      subst (λ (x : Session). IsCandidate x.body x.grid x.case.mask width r) new (in_place (λ d g c. IsCandidate d g c.mask width r) s t alike h)

  pub plain_in : (n : ℕ) (r : Solved) → IsPlain (mesh_of s) (inside_of s) n (sessions.state_of t) → state_of r ≡ sessions.state_of t → IsPlainOne d g case.mask n r
  plain_in n r h e =
      subst (λ (x : Session). IsPlain (mesh_of x) (inside_of x) n (state_of r)) new (subst (λ (x : State). IsPlain (mesh_of s) (inside_of s) n x) (sym e) h)
