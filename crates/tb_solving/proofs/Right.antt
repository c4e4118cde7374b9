-- A solution on a grid that carries its body makes a certified case, and solved cases a certified bundle.
use Rattle.std.proofs.Common.{◌≡◌, ◌↔◌, refl, sym, subst, arith, ℕ, ◌+◌, ◌^◌, ◌<◌, ◌≤◌, ◌++◌, length, take, List, [], ◌∷◌, All, get_or, Result, Ok, Err, ℤ, unsigned_abs}
use Rattle.std.specs.Prelude.{IfOk}
use Rattle.std.proofs.lemmas.Int.{ints}
use Rattle.std.proofs.lemmas.List.{take_more}
use Rattle.std.proofs.lemmas.List.Elements.{All-cons, All-nil}
use Rattle.tb_places.specs.declared.AxisName.{AxisName}
use Rattle.tb_places.specs.declared.AxisName.TheVariants.{X, Y, Z}
use Rattle.tb_detail.specs.declared.Detail.{Detail}
use Rattle.tb_detail.specs.Limits.{InLimits}
use Rattle.tb_grid.specs.Grid.{Axes, IsGrid, lines_of}
use Rattle.tb_model.specs.Refinement.{scene_of}
use Rattle.tb_model.specs.Soundness.{IsSound}
use Rattle.tb_model.specs.Values.{case_of}
use Rattle.tb_terms.specs.declared.Interval.{Interval}
use Rattle.tb_geometry.specs.Base.{base_axes, base_lines}
use Rattle.tb_geometry.specs.Cases.{case_masks}
use Rattle.tb_geometry.specs.Faults.{IsAccepted}
use Rattle.tb_geometry.specs.Grids.{CarriesBody, CarriesLines}
use Rattle.tb_geometry.proofs.Carrying.{carries_from_refines}
use Rattle.tb_geometry.proofs.Tables.{base_lines_of}
use Rattle.tb_field.specs.Fields.{AreTemperatures, field_on}
use Rattle.tb_flux.specs.Fluxes.{AreFlows, flux_on}
use Rattle.tb_duality.proofs.BodyEnds.{ends_sound}
use Rattle.tb_case_records.specs.declared.case.CaseProof.{CaseProof}
use Rattle.tb_case_records.specs.declared.ends.Verdict.{Verdict}
use Rattle.tb_case_records.specs.declared.ends.Verdict.TheVariants.{Done, GridLimit, SweepsSpent}
use Rattle.tb_case_records.specs.Limits.{CaseInLimits, IsEnd, IsFaceValue, IsNodeValue, IsOnBase}
use Rattle.tb_bundle.specs.Bodies.{case_form, case_forms_from}
use Rattle.tb_bundle.specs.Limits.{CasesInLimits}
use Rattle.tb_checker.specs.Contents.{AreCertified, IsCertifiedCase}
use Rattle.tb_driver.specs.declared.solved.Solved.{Solved}
use Rattle.tb_driver.specs.Solved.{AreInLimits, IsReached, IsSolution, IsVerdict}
use Rattle.tb_solving.specs.declared.cases.Target.{Target}
use Rattle.tb_solving.specs.Certified.{AreRightCases, IsRightCase, case_with}
use Rattle.tb_solving.specs.Solved.{AreSolvedCases}

-- the verdict is Done exactly where the width is reached
done_so : (v : Verdict) (Reached Settled : Type 0) → IsVerdict v Reached Settled → (v ≡ Done) ↔ Reached
done_so Done Reached Settled h = (λ _. h, λ _. refl)
done_so GridLimit Reached Settled h = (λ e. absurd (cc), λ r. absurd (h.0 r))
done_so SweepsSpent Reached Settled h = (λ e. absurd (cc), λ r. absurd (h.0 r))

node_values : (values : List ℤ) → AreTemperatures values → All IsNodeValue values
node_values values each = λ k e within. let x = each k e within in (x.least, omega (arith, ints, x.least, x.most))

face_values : (values : List ℤ) → AreFlows values → All IsFaceValue values
face_values values each = λ k e within. (each k e within).at_most

low_in_limits : (z : ℤ) → unsigned_abs z ≤ 2 ^ 121 → IsEnd z
low_in_limits z h = omega (arith, h)

high_in_limits : (z : ℤ) → unsigned_abs z ≤ 2 ^ 120 → IsEnd z
high_in_limits z h = omega (arith, h)

-- the base lines of a body on each axis are carried by a grid that carries the body
pub on_base : (d : Detail) (base g : Axes) → base ≡ base_axes d.boxes → IsGrid base → IsGrid g → CarriesBody g d → (a : AxisName) → IsOnBase (base_lines a d.boxes) (lines_of g a)
on_base d base g is base_grid grid carries a =
    let some : 1 ≤ length (lines_of base a) = omega (arith, (base_grid.axes a).least) in record {
      some = subst (λ (lines : List ℕ). 1 ≤ length lines) (base_lines_of base d.boxes is a) some;
      carries = subst (λ (lines : List ℕ). CarriesLines lines (lines_of g a)) (base_lines_of base d.boxes is a) (carries_from_refines d base g is base_grid grid carries a);
    }

-- ---- one case

module _ (d : Detail) (g : Axes) (t : Target) (mask : ℕ) (s : Solved) (limits : InLimits d) (carries : CarriesBody g d) (grid : IsGrid g)
    (on_x : IsOnBase (base_lines X d.boxes) g.x) (on_y : IsOnBase (base_lines Y d.boxes) g.y) (on_z : IsOnBase (base_lines Z d.boxes) g.z)
    (width : t.width ≤ 10 ^ 9) (solution : IsSolution d g mask t.width t.sweeps s) (ends : AreInLimits d g s) where
  abbrev case : CaseProof
  case = case_with mask g t.width s

  certified : IsCertifiedCase d case
  certified = record {
    carries = carries;
    balanced = solution.proof.balanced;
    loss = ends.loss;
    ends = solution.ends;
    verdict = done_so s.verdict (IsReached t.width s.interval) _ solution.verdict;
    sound = subst (λ (i : Interval). IsSound (scene_of d) (case_of mask) i.lo i.hi) (sym solution.ends)
        (ends_sound d limits g g (case_of mask) (field_on g s.field) (flux_on g s.flux) carries carries solution.proof.balanced);
  }

  in_limits : (number : ℕ) → CaseInLimits (case_form d number mask) case
  in_limits number = record {
    case = refl;
    grid = grid;
    on_x = on_x;
    on_y = on_y;
    on_z = on_z;
    field = record { one_each = solution.proof.nodes; each = node_values s.field solution.proof.temperatures };
    flux = record { one_each = solution.proof.faces; each = face_values s.flux solution.proof.flows };
    low_end = low_in_limits s.interval.lo ends.small.low;
    high_end = high_in_limits s.interval.hi ends.small.high;
    width = width;
  }

  pub right : IsRightCase d g t mask case
  right = record {
    solved = record { set = refl; grid = refl; width = refl; solution = solution };
    certified = certified;
    limits = in_limits;
  }

-- ---- lists of cases

module _ (d : Detail) (g : Axes) (t : Target) where
  pub one_more : (masks : List ℕ) (cs : List CaseProof) (mask : ℕ) (c : CaseProof) → AreRightCases d g t masks cs → IsRightCase d g t mask c
      → AreRightCases d g t (masks ++ mask ∷ []) (cs ++ c ∷ [])
  one_more [] [] mask c h r = (r, tt)
  one_more [] (b ∷ cs) mask c h r = absurd h
  one_more (m ∷ masks) [] mask c h r = absurd h
  one_more (m ∷ masks) (b ∷ cs) mask c h r = (h.0, one_more masks cs mask c h.1 r)

  pub next_right : (masks : List ℕ) (cs more : List CaseProof) (i : ℕ) (c : CaseProof) → i < length masks → more ≡ cs ++ c ∷ []
      → AreRightCases d g t (take i masks) cs → IsRightCase d g t (get_or masks i 0) c → AreRightCases d g t (take (i + 1) masks) more
  next_right masks cs more i c within e h r =
      let longer : take (i + 1) masks ≡ take i masks ++ (get_or masks i 0 ∷ []) = take_more masks i 0 within in
      subst (λ (xs : List CaseProof). AreRightCases d g t (take (i + 1) masks) xs) (sym e)
      (subst (λ (ms : List ℕ). AreRightCases d g t ms (cs ++ c ∷ [])) (sym longer) (one_more (take i masks) cs (get_or masks i 0) c h r))

  pub solved : (masks : List ℕ) (cs : List CaseProof) → AreRightCases d g t masks cs → AreSolvedCases d g t masks cs
  solved [] [] h = tt
  solved [] (b ∷ cs) h = absurd h
  solved (m ∷ masks) [] h = absurd h
  solved (m ∷ masks) (b ∷ cs) h = (h.0.solved, solved masks cs h.1)

  pub all_certified : (masks : List ℕ) (cs : List CaseProof) → AreRightCases d g t masks cs → All (IsCertifiedCase d) cs
  all_certified [] [] h = All-nil (IsCertifiedCase d)
  all_certified [] (b ∷ cs) h = absurd h
  all_certified (m ∷ masks) [] h = absurd h
  all_certified (m ∷ masks) (b ∷ cs) h = All-cons (IsCertifiedCase d) b cs h.0.certified (all_certified masks cs h.1)

  pub all_in_limits : (number : ℕ) (masks : List ℕ) (cs : List CaseProof) → AreRightCases d g t masks cs → CasesInLimits (case_forms_from d number masks) cs
  all_in_limits number [] [] h = tt
  all_in_limits number [] (b ∷ cs) h = absurd h
  all_in_limits number (m ∷ masks) [] h = absurd h
  all_in_limits number (m ∷ masks) (b ∷ cs) h = (h.0.limits number, all_in_limits (number + 1) masks cs h.1)

  pub all_right : (masks : List ℕ) (cs : List CaseProof) → masks ≡ case_masks (length d.environments) → InLimits d → IsAccepted d → AreRightCases d g t masks cs
      → AreCertified (record { detail = d; cases = cs })
  all_right masks cs e limits accepted h =
      let each : AreRightCases d g t (case_masks (length d.environments)) cs = subst (λ (ms : List ℕ). AreRightCases d g t ms cs) e h in record {
        limits = record { detail = limits; environments = accepted.environments; cases = all_in_limits 1 (case_masks (length d.environments)) cs each };
        body = accepted;
        cases = all_certified (case_masks (length d.environments)) cs each;
      }

pub for_ok : {A E : Type 0} (r : Result A E) (P Q : A → Type 0) → IfOk r P → ((a : A) → P a → Q a) → IfOk r Q
for_ok (Ok a) P Q h f = f a h
for_ok (Err e) P Q h f = tt
