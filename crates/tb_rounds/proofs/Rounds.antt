-- What a round's last offer makes of it.
use Rattle.std.proofs.Common.{◌≡◌, refl, sym, ap, subst, ◌^◌, List, ℤ, pos, ◌≤ℤ◌, ◌<ℤ◌, arith}
use Rattle.std.proofs.lemmas.Int.{ints}
use Rattle.tb_model.specs.Energy.{IsBalanced, flux_terms, rounded_up}
use Rattle.tb_flux.specs.Fluxes.{flux_on}
use Rattle.tb_moves.specs.Sessions.{IsHigher, IsLower, Session, lower_of, upper_of, inside_of, mesh_of, with_field, with_flux}
use Rattle.tb_moves.specs.Moves.{IsRelaxedField}
use Rattle.tb_moves.specs.FluxPasses.{IsRelaxedFlux}
use Rattle.tb_rounds.specs.Offers.{TakesHigher, TakesLower}
use Rattle.tb_rounds.specs.Rounds.{IsFieldRound, IsFluxRound, RelaxingKeepsLower, RelaxingKeepsUpper}
use Rattle.tb_rounds.specs.declared.work.Step.TheVariants.{Lowered, NoGain}

not_below_itself : (z : ℤ) → z <ℤ z → ⊥
not_below_itself z l = omega (arith, ints, l)

differ : Lowered ≡ NoGain → ⊥
differ e = cc

differ_back : NoGain ≡ Lowered → ⊥
differ_back e = cc

field_stays : (s : Session) (field : List ℤ) → IsLower s field → with_field s field ≡ s → ⊥
field_stays s field lower e = not_below_itself (upper_of s s.field) (subst (λ f. upper_of s f <ℤ upper_of s s.field) (ap (λ t. t.field) e) lower)

flux_stays : (s : Session) (flux : List ℤ) → lower_of s s.flux <ℤ lower_of s flux → with_flux s flux ≡ s → ⊥
flux_stays s flux higher e = not_below_itself (lower_of s s.flux) (subst (λ f. lower_of s s.flux <ℤ lower_of s f) (ap (λ t. t.flux) e) higher)

taken_field : (s : Session) (field : List ℤ) → IsLower s field → IsFieldRound s Lowered (with_field s field)
taken_field s field lower = record {
  alike = record { body = refl; grid = refl; case = refl };
  flux = refl;
  lowered = ((λ _. lower), (λ _. refl));
  unchanged = ((λ e. absurd (differ e)), (λ e. absurd (field_stays s field lower e)));
  relaxed = λ e. absurd (differ e);
}

pub field_taken : (s t : Session) → TakesLower s t → IsFieldRound s Lowered t
field_taken s t h = subst (IsFieldRound s Lowered) (sym h.taken) (taken_field s h.field h.lower)

kept_field : (s : Session) → RelaxingKeepsUpper s → IsFieldRound s NoGain s
kept_field s h = record {
  alike = record { body = refl; grid = refl; case = refl };
  flux = refl;
  lowered = ((λ e. absurd (differ_back e)), (λ l. absurd (not_below_itself (upper_of s s.field) l)));
  unchanged = ((λ _. refl), (λ _. refl));
  relaxed = λ _. h;
}

pub field_kept : (s t : Session) (field : List ℤ) → t ≡ s → IsRelaxedField (mesh_of s) (inside_of s) s.field field → ¬ (IsLower s field) → IsFieldRound s NoGain t
field_kept s t field e relaxed worse = subst (IsFieldRound s NoGain) (sym e) (kept_field s (record { field = field; relaxed = relaxed; no_gain = worse }))

taken_flux : (s : Session) (flux : List ℤ) → IsHigher s flux → IsFluxRound s Lowered (with_flux s flux)
taken_flux s flux h = record {
  alike = record { body = refl; grid = refl; case = refl };
  field = refl;
  lowered = ((λ _. h.higher), (λ _. refl));
  unchanged = ((λ e. absurd (differ e)), (λ e. absurd (flux_stays s flux h.higher e)));
  relaxed = λ e. absurd (differ e);
}

pub flux_taken : (s t : Session) → TakesHigher s t → IsFluxRound s Lowered t
flux_taken s t h = subst (IsFluxRound s Lowered) (sym h.taken) (taken_flux s h.flux h.higher)

kept_flux : (s : Session) → RelaxingKeepsLower s → IsFluxRound s NoGain s
kept_flux s h = record {
  alike = record { body = refl; grid = refl; case = refl };
  field = refl;
  lowered = ((λ e. absurd (differ_back e)), (λ l. absurd (not_below_itself (lower_of s s.flux) l)));
  unchanged = ((λ _. refl), (λ _. refl));
  relaxed = λ _. h;
}

-- a balanced flux whose loss is within the limit, where its lower end is at least 0, and that isn't higher
refused : (s : Session) (flux : List ℤ) → IsBalanced (mesh_of s) (flux_on s.grid flux) → (pos 0 ≤ℤ lower_of s flux → rounded_up (mesh_of s) (flux_terms (mesh_of s) (flux_on s.grid flux)) ≤ℤ pos (2 ^ 120)) →
    ¬ (IsHigher s flux) → pos 0 ≤ℤ lower_of s flux → ¬ (lower_of s s.flux <ℤ lower_of s flux)
refused s flux balanced loss worse least higher = worse (record { balanced = balanced; within = loss least; least = least; higher = higher })

pub flux_kept : (s t : Session) (flux : List ℤ) → t ≡ s → IsRelaxedFlux (mesh_of s) (inside_of s) s.flux flux → IsBalanced (mesh_of s) (flux_on s.grid flux) →
    (pos 0 ≤ℤ lower_of s flux → rounded_up (mesh_of s) (flux_terms (mesh_of s) (flux_on s.grid flux)) ≤ℤ pos (2 ^ 120)) → ¬ (IsHigher s flux) → IsFluxRound s NoGain t
flux_kept s t flux e relaxed balanced loss worse =
    subst (IsFluxRound s NoGain) (sym e) (kept_flux s (record { flux = flux; relaxed = relaxed; no_gain = refused s flux balanced loss worse }))
