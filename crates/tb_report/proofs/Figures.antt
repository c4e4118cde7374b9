-- The figures of a checked bundle are sound.
use Rattle.std.proofs.Common.{◌≢◌, subst, ℕ, zero, suc, ◌+◌, ◌<◌, ◌≤◌, List, [], ◌∷◌, length, get_or, map, arith, All, inl, inr}
use Rattle.std.specs.Prelude.{nat_lt, slice_index, slice_index_or}
use Rattle.std.proofs.lemmas.Bool.{cases_Bool}
use Rattle.std.proofs.lemmas.Bool.Decides.{nat_tests}
use Rattle.std.proofs.lemmas.List.Elements.{All-head, All-tail}
use Rattle.tb_detail.specs.declared.Detail.{Detail}
use Rattle.tb_detail.specs.declared.limits.TheConstants.{MOST_ENVIRONMENTS}
use Rattle.tb_geometry.specs.declared.case.Case.{Case}
use Rattle.tb_geometry.specs.Cases.{case_masks}
use Rattle.tb_model.specs.Refinement.{scene_of}
use Rattle.tb_model.specs.Soundness.{IsSound}
use Rattle.tb_model.specs.Values.{case_of}
use Rattle.tb_conduct.specs.Coupling.{AreSound, IsSoundPair}
use Rattle.tb_conduct.specs.Pairs.{highest, lowest, no_heat}
use Rattle.tb_conduct.proofs.Halves.{pair_sound}
use Rattle.tb_case_records.specs.declared.case.CaseProof.{CaseProof}
use Rattle.tb_bundle.specs.Bodies.{case_forms_from}
use Rattle.tb_bundle.specs.Limits.{CasesInLimits}
use Rattle.tb_bundle.specs.declared.bundle.Bundle.{Bundle}
use Rattle.tb_checker.specs.Contents.{AreCertified, IsCertifiedCase}
use Rattle.tb_report.specs.Sound.{HasSoundFigures, earlier, later}
use Rattle.tb_report.specs.Texts.{intervals_of}
use Rattle.tb_report.specs.Values.{coupling, planar_term}
use Rattle.tb_report.proofs.Transmittances.{chi_sound, psi_sound}
use Rattle.tb_report.proofs.UValues.{answer_holds}

-- the interval in each place is sound for the set of this place
each_sound : (d : Detail) (number : ℕ) (masks : List ℕ) (cs : List CaseProof) → CasesInLimits (case_forms_from d number masks) cs → All (IsCertifiedCase d) cs → (place : ℕ) → place < length masks →
    IsSound (scene_of d) (case_of (slice_index masks place)) (slice_index_or (map (λ c. c.interval) cs) place no_heat).lo (slice_index_or (map (λ c. c.interval) cs) place no_heat).hi
each_sound d number [] cs h each place within = absurd (omega arith)
each_sound d number (mask ∷ masks) [] h each place within = absurd h
each_sound d number (mask ∷ masks) (c ∷ cs) h each zero within =
    subst (λ (set : Case). IsSound (scene_of d) (case_of set.mask) c.interval.lo c.interval.hi) h.0.case (All-head (IsCertifiedCase d) c cs each).sound
each_sound d number (mask ∷ masks) (c ∷ cs) h each (suc place) within =
    each_sound d (number + 1) masks cs h.1 (All-tail (IsCertifiedCase d) c cs each) place (omega (arith, within))

pub intervals_sound : (b : Bundle) → AreCertified b → AreSound b.detail (intervals_of b)
intervals_sound b certified place within =
    each_sound b.detail 1 (case_masks (length b.detail.environments)) b.cases certified.limits.cases certified.cases place within

few : {n : ℕ} → n ≤ MOST_ENVIRONMENTS → n ≤ 4
few h = h

pub pairs_sound : (b : Bundle) → AreCertified b → (i j : ℕ) → i < j → j < length b.detail.environments →
    IsSoundPair (scene_of b.detail) i j (lowest (length b.detail.environments) (intervals_of b) i j) (highest (length b.detail.environments) (intervals_of b) i j)
pairs_sound b certified i j ordered known =
    pair_sound b.detail (intervals_of b) i j certified.limits.detail certified.limits.environments (few certified.limits.detail.few.environments) (intervals_sound b certified) ordered known

coupling_sound : (b : Bundle) → AreCertified b → (i j : ℕ) → i < length b.detail.environments → j < length b.detail.environments → i ≢ j →
    IsSoundPair (scene_of b.detail) (earlier i j) (later i j) (coupling b.detail (intervals_of b) i j).lo (coupling b.detail (intervals_of b) i j).hi
coupling_sound b certified i j known_i known_j differ = elim (cases_Bool (nat_lt i j)) [
  | inl t ↦ rw t (pairs_sound b certified i j (grind (arith, nat_tests)) known_j)
  | inr f ↦ rw f (pairs_sound b certified j i (grind (arith, nat_tests)) known_i)
]

pub figures_sound : (b : Bundle) → AreCertified b → HasSoundFigures b
figures_sound b certified =
    let d = b.detail in
    let limits = certified.limits.detail in record {
      pairs = pairs_sound b certified;
      parts = λ k none within value is.
          answer_holds d (get_or d.parts k none) value (record { conductivities = limits.conductivities; part = limits.parts k none within }) is;
      psis = λ k none within u holds.
          let p = get_or d.psis k none in
          let pair = (limits.psis k none within).pair in
          psi_sound (scene_of d) (earlier p.first p.second) (later p.first p.second) (coupling d (intervals_of b) p.first p.second) (map (planar_term d) p.lengths) u
          (coupling_sound b certified p.first p.second pair.first_known pair.second_known pair.differ) holds;
      chis = λ k none within u v holds holds_lines.
          let c = get_or d.chis k none in
          let pair = (limits.chis k none within).pair in
          chi_sound (scene_of d) (earlier c.first c.second) (later c.first c.second) (coupling d (intervals_of b) c.first c.second) (map (planar_term d) c.areas) c.lines u v
          (coupling_sound b certified c.first c.second pair.first_known pair.second_known pair.differ) holds holds_lines;
    }
