-- Records have one first fault at most, and none where nothing is wrong.
use Rattle.std.proofs.Common.{◌≡◌, ◌∙◌, ap, refl, sym, subst, ℕ, ℤ, ◌<◌, List, [], ◌∷◌, drop, Option, Some, None, Result, Ok, Err, inl, inr, ⊎_elim}
use Rattle.std.proofs.lemmas.Bool.{cases_order}
use Rattle.std.specs.Prelude.{pos}
use Rattle.tb_math.specs.Rational.{int}
use Rattle.tb_math.specs.Ceiling.{ceiling}
use Rattle.tb_math.proofs.CeilingLaws.{ceiling-int}
use Rattle.tb_places.specs.declared.Place.{Place}
use Rattle.tb_places.specs.Inverse.{cell_place}
use Rattle.tb_places.proofs.Cells.{cell_place_of_number}
use Rattle.tb_detail.specs.declared.Detail.{Detail}
use Rattle.tb_detail.specs.Limits.{InLimits}
use Rattle.tb_grid.specs.declared.ids.CellId.{CellId}
use Rattle.tb_grid.specs.declared.ids.FaceId.{FaceId}
use Rattle.tb_model.specs.Energy.{Flux, outflow}
use Rattle.tb_model.specs.Faults.{IsFirstOuter, IsFirstUnbalanced}
use Rattle.tb_model.specs.Mesh.{Mesh}
use Rattle.tb_geometry.specs.declared.fault.BodyFault.{BodyFault}
use Rattle.tb_geometry.specs.Faults.{HasFault, IsAccepted}
use Rattle.tb_geometry.proofs.Exclusions.{accepted_has_none, one_fault}
use Rattle.tb_geometry.proofs.Steps.{boxes_in_limits}
use Rattle.tb_flux.proofs.Parts.{loss_is_no_heat_kept}
use Rattle.tb_flux.specs.Fluxes.{KeepsHeat, ShutsOff}
use Rattle.tb_reading.proofs.Within.{read_in_limits}
use Rattle.tb_reading.specs.Reading.{Numbered}
use Rattle.tb_reading.specs.Records.{Row}
use Rattle.tb_reading.specs.declared.fault.DetailFault.{DetailFault}
use Rattle.tb_case_records.specs.declared.case.CaseProof.{CaseProof}
use Rattle.tb_case_records.specs.declared.fault.BundleFault.{BundleFault}
use Rattle.tb_case_records.specs.declared.fault.BundleFault.TheVariants as bundle
use Rattle.tb_case_records.specs.Ahead.{Ahead, all_ahead}
use Rattle.tb_case_records.specs.Cases.{CaseForm, case_of, case_table}
use Rattle.tb_case_records.specs.Table.{first_fault}
use Rattle.tb_bundle.specs.Bodies.{behind_case, case_forms, end_fault}
use Rattle.tb_bundle.specs.Bundles.{behind_head, head_fault}
use Rattle.tb_bundle.specs.Details.{body_part, detail_ahead}
use Rattle.tb_bundle.proofs.Wholes.{read_limits}
use Rattle.tb_checker.specs.Contents.{HasEnds, IsJudgedRightly, ends_of, flux_in, mesh_of}
use Rattle.tb_checker.specs.declared.fault.CheckFault.{CheckFault}
use Rattle.tb_checker.specs.declared.fault.CheckFault.TheVariants as check
use Rattle.tb_checker.specs.Faults.{Condition, FirstFault, InTurn, OfBody, OfBundle, OfCase, OfCases, OfClaims, OfDetail, OfEnds, OfOne, Or, OrAt, Records, behind_cases}

-- a condition finds one fault at most, and none where it finds that nothing is wrong
pub record FindsOne (Asked : Condition) : Type 0 where
  pub one : (f g : CheckFault) → Asked (Some f) → Asked (Some g) → f ≡ g
  pub none : (f : CheckFault) → Asked None → Asked (Some f) → ⊥

-- ---- conditions

one_of : (Right : Type 0) (told : CheckFault) → FindsOne (Or Right told)
one_of Right told = record { one = λ f g h k. h.1 ∙ sym k.1; none = λ f right h. h.0 right }

one_at : {A : Type 0} (Right : Type 0) (Wrong : A → Type 0) (told : A → CheckFault) → ((a b : A) → Wrong a → Wrong b → told a ≡ told b) → ((a : A) → Right → Wrong a → ⊥)
    → FindsOne (OrAt Right Wrong told)
one_at Right Wrong told same apart = record {
  one = λ f g h k. h.2 ∙ same h.0 k.0 h.1 k.1 ∙ sym k.2;
  none = λ f right h. apart h.0 right h.1;
}

one_of_records : (o : Option BundleFault) → FindsOne (Records o)
one_of_records None = record { one = λ f g h k. cc; none = λ f right h. cc }
one_of_records (Some b) = record { one = λ f g h k. cc; none = λ f right h. cc }

one_in_turn : (First Second : Condition) → FindsOne First → FindsOne Second → FindsOne (InTurn First Second)
one_in_turn First Second a b = record { one = one; none = none }
  where
    one : (f g : CheckFault) → InTurn First Second (Some f) → InTurn First Second (Some g) → f ≡ g
    one f g (inl h) (inl k) = a.one f g h k
    one f g (inl h) (inr k) = absurd (a.none f k.0 h)
    one f g (inr h) (inl k) = absurd (a.none g h.0 k)
    one f g (inr h) (inr k) = b.one f g h.1 k.1

    none : (f : CheckFault) → InTurn First Second None → InTurn First Second (Some f) → ⊥
    none f right (inl h) = a.none f right.0 h
    none f right (inr h) = b.none f right.1 h.1

-- ---- faults of a flux

module _ (m : Mesh) (q : Flux) where
  not_before : (f g : ℕ) → IsFirstOuter m q f → IsFirstOuter m q g → f < g → ⊥
  not_before f g h k less = h.passing (k.first h.axis h.face h.in_mesh h.shut (subst (λ (n : ℕ). n < g) (sym h.numbered) less))

  outer_number : (f g : ℕ) → IsFirstOuter m q f → IsFirstOuter m q g → f ≡ g
  outer_number f g h k =
      ⊎_elim (λ same. same) (λ differ. ⊎_elim (λ less. absurd (not_before f g h k less)) (λ more. absurd (not_before g f k h more)) differ) (cases_order f g)

  outer_is_not_shut : (f : ℕ) → ShutsOff m q → IsFirstOuter m q f → ⊥
  outer_is_not_shut f shut h = h.passing (shut h.axis h.face h.in_mesh h.shut)

  lost : (c : ℕ) (sum : ℤ) → (h : IsFirstUnbalanced m q c sum) → outflow q h.cell.i h.cell.j h.cell.k ≡ int (pos 0) → ⊥
  lost c sum h none = h.unbalanced (sym (ceiling-int sum) ∙ ap ceiling (sym h.leaving ∙ none) ∙ ceiling-int (pos 0))

  not_lost_before : (c e : ℕ) (sum other : ℤ) → IsFirstUnbalanced m q c sum → IsFirstUnbalanced m q e other → c < e → ⊥
  not_lost_before c e sum other h k less = lost c sum h (k.first h.cell h.in_mesh h.solid (subst (λ (n : ℕ). n < e) (sym h.numbered) less))

  loss_number : (c e : ℕ) (sum other : ℤ) → IsFirstUnbalanced m q c sum → IsFirstUnbalanced m q e other → c ≡ e
  loss_number c e sum other h k =
      ⊎_elim (λ same. same) (λ differ. ⊎_elim (λ less. absurd (not_lost_before c e sum other h k less)) (λ more. absurd (not_lost_before e c other sum k h more)) differ) (cases_order c e)

  loss_place : (c : ℕ) (sum : ℤ) → (h : IsFirstUnbalanced m q c sum) → cell_place m.cells c ≡ h.cell
  loss_place c sum h = ap (cell_place m.cells) (sym h.numbered) ∙ cell_place_of_number m.cells h.cell h.in_mesh

  loss_sum : (c e : ℕ) (sum other : ℤ) → IsFirstUnbalanced m q c sum → IsFirstUnbalanced m q e other → sum ≡ other
  loss_sum c e sum other h k =
      let places : h.cell ≡ k.cell = sym (loss_place c sum h) ∙ ap (cell_place m.cells) (loss_number c e sum other h k) ∙ loss_place e other k in
      sym (ceiling-int sum) ∙ ap ceiling (sym h.leaving ∙ ap (λ (p : Place). outflow q p.i p.j p.k) places ∙ k.leaving) ∙ ceiling-int other

-- ---- what is asked in turn

module _ (d : Detail) where
  module _ (n : ℕ) (c : CaseProof) where
    abbrev mesh : Mesh
    mesh = mesh_of d c

    abbrev flux : Flux
    flux = flux_in c

    abbrev IsOuter : FaceId → Type 0
    IsOuter face = IsFirstOuter mesh flux face.0

    abbrev told_outer : FaceId → CheckFault
    told_outer face = check.OuterFlux n face

    abbrev IsLost : CellId × ℤ → Type 0
    IsLost cell = IsFirstUnbalanced mesh flux cell.0.0 cell.1

    abbrev told_loss : CellId × ℤ → CheckFault
    told_loss cell = check.Unbalanced n cell.0 cell.1

    one_outer : FindsOne (OrAt (ShutsOff mesh flux) IsOuter told_outer)
    one_outer = one_at (ShutsOff mesh flux) IsOuter told_outer
        (λ f g h k. ap (λ (x : ℕ). told_outer (record { 0 = x })) (outer_number mesh flux f.0 g.0 h k))
        (λ f shut h. outer_is_not_shut mesh flux f.0 shut h)

    one_loss : FindsOne (OrAt (KeepsHeat mesh flux) IsLost told_loss)
    one_loss = one_at (KeepsHeat mesh flux) IsLost told_loss
        (λ f g h k.
        ap (λ (x : ℕ). check.Unbalanced n (record { 0 = x }) f.1) (loss_number mesh flux f.0.0 g.0.0 f.1 g.1 h k)
        ∙ ap (λ (sum : ℤ). check.Unbalanced n g.0 sum) (loss_sum mesh flux f.0.0 g.0.0 f.1 g.1 h k))
        (λ f keeps h. loss_is_no_heat_kept mesh flux f.0.0 f.1 keeps h)

    one_claim : FindsOne (OfClaims n c (ends_of d c))
    one_claim = one_in_turn (Or (c.interval ≡ ends_of d c) (check.IntervalDiffers n c.interval (ends_of d c))) (Or (IsJudgedRightly c) (check.VerdictDiffers n))
        (one_of (c.interval ≡ ends_of d c) (check.IntervalDiffers n c.interval (ends_of d c))) (one_of (IsJudgedRightly c) (check.VerdictDiffers n))

    one_end : FindsOne (OfEnds d n c)
    one_end = one_in_turn (Or (HasEnds d c) (check.SumPastLimit n)) (OfClaims n c (ends_of d c)) (one_of (HasEnds d c) (check.SumPastLimit n)) one_claim

    one_case : FindsOne (OfCase d n c)
    unfolding OfCase
    one_case = one_in_turn (OrAt (ShutsOff mesh flux) IsOuter told_outer) (InTurn (OrAt (KeepsHeat mesh flux) IsLost told_loss) (OfEnds d n c)) one_outer
        (one_in_turn (OrAt (KeepsHeat mesh flux) IsLost told_loss) (OfEnds d n c) one_loss one_end)

  one_of_cases : (fs : List CaseForm) (given : List Numbered) → FindsOne (OfCases d fs given)
  one_of_cases [] given = one_of_records None
  one_of_cases (f ∷ fs) given = one_in_turn (OfOne d f given) (OfCases d fs (behind_case f given))
      (one_in_turn (Records (first_fault (case_table f given) given)) (OfCase d f.number (case_of f given)) (one_of_records (first_fault (case_table f given) given)) (one_case f.number (case_of f given)))
      (one_of_cases fs (behind_case f given))

  one_of_body : (given : List Numbered) → FindsOne (OfBody d given)
  one_of_body given = one_in_turn (OfCases d (case_forms d) given) (Records (end_fault (behind_cases d given))) (one_of_cases (case_forms d) given) (one_of_records (end_fault (behind_cases d given)))

  one_of_detail : InLimits d → (given : List Numbered) → FindsOne (OfDetail given (Ok d))
  one_of_detail limits given = one_in_turn (OrAt (IsAccepted d) (HasFault d) check.Body) (OfBody d given)
      (one_at (IsAccepted d) (HasFault d) check.Body
      (λ f g h k. ap (λ (x : BodyFault). check.Body x) (one_fault d f g (boxes_in_limits d limits) h k))
      (λ f accepted h. accepted_has_none d f (boxes_in_limits d limits) accepted h))
      (one_of_body given)

module _ (a : Ahead) where
  abbrev given : List Numbered
  given = body_part (drop 1 a.ahead)

  by_reading : (r : Result Detail DetailFault) → detail_ahead (behind_head a) ≡ r → FindsOne (OfDetail given r)
  by_reading (Err f) read = one_of_records (Some (bundle.Detail f))
  by_reading (Ok d) read = one_of_detail d (read_limits read_in_limits (behind_head a) d read) given

  one_of_bundle : FindsOne (OfBundle a)
  one_of_bundle = one_in_turn (Records (head_fault a.ahead)) (OfDetail given (detail_ahead (behind_head a))) (one_of_records (head_fault a.ahead)) (by_reading (detail_ahead (behind_head a)) refl)

pub one_first_fault : (rows : List Row) → FindsOne (FirstFault rows)
unfolding FirstFault
one_first_fault rows = one_of_bundle (all_ahead rows)
