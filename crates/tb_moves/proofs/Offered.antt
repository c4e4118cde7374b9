-- Ends of a session, and what an offer leaves of what it keeps.
use Rattle.std.proofs.Common.{◌≡◌, ◌↔◌, ◌≤◌, ◌^◌, refl, sym, ◌∙◌, subst, arith, Bool, List, Option, None, Some, IsTrue}
use Rattle.std.specs.Prelude.{IfSome, MatchOption, unsigned_abs}
use Rattle.std.proofs.lemmas.Int.{ints}
use lib.IntN.{ℤ, pos}
use lib.Signed.{◌≤ℤ◌, ◌<ℤ◌}
use Rattle.tb_grid.specs.Grid.{counts_of}
use Rattle.tb_model.specs.Energy.{IsBalanced, flux_terms, lower_end, rounded_up}
use Rattle.tb_field.specs.Fields.{AreTemperatures, FitsNodes}
use Rattle.tb_flux.specs.Fluxes.{AreFlows, FitsFaces, flux_on}
use Rattle.tb_costs.proofs.Ends.{field_offered, flux_offered, loss_fits}
use Rattle.tb_moves.specs.Keeping.{KeepsSession}
use Rattle.tb_moves.specs.Sessions.{IsHigher, IsHigherThan, Session, inside_of, lower_of, mesh_of, state_of, upper_of, with_field, with_flux}
use Rattle.tb_moves.specs.Settings.{Setting, case_in, mesh_in}
use Rattle.tb_moves.proofs.Kept.{state}

pub not_past : (x y : ℤ) → x <ℤ y → y ≤ℤ x → ⊥
not_past x y h k = omega (arith, ints)

at_most : (x y : ℤ) → ((x <ℤ y) → ⊥) → y ≤ℤ x
at_most x y n = grind (arith, ints)

within : (z : ℤ) → z ≤ℤ pos (10 ^ 25) → z ≤ℤ pos (2 ^ 120)
within z h = omega (arith, ints)

by_option : (o : Option ℤ) (P Q : Type 0) → (P → Q) → (Q → P) → MatchOption o (¬ P) (λ _. P) → MatchOption o (¬ Q) (λ _. Q)
by_option None P Q f g h = λ q. h (g q)
by_option (Some x) P Q f g h = f h

pub some_same : (o : Option ℤ) (x y : ℤ) → x ≡ y → IfSome o (λ e. e ≡ x) → IfSome o (λ e. e ≡ y)
some_same None x y e h = tt
some_same (Some z) x y e h = h ∙ e

lower : (a b x y : ℤ) → a ≡ x → b ≡ y → a <ℤ b → x <ℤ y
lower a b x y e f h = omega (arith, ints)

pub told_lower : (r : Bool) (a b x y : ℤ) → a ≡ x → b ≡ y → (IsTrue r ↔ (a <ℤ b)) → IsTrue r ↔ (x <ℤ y)
told_lower r a b x y e f h = ((λ d. lower a b x y e f (h.0 d)), (λ l. h.1 (lower x y a b (sym e) (sym f) l)))

module _ (v : Setting) (other end : ℤ) (flux : List ℤ) where
  -- an end that is at least 0 and higher, of a flux that is balanced and whose loss isn't past the limit
  pub higher_is : IsBalanced (mesh_in v) (flux_on v.grid flux) → end ≡ lower_end (mesh_in v) (case_in v) (flux_on v.grid flux)
      → ((pos (2 ^ 120) <ℤ rounded_up (mesh_in v) (flux_terms (mesh_in v) (flux_on v.grid flux))) → ⊥)
      → (o : Option ℤ) → MatchOption o (¬ ((pos 0 ≤ℤ end) × (other <ℤ end))) (λ _. (pos 0 ≤ℤ end) × (other <ℤ end))
      → MatchOption o (¬ IsHigherThan v.body v.grid v.case other flux) (λ _. IsHigherThan v.body v.grid v.case other flux)
  higher_is balanced same past o h = by_option o ((pos 0 ≤ℤ end) × (other <ℤ end)) (IsHigherThan v.body v.grid v.case other flux)
      (λ k. record {
        balanced = balanced;
        within = at_most _ _ past;
        least = subst (λ (z : ℤ). pos 0 ≤ℤ z) same k.0;
        higher = subst (λ (z : ℤ). other <ℤ z) same k.1;
      })
      (λ k. (subst (λ (z : ℤ). pos 0 ≤ℤ z) (sym same) k.least, subst (λ (z : ℤ). other <ℤ z) (sym same) k.higher)) h

module _ (s : Session) (upper lower : Option ℤ) (keeps : KeepsSession s upper lower) where
  pub loss_within : rounded_up (mesh_of s) (flux_terms (mesh_of s) (flux_on s.grid s.flux)) ≤ℤ pos (2 ^ 120)
  loss_within = within _ (loss_fits s.body s.grid (inside_of s) (state_of s) keeps.limits keeps.carries keeps.grid keeps.state)

  pub with_upper : (e : ℤ) → e ≡ upper_of s s.field → unsigned_abs e ≤ 2 ^ 120 → KeepsSession s (Some e) lower
  with_upper e same size = record { limits = keeps.limits; accepted = keeps.accepted; grid = keeps.grid; carries = keeps.carries; state = keeps.state; highest = (same, size); lowest = keeps.lowest }

  pub with_lower : (e : ℤ) → e ≡ lower_of s s.flux → unsigned_abs e ≤ 2 ^ 121 → KeepsSession s upper (Some e)
  with_lower e same size = record { limits = keeps.limits; accepted = keeps.accepted; grid = keeps.grid; carries = keeps.carries; state = keeps.state; highest = keeps.highest; lowest = (same, size) }

  pub field_taken : (new : List ℤ) (e : ℤ) → FitsNodes (counts_of s.grid) new → AreTemperatures new → e ≡ upper_of s new → unsigned_abs e ≤ 2 ^ 120 → KeepsSession (with_field s new) (Some e) lower
  field_taken new e fits warm same size = record {
    limits = keeps.limits;
    accepted = keeps.accepted;
    grid = keeps.grid;
    carries = keeps.carries;
    state = field_offered s.body s.grid (inside_of s) (state_of s) (state new s.flux) keeps.state fits warm refl;
    highest = (same, size);
    lowest = keeps.lowest;
  }

  pub flux_taken : (new : List ℤ) (e : ℤ) → FitsFaces (counts_of s.grid) new → AreFlows new → IsHigher s new → e ≡ lower_of s new → unsigned_abs e ≤ 2 ^ 121 → KeepsSession (with_flux s new) upper (Some e)
  flux_taken new e fits flows higher same size = record {
    limits = keeps.limits;
    accepted = keeps.accepted;
    grid = keeps.grid;
    carries = keeps.carries;
    state = flux_offered s.body s.grid (inside_of s) (state_of s) (state s.field new) keeps.limits keeps.carries keeps.grid keeps.state fits flows refl higher.balanced higher.least;
    highest = keeps.highest;
    lowest = (same, size);
  }
