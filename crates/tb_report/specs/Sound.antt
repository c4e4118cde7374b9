-- What the intervals of a report promise.
use Rattle.std.specs.Prelude.{◌≡◌, ℕ, ℤ, ◌<◌, All, Ok, length, map, nat_lt, if◌then◌else◌}
use Rattle.tb_math.specs.Rational.{ℚ, int, ◌-ℚ◌, ◌≤ℚ◌}
use Rattle.tb_model.specs.Energy.{Field, Flux, IsBalanced, bound, energy}
use Rattle.tb_model.specs.Refinement.{Refinement, Refines, Scene, mesh, scene_of}
use Rattle.tb_planar.specs.declared.PlanarU.{PlanarU}
use Rattle.tb_planar.specs.Printed.{HoldsTransmittance, answer}
use Rattle.tb_planar.specs.Transmittance.{transmittance}
use Rattle.tb_conduct.specs.Coupling.{IsSoundPair, alone, coupling, together}
use Rattle.tb_psi.specs.Heat.{HoldLines, HoldPlanar, line_heat, planar_heat}
use Rattle.tb_bundle.specs.declared.bundle.Bundle.{Bundle}
use Rattle.tb_report.specs.Texts.{intervals_of}
use Rattle.tb_report.specs.Values.{chi_value, pair_interval, planar_term, psi_value}

-- An interval is sound for what is left of the coupling coefficient of two environments once the heat of other parts is
-- taken away, whatever fields and fluxes the coefficient is made of, each on a refinement of its own: from the energies
-- of two fields and the bound of a flux it is at least the lower end, from the bounds of two fluxes and the energy of a
-- field at most the upper one.
pub record IsSoundOf (s : Scene) (i j : ℕ) (left : ℚ → ℚ) (lo hi : ℤ) : Type 0 where
  pub lower : (r r' r'' : Refinement) (T T' : Field) (q : Flux) → Refines s r → Refines s r' → Refines s r'' → IsBalanced (mesh s r'') q →
      int lo ≤ℚ left (coupling (energy (mesh s r) (alone i) T) (energy (mesh s r') (alone j) T') (bound (mesh s r'') (together i j) q))
  pub upper : (r r' r'' : Refinement) (q q' : Flux) (T : Field) → Refines s r → Refines s r' → Refines s r'' → IsBalanced (mesh s r) q → IsBalanced (mesh s r') q' →
      left (coupling (bound (mesh s r) (alone i) q) (bound (mesh s r') (alone j) q') (energy (mesh s r'') (together i j) T)) ≤ℚ int hi

-- of two environments the earlier one and the later one
abbrev pub earlier : ℕ → ℕ → ℕ
earlier i j = if nat_lt i j then i else j

abbrev pub later : ℕ → ℕ → ℕ
later i j = if nat_lt i j then j else i

-- Each coupling coefficient of the report is sound, and so are each Ψ and each χ, whatever values within their ranges the
-- transmittances of the parts and the given ψ have. The range of a part that isn't refused holds its transmittance by
-- ISO 6946.
pub record HasSoundFigures (b : Bundle) : Type 0 where
  pub pairs : (i j : ℕ) → i < j → j < length b.detail.environments →
      let pair = pair_interval (length b.detail.environments) (intervals_of b) i j in IsSoundPair (scene_of b.detail) i j pair.lo pair.hi
  pub parts : All (λ p. (value : PlanarU) → answer b.detail p ≡ Ok value → HoldsTransmittance value.u (transmittance b.detail p)) b.detail.parts
  pub psis : All (λ p. (u : ℕ → ℚ) → let terms = map (planar_term b.detail) p.lengths in HoldPlanar terms u →
      let psi = psi_value b.detail (intervals_of b) p in
      IsSoundOf (scene_of b.detail) (earlier p.first p.second) (later p.first p.second) (λ x. x -ℚ planar_heat terms u) psi.lo psi.hi) b.detail.psis
  pub chis : All (λ c. (u v : ℕ → ℚ) → let terms = map (planar_term b.detail) c.areas in HoldPlanar terms u → HoldLines c.lines v →
      let chi = chi_value b.detail (intervals_of b) c in
      IsSoundOf (scene_of b.detail) (earlier c.first c.second) (later c.first c.second) (λ x. x -ℚ planar_heat terms u -ℚ line_heat c.lines v) chi.lo chi.hi) b.detail.chis
