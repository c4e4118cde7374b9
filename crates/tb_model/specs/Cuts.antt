-- Cuts: one interval of one axis of a mesh is cut in two, and fields and fluxes are carried over.
--
-- The parts are s and 1 - s of the interval. A field takes the linear value on the new plane. A flux takes the
-- linear value on the new faces across the axis, and each face along the cut is shared out in the same ratio.
use Rattle.std.specs.Prelude.{◌≢◌, ℕ, suc, pos}
use Rattle.tb_math.specs.Rational.{ℚ, int, ◌+ℚ◌, ◌-ℚ◌, ◌*ℚ◌}
use Rattle.tb_places.specs.declared.AxisName.{AxisName}
use Rattle.tb_places.specs.Cuts.{with_two, in_both, on_axis, on_lines, cut_counts}
use Rattle.tb_model.specs.Mesh.{Mesh}
use Rattle.tb_model.specs.Energy.{Field, Flux}

-- a ratio at which both parts are something
pub record IsRatio (s : ℚ) : Type 0 where
  pub low : s ≢ int (pos 0)
  pub high : int (pos 1) -ℚ s ≢ int (pos 0)

-- the second part
abbrev pub rest : ℚ → ℚ
rest s = int (pos 1) -ℚ s

-- the linear value at the ratio s between x and y
abbrev pub between : ℚ → ℚ → ℚ → ℚ
between s x y = x +ℚ s *ℚ (y -ℚ x)

-- interval p is cut in two: what is spread over it is shared out,
abbrev pub shared : ℕ → ℚ → (ℕ → ℚ) → ℕ → ℚ
shared p s f = with_two p (s *ℚ f p) (rest s *ℚ f p) f

-- and between the values at its two ends there is one more
abbrev pub bridged : ℕ → ℚ → (ℕ → ℚ) → ℕ → ℚ
bridged p s f = with_two p (f p) (between s (f p) (f (suc p))) f

-- both parts of a cell are filled as it was
abbrev pub cut : AxisName → ℕ → ℚ → Mesh → Mesh
cut a p s m = record {
  cells = cut_counts a m.cells;
  width = λ b. on_axis a b (shared p s (m.width b)) (m.width b);
  occupant = on_lines a (in_both p) m.occupant;
  conductivity = m.conductivity;
}

abbrev pub cut_field : AxisName → ℕ → ℚ → Field → Field
cut_field a p s T = on_lines a (bridged p s) T

abbrev pub cut_flux : AxisName → ℕ → ℚ → Flux → Flux
cut_flux a p s q b = on_axis a b (on_lines a (bridged p s) (q b)) (on_lines a (shared p s) (q b))
