-- The two parts that a cut makes of a term add up to it.
use mathlib.Core.Path.{◌≡◌, refl}
use mathlib.Core.List.{[], ◌∷◌}
use Rattle.tb_math.specs.Rational.{ℚ, ◌+ℚ◌, ◌*ℚ◌}
use Rattle.tb_math.proofs.ReadRationals.{by_reading, reading}
use Rattle.tb_model.specs.Cuts.{IsRatio, rest}
use Rattle.tb_cuts.proofs.CutForms.{spread_first, spread_second}
use Rattle.tb_cuts.proofs.CutTerms.{energy_across, surface_across, loss_across, surface_loss_across, energy_shared, loss_along}
use Rattle.tb_terms.specs.Quantities.{Cell, Face, Corners, Ends, FaceCut, across_b, across_c, CellCut, lengthwise, across, low, high, energy_of_cell, energy_of_face, loss_of_cell, loss_of_face, field_cell_part, field_face_part, flux_cell_part, flux_face_part}

section_first : (s b c : ℚ) → (s *ℚ b) *ℚ c ≡ s *ℚ (b *ℚ c)
section_first s b c = by_reading {atoms = s ∷ b ∷ c ∷ []} (search reading) (search reading) refl

section_second : (s b c : ℚ) → b *ℚ (s *ℚ c) ≡ s *ℚ (b *ℚ c)
section_second s b c = by_reading {atoms = s ∷ b ∷ c ∷ []} (search reading) (search reading) refl

pub field_cell_parts : (w : CellCut) (s : ℚ) (x : Cell Corners) → IsRatio s → energy_of_cell (field_cell_part w low s x) +ℚ energy_of_cell (field_cell_part w high s x) ≡ energy_of_cell x
field_cell_parts lengthwise s x ratio = energy_shared s x.conductivity x.along (x.b *ℚ x.c) x.values.d00 x.values.d10 x.values.d01 x.values.d11 ratio
field_cell_parts (across across_b) s x ratio = energy_across s x.conductivity x.along (x.b *ℚ x.c) ((s *ℚ x.b) *ℚ x.c) ((rest s *ℚ x.b) *ℚ x.c) _ _ _
    (section_first s x.b x.c) (section_first (rest s) x.b x.c) (spread_first s x.values.d00 x.values.d10 x.values.d01 x.values.d11)
field_cell_parts (across across_c) s x ratio = energy_across s x.conductivity x.along (x.b *ℚ x.c) (x.b *ℚ (s *ℚ x.c)) (x.b *ℚ (rest s *ℚ x.c)) _ _ _
    (section_second s x.b x.c) (section_second (rest s) x.b x.c) (spread_second s x.values.d00 x.values.d10 x.values.d01 x.values.d11)

pub field_face_parts : (w : FaceCut) (s : ℚ) (x : Face Corners) → IsRatio s → energy_of_face (field_face_part w low s x) +ℚ energy_of_face (field_face_part w high s x) ≡ energy_of_face x
field_face_parts across_b s x ratio = surface_across s x.resistance (x.b *ℚ x.c) ((s *ℚ x.b) *ℚ x.c) ((rest s *ℚ x.b) *ℚ x.c) _ _ _
    (section_first s x.b x.c) (section_first (rest s) x.b x.c) (spread_first s x.values.d00 x.values.d10 x.values.d01 x.values.d11)
field_face_parts across_c s x ratio = surface_across s x.resistance (x.b *ℚ x.c) (x.b *ℚ (s *ℚ x.c)) (x.b *ℚ (rest s *ℚ x.c)) _ _ _
    (section_second s x.b x.c) (section_second (rest s) x.b x.c) (spread_second s x.values.d00 x.values.d10 x.values.d01 x.values.d11)

pub flux_cell_parts : (w : CellCut) (s : ℚ) (x : Cell Ends) → IsRatio s → loss_of_cell (flux_cell_part w low s x) +ℚ loss_of_cell (flux_cell_part w high s x) ≡ loss_of_cell x
flux_cell_parts lengthwise s x ratio = loss_along s x.conductivity x.along (x.b *ℚ x.c) x.values.low x.values.high
flux_cell_parts (across across_b) s x ratio = loss_across s x.conductivity x.along (x.b *ℚ x.c) ((s *ℚ x.b) *ℚ x.c) ((rest s *ℚ x.b) *ℚ x.c) x.values.low x.values.high ratio
    (section_first s x.b x.c) (section_first (rest s) x.b x.c)
flux_cell_parts (across across_c) s x ratio = loss_across s x.conductivity x.along (x.b *ℚ x.c) (x.b *ℚ (s *ℚ x.c)) (x.b *ℚ (rest s *ℚ x.c)) x.values.low x.values.high ratio
    (section_second s x.b x.c) (section_second (rest s) x.b x.c)

pub flux_face_parts : (w : FaceCut) (s : ℚ) (x : Face ℚ) → IsRatio s → loss_of_face (flux_face_part w low s x) +ℚ loss_of_face (flux_face_part w high s x) ≡ loss_of_face x
flux_face_parts across_b s x ratio = surface_loss_across s x.resistance (x.b *ℚ x.c) ((s *ℚ x.b) *ℚ x.c) ((rest s *ℚ x.b) *ℚ x.c) x.values ratio (section_first s x.b x.c) (section_first (rest s) x.b x.c)
flux_face_parts across_c s x ratio = surface_loss_across s x.resistance (x.b *ℚ x.c) (x.b *ℚ (s *ℚ x.c)) (x.b *ℚ (rest s *ℚ x.c)) x.values ratio (section_second s x.b x.c) (section_second (rest s) x.b x.c)
