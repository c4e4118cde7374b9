-- The terms in the words of the model, and the numbers that they may be made of.
use Rattle.std.specs.Prelude.{ℕ, All, List, ℤ, pos}
use Rattle.tb_math.specs.Rational.{ℚ, int, ◌*ℚ◌}
use Rattle.tb_model.specs.Energy.{passage, cell_energy, surface_energy, cell_loss, surface_loss}
use Rattle.tb_terms.specs.declared.field.FieldCell.{FieldCell}
use Rattle.tb_terms.specs.declared.field.FieldFace.{FieldFace}
use Rattle.tb_terms.specs.declared.flux.FluxCell.{FluxCell}
use Rattle.tb_terms.specs.declared.flux.FluxFace.{FluxFace}
use Rattle.tb_terms.specs.Quantities.{Cell, Corners, Ends, Face}
use Rattle.tb_terms.specs.Spread.{corner, corner_spread}
use Rattle.tb_terms.specs.Limits.{IsConductivity, IsResistance, IsWidth, IsDifference, IsFlow}

-- the area of a cross-section with these widths, in 10⁻⁸ m²
abbrev pub area_of : ℕ → ℕ → ℚ
area_of b c = int (pos b) *ℚ int (pos c)

-- Values --

abbrev pub field_cell_term : FieldCell → ℚ
field_cell_term x = cell_energy (int (pos x.lambda)) (int (pos x.a)) (area_of x.b x.c) (corner_spread x.d)

abbrev pub field_face_term : FieldFace → ℚ
field_face_term x = surface_energy x.rs (area_of x.b x.c) (corner_spread x.t)

abbrev pub flux_cell_term : FluxCell → ℚ
flux_cell_term x = cell_loss (int (pos x.lambda)) (int (pos x.a)) (area_of x.b x.c) (passage (int x.low) (int x.high))

abbrev pub flux_face_term : FluxFace → ℚ
flux_face_term x = surface_loss x.rs (area_of x.b x.c) (int x.flow)

-- Quantities --

abbrev pub corners_of : List ℤ → Corners
corners_of d = record { d00 = corner d 0; d10 = corner d 1; d01 = corner d 2; d11 = corner d 3 }

abbrev pub cell_of_field : FieldCell → Cell Corners
cell_of_field x = record { conductivity = int (pos x.lambda); along = int (pos x.a); b = int (pos x.b); c = int (pos x.c); values = corners_of x.d }

abbrev pub face_of_field : FieldFace → Face Corners
face_of_field x = record { resistance = x.rs; b = int (pos x.b); c = int (pos x.c); values = corners_of x.t }

abbrev pub cell_of_flux : FluxCell → Cell Ends
cell_of_flux x = record { conductivity = int (pos x.lambda); along = int (pos x.a); b = int (pos x.b); c = int (pos x.c); values = record { low = int x.low; high = int x.high } }

abbrev pub face_of_flux : FluxFace → Face ℚ
face_of_flux x = record { resistance = x.rs; b = int (pos x.b); c = int (pos x.c); values = int x.flow }

-- Limits --

pub record FitsFieldCell (x : FieldCell) : Type 0 where
  pub conductivity : IsConductivity x.lambda
  pub a : IsWidth x.a
  pub b : IsWidth x.b
  pub c : IsWidth x.c
  pub differences : All IsDifference x.d

pub record FitsFieldFace (x : FieldFace) : Type 0 where
  pub resistance : IsResistance x.rs
  pub b : IsWidth x.b
  pub c : IsWidth x.c
  pub differences : All IsDifference x.t

pub record FitsFluxCell (x : FluxCell) : Type 0 where
  pub conductivity : IsConductivity x.lambda
  pub a : IsWidth x.a
  pub b : IsWidth x.b
  pub c : IsWidth x.c
  pub low : IsFlow x.low
  pub high : IsFlow x.high

pub record FitsFluxFace (x : FluxFace) : Type 0 where
  pub resistance : IsResistance x.rs
  pub b : IsWidth x.b
  pub c : IsWidth x.c
  pub flow : IsFlow x.flow
