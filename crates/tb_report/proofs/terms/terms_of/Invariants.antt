use Rattle.std.proofs.Common.{◌≡◌, length, take, map}
use Rattle.std.specs.Prelude.{All}
use Rattle.tb_psi.specs.Transmittances.{IsTransmittance}
use Rattle.tb_report.specs.Values.{planar_term}
use Rattle.tb_report.proofs.terms.terms_of.Given as goal

-- the terms so far were made
abbrev pub invariant-loop-at : goal.invariant-loop-at
invariant-loop-at l = record {
  room : length l.made ≡ 16;
  terms : take l.at l.made ≡ map (planar_term l.detail) (take l.at l.terms);
  sizes : All IsTransmittance (take l.at l.made);
}
