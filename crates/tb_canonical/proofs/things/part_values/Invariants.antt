use Rattle.std.proofs.Common.{◌≡◌, ◌∷◌, map, take}
use Rattle.tb_reading.specs.declared.values.FieldValue.TheVariants.{Nothing, Number}
use Rattle.tb_canonical.proofs.things.part_values.Given as goal

-- the values so far
abbrev pub invariant-loop-area : goal.invariant-loop-area
invariant-loop-area l = l.values ≡ Nothing ∷ Number l.part.rsi ∷ Number l.part.rse ∷ map Number (take l.area-index l.part.areas)
