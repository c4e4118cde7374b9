use Rattle.std.proofs.Common.{◌≡◌, ◌∷◌, map, take}
use Rattle.tb_reading.specs.declared.values.FieldValue.TheVariants.{Nothing, Number, Place}
use Rattle.tb_canonical.proofs.things.layer_values.Given as goal

-- the values so far
abbrev pub invariant-loop-material : goal.invariant-loop-material
invariant-loop-material l = l.values ≡ Nothing ∷ Number l.layer.thickness ∷ map Place (take l.material-index l.layer.materials)
