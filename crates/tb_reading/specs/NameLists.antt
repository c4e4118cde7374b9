-- The names that a builder keeps.
use Rattle.std.specs.Prelude.{[], ◌∷◌, ◌++◌}
use Rattle.tb_reading.specs.declared.kinds.NameKind.{NameKind}
use Rattle.tb_reading.specs.declared.kinds.NameKind.TheVariants as name
use Rattle.tb_reading.specs.declared.names.Names.{Names}
use Rattle.tb_detail.specs.Names.{Text}
use Rattle.tb_reading.specs.Names.{NamesByKind}

-- the names of a kind
abbrev pub names_in : Names → NamesByKind
names_in n name.Environment = n.environments
names_in n name.Material = n.materials
names_in n name.Part = n.parts
names_in n name.Psi = n.psis
names_in n name.Chi = n.chis

abbrev pub no_names : Names
no_names = record { environments = []; materials = []; parts = []; psis = []; chis = [] }

-- one more name of a kind
abbrev pub with_name : NameKind → Text → Names → Names
with_name name.Environment text n = record n { environments = n.environments ++ text ∷ [] }
with_name name.Material text n = record n { materials = n.materials ++ text ∷ [] }
with_name name.Part text n = record n { parts = n.parts ++ text ∷ [] }
with_name name.Psi text n = record n { psis = n.psis ++ text ∷ [] }
with_name name.Chi text n = record n { chis = n.chis ++ text ∷ [] }
