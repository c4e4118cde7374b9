-- What is printed of a detail's U-values, and of a part that is refused.
use Rattle.std.specs.Prelude.{ℕ, ◌^◌, ◌++◌, List, [], Result, Ok, Err, codes, pos}
use Rattle.std.specs.List.{flat_map}
use Rattle.tb_detail.specs.declared.Detail.{Detail}
use Rattle.tb_detail.specs.declared.Part.{Part}
use Rattle.tb_numbers.specs.Quotients.{ceiling, floor}
use Rattle.tb_numbers.specs.Texts.{fixed_text}
use Rattle.tb_planar.specs.declared.PlanarU.{PlanarU}
use Rattle.tb_planar.specs.declared.RatioAbove.{RatioAbove}
use Rattle.tb_planar.specs.declared.URange.{URange}
use Rattle.tb_planar.specs.Printed.{answer}
use Rattle.tb_uvalues.specs.declared.fault.UValueFault.{UValueFault}

-- the ends of a transmittance in 10⁻⁶ W/(m²·K), the last place that is printed: the lower end rounded down, the upper
-- one up
abbrev pub printed_range : URange → URange
printed_range u = record { lo = floor u.lo (pos (10 ^ 9)); hi = ceiling u.hi (pos (10 ^ 9)) }

-- the name of a part, both ends in W/(m²·K), and the relative error of the method
abbrev pub line : Part → PlanarU → List ℕ
line p v =
    codes "U," ++ p.name
    ++ codes "," ++ fixed_text 6 (printed_range v.u).lo
    ++ codes "," ++ fixed_text 6 (printed_range v.u).hi
    ++ codes "," ++ fixed_text 4 v.error ++ codes "\n"

-- the line of a part that isn't refused
abbrev pub line_of : Part → Result PlanarU RatioAbove → List ℕ
line_of p (Ok v) = line p v
line_of p (Err e) = []

-- a line for each part, in their order
abbrev pub lines : Detail → List ℕ
lines d = flat_map (λ p. line_of p (answer d p)) d.parts

abbrev pub list_text : Detail → List ℕ
list_text d = lines d ++ codes "end\n"

abbrev pub fault_text : UValueFault → List ℕ
fault_text f = codes "refused,RatioAbove,part " ++ f.part ++ codes "\n"
