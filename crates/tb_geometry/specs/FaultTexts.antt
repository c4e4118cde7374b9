-- What a fault of a body prints: one line.
use Rattle.std.specs.Prelude.{ℕ, ◌++◌, List, codes, decimal}
use Rattle.tb_numbers.specs.Texts.{decimal_text}
use Rattle.tb_geometry.specs.declared.fault.BodyFault.{BodyFault}
use Rattle.tb_geometry.specs.declared.fault.BodyFault.TheVariants.{TooFewEnvironments, NoSolid, TooManyCells, Overlap, Uncovered, Isolated}

-- a corner, in mm
abbrev pub corner_text : (x y z : ℕ) → List ℕ
corner_text x y z = decimal_text 1 x ++ codes " " ++ decimal_text 1 y ++ codes " " ++ decimal_text 1 z

-- the fault, and its place where it has one: how many cells, the numbers of two boxes, or the low corner of a cell
abbrev pub fault_text : BodyFault → List ℕ
fault_text TooFewEnvironments = codes "refused,TooFewEnvironments\n"
fault_text NoSolid = codes "refused,NoSolid\n"
fault_text (TooManyCells n) = codes "refused,TooManyCells,cells " ++ decimal n ++ codes "\n"
fault_text (Overlap i j) = codes "refused,Overlap,boxes " ++ decimal i ++ codes " " ++ decimal j ++ codes "\n"
fault_text (Uncovered x y z) = codes "refused,Uncovered," ++ corner_text x y z ++ codes "\n"
fault_text (Isolated x y z) = codes "refused,Isolated," ++ corner_text x y z ++ codes "\n"
