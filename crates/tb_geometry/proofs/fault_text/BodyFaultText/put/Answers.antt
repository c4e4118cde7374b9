use Rattle.tb_geometry.proofs.fault_text.BodyFaultText.put.Goals as goal

pub returns-in-NoSolid : goal.returns-in-NoSolid
returns-in-NoSolid g c = rw c.in-NoSolid.is c.put-in-NoSolid.ensures.gathers

pub returns-in-Uncovered : goal.returns-in-Uncovered
returns-in-Uncovered g c = rw c.in-Uncovered.is c.put_corner.ensures

pub returns-in-Isolated : goal.returns-in-Isolated
returns-in-Isolated g c = rw c.in-Isolated.is c.put_corner-in-Isolated.ensures
