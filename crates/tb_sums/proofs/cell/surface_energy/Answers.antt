use Rattle.tb_sums.proofs.Kept.{face_is, rise_is}
use Rattle.tb_sums.proofs.cell.surface_energy.Goals as goal

pub returns-clause-value : goal.returns-clause-value
returns-clause-value c =
    let a = c.args in let r = c.requires in
    face_is c.face_energy.result a.rs a.b.width a.c.width _ _ _ _ _ _ _ _
    (rise_is c.rise.result a.t00 a.level r.at_00 r.level c.rise.ensures.value)
    (rise_is c.rise-2.result a.t10 a.level r.at_10 r.level c.rise-2.ensures.value)
    (rise_is c.rise-3.result a.t01 a.level r.at_01 r.level c.rise-3.ensures.value)
    (rise_is c.rise-4.result a.t11 a.level r.at_11 r.level c.rise-4.ensures.value)
    c.rise.ensures.size c.rise-2.ensures.size c.rise-3.ensures.size c.rise-4.ensures.size
    c.face_energy.ensures.value
