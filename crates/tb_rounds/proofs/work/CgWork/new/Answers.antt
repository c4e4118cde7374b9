use Rattle.tb_rounds.proofs.work.CgWork.new.Goals as goal

pub new-requires : goal.new-requires
new-requires c = rw (c.body.ensures, c.grid.ensures) c.keeps.ensures.carries
