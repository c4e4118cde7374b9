use Rattle.tb_grid.proofs.level.+push_low_cuts.Given as goal

abbrev pub decreases-push_low_cuts : goal.decreases-push_low_cuts
decreases-push_low_cuts l = l.most
