use Rattle.tb_grid.proofs.level.+push_high_cuts.Given as goal

abbrev pub decreases-push_high_cuts : goal.decreases-push_high_cuts
decreases-push_high_cuts l = l.most
