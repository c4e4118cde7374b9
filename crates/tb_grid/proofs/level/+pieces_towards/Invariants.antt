use Rattle.tb_grid.proofs.level.+pieces_towards.Given as goal

abbrev pub decreases-pieces_towards : goal.decreases-pieces_towards
decreases-pieces_towards l = l.most
