use Rattle.solver.proofs.counts.+enter_class.Given as goal

abbrev pub decreases-enter_class : goal.decreases-enter_class
decreases-enter_class l = l.spot.class
