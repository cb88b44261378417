use Rattle.plans.proofs.class_tree.Roster.+sum_up.Given as goal

abbrev pub decreases-sum_up : goal.decreases-sum_up
decreases-sum_up g l = l.class
