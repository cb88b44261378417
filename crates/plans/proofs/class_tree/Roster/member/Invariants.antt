use Rattle.std.proofs.Common.{◌≡◌, ◌<◌}
use Rattle.plans.specs.Places.{at}
use Rattle.plans.specs.Problem.{climbs}
use Rattle.plans.proofs.class_tree.Roster.member.Given as goal

abbrev pub invariant-loop-at_class : goal.invariant-loop-at_class
invariant-loop-at_class l =
    (l.at_class < l.self.classes)
    × (climbs (at l.self.parents) l.at_class l.at_class l.class ≡ climbs (at l.self.parents) (at l.self.homes l.book) (at l.self.homes l.book) l.class)

abbrev pub decreases-loop-at_class : goal.decreases-loop-at_class
decreases-loop-at_class l = l.at_class
