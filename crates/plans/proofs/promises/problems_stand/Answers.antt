use Rattle.plans.proofs.Posing.{held_sound, posed_sound, bounds_straight, held_assigned, assigned_is}
use Rattle.plans.proofs.promises.problems_stand.Goals as goal

pub returns : goal.returns
returns g c =
    let K = g.X.Amount.kind in
    record {
      sound = posed_sound K;
      straight = λ source roster bounds limit. bounds_straight bounds;
      assigned = assigned_is K;
      held_sound = held_sound K;
      held_straight = λ source held bounds limit. bounds_straight bounds;
      held_assigned = held_assigned K;
    }
