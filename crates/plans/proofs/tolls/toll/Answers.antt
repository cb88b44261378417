use Rattle.std.proofs.Common.{◌*◌, ◌≤◌, sym, subst, mul-le-mul, arith}
use Rattle.plans.proofs.tolls.toll.Goals as goal

pub climb-requires : goal.climb-requires
climb-requires g c =
    let w : c.args.weekend ≤ 16 = omega arith in
    record { known = c.class_of.ensures.known; near = subst (λ n. c.args.weekend * n ≤ 128) (sym c.classes.ensures) (mul-le-mul w c.args.roster.now.sound.1) }
