use Rattle.std.specs.Int.{int_wrap}
use Rattle.amounts.specs.Sums.{sum_below, table_sum, copies, tally}
use Rattle.amounts.specs.Least.{least_of}
use Rattle.plans.specs.Problem.{member, count, total}
use Rattle.plans.specs.Sheets.{each_below, some_below, stranded, upward, toll, cheapest, floor, accepts}
use Rattle.plans.specs.Trials.{assignments, any_of, books_fit, bounds_fit, is_plan, is_within, kept_at, least_among, least_total, best_answer}
use Rattle.plans_tests.proofs.worked.board_z_stands.Goals as goal

pub returns : goal.returns
unfolding int_wrap sum_below table_sum copies tally least_of member count total each_below some_below stranded upward toll cheapest floor accepts assignments any_of books_fit bounds_fit is_plan is_within kept_at least_among least_total best_answer
returns c = (tt, tt, tt, tt, tt, tt, tt, tt, tt, tt, tt, tt, tt, tt)
