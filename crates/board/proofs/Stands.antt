-- The worked cases, by computing. Assumes nothing.
use Rattle.std.specs.Int.{int_wrap}
use Rattle.amounts.specs.Sums.{tally, sum_below, table_sum, copies}
use Rattle.amounts.specs.Least.{least_of}
use Rattle.sources.specs.Strikes.{struck_out}
use Rattle.plans.specs.Problem.{member, count, total}
use Rattle.plans.specs.Sheets.{each_below, some_below, stranded, upward, toll, cheapest, floor, accepts}
use Rattle.plans.specs.Trials.{assignments, any_of, books_fit, bounds_fit, is_plan, is_within, kept_at, least_among, least_total, best_answer}
use Rattle.board.specs.Questions.{toll_check, head_check}
use Rattle.board.specs.Standing.{changed, fault, stepped, played, opened}
use Rattle.board.specs.Cases.{holds, all_taken, right_of, right, all_right, CasesStand}

pub cases_stand : CasesStand
unfolding int_wrap tally sum_below table_sum copies least_of struck_out member count total each_below some_below stranded upward toll cheapest floor accepts assignments any_of books_fit bounds_fit is_plan is_within kept_at least_among least_total best_answer toll_check head_check changed fault stepped played opened holds all_taken right_of right all_right
cases_stand = tt
