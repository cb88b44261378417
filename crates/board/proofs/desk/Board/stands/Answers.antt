use Rattle.std.proofs.Common.{subst}
use Rattle.board.specs.Theorems.{Rostered}
use Rattle.board.proofs.desk.Board.stands.Goals as goal

pub returns-clause-rostered : goal.returns-clause-rostered
returns-clause-rostered g c =
    let s = c.self.inside.roster.sound in
    subst (λ d. Rostered d.standing.roster) c.self.view_is
    (record { some = s.0; few = s.1; root = s.2; above = s.3; homed = s.4; past = s.5 })
