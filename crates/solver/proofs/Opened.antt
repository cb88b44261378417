-- Where a search for a least assignment begins: the problem is sound, and each book has an open weekend. Assumes nothing.
use Rattle.std.proofs.Common.{◌≡◌, ℕ, ◌^◌, ◌<◌, ◌≤◌, true, List, IfSome, is_some, ◌∙◌, arith}
use Rattle.amounts.specs.Kind.{Kind, Lawful}
use Rattle.sources.specs.Meaning.{InRange}
use Rattle.sources.specs.declared.meaning.Source.{Ghosts}
use Rattle.plans.specs.declared.setting.Setting.{Setting}
use Rattle.plans.specs.Theorems.{Sound}
use Rattle.plans.proofs.Posing.{posed_sound}
use Rattle.plans.specs.declared.class_tree.Roster.{Roster}
use Rattle.plans.specs.Places.{at}
use Rattle.plans.specs.Posed.{Meaning, meaning}
use Rattle.solver.specs.declared.state.State.{State}
use Rattle.solver.specs.Starting.{Begun}
use Rattle.solver.specs.Held.{posed_by, word_at}
use Rattle.solver.specs.States.{sent_of}

-- a setting's problem is sound, where every pair was asked for; no limit is looked at, so none is too heavy
pub asked_sound : {S V : Type 0} {source : Ghosts S V} {K : Kind V} → InRange source.count source.weeks source.table → Lawful K → (s : Setting S)
    → ((b w : ℕ) → b < source.count s.source.now → w < source.weeks s.source.now → IfSome (source.table s.source.now b w) (λ x. K.weight x ≤ 10 ^ 9)) → Sound K (posed_by source K s)
asked_sound {source = source} {K = K} ranges L s light =
    posed_sound K (meaning source s.source.now) s.roster.now s.bounds.now K.none (ranges.few_books s.source.now) (ranges.few_weeks s.source.now) light (omega (arith, L.none_weight))

-- each book has an open weekend: the one that it is sent to
pub opened : {V : Type 0} (source : Meaning V) (roster : Roster) (state : State) (words : List ℕ) → Begun source roster state → ((b w : ℕ) → word_at words b w ≡ is_some (source.quote b w)) → (b : ℕ) → b < source.books → (x : ℕ) × (x < source.weekends) × (word_at words b x ≡ true)
opened source roster state words begun bits b l = (at (sent_of state) b, begun.sent b l, bits b (at (sent_of state) b) ∙ begun.meets b l)
