-- Whatever calls are sent to an opened board, the problem that they make of it is sound, and the checks are right about it. Assumes nothing.
use Rattle.std.proofs.Common.{◌≡◌, ℕ, ◌+◌, ◌*◌, ◌<◌, ◌≤◌, min, Bool, true, false, cond, ◌&&◌, ltb, leb, List, [], ◌∷◌, length, take, set, IfSome, Some, None, Option, refl, ◌∙◌, arith}
use Rattle.std.specs.List.{All}
use Rattle.std.proofs.lemmas.List.Elements.{All-set, All-replicate}
use Rattle.std.proofs.lemmas.Bool.{and_parts, leb-true, cond_both}
use Rattle.std.proofs.lemmas.List.{get_or_past}
use Rattle.amounts.specs.Kind.{Kind, Lawful}
use Rattle.sources.specs.Strikes.{struck_at, struck_out}
use Rattle.plans.specs.Bounding.{bound, StraightBound, bounds_go}
use Rattle.plans.specs.Posed.{Meaning}
use Rattle.plans.specs.Rosters.{passes, class_fits, parents_fit, padded, roster_of}
use Rattle.plans.specs.Theorems.{Sound}
use Rattle.plans.proofs.Padding.{get_or_filled, padded_reads, fitting, homes_low}
use Rattle.plans.proofs.Straight.{bound_holds}
use Rattle.board.proofs.Checks.{never_wrong}
use Rattle.board.specs.declared.refusal.Refusal.{Refusal}
use Rattle.board.specs.declared.refusal.Refusal.TheVariants.{Heavy}
use Rattle.board.specs.Standing.{Standing, Step, strike, reopen, pin, roster, bounds, limit, question, free_bounds, with_roster, settled, fault, changed, stepped, played, opened, quote_of, put_by, made_by}
use Rattle.board.specs.Theorems.{Rostered, Fair, RunsSound, RunsUncrossed, RunsNeverWrong}

-- ---- rosters
-- lists that pass the tests of a roster make one
listed : (ps hs : List ℕ) → parents_fit ps ≡ true → passes (class_fits (length ps)) 0 hs ≡ true → Rostered (record { classes = length ps; parents = padded 8 ps; homes = padded 120 hs })
listed ps hs e e' =
    let f = fitting ps e in
    record {
      some = f.some;
      few = f.few;
      root = omega (arith, f.low 0, padded_reads 8 ps 0);
      above = λ c h l. omega (arith, f.low c, padded_reads 8 ps c);
      homed = λ b l. omega (arith, homes_low (length ps) hs f.some e' b, padded_reads 120 hs b);
      past = λ c h. padded_reads 8 ps c ∙ get_or_past ps c 0 h;
    }

-- ---- bounds
free_bounded : (books : ℕ) → All StraightBound (free_bounds books)
free_bounded books = All-replicate StraightBound 128 (bound 0 (min books 120)) (omega arith, omega arith)

-- ---- runs
module _ {V : Type 0} (K : Kind V) (M : Meaning V) where
  record Fit (st : Standing V) : Type 0 where
    pub rostered : Rostered st.roster
    pub bounded : All StraightBound st.bounds
    pub modest : K.weight st.limit ≤ 1000000000000

  fit_settled : (o : Option Refusal) (st st' : Standing V) → Fit st → Fit st' → Fit (settled M o st st')
  fit_settled None st st' f f' = f'
  fit_settled (Some r) st st' f f' = f

  fit_roster : (st : Standing V) (ps cs : List ℕ) → Fit st → Fit (with_roster M st (roster_of M.books ps cs))
  fit_roster st ps cs f =
      let n = min M.books 120 in
      let hs = take n cs in
      cond_both (ltb (length cs) n) _ _ (λ r. Fit (with_roster M st r)) (λ _. f)
      (λ enough. cond_both (parents_fit ps && passes (class_fits (length ps)) 0 hs) _ _ (λ r. Fit (with_roster M st r))
      (λ e.
      let parts = and_parts (parents_fit ps) (passes (class_fits (length ps)) 0 hs) e in
      record { rostered = listed ps hs parts.0 parts.1; bounded = free_bounded M.books; modest = f.modest })
      (λ _. f))

  fit_limit : (st : Standing V) (amount : V) (t : Bool) → leb (K.weight amount) 1000000000000 ≡ t → Fit st → Fit (settled M (cond t None (Some Heavy)) st (changed M st (limit amount)))
  unfolding changed
  fit_limit st amount true e f = record { rostered = f.rostered; bounded = f.bounded; modest = leb-true (K.weight amount) 1000000000000 e }
  fit_limit st amount false e f = f

  fit_bounds : (st : Standing V) (w c lo up : ℕ) (t : Bool) → bounds_go w c lo up ≡ t → All StraightBound st.bounds →
      All StraightBound (cond t (set st.bounds (w * 8 + c) (bound lo up)) st.bounds)
  fit_bounds st w c lo up true e b =
      let p₁ = and_parts (ltb w 16 && ltb c 8 && leb lo up) (leb up 120) e in
      let p₂ = and_parts (ltb w 16 && ltb c 8) (leb lo up) p₁.0 in
      All-set StraightBound st.bounds (w * 8 + c) (bound lo up) (leb-true lo up p₂.1, leb-true up 120 p₁.1) b
  fit_bounds st w c lo up false e b = b

  fit_step : (st : Standing V) (s : Step V) → Fit st → Fit (stepped M K st s)
  unfolding stepped changed fault
  fit_step st (strike b w) f = fit_settled (fault M K st (strike b w)) st _ f (record { rostered = f.rostered; bounded = f.bounded; modest = f.modest })
  fit_step st (reopen b w) f = fit_settled (fault M K st (reopen b w)) st _ f (record { rostered = f.rostered; bounded = f.bounded; modest = f.modest })
  fit_step st (pin b w) f = fit_settled (fault M K st (pin b w)) st _ f (record { rostered = f.rostered; bounded = f.bounded; modest = f.modest })
  fit_step st (roster ps cs) f = fit_settled (fault M K st (roster ps cs)) st _ f (fit_roster st ps cs f)
  fit_step st (bounds w c lo up) f =
      fit_settled (fault M K st (bounds w c lo up)) st _ f
      (record { rostered = f.rostered; bounded = fit_bounds st w c lo up (bounds_go w c lo up) refl f.bounded; modest = f.modest })
  fit_step st (limit amount) f = fit_limit st amount (leb (K.weight amount) 1000000000000) refl f
  fit_step st question f = f

  fit_played : (ss : List (Step V)) (st : Standing V) → Fit st → Fit (played M K st ss)
  unfolding played
  fit_played [] st f = f
  fit_played (s ∷ ss) st f = fit_played ss (stepped M K st s) (fit_step st s f)

  fit_opened : Lawful K → Fit (opened M K)
  unfolding opened
  fit_opened L = record {
    rostered = record {
      some = omega arith;
      few = omega arith;
      root = refl;
      above = λ c h l. absurd (omega arith);
      homed = λ b l. omega (arith, get_or_filled {X = ℕ} 120 b 0);
      past = λ c h. get_or_filled {X = ℕ} 8 c 0;
    };
    bounded = free_bounded M.books;
    modest = omega (arith, L.none_weight);
  }

  -- a strike shuts a pair, and leaves the quotes of the others
  quotes_light : Fair K M → (st : Standing V) (b w : ℕ) → b < M.books → w < M.weekends → IfSome (quote_of M st b w) (λ x. K.weight x ≤ 1000000000)
  unfolding struck_out
  quotes_light fair st b w lb lw =
      cond_both (struck_at st.struck b w) None (M.quote b w) (λ o. IfSome o (λ x. K.weight x ≤ 1000000000)) (λ _. tt) (λ _. fair.light b w lb lw)

  fit_sound : Fair K M → (st : Standing V) → Fit st → Sound K (put_by M st)
  fit_sound fair st f =
      let small = bound_holds StraightBound st.bounds (omega arith, omega arith) f.bounded in
      record {
        books = fair.few_books;
        weekends = fair.few_weekends;
        classes = f.rostered.few;
        root = f.rostered.root;
        above = f.rostered.above;
        classed = λ b l. f.rostered.homed b (omega (arith, fair.few_books));
        lowers = λ w c lw lc. omega (arith, (small w c).0, (small w c).1);
        uppers = λ w c lw lc. (small w c).1;
        quotes = quotes_light fair st;
        limit = f.modest;
      }

module _ {V : Type 0} {K : Kind V} (L : Lawful K) where
  fit_run : (M : Meaning V) (ss : List (Step V)) → Fit K M (played M K (opened M K) ss)
  fit_run M ss = fit_played K M ss (opened M K) (fit_opened K M L)

  pub runs_sound : RunsSound K
  runs_sound M fair ss = fit_sound K M fair (played M K (opened M K) ss) (fit_run M ss)

  pub runs_uncrossed : RunsUncrossed K
  runs_uncrossed M fair ss w c lw lc =
      let st = played M K (opened M K) ss in
      (bound_holds StraightBound st.bounds (omega arith, omega arith) (fit_run M ss).bounded w c).0

  pub runs_never_wrong : RunsNeverWrong K
  runs_never_wrong M fair ss = never_wrong L (made_by M K ss) (runs_sound M fair ss)
