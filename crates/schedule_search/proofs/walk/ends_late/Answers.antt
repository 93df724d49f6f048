use Rattle.std.proofs.Common.{◌≡◌, ◌∙◌, ◌+◌, ◌≤◌, ℕ, sym, ap, subst, arith}
use Rattle.std.proofs.lemmas.Bool.{leb-true, leb-false}
use Rattle.resource_table.specs.Jobs.{JobValue, cycles_of}
use Rattle.resource_table.specs.Schedules.{TableValue, ready_at, IsEarliest}
use Rattle.schedule_search.specs.Estimates.{CanAsk}
use Rattle.schedule_search.proofs.Estimates.{ready_first}
use Rattle.schedule_search.proofs.walk.ends_late.Goals as goal

pub returns-then-start-saturating_sub-clause-in_time : goal.returns-then-start-saturating_sub-clause-in_time
returns-then-start-saturating_sub-clause-in_time g c = λ _.
    let test : ℕ = c.args.test in
    let own : c.cycles_at.result ≡ cycles_of c.args.table.now.job test = c.cycles_at.ensures ∙ ap (λ (j : JobValue). cycles_of j test) (sym c.requires.job) in
    let ready = ready_first c.args.table.now test c.noted_start-start.result c.noted_start-start.ensures.earliest in
    let less = c.if-start-saturating_sub.true in
    omega (arith, own, ready, less, c.saturating_sub.ensures)

pub ask-requires-clause-asked : goal.ask-requires-clause-asked
ask-requires-clause-asked g c = subst (λ (t : TableValue). CanAsk t c.args.test) (sym c.noted_start-start.ensures.same) c.requires.asked

pub returns-clause-late : goal.returns-clause-late
returns-clause-late g c = λ yes' start earliest.
    let most = subst (λ (t : TableValue). (s : ℕ) → IsEarliest t.job t.placed c.args.test s → c.ask.result ≤ s + cycles_of t.job c.args.test) c.noted_start-start.ensures.same c.ask.ensures.most in
    omega (arith, most start earliest, leb-true c.args.cycles c.ask.result yes')

pub returns-clause-in_time : goal.returns-clause-in_time
returns-clause-in_time g c = λ no'.
    let least = subst (λ (t : TableValue). ready_at t.job t.placed c.args.test + cycles_of t.job c.args.test ≤ c.ask.result) c.noted_start-start.ensures.same c.ask.ensures.least in
    omega (arith, least, leb-false c.args.cycles c.ask.result no')
