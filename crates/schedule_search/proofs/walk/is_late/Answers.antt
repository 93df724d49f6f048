use Rattle.std.proofs.Common.{◌≡◌, ◌∙◌, ◌+◌, ◌-◌, ◌<◌, ◌≤◌, ℕ, Some, sym, ap, get_or, length, subst, arith, slice_get, IfSome}
use Rattle.std.proofs.lemmas.Option.{slice_get-get_or}
use Rattle.resource_table.specs.Jobs.{JobValue, cycles_of}
use Rattle.resource_table.specs.Schedules.{TableValue, last_end, ready_at, IsEarliest}
use Rattle.resource_table.specs.Calm.{IsCalm}
use Rattle.schedule_search.specs.Estimates.{CanAsk}
use Rattle.schedule_search.proofs.Bests.{followers_unplaced}
use Rattle.schedule_search.proofs.Lateness.{in_time_more, in_time_all, in_time_from}
use Rattle.schedule_search.proofs.walk.is_late.Goals as goal

pub cycles_at-requires : goal.cycles_at-requires
cycles_at-requires g c =
    let test : ℕ = get_or c.args.rest.now c.loop-asked.asked 0 in
    let at : slice_get c.args.rest.now c.loop-asked.asked ≡ Some test = slice_get-get_or c.args.rest.now c.loop-asked.asked 0 c.loop-asked-test.true in
    subst (λ (j : JobValue). test < length j.tests) c.requires.job (c.requires.rest.free c.loop-asked.asked test at).0

pub returns-then-cycles_at-left-clause-in_time : goal.returns-then-cycles_at-left-clause-in_time
returns-then-cycles_at-left-clause-in_time g c = λ _.
    let test : ℕ = get_or c.args.rest.now c.loop-asked.asked 0 in
    let at : slice_get c.args.rest.now c.loop-asked.asked ≡ Some test = slice_get-get_or c.args.rest.now c.loop-asked.asked 0 c.loop-asked-test.true in
    let own : c.cycles_at.result ≡ cycles_of c.args.table.now.job test = c.cycles_at.ensures ∙ ap (λ (j : JobValue). cycles_of j test) (sym c.requires.job) in
    let quick : cycles_of c.args.table.now.job test < c.args.by.cycles - c.args.by.end = omega (arith, own, c.if-cycles_at-left.true, c.saturating_sub-left.ensures) in
    in_time_from c.args.table.now c.args.rest.now c.loop-asked.asked test c.args.by.end c.args.by.cycles c.requires.rest c.loop-asked.invariant.below at c.requires.ends quick

pub ends_late_after-requires-clause-asked : goal.ends_late_after-requires-clause-asked
ends_late_after-requires-clause-asked g c =
    let test : ℕ = get_or c.args.rest.now c.loop-asked.asked 0 in
    let at : slice_get c.args.rest.now c.loop-asked.asked ≡ Some test = slice_get-get_or c.args.rest.now c.loop-asked.asked 0 c.loop-asked-test.true in
    let free = c.requires.rest.free c.loop-asked.asked test at in
    subst (λ (t : TableValue). CanAsk t test) (sym c.loop-asked.invariant.same) (record {
      sound = c.requires.sound;
      in_job = free.0;
      unplaced = free.1;
      followers = followers_unplaced c.args.table.now test c.requires.sound free.1;
    })

pub ends_late_after-requires-clause-job : goal.ends_late_after-requires-clause-job
ends_late_after-requires-clause-job g c = ap (λ (t : TableValue). t.job) c.loop-asked.invariant.same ∙ c.requires.job

pub returns-then-ends_late_after-clause-late : goal.returns-then-ends_late_after-clause-late
returns-then-ends_late_after-clause-late g c = λ _.
    let test : ℕ = get_or c.args.rest.now c.loop-asked.asked 0 in
    let at : slice_get c.args.rest.now c.loop-asked.asked ≡ Some test = slice_get-get_or c.args.rest.now c.loop-asked.asked 0 c.loop-asked-test.true in
    let free = c.requires.rest.free c.loop-asked.asked test at in
    record {
      test = test;
      in_job = free.0;
      unplaced = free.1;
      late = subst (λ (t : TableValue). (start : ℕ) → IsEarliest t.job t.placed test start → c.args.by.cycles ≤ start + cycles_of t.job test) c.loop-asked.invariant.same (c.ends_late_after.ensures.late c.if-ends_late_after.true);
    }

pub loop-asked-preserved : goal.loop-asked-preserved
loop-asked-preserved g c =
    let test : ℕ = get_or c.args.rest.now c.loop-asked.asked 0 in
    let at : slice_get c.args.rest.now c.loop-asked.asked ≡ Some test = slice_get-get_or c.args.rest.now c.loop-asked.asked 0 c.loop-asked-test.true in
    let early : ready_at c.args.table.now.job c.args.table.now.placed test + cycles_of c.args.table.now.job test < c.args.by.cycles = subst (λ (t : TableValue). ready_at t.job t.placed test + cycles_of t.job test < c.args.by.cycles) c.loop-asked.invariant.same (c.ends_late_after.ensures.in_time c.if-ends_late_after.false) in
    record {
      same = c.ends_late_after.ensures.same ∙ c.loop-asked.invariant.same;
      calm = subst (λ (t : TableValue). IfSome c.calm_after-calm.result (IsCalm t.job t.placed c.args.by.most)) c.loop-asked.invariant.same c.calm_after-calm.ensures.calm;
      at_last = subst (λ (t : TableValue). IfSome c.calm_after-calm.result (λ from. from ≤ last_end t.job t.placed)) c.loop-asked.invariant.same c.calm_after-calm.ensures.at_last;
      below = in_time_more c.args.table.now c.args.rest.now c.loop-asked.asked test c.args.by.cycles (ready_at c.args.table.now.job c.args.table.now.placed test + cycles_of c.args.table.now.job test) c.loop-asked.invariant.below at (omega arith) early;
    }

pub returns-clause-in_time : goal.returns-clause-in_time
returns-clause-in_time g c = λ _. in_time_all c.args.table.now c.args.rest.now c.loop-asked.asked c.args.by.cycles c.requires.rest c.loop-asked.invariant.below c.loop-asked-test.false

pub loop-asked-init : goal.loop-asked-init
loop-asked-init g c = record {
  same = c.asks_late.ensures.same;
  below = λ n test less at. absurd (omega (arith, less));
  calm = tt;
  at_last = tt;
}

pub calm_after-calm-requires-clause-calm : goal.calm_after-calm-requires-clause-calm
calm_after-calm-requires-clause-calm g c = subst (λ (t : TableValue). IfSome c.loop-asked.calm (IsCalm t.job t.placed c.args.by.most)) (sym c.loop-asked.invariant.same) c.loop-asked.invariant.calm

pub calm_after-calm-requires-clause-at_last : goal.calm_after-calm-requires-clause-at_last
calm_after-calm-requires-clause-at_last g c = subst (λ (t : TableValue). IfSome c.loop-asked.calm (λ from. from ≤ last_end t.job t.placed)) (sym c.loop-asked.invariant.same) c.loop-asked.invariant.at_last
