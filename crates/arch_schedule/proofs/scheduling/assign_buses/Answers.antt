use Rattle.std.proofs.Common.{◌≡◌, ◌+◌, ◌-◌, ◌≤◌, ◌<◌, ℕ, List, length, take, sym, subst, arith, All, sum_by}
use Rattle.plan_model.specs.declared.TheConstants.{START_MOST}
use Rattle.arch_schedule.proofs.OtherBuses.{last_more, short_more, short_all}
use Rattle.arch_schedule.proofs.scheduling.assign_buses.Goals as goal

pub loop-test-preserved : goal.loop-test-preserved
loop-test-preserved c =
    let i = c.loop-test.invariant in
    let t : ℕ = c.loop-test.test in
    let cycles : ℕ = c.cycles_over-cycles.result in
    let old : List ℕ = c.loop-test.room.cycles.items in
    let within : t < length old = omega (arith, i.room.cycles, c.loop-test-test.true) in
    let some : 1 ≤ cycles = omega (arith, c.if-cycles-eq0.false) in
    record {
      room = c.assign_bus.ensures.room (length c.args.problem.now.tests.items) i.room;
      last = subst (λ (l : List ℕ). All (λ c. 1 ≤ c) (take (t + 1) l)) (sym c.assign_bus.ensures.cycles) (last_more old t cycles within some i.last);
      short = subst (λ (l : List ℕ). sum_by (λ (c : ℕ). c) (take (t + 1) l) + (c.loop-test.left - cycles) ≡ START_MOST) (sym c.assign_bus.ensures.cycles)
          (short_more old t cycles c.loop-test.left (c.loop-test.left - cycles) START_MOST within (omega (arith, c.if-cycles-left.false)) i.short);
    }

pub returns-clause-short : goal.returns-clause-short
returns-clause-short c = λ yes. short_all c.loop-test.room.cycles.items c.loop-test.test c.loop-test.left (omega (arith, c.loop-test.invariant.room.cycles, c.loop-test-test.false)) c.loop-test.invariant.last c.loop-test.invariant.short
