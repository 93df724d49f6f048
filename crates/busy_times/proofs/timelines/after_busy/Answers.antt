use Rattle.std.proofs.Common.{◌≡◌, ℕ, Option, List, arith, sym}
use Rattle.busy_times.specs.{declared.timelines.Timeline.Timeline, BusyTimes.AreFree}
use Rattle.busy_times.proofs.timelines.after_busy.Goals as goal

-- timelines that were read
free_of : (lines read : List Timeline) (place : Option ℕ) (length' start : ℕ) → read ≡ lines → AreFree lines place length' start → AreFree read place length' start
free_of lines read place length' start is free = rw is free

pub starts-preserved : goal.starts-preserved
starts-preserved c =
    let from = c.starts.invariant.from in
    record {
      from = omega (arith, from, c.after_alone-bus.ensures.from, c.after_modules-next.ensures.from);
      most = c.after_modules-next.ensures.most;
      least = (λ other le free. c.after_modules-next.ensures.least other (c.after_alone-bus.ensures.least other (c.starts.invariant.least other le free) (free_of c.args.times.now.buses.items c.deref.result.now c.args.places.bus c.args.length other c.deref.ensures.value free.bus)) free);
    }

pub returns-then-next-bus-clause-free : goal.returns-then-next-bus-clause-free
returns-then-next-bus-clause-free c =
    let same = c.if-next-bus.true in
    record {
      bus = free_of c.deref.result.now c.args.times.now.buses.items c.args.places.bus c.args.length c.after_alone-bus.result (sym c.deref.ensures.value) c.after_alone-bus.ensures.clear;
      own = c.after_modules-next.ensures.own same;
      parent = c.after_modules-next.ensures.parent same;
      children = c.after_modules-next.ensures.children same;
    }

pub returns-then-next-bus-clause-least : goal.returns-then-next-bus-clause-least
returns-then-next-bus-clause-least c = λ other le free. c.after_alone-bus.ensures.least other (c.starts.invariant.least other le free) (free_of c.args.times.now.buses.items c.deref.result.now c.args.places.bus c.args.length other c.deref.ensures.value free.bus)
