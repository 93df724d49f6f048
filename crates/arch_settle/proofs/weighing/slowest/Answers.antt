use Rattle.std.proofs.Common.{◌≡◌, ℕ, ◌+◌, ◌<◌, ◌≤◌, List, length, get_or, arith, ap}
use Rattle.std.specs.List.{IsFirstMaxByKey}
use Rattle.std.proofs.lemmas.List.{get_or_default}
use Rattle.std.proofs.lemmas.List.Sums.{best_keeps, best_takes}
use Rattle.arch_settle.specs.declared.weighing.WeighedBus.{WeighedBus}
use Rattle.arch_settle.proofs.weighing.slowest.Goals as goal
use Rattle.arch_settle.proofs.weighing.slowest.Goals.{then-most-time, else-most-time}

same_time : (loads : List WeighedBus) (i : ℕ) (d e : WeighedBus) → i < length loads → (get_or loads i d).time ≡ (get_or loads i e).time
same_time loads i d e within = ap (λ (l : WeighedBus). l.time) (get_or_default loads i d e within)

takes : (loads : List WeighedBus) (i at most : ℕ) (e : WeighedBus) → i < length loads → IsFirstMaxByKey (λ load. load.time) loads i at → ((d : WeighedBus) → most ≡ (get_or loads at d).time) → most < (get_or loads i e).time → IsFirstMaxByKey (λ load. load.time) loads (i + 1) i
takes loads i at most e within first so more = best_takes (λ (l : WeighedBus). l.time) loads i at first (λ d. omega (arith, so d, more, same_time loads i d e within))

keeps : (loads : List WeighedBus) (i at most : ℕ) (e : WeighedBus) → i < length loads → IsFirstMaxByKey (λ load. load.time) loads i at → ((d : WeighedBus) → most ≡ (get_or loads at d).time) → (get_or loads i e).time ≤ most → IsFirstMaxByKey (λ load. load.time) loads (i + 1) at
keeps loads i at most e within first so less = best_keeps (λ (l : WeighedBus). l.time) loads i at first (λ d. omega (arith, so d, less, same_time loads i d e within))

pub loop-i-preserved : goal.loop-i-preserved
loop-i-preserved c =
    let loads = c.args.loads.now in
    let i = c.loop-i.i in
    let so = c.loop-i.invariant in
    elim c.if-most-time.branch [
      | then-most-time w ↦ rw (w.at-is, w.most-is) (record {
        first = takes loads i c.loop-i.at c.loop-i.most _ c.loop-i-test.true so.first so.time w.if-most-time.true;
        time = λ d. same_time loads i _ d c.loop-i-test.true;
      })
      | else-most-time w ↦ rw (w.at-is, w.most-is) (record {
        first = keeps loads i c.loop-i.at c.loop-i.most _ c.loop-i-test.true so.first so.time w.if-most-time.false;
        time = so.time;
      })
    ]
