use Rattle.std.proofs.Common.{◌∙◌, ◌<◌, rules, arith, length-set}
use Rattle.std.proofs.lemmas.List.Elements.{All-set}
use Rattle.arch_search.proofs.order.advance_test.Goals as goal

pub loop-next-init : goal.loop-next-init
loop-next-init c = record {
  long = search rules;
  order = λ n all. all;
  carried = λ n all. (let a = all c.args.place c.index-carried.result.now c.requires.within in omega (arith, a, c.index-carried.ensures));
}

pub loop-next-preserved : goal.loop-next-preserved
loop-next-preserved c = record {
  long = length-set c.loop-next.order.items c.loop-next.next c.loop-next.carried ∙ c.loop-next.invariant.long;
  order = λ n all. All-set (λ test. test < n) c.loop-next.order.items c.loop-next.next c.loop-next.carried (c.loop-next.invariant.carried n all) (c.loop-next.invariant.order n all);
  carried = λ n all. (let a = c.loop-next.invariant.order n all c.loop-next.next c.index-held.result.now (omega (arith, c.loop-next-test.true, c.requires.within, c.loop-next.invariant.long)) in omega (arith, a, c.index-held.ensures));
}
