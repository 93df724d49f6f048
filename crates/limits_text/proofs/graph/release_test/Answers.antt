use Rattle.limits_text.proofs.Taking.{let_go_kept, let_go_on}
use Rattle.limits_text.proofs.graph.release_test.Goals as goal

pub returns-clause-kept : goal.returns-clause-kept
returns-clause-kept c =
    let k = c.requires in
    let_go_kept c.args.counts.now.items _ c.args.order.now.items c.take_free.new.order.items c.args.test _ k.within k.within k.held c.in_ok-take_free.ensures.taken c.in_ok-take_free.ensures.kept k.kept

pub returns-clause-goes_on : goal.returns-clause-goes_on
returns-clause-goes_on c = let_go_on c.args.order.now.items c.take_free.new.order.items c.args.test _ c.in_ok-take_free.ensures.taken c.in_ok-take_free.ensures.kept
