use Rattle.std.proofs.Common.{◌++◌, codes, decimal}
use Rattle.tester_forms.proofs.vcd_definitions.push_scope.Goals as goal
use Rattle.common_lemmas.proofs.Options.{on_ok}
use Rattle.common_lemmas.proofs.Lists.{joined_after}

pub returns : goal.returns
returns c =
    let name = c.args.word.now ++ decimal c.args.number in
    on_ok c.extend-2.result
    (λ e. joined_after c.args.text.now.items c.extend.new.to.items c.extend-2.new.to.items (codes "$scope module ") (name ++ codes " $end\n") c.in_ok-extend.ensures.ok
    (joined_after c.extend.new.to.items c.push_numbered.new.text.items c.extend-2.new.to.items name (codes " $end\n") c.in_ok-push_numbered.ensures e))
    c.extend-2.ensures.ok
