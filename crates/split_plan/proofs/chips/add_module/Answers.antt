use Rattle.std.proofs.Common.{◌++◌, List, sym, subst, All}
use Rattle.std.proofs.lemmas.List.Elements.{All-append}
use Rattle.std.proofs.lemmas.Result.{on_ok_weaker}
use Rattle.split_plan.specs.declared.cuts.Cut.{Cut}
use Rattle.split_plan.specs.Steps.{HasRoom}
use Rattle.split_plan.proofs.chips.add_module.Goals as goal

pub returns-clause-room : goal.returns-clause-room
returns-clause-room c =
    let own = c.in_ok-own.own.items in
    let room = All-append HasRoom c.args.made.now.cuts.items own c.requires.room c.in_ok-own.ensures.room in
    let joined = subst (λ (l : List Cut). All HasRoom (c.args.made.now.cuts.items ++ l)) (sym c.deref-2.ensures.value) room in
    on_ok_weaker c.extend.result (λ added. subst (λ (cuts : List Cut). All HasRoom cuts) (sym added) joined) c.extend.ensures.ok
