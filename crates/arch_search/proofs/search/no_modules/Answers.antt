use Rattle.std.proofs.Common.{List, rules, length, sym, subst, All}
use Rattle.arch_schedule.specs.declared.dealing.DealtModule.{DealtModule}
use Rattle.arch_schedule.specs.Dealing.{IsTaken}
use Rattle.arch_search.proofs.Searching.{none_taken}
use Rattle.arch_search.proofs.search.no_modules.Goals as goal

pub returns : goal.returns
returns c =
    let problem = c.args.problem.now in
    let few = c.min-count.ensures in
    subst (λ (l : List DealtModule). All (IsTaken problem.wires (length problem.modules.items)) l) (sym c.in_ok-taken.ensures)
    (none_taken problem.wires (length problem.modules.items) c.min-count.result _ c.requires.1.some_wires (search rules) (search rules) (search rules))
