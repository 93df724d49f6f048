use Rattle.std.proofs.Common.{◌≡◌, true, false, sym, ◌∙◌, Contains}
use Rattle.indexmap.specs.IndexSet.{keys}
use Rattle.soc_model.specs.Chips.{module_value}
use Rattle.plan_model.specs.Rules.{uses_mode}
use Rattle.plan_checker.proofs.Breaking.{of_none, of_one, breaks_one}
use Rattle.plan_checker.proofs.Pairing.{paired, not_paired}
use Rattle.common_lemmas.proofs.Tests.{not_true, not_false}
use Rattle.plan_checker.proofs.wrappers.lacks_wrapper.Goals as goal

pub returns-then-not-uses_mode-clause-kept : goal.returns-then-not-uses_mode-clause-kept
returns-then-not-uses_mode-clause-kept c = λ _.
    let none : uses_mode c.args.scan (module_value c.args.«module».now) ≡ false = sym c.if-not-uses_mode.ensures in
    rw none (of_none (Contains (keys c.args.room.now)))

pub returns-clause-broken : goal.returns-clause-broken
returns-clause-broken c = λ yes'.
    let used : uses_mode c.args.scan (module_value c.args.«module».now) ≡ true = sym c.if-not-uses_mode.ensures in
    rw used (breaks_one (Contains (keys c.args.room.now)) (c.args.«module».now.number, c.args.scan) (not_paired c.args.«module».now.number c.args.scan (keys c.args.room.now) (sym c.has_pair.ensures ∙ not_true c.has_pair.result yes')))

pub returns-clause-kept : goal.returns-clause-kept
returns-clause-kept c = λ no'.
    let used : uses_mode c.args.scan (module_value c.args.«module».now) ≡ true = sym c.if-not-uses_mode.ensures in
    rw used (of_one (Contains (keys c.args.room.now)) (c.args.«module».now.number, c.args.scan) (paired c.args.«module».now.number c.args.scan (keys c.args.room.now) (sym c.has_pair.ensures ∙ not_false c.has_pair.result no')))
