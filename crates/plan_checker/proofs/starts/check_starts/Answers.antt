use Rattle.std.proofs.Common.{List, length, sym, ap, ◌∙◌, subst, refl}
use Rattle.soc_model.specs.declared.TestId.{TestId}
use Rattle.soc_model.specs.Chips.{soc_value}
use Rattle.plan_model.specs.Faults.{Present, Missing}
use Rattle.plan_model.specs.Rules.{live_ids}
use Rattle.live_tests.specs.Names.{AllDiffer}
use Rattle.live_tests.proofs.LiveIds.{ids_differ}
use Rattle.plan_checker.specs.Named.{ids_of}
use Rattle.plan_checker.proofs.Starting.{none_yet, first_without, all_started}
use Rattle.plan_checker.proofs.starts.check_starts.Goals as goal

pub take_starts-requires-clause-apart : goal.take_starts-requires-clause-apart
take_starts-requires-clause-apart c = subst (λ (ids : List TestId). AllDiffer ids) (sym c.requires.named) (ids_differ (soc_value c.args.soc.now) c.requires.sound)

pub take_starts-requires-clause-none : goal.take_starts-requires-clause-none
take_starts-requires-clause-none c = none_yet (ids_of c.args.names.now) c.fill.new.self (length c.args.room.now) (c.fill.ensures.after (λ y is. is)) (c.requires.room ∙ ap length (sym c.requires.named))

pub returns-in-Some-clause-stage : goal.returns-in-Some-clause-stage
returns-in-Some-clause-stage c = λ limits.
    let w = rw (c.requires.named, c.deref.ensures.value) at c.in-Some.ensures.first in
    (Present w.0 w.1 w.2 w.3, refl)

pub returns-in-Some-unstarted-clause-stage : goal.returns-in-Some-unstarted-clause-stage
returns-in-Some-unstarted-clause-stage c = λ limits.
    let kept = rw (c.requires.named, c.deref.ensures.value) at c.in-None.ensures.kept in
    let filled = rw (c.requires.named, c.deref.ensures.value) at c.in-None.ensures.filled in
    let at = rw c.requires.named at c.name_at.ensures in
    let first = first_without (live_ids (soc_value c.args.soc.now)) c.args.plan.now.starts.items c.take_starts.new.room c.in-Some-unstarted.place c.name_at.result filled c.requires.early (sym c.in-Some-unstarted.ensures) at in
    (Missing kept c.in-Some-unstarted.place c.name_at.result first refl, refl)

pub returns-in-None-unstarted-clause-stage : goal.returns-in-None-unstarted-clause-stage
returns-in-None-unstarted-clause-stage c = λ limits.
    let filled = rw (c.requires.named, c.deref.ensures.value) at c.in-None.ensures.filled in
    (rw (c.requires.named, c.deref.ensures.value) at c.in-None.ensures.kept, all_started (live_ids (soc_value c.args.soc.now)) c.args.plan.now.starts.items c.take_starts.new.room filled c.requires.early (sym c.in-None-unstarted.ensures))
