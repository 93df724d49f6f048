use Rattle.std.proofs.Common.{◌∙◌, sym, subst}
use Rattle.plan_model.specs.Rules.{Wires, Busy, Parents}
use Rattle.plan_checker.specs.Layout.{IsLayout}
use Rattle.plan_checker.proofs.Stepping.{kept_more, fault_here, last_stage}
use Rattle.plan_checker.proofs.verdict.check_meetings.Goals as goal

pub returns-in-Some : goal.returns-in-Some
returns-in-Some c = λ soc limits plan placed parents kept. fault_here soc limits plan Wires c.in-Some.fault kept (c.in-Some.ensures soc limits plan placed parents)

pub returns-in-Some-check_apart : goal.returns-in-Some-check_apart
returns-in-Some-check_apart c = λ soc limits plan placed parents kept.
    fault_here soc limits plan Busy c.in-Some-check_apart.fault (kept_more soc limits plan Wires kept (c.in-None.ensures soc limits plan placed parents)) (c.in-Some-check_apart.ensures soc limits plan placed parents)

pub returns-in-None-check_apart : goal.returns-in-None-check_apart
returns-in-None-check_apart c = λ soc limits plan placed parents kept.
    last_stage soc limits plan Parents c.check_apart-in-None-check_apart.result (kept_more soc limits plan Busy (kept_more soc limits plan Wires kept (c.in-None.ensures soc limits plan placed parents)) (c.in-None-check_apart.ensures soc limits plan placed parents)) (c.check_apart-in-None-check_apart.ensures soc limits plan placed parents)

pub check_apart-requires-in-None-check_apart : goal.check_apart-requires-in-None-check_apart
check_apart-requires-in-None-check_apart c = subst (IsLayout c.args.parents.now c.args.placed.now c.args.begins.now) (sym (c.check_apart-in-None.auto.ends ∙ c.check_apart.auto.ends)) c.requires

pub check_apart-requires-in-None : goal.check_apart-requires-in-None
check_apart-requires-in-None c = subst (IsLayout c.args.parents.now c.args.placed.now c.args.begins.now) (sym c.check_apart.auto.ends) c.requires
