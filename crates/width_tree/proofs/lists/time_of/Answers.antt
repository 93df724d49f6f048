use Rattle.std.proofs.Common.{◌∙◌, sym, ap, arith}
use Rattle.plan_model.specs.Bounds.{lower_tam_time}
use Rattle.plan_model.specs.Certificates.{on}
use Rattle.width_tree.specs.Tables.{chip_of}
use Rattle.width_tree.proofs.WidthFacts.{place_within}
use Rattle.width_tree.proofs.lists.time_of.Goals as goal

pub returns-in-Some-clause-time : goal.returns-in-Some-clause-time
returns-in-Some-clause-time c =
    let here = sym c.in-Some.ensures in
    let within = place_within (chip_of c.args.table.now) c.requires.table.sound c.args.number c.in-Some.place here in
    c.tam_time.ensures ∙ (c.requires.table.times c.in-Some.place within).time c.args.width c.requires.some c.requires.few
    ∙ sym (ap (λ o. on o (λ place. lower_tam_time (chip_of c.args.table.now) place c.args.width)) here)

pub returns-in-Some-clause-small : goal.returns-in-Some-clause-small
returns-in-Some-clause-small c =
    let here = sym c.in-Some.ensures in
    let within = place_within (chip_of c.args.table.now) c.requires.table.sound c.args.number c.in-Some.place here in
    omega (arith, (c.requires.table.times c.in-Some.place within).small c.args.width c.requires.some c.requires.few)
