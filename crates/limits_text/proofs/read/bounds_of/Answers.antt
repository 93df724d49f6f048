use Rattle.std.proofs.Common.{◌∙◌, map, reverse, refl}
use Rattle.soc_model.specs.Chips.{soc_value}
use Rattle.plan_model.specs.Views.{limits_value}
use Rattle.limits_text.specs.Meaning.{limits_of as limits_said}
use Rattle.limits_text.specs.Views.{item_of}
use Rattle.limits_text.proofs.Noting.{noted_told}
use Rattle.limits_text.proofs.read.bounds_of.Goals as goal

pub loop_of-requires : goal.loop_of-requires
loop_of-requires c =
    let soc = soc_value c.args.soc.now in
    let items = map item_of c.args.list.items in
    let limits = limits_said (reverse items) in
    (soc, limits, c.requires.tests, c.deref.ensures.value ∙ noted_told soc items limits c.args.named.precedences.items refl c.requires.precedences)

pub within_power-requires-clause-precedences : goal.within_power-requires-clause-precedences
within_power-requires-clause-precedences c =
    noted_told (soc_value c.args.soc.now) (map item_of c.args.list.items) (limits_value c.in_ok-limits.limits) c.args.named.precedences.items c.in_ok-limits.ensures c.requires.precedences

pub within_power-requires-clause-acyclic : goal.within_power-requires-clause-acyclic
within_power-requires-clause-acyclic c =
    let soc = soc_value c.args.soc.now in
    let limits = limits_value c.in_ok-limits.limits in
    let told = noted_told soc (map item_of c.args.list.items) limits c.args.named.precedences.items c.in_ok-limits.ensures c.requires.precedences in
    let found = c.in_ok-circle.ensures soc limits c.requires.tests (c.deref.ensures.value ∙ told) in
    rw c.in-None.is at found

pub returns-in-Some : goal.returns-in-Some
returns-in-Some c =
    let soc = soc_value c.args.soc.now in
    let items = map item_of c.args.list.items in
    let limits = limits_said (reverse items) in
    let told = noted_told soc items limits c.args.named.precedences.items refl c.requires.precedences in
    let found = c.in_ok-circle.ensures soc limits c.requires.tests (c.deref.ensures.value ∙ told) in
    rw c.in-Some.is at found
