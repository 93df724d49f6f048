use Rattle.std.proofs.Common.{◌∙◌, ap, subst}
use Rattle.std.specs.List.{flat_map}
use Rattle.plan_model.specs.Views.{limits_value}
use Rattle.live_tests.specs.Names.{places_of}
use Rattle.plan_checker.specs.Named.{FindsTests, names_of}
use Rattle.plan_checker.proofs.Paired.{places_within}
use Rattle.plan_checker.proofs.order.check_before.Goals as goal

pub check_pairs-requires-clause-within : goal.check_pairs-requires-clause-within
check_pairs-requires-clause-within c =
    let found = subst (FindsTests c.args.limits.now.before.items (names_of c.args.placed.now)) c.in-Resolved.is c.requires.named in
    places_within c.args.placed.now c.args.limits.now.before.items c.deref-in-Resolved.result.now
    (c.deref-in-Resolved.ensures.value ∙ found.pairs ∙ ap (λ ids. flat_map (places_of ids) c.args.limits.now.before.items) found.named)

pub returns-in-Listed : goal.returns-in-Listed
returns-in-Listed c = λ soc plan placed. c.check_named.ensures soc (limits_value c.args.limits.now) plan placed c.deref.ensures.value

pub returns-in-Resolved : goal.returns-in-Resolved
returns-in-Resolved c = λ soc plan placed.
    let found = subst (FindsTests c.args.limits.now.before.items (names_of c.args.placed.now)) c.in-Resolved.is c.requires.named in
    c.check_pairs.ensures soc (limits_value c.args.limits.now) plan placed
    (c.deref-in-Resolved.ensures.value ∙ found.pairs ∙ ap (λ ids. flat_map (places_of ids) c.args.limits.now.before.items) found.named)
