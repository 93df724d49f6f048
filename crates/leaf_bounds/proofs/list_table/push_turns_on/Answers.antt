use Rattle.std.proofs.Common.{sym, ◌≡◌, ◌<◌, ◌∙◌, ◌++◌, length, map, ap, arith, rules}
use Rattle.std.proofs.lemmas.List.{length-map, take_all}
use Rattle.soc_model.specs.Chips.{LiveTest, live_tests}
use Rattle.plan_model.specs.Proofs.{OfTurnsOn}
use Rattle.leaf_bounds.specs.ListTables.{role_of}
use Rattle.leaf_bounds.specs.ListRules.{chip_ruled, limits_ruled}
use Rattle.leaf_bounds.proofs.ListRows.{turns_on_more, bit_read}
use Rattle.leaf_bounds.proofs.list_table.push_turns_on.Goals as goal

pub loop-place-preserved : goal.loop-place-preserved
loop-place-preserved c =
    let within : c.loop-place.place < length c.args.rules.now.tams.items = search rules in
    let among = sym (bit_read c.args.marks.now.among.items c.loop-place.place (omega (arith, within, c.requires.among)) c.index.ensures) in
    let tam = sym (bit_read c.args.rules.now.tams.items c.loop-place.place within c.index-in-loop-place.ensures) in
    let apart = sym (bit_read c.args.marks.now.apart.items c.loop-place.place (omega (arith, within, c.requires.apart)) c.index-in-loop-place-2.ensures) in
    λ rank tests are. turns_on_more rank c.args.roles.now.items c.loop-place.place c.requires.rules are within among tam apart c.turn_role-role.ensures
    (c.loop-place.invariant rank tests are) c.in_ok-push.ensures.ok

pub returns : goal.returns
returns c =
    let long : c.len-place-end.result ≡ length c.args.rules.now.tams.items = search rules in
    λ rank tests are. c.loop-place.invariant rank tests are
    ∙ ap (λ l. c.args.roles.now.items ++ map (role_of (chip_ruled c.args.rules.now) (limits_ruled c.args.rules.now) (OfTurnsOn rank tests)) l)
    (take_all c.loop-place.place (live_tests (chip_ruled c.args.rules.now)) (omega (arith, long, c.loop-place-test.false, ap length c.requires.rules.tams ∙ length-map (live_tests (chip_ruled c.args.rules.now)) (λ (l : LiveTest). l.test.tam))))
