use Rattle.std.proofs.Common.{◌≡◌, ◌++◌, ◌∙◌, ap, length, subst, sym, arith}
use Rattle.plan_model.specs.Views.{limits_value, profile_value}
use Rattle.live_tests.specs.declared.placed.PlacedTest.{PlacedTest}
use Rattle.live_tests.specs.Events.{step_events, test_events}
use Rattle.plan_checker.proofs.Finding.{some_same}
use Rattle.plan_checker.proofs.Profiles.{profile_read, steps_read, steps_own}
use Rattle.plan_checker.proofs.Rooms.{length_values}
use Rattle.plan_checker.proofs.power.put_test.Goals as goal

pub put_steps-requires-clause-later : goal.put_steps-requires-clause-later
put_steps-requires-clause-later c = (c.requires.load.steps c.args.place c.test_at-test.result c.test_at-test.ensures).steps.ends_later

pub put_steps-requires-else-profile-profile_count-clause-later : goal.put_steps-requires-else-profile-profile_count-clause-later
put_steps-requires-else-profile-profile_count-clause-later c = (c.requires.load.steps c.args.place c.test_at-test.result c.test_at-test.ensures).steps.ends_later

pub put_steps-requires-else-profile-profile_count-clause-space : goal.put_steps-requires-else-profile-profile_count-clause-space
put_steps-requires-else-profile-profile_count-clause-space c =
    let within = rw (c.profile_count.ensures, c.deref.ensures.value) at c.if-profile-profile_count.false in
    let read = profile_read c.args.load.now.limits.now.profiles.items c.profile_of-profile.result c.index.result.now within c.index.ensures in
    let steps = steps_read (limits_value c.args.load.now.limits.now) c.test_at-test.result c.profile_of-profile.result (profile_value c.index.result.now) (c.profile_of-profile.ensures c.test_at-test.result c.test_at-test.ensures) read in
    let few = (c.requires.load.steps c.args.place c.test_at-test.result c.test_at-test.ensures).few in
    omega (arith, few, ap length steps, ap length c.deref-else-profile-profile_count.ensures.value, c.requires.space)

pub returns-then-profile-profile_count-clause-put : goal.returns-then-profile-profile_count-clause-put
returns-then-profile-profile_count-clause-put c = λ j at.
    let past = rw (c.profile_count.ensures, c.deref.ensures.value) at c.if-profile-profile_count.true in
    let own = steps_own (limits_value c.args.load.now.limits.now) c.test_at-test.result c.profile_of-profile.result (c.profile_of-profile.ensures c.test_at-test.result c.test_at-test.ensures) (omega (arith, past, length_values profile_value c.args.load.now.limits.now.profiles.items)) in
    let same : c.test_at-test.result ≡ j = some_same (sym c.test_at-test.ensures ∙ at) in
    subst (λ (j : PlacedTest). c.put_steps.new.events.items ≡ c.args.events.now.items ++ test_events (limits_value c.args.load.now.limits.now) j) same
    (c.put_steps.ensures.put ∙ ap (λ v. c.args.events.now.items ++ step_events c.test_at-test.result.start c.test_at-test.result.end 0 v) (sym own))

pub returns-else-profile-profile_count-clause-put : goal.returns-else-profile-profile_count-clause-put
returns-else-profile-profile_count-clause-put c = λ j at.
    let within = rw (c.profile_count.ensures, c.deref.ensures.value) at c.if-profile-profile_count.false in
    let read = profile_read c.args.load.now.limits.now.profiles.items c.profile_of-profile.result c.index.result.now within c.index.ensures in
    let steps = steps_read (limits_value c.args.load.now.limits.now) c.test_at-test.result c.profile_of-profile.result (profile_value c.index.result.now) (c.profile_of-profile.ensures c.test_at-test.result c.test_at-test.ensures) read in
    let same : c.test_at-test.result ≡ j = some_same (sym c.test_at-test.ensures ∙ at) in
    subst (λ (j : PlacedTest). c.put_steps-else-profile-profile_count.new.events.items ≡ c.args.events.now.items ++ test_events (limits_value c.args.load.now.limits.now) j) same
    (c.put_steps-else-profile-profile_count.ensures.put ∙ ap (λ v. c.args.events.now.items ++ step_events c.test_at-test.result.start c.test_at-test.result.end 0 v) (c.deref-else-profile-profile_count.ensures.value ∙ sym steps))
