use Rattle.std.proofs.Common.{◌≡◌, ◌∙◌, List, ap, length, refl, subst, sym, arith}
use Rattle.soc_model.specs.declared.TestId.{TestId}
use Rattle.soc_model.specs.Chips.{soc_value}
use Rattle.plan_model.specs.Rules.{live_ids}
use Rattle.live_tests.specs.Placed.{AreWalked}
use Rattle.plan_checker.specs.Named.{FindsTests, ids_of}
use Rattle.plan_model.specs.Views.{limits_value, plan_value}
use Rattle.plan_checker.proofs.Laying.{layout}
use Rattle.plan_checker.proofs.Loads.{placed_apart, placed_named, load_is}
use Rattle.plan_checker.proofs.RoomSizes.{with_long, with_same}
use Rattle.plan_checker.proofs.verdict.check_placed.Goals as goal

pub fill_profiles-requires-clause-named : goal.fill_profiles-requires-clause-named
fill_profiles-requires-clause-named c = placed_named (soc_value c.args.from.now.soc.now) (plan_value c.args.from.now.plan.now) c.fill_tests.new.placed (ids_of c.args.names.now) c.requires.named.named c.fill_tests.ensures

pub check_ends-requires-clause-named : goal.check_ends-requires-clause-named
check_ends-requires-clause-named c = subst (λ (ids : List TestId). FindsTests c.args.limits.now.before.items ids c.args.names.now) (placed_named (soc_value c.args.from.now.soc.now) (plan_value c.args.from.now.plan.now) c.fill_tests.new.placed (live_ids (soc_value c.args.from.now.soc.now)) refl c.fill_tests.ensures) c.requires.named

pub check_meetings-requires : goal.check_meetings-requires
check_meetings-requires c =
    let parents : length c.fill_parents.new.parents ≡ length c.args.rooms.now.parents.items = c.fill_parents.auto.parents ∙ ap length c.deref_mut-parents.ensures.value in
    layout (soc_value c.args.from.now.soc.now) (limits_value c.args.limits.now) (plan_value c.args.from.now.plan.now) c.fill_parents.new.parents c.fill_tests.new.placed c.fill_begins.new.begins (length c.deref_mut.result.now) c.requires.limits c.requires.kept c.fill_tests.ensures c.fill_parents.ensures (parents ∙ c.requires.parents_fit) c.fill_begins.ensures (omega (arith, parents, ap length c.deref_mut.ensures.value, c.requires.ends_fit))

pub check_ends-requires-clause-load : goal.check_ends-requires-clause-load
check_ends-requires-clause-load c = λ most limit. load_is (soc_value c.args.from.now.soc.now) (limits_value c.args.limits.now) (plan_value c.args.from.now.plan.now) c.fill_tests.new.placed c.fill_profiles.new.profiles most c.requires.placing.sound c.requires.limits c.fill_tests.ensures c.fill_profiles.ensures limit

pub returns-in-Some-clause-verdict : goal.returns-in-Some-clause-verdict
returns-in-Some-clause-verdict c = c.in-Some.ensures (soc_value c.args.from.now.soc.now) (limits_value c.args.limits.now) (plan_value c.args.from.now.plan.now) c.fill_tests.ensures c.fill_parents.ensures c.requires.kept

pub returns-in-None-clause-verdict : goal.returns-in-None-clause-verdict
returns-in-None-clause-verdict c = c.check_ends.ensures.verdict (soc_value c.args.from.now.soc.now) c.fill_tests.ensures (c.in-None.ensures (soc_value c.args.from.now.soc.now) (limits_value c.args.limits.now) (plan_value c.args.from.now.plan.now) c.fill_tests.ensures c.fill_parents.ensures c.requires.kept)

pub fill_profiles-requires-clause-apart : goal.fill_profiles-requires-clause-apart
fill_profiles-requires-clause-apart c = placed_apart (soc_value c.args.from.now.soc.now) (plan_value c.args.from.now.plan.now) c.fill_tests.new.placed c.requires.placing.sound c.fill_tests.ensures

pub check_ends-requires-clause-apart : goal.check_ends-requires-clause-apart
check_ends-requires-clause-apart c = placed_apart (soc_value c.args.from.now.soc.now) (plan_value c.args.from.now.plan.now) c.fill_tests.new.placed c.requires.placing.sound c.fill_tests.ensures

pub returns-in-None-clause-long : goal.returns-in-None-clause-long
returns-in-None-clause-long c = record {
  parents = with_long c.args.rooms.now.parents c.fill_parents.new.parents (c.fill_parents.auto.parents ∙ ap length c.deref_mut-parents.ensures.value);
  wrappers = with_long c.args.rooms.now.wrappers c.fill_wrappers.new.walked (c.fill_wrappers.auto.walked ∙ ap length c.deref_mut-walked.ensures.value);
  tests = with_long c.args.rooms.now.tests c.fill_tests.new.placed (c.fill_tests.auto.placed ∙ ap length c.deref_mut-placed.ensures.value);
  begins = with_long c.args.rooms.now.begins c.fill_begins.new.begins (c.fill_begins.auto.begins ∙ ap length c.deref_mut-begins.ensures.value);
  ends = with_long c.args.rooms.now.ends c.check_meetings.new.ends (c.check_meetings.auto.ends ∙ ap length c.deref_mut.ensures.value);
  profiles = with_long c.args.rooms.now.profiles c.fill_profiles.new.profiles (c.fill_profiles.auto.profiles ∙ ap length c.deref_mut-profiles.ensures.value);
}

pub returns-in-Some-clause-long : goal.returns-in-Some-clause-long
returns-in-Some-clause-long c = record {
  parents = with_long c.args.rooms.now.parents c.fill_parents.new.parents (c.fill_parents.auto.parents ∙ ap length c.deref_mut-parents.ensures.value);
  wrappers = with_long c.args.rooms.now.wrappers c.fill_wrappers.new.walked (c.fill_wrappers.auto.walked ∙ ap length c.deref_mut-walked.ensures.value);
  tests = with_long c.args.rooms.now.tests c.fill_tests.new.placed (c.fill_tests.auto.placed ∙ ap length c.deref_mut-placed.ensures.value);
  begins = with_long c.args.rooms.now.begins c.fill_begins.new.begins (c.fill_begins.auto.begins ∙ ap length c.deref_mut-begins.ensures.value);
  ends = with_long c.args.rooms.now.ends c.check_meetings.new.ends (c.check_meetings.auto.ends ∙ ap length c.deref_mut.ensures.value);
  profiles = with_long c.args.rooms.now.profiles c.fill_profiles.new.profiles (c.fill_profiles.auto.profiles ∙ ap length c.deref_mut-profiles.ensures.value);
}

pub check_ends-requires-clause-space : goal.check_ends-requires-clause-space
check_ends-requires-clause-space c = rw (c.fill_tests.auto.placed ∙ ap length c.deref_mut-placed.ensures.value) c.requires.events_fit

pub returns-in-Some-clause-tests : goal.returns-in-Some-clause-tests
returns-in-Some-clause-tests c = with_same c.args.rooms.now.tests c.fill_tests.new.placed (c.fill_tests.auto.placed ∙ ap length c.deref_mut-placed.ensures.value) ∙ c.fill_tests.ensures

pub returns-in-Some-clause-walked : goal.returns-in-Some-clause-walked
returns-in-Some-clause-walked c = subst (AreWalked (soc_value c.args.from.now.soc.now) (plan_value c.args.from.now.plan.now)) (sym (with_same c.args.rooms.now.wrappers c.fill_wrappers.new.walked (c.fill_wrappers.auto.walked ∙ ap length c.deref_mut-walked.ensures.value))) c.fill_wrappers.ensures

pub returns-in-None-clause-tests : goal.returns-in-None-clause-tests
returns-in-None-clause-tests c = with_same c.args.rooms.now.tests c.fill_tests.new.placed (c.fill_tests.auto.placed ∙ ap length c.deref_mut-placed.ensures.value) ∙ c.fill_tests.ensures

pub returns-in-None-clause-walked : goal.returns-in-None-clause-walked
returns-in-None-clause-walked c = subst (AreWalked (soc_value c.args.from.now.soc.now) (plan_value c.args.from.now.plan.now)) (sym (with_same c.args.rooms.now.wrappers c.fill_wrappers.new.walked (c.fill_wrappers.auto.walked ∙ ap length c.deref_mut-walked.ensures.value))) c.fill_wrappers.ensures
