use Rattle.std.proofs.Common.{◌≡◌, ℕ, map, drop, filter}
use Rattle.soc_model.specs.Chips.{module_value, is_live, live_of}
use Rattle.plan_model.specs.Views.{profile_value}
use Rattle.limits_text.specs.Passing.{live_at, first_passing}
use Rattle.limits_text.proofs.refusals.passing_in.Given as goal

abbrev pub invariant-loop-test : goal.invariant-loop-test
invariant-loop-test l = (place : ℕ) → first_passing (map profile_value l.profiles) l.most (live_of place (module_value l.«module»)) ≡ first_passing (map profile_value l.profiles) l.most (map (live_at place (module_value l.«module»)) (filter is_live (drop l.test-index l.«module».tests.items)))
