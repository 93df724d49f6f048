use Rattle.std.proofs.Common.{◌++◌, map, refl, flat_map, Contains}
use Rattle.plan_model.specs.declared.Bus.{Bus}
use Rattle.plan_model.specs.declared.Wrapper.{Wrapper}
use Rattle.soc_model.specs.Chips.{soc_value}
use Rattle.plan_checker.proofs.Breaking.{breaks_first, breaks_front, breaks_behind, of_append}
use Rattle.plan_checker.proofs.Naming.{named_are}
use Rattle.plan_checker.proofs.known.check_known.Goals as goal

pub returns-in-Some : goal.returns-in-Some
returns-in-Some c = λ limits. (
  rw (named_are c.args.plan.now) (breaks_first (Contains (soc_value c.args.soc.now).keys) (flat_map (λ (b : Bus). b.modules.items) c.args.plan.now.buses.items ++ map (λ (w : Wrapper). w.«module») c.args.plan.now.wrappers.items) c.in-Some.«module»
      (breaks_front (Contains (soc_value c.args.soc.now).keys) (flat_map (λ (b : Bus). b.modules.items) c.args.plan.now.buses.items) (map (λ (w : Wrapper). w.«module») c.args.plan.now.wrappers.items) c.in-Some.«module» (rw c.deref.ensures.value at c.in-Some.ensures.first))),
  refl,
)

pub returns-in-Some-unknown_of : goal.returns-in-Some-unknown_of
returns-in-Some-unknown_of c = λ limits. (
  rw (named_are c.args.plan.now) (breaks_first (Contains (soc_value c.args.soc.now).keys) (flat_map (λ (b : Bus). b.modules.items) c.args.plan.now.buses.items ++ map (λ (w : Wrapper). w.«module») c.args.plan.now.wrappers.items) c.in-Some-unknown_of.«module»
      (breaks_behind (Contains (soc_value c.args.soc.now).keys) (flat_map (λ (b : Bus). b.modules.items) c.args.plan.now.buses.items) (map (λ (w : Wrapper). w.«module») c.args.plan.now.wrappers.items) c.in-Some-unknown_of.«module» (rw c.deref.ensures.value at c.in-None.ensures.all) (rw c.deref-in-None.ensures.value at c.in-Some-unknown_of.ensures.first))),
  refl,
)

pub returns-in-None-unknown_of : goal.returns-in-None-unknown_of
returns-in-None-unknown_of c = λ limits. rw (named_are c.args.plan.now) (of_append (Contains (soc_value c.args.soc.now).keys) (flat_map (λ (b : Bus). b.modules.items) c.args.plan.now.buses.items) (map (λ (w : Wrapper). w.«module») c.args.plan.now.wrappers.items) (rw c.deref.ensures.value at c.in-None.ensures.all) (rw c.deref-in-None.ensures.value at c.in-None-unknown_of.ensures.all))
