use Rattle.std.proofs.Common.{◌∙◌, ◌+◌, ap, length, arith, ℕ, Option}
use Rattle.std.specs.Global.{Vec}
use Rattle.soc_model.specs.Chips.{soc_value}
use Rattle.plan_model.specs.Views.{plan_value}
use Rattle.plan_model.specs.Plans.{planned}
use Rattle.vector_lines.specs.Made.{made_content}
use Rattle.bit_machine.proofs.WholeChip.{advance_fits, sums_fit, next_chip, counted, counted_right, shown_row}
use Rattle.bit_machine.proofs.chip.Chip.cycle.Goals as goal

pub overflow_add-self : goal.overflow_add-self
overflow_add-self c =
    let small = (sums_fit c.captures-captures.result.1 c.self.invariant (c.captures-captures.ensures.captures (made_content (soc_value c.self.inside.soc.now) c.self.inside.seed)
    (planned (soc_value c.self.inside.soc.now) (plan_value c.self.inside.plan.now)) c.self.invariant.machine) c.captures-captures.ensures.few).0 in
    omega (arith, small)

pub overflow_add-self-2 : goal.overflow_add-self-2
overflow_add-self-2 c =
    let small = (sums_fit c.captures-captures.result.1 c.self.invariant (c.captures-captures.ensures.captures (made_content (soc_value c.self.inside.soc.now) c.self.inside.seed)
    (planned (soc_value c.self.inside.soc.now) (plan_value c.self.inside.plan.now)) c.self.invariant.machine) c.captures-captures.ensures.few).1 in
    omega (arith, small)

pub advance-requires-clause-machine : goal.advance-requires-clause-machine
advance-requires-clause-machine c = record {
  content = made_content (soc_value c.self.inside.soc.now) c.self.inside.seed;
  tests = planned (soc_value c.self.inside.soc.now)
      (plan_value c.self.inside.plan.now);
  is = c.step.ensures.machine (made_content (soc_value c.self.inside.soc.now) c.self.inside.seed) (planned (soc_value c.self.inside.soc.now) (plan_value c.self.inside.plan.now)) c.self.invariant.machine;
}

pub advance-requires-clause-fits : goal.advance-requires-clause-fits
advance-requires-clause-fits c = advance_fits (soc_value c.self.inside.soc.now) (plan_value c.self.inside.plan.now) c.self.inside.seed c.self.inside.machine c.self.inside.captures c.self.inside.right_loads c.self.view_is c.requires.left c.step.ensures.cycle (omega (arith, c.cycles_of-cycles.ensures, c.cycles_of-cycles.type_inv))

pub invariant_of-self : goal.invariant_of-self
invariant_of-self c =
    next_chip c.captures-captures.result.1 c.self.invariant (c.captures-captures.ensures.captures (made_content (soc_value c.self.inside.soc.now) c.self.inside.seed)
    (planned (soc_value c.self.inside.soc.now) (plan_value c.self.inside.plan.now)) c.self.invariant.machine) c.captures-captures.ensures.few (c.advance.ensures.cycle ∙ ap (λ n. n + 1) c.step.ensures.cycle) (c.advance.ensures.long
    ∙ ap (λ (v : Vec (Option ℕ)). length v.items) c.step.ensures.users) (c.advance.ensures.machine (made_content (soc_value c.self.inside.soc.now) c.self.inside.seed)
    (planned (soc_value c.self.inside.soc.now) (plan_value c.self.inside.plan.now))
    (c.step.ensures.machine (made_content (soc_value c.self.inside.soc.now) c.self.inside.seed) (planned (soc_value c.self.inside.soc.now) (plan_value c.self.inside.plan.now)) c.self.invariant.machine))

pub returns-clause-captures : goal.returns-clause-captures
returns-clause-captures c = counted c.args.self.now (soc_value c.self.inside.soc.now) (plan_value c.self.inside.plan.now) c.self.inside.seed c.self.inside.machine c.self.inside.captures c.self.inside.right_loads c.captures-captures.result.0 c.self.view_is (c.captures-captures.ensures.captures (made_content (soc_value c.self.inside.soc.now) c.self.inside.seed) (planned (soc_value c.self.inside.soc.now) (plan_value c.self.inside.plan.now)) c.self.invariant.machine)

pub returns-clause-right_loads : goal.returns-clause-right_loads
returns-clause-right_loads c = counted_right (soc_value c.self.inside.soc.now) (plan_value c.self.inside.plan.now) c.self.inside.seed c.self.inside.machine c.self.inside.captures c.self.inside.right_loads c.self.view_is
    (c.captures-captures.ensures.right (made_content (soc_value c.self.inside.soc.now) c.self.inside.seed) (planned (soc_value c.self.inside.soc.now) (plan_value c.self.inside.plan.now)) c.self.invariant.machine)

pub returns-clause-read : goal.returns-clause-read
returns-clause-read c = shown_row c.self.view_is c.self.invariant c.show.new.read (c.show.ensures.long ∙ c.requires.shown) c.show.ensures.bits
