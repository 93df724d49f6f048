use Rattle.std.proofs.Common.{◌≡◌, ◌-◌, ◌<◌, ◌++◌, length, IfSome}
use Rattle.soc_model.specs.Chips.{soc_value}
use Rattle.plan_model.specs.Plans.{step_power}
use Rattle.plan_model.specs.Views.{limits_value}
use Rattle.report.specs.Chains.{chain_lines, chain_text}
use Rattle.report.proofs.chain.push_chain.Given as goal

abbrev pub invariant-loop : goal.invariant-loop
invariant-loop l = record {
  lines : l.text.items ++ chain_lines (soc_value l.soc) (limits_value l.limits) (λ r. step_power r 0 l.steps) l.tests (l.cycles - l.counter) l.next
      ≡ l.initial.text.items ++ chain_text (soc_value l.soc) (limits_value l.limits) (λ r. step_power r 0 l.steps) l.tests l.cycles;
  there : IfSome l.next (λ t. t.place < length (soc_value l.soc).modules);
}
