use Rattle.std.proofs.Common.{◌≡◌, ◌++◌, map, drop}
use Rattle.soc_model.specs.Chips.{live_from}
use Rattle.proof_facts.specs.Rows.{all_facts, facts_of}
use Rattle.proof_facts.proofs.facts.all_facts.Given as goal

abbrev pub invariant-loop-place : goal.invariant-loop-place
invariant-loop-place l =
    l.facts.items ++ map (facts_of l.problem.soc l.problem.limits) (live_from l.place (drop l.place l.problem.soc.modules)) ≡ all_facts l.problem.soc l.problem.limits
