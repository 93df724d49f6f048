use Rattle.std.proofs.Common.{◌≡◌, ◌++◌, map, take, filter}
use Rattle.soc_model.specs.Chips.{is_live}
use Rattle.proof_facts.specs.Rows.{facts_at}
use Rattle.proof_facts.proofs.facts.push_facts.Given as goal

abbrev pub invariant-loop-test : goal.invariant-loop-test
invariant-loop-test l = l.facts.items ≡ l.initial.facts.items ++ map (facts_at l.problem.limits l.place l.parent l.«module».number) (filter is_live (take l.test-index l.«module».tests.items))
