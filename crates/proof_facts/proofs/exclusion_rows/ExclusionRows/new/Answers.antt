use Rattle.std.proofs.Common.{◌≡◌, ◌∙◌, length, ap, rules}
use Rattle.soc_model.specs.Chips.{live_tests}
use Rattle.live_tests.specs.Names.{precedences}
use Rattle.live_tests.specs.Problems.{ProblemValue}
use Rattle.proof_facts.proofs.Rowing.{pairs_below, after_are, before_are, facts_long}
use Rattle.proof_facts.proofs.exclusion_rows.ExclusionRows.new.Goals as goal

pub all_after-requires : goal.all_after-requires
all_after-requires c =
    let p = c.args.problem.now in
    let count : c.len.result ≡ length c.in_ok-facts.facts.items = search rules in
    let pairs : c.problem.inside.resolved.now.precedences.items ≡ precedences p.soc p.limits = c.problem.invariant.places.precedences ∙ ap (λ (v : ProblemValue). precedences v.soc v.limits) c.problem.view_is in
    pairs_below p.soc p.limits c.len.result c.deref.result.now (count ∙ facts_long p.soc p.limits c.in_ok-facts.facts.items c.in_ok-facts.ensures) (c.deref.ensures.value ∙ pairs)

pub all_before-requires : goal.all_before-requires
all_before-requires c =
    let p = c.args.problem.now in
    let count : c.len-2.result ≡ length c.in_ok-facts.facts.items = search rules in
    let pairs : c.problem.inside.resolved.now.precedences.items ≡ precedences p.soc p.limits = c.problem.invariant.places.precedences ∙ ap (λ (v : ProblemValue). precedences v.soc v.limits) c.problem.view_is in
    pairs_below p.soc p.limits c.len-2.result c.deref-2.result.now (count ∙ facts_long p.soc p.limits c.in_ok-facts.facts.items c.in_ok-facts.ensures) (c.deref-2.ensures.value ∙ pairs)

pub returns : goal.returns
returns c =
    let p = c.args.problem.now in
    let pairs : c.problem.inside.resolved.now.precedences.items ≡ precedences p.soc p.limits = c.problem.invariant.places.precedences ∙ ap (λ (v : ProblemValue). precedences v.soc v.limits) c.problem.view_is in
    let facts : length c.in_ok-facts.facts.items ≡ length (live_tests p.soc) = facts_long p.soc p.limits c.in_ok-facts.facts.items c.in_ok-facts.ensures in
    let first : c.len.result ≡ length c.in_ok-facts.facts.items = search rules in
    let second : c.len-2.result ≡ length c.in_ok-facts.facts.items = search rules in
    record {
      facts = c.in_ok-facts.ensures;
      after = after_are p.soc p.limits c.len.result c.deref.result.now c.in_ok-after.after.items (first ∙ facts) (c.deref.ensures.value ∙ pairs) c.in_ok-after.ensures.long c.in_ok-after.ensures.lists;
      before = before_are p.soc p.limits c.len-2.result c.deref-2.result.now c.in_ok-before.before.items (second ∙ facts) (c.deref-2.ensures.value ∙ pairs) c.in_ok-before.ensures.long c.in_ok-before.ensures.lists;
      after_long = c.in_ok-after.ensures.long ∙ first ∙ facts;
      before_long = c.in_ok-before.ensures.long ∙ second ∙ facts;
      power = ap (λ (v : ProblemValue). v.limits.power) c.problem.view_is;
    }
