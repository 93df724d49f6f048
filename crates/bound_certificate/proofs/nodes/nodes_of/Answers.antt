use Rattle.std.proofs.Common.{◌≡◌, ℕ, ◌<◌, length, ap, ◌∙◌, sym, subst, rules}
use Rattle.soc_model.specs.Chips.{soc_value}
use Rattle.plan_model.specs.Rules.{live_ids}
use Rattle.plan_model.specs.Views.{limits_value}
use Rattle.live_tests.specs.Neighbours.{before as tests_before}
use Rattle.live_tests.proofs.LiveIds.{ids_differ}
use Rattle.live_tests.proofs.Precedences.{pairs_within}
use Rattle.bound_certificate.specs.Nodes.{node_values, ids_of, fixed_parts, live_nodes}
use Rattle.bound_certificate.proofs.Links.{linked_by, before_is, ids_same, same_count}
use Rattle.bound_certificate.proofs.LiveNodes.{live_ids_are, node_count, nodes_found}
use Rattle.bound_certificate.proofs.nodes.nodes_of.Goals as goal

pub all_before-requires : goal.all_before-requires
all_before-requires c =
    let soc = soc_value c.problem.inside.soc.now in
    let counted : c.len.result ≡ length c.in_ok-nodes.nodes.items = search rules in
    let many : length c.in_ok-nodes.nodes.items ≡ length (live_ids soc) = node_count soc c.problem.inside.limits.now.wires c.in_ok-nodes.nodes.items c.in_ok-nodes.ensures in
    rw (c.deref.ensures.value, c.problem.invariant.places.precedences, counted, many) (pairs_within (live_ids soc) c.problem.inside.limits.now.before.items)

pub link_nodes-requires : goal.link_nodes-requires
link_nodes-requires c =
    let counted : c.len.result ≡ length c.in_ok-nodes.nodes.items = search rules in
    c.in_ok-before.ensures.long ∙ counted

pub returns : goal.returns
returns c =
    let soc = soc_value c.problem.inside.soc.now in
    let counted : c.len.result ≡ length c.in_ok-nodes.nodes.items = search rules in
    let fixed : fixed_parts (node_values c.link_nodes.new.nodes.items) ≡ fixed_parts (live_nodes soc c.problem.inside.limits.now.wires) = c.link_nodes.ensures.fixed ∙ ap fixed_parts c.in_ok-nodes.ensures in
    let ids : live_ids soc ≡ ids_of (node_values c.link_nodes.new.nodes.items) = sym (ids_same (node_values c.link_nodes.new.nodes.items) (live_nodes soc c.problem.inside.limits.now.wires) fixed ∙ live_ids_are soc c.problem.inside.limits.now.wires) in
    let long : length c.link_nodes.new.nodes.items ≡ length c.in_ok-nodes.nodes.items = same_count c.link_nodes.new.nodes.items c.in_ok-nodes.nodes.items c.link_nodes.ensures.fixed in
    rw (← c.problem.view_is) (nodes_found soc (limits_value c.problem.inside.limits.now) (node_values c.link_nodes.new.nodes.items) c.problem.invariant.sound c.problem.invariant.bounds.some_wire fixed
    (linked_by c.problem.inside.limits.now.before.items (node_values c.link_nodes.new.nodes.items) (live_ids soc) ids (ids_differ soc c.problem.invariant.sound) (λ j n at. (let b = before_is c.link_nodes.new.nodes.items j n at in
    b.1 ∙ c.link_nodes.ensures.before j (subst (λ (k : ℕ). j < k) long b.0) ∙ c.in_ok-before.ensures.lists j (subst (λ (k : ℕ). j < k) (long ∙ sym counted) b.0) ∙ ap (tests_before j) (c.deref.ensures.value ∙ c.problem.invariant.places.precedences)))))
