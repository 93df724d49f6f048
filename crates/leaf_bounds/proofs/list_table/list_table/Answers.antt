use Rattle.std.proofs.Common.{◌≡◌, ◌∙◌, ◌++◌, length, map, take, ap, rules, flat_map}
use Rattle.plan_model.specs.Proofs.{list_value}
use Rattle.leaf_bounds.specs.ListRules.{roles_in}
use Rattle.leaf_bounds.proofs.ListRows.{table_of_rules}
use Rattle.leaf_bounds.proofs.list_table.list_table.Goals as goal

pub returns : goal.returns
returns c =
    let p = c.args.problem.now in
    let tests : c.len-tests.result ≡ length c.in_ok-rules.rules.tams.items = search rules in
    table_of_rules c.in_ok-rules.rules p.soc p.limits (map list_value c.args.lists.now) (record { kept = c.in_ok-kept.kept; roles = c.add_lists.new.roles; tests = c.len-tests.result }) c.in_ok-rules.ensures.rules
    c.in_ok-rules.ensures.chip c.in_ok-rules.ensures.limits tests c.in_ok-kept.ensures.first
    (c.in_ok-kept.ensures.roles ∙ ap (λ l. l ++ flat_map (roles_in c.in_ok-rules.rules) (take c.in_ok-kept.kept (map list_value c.args.lists.now))) c.new-roles.ensures.items)
