use Rattle.leaf_bounds.specs.ListRules.{chip_ruled, limits_ruled}
use Rattle.leaf_bounds.proofs.ListRows.{has_row, member_added, member_broken}
use Rattle.leaf_bounds.proofs.list_rules.add_member.Goals as goal

pub returns-in_default : goal.returns-in_default
returns-in_default c = λ earlier are. member_broken c.args.id c.args.marks.now c.requires.rules are c.in_default.ensures.broken

pub least-requires : goal.least-requires
least-requires c = has_row c.in-Some.place c.requires.rules c.in-Some.ensures.within

pub returns : goal.returns
returns c = λ earlier are.
    member_added c.args.id c.least.result (record { among = c.mark_name.new.among; powers = c.push.new.to }) c.requires.rules are
    c.in-Some.ensures.found c.in-Some.ensures.new c.in-Some.ensures.marked c.in_ok-push.ensures.ok
    (λ l at. c.least.ensures (chip_ruled c.args.rules.now) (limits_ruled c.args.rules.now) l c.requires.rules.rows at)
