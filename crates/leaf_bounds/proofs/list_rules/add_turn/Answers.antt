use Rattle.std.proofs.Common.{◌∙◌, length, ap, sym, arith}
use Rattle.std.proofs.lemmas.List.{with_items_is}
use Rattle.leaf_bounds.specs.Takings.{bit_at}
use Rattle.leaf_bounds.specs.ListRules.{both_marked, chip_ruled, limits_ruled}
use Rattle.leaf_bounds.proofs.ListRows.{bit_read, both_long, has_row, place_within, turn_added, turn_broken, turn_meets}
use Rattle.leaf_bounds.proofs.list_rules.add_turn.Goals as goal

pub returns-in_default : goal.returns-in_default
returns-in_default c = λ earlier are. turn_broken c.args.id c.args.marks.now c.requires.rules are c.in_default.ensures.broken

pub returns-then-not-index : goal.returns-then-not-index
returns-then-not-index c = λ earlier are.
    let within = place_within c.in-Some.place c.args.marks.now.apart.items c.requires.rules c.requires.apart c.in-Some.ensures.within in
    turn_meets c.args.id c.args.marks.now c.requires.rules are c.in-Some.ensures.found
    (bit_read c.args.marks.now.apart.items c.in-Some.place within c.index.ensures ∙ c.if-not-index.true)

pub row-requires : goal.row-requires
row-requires c = has_row c.in-Some.place c.requires.rules c.in-Some.ensures.within

pub keep_both-requires : goal.keep_both-requires
keep_both-requires c =
    ap length c.deref.ensures.value ∙ c.in_ok-row.ensures.long (chip_ruled c.args.rules.now) (limits_ruled c.args.rules.now) c.requires.rules.rows ∙ sym (ap length c.deref_mut.ensures.value ∙ c.requires.apart)

pub returns : goal.returns
returns c = λ earlier are.
    let within = place_within c.in-Some.place c.args.marks.now.apart.items c.requires.rules c.requires.apart c.in-Some.ensures.within in
    let items = with_items_is c.args.marks.now.apart c.keep_both.new.marks (omega (arith, ap length c.keep_both.ensures, both_long c.deref_mut.result.now c.deref.result.now, ap length c.deref_mut.ensures.value, c.args.marks.now.apart.ok.0)) in
    turn_added c.args.id _ c.deref.result.now c.requires.rules are
    c.in-Some.ensures.found c.in-Some.ensures.new (bit_read c.args.marks.now.apart.items c.in-Some.place within c.index.ensures ∙ c.if-not-index.false)
    c.in-Some.ensures.marked (items ∙ c.keep_both.ensures ∙ ap (λ l. both_marked l c.deref.result.now) c.deref_mut.ensures.value)
    (ap length c.deref.ensures.value ∙ c.in_ok-row.ensures.long (chip_ruled c.args.rules.now) (limits_ruled c.args.rules.now) c.requires.rules.rows)
    (λ j. ap (λ l. bit_at l j) c.deref.ensures.value ∙ c.in_ok-row.ensures.marks (chip_ruled c.args.rules.now) (limits_ruled c.args.rules.now) c.requires.rules.rows j)
