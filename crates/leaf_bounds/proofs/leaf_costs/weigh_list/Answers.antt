use Rattle.std.proofs.Common.{length, refl, ap, arith}
use Rattle.std.proofs.lemmas.List.{with_items_is}
use Rattle.leaf_bounds.specs.ListTables.{role_at}
use Rattle.leaf_bounds.specs.LeafCosts.{in_weight}
use Rattle.leaf_bounds.proofs.LeafSums.{made_power, made_turns_on, made_in, turns_plain, crowd_plain, listed_at, rooms_are, lent_long, lent_sums}
use Rattle.leaf_bounds.proofs.leaf_costs.weigh_list.Goals as goal

pub returns-in-Power-clause-made : goal.returns-in-Power-clause-made
returns-in-Power-clause-made c = λ os made.
    made_power c.args.list c.args.weight c.args.room.now _ c.requires.basis c.requires.kept
    (listed_at c.args.basis.now.proof.now.lists.items c.args.list c.requires.list c.index-what.ensures c.in-Power.is)
    refl refl c.push_reserved.ensures.items
    (rooms_are c.args.room.now.rooms c.from.ensures c.from-2.ensures c.room_of.ensures c.in-Power.is) made

pub returns-in-TurnsOn-clause-made : goal.returns-in-TurnsOn-clause-made
returns-in-TurnsOn-clause-made c = λ os made.
    let items = with_items_is c.args.room.now.sums c.add_in.new.sums (omega (arith, c.add_in.ensures.long, ap length c.deref_mut.ensures.value, c.args.room.now.sums.ok.0)) in
    made_turns_on c.args.list c.args.weight c.args.room.now _ c.requires.basis c.requires.kept
    (listed_at c.args.basis.now.proof.now.lists.items c.args.list c.requires.list c.index-what.ensures c.in-TurnsOn.is)
    (lent_long items c.deref_mut.ensures.value c.add_in.ensures.long)
    (lent_sums (λ i. in_weight (role_at c.args.basis.now.lists c.args.list i) c.args.weight) items c.deref_mut.ensures.value c.add_in.ensures.sums)
    c.push_reserved-in-TurnsOn.ensures.items refl
    (rooms_are c.args.room.now.rooms c.from.ensures c.from-2.ensures c.room_of.ensures c.in-TurnsOn.is) made

pub returns-in-Turns-clause-made : goal.returns-in-Turns-clause-made
returns-in-Turns-clause-made c = λ os made.
    let items = with_items_is c.args.room.now.sums c.add_in-in-Turns.new.sums (omega (arith, c.add_in-in-Turns.ensures.long, ap length c.deref_mut-in-Turns.ensures.value, c.args.room.now.sums.ok.0)) in
    made_in c.args.list c.args.weight c.in-Turns.tests.items c.args.room.now _ c.requires.basis c.requires.kept
    (listed_at c.args.basis.now.proof.now.lists.items c.args.list c.requires.list c.index-what.ensures c.in-Turns.is) (turns_plain c.in-Turns.tests.items)
    (lent_long items c.deref_mut-in-Turns.ensures.value c.add_in-in-Turns.ensures.long)
    (lent_sums (λ i. in_weight (role_at c.args.basis.now.lists c.args.list i) c.args.weight) items c.deref_mut-in-Turns.ensures.value c.add_in-in-Turns.ensures.sums)
    refl refl
    (rooms_are c.args.room.now.rooms c.from.ensures c.from-2.ensures c.room_of.ensures c.in-Turns.is) made

pub returns-in-Crowd-clause-made : goal.returns-in-Crowd-clause-made
returns-in-Crowd-clause-made c = λ os made.
    let items = with_items_is c.args.room.now.sums c.add_in-in-Crowd.new.sums (omega (arith, c.add_in-in-Crowd.ensures.long, ap length c.deref_mut-in-Crowd.ensures.value, c.args.room.now.sums.ok.0)) in
    made_in c.args.list c.args.weight c.in-Crowd.tests.items c.args.room.now _ c.requires.basis c.requires.kept
    (listed_at c.args.basis.now.proof.now.lists.items c.args.list c.requires.list c.index-what.ensures c.in-Crowd.is) (crowd_plain c.in-Crowd.most c.in-Crowd.tests.items)
    (lent_long items c.deref_mut-in-Crowd.ensures.value c.add_in-in-Crowd.ensures.long)
    (lent_sums (λ i. in_weight (role_at c.args.basis.now.lists c.args.list i) c.args.weight) items c.deref_mut-in-Crowd.ensures.value c.add_in-in-Crowd.ensures.sums)
    refl refl
    (rooms_are c.args.room.now.rooms c.from.ensures c.from-2.ensures c.room_of.ensures c.in-Crowd.is) made
