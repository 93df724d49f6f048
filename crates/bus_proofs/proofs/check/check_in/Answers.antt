use Rattle.std.proofs.Common.{arith}
use Rattle.std.proofs.lemmas.List.{length-map}
use Rattle.plan_model.specs.Proofs.{list_value}
use Rattle.leaf_bounds.specs.Bases.{chip_of, limits_of, lists_of, proof_of}
use Rattle.bus_proofs.proofs.ProofChecks.{all_kept, bad_list, checked_accepted, checked_faulty, room_back}
use Rattle.bus_proofs.proofs.check.check_in.Goals as goal

pub returns-then-basis-len-clause-fault : goal.returns-then-basis-len-clause-fault
returns-then-basis-len-clause-fault c =
    bad_list (chip_of c.args.basis.now) (limits_of c.args.basis.now) (proof_of c.args.basis.now) c.args.basis.now.lists.kept c.requires.room.basis_is.lists.first
    (omega (arith, c.if-basis-len.true, c.len.ensures, length-map c.args.basis.now.proof.now.lists.items list_value))

pub check_nodes-checked-requires-clause-kept : goal.check_nodes-checked-requires-clause-kept
check_nodes-checked-requires-clause-kept c =
    (all_kept (chip_of c.args.basis.now) (limits_of c.args.basis.now) (lists_of c.args.basis.now) c.args.basis.now.lists.kept c.requires.room.basis_is.lists.first
    (omega (arith, c.if-basis-len.false, c.len.ensures, length-map c.args.basis.now.proof.now.lists.items list_value))).0

pub returns-clause-accepted : goal.returns-clause-accepted
returns-clause-accepted c =
    let kept = all_kept (chip_of c.args.basis.now) (limits_of c.args.basis.now) (lists_of c.args.basis.now) c.args.basis.now.lists.kept c.requires.room.basis_is.lists.first
    (omega (arith, c.if-basis-len.false, c.len.ensures, length-map c.args.basis.now.proof.now.lists.items list_value)) in
    checked_accepted c.args.basis.now c.check_nodes-checked.result kept.1 c.requires.room.said c.check_nodes-checked.ensures.checked

pub returns-clause-fault : goal.returns-clause-fault
returns-clause-fault c =
    let kept = all_kept (chip_of c.args.basis.now) (limits_of c.args.basis.now) (lists_of c.args.basis.now) c.args.basis.now.lists.kept c.requires.room.basis_is.lists.first
    (omega (arith, c.if-basis-len.false, c.len.ensures, length-map c.args.basis.now.proof.now.lists.items list_value)) in
    checked_faulty c.args.basis.now c.check_nodes-checked.result kept.1 c.requires.room.said c.check_nodes-checked.ensures.checked

pub returns-clause-room : goal.returns-clause-room
returns-clause-room c =
    room_back c.args.basis.now c.check_nodes-checked.new.leaf c.check_nodes-checked.new.stack c.requires.room
    (c.undo.ensures c.args.case.now c.mark-root.ensures c.requires.room.room.has c.check_nodes-checked.ensures.further) c.check_nodes-checked.ensures.leaves c.check_nodes-checked.auto.stack

pub check_nodes-checked-requires-clause-leaves : goal.check_nodes-checked-requires-clause-leaves
check_nodes-checked-requires-clause-leaves c = c.begin_work.ensures.leaves c.args.basis.now c.requires.room.leaves
