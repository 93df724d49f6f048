use Rattle.std.proofs.Common.{◌≡◌, ◌∙◌, ◌*◌, ℕ, List, length, sym, ap, arith}
use Rattle.std.specs.Global.{Vec}
use Rattle.std.specs.Vec.{with_items}
use Rattle.std.proofs.lemmas.List.{length-map}
use Rattle.std.proofs.lemmas.Result.{on_ok_weaker}
use Rattle.soc_model.specs.Chips.{soc_value}
use Rattle.plan_model.specs.Views.{limits_value}
use Rattle.plan_model.specs.Rules.{IsBound}
use Rattle.width_tree.specs.Trees.{node_value, tree_value}
use Rattle.width_tree.specs.Walks.{RoomValue}
use Rattle.width_tree.specs.Bounds.{IsAcceptedTree}
use Rattle.width_tree.proofs.Faults.{checked_accepted}
use Rattle.width_tree.proofs.check.check_tree.Goals as goal

pub returns-clause-bound : goal.returns-clause-bound
returns-clause-bound c =
    on_ok_weaker {P = IsAcceptedTree (soc_value c.args.soc.now) (limits_value c.args.limits.now) (tree_value c.args.tree.now)} {Q = IsBound (soc_value c.args.soc.now) (limits_value c.args.limits.now) c.args.tree.now.claimed} c.check_in.result
    (λ a. c.accepted_trees_are_bounds.ensures (soc_value c.args.soc.now) (limits_value c.args.limits.now) (tree_value c.args.tree.now) c.requires.limits.some_wire a)
    (checked_accepted (soc_value c.args.soc.now) (limits_value c.args.limits.now) (tree_value c.args.tree.now) c.check_in.result c.requires.tree c.check_in.ensures.checked)

-- a list that is written back is as long as it was
as_long : {X : Type 0} (v : Vec X) (written : List X) → length (with_items v written).items ≡ length v.items
as_long v written = sym (with_items v written).ok.0 ∙ v.ok.0

same_room : (m n o p : ℕ) → m ≡ n → o ≡ p → (let room : RoomValue = record { modules = m; nodes = o } in room) ≡ record { modules = n; nodes = p }
same_room m n o p modules nodes =
    ap (λ (k : ℕ). (let room : RoomValue = record { modules = k; nodes = o } in room)) modules ∙ ap (λ (k : ℕ). (let room : RoomValue = record { modules = n; nodes = k } in room)) nodes

pub check_in-requires-clause-stack : goal.check_in-requires-clause-stack
check_in-requires-clause-stack c =
    omega (arith, ap length c.deref_mut-4.ensures.value, ap (λ (r : RoomValue). r.nodes) c.room.view_is, length-map c.args.tree.now.nodes.items node_value)

pub invariant_of-room : goal.invariant_of-room
invariant_of-room c =
    let room = c.room.inside in
    let new = c.check_in.new in
    let own = as_long room.own new.own in (
      as_long room.times new.times ∙ c.room.invariant.0 ∙ ap (λ (n : ℕ). n * 256) (sym own),
      c.check_in.ensures.intervals ∙ c.room.invariant.1 ∙ sym own,
      c.check_in.ensures.areas ∙ c.room.invariant.2 ∙ sym own,
      as_long room.marks new.marks ∙ c.room.invariant.3 ∙ sym own,
    )

pub returns-clause-room : goal.returns-clause-room
returns-clause-room c =
    let room = c.room.inside in
    let new = c.check_in.new in
    same_room (length (with_items room.own new.own).items) (length room.own.items) (length (with_items room.stack new.stack).items) (length room.stack.items) (as_long room.own new.own) (as_long room.stack new.stack) ∙ c.room.view_is
