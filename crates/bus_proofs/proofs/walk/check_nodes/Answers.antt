use Rattle.std.proofs.Common.{◌≡◌, ◌+◌, ℕ, suc, drop, subst, arith, Err}
use Rattle.std.proofs.lemmas.List.{length-map}
use Rattle.std.proofs.lemmas.Option.{slice_get_within}
use Rattle.plan_model.specs.Proofs.{node_value}
use Rattle.bus_proofs.specs.Bounds.{all_cases}
use Rattle.leaf_bounds.specs.Bases.{chip_of, limits_of}
use Rattle.bus_proofs.specs.Walks.{GoesOn, IsEnoughFor, IsJudged}
use Rattle.bus_proofs.proofs.RoomSteps.{further_none}
use Rattle.bus_proofs.proofs.WalkSteps.{cases_long, enough_more, faulty, next_is, starts, work_more}
use Rattle.bus_proofs.proofs.walk.check_nodes.Goals as goal

pub loop-node-init : goal.loop-node-init
loop-node-init c = record {
  room = c.requires.room;
  leaves = c.requires.leaves;
  few = omega arith;
  further = further_none c.args.case.now;
  goes = λ t e. starts c.args.basis.now c.args.stack.now t c.requires.root;
  enough = λ t e q n less. absurd (omega (arith, less));
  work = λ t e. c.requires.work;
}

pub check_node-requires-clause-here : goal.check_node-requires-clause-here
check_node-requires-clause-here c =
    let k = next_is c.args.basis.now c.loop-node.node c.requires.said.one.0 c.requires.said.one.1 (omega (arith, c.loop-node-test.true, c.len-node-end.ensures, length-map c.args.basis.now.proof.now.nodes.items node_value)) c.loop-node.invariant.further (c.loop-node.invariant.goes c.requires.said.one.0 c.requires.said.one.1) in
    (c.args.case.now, k.x, drop (suc c.loop-node.node) (all_cases (chip_of c.args.basis.now) (limits_of c.args.basis.now) c.requires.said.one.0), k.here)

pub returns-in-Err-clause-further : goal.returns-in-Err-clause-further
returns-in-Err-clause-further c =
    let k = next_is c.args.basis.now c.loop-node.node c.requires.said.one.0 c.requires.said.one.1 (omega (arith, c.loop-node-test.true, c.len-node-end.ensures, length-map c.args.basis.now.proof.now.nodes.items node_value)) c.loop-node.invariant.further (c.loop-node.invariant.goes c.requires.said.one.0 c.requires.said.one.1) in
    c.check_node.ensures.further c.args.case.now k.x (drop (suc c.loop-node.node) (all_cases (chip_of c.args.basis.now) (limits_of c.args.basis.now) c.requires.said.one.0)) k.here

pub returns-in-Err-clause-checked : goal.returns-in-Err-clause-checked
returns-in-Err-clause-checked c = λ t e.
    let k = next_is c.args.basis.now c.loop-node.node t e (omega (arith, c.loop-node-test.true, c.len-node-end.ensures, length-map c.args.basis.now.proof.now.nodes.items node_value)) c.loop-node.invariant.further (c.loop-node.invariant.goes t e) in
    faulty c.args.basis.now (all_cases (chip_of c.args.basis.now) (limits_of c.args.basis.now) t) c.loop-node.node c.in-Err.fault k.there (c.loop-node.invariant.enough t e)
    (subst (λ w. IsJudged {X = ℕ} c.args.basis.now w c.loop-node.node k.x (Err c.in-Err.fault)) (c.loop-node.invariant.work t e)
    (c.in-Err.ensures.judged c.args.case.now k.x (drop (suc c.loop-node.node) (all_cases (chip_of c.args.basis.now) (limits_of c.args.basis.now) t)) k.here))

pub loop-node-preserved : goal.loop-node-preserved
loop-node-preserved c = record {
  room = c.in-Ok.ensures.room;
  leaves = c.check_node.ensures.leaves;
  few = omega (arith, c.in-Ok.ensures.few, c.loop-node.invariant.few);
  further =
      let k = next_is c.args.basis.now c.loop-node.node c.requires.said.one.0 c.requires.said.one.1 (omega (arith, c.loop-node-test.true, c.len-node-end.ensures, length-map c.args.basis.now.proof.now.nodes.items node_value)) c.loop-node.invariant.further (c.loop-node.invariant.goes c.requires.said.one.0 c.requires.said.one.1) in
      c.check_node.ensures.further c.args.case.now k.x (drop (suc c.loop-node.node) (all_cases (chip_of c.args.basis.now) (limits_of c.args.basis.now) c.requires.said.one.0)) k.here;
  goes = λ t e.
      let k = next_is c.args.basis.now c.loop-node.node t e (omega (arith, c.loop-node-test.true, c.len-node-end.ensures, length-map c.args.basis.now.proof.now.nodes.items node_value)) c.loop-node.invariant.further (c.loop-node.invariant.goes t e) in
      let next : suc c.loop-node.node ≡ c.loop-node.node + 1 = omega arith in
      subst (λ n. GoesOn c.args.basis.now c.args.case.now c.check_node.new.stack c.in-Ok.next c.check_node.new.case (drop n (all_cases (chip_of c.args.basis.now) (limits_of c.args.basis.now) t))) next
      (c.in-Ok.ensures.goes_on c.args.case.now k.x (drop (suc c.loop-node.node) (all_cases (chip_of c.args.basis.now) (limits_of c.args.basis.now) t)) k.here);
  enough = λ t e.
      let k = next_is c.args.basis.now c.loop-node.node t e (omega (arith, c.loop-node-test.true, c.len-node-end.ensures, length-map c.args.basis.now.proof.now.nodes.items node_value)) c.loop-node.invariant.further (c.loop-node.invariant.goes t e) in
      enough_more c.args.basis.now (all_cases (chip_of c.args.basis.now) (limits_of c.args.basis.now) t) c.loop-node.node k.there (c.loop-node.invariant.enough t e)
      (subst (λ w. IsEnoughFor c.args.basis.now w k.x) (c.loop-node.invariant.work t e)
      (c.in-Ok.ensures.judged c.args.case.now k.x (drop (suc c.loop-node.node) (all_cases (chip_of c.args.basis.now) (limits_of c.args.basis.now) t)) k.here));
  work = λ t e.
      let k = next_is c.args.basis.now c.loop-node.node t e (omega (arith, c.loop-node-test.true, c.len-node-end.ensures, length-map c.args.basis.now.proof.now.nodes.items node_value)) c.loop-node.invariant.further (c.loop-node.invariant.goes t e) in
      let now = c.in-Ok.ensures.work c.args.case.now k.x (drop (suc c.loop-node.node) (all_cases (chip_of c.args.basis.now) (limits_of c.args.basis.now) t)) k.here in
      let more = work_more c.args.basis.now (all_cases (chip_of c.args.basis.now) (limits_of c.args.basis.now) t) c.loop-node.node k.there in
      omega (arith, now, c.loop-node.invariant.work t e, more);
}

pub returns-clause-checked : goal.returns-clause-checked
returns-clause-checked c = λ t e n x at.
    c.loop-node.invariant.enough t e n x
    (omega (arith, slice_get_within (all_cases (chip_of c.args.basis.now) (limits_of c.args.basis.now) t) n x at, cases_long c.args.basis.now t e, c.loop-node-test.false, c.len-node-end.ensures, length-map c.args.basis.now.proof.now.nodes.items node_value)) at
