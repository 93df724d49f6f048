use Rattle.std.proofs.Common.{◌≡◌, ◌∙◌, ◌++◌, List, Some, false, get_or, length, map, sym, ap, refl, arith, slice_get, filter}
use Rattle.std.proofs.lemmas.List.{take_all}
use Rattle.std.proofs.lemmas.Option.{slice_get-get_or}
use Rattle.soc_model.specs.declared.Test.{Test}
use Rattle.soc_model.specs.Chips.{ModuleValue, is_live, module_value}
use Rattle.bound_certificate.specs.declared.nodes.PrecedenceNode.{PrecedenceNode}
use Rattle.bound_certificate.specs.Nodes.{node_in, node_values}
use Rattle.bound_certificate.proofs.LiveNodes.{node_made, node_taken, node_left}
use Rattle.bound_certificate.proofs.nodes.push_live.Goals.{then-live+in_ok-push, else-live}
use Rattle.bound_certificate.proofs.nodes.push_live.Goals as goal

none : Test
none = record { number = 0; scan = false; tam = false; patterns = 0; power = 0 }

pub of_test-requires-clause-there : goal.of_test-requires-clause-there
unfolding none
of_test-requires-clause-there c =
    let at : slice_get c.args.«module».now.tests.items c.loop-test.test-index ≡ Some (get_or c.deref-test-items.result.now c.loop-test.test-index none) =
    ap (λ (l : List Test). slice_get l c.loop-test.test-index) (sym c.deref-test-items.ensures.value) ∙ slice_get-get_or c.deref-test-items.result.now c.loop-test.test-index none c.loop-test-test.true in
    (c.loop-test.test-index, ap (λ (m : ModuleValue). slice_get m.tests c.loop-test.test-index) c.new-lower.ensures ∙ at)

pub loop-test-preserved : goal.loop-test-preserved
unfolding none
loop-test-preserved c =
    let m = module_value c.args.«module».now in
    let items = c.deref-test-items.result.now in
    let i = c.loop-test.test-index in
    elim c.if-live.branch [
      | then-live+in_ok-push w ↦
          let node : PrecedenceNode = record { id = record { «module» = c.args.«module».now.number; test = (get_or items i none).number }; time = w.of_test.result; before = w.new.result } in
          rw w.nodes-is (node_taken c.args.wires m (node_values c.args.nodes.now.items) c.loop-test.nodes.items w.push.new.to.items items c.args.«module».now.tests.items i none node c.deref-test-items.ensures.value c.loop-test-test.true (sym c.live.ensures ∙ w.if-live.true)
          (node_made c.args.wires m (get_or items i none) node refl (rw (← c.new-lower.ensures) w.of_test.ensures.time) w.new.ensures.items) w.in_ok-push.ensures.ok c.loop-test.invariant)
      | else-live w ↦
          rw w.nodes-is (node_left c.args.wires m (node_values c.args.nodes.now.items) c.loop-test.nodes.items items c.args.«module».now.tests.items i none c.deref-test-items.ensures.value c.loop-test-test.true (sym c.live.ensures ∙ w.if-live.false) c.loop-test.invariant)
    ]

pub returns : goal.returns
returns c =
    let all = take_all c.loop-test.test-index c.args.«module».now.tests.items (omega (arith, c.loop-test-test.false, ap length c.deref-test-items.ensures.value)) in
    c.loop-test.invariant ∙ ap (λ (l : List Test). node_values c.args.nodes.now.items ++ map (node_in c.args.wires (module_value c.args.«module».now)) (filter is_live l)) all
