use Rattle.std.proofs.Common.{ℕ, List, ◌++◌, codes}
use Rattle.std.proofs.lemmas.Result.{on_ok_weaker}
use Rattle.tester_forms.specs.Pieces.{where_some}
use Rattle.tester_forms.specs.VerilogText.{control_inputs, inputs, where_none, wire_inputs}
use Rattle.tester_forms.proofs.verilog_task.push_inputs.Goals as goal
use Rattle.common_lemmas.proofs.Lists.{joined_before}

pub returns : goal.returns
unfolding inputs
returns c =
    let t0 = c.args.text.now.items in
    let t1 = c.extend.new.to.items in
    let t2 = c.push_wire_inputs.new.text.items in
    let t3 = c.push_control_inputs.new.text.items in
    let t4 = c.push_where_none.new.text.items in
    let p1 : List ℕ = codes "  task v;\n" in
    let p2 : List ℕ = where_some c.args.wires (wire_inputs c.args.wires) in
    let p3 : List ℕ = where_some c.args.controls (control_inputs c.args.controls) in
    let p4 : List ℕ = where_none c.args.wires c.args.controls (codes "    input nothing;\n") in
    on_ok_weaker c.push_where_none.result (λ pushed. joined_before t4 t1 t0 p1 (p2 ++ (p3 ++ p4)) (joined_before t4 t2 t1 p2 (p3 ++ p4) (joined_before t4 t3 t2 p3 p4 pushed c.in_ok-push_control_inputs.ensures) c.in_ok-push_wire_inputs.ensures) c.in_ok-extend.ensures.ok) c.push_where_none.ensures
