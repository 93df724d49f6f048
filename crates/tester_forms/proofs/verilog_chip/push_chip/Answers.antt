use Rattle.std.proofs.Common.{ℕ, List, ◌++◌, codes, length}
use Rattle.std.proofs.lemmas.Result.{on_ok_weaker}
use Rattle.tester_forms.specs.Pieces.{where_some}
use Rattle.tester_forms.specs.VerilogText.{chip, control_ports, control_signals, counts, opening, wire_ports, wire_signals}
use Rattle.tester_forms.proofs.verilog_chip.push_chip.Goals as goal
use Rattle.common_lemmas.proofs.Lists.{joined_before}

pub returns : goal.returns
unfolding chip
returns c =
    let t0 = c.args.text.now.items in
    let t1 = c.extend.new.to.items in
    let t2 = c.push_wire_signals.new.text.items in
    let t3 = c.push_control_signals.new.text.items in
    let t4 = c.extend-2.new.to.items in
    let t5 = c.push_where_some.new.text.items in
    let t6 = c.push_ports.new.text.items in
    let t7 = c.extend-3.new.to.items in
    let p1 : List ℕ = opening in
    let p2 : List ℕ = where_some c.args.wires (wire_signals c.args.wires) in
    let p3 : List ℕ = where_some (length c.args.controls.now) (control_signals (length c.args.controls.now)) in
    let p4 : List ℕ = counts in
    let p5 : List ℕ = where_some c.args.wires wire_ports in
    let p6 : List ℕ = control_ports 0 c.args.controls.now in
    let p7 : List ℕ = codes "\n  );\n" in
    on_ok_weaker c.extend-3.result (λ pushed. joined_before t7 t1 t0 p1 (p2 ++ (p3 ++ (p4 ++ (p5 ++ (p6 ++ p7))))) (joined_before t7 t2 t1 p2 (p3 ++ (p4 ++ (p5 ++ (p6 ++ p7)))) (joined_before t7 t3 t2 p3 (p4 ++ (p5 ++ (p6 ++ p7))) (joined_before t7 t4 t3 p4 (p5 ++ (p6 ++ p7)) (joined_before t7 t5 t4 p5 (p6 ++ p7) (joined_before t7 t6 t5 p6 p7 pushed c.in_ok-push_ports.ensures) c.in_ok-push_where_some.ensures) c.in_ok-extend-2.ensures.ok) c.in_ok-push_control_signals.ensures) c.in_ok-push_wire_signals.ensures) c.in_ok-extend.ensures.ok) c.extend-3.ensures.ok
