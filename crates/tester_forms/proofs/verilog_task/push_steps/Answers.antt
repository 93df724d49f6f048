use Rattle.std.proofs.Common.{ℕ, List, ◌++◌, codes}
use Rattle.std.proofs.lemmas.Result.{on_ok_weaker}
use Rattle.tester_forms.specs.Pieces.{where_some}
use Rattle.tester_forms.specs.VerilogText.{clocking, comparison, steps}
use Rattle.tester_forms.proofs.verilog_task.push_steps.Goals as goal
use Rattle.common_lemmas.proofs.Lists.{joined_before}

pub returns : goal.returns
unfolding steps
returns c =
    let t0 = c.args.text.now.items in
    let t1 = c.extend.new.to.items in
    let t2 = c.push_where_some.new.text.items in
    let t3 = c.push_where_some-2.new.text.items in
    let t4 = c.extend-2.new.to.items in
    let t5 = c.push_comparison.new.text.items in
    let t6 = c.extend-3.new.to.items in
    let p1 : List ℕ = codes "    begin\n" in
    let p2 : List ℕ = where_some c.args.wires (codes "      wi = drive;\n") in
    let p3 : List ℕ = where_some c.args.controls (codes "      control = controls;\n") in
    let p4 : List ℕ = codes "      #40;\n" in
    let p5 : List ℕ = where_some c.args.wires (comparison c.args.wires) in
    let p6 : List ℕ = clocking in
    on_ok_weaker c.extend-3.result (λ pushed. joined_before t6 t1 t0 p1 (p2 ++ (p3 ++ (p4 ++ (p5 ++ p6)))) (joined_before t6 t2 t1 p2 (p3 ++ (p4 ++ (p5 ++ p6))) (joined_before t6 t3 t2 p3 (p4 ++ (p5 ++ p6)) (joined_before t6 t4 t3 p4 (p5 ++ p6) (joined_before t6 t5 t4 p5 p6 pushed c.in_ok-push_comparison.ensures) c.in_ok-extend-2.ensures.ok) c.in_ok-push_where_some-2.ensures) c.in_ok-push_where_some.ensures) c.in_ok-extend.ensures.ok) c.extend-3.ensures.ok
