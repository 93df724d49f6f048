use Rattle.std.proofs.Common.{ℕ, List, [], ◌++◌, ◌∙◌, ap, codes, length}
use Rattle.tester_forms.specs.VerilogText.{chip, task, verilog_head}
use Rattle.tester_forms.proofs.verilog_head.verilog_head.Goals as goal
use Rattle.common_lemmas.proofs.Lists.{joined_before}

pub returns : goal.returns
unfolding verilog_head
returns c =
    let t1 = c.push_chip.new.text.items in
    let t2 = c.push_task.new.text.items in
    let t3 = c.extend.new.to.items in
    let p1 : List ℕ = chip c.args.wires c.args.controls.now in
    let p2 : List ℕ = task c.args.wires (length c.args.controls.now) in
    let p3 : List ℕ = codes "  initial begin\n    clock = 0;\n    cycle = 0;\n    failed = 0;\n" in
    joined_before t3 t1 [] p1 (p2 ++ p3) (joined_before t3 t2 t1 p2 p3 c.in_ok-extend.ensures.ok c.in_ok-push_task.ensures)
    (c.in_ok-push_chip.ensures ∙ ap (λ (t : List ℕ). t ++ p1) c.new-text.ensures.items)
