use Rattle.std.proofs.Common.{codes, decimal, [], ◌∷◌, ◌++◌}
use Rattle.soc_printer.specs.SocText.{spaced}
use Rattle.soc_printer.proofs.push_total_line.Goals as goal
use Rattle.common_lemmas.proofs.Lists.{joined_after}
use Rattle.common_lemmas.proofs.Options.{on_ok}

pub returns : goal.returns
returns c =
    let t0 = c.args.text.now.items in
    let t1 = c.extend.new.to.items in
    let t2 = c.push_count.new.text.items in
    let t3 = c.push.new.to.items in
    let number = spaced (decimal c.args.modules ∷ []) in
    on_ok c.push.result
    (λ e. joined_after t0 t1 t3 (codes "TotalModules") (number ++ 10 ∷ []) c.in_ok-extend.ensures.ok (joined_after t1 t2 t3 number (10 ∷ []) c.in_ok-push_count.ensures e))
    c.push.ensures.ok
