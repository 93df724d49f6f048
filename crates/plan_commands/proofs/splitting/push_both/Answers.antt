use Rattle.std.proofs.Common.{◌∙◌, codes}
use Rattle.std.proofs.lemmas.Result.{on_ok_weaker}
use Rattle.soc_model.specs.Chips.{soc_value}
use Rattle.plan_model.specs.Views.{limits_value}
use Rattle.soc_printer.specs.SocText.{soc_text}
use Rattle.limits_text.specs.Texts.{limits_text}
use Rattle.plan_commands.proofs.Joining.{four, put}
use Rattle.plan_commands.proofs.splitting.push_both.Goals as goal

pub returns : goal.returns
returns c =
    let t0 = c.args.text.now.items in
    let t1 = c.extend.new.to.items in
    let t2 = c.extend-2.new.to.items in
    let t3 = c.extend-3.new.to.items in
    let t4 = c.extend-4.new.to.items in
    let chip = soc_text (soc_value c.args.soc.now) in
    let bounds = limits_text (limits_value c.args.limits.now) in
    on_ok_weaker c.extend-4.result
    (λ added. four t0 t1 t2 t3 t4 (codes "soc\n") chip (codes "limits\n") bounds c.in_ok-extend.ensures.ok (put t2 t1 _ chip c.in_ok-extend-2.ensures.ok (c.deref.ensures.value ∙ c.in_ok-chip.ensures.printed)) c.in_ok-extend-3.ensures.ok (put t4 t3 _ bounds added (c.deref-2.ensures.value ∙ c.in_ok-bounds.ensures.text)))
    c.extend-4.ensures.ok
