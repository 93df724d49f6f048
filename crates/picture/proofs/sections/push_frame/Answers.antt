use Rattle.std.proofs.Common.{◌++◌, codes, decimal}
use Rattle.std.proofs.lemmas.Result.{on_ok_weaker}
use Rattle.picture.specs.PictureText.{frame_text}
use Rattle.common_lemmas.proofs.Lists.{joined_before}
use Rattle.picture.proofs.sections.push_frame.Goals as goal

pub returns : goal.returns
unfolding frame_text
returns c =
    let t0 = c.args.text.now.items in
    let t1 = c.push_entry.new.text.items in
    let t2 = c.push_entry-2.new.text.items in
    let t3 = c.extend.new.to.items in
    let p = c.args.panel.now in
    on_ok_weaker c.extend.result (λ pushed. rw (← c.from.ensures) (joined_before t3 t1 t0 (codes "<rect class='w' x='120' y='40' width='1000' height='" ++ decimal c.from.result) (codes "'><title>wires " ++ decimal p.rows ++ (codes "</title></rect>\n")) (joined_before t3 t2 t1 (codes "'><title>wires " ++ decimal p.rows) (codes "</title></rect>\n") (pushed) c.in_ok-push_entry-2.ensures) c.in_ok-push_entry.ensures)) c.extend.ensures.ok
