use Rattle.std.proofs.Common.{◌++◌, codes, decimal}
use Rattle.std.proofs.lemmas.Result.{on_ok_weaker}
use Rattle.picture.specs.PictureText.{head_text, style_text}
use Rattle.common_lemmas.proofs.Lists.{joined_before}
use Rattle.picture.proofs.sections.push_head.Goals as goal

pub returns : goal.returns
unfolding head_text
returns c =
    let t0 = c.args.text.now.items in
    let t1 = c.push_entry.new.text.items in
    let t2 = c.push_entry-2.new.text.items in
    let t3 = c.extend.new.to.items in
    let t4 = c.push_style.new.text.items in
    let t5 = c.push_entry-3.new.text.items in
    let t6 = c.extend-2.new.to.items in
    let h = c.args.height in
    on_ok_weaker c.extend-2.result (λ pushed. joined_before t6 t1 t0 (codes "<svg xmlns='http://www.w3.org/2000/svg' width='1140' height='" ++ decimal h) (codes "' viewBox='0 0 1140 " ++ decimal h ++ (codes "' font-family='sans-serif' font-size='10'>\n" ++ (style_text ++ (codes "<rect class='w' width='1140' height='" ++ decimal h ++ (codes "'/>\n"))))) (joined_before t6 t2 t1 (codes "' viewBox='0 0 1140 " ++ decimal h) (codes "' font-family='sans-serif' font-size='10'>\n" ++ (style_text ++ (codes "<rect class='w' width='1140' height='" ++ decimal h ++ (codes "'/>\n")))) (joined_before t6 t3 t2 (codes "' font-family='sans-serif' font-size='10'>\n") (style_text ++ (codes "<rect class='w' width='1140' height='" ++ decimal h ++ (codes "'/>\n"))) (joined_before t6 t4 t3 (style_text) (codes "<rect class='w' width='1140' height='" ++ decimal h ++ (codes "'/>\n")) (joined_before t6 t5 t4 (codes "<rect class='w' width='1140' height='" ++ decimal h) (codes "'/>\n") (pushed) c.in_ok-push_entry-3.ensures) c.in_ok-push_style.ensures) c.in_ok-extend.ensures.ok) c.in_ok-push_entry-2.ensures) c.in_ok-push_entry.ensures) c.extend-2.ensures.ok
