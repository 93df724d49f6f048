use Rattle.std.proofs.Common.{◌++◌, codes, decimal}
use Rattle.std.proofs.lemmas.Result.{on_ok_weaker}
use Rattle.picture.specs.PictureText.{limit_text}
use Rattle.picture.specs.Marks.{label_at, label_end}
use Rattle.common_lemmas.proofs.Lists.{joined_before}
use Rattle.picture.proofs.sections.push_limit.Goals as goal

pub returns : goal.returns
unfolding limit_text
returns c =
    let t0 = c.args.text.now.items in
    let t1 = c.push_entry.new.text.items in
    let t2 = c.extend.new.to.items in
    let t3 = c.push_label.new.text.items in
    let t4 = c.extend-2.new.to.items in
    let t5 = c.push_label-2.new.text.items in
    let t6 = c.push_number.new.to.items in
    let t7 = c.end_label.new.text.items in
    let t8 = c.push_label-3.new.text.items in
    let t9 = c.extend-3.new.to.items in
    let top = c.args.top in
    on_ok_weaker c.extend-3.result (λ pushed. rw (← c.from.ensures, ← c.from-2.ensures, ← c.from-3.ensures, ← c.from-4.ensures) (joined_before t9 t1 t0 (codes "<path class='l' d='M120 " ++ decimal top) (codes "H1120'/>\n" ++ (label_at (codes "e") 114 c.from.result ++ (codes "power limit</text>\n" ++ (label_at (codes "e") 114 c.from-2.result ++ (decimal c.from-3.result ++ (label_end ++ (label_at (codes "e") 114 c.from-4.result ++ (codes "0</text>\n")))))))) (joined_before t9 t2 t1 (codes "H1120'/>\n") (label_at (codes "e") 114 c.from.result ++ (codes "power limit</text>\n" ++ (label_at (codes "e") 114 c.from-2.result ++ (decimal c.from-3.result ++ (label_end ++ (label_at (codes "e") 114 c.from-4.result ++ (codes "0</text>\n"))))))) (joined_before t9 t3 t2 (label_at (codes "e") 114 c.from.result) (codes "power limit</text>\n" ++ (label_at (codes "e") 114 c.from-2.result ++ (decimal c.from-3.result ++ (label_end ++ (label_at (codes "e") 114 c.from-4.result ++ (codes "0</text>\n")))))) (joined_before t9 t4 t3 (codes "power limit</text>\n") (label_at (codes "e") 114 c.from-2.result ++ (decimal c.from-3.result ++ (label_end ++ (label_at (codes "e") 114 c.from-4.result ++ (codes "0</text>\n"))))) (joined_before t9 t5 t4 (label_at (codes "e") 114 c.from-2.result) (decimal c.from-3.result ++ (label_end ++ (label_at (codes "e") 114 c.from-4.result ++ (codes "0</text>\n")))) (joined_before t9 t6 t5 (decimal c.from-3.result) (label_end ++ (label_at (codes "e") 114 c.from-4.result ++ (codes "0</text>\n"))) (joined_before t9 t7 t6 (label_end) (label_at (codes "e") 114 c.from-4.result ++ (codes "0</text>\n")) (joined_before t9 t8 t7 (label_at (codes "e") 114 c.from-4.result) (codes "0</text>\n") (pushed) c.in_ok-push_label-3.ensures) c.in_ok-end_label.ensures) c.in_ok-push_number.ensures.ok) c.in_ok-push_label-2.ensures) c.in_ok-extend-2.ensures.ok) c.in_ok-push_label.ensures) c.in_ok-extend.ensures.ok) c.in_ok-push_entry.ensures)) c.extend-3.ensures.ok
