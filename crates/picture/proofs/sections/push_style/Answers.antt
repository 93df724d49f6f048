use Rattle.std.proofs.Common.{◌++◌, codes}
use Rattle.std.proofs.lemmas.Result.{on_ok_weaker}
use Rattle.common_lemmas.proofs.Lists.{joined_before}
use Rattle.picture.proofs.sections.push_style.Goals as goal

pub returns : goal.returns
returns c =
    let t0 = c.args.text.now.items in
    let t1 = c.extend.new.to.items in
    let t2 = c.extend-2.new.to.items in
    let t3 = c.extend-3.new.to.items in
    let t4 = c.extend-4.new.to.items in
    on_ok_weaker c.extend-4.result (λ pushed. (joined_before t4 t1 t0 (codes "<style>\nrect{stroke:#333;stroke-width:.5}\n.a{fill:#fff3c4}.b{fill:#cde7cd}.c{fill:#a9c6e8}.d{fill:#c79fc6}\n") (codes ".w{fill:#fff;stroke:#999}.p{fill:#ddd;stroke:#333;stroke-width:.5}.l{stroke:#000;stroke-dasharray:4 3}\n" ++ (codes ".g{stroke:#000;stroke-opacity:.2;pointer-events:none}\n" ++ (codes "text{fill:#111;pointer-events:none}.m{text-anchor:middle}.e{text-anchor:end}\n</style>\n"))) (joined_before t4 t2 t1 (codes ".w{fill:#fff;stroke:#999}.p{fill:#ddd;stroke:#333;stroke-width:.5}.l{stroke:#000;stroke-dasharray:4 3}\n") (codes ".g{stroke:#000;stroke-opacity:.2;pointer-events:none}\n" ++ (codes "text{fill:#111;pointer-events:none}.m{text-anchor:middle}.e{text-anchor:end}\n</style>\n")) (joined_before t4 t3 t2 (codes ".g{stroke:#000;stroke-opacity:.2;pointer-events:none}\n") (codes "text{fill:#111;pointer-events:none}.m{text-anchor:middle}.e{text-anchor:end}\n</style>\n") pushed c.in_ok-extend-3.ensures.ok) c.in_ok-extend-2.ensures.ok) c.in_ok-extend.ensures.ok)) c.extend-4.ensures.ok
