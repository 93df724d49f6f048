use Rattle.std.proofs.Common.{◌≡◌, ◌∙◌, ◌∷◌, ◌++◌, [], ℕ, List, length, length-append, get_or, sym, ap, arith, remove}
use Rattle.schedule_search.proofs.Outside.{last_item}
use Rattle.schedule_search.proofs.lists.take_at.Goals as goal

pub returns-then-place-len-clause-item : goal.returns-then-place-len-clause-item
returns-then-place-len-clause-item c =
    let front : List ℕ = c.take_last.new.self.items in
    let is : c.args.from.now.items ≡ front ++ c.take_last.result ∷ [] = c.take_last.ensures.items in
    let at : c.args.place ≡ length front = omega (arith, c.if-place-len.true, c.len.ensures, c.args.from.now.ok.0, ap length is, length-append front (c.take_last.result ∷ [])) in
    sym (ap (λ (l : List ℕ). get_or l c.args.place c.take_last.result) is ∙ (last_item front c.take_last.result c.args.place at).1)

pub returns-then-place-len-clause-items : goal.returns-then-place-len-clause-items
returns-then-place-len-clause-items c =
    let front : List ℕ = c.take_last.new.self.items in
    let is : c.args.from.now.items ≡ front ++ c.take_last.result ∷ [] = c.take_last.ensures.items in
    let at : c.args.place ≡ length front = omega (arith, c.if-place-len.true, c.len.ensures, c.args.from.now.ok.0, ap length is, length-append front (c.take_last.result ∷ [])) in
    sym (ap (λ (l : List ℕ). remove l c.args.place) is ∙ (last_item front c.take_last.result c.args.place at).0)
