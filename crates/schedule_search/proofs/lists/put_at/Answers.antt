use Rattle.std.proofs.Common.{◌∙◌, sym, ap, insert}
use Rattle.std.proofs.lemmas.List.Edits.{insert_end}
use Rattle.schedule_search.proofs.lists.put_at.Goals as goal

pub returns-then-place-len-clause-items : goal.returns-then-place-len-clause-items
returns-then-place-len-clause-items c = c.push_reserved.ensures.items ∙ sym (insert_end c.args.to.now.items c.args.item) ∙ ap (λ n. insert c.args.to.now.items n c.args.item) (sym (c.if-place-len.true ∙ c.len.ensures ∙ c.args.to.now.ok.0))
