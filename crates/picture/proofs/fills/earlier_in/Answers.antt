use Rattle.std.proofs.Common.{◌∙◌, ap, arith, nat_lt, count_by}
use Rattle.picture.proofs.StartsCounted.{earlier_is}
use Rattle.picture.proofs.fills.earlier_in.Goals as goal

pub returns : goal.returns
returns c = λ drawn starts.
    let all = c.count_below-all.ensures ∙ ap (λ key. count_by (λ k. nat_lt k key) c.args.starts.now) c.key_of.ensures.is in
    let low = c.count_below.ensures ∙ ap (λ key. count_by (λ k. nat_lt k key) c.args.starts.now) c.key_of-2.ensures.is in
    omega (arith, c.saturating_sub.ensures, all, low, earlier_is drawn c.args.starts.now c.args.band c.args.cycle c.key_of.ensures.small starts)
