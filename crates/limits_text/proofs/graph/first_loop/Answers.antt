use Rattle.std.proofs.Common.{◌∙◌, ◌-◌, length, ap, sym, subst, List, ℕ, Bool, position, not}
use Rattle.limits_text.specs.Orders.{Counts, least_before, ComesAgain, IsBack}
use Rattle.limits_text.proofs.FirstLoops.{Marked, all_ranked, loop_found}
use Rattle.limits_text.proofs.graph.first_loop.Goals as goal

pub returns-in_default : goal.returns-in_default
returns-in_default c =
    let order = c.as_slice.ensures.value in
    let marks = c.in_ok-gone.ensures.marks in
    let m : Marked c.args.count c.in_ok-order.order.items c.in_ok-gone.gone.items = record { long = c.in_ok-gone.ensures.long; marks = rw order at marks } in
    all_ranked c.in_ok-order.ensures m c.requires
    (ap (position not) (sym c.as_slice-2.ensures.value) ∙ sym c.first_left.ensures ∙ c.in_default.is)

pub returns : goal.returns
returns c =
    let order = c.as_slice.ensures.value in
    let marks = c.in_ok-gone.ensures.marks in
    let m : Marked c.args.count c.in_ok-order.order.items c.in_ok-gone.gone.items = record { long = c.in_ok-gone.ensures.long; marks = rw order at marks } in
    let gone = c.as_slice-3.ensures.value in
    loop_found c.in_ok-order.ensures m c.requires c.in_ok-least.least.items c.in-Some.start c.in_ok-walk.walk.items c.in_ok-walk.meets c.in_ok-circle.circle.items
    (ap (position not) (sym c.as_slice-2.ensures.value) ∙ sym c.first_left.ensures ∙ c.in-Some.is)
    (c.in_ok-least.ensures.long ∙ ap length gone)
    (subst (λ (g : List Bool). Counts c.in_ok-least.least.items (least_before g (length g - 1) c.args.pairs.now)) gone c.in_ok-least.ensures.least)
    (subst (λ (l : List ℕ). ComesAgain l c.in-Some.start c.in_ok-walk.walk.items c.in_ok-walk.meets) c.as_slice-4.ensures.value c.in_ok-walk.ensures)
    (c.in_ok-circle.ensures.long ∙ ap length c.as_slice-5.ensures.value)
    (subst (λ (l : List ℕ). IsBack l c.in_ok-circle.circle.items) c.as_slice-5.ensures.value c.in_ok-circle.ensures.back)
