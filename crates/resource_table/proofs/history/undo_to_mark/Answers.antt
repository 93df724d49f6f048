use Rattle.std.proofs.Common.{◌≤◌, ◌++◌, ◌∷◌, [], ℕ, ◌∙◌, length, sym, ap, arith, refl}
use Rattle.std.specs.Global.{Vec}
use Rattle.resource_table.proofs.Rewinding.{back_past, back_history}
use Rattle.resource_table.proofs.history.undo_to_mark.Goals as goal

pub returns-after-loop-changes-clause-past : goal.returns-after-loop-changes-clause-past
returns-after-loop-changes-clause-past c =
    let few : length c.loop-changes.history.log.items ≤ c.in-Some.changes = (let over = c.loop-changes-test.false in omega (arith, over, c.len.ensures, c.loop-changes.history.log.ok.0)) in
    back_past c.args.history.now c.loop-changes.history c.loop-changes.history.marks.items c.in-Some.changes c.requires.history (c.in-Some.ensures.items ∙ ap (λ (v : Vec ℕ). v.items ++ c.in-Some.changes ∷ []) (sym c.loop-changes.invariant.marks)) c.loop-changes.invariant.same few

pub returns-after-loop-changes-clause-history : goal.returns-after-loop-changes-clause-history
returns-after-loop-changes-clause-history c =
    back_history c.args.history.now c.loop-changes.history c.loop-changes.history.marks.items c.in-Some.changes c.requires.history (c.in-Some.ensures.items ∙ ap (λ (v : Vec ℕ). v.items ++ c.in-Some.changes ∷ []) (sym c.loop-changes.invariant.marks)) refl c.loop-changes.invariant.places c.loop-changes.invariant.least
