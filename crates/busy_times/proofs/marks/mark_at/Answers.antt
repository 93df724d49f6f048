use Rattle.std.proofs.Common.{◌≡◌, ◌+◌, ◌-◌, ℕ, zero, suc, List, length, get_or, drop, arith, sym, ap, ◌∙◌}
use Rattle.std.{specs.Prelude.◌≤◌, proofs.lemmas.List.get_or-map, proofs.lemmas.List.get_or-drop, proofs.lemmas.List.length-drop}
use Rattle.busy_times.specs.{declared.power.Draw.Draw, Draws.marks_from}
use Rattle.busy_times.proofs.marks.mark_at.Goals as goal

abbrev no_draw : Draw
no_draw = record { from = 0; to = 0; power = 0 }

-- behind the start the end of each draw follows
end_at : (draws : List Draw) (from start at : ℕ) → 1 ≤ at → from + at ≤ length draws → (get_or draws (from + at - 1) no_draw).to ≡ get_or (marks_from start (drop from draws)) at 0
end_at draws from start zero some le = absurd (omega arith)
end_at draws from start (suc n) some le =
    let place : from + suc n - 1 ≡ from + n = omega arith in
    ap (λ k. (get_or draws k no_draw).to) place ∙ ap (λ (d : Draw). d.to) (sym (get_or-drop from draws n no_draw)) ∙ sym (get_or-map (λ (d : Draw). d.to) (drop from draws) n no_draw 0 (omega (arith, length-drop from draws)))

pub returns-else-at-eq0 : goal.returns-else-at-eq0
returns-else-at-eq0 c = end_at c.args.draws.now c.args.from c.args.start c.args.at (let some = c.if-at-eq0.false in omega arith) c.requires
