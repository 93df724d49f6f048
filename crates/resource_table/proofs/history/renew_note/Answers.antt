use Rattle.std.proofs.Common.{refl, length, drop, set, ap, ◌∙◌}
use Rattle.std.specs.Vec.{with_item}
use Rattle.resource_table.specs.{Histories.at_change, Histories.rewound}
use Rattle.resource_table.proofs.Rewinding.{raised_back, same_past, renewed_history}
use Rattle.resource_table.proofs.history.renew_note.Goals as goal

pub returns-then-len-capacity-clause-past : goal.returns-then-len-capacity-clause-past
returns-then-len-capacity-clause-past c =
    let h = c.args.history.now in
    same_past (λ n. rewound (drop n c.push_reserved.new.self.items) (set h.values.items c.args.place c.args.value)) (at_change h) h.marks.items (length h.log.items)
    (λ n le. ap (λ v. rewound (drop n v) (set h.values.items c.args.place c.args.value)) c.push_reserved.ensures.items
    ∙ raised_back h.log.items h.values.items c.args.place c.index-was.result.now c.args.value n c.index-was.result.now le c.index-was.ensures) c.requires.history.marks

pub returns-then-len-capacity-clause-history : goal.returns-then-len-capacity-clause-history
returns-then-len-capacity-clause-history c =
    let h = c.args.history.now in
    renewed_history h (record { values = with_item h.values c.args.place c.args.value; log = c.push_reserved.new.self; marks = h.marks }) (record { place = c.args.place; was = c.index-was.result.now }) c.args.value
    c.requires.history c.requires.place refl c.push_reserved.ensures.items refl
