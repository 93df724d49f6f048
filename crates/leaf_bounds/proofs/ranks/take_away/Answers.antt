use Rattle.std.proofs.Common.{sym, ◌∙◌}
use Rattle.leaf_bounds.proofs.Takings.{after_none, after_put, gone_already, space_to_note, space_after}
use Rattle.leaf_bounds.proofs.ranks.take_away.Goals as goal

pub note_taken-requires-clause-room : goal.note_taken-requires-clause-room
note_taken-requires-clause-room c = space_to_note c.args.at c.requires.space c.requires.at (sym c.is_left.ensures ∙ c.if-is_left.true)

pub returns-then-is_left-clause-space : goal.returns-then-is_left-clause-space
returns-then-is_left-clause-space c =
    space_after c.args.ranks.now c.note_taken.new.ranks c.args.at c.requires.space c.requires.at (sym c.is_left.ensures ∙ c.if-is_left.true)
    c.note_taken.ensures.may c.note_taken.ensures.trail c.note_taken.ensures.most c.note_taken.ensures.room c.note_taken.ensures.trail_room

pub returns-then-is_left-clause-after : goal.returns-then-is_left-clause-after
returns-then-is_left-clause-after c =
    after_put c.args.ranks.now c.note_taken.new.ranks c.args.at (sym c.is_left.ensures ∙ c.if-is_left.true)
    c.note_taken.ensures.may c.note_taken.ensures.trail c.note_taken.ensures.most c.note_taken.ensures.room c.note_taken.ensures.trail_room

pub returns-else-is_left-clause-may : goal.returns-else-is_left-clause-may
returns-else-is_left-clause-may c = sym (gone_already c.args.ranks.now.may.items c.args.at (sym c.is_left.ensures ∙ c.if-is_left.false))

pub returns-else-is_left-clause-after : goal.returns-else-is_left-clause-after
returns-else-is_left-clause-after c = after_none c.args.ranks.now
