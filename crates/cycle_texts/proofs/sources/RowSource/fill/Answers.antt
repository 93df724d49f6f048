use Rattle.std.proofs.Common.{◌+◌, ◌*◌, arith, length, subst, ℕ, ◌≤◌}
use Rattle.soc_model.specs.Chips.{soc_value}
use Rattle.plan_model.specs.Views.{plan_value}
use Rattle.cycle_texts.proofs.SourceRows.{row_is}
use Rattle.cycle_texts.proofs.sources.RowSource.fill.Goals as goal

pub put_lines-requires-clause-room : goal.put_lines-requires-clause-room
put_lines-requires-clause-room g c = record {
  soc = soc_value c.args.self.now.soc.now;
  plan = plan_value c.args.self.now.plan.now;
  are = c.requires.source.vectors;
  narrow = c.requires.source.narrow;
  rows = subst (λ (w : ℕ). c.args.count * (2 * w + 2) ≤ length c.args.lines.now) c.requires.source.wires c.requires.lines;
}

pub put_rows-requires-clause-room : goal.put_rows-requires-clause-room
put_rows-requires-clause-room g c = record {
  soc = soc_value c.args.self.now.soc.now;
  plan = plan_value c.args.self.now.plan.now;
  are = c.requires.source.rows;
  room = subst (λ (w : ℕ). c.args.count * w ≤ length c.args.digits.now) c.requires.source.width c.requires.digits;
}

pub returns-clause-rows : goal.returns-clause-rows
returns-clause-rows g c = λ content marks stand r h.
    let soc = soc_value c.args.self.now.soc.now in
    let plan = plan_value c.args.self.now.plan.now in
    row_is soc plan content marks c.args.first c.args.count r c.args.self.now.wires c.args.self.now.width c.put_lines.new.text c.put_rows.new.text c.requires.source.good c.requires.source.wires c.requires.source.width
    (omega (arith, c.requires.lines, c.put_lines.ensures.long))
    (c.put_lines.ensures.lines soc plan content marks c.requires.source.vectors stand)
    (c.put_rows.ensures.rows soc plan c.requires.source.rows) h
