use Rattle.std.proofs.Common.{◌*◌, ◌∙◌, ap, length, take, arith}
use Rattle.std.proofs.lemmas.List.{with_items_is}
use Rattle.soc_model.specs.Chips.{soc_value}
use Rattle.plan_model.specs.Rules.{bare_limits}
use Rattle.plan_model.specs.Views.{plan_value}
use Rattle.tester_vectors.proofs.CycleLines.{block_is}
use Rattle.tester_vectors.proofs.ReadBits.{marks_stand_in}
use Rattle.tester_vectors.proofs.text.Run.next_block.Goals as goal
use Rattle.common_lemmas.proofs.Numbers.{block_fits}

pub put_lines-requires-clause-room : goal.put_lines-requires-clause-room
put_lines-requires-clause-room g c =
    let fits = block_fits c.min-count.result c.args.self.now.lines c.args.self.now.line (length c.args.self.now.block.items) (omega (arith, c.min-count.ensures)) c.requires.run.fits in
    let same = ap (λ n. c.min-count.result * n) c.requires.run.line in
    record {
      soc = soc_value c.args.self.now.soc.now;
      plan = plan_value c.args.self.now.plan.now;
      are = c.requires.run.vectors;
      narrow = c.requires.run.narrow;
      rows = omega (arith, fits, same, ap length c.deref_mut.ensures.value);
    }

pub returns-clause-run : goal.returns-clause-run
returns-clause-run g c =
    let same = c.put_lines.ensures.long ∙ ap length c.deref_mut.ensures.value in
    let long = ap length (with_items_is c.args.self.now.block c.put_lines.new.text (omega (arith, same, c.args.self.now.block.ok.0))) ∙ same in
    record {
      good = c.requires.run.good;
      vectors = c.requires.run.vectors;
      head = c.requires.run.head;
      line = c.requires.run.line;
      narrow = c.requires.run.narrow;
      some = c.requires.run.some;
      fits = omega (arith, c.requires.run.fits, long);
    }

pub returns-clause-size : goal.returns-clause-size
returns-clause-size g c =
    let same = c.put_lines.ensures.long ∙ ap length c.deref_mut.ensures.value in
    let long = ap length (with_items_is c.args.self.now.block c.put_lines.new.text (omega (arith, same, c.args.self.now.block.ok.0))) in
    let fits = block_fits c.min-count.result c.args.self.now.lines c.args.self.now.line (length c.args.self.now.block.items) (omega (arith, c.min-count.ensures)) c.requires.run.fits in
    omega (arith, fits, same, long)

pub returns-clause-text : goal.returns-clause-text
returns-clause-text g c = λ content marks stand.
    let soc = soc_value c.args.self.now.soc.now in
    let plan = plan_value c.args.self.now.plan.now in
    let same = c.put_lines.ensures.long ∙ ap length c.deref_mut.ensures.value in
    let fits = block_fits c.min-count.result c.args.self.now.lines c.args.self.now.line (length c.args.self.now.block.items) (omega (arith, c.min-count.ensures)) c.requires.run.fits in
    let size = ap (λ n. c.min-count.result * n) c.requires.run.line in
    ap (take (c.min-count.result * c.args.self.now.line)) (with_items_is c.args.self.now.block c.put_lines.new.text (omega (arith, same, c.args.self.now.block.ok.0)))
    ∙ ap (λ n. take n c.put_lines.new.text) size
    ∙ block_is soc plan content marks (λ marks. marks_stand_in soc (bare_limits plan) plan marks c.requires.run.good) c.args.done c.min-count.result c.min-count.result c.put_lines.new.text (omega arith)
    (omega (arith, fits, size, same)) (c.put_lines.ensures.lines soc plan content marks c.requires.run.vectors stand)
