use Rattle.std.proofs.Common.{◌≡◌, ◌∙◌, ℕ, ◌<◌, Some, length, ap, arith, rules, slice_get}
use Rattle.proof_facts.specs.declared.facts.TestFacts.{TestFacts}
use Rattle.live_tests.specs.Names.{precedences}
use Rattle.proof_facts.specs.Marks.{AreAfter, AreBefore, is_marked}
use Rattle.proof_facts.specs.Rows.{mark_of}
use Rattle.proof_facts.proofs.Rowing.{written_over, row_is}
use Rattle.proof_facts.proofs.exclusion_rows.ExclusionRows.row.Goals as goal

pub returns-clause-marks : goal.returns-clause-marks
returns-clause-marks c = λ soc limits are j.
    let long : length c.mark_row.new.marks ≡ length c.in_ok-marks.marks.items = search rules in
    let many : length c.in_ok-marks.marks.items ≡ length c.args.self.now.after.items = search rules in
    let after : AreAfter (precedences soc limits) c.deref.result.now = rw c.deref.ensures.value are.after in
    let before : AreBefore (precedences soc limits) c.deref-2.result.now = rw c.deref-2.ensures.value are.before in
    let marked : (j : ℕ) (own other : TestFacts) → j < length c.args.self.now.facts.items → slice_get c.args.self.now.facts.items c.args.test ≡ Some own → slice_get c.args.self.now.facts.items j ≡ Some other →
    is_marked c.mark_row.new.marks j ≡ mark_of c.args.self.now.power own other c.args.test j (is_marked c.in_ok-marks.marks.items j) (is_marked c.in_ok-ahead.ahead.items j) =
    rw (c.deref-3.ensures.value, c.deref-4.ensures.value, c.deref_mut.ensures.value) at c.mark_row.ensures.marks in
    ap (λ marks. is_marked marks j) (written_over c.in_ok-marks.marks.len c.mark_row.new.marks c.in_ok-marks.marks.items (search rules) long)
    ∙ row_is soc limits c.args.self.now.facts.items c.args.self.now.power c.args.test c.in_ok-marks.marks.items c.in_ok-ahead.ahead.items c.mark_row.new.marks are.facts are.power
    (omega (arith, c.requires.within, c.requires.are.after_long, are.after_long)) (long ∙ many ∙ are.after_long)
    (c.in_ok-marks.ensures.marks (precedences soc limits) after) (c.in_ok-ahead.ensures.marks (precedences soc limits) before) marked j
