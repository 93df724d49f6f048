use Rattle.std.proofs.Common.{◌≡◌, ◌∙◌, ◌<◌, get_or, length, sym, arith, true≢false}
use Rattle.std.proofs.lemmas.Option.{get_or_from_slice_get}
use Rattle.soc_model.specs.Chips.{soc_value}
use Rattle.soc_model.proofs.Limits.{modules-le}
use Rattle.plan_model.specs.Certificates.{HasTamTest}
use Rattle.bound_certificate.proofs.ForcedEntries.{entry_kept, entry_taken, marked_breaks, few_breaks}
use Rattle.bound_certificate.proofs.forced_lists.take_entry.Goals as goal
use Rattle.bound_certificate.proofs.forced_lists.take_entry.Goals.{then-marks-at-via-then-marks-at, then-marks-at-via-else-marks-at+then-least-needed}

pub bounds-marks-at : goal.bounds-marks-at
bounds-marks-at c = omega (arith, c.in-Some.ensures.some.1, modules-le (soc_value c.args.soc.now) c.requires.sound.size, c.requires.room)

pub bounds-marks-at-in-Some : goal.bounds-marks-at-in-Some
bounds-marks-at-in-Some c = omega (arith, c.in-Some.ensures.some.1, modules-le (soc_value c.args.soc.now) c.requires.sound.size, c.requires.room)

pub returns-in-None-clause-breach : goal.returns-in-None-clause-breach
returns-in-None-clause-breach c = λ m at keeps.
    let number : get_or c.args.modules.now c.args.place 0 ≡ m = get_or_from_slice_get c.args.modules.now c.args.place m 0 at in
    let none = rw number at c.in-None.ensures.exact in
    true≢false (sym (none ∙ keeps.tam))

pub returns-then-marks-at-clause-breach : goal.returns-then-marks-at-clause-breach
returns-then-marks-at-clause-breach c = λ m at keeps.
    let number : get_or c.args.modules.now c.args.place 0 ≡ m = get_or_from_slice_get c.args.modules.now c.args.place m 0 at in
    let there = rw number at c.in-Some.ensures.some in
    elim c.then-marks-at.branch [
      | then-marks-at-via-then-marks-at w ↦
          marked_breaks (soc_value c.args.soc.now) c.args.limits.now.wires c.args.claimed c.args.modules.now c.args.place m c.in-Some.at c.args.marks.now c.args.least at c.requires.so_far there.0 w.if-marks-at.true keeps
      | then-marks-at-via-else-marks-at+then-least-needed w ↦
          few_breaks (soc_value c.args.soc.now) c.args.limits.now.wires c.args.claimed c.args.modules.now c.args.place m c.in-Some.at c.args.marks.now c.args.least c.need-needed.result c.requires.so_far there.0 c.need-needed.ensures.need w.if-least-needed.true keeps
    ]

pub returns-else-least-needed-clause-kept : goal.returns-else-least-needed-clause-kept
returns-else-least-needed-clause-kept c = λ m at.
    let number : get_or c.args.modules.now c.args.place 0 ≡ m = get_or_from_slice_get c.args.modules.now c.args.place m 0 at in
    let there = rw number at c.in-Some.ensures.some in
    let tam : HasTamTest (soc_value c.args.soc.now) m = sym (rw number at c.in-Some.ensures.exact) in
    let room : c.in-Some.at < length c.args.marks.now = omega (arith, there.1, modules-le (soc_value c.args.soc.now) c.requires.sound.size, c.requires.room) in (
      entry_kept (soc_value c.args.soc.now) c.args.limits.now.wires c.args.claimed c.args.modules.now c.args.place m c.in-Some.at c.args.marks.now c.args.least c.need-needed.result at c.requires.so_far there.0 tam c.if-marks-at.false c.need-needed.ensures.need (omega (arith, c.if-least-needed.false)),
      rw c.min.ensures (entry_taken (soc_value c.args.soc.now) c.args.limits.now.wires c.args.claimed c.args.modules.now c.args.place m c.in-Some.at c.args.marks.now c.args.least c.need-needed.result at c.requires.so_far there.0 room c.need-needed.ensures.need),
    )
