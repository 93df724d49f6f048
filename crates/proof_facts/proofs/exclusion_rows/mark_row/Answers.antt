use Rattle.std.proofs.Common.{◌<◌, ◌+◌, length, get_or, refl, arith, rules}
use Rattle.std.proofs.lemmas.Option.{slice_get-get_or}
use Rattle.proof_facts.proofs.Rowing.{no_facts, mark_more}
use Rattle.proof_facts.proofs.exclusion_rows.mark_row.Goals as goal

pub loop-place-preserved : goal.loop-place-preserved
loop-place-preserved c =
    let within : c.loop-place.place < length c.args.facts.now = search rules in
    mark_more c.args.facts.now c.args.power c.args.test c.args.ahead.now c.args.marks.now c.loop-place.marks c.loop-place.place (c.loop-place.place + 1)
    (get_or c.args.facts.now c.args.test no_facts) (get_or c.args.facts.now c.loop-place.place no_facts) c.mark_of.result refl (omega (arith, within, c.loop-place.invariant.long, c.requires.marks))
    (slice_get-get_or c.args.facts.now c.args.test no_facts c.requires.test) (slice_get-get_or c.args.facts.now c.loop-place.place no_facts within) c.mark_of.ensures c.loop-place.invariant
