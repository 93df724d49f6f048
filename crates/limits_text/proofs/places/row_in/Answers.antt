use Rattle.std.proofs.Common.{◌≡◌, ◌+◌, ◌∙◌, ◌<◌, None, false, List, length, map, replicate, ap, arith, rules, subst}
use Rattle.std.specs.List.{range_with_len}
use Rattle.std.proofs.lemmas.List.{take_all}
use Rattle.soc_model.specs.declared.Test.{Test}
use Rattle.limits_text.specs.Places.{entry_of}
use Rattle.limits_text.proofs.Noting.{none_noted, noted_next}
use Rattle.limits_text.proofs.places.row_in.Goals as goal

pub loop-test-init : goal.loop-test-init
loop-test-init c =
    let count = length c.args.«module».now.tests.items + 1 in
    let made : c.in_ok-by_number.by_number.items ≡ replicate count None = search rules in
    made ∙ none_noted c.args.live.now c.args.number count

pub loop-test-preserved : goal.loop-test-preserved
loop-test-preserved c =
    let tests = c.args.«module».now.tests.items in
    let d : Test = record { number = 0; scan = false; tam = false; patterns = 0; power = 0 } in
    let within : c.loop-test.test-index < length tests = subst (λ (l : List Test). c.loop-test.test-index < length l) c.deref-test-items.ensures.value c.loop-test-test.true in
    noted_next c.args.live.now c.args.number (length tests + 1) tests c.loop-test.test-index d c.loop-test.by_number.items c.note_number.new.by_number.items c.loop-test.invariant within (search rules)

pub returns : goal.returns
returns c =
    let tests = c.args.«module».now.tests.items in
    c.loop-test.invariant ∙ ap (λ l. map (entry_of c.args.live.now c.args.number l) (range_with_len 0 (length tests + 1))) (take_all c.loop-test.test-index tests (omega (arith, c.loop-test-test.false, ap length c.deref-test-items.ensures.value)))
