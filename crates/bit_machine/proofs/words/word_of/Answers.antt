use Rattle.std.proofs.Common.{◌≡◌, ◌+◌, ◌<◌, ◌∙◌, ap, subst, length, drop, arith}
use Rattle.std.proofs.lemmas.List.{drop_more}
use Rattle.vector_lines.specs.Made.{has_odd_square}
use Rattle.vector_lines.specs.Numbers.{all_numbers, line_value, IsWalk}
use Rattle.vector_lines.proofs.Walks.{has_next}
use Rattle.bit_machine.proofs.WordBits.{value_small, word_more}
use Rattle.bit_machine.proofs.words.word_of.Goals as goal

pub next_value-value-requires-clause-next : goal.next_value-value-requires-clause-next
next_value-value-requires-clause-next c =
    has_next (c.args.first + c.loop-place.place) (omega (arith, c.loop-place-test.true, c.requires.within)) c.loop-place.invariant.walk

pub bit_of-requires : goal.bit_of-requires
bit_of-requires c = value_small c.args.line.now c.next_value-value.ensures.some

pub loop-place-preserved : goal.loop-place-preserved
loop-place-preserved c =
    let here : c.args.first + c.loop-place.place < length (all_numbers c.args.runs.now) = omega (arith, c.loop-place-test.true, c.requires.within) in
    let walk = subst (IsWalk c.args.runs.now (line_value c.args.line.now) c.loop-place.walk) (drop_more (all_numbers c.args.runs.now) (c.args.first + c.loop-place.place) 0 here) c.loop-place.invariant.walk in
    let on : c.args.first + c.loop-place.place + 1 ≡ c.args.first + (c.loop-place.place + 1) = omega arith in
    record {
      walk = subst (λ n. IsWalk c.args.runs.now (line_value c.args.line.now) c.next_value-value.new.walk (drop n (all_numbers c.args.runs.now))) on (c.next_value-value.ensures.walk _ _ walk);
      word = word_more c.with_bit-word.result (omega (arith, c.loop-place-test.true, c.requires.few)) (c.bit_of.ensures
          ∙ ap has_odd_square (c.next_value-value.ensures.value _ _ walk)) c.with_bit-word.ensures.here c.with_bit-word.ensures.others c.loop-place.invariant.word;
    }
