use Rattle.std.proofs.Common.{◌+◌, ◌≤◌, drop, sym, ◌∙◌, ap, arith}
use Rattle.outside.specs.Words.{words_left}
use Rattle.test_data.proofs.NextWords.{IsFront, next_word}
use Rattle.test_data.proofs.spots.next_spot.Goals as goal

pub returns : goal.returns
returns c =
    let bytes = c.args.bytes.now in
    let gap = c.gap_before_word-gap.result.0 in
    let here = c.gap_before_word-gap.result.1 in
    let text = c.split_at-2.result.1.now in
    let bits = c.bits_ahead-bits.result in
    let others = c.word_len-others.result in
    let left = c.split_at.ensures.back in
    let behind = c.split_at-3.ensures.back in
    let front : IsFront text bits others = record {
      bits_fit = c.bits_ahead-bits.ensures.within;
      bits_are = c.bits_ahead-bits.ensures.bits;
      next = c.bits_ahead-bits.ensures.next;
      others_fit = rw behind at c.word_len-others.ensures.within;
      others_in = rw behind at c.word_len-others.ensures.word;
      ends = rw behind at c.word_len-others.ensures.end;
    } in
    let some : 1 ≤ bits + others = omega arith in
    next_word bytes text c.args.place gap bits others c.args.line here (c.split_at-2.ensures.back ∙ ap (drop gap) left) (rw left at c.gap_before_word-gap.ensures.within) c.requires.within
    (ap (words_left c.args.line) (sym left) ∙ c.gap_before_word-gap.ensures.words ∙ ap (words_left here) (sym c.split_at-2.ensures.back)) (rw (← c.split_at-2.ensures.back) at c.gap_before_word-gap.ensures.small) front some
