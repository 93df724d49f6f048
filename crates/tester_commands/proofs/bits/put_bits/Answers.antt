use Rattle.std.proofs.Common.{◌≡◌, ◌+◌, ◌++◌, ◌∙◌, ap, sym, refl, map, take, arith}
use Rattle.std.specs.List.{range_with_len}
use Rattle.std.proofs.lemmas.List.{length-set}
use Rattle.vector_lines.specs.Made.{has_odd_square}
use Rattle.vector_lines.specs.Numbers.{line_value}
use Rattle.tester_commands.specs.DataText.{bit_byte}
use Rattle.tester_commands.specs.ContentEntries.{data_bit}
use Rattle.tester_commands.specs.DataParts.{made_byte}
use Rattle.tester_commands.proofs.MadeLines.{byte_more, value_next}
use Rattle.tester_commands.proofs.bits.put_bits.Goals as goal

pub loop-done-preserved : goal.loop-done-preserved
loop-done-preserved c = record {
  long = length-set c.loop-done.bytes (c.args.from + c.loop-done.done) c.byte_of.result ∙ c.loop-done.invariant.long;
  small = omega (arith, c.after-value.ensures);
  put = λ n at.
      byte_more (made_byte c.args.line) c.args.bytes.now c.loop-done.bytes _ c.args.from n c.loop-done.done c.byte_of.result (omega (arith, c.loop-done.invariant.long, c.requires.within)) refl
      (c.byte_of.ensures ∙ ap (λ v. bit_byte (data_bit (has_odd_square v))) (c.loop-done.invariant.next n at)) (c.loop-done.invariant.put n at);
  next = λ n at. let place : n + (c.loop-done.done + 1) ≡ n + c.loop-done.done + 1 = omega arith in value_next c.args.line (n + c.loop-done.done) c.loop-done.value c.after-value.result (c.loop-done.invariant.next n at) c.after-value.ensures ∙ ap (line_value c.args.line) (sym place);
}

pub returns-clause-put : goal.returns-clause-put
returns-clause-put c = λ n at.
    let all : c.loop-done.done ≡ c.args.count = omega arith in
    ap (λ k. take (c.args.from + k) c.loop-done.bytes) (sym all) ∙ c.loop-done.invariant.put n at ∙ ap (λ k. take c.args.from c.args.bytes.now ++ map (made_byte c.args.line) (range_with_len n k)) all
