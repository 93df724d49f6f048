use Rattle.std.proofs.Common.{◌≡◌, ◌≤◌, ◌<◌, ◌+◌, ◌++◌, ◌∙◌, List, ℕ, refl, sym, ap, arith, length, take, slice_index, sum, flat_map}
use Rattle.std.proofs.lemmas.List.{append-nil, take_all, length-append}
use Rattle.std.proofs.lemmas.List.Sums.{sum_by_more, sum_by_more_le}
use Rattle.plan_model.specs.Cells.{Cell, Out, in_cells, out_cells, flops}
use Rattle.plan_model.specs.Runs.{captured}
use Rattle.bit_machine.specs.Sessions.{response_bit}
use Rattle.bit_machine.proofs.Captures.{captured-ins, length-captured, out_answers}
use Rattle.vector_lines.proofs.Responses.{read_numbered}
use Rattle.bit_machine.proofs.Layouts.{length-ins, length-flops, length-outs}
use Rattle.bit_machine.proofs.Steps.{step_scan, step_part}
use Rattle.bit_machine.proofs.capturing.capture_chain.Goals as goal

pub loop-scan-init : goal.loop-scan-init
loop-scan-init c = (
  omega arith,
  λ i.
      sym (ap (λ (v : List Cell). captured (response_bit c.args.layout.now.lengths.items c.args.response.now) v c.args.bits.now) (append-nil (in_cells i c.args.chain.now.ins))
      ∙ captured-ins (response_bit c.args.layout.now.lengths.items c.args.response.now) i c.args.chain.now.ins c.args.bits.now),
)

pub put_bits-requires : goal.put_bits-requires
put_bits-requires c =
    let e = c.deref-scan-items.ensures.value in
    let within : c.loop-scan.scan-index < length c.args.chain.now.scans.items = rw e at c.loop-scan-test.true in
    let long = rw e at c.scan_answer-answer.ensures.long in
    let same : length c.loop-scan.bits ≡ length c.args.bits.now = ap length (c.loop-scan.invariant.1 0)
    ∙ length-captured (response_bit c.args.layout.now.lengths.items c.args.response.now)
    (in_cells 0 c.args.chain.now.ins ++ flat_map (flops c.args.layout.now.lengths.items) (take c.loop-scan.scan-index c.args.chain.now.scans.items)) c.args.bits.now in
    omega (arith, c.loop-scan.invariant.0, long, sum_by_more_le (slice_index c.args.layout.now.lengths.items) c.args.chain.now.scans.items c.loop-scan.scan-index 0 within, same, c.requires.long)

pub loop-scan-preserved : goal.loop-scan-preserved
loop-scan-preserved c =
    let e = c.deref-scan-items.ensures.value in
    let k : ℕ = c.loop-scan.scan-index in
    let within : c.loop-scan.scan-index < length c.args.chain.now.scans.items = rw e at c.loop-scan-test.true in
    let long = rw e at c.scan_answer-answer.ensures.long in
    let cut = rw e at c.scan_answer-answer.ensures.answer in
    let listed : slice_index c.args.chain.now.scans.items c.loop-scan.scan-index < length c.args.layout.now.lengths.items = c.requires.listed c.loop-scan.scan-index 0 within in
    let inside : sum (take (slice_index c.args.chain.now.scans.items c.loop-scan.scan-index) c.args.layout.now.lengths.items) + slice_index c.args.layout.now.lengths.items
    (slice_index c.args.chain.now.scans.items c.loop-scan.scan-index) ≤ sum c.args.layout.now.lengths.items =
    sum_by_more_le (λ x. x) c.args.layout.now.lengths.items (slice_index c.args.chain.now.scans.items c.loop-scan.scan-index) 0 listed in
    let more = sum_by_more (slice_index c.args.layout.now.lengths.items) c.args.chain.now.scans.items c.loop-scan.scan-index 0 within in
    let most = sum_by_more_le (slice_index c.args.layout.now.lengths.items) c.args.chain.now.scans.items c.loop-scan.scan-index 0 within in (
      omega (arith, c.loop-scan.invariant.0, long, more),
      λ i.
          step_scan c.args.bits.now (slice_index c.args.layout.now.lengths.items (slice_index c.args.chain.now.scans.items k)) c.put_bits.ensures c.args.layout.now.lengths.items c.args.response.now c.args.chain.now.scans.items i c.args.chain.now.ins k (sum (take (slice_index c.args.chain.now.scans.items k) c.args.layout.now.lengths.items)) within c.loop-scan.invariant.0 refl refl (omega (arith, inside, c.requires.flops, c.requires.answered)) (omega (arith, most, c.loop-scan.invariant.0, c.requires.long)) cut (c.loop-scan.invariant.1 i),
    )

pub returns : goal.returns
returns c = λ i o same.
    let e = c.deref-scan-items.ensures.value in
    let past : length c.args.chain.now.scans.items ≤ c.loop-scan.scan-index = rw e at c.loop-scan-test.false in
    let all : take c.loop-scan.scan-index c.args.chain.now.scans.items ≡ c.args.chain.now.scans.items = take_all c.loop-scan.scan-index c.args.chain.now.scans.items past in
    let at = rw all at c.loop-scan.invariant.0 in
    let now = rw all at c.loop-scan.invariant.1 i in
    let long : length (in_cells i c.args.chain.now.ins ++ flat_map (flops c.args.layout.now.lengths.items) c.args.chain.now.scans.items) ≡ c.loop-scan.at =
    length-append (in_cells i c.args.chain.now.ins) (flat_map (flops c.args.layout.now.lengths.items) c.args.chain.now.scans.items)
    ∙ omega (arith, at, length-ins i c.args.chain.now.ins, length-flops c.args.layout.now.lengths.items c.args.chain.now.scans.items) in
    step_part c.args.bits.now c.args.chain.now.outs c.put_bits-2.ensures (response_bit c.args.layout.now.lengths.items c.args.response.now)
    (in_cells i c.args.chain.now.ins ++ flat_map (flops c.args.layout.now.lengths.items) c.args.chain.now.scans.items) (out_cells o c.args.chain.now.outs) (read_numbered (λ n. Out n) (λ n. refl) o c.args.chain.now.outs) long
    (length-outs o c.args.chain.now.outs) (out_answers c.args.layout.now.lengths.items c.args.response.now o c.args.chain.now.outs same c.requires.answered ∙ sym c.part.ensures.part) (omega (arith, at, c.requires.long)) now

pub put_bits-requires-2 : goal.put_bits-requires-2
put_bits-requires-2 c =
    let e = c.deref-scan-items.ensures.value in
    let past : length c.args.chain.now.scans.items ≤ c.loop-scan.scan-index = rw e at c.loop-scan-test.false in
    let all : take c.loop-scan.scan-index c.args.chain.now.scans.items ≡ c.args.chain.now.scans.items = take_all c.loop-scan.scan-index c.args.chain.now.scans.items past in
    let at = rw all at c.loop-scan.invariant.0 in
    let same : length c.loop-scan.bits ≡ length c.args.bits.now = ap length (c.loop-scan.invariant.1 0)
    ∙ length-captured (response_bit c.args.layout.now.lengths.items c.args.response.now)
    (in_cells 0 c.args.chain.now.ins ++ flat_map (flops c.args.layout.now.lengths.items) (take c.loop-scan.scan-index c.args.chain.now.scans.items)) c.args.bits.now in
    omega (arith, at, same, c.part.ensures.long, c.requires.long)

pub overflow_add-at : goal.overflow_add-at
overflow_add-at c =
    let e = c.deref-scan-items.ensures.value in
    let within : c.loop-scan.scan-index < length c.args.chain.now.scans.items = rw e at c.loop-scan-test.true in
    let long = rw e at c.scan_answer-answer.ensures.long in
    omega (arith, c.loop-scan.invariant.0, long, sum_by_more_le (slice_index c.args.layout.now.lengths.items) c.args.chain.now.scans.items c.loop-scan.scan-index 0 within, c.requires.long, c.len-cells.ensures, c.len-cells.type_inv)
