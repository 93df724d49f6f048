use Rattle.std.proofs.Common.{ℕ, List, ◌++◌}
use Rattle.std.proofs.lemmas.Result.{on_ok_weaker}
use Rattle.tester_forms.specs.Pieces.{where_some}
use Rattle.tester_forms.specs.StilText.{clock_waveform, control_waveform, waveforms, waveforms_end, wire_waveforms}
use Rattle.tester_forms.proofs.stil_head.push_waveforms.Goals as goal
use Rattle.common_lemmas.proofs.Lists.{joined_before}

pub returns : goal.returns
unfolding waveforms
returns c =
    let t0 = c.args.text.now.items in
    let t1 = c.extend.new.to.items in
    let t2 = c.push_where_some.new.text.items in
    let t3 = c.push_where_some-2.new.text.items in
    let t4 = c.extend-2.new.to.items in
    let p1 : List ℕ = clock_waveform in
    let p2 : List ℕ = where_some c.args.wires wire_waveforms in
    let p3 : List ℕ = where_some c.args.controls control_waveform in
    let p4 : List ℕ = waveforms_end in
    on_ok_weaker c.extend-2.result (λ pushed. joined_before t4 t1 t0 p1 (p2 ++ (p3 ++ p4)) (joined_before t4 t2 t1 p2 (p3 ++ p4) (joined_before t4 t3 t2 p3 p4 pushed c.in_ok-push_where_some-2.ensures) c.in_ok-push_where_some.ensures) c.in_ok-extend.ensures.ok) c.extend-2.ensures.ok
