use Rattle.std.proofs.Common.{◌≡◌, arith, ◌++◌, ◌∷◌, [], ◌∙◌, ap, sym, zero-add, map}
use Rattle.std.specs.List.{range_with_len}
use Rattle.std.proofs.lemmas.List.{append_assoc}
use Rattle.std.proofs.lemmas.List.FromFn.{map-range_with_len_more}
use Rattle.chart.specs.ChartText.{mark, bar}
use Rattle.chart.proofs.push_bar.Goals as goal

pub loop-i-preserved : goal.loop-i-preserved
loop-i-preserved c =
    let m = mark c.args.start c.args.end c.args.cycles in
    c.in_ok-push_mark.ensures
    ∙ ap (λ t. t ++ m c.loop-i.i ∷ []) c.loop-i.invariant
    ∙ append_assoc c.args.text.now.items _ _
    ∙ ap (λ t. c.args.text.now.items ++ t) (sym (map-range_with_len_more m 0 c.loop-i.i c.loop-i.i (zero-add c.loop-i.i)))

pub returns : goal.returns
unfolding bar
returns c =
    let all : c.loop-i.i ≡ 48 = omega (arith, c.loop-i.auto.i-end, c.loop-i-test.false) in
    c.loop-i.invariant ∙ ap (λ n. c.args.text.now.items ++ map (mark c.args.start c.args.end c.args.cycles) (range_with_len 0 n)) all
