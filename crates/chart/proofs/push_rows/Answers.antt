use Rattle.std.proofs.Common.{◌≡◌, ◌∙◌, ◌+◌, ◌<◌, ◌++◌, ℕ, List, length, get_or, take, find, ap, sym, subst}
use Rattle.std.proofs.lemmas.List.{take_more, flat_map_more}
use Rattle.std.specs.Prelude.{Option}
use Rattle.std.specs.List.{flat_map}
use Rattle.soc_model.specs.declared.TestId.{TestId}
use Rattle.live_tests.specs.declared.placed.PlacedTest.{PlacedTest}
use Rattle.live_tests.specs.Placed.{is_called, placed_tests}
use Rattle.live_tests.specs.PlacedPlans.{PlacedPlanValue}
use Rattle.chart.specs.ChartText.{row_if, start_row}
use Rattle.chart.proofs.push_rows.Goals as goal

-- the line of one more start
row_more : (row : TestId × ℕ → List ℕ) (starts : List (TestId × ℕ)) (i : ℕ) (none : TestId × ℕ) (old before after : List ℕ) → i < length starts → before ≡ old ++ flat_map row (take i starts) → after ≡ before ++ row (get_or starts i none) → after ≡ old ++ flat_map row (take (i + 1) starts)
row_more row starts i none old before after within so_far more =
    more ∙ ap (λ (l : List ℕ). l ++ row (get_or starts i none)) so_far ∙ flat_map_more row old (take i starts) (get_or starts i none)
    ∙ ap (λ (l : List (TestId × ℕ)). old ++ flat_map row l) (sym (take_more starts i none within))

pub loop-id-preserved : goal.loop-id-preserved
loop-id-preserved c =
    let starts : List (TestId × ℕ) = c.args.placed.now.plan.starts in
    let tests : List PlacedTest = placed_tests c.args.placed.now.soc c.args.placed.now.plan in
    let i : ℕ = c.loop-id.id-index in
    let none : TestId × ℕ = (record { «module» = 0; test = 0 }, 0) in
    let items : c.deref-id-items.result.now ≡ starts = c.deref-id-items.ensures.value ∙ ap (λ (p : PlacedPlanValue). p.plan.starts) c.placed.view_is in
    let cycles : c.placed.inside.plan.now.cycles ≡ c.args.placed.now.plan.cycles = ap (λ (p : PlacedPlanValue). p.plan.cycles) c.placed.view_is in
    let found : c.find.result ≡ find (is_called (get_or starts i none).0) tests = c.find.ensures ∙ ap (λ (l : List (TestId × ℕ)). find (is_called (get_or l i none).0) tests) items in
    row_more (start_row c.args.placed.now.plan.cycles tests) starts i none c.args.text.now.items c.loop-id.text.items c.push_found.new.text.items
    (subst (λ (l : List (TestId × ℕ)). i < length l) items c.loop-id-test.true) c.loop-id.invariant
    (c.in_ok-push_found.ensures ∙ ap (λ (n : ℕ). c.loop-id.text.items ++ row_if n c.find.result) cycles
    ∙ ap (λ (o : Option PlacedTest). c.loop-id.text.items ++ row_if c.args.placed.now.plan.cycles o) found)
