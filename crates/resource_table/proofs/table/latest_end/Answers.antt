use Rattle.std.proofs.Common.{ℕ, ◌≤◌, inl, inr, None, get_or, take, arith}
use Rattle.std.specs.{Prelude.slice_index_or, Prelude.unwrap_or}
use Rattle.std.proofs.lemmas.List.Elements.{All-more, All-weaker, Contains-get_or}
use Rattle.common_lemmas.proofs.Lists.{all_whole}
use Rattle.resource_table.proofs.table.latest_end.Goals as goal

pub loop-test-preserved : goal.loop-test-preserved
loop-test-preserved c =
    let e = c.later_end-latest.ensures in
    let P : ℕ → Type 0 = λ test. unwrap_or (slice_index_or c.args.ends.now test None) 0 ≤ c.loop-test.latest in
    let Q : ℕ → Type 0 = λ test. unwrap_or (slice_index_or c.args.ends.now test None) 0 ≤ c.later_end-latest.result in
    record {
      latest = All-more Q c.args.tests.now c.loop-test.test-index 0 c.loop-test-test.true (All-weaker P Q (λ test h. omega (arith, h, e.from)) (take c.loop-test.test-index c.args.tests.now) c.loop-test.invariant.latest) e.end;
      is = elim e.is [
        | inl same ↦ rw same c.loop-test.invariant.is
        | inr new ↦ inr (get_or c.args.tests.now c.loop-test.test-index 0, Contains-get_or c.args.tests.now c.loop-test.test-index 0 c.loop-test-test.true, new)
      ];
    }

pub returns-clause-latest : goal.returns-clause-latest
returns-clause-latest c = all_whole (λ test. unwrap_or (slice_index_or c.args.ends.now test None) 0 ≤ c.loop-test.latest) c.args.tests.now c.loop-test.test-index c.loop-test-test.false c.loop-test.invariant.latest
