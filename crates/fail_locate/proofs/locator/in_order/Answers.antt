use Rattle.std.proofs.Common.{◌≡◌, rules}
use Rattle.std.proofs.lemmas.Fn.{always_returns_same}
use Rattle.fail_locate.proofs.SortedTests.{key_of, sorted_in_order}
use Rattle.fail_locate.proofs.locator.in_order.Goals as goal

pub returns-clause-order : goal.returns-clause-order
returns-clause-order c = sorted_in_order _ (c.sort_unstable_by_key.ensures.sorted key_of (always_returns_same _ (λ a r. r ≡ key_of a.0.now) _ (λ a r q k. search rules)))
