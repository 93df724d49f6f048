use Rattle.std.proofs.Common.{◌≡◌, sym, ◌∙◌, arith}
use Rattle.std.proofs.lemmas.Bool.{leb-true, leb-false}
use Rattle.plan_checker.proofs.NamesApart.{one_placed}
use Rattle.plan_checker.proofs.order.in_order.Goals as goal

pub returns-in-None-clause-kept : goal.returns-in-None-clause-kept
returns-in-None-clause-kept c = λ _ i j a b at there first second. absurd (c.in-None.ensures.none i a at first)

pub returns-in-None-test_named-clause-kept : goal.returns-in-None-test_named-clause-kept
returns-in-None-test_named-clause-kept c = λ _ i j a b at there first second. absurd (c.in-None-test_named.ensures.none j b there second)

pub returns-in-Some-test_named-clause-kept : goal.returns-in-Some-test_named-clause-kept
returns-in-Some-test_named-clause-kept c = λ yes' i j a b at there first second.
    let f = c.in-Some.ensures.found in
    let s = c.in-Some-test_named.ensures.found in
    let one : a ≡ c.in-Some.before = one_placed c.args.placed.now i f.0 a c.in-Some.before c.requires.apart at f.1 (first ∙ sym f.2) in
    let two : b ≡ c.in-Some-test_named.after = one_placed c.args.placed.now j s.0 b c.in-Some-test_named.after c.requires.apart there s.1 (second ∙ sym s.2) in
    rw (one, two) (leb-true c.in-Some.before.end c.in-Some-test_named.after.start yes')

pub returns-in-Some-test_named-clause-broken : goal.returns-in-Some-test_named-clause-broken
returns-in-Some-test_named-clause-broken c = λ no' kept.
    let f = c.in-Some.ensures.found in
    let s = c.in-Some-test_named.ensures.found in
    let less = leb-false c.in-Some.before.end c.in-Some-test_named.after.start no' in
    omega (arith, less, kept f.0 s.0 c.in-Some.before c.in-Some-test_named.after f.1 s.1 f.2 s.2)
