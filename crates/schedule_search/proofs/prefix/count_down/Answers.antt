use Rattle.std.proofs.Common.{◌≡◌, ◌∙◌, ◌+◌, ◌-◌, ◌<◌, ◌≤◌, ℕ, List, length, get_or, take, refl, sym, subst, arith}
use Rattle.schedule_search.specs.Prefixes.{AreLess}
use Rattle.schedule_search.proofs.Missing.{some_left, less_more}
use Rattle.schedule_search.proofs.Waiting.{apart_one}
use Rattle.schedule_search.proofs.prefix.count_down.Goals as goal

pub wait_less-requires-clause-some : goal.wait_less-requires-clause-some
wait_less-requires-clause-some c =
    let i : ℕ = c.loop-test.test-index in
    let test : ℕ = get_or c.args.tests.now i 0 in
    let inside : test < length c.args.missing.now = c.requires.in_range i 0 c.loop-test-test.true in
    some_left c.args.missing.now c.loop-test.missing c.args.tests.now i test c.loop-test.invariant.less c.loop-test-test.true refl inside (c.requires.enough test inside)

pub loop-test-preserved : goal.loop-test-preserved
loop-test-preserved c =
    let i : ℕ = c.loop-test.test-index in
    let test : ℕ = get_or c.args.tests.now i 0 in
    let inv = c.loop-test.invariant in
    let within = c.loop-test-test.true in
    let inside : test < length c.args.missing.now = c.requires.in_range i 0 within in
    let some : 1 ≤ get_or c.loop-test.missing test 0 = some_left c.args.missing.now c.loop-test.missing c.args.tests.now i test inv.less within refl inside (c.requires.enough test inside) in
    let one : get_or c.loop-test.missing test 0 - 1 + 1 ≡ get_or c.loop-test.missing test 0 = omega (arith, some) in
    record {
      less = subst (λ (l : List ℕ). AreLess c.args.missing.now l (take (i + 1) c.args.tests.now)) (sym c.wait_less.ensures.missing) (less_more c.args.missing.now c.loop-test.missing c.args.tests.now i test (get_or c.loop-test.missing test 0 - 1) inv.less within refl inside one);
      free = λ prefix apart are. c.wait_less.ensures.free prefix (apart_one prefix c.args.tests.now i test apart within refl) (inv.free prefix apart are);
      room = c.wait_less.ensures.room ∙ inv.room;
    }

pub wait_less-requires-clause-free : goal.wait_less-requires-clause-free
wait_less-requires-clause-free c =
    let i : ℕ = c.loop-test.test-index in
    let test : ℕ = get_or c.args.tests.now i 0 in
    let given = c.requires.free in
    (given.0, apart_one given.0 c.args.tests.now i test given.1 c.loop-test-test.true refl, c.loop-test.invariant.free given.0 given.1 given.2)
