use Rattle.std.proofs.Common.{◌∙◌, ◌+◌, ◌<◌, ℕ, List, length, get_or, take, refl, sym, subst, arith}
use Rattle.schedule_search.specs.Prefixes.{AreLess}
use Rattle.schedule_search.proofs.Missing.{more_fits, more_more}
use Rattle.schedule_search.proofs.Waiting.{apart_one}
use Rattle.schedule_search.proofs.prefix.count_up.Goals as goal

pub wait_more-requires-clause-small : goal.wait_more-requires-clause-small
wait_more-requires-clause-small c =
    let i : ℕ = c.loop-test.test-index in
    let test : ℕ = get_or c.args.tests.now i 0 in
    let inside : test < length c.args.missing.now = c.requires.in_range i 0 c.loop-test-test.true in
    more_fits c.args.missing.now c.loop-test.missing c.args.tests.now i test c.loop-test.invariant.less c.loop-test-test.true refl (omega (arith, inside, c.loop-test.invariant.less.long)) (c.requires.small test inside)

pub loop-test-preserved : goal.loop-test-preserved
loop-test-preserved c =
    let i : ℕ = c.loop-test.test-index in
    let test : ℕ = get_or c.args.tests.now i 0 in
    let inv = c.loop-test.invariant in
    let within = c.loop-test-test.true in
    let inside : test < length c.loop-test.missing = omega (arith, c.requires.in_range i 0 within, inv.less.long) in
    record {
      less = subst (λ (l : List ℕ). AreLess l c.args.missing.now (take (i + 1) c.args.tests.now)) (sym c.wait_more.ensures.missing) (more_more c.args.missing.now c.loop-test.missing c.args.tests.now i test (get_or c.loop-test.missing test 0 + 1) inv.less within refl inside refl);
      free = λ prefix apart are. c.wait_more.ensures.free prefix (apart_one prefix c.args.tests.now i test apart within refl) (inv.free prefix apart are);
      room = c.wait_more.ensures.room ∙ inv.room;
    }

pub wait_more-requires-clause-free : goal.wait_more-requires-clause-free
wait_more-requires-clause-free c =
    let i : ℕ = c.loop-test.test-index in
    let test : ℕ = get_or c.args.tests.now i 0 in
    let given = c.requires.free in
    (given.0, apart_one given.0 c.args.tests.now i test given.1 c.loop-test-test.true refl, c.loop-test.invariant.free given.0 given.1 given.2)
