use Rattle.std.proofs.Common.{◌≡◌, ◌∙◌, ◌+◌, ℕ, List, get_or, set, ap, arith, refl, slice_get}
use Rattle.resource_table.specs.Jobs.{job_value}
use Rattle.resource_table.proofs.Befores.{set_at}
use Rattle.schedule_search.specs.Prefixes.{waits_for_none}
use Rattle.schedule_search.proofs.Outside.{passing_has}
use Rattle.schedule_search.proofs.Waiting.{but_set, waits_so, free_without, free_same}
use Rattle.schedule_search.proofs.prefix.wait_more.Goals as goal

pub take_out-requires-clause-there : goal.take_out-requires-clause-there
take_out-requires-clause-there c =
    let job = job_value c.args.job.now in
    let old : List ℕ = c.args.missing.now in
    let prefix : List ℕ = c.requires.free.0 in
    let new_is : get_or (set old c.args.test (get_or old c.args.test 0 + 1)) c.args.test 0 ≡ get_or old c.args.test 0 + 1 = set_at old c.args.test c.args.test (get_or old c.args.test 0 + 1) 0 (omega (arith, c.requires.long, c.requires.in_job)) refl in
    let none : get_or old c.args.test 0 ≡ 0 = omega (arith, new_is, c.if-missing-test-ne1.false) in
    let there = passing_has job (waits_for_none prefix old) c.args.test c.requires.in_job (waits_so prefix old c.args.test c.requires.free.1 none) in
    (there.0, ap (λ (l : List ℕ). slice_get l there.0) c.requires.free.2 ∙ there.1)

pub returns-then-missing-test-ne1-clause-free : goal.returns-then-missing-test-ne1-clause-free
returns-then-missing-test-ne1-clause-free c = λ prefix out are.
    let old : List ℕ = c.args.missing.now in
    let new : List ℕ = set old c.args.test (get_or old c.args.test 0 + 1) in
    let new_is : get_or new c.args.test 0 ≡ get_or old c.args.test 0 + 1 = set_at old c.args.test c.args.test (get_or old c.args.test 0 + 1) 0 (omega (arith, c.requires.long, c.requires.in_job)) refl in
    are ∙ free_same (job_value c.args.job.now) prefix old new c.args.test (but_set old c.args.test (get_or old c.args.test 0 + 1)) (λ none. c.if-missing-test-ne1.true (omega (arith, new_is, none))) (λ none. omega (arith, new_is, none))

pub returns-clause-free : goal.returns-clause-free
returns-clause-free c = λ prefix out are.
    let old : List ℕ = c.args.missing.now in
    let new : List ℕ = set old c.args.test (get_or old c.args.test 0 + 1) in
    let new_is : get_or new c.args.test 0 ≡ get_or old c.args.test 0 + 1 = set_at old c.args.test c.args.test (get_or old c.args.test 0 + 1) 0 (omega (arith, c.requires.long, c.requires.in_job)) refl in
    c.take_out.ensures.taken (waits_for_none prefix old) (waits_for_none prefix new) (free_without prefix old new c.args.test (but_set old c.args.test (get_or old c.args.test 0 + 1)) (λ none. omega (arith, new_is, none))) are
