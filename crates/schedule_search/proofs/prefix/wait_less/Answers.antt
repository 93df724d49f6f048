use Rattle.std.proofs.Common.{◌∙◌, ◌-◌, ℕ, List, length, get_or, set, sym, ap, arith}
use Rattle.resource_table.specs.Jobs.{job_value}
use Rattle.schedule_search.specs.Walks.{by_length}
use Rattle.schedule_search.specs.Prefixes.{waits_for_none}
use Rattle.schedule_search.proofs.Comparing.{first_has}
use Rattle.schedule_search.proofs.Outside.{all_long, filter_fewer}
use Rattle.schedule_search.proofs.Waiting.{set_but, waits_not, waits_so, free_without, free_same}
use Rattle.schedule_search.proofs.prefix.wait_less.Goals as goal

pub put_in-requires-clause-room : goal.put_in-requires-clause-room
put_in-requires-clause-room c =
    let job = job_value c.args.job.now in
    let prefix : List ℕ = c.requires.free.0 in
    let there = first_has job (length job.tests) c.args.test c.requires.in_job in
    let fewer = filter_fewer (waits_for_none prefix c.args.missing.now) (by_length job) there.0 c.args.test there.1 (waits_not prefix c.args.missing.now c.args.test (λ none. omega (arith, none, c.requires.some))) in
    omega (arith, fewer, all_long job, ap length c.requires.free.2, c.requires.room)

pub returns-then-missing-test-ne0-clause-free : goal.returns-then-missing-test-ne0-clause-free
returns-then-missing-test-ne0-clause-free c = λ prefix out are.
    let old : List ℕ = c.args.missing.now in
    let new : List ℕ = set old c.args.test (get_or old c.args.test 0 - 1) in
    are ∙ sym (free_same (job_value c.args.job.now) prefix new old c.args.test (set_but old c.args.test (get_or old c.args.test 0 - 1)) c.if-missing-test-ne0.true (λ none. omega (arith, none, c.requires.some)))

pub returns-clause-free : goal.returns-clause-free
returns-clause-free c = λ prefix out are.
    let old : List ℕ = c.args.missing.now in
    let new : List ℕ = set old c.args.test (get_or old c.args.test 0 - 1) in
    c.put_in.ensures.put (waits_for_none prefix new) (waits_for_none prefix old) (free_without prefix new old c.args.test (set_but old c.args.test (get_or old c.args.test 0 - 1)) (λ none. omega (arith, none, c.requires.some))) (waits_so prefix new c.args.test out c.if-missing-test-ne0.false) are
