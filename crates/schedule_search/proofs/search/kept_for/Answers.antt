use Rattle.std.proofs.Common.{◌≡◌, ℕ, length, subst, arith}
use Rattle.std.proofs.lemmas.List.{length-map}
use Rattle.resource_table.specs.Jobs.{job_value, test_value}
use Rattle.schedule_search.specs.Kept.{HasRoom}
use Rattle.schedule_search.proofs.search.kept_for.Goals as goal

pub returns-clause-kept : goal.returns-clause-kept
returns-clause-kept c =
    let tests = c.args.job.now.tests in
    let long : c.len.result ≡ length (job_value c.args.job.now).tests = omega (arith, c.len.ensures, tests.ok.0, length-map tests.items test_value) in
    record {
      sound = c.requires;
      empty = c.in_ok-table.ensures.empty;
      goes_by = c.in_ok-tries.ensures.tries;
      is_first = c.in_ok-first.ensures;
      has_room = subst (λ (n : ℕ). HasRoom n c.in_ok-room.room) long c.in_ok-room.ensures;
    }
