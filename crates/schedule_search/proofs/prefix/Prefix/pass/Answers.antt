use Rattle.std.proofs.Common.{◌≡◌, ◌+◌, ◌<◌, ℕ, List, length, ap, arith}
use Rattle.std.proofs.lemmas.List.Edits.{length-remove}
use Rattle.std.proofs.lemmas.Option.{slice_get_within}
use Rattle.resource_table.specs.Jobs.{job_value}
use Rattle.schedule_search.specs.Prefixes.{followers}
use Rattle.schedule_search.proofs.Stepping.{back_free}
use Rattle.schedule_search.proofs.prefix.Prefix.pass.Goals as goal

pub returns-then-place-len-clause-back : goal.returns-then-place-len-clause-back
returns-then-place-len-clause-back c = λ last.
    let job = job_value c.args.job.now in
    let path : List ℕ = c.args.self.now.tests.items in
    let free = back_free job path c.args.self.now c.args.place c.args.taken.test c.requires.out c.requires.taken_out.free_at in
    let within : c.args.place < length (followers job path) = slice_get_within (followers job path) c.args.place c.args.taken.test c.requires.taken_out.free_at in
    let long : length c.args.self.now.free.items + 1 ≡ length (followers job path) = omega (arith, ap length free.2, length-remove (followers job path) c.args.place within) in
    absurd (omega (arith, last, long, c.if-place-len.true, c.len.ensures, c.args.self.now.free.ok.0))

pub returns-clause-out : goal.returns-clause-out
returns-clause-out c = λ more.
    let job = job_value c.args.job.now in
    let path : List ℕ = c.args.self.now.tests.items in
    let free = back_free job path c.args.self.now c.args.place c.args.taken.test c.requires.out c.requires.taken_out.free_at in
    let within : c.args.place < length (followers job path) = slice_get_within (followers job path) c.args.place c.args.taken.test c.requires.taken_out.free_at in
    let long : length c.args.self.now.free.items + 1 ≡ length (followers job path) = omega (arith, ap length free.2, length-remove (followers job path) c.args.place within) in
    absurd (omega (arith, more, long, c.if-place-len.false, c.len.ensures, c.args.self.now.free.ok.0))

pub returns-clause-taken_out : goal.returns-clause-taken_out
returns-clause-taken_out c = λ more.
    let job = job_value c.args.job.now in
    let path : List ℕ = c.args.self.now.tests.items in
    let free = back_free job path c.args.self.now c.args.place c.args.taken.test c.requires.out c.requires.taken_out.free_at in
    let within : c.args.place < length (followers job path) = slice_get_within (followers job path) c.args.place c.args.taken.test c.requires.taken_out.free_at in
    let long : length c.args.self.now.free.items + 1 ≡ length (followers job path) = omega (arith, ap length free.2, length-remove (followers job path) c.args.place within) in
    absurd (omega (arith, more, long, c.if-place-len.false, c.len.ensures, c.args.self.now.free.ok.0))
