use Rattle.std.proofs.Common.{◌≡◌, ◌∙◌, ◌++◌, ◌∷◌, [], ℕ, List, get_or, sym, ap, subst, slice_get}
use Rattle.std.proofs.lemmas.Option.{get_or_from_slice_get}
use Rattle.resource_table.specs.Jobs.{job_value}
use Rattle.schedule_search.specs.Prefixes.{IsAt}
use Rattle.schedule_search.proofs.Stepping.{out_own}
use Rattle.schedule_search.proofs.prefix.Prefix.take_first.Goals as goal

pub append-requires-clause-out : goal.append-requires-clause-out
append-requires-clause-out c = out_own (job_value c.args.job.now) c.args.self.now.tests.items c.take_out-taken.result.test c.take_out-taken.new.self c.take_out-taken.ensures.out

pub returns : goal.returns
returns c =
    let job = job_value c.args.job.now in
    let path : List ℕ = c.args.self.now.tests.items in
    let first : get_or c.args.self.now.free.items 0 0 ≡ c.take_out-taken.result.test = get_or_from_slice_get c.args.self.now.free.items 0 c.take_out-taken.result.test 0 (ap (λ (l : List ℕ). slice_get l 0) c.requires.at.free_are ∙ c.take_out-taken.ensures.taken_out.free_at) in
    subst (λ (n : ℕ). IsAt job (path ++ n ∷ []) c.append.new.self) (sym first) (subst (λ (l : List ℕ). IsAt job (l ++ c.take_out-taken.result.test ∷ []) c.append.new.self) c.take_out-taken.ensures.out.tests_are c.append.ensures)
