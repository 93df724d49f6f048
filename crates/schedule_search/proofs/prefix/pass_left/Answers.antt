use Rattle.std.proofs.Common.{◌≡◌, ◌∙◌, ◌<◌, ℕ, Some, List, length, get_or, set, sym, ap, subst, arith, not, slice_get, insert, remove}
use Rattle.std.specs.Vec.{with_items}
use Rattle.std.proofs.lemmas.List.{length-set, with_items_is}
use Rattle.std.proofs.lemmas.List.Edits.{length-remove}
use Rattle.std.proofs.lemmas.Option.{slice_get_within}
use Rattle.resource_table.specs.Jobs.{job_value}
use Rattle.schedule_search.specs.Walks.{is_in}
use Rattle.schedule_search.specs.Prefixes.{outside, IsPlaceOf}
use Rattle.schedule_search.proofs.Outside.{insert_removed, outside_at, passing_order}
use Rattle.schedule_search.proofs.Sorting.{place_there}
use Rattle.schedule_search.proofs.Stepping.{next_out}
use Rattle.common_lemmas.proofs.Lists.{any_default}
use Rattle.schedule_search.proofs.prefix.pass_left.Goals as goal

pub put_for-requires : goal.put_for-requires
put_for-requires c =
    let there = c.stands_at.ensures c.if-stands_at.true in
    omega (arith, there.0, ap length c.deref.ensures.value, ap length c.deref_mut.ensures.value)

pub returns-then-stands_at-clause-out : goal.returns-then-stands_at-clause-out
returns-then-stands_at-clause-out c = λ path out at other.
    let all : List ℕ = outside (job_value c.args.job.now) path in
    let now : List ℕ = c.args.rest.now.items in
    let left : ℕ = c.args.left in
    let there = c.stands_at.ensures c.if-stands_at.true in
    let more : left < length now = omega (arith, there.0, ap length c.deref.ensures.value) in
    let is : c.args.next ≡ get_or now left c.args.next = sym (ap (λ (l : List ℕ). get_or l left 0) (sym c.deref.ensures.value) ∙ there.1) ∙ any_default now left 0 c.args.next more in
    let new : List ℕ = c.put_for.new.items in
    let put : new ≡ set now left c.args.test = c.put_for.ensures.items ∙ ap (λ (l : List ℕ). set l left c.args.test) c.deref_mut.ensures.value in
    let long : length new ≡ c.args.rest.now.len = ap length put ∙ length-set now left c.args.test ∙ sym c.args.rest.now.ok.0 in
    let written : (with_items c.args.rest.now new).items ≡ new = with_items_is c.args.rest.now new long in
    let next = next_out all now new left c.args.test c.args.next at out more is put in
    (written ∙ next.1, next.0)

pub put_at-requires-clause-place : goal.put_at-requires-clause-place
put_at-requires-clause-place c =
    let all : List ℕ = outside (job_value c.args.job.now) c.requires.out.0 in
    let within : c.args.left < length all = slice_get_within all c.args.left c.args.test c.requires.out.2 in
    omega (arith, within, ap length c.requires.out.1, length-remove all c.args.left within)

pub place_of-place-requires-clause-sorted : goal.place_of-place-requires-clause-sorted
place_of-place-requires-clause-sorted c =
    let job = job_value c.args.job.now in
    let path : List ℕ = c.requires.out.0 in
    record {
      passes = λ test. not (is_in path test);
      are = c.deref-2.ensures.value ∙ c.put_at.ensures.items ∙ ap (λ (l : List ℕ). insert l c.args.left c.args.test) c.requires.out.1 ∙ insert_removed (outside job path) c.args.left c.args.test c.requires.out.2;
    }

pub place_of-place-requires-clause-in_job : goal.place_of-place-requires-clause-in_job
place_of-place-requires-clause-in_job c = (outside_at (job_value c.args.job.now) c.requires.out.0 c.requires.out.3 c.args.next c.requires.out.4).0

pub take_at-requires : goal.take_at-requires
take_at-requires c =
    let job = job_value c.args.job.now in
    let all : List ℕ = outside job c.requires.out.0 in
    let is : c.put_at.new.to.items ≡ all = c.put_at.ensures.items ∙ ap (λ (l : List ℕ). insert l c.args.left c.args.test) c.requires.out.1 ∙ insert_removed all c.args.left c.args.test c.requires.out.2 in
    let found = subst (λ (l : List ℕ). IsPlaceOf job l c.args.next c.place_of-place.result) (c.deref-2.ensures.value ∙ is) c.place_of-place.ensures in
    let same = place_there job all c.args.next c.place_of-place.result c.requires.out.3 (passing_order job (λ test. not (is_in c.requires.out.0 test))) found c.requires.out.4 in
    omega (arith, same, slice_get_within all c.requires.out.3 c.args.next c.requires.out.4, ap length is)

pub returns-clause-out : goal.returns-clause-out
returns-clause-out c = λ path out at other.
    let job = job_value c.args.job.now in
    let all : List ℕ = outside job path in
    let is : c.put_at.new.to.items ≡ all = c.put_at.ensures.items ∙ ap (λ (l : List ℕ). insert l c.args.left c.args.test) out ∙ insert_removed all c.args.left c.args.test at in
    let found = subst (λ (l : List ℕ). IsPlaceOf job l c.args.next c.place_of-place.result) (c.deref-2.ensures.value ∙ is) c.place_of-place.ensures in
    let same = place_there job all c.args.next c.place_of-place.result other.0 (passing_order job (λ test. not (is_in path test))) found other.1 in
    (c.take_at.ensures.items ∙ ap (λ (l : List ℕ). remove l c.place_of-place.result) is, subst (λ (n : ℕ). slice_get all n ≡ Some c.args.next) same other.1)
