-- A prefix goes on by a test, and comes back.
use Rattle.std.proofs.Common.{◌≡◌, ℕ, ◌+◌, ◌<◌, ◌≤◌, Some, false, suc, List, [], ◌∷◌, ◌++◌, length, get_or, set, refl, sym, ◌∙◌, ap, subst, arith, length-append, slice_get, nat_eq, not, slice_index_or, All, filter, insert, remove}
use Rattle.std.proofs.lemmas.List.Edits.{length-remove, get_or-remove_above}
use Rattle.std.proofs.lemmas.Option.{slice_get-get_or, slice_get_within, get_or_from_slice_get}
use Rattle.resource_table.specs.Jobs.{JobValue}
use Rattle.resource_table.proofs.Placed.{each_push, each_front, each_last}
use Rattle.schedule_search.specs.declared.prefix.Prefix.{Prefix}
use Rattle.schedule_search.specs.Orders.{IsReady}
use Rattle.schedule_search.specs.Walks.{by_length, is_in, may_follow}
use Rattle.schedule_search.specs.Prefixes.{outside, followers, tests_after, all_free, AreMissing, AreLess, HasPrefixRoom, IsAt, IsOut}
use Rattle.schedule_search.proofs.Comparing.{first_within}
use Rattle.schedule_search.proofs.Following.{not_in, ready_from}
use Rattle.schedule_search.proofs.Missing.{missing_added, missing_taken}
use Rattle.schedule_search.proofs.Outside.{all_long, filter_few, insert_removed, remove_next, outside_less, outside_more, outside_none, outside_all}
use Rattle.schedule_search.proofs.Waiting.{followers_at, free_followers, push_free}

-- whatever its tests are called
pub at_own : (job : JobValue) (path : List ℕ) (p : Prefix) → IsAt job path p → IsAt job p.tests.items p
at_own job path p at = subst (λ (l : List ℕ). IsAt job l p) (sym at.tests_are) at

-- a free test may follow
pub free_at : (job : JobValue) (path : List ℕ) (p : Prefix) (place x d : ℕ) → IsAt job path p → place < length p.free.items → x ≡ get_or p.free.items place d → slice_get (followers job path) place ≡ Some x
free_at job path p place x d at within is = ap (λ (l : List ℕ). slice_get l place) (sym at.free_are) ∙ slice_get-get_or p.free.items place d within ∙ ap Some (sym is)

pub free_counted : (job : JobValue) (path : List ℕ) (p : Prefix) → IsAt job path p → p.free.items ≡ all_free job path p.missing.items
free_counted job path p at = at.free_are ∙ sym (free_followers job path p.missing.items at.missing_are)

-- ---- the empty prefix

pub all_known : (job : JobValue) (tests missing : List ℕ) → tests ≡ by_length job → AreMissing job [] missing → All (λ test. test < length missing) tests
all_known job tests missing is are = subst (All (λ test. test < length missing)) (sym is) (λ k d less. omega (arith, first_within job (length job.tests) k d less, are.long))

pub begun : (job : JobValue) (p : Prefix) → p.tests.items ≡ [] → p.rest.items ≡ by_length job → p.free.items ≡ filter (λ test. nat_eq (slice_index_or p.missing.items test 0) 0) (by_length job) → AreMissing job [] p.missing.items → HasPrefixRoom (length job.tests) p → IsAt job [] p
begun job p tests rest free missing room = record {
  tests_are = tests;
  ready = λ n x there. absurd cc;
  left = omega (arith, outside_all job);
  rest_are = rest ∙ sym (outside_none job);
  free_are = free ∙ free_followers job [] p.missing.items missing;
  missing_are = missing;
  has_room = room;
}

-- ---- a test is out

pub out_own : (job : JobValue) (path : List ℕ) (x : ℕ) (p : Prefix) → IsOut job path x p → IsOut job p.tests.items x p
out_own job path x p out = subst (λ (l : List ℕ). IsOut job l x p) (sym out.tests_are) out

-- the free tests without it
pub without_free : (job : JobValue) (path missing : List ℕ) (place x : ℕ) → AreMissing job path missing → slice_get (followers job path) place ≡ Some x → all_free job (path ++ x ∷ []) missing ≡ remove (followers job path) place
without_free job path missing place x are here =
    let same : all_free job path missing ≡ followers job path = free_followers job path missing are in
    push_free job path missing place x (ap (λ (l : List ℕ). slice_get l place) same ∙ here) ∙ ap (λ (l : List ℕ). remove l place) same

pub goes_out : (job : JobValue) (path : List ℕ) (p q : Prefix) (place left x : ℕ) → IsAt job path p → slice_get (followers job path) place ≡ Some x → slice_get (outside job path) left ≡ Some x
    → q.tests.items ≡ p.tests.items → q.rest.items ≡ remove p.rest.items left → q.free.items ≡ remove p.free.items place → q.missing.items ≡ p.missing.items → HasPrefixRoom (length job.tests) q → IsOut job path x q
goes_out job path p q place left x at here there tests rest free missing room =
    let may = followers_at job path place x here in
    record {
      tests_are = tests ∙ at.tests_are;
      ready = each_push (IsReady job) path x at.ready (ready_from job path x may.0 may.1);
      left = omega (arith, outside_less job path left x there, at.left);
      rest_are = rest ∙ ap (λ (l : List ℕ). remove l left) at.rest_are ∙ sym (outside_more job path left x there);
      free_are = free ∙ ap (λ (l : List ℕ). remove l place) at.free_are ∙ sym (without_free job path p.missing.items place x at.missing_are here) ∙ ap (all_free job (path ++ x ∷ [])) (sym missing);
      missing_are = subst (AreMissing job path) (sym missing) at.missing_are;
      has_room = room;
    }

-- and another one in its place
pub other_out : (job : JobValue) (path : List ℕ) (p q : Prefix) (place left now x y : ℕ) → IsOut job path x p → slice_get (outside job path) left ≡ Some x → slice_get (followers job path) place ≡ Some y → slice_get (outside job path) now ≡ Some y
    → q.tests.items ≡ p.tests.items → q.rest.items ≡ remove (outside job path) now → q.free.items ≡ remove (followers job path) place → q.missing.items ≡ p.missing.items → HasPrefixRoom (length job.tests) q → IsOut job path y q
other_out job path p q place left now x y out there here there' tests rest free missing room =
    let may = followers_at job path place y here in
    record {
      tests_are = tests ∙ out.tests_are;
      ready = each_push (IsReady job) path y (each_front (IsReady job) path (x ∷ []) out.ready) (ready_from job path y may.0 may.1);
      left = omega (arith, outside_less job path now y there', outside_less job path left x there, out.left);
      rest_are = rest ∙ sym (outside_more job path now y there');
      free_are = free ∙ sym (without_free job path p.missing.items place y out.missing_are here) ∙ ap (all_free job (path ++ y ∷ [])) (sym missing);
      missing_are = subst (AreMissing job path) (sym missing) out.missing_are;
      has_room = room;
    }

-- what stood behind an item that is out comes out for it
pub next_out : (xs now new : List ℕ) (place x y : ℕ) → slice_get xs place ≡ Some x → now ≡ remove xs place → place < length now → y ≡ get_or now place y → new ≡ set now place x → (slice_get xs (place + 1) ≡ Some y) × (new ≡ remove xs (place + 1))
next_out xs now new place x y at out more is put =
    let within : place < length xs = slice_get_within xs place x at in
    let next : place + 1 < length xs = omega (arith, more, ap length out, length-remove xs place within) in
    let item : y ≡ get_or xs (place + 1) y = is ∙ ap (λ (l : List ℕ). get_or l place y) out ∙ get_or-remove_above xs place y place (omega arith) within in
    let e : suc place ≡ place + 1 = omega arith in (
      slice_get-get_or xs (place + 1) y next ∙ ap Some (sym item),
      put ∙ ap (λ (l : List ℕ). set l place x) out ∙ ap (set (remove xs place) place) (sym (get_or_from_slice_get xs place x 0 at)) ∙ remove_next xs place 0 (omega (arith, next)) ∙ ap (remove xs) e,
    )

-- ---- a test more

pub out_new : (job : JobValue) (path : List ℕ) (x : ℕ) (p : Prefix) → IsOut job path x p → (x < length job.tests) × (is_in path x ≡ false)
out_new job path x p out = let last = each_last (IsReady job) path x out.ready in (last.in_job, not_in path x last.new)

pub gone_on : (job : JobValue) (path : List ℕ) (x : ℕ) (p q : Prefix) → IsOut job path x p
    → q.tests.items ≡ p.tests.items ++ x ∷ [] → q.rest.items ≡ p.rest.items → q.free.items ≡ all_free job (path ++ x ∷ []) q.missing.items → AreLess p.missing.items q.missing.items (tests_after x job.before) → HasPrefixRoom (length job.tests) q → IsAt job (path ++ x ∷ []) q
gone_on job path x p q out tests rest free less room =
    let missing : AreMissing job (path ++ x ∷ []) q.missing.items = missing_added job path p.missing.items q.missing.items x (tests_after x job.before) out.missing_are less refl (out_new job path x p out).1 in
    record {
      tests_are = tests ∙ ap (λ (l : List ℕ). l ++ x ∷ []) out.tests_are;
      ready = out.ready;
      left = omega (arith, out.left, length-append path (x ∷ []));
      rest_are = rest ∙ out.rest_are;
      free_are = free ∙ free_followers job (path ++ x ∷ []) q.missing.items missing;
      missing_are = missing;
      has_room = room;
    }

-- ---- a test less

pub gone_back : (job : JobValue) (path : List ℕ) (x : ℕ) (p q : Prefix) → IsAt job (path ++ x ∷ []) p
    → q.tests.items ≡ path → q.rest.items ≡ p.rest.items → q.free.items ≡ all_free job (path ++ x ∷ []) q.missing.items → AreLess q.missing.items p.missing.items (tests_after x job.before) → HasPrefixRoom (length job.tests) q → IsOut job path x q
gone_back job path x p q at tests rest free less room = record {
  tests_are = tests;
  ready = at.ready;
  left = omega (arith, at.left, length-append path (x ∷ []));
  rest_are = rest ∙ at.rest_are;
  free_are = free;
  missing_are = missing_taken job path p.missing.items q.missing.items x (tests_after x job.before) at.missing_are less refl (not_in path x (each_last (IsReady job) path x at.ready).new);
  has_room = room;
}

-- it comes back among the free ones
pub back_free : (job : JobValue) (path : List ℕ) (p : Prefix) (place x : ℕ) → IsOut job path x p → slice_get (followers job path) place ≡ Some x → (place ≤ length p.free.items) × (length p.free.items < length job.tests) × (p.free.items ≡ remove (followers job path) place) × (insert p.free.items place x ≡ followers job path)
back_free job path p place x out here =
    let removed : p.free.items ≡ remove (followers job path) place = out.free_are ∙ without_free job path p.missing.items place x out.missing_are here in
    let within : place < length (followers job path) = slice_get_within (followers job path) place x here in
    let long = length-remove (followers job path) place within in
    let few = filter_few (may_follow job path) (by_length job) in
    (omega (arith, ap length removed, long, within), omega (arith, ap length removed, long, few, all_long job), removed, ap (λ (l : List ℕ). insert l place x) removed ∙ insert_removed (followers job path) place x here)

-- and among those that are left
pub back_rest : (job : JobValue) (path : List ℕ) (p : Prefix) (left x : ℕ) → IsOut job path x p → slice_get (outside job path) left ≡ Some x → (left ≤ length p.rest.items) × (length p.rest.items < length job.tests) × (p.rest.items ≡ remove (outside job path) left) × (insert p.rest.items left x ≡ outside job path)
back_rest job path p left x out there =
    let removed : p.rest.items ≡ remove (outside job path) left = out.rest_are ∙ outside_more job path left x there in
    let within : left < length (outside job path) = slice_get_within (outside job path) left x there in
    let long = length-remove (outside job path) left within in
    let few = filter_few (λ test. not (is_in path test)) (by_length job) in
    (omega (arith, ap length removed, long, within), omega (arith, ap length removed, long, few, all_long job), removed, ap (λ (l : List ℕ). insert l left x) removed ∙ insert_removed (outside job path) left x there)

pub come_back : (job : JobValue) (path : List ℕ) (p q : Prefix) (place left x : ℕ) → IsOut job path x p → slice_get (followers job path) place ≡ Some x → slice_get (outside job path) left ≡ Some x
    → q.tests.items ≡ p.tests.items → q.rest.items ≡ insert p.rest.items left x → q.free.items ≡ insert p.free.items place x → q.missing.items ≡ p.missing.items → HasPrefixRoom (length job.tests) q → IsAt job path q
come_back job path p q place left x out here there tests rest free missing room = record {
  tests_are = tests ∙ out.tests_are;
  ready = each_front (IsReady job) path (x ∷ []) out.ready;
  left = omega (arith, outside_less job path left x there, out.left);
  rest_are = rest ∙ (back_rest job path p left x out there).3;
  free_are = free ∙ (back_free job path p place x out here).3;
  missing_are = subst (AreMissing job path) (sym missing) out.missing_are;
  has_room = room;
}
