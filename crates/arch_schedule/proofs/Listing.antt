-- The tests that are listed for a search, module by module.
use Rattle.std.proofs.Common.{◌≡◌, cond, ℕ, suc, ◌+◌, ◌<◌, ◌≤◌, Option, None, Some, List, [], ◌∷◌, ◌++◌, length, get_or, take, drop, map, arith, sym, ap, ◌∙◌, subst, length-append, drop-cons, IfSome, slice_get, if◌then◌else◌, All, Contains, filter}
use Rattle.std.proofs.Math.ListN.{drop_of_length-le}
use Rattle.std.proofs.lemmas.List.{length-map, length_push}
use Rattle.std.proofs.lemmas.List.Filters.{length-filter_more}
use Rattle.std.proofs.lemmas.Option.{slice_get_within, slice_get-get_or, get_or_from_slice_get}
use Rattle.std.proofs.lemmas.List.Elements.{All-contains, All-push}
use Rattle.plan_model.proofs.Lists.{at_contains}
use Rattle.soc_model.specs.declared.Test.{Test}
use Rattle.soc_model.specs.Chips.{ModuleValue, LiveTest, live_of, live_from, is_live}
use Rattle.live_tests.specs.declared.neighbours.Neighbours.{Neighbours}
use Rattle.resource_table.specs.Befores.{listed, tests_before, AreListed}
use Rattle.resource_table.specs.Jobs.{JobValue, Precedes, IsSoundJob}
use Rattle.resource_table.proofs.Befores.{before_from, before_has}
use Rattle.arch_schedule.specs.declared.problem.TestTimes.{TestTimes}
use Rattle.arch_schedule.specs.Problems.{IsTimed}

pub in_more : (m : Option ℕ) (modules more : ℕ) → modules ≤ more → IfSome m (λ m. m < modules) → IfSome m (λ m. m < more)
in_more None modules more grows within = tt
in_more (Some m) modules more grows within = omega (arith, grows, within)

-- a test is one of more modules, too
pub timed_more : (wires modules more : ℕ) (tests : List TestTimes) → modules ≤ more → All (IsTimed wires modules) tests → All (IsTimed wires more) tests
timed_more wires modules more tests grows all i d within =
    let one : IsTimed wires modules (get_or tests i d) = all i d within in
    record { long = one.long; within = in_more (get_or tests i d).«module» modules more grows one.within }

-- with the tests of one module more, fewer are left
pub fewer_left : (ms : List ModuleValue) (place : ℕ) (m : ModuleValue) → slice_get ms place ≡ Some m → length (live_from place (drop place ms)) ≡ length (filter is_live m.tests) + length (live_from (place + 1) (drop (place + 1) ms))
unfolding live_from
fewer_left ms place m at =
    let within : place < length ms = slice_get_within ms place m at in
    let here : get_or ms place m ≡ m = get_or_from_slice_get ms place m m at in
    let e : drop place ms ≡ m ∷ drop (suc place) ms = drop-cons ms place m within ∙ ap (λ (x : ModuleValue). x ∷ drop (suc place) ms) here in
    let next : suc place ≡ place + 1 = omega arith in
    ap (λ (l : List ModuleValue). length (live_from place l)) e
    ∙ length-append (live_of place m) (live_from (place + 1) (drop (suc place) ms))
    ∙ ap (λ (n : ℕ). n + length (live_from (place + 1) (drop (suc place) ms))) (length-map (filter is_live m.tests) (the_test place m))
    ∙ ap (λ (n : ℕ). length (filter is_live m.tests) + length (live_from (place + 1) (drop n ms))) next
  where
    the_test : ℕ → ModuleValue → Test → LiveTest
    the_test base m t = record { place = base; core = m; test = t }

-- behind the last module none is left
pub none_left : (ms : List ModuleValue) (place : ℕ) → length ms ≤ place → length (live_from place (drop place ms)) ≡ 0
unfolding live_from
none_left ms place past = ap (λ (l : List ModuleValue). length (live_from place l)) (drop_of_length-le ms past)

-- ---- what precedes a test

from_contains : (P : ℕ → Type 0) (xs : List ℕ) → ((x : ℕ) → Contains xs x → P x) → All P xs
from_contains P xs each i d within = each (get_or xs i d) (at_contains xs i (get_or xs i d) (slice_get-get_or xs i d within))

-- those before a test are tests of the job
pub before_inside : (job : JobValue) (lists : List Neighbours) (tests : List ℕ) (test : ℕ) → IsSoundJob job → AreListed job (map listed lists) → test < length job.tests → tests ≡ get_or (map listed lists) test [] → All (λ t. t < length job.tests) tests
before_inside job lists tests test sound before within is =
    let e : tests ≡ tests_before test job.before = is ∙ before.are test within in
    subst (λ (l : List ℕ). All (λ t. t < length job.tests) l) (sym e)
    (from_contains (λ t. t < length job.tests) (tests_before test job.before) (λ t there. (All-contains (λ (p : ℕ × ℕ). (p.0 < length job.tests) × (p.1 < length job.tests)) job.before (t, test) sound.in_range (before_from job.before t test there)).0))

-- where all those are placed, so is each that precedes it
pub all_before_placed : (job : JobValue) (P : ℕ → Type 0) (lists : List Neighbours) (tests : List ℕ) (test : ℕ) → AreListed job (map listed lists) → test < length job.tests → tests ≡ get_or (map listed lists) test [] → All P tests → (earlier : ℕ) → Precedes job earlier test → P earlier
all_before_placed job P lists tests test before within is all earlier precedes =
    let e : tests ≡ tests_before test job.before = is ∙ before.are test within in
    All-contains P (tests_before test job.before) earlier (subst (λ (l : List ℕ). All P l) e all) (before_has job.before earlier test precedes)

-- ---- the live tests of a list

pub live_more : (tests items : List Test) (i : ℕ) (d : Test) (count next before : ℕ) → items ≡ tests → i < length items → count ≡ before + length (filter is_live (take i tests)) → next ≡ count + (if is_live (get_or items i d) then 1 else 0) →
    next ≡ before + length (filter is_live (take (i + 1) tests))
live_more tests items i d count next before same within so is =
    let more : length (filter is_live (take (i + 1) items)) ≡ length (filter is_live (take i items)) + cond (is_live (get_or items i d)) 1 0 = length-filter_more is_live items i d within in
    let so' : count ≡ before + length (filter is_live (take i items)) = rw same so in
    let all : next ≡ before + length (filter is_live (take (i + 1) items)) = omega (arith, more, so', is) in
    rw same at all

-- ---- one more of a list

pub long_more : {X : Type 0} (more old : List X) (x : X) (i : ℕ) → more ≡ old ++ x ∷ [] → length old ≡ i → length more ≡ i + 1
long_more more old x i is so = omega (arith, ap length is, length_push old x, so)

pub all_more : {X : Type 0} (P : X → Type 0) (more old : List X) (x : X) → more ≡ old ++ x ∷ [] → All P old → P x → All P more
all_more P more old x is all one = subst (λ l. All P l) (sym is) (All-push P old x all one)
