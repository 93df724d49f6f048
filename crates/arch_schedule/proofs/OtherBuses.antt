-- A job whose tests go over other buses is sound where the tests are short.
use Rattle.std.proofs.Common.{◌≡◌, ℕ, ◌+◌, ◌<◌, ◌≤◌, Option, List, [], ◌∷◌, length, take, set, arith, refl, sym, ap, ◌∙◌, subst, All, sum_by}
use Rattle.std.proofs.lemmas.List.{take_all, take_more_set}
use Rattle.std.proofs.lemmas.List.Elements.{All-nil, All-cons, All-head, All-tail, All-append}
use Rattle.std.proofs.lemmas.List.Sums.{sum_by-cons, sum_by-append}
use Rattle.plan_model.specs.declared.TheConstants.{START_MOST}
use Rattle.resource_table.specs.Befores.{AreListed}
use Rattle.resource_table.specs.Jobs.{TestValue, JobValue, test_over, tests_over, job_over, IsSoundTest, IsSoundJob}
use Rattle.resource_table.proofs.Restarts.{length-tests_over, test_over_at}
use Rattle.arch_schedule.specs.Rooms.{AreShort, AreCyclesOf}

one_over : (limit : Option ℕ) (bus : Option ℕ) (cycles : ℕ) (t : TestValue) → 1 ≤ cycles → IsSoundTest limit t → IsSoundTest limit (test_over bus cycles t)
one_over limit bus cycles t lasts sound = record {
  lasts = lasts;
  some_step = sound.some_step;
  few_steps = sound.few_steps;
  begins = sound.begins;
  grows = sound.grows;
  small = sound.small;
  within = sound.within;
}

all_over : (limit : Option ℕ) (buses : List (Option ℕ)) (lengths : List ℕ) (tests : List TestValue) → All (λ c. 1 ≤ c) lengths → All (IsSoundTest limit) tests → All (IsSoundTest limit) (tests_over buses lengths tests)
all_over limit (bus ∷ buses) (cycles ∷ lengths) (t ∷ tests) last sound =
    All-cons (IsSoundTest limit) (test_over bus cycles t) (tests_over buses lengths tests)
    (one_over limit bus cycles t (All-head (λ c. 1 ≤ c) cycles lengths last) (All-head (IsSoundTest limit) t tests sound))
    (all_over limit buses lengths tests (All-tail (λ c. 1 ≤ c) cycles lengths last) (All-tail (IsSoundTest limit) t tests sound))
all_over limit (bus ∷ buses) (cycles ∷ lengths) [] last sound = All-nil (IsSoundTest limit)
all_over limit (bus ∷ buses) [] tests last sound = sound
all_over limit [] lengths tests last sound = sound

sum_is : (buses : List (Option ℕ)) (lengths : List ℕ) (tests : List TestValue) → length buses ≡ length tests → length lengths ≡ length tests → sum_by (λ (t : TestValue). t.cycles) (tests_over buses lengths tests) ≡ sum_by (λ (c : ℕ). c) lengths
sum_is (bus ∷ buses) (cycles ∷ lengths) (t ∷ tests) b l =
    let rest = sum_is buses lengths tests (omega (arith, b)) (omega (arith, l)) in
    omega (arith, sum_by-cons (λ (u : TestValue). u.cycles) (test_over bus cycles t) (tests_over buses lengths tests), sum_by-cons (λ (c : ℕ). c) cycles lengths, rest)
sum_is (bus ∷ buses) (cycles ∷ lengths) [] b l = absurd (omega (arith, b))
sum_is (bus ∷ buses) [] (t ∷ tests) b l = absurd (omega (arith, l))
sum_is (bus ∷ buses) [] [] b l = refl
sum_is [] lengths (t ∷ tests) b l = absurd (omega (arith, b))
sum_is [] (cycles ∷ lengths) [] b l = absurd (omega (arith, l))
sum_is [] [] [] b l = refl

pub sound_over : (buses : List (Option ℕ)) (lengths : List ℕ) (job : JobValue) → length buses ≡ length job.tests → length lengths ≡ length job.tests → IsSoundJob job → AreShort lengths → IsSoundJob (job_over buses lengths job)
sound_over buses lengths job b l sound short = record {
  tests = all_over job.power buses lengths job.tests short.last sound.tests;
  short = (let is = sum_is buses lengths job.tests b l in let most = short.short in omega (arith, is, most));
  in_range = subst (λ (n : ℕ). All (λ (p : ℕ × ℕ). (p.0 < n) × (p.1 < n)) job.before) (sym (length-tests_over buses lengths job.tests)) sound.in_range;
  acyclic = sound.acyclic;
}

pub listed_over : (buses : List (Option ℕ)) (lengths : List ℕ) (job : JobValue) (lists : List (List ℕ)) → AreListed job lists → AreListed (job_over buses lengths job) lists
listed_over buses lengths job lists before =
    let e = length-tests_over buses lengths job.tests in
    record { long = before.long ∙ sym e; are = λ test within. before.are test (subst (λ (n : ℕ). test < n) e within) }

pub cycles_over : (buses : List (Option ℕ)) (lengths : List ℕ) (job : JobValue) → length buses ≡ length job.tests → length lengths ≡ length job.tests → AreCyclesOf (job_over buses lengths job) lengths
cycles_over buses lengths job b l test within =
    sym (ap (λ (t : TestValue). t.cycles) (test_over_at buses lengths job.tests test (subst (λ (n : ℕ). test < n) (length-tests_over buses lengths job.tests) within) b l))

-- ---- the cycles of the tests so far

pub last_more : (cycles : List ℕ) (i c : ℕ) → i < length cycles → 1 ≤ c → All (λ c. 1 ≤ c) (take i cycles) → All (λ c. 1 ≤ c) (take (i + 1) (set cycles i c))
last_more cycles i c within lasts all = rw (take_more_set cycles i c within) (All-append (λ c. 1 ≤ c) (take i cycles) (c ∷ []) all (All-cons (λ c. 1 ≤ c) c [] lasts (All-nil (λ c. 1 ≤ c))))

pub short_more : (cycles : List ℕ) (i c left left' most : ℕ) → i < length cycles → left' + c ≡ left → sum_by (λ (c : ℕ). c) (take i cycles) + left ≡ most → sum_by (λ (c : ℕ). c) (take (i + 1) (set cycles i c)) + left' ≡ most
short_more cycles i c left left' most within less so =
    rw (take_more_set cycles i c within) (omega (arith, sum_by-append (λ (c : ℕ). c) (take i cycles) (c ∷ []), sum_by-cons (λ (c : ℕ). c) c [], less, so))

pub short_all : (cycles : List ℕ) (i left : ℕ) → length cycles ≤ i → All (λ c. 1 ≤ c) (take i cycles) → sum_by (λ (c : ℕ). c) (take i cycles) + left ≡ START_MOST → AreShort cycles
short_all cycles i left past lasts so =
    let e = take_all i cycles past in
    record {
      last = subst (λ (l : List ℕ). All (λ c. 1 ≤ c) l) e lasts;
      short = (let s = rw e at so in omega (arith, s));
    }
