-- The latest end of the tests that precede a test.
use Rattle.std.proofs.Common.{◌≡◌, ℕ, zero, suc, ◌<◌, ◌≤◌, ◌⊎◌, inl, inr, Option, None, Some, List, [], ◌∷◌, length, map, arith, Bool, true, refl, ap, ◌∙◌, slice_get, slice_index_or, nat_eq, ◌&&◌, unwrap_or}
use Rattle.std.{specs.List.All, specs.List.Contains, specs.List.filter, specs.Global.Vec, proofs.lemmas.List.Elements.All-contains}
use Rattle.std.proofs.lemmas.Bool.{cases_Bool, eqb-true, eq-eqb, and_parts, and_from}
use Rattle.smallvec.specs.SmallVec.{SmallVec}
use Rattle.plan_model.specs.Plans.{greatest}
use Rattle.plan_model.proofs.{Lists.at_contains, Lists.any_from, Lists.from_filter, Greatest.le-greatest_at, Greatest.greatest-least}
use Rattle.resource_table.specs.{declared.Placement.Placement, Resources.end_in, Kept.IsKept}
use Rattle.busy_times.specs.declared.power.Draw.{Draw}
use Rattle.resource_table.specs.Befores.{tests_before, listed, AreListed}
use Rattle.resource_table.specs.Jobs.{JobValue, Precedes}
use Rattle.resource_table.specs.Schedules.{end_of, last_end, precedes, ready_at, ComesAfter}
use Rattle.live_tests.specs.declared.neighbours.Neighbours.{Neighbours}
use Rattle.resource_table.proofs.{Befores.before_from, Befores.before_has, Placed.sound_tests, Placed.end_at, Placed.end_from}
use Rattle.common_lemmas.proofs.Lists.{all_from, contains_at, any_at}

pair_is : (p : ℕ × ℕ) (a b : ℕ) → p.0 ≡ a → p.1 ≡ b → p ≡ (a, b)
pair_is p a b first second = ap (λ x. (let q : ℕ × ℕ = (x, p.1) in q)) first ∙ ap (λ y. (let q : ℕ × ℕ = (a, y) in q)) second

module _ (job : JobValue) (a b : ℕ) where
  -- a test of precedences and the fact that there is one
  pub precedes_from : Precedes job a b → precedes job a b ≡ true
  precedes_from there =
      let at = contains_at job.before (a, b) there in
      any_from (λ (p : ℕ × ℕ). nat_eq p.0 a && nat_eq p.1 b) job.before at.0 (a, b) at.1 (and_from (nat_eq a a) (nat_eq b b) (eq-eqb a a refl) (eq-eqb b b refl))

  pub precedes_to : precedes job a b ≡ true → Precedes job a b
  precedes_to holds =
      let r = any_at (λ (p : ℕ × ℕ). nat_eq p.0 a && nat_eq p.1 b) job.before holds in
      let parts = and_parts (nat_eq r.1.0 a) (nat_eq r.1.1 b) r.3 in
      at_contains job.before r.0 (a, b) (r.2 ∙ ap Some (pair_is r.1 a b (eqb-true r.1.0 a parts.0) (eqb-true r.1.1 b parts.1)))

le-greatest_kept : {X : Type 0} (f : X → ℕ) (p : X → Bool) (xs : List X) (i : ℕ) (x : X) → slice_get xs i ≡ Some x → p x ≡ true → f x ≤ greatest (map f (filter p xs))
le-greatest_kept f p [] i x at passes = absurd cc
le-greatest_kept f p (y ∷ xs) zero x at passes =
    let same : x ≡ y = cc in
    let here = rw same at passes in
    rw here (let e = ap f same in omega arith)
le-greatest_kept f p (y ∷ xs) (suc i) x at passes =
    let ih = le-greatest_kept f p xs i x at passes in
    elim (cases_Bool (p y)) [ inl yes' ↦ rw yes' (omega arith) | inr no' ↦ rw no' ih ]

module _ (job : JobValue) (placed : List Placement) (test : ℕ) where
  -- at most the end of the last test
  pub ready-le-last : ready_at job placed test ≤ last_end job placed
  ready-le-last = greatest-least (end_of job) (last_end job placed) (filter (λ (p : Placement). precedes job p.test test) placed)
      (λ i p at. let r = from_filter (λ (p : Placement). precedes job p.test test) placed i p at in le-greatest_at (end_of job) placed r.0 p r.1)

  -- what comes after all of them comes after the latest
  pub ready-least : (start : ℕ) → ComesAfter job placed test start → ready_at job placed test ≤ start
  ready-least start after = greatest-least (end_of job) start (filter (λ (p : Placement). precedes job p.test test) placed)
      (λ i p at. let r = from_filter (λ (p : Placement). precedes job p.test test) placed i p at in after r.0 p r.1 (precedes_to job p.test test r.2))

module _ {job : JobValue} {trail : SmallVec Placement} {ends : Vec (Option ℕ)} {lasts : Vec ℕ} {draws : Vec Draw} (kept : IsKept job trail ends lasts draws) (test result : ℕ) where
  -- the tests before a test are some of the job
  pub before_known : All (λ earlier. earlier < length ends.items) (tests_before test job.before)
  before_known =
      All-from-contains (tests_before test job.before) (λ earlier there.
      let inside = (All-contains (λ (p : ℕ × ℕ). (p.0 < length job.tests) × (p.1 < length job.tests)) job.before (earlier, test) kept.sound.job.in_range (before_from job.before earlier test there)).0 in
      omega (arith, inside, kept.ends_long))
    where
      All-from-contains : (xs : List ℕ) → ((x : ℕ) → Contains xs x → x < length ends.items) → All (λ x. x < length ends.items) xs
      All-from-contains xs h = all_from (λ x. x < length ends.items) xs (λ i x at. h x (at_contains xs i x at))

  pub kept_after : All (λ earlier. unwrap_or (slice_index_or ends.items earlier None) 0 ≤ result) (tests_before test job.before) → ComesAfter job trail.items test result
  kept_after latest n p at before =
      let here = All-contains (λ earlier. unwrap_or (slice_index_or ends.items earlier None) 0 ≤ result) (tests_before test job.before) p.test latest (before_has job.before p.test test before) in
      let inside = (kept.sound.placed n p at).in_job in
      rw (kept.ends_are p.test inside ∙ end_at job job.tests trail.items n p (sound_tests (record { job = job; placed = trail.items }) kept.sound) at) at here

  pub kept_most : (result ≡ 0) ⊎ ((earlier : ℕ) × Contains (tests_before test job.before) earlier × (result ≡ unwrap_or (slice_index_or ends.items earlier None) 0)) → result ≤ ready_at job trail.items test
  kept_most (inl none) = omega arith
  kept_most (inr found) =
      let pair = before_from job.before found.0 test found.1 in
      let inside = (All-contains (λ (p : ℕ × ℕ). (p.0 < length job.tests) × (p.1 < length job.tests)) job.before (found.0, test) kept.sound.job.in_range pair).0 in
      go (end_in job trail.items found.0) refl (found.2 ∙ ap (λ o. unwrap_or o 0) (kept.ends_are found.0 inside))
    where
      go : (o : Option ℕ) → end_in job trail.items found.0 ≡ o → result ≡ unwrap_or (end_in job trail.items found.0) 0 → result ≤ ready_at job trail.items test
      go None e is = let none = is ∙ ap (λ o. unwrap_or o 0) e in omega arith
      go (Some end) e is =
          let r = end_from job trail.items found.0 end e in
          let before = precedes_from job r.1.test test (rw r.3 (before_from job.before found.0 test found.1)) in
          let most = le-greatest_kept (end_of job) (λ (p : Placement). precedes job p.test test) trail.items r.0 r.1 r.2 before in
          let this = is ∙ ap (λ o. unwrap_or o 0) e in
          let last = r.4 in
          omega arith

  -- of the lists that were read
  module _ (tests : List ℕ) (es : List (Option ℕ)) (tests_is : tests ≡ tests_before test job.before) (es_is : es ≡ ends.items) where
    pub read_known : All (λ earlier. earlier < length es) tests
    read_known = rw es_is (rw tests_is before_known)

    pub read_after : All (λ earlier. unwrap_or (slice_index_or es earlier None) 0 ≤ result) tests → ComesAfter job trail.items test result
    read_after latest = kept_after (rw tests_is at (rw es_is at latest))

    pub read_most : (result ≡ 0) ⊎ ((earlier : ℕ) × Contains tests earlier × (result ≡ unwrap_or (slice_index_or es earlier None) 0)) → result ≤ ready_at job trail.items test
    read_most is = kept_most (rw tests_is at (rw es_is at is))

-- the list that is kept for a test
pub kept_before : (job : JobValue) (lists lists' : List Neighbours) (test : ℕ) (tests : List ℕ) → AreListed job (map listed lists) → lists' ≡ lists → test < length job.tests → tests ≡ slice_index_or (map listed lists') test [] → tests ≡ tests_before test job.before
kept_before job lists lists' test tests all same inside is = is ∙ ap (λ v. slice_index_or (map listed v) test []) same ∙ all.are test inside
