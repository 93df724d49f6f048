-- The entries of a walk: in which order they stand, and that they are the beginnings of orders.
use Rattle.std.proofs.Common.{◌≡◌, ◌⊎◌, inl, inr, ℕ, zero, suc, ◌<◌, true, false, true≢false, Some, List, [], ◌∷◌, ◌++◌, length, get_or, refl, sym, ◌∙◌, ap, subst, arith, append_assoc, length-append, slice_get, Contains, filter, flat_map}
use Rattle.std.proofs.lemmas.Bool.{cases_Bool, cases_order}
use Rattle.std.proofs.lemmas.List.{append-nil}
use Rattle.std.proofs.lemmas.List.Elements.{All-contains}
use Rattle.std.proofs.lemmas.Option.{slice_get_within}
use Rattle.plan_model.specs.Rules.{Each}
use Rattle.plan_model.proofs.Lists.{at_contains, from_append, from_flat_map}
use Rattle.resource_table.specs.Jobs.{JobValue, Precedes, IsSoundJob}
use Rattle.resource_table.specs.Befores.{tests_before}
use Rattle.resource_table.proofs.Befores.{before_from, before_has}
use Rattle.resource_table.proofs.Placed.{each_push, each_front}
use Rattle.schedule_search.specs.Orders.{IsReady, IsTopological}
use Rattle.schedule_search.specs.Walks.{goes_before, stands_before, by_length, is_in, may_follow, walk_from, walk}
use Rattle.schedule_search.specs.WalkSizes.{ComesBefore}
use Rattle.schedule_search.specs.Prefixes.{outside}
use Rattle.schedule_search.proofs.Comparing.{AreInOrder, first_in_order, same_stays, stays_one, after_prefix, differ_here}
use Rattle.schedule_search.proofs.Following.{in_from, in_to, not_in}
use Rattle.schedule_search.proofs.Outside.{order_filter, outside_at, outside_has, outside_less, from_all}
use Rattle.schedule_search.proofs.Walking.{below, extends_in, in_walk_ready}
use Rattle.common_lemmas.proofs.Lists.{contains_at}

-- ---- the order of the entries

-- each comes before all that stand after it
abbrev AreOrdered : JobValue → List (List ℕ) → Type 0
AreOrdered job [] = Unit {0}
AreOrdered job (a ∷ others) = ((k : ℕ) (b : List ℕ) → slice_get others k ≡ Some b → ComesBefore job a b) × AreOrdered job others

ordered_append : (job : JobValue) (xs ys : List (List ℕ)) → AreOrdered job xs → AreOrdered job ys → ((i j : ℕ) (a b : List ℕ) → slice_get xs i ≡ Some a → slice_get ys j ≡ Some b → ComesBefore job a b) → AreOrdered job (xs ++ ys)
ordered_append job [] ys one other cross = other
ordered_append job (x ∷ xs) ys one other cross =
    (λ k b at. elim (from_append xs ys k b at) [ inl left ↦ one.0 k b left | inr right ↦ cross 0 right.0 x b refl right.2 ], ordered_append job xs ys one.1 other (λ i j a b at at'. cross (suc i) j a b at at'))

ordered_at : (job : JobValue) (xs : List (List ℕ)) (i j : ℕ) (a b : List ℕ) → AreOrdered job xs → i < j → slice_get xs i ≡ Some a → slice_get xs j ≡ Some b → ComesBefore job a b
ordered_at job [] i j a b order less at at' = absurd cc
ordered_at job (x ∷ xs) i zero a b order less at at' = absurd (omega (arith, less))
ordered_at job (x ∷ xs) zero (suc j) a b order less at at' = let same : x ≡ a = cc in subst (λ (l : List ℕ). ComesBefore job l b) same (order.0 j b at')
ordered_at job (x ∷ xs) (suc i) (suc j) a b order less at at' = ordered_at job xs i j a b order.1 (omega (arith, less)) at at'

there_in : (xs : List (List ℕ)) (k : ℕ) (b : List ℕ) → slice_get xs k ≡ Some b → Contains xs b
there_in xs k b at = at_contains xs k b at

branches_ordered : (job : JobValue) (more : ℕ) (prefix tests : List ℕ) → AreInOrder job tests → ((t : ℕ) → AreOrdered job (below job more prefix t)) → AreOrdered job (flat_map (below job more prefix) tests)
branches_ordered job more prefix [] order each = tt
branches_ordered job more prefix (t ∷ tests) order each =
    ordered_append job (below job more prefix t) (flat_map (below job more prefix) tests) (each t) (branches_ordered job more prefix tests order.1 each) (λ i j a b at at'.
    let f = from_flat_map (below job more prefix) tests j b at' in
    let u : ℕ = f.1 in
    let e = extends_in job more (prefix ++ t ∷ []) a (there_in (below job more prefix t) i a at) in
    let e' = extends_in job more (prefix ++ u ∷ []) b (there_in (below job more prefix u) f.2 b f.4) in
    let goes : goes_before job t u ≡ true = from_all job t tests f.0 u f.3 order.0 in
    let apart : t ≡ u → ⊥ = λ same. true≢false (sym goes ∙ ap (λ (n : ℕ). goes_before job t n) (sym same) ∙ stays_one job t) in
    let first : a ≡ prefix ++ t ∷ e.0 = e.1 ∙ append_assoc prefix (t ∷ []) e.0 in
    let second : b ≡ prefix ++ u ∷ e'.0 = e'.1 ∙ append_assoc prefix (u ∷ []) e'.0 in
    let stands : stands_before job (prefix ++ t ∷ e.0) (prefix ++ u ∷ e'.0) ≡ true = after_prefix job prefix (t ∷ e.0) (u ∷ e'.0) ∙ differ_here job t u e.0 e'.0 apart ∙ goes in
    inr (ap (stands_before job a) second ∙ ap (λ (l : List ℕ). stands_before job l (prefix ++ u ∷ e'.0)) first ∙ stands))

walk_ordered : (job : JobValue) (more : ℕ) (prefix : List ℕ) → AreOrdered job (walk_from job more prefix)
walk_ordered job zero prefix = (λ k b at. absurd cc, tt)
walk_ordered job (suc more) prefix = (
  λ k b at.
      let f = from_flat_map (below job more prefix) (filter (may_follow job prefix) (by_length job)) k b at in
      let e = extends_in job more (prefix ++ f.1 ∷ []) b (there_in (below job more prefix f.1) f.2 b f.4) in
      inl (f.1, e.0, e.1 ∙ append_assoc prefix (f.1 ∷ []) e.0),
  branches_ordered job more prefix (filter (may_follow job prefix) (by_length job)) (order_filter job (may_follow job prefix) (by_length job) (first_in_order job (length job.tests))) (λ t. walk_ordered job more (prefix ++ t ∷ [])),
)

pub walk_in_order : (job : JobValue) (i j : ℕ) (a b : List ℕ) → i < j → slice_get (walk job) i ≡ Some a → slice_get (walk job) j ≡ Some b → ComesBefore job a b
walk_in_order job i j a b less at at' = ordered_at job (walk job) i j a b (walk_ordered job (length job.tests) []) less at at'

-- nothing comes before itself
never_before : (job : JobValue) (a : List ℕ) → ComesBefore job a a → ⊥
never_before job a (inl (test, rest, same)) = omega (arith, ap length same, length-append a (test ∷ rest))
never_before job a (inr stands) = true≢false (sym stands ∙ same_stays job a)

pub walk_once : (job : JobValue) (i j : ℕ) (entry : List ℕ) → slice_get (walk job) i ≡ Some entry → slice_get (walk job) j ≡ Some entry → i ≡ j
walk_once job i j entry at at' = elim (cases_order i j) [
  | inl same ↦ same
  | inr apart ↦ elim apart [
    | inl less ↦ absurd (never_before job entry (walk_in_order job i j entry entry less at at'))
    | inr more ↦ absurd (never_before job entry (walk_in_order job j i entry entry more at' at))
  ]
]

-- ---- each list of ready tests begins an order

some_out : (path tests : List ℕ) → ((t : ℕ) → Contains tests t → is_in path t ≡ true) ⊎ ((t : ℕ) × Contains tests t × (is_in path t ≡ false))
some_out path [] = inl (λ t there. absurd (let k = there.1 in omega (arith, k)))
some_out path (x ∷ xs) = elim (cases_Bool (is_in path x)) [
  | inr out ↦ inr (x, at_contains (x ∷ xs) 0 x refl, out)
  | inl in_ ↦ elim (some_out path xs) [
    | inr later ↦ inr (later.0, more later.0 later.1, later.2)
    | inl rest ↦ inl (λ t there. all in_ rest t (contains_at (x ∷ xs) t there))
  ]
]
  where
    more : (t : ℕ) → Contains xs t → Contains (x ∷ xs) t
    more t there = let k = contains_at xs t there in at_contains (x ∷ xs) (suc k.0) t k.1

    all : is_in path x ≡ true → ((t : ℕ) → Contains xs t → is_in path t ≡ true) → (t : ℕ) → (k : ℕ) × (slice_get (x ∷ xs) k ≡ Some t) → is_in path t ≡ true
    all in_ rest t (zero, at) = let same : x ≡ t = cc in ap (is_in path) (sym same) ∙ in_
    all in_ rest t (suc k, at) = rest t (at_contains xs k t at)

-- where a test is outside, some test outside is ready
pub ready_below : (job : JobValue) (path : List ℕ) → IsSoundJob job → (rank : ℕ → ℕ) → ((a b : ℕ) → Precedes job a b → rank a < rank b) → (bound test : ℕ) → rank test < bound → test < length job.tests → is_in path test ≡ false → (t : ℕ) × IsReady job path t
ready_below job path sound rank grows zero test low inside out = absurd (omega (arith, low))
ready_below job path sound rank grows (suc bound) test low inside out = elim (some_out path (tests_before test job.before)) [
  | inl all ↦ (
    test,
    record {
      in_job = inside;
      new = λ there. true≢false (sym (in_from path test there) ∙ out);
      after = λ earlier before. in_to path earlier (all earlier (before_has job.before earlier test before));
    },
  )
  | inr some ↦
      let before : Precedes job some.0 test = before_from job.before some.0 test some.1 in
      let lower = grows some.0 test before in
      let range = All-contains (λ (p : ℕ × ℕ). (p.0 < length job.tests) × (p.1 < length job.tests)) job.before (some.0, test) sound.in_range before in
      ready_below job path sound rank grows bound some.0 (omega (arith, low, lower)) range.0 some.2
]

first_of : (xs : List ℕ) (n : ℕ) → length xs ≡ suc n → slice_get xs 0 ≡ Some (get_or xs 0 0)
first_of [] n long = absurd (omega (arith, long))
first_of (x ∷ xs) n long = refl

extended : (job : JobValue) (left : ℕ) (entry : List ℕ) → IsSoundJob job → length (outside job entry) ≡ left → Each (IsReady job) entry → (rest : List ℕ) × IsTopological job (entry ++ rest)
extended job zero entry sound none ready = (
  [],
  subst (IsTopological job) (sym (append-nil entry)) (record {
    ready = ready;
    whole = λ test inside. elim (cases_Bool (is_in entry test)) [
      | inl yes' ↦ in_to entry test yes'
      | inr out ↦ absurd (let at = outside_has job entry test inside out in omega (arith, slice_get_within (outside job entry) at.0 test at.1, none))
    ];
  }),
)
extended job (suc left) entry sound some ready =
    let x : ℕ = get_or (outside job entry) 0 0 in
    let out = outside_at job entry 0 x (first_of (outside job entry) left some) in
    let next = ready_below job entry sound sound.acyclic.0 sound.acyclic.1 (suc (sound.acyclic.0 x)) x (omega arith) out.0 out.1 in
    let t : ℕ = next.0 in
    let new : is_in entry t ≡ false = not_in entry t next.1.new in
    let at = outside_has job entry t next.1.in_job new in
    let less : length (outside job (entry ++ t ∷ [])) ≡ left = omega (arith, outside_less job entry at.0 t at.1, some) in
    let more = extended job left (entry ++ t ∷ []) sound less (each_push (IsReady job) entry t ready next.1) in
    (t ∷ more.0, subst (IsTopological job) (append_assoc entry (t ∷ []) more.0) more.1)

pub walk_begins : (job : JobValue) (entry : List ℕ) → IsSoundJob job → Each (IsReady job) entry → (rest : List ℕ) × IsTopological job (entry ++ rest)
walk_begins job entry sound ready = extended job (length (outside job entry)) entry sound refl ready

pub begins_in_walk : (job : JobValue) (entry rest : List ℕ) → IsTopological job (entry ++ rest) → Contains (walk job) entry
begins_in_walk job entry rest topological = in_walk_ready job entry (each_front (IsReady job) entry rest topological.ready)
