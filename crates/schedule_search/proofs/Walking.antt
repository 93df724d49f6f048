-- The walk over orders, step by step.
use Rattle.std.proofs.Common.{◌≡◌, ℕ, zero, suc, ◌+◌, ◌-◌, ◌<◌, ◌≤◌, Some, List, [], ◌∷◌, ◌++◌, length, get_or, take, drop, refl, sym, ◌∙◌, ap, subst, arith, append_assoc, slice_get, All, Contains, filter, flat_map}
use Rattle.std.proofs.lemmas.Grind.{flat_map-append}
use Rattle.std.proofs.lemmas.List.{append-nil, take_all, take_more, take-append-drop}
use Rattle.std.proofs.lemmas.List.Elements.{All-nil, All-cons, All-append, All-weaker, All-contains}
use Rattle.std.proofs.lemmas.Option.{slice_get_within, get_or_from_slice_get}
use Rattle.plan_model.specs.Rules.{Each}
use Rattle.plan_model.proofs.Lists.{at_contains, from_filter, from_flat_map, in_flat_map}
use Rattle.resource_table.specs.Jobs.{JobValue}
use Rattle.resource_table.proofs.Placed.{each_push, each_front, each_last}
use Rattle.schedule_search.specs.Orders.{IsReady, IsTopological}
use Rattle.schedule_search.specs.Walks.{by_length, may_follow, walk_from, walk}
use Rattle.schedule_search.specs.Prefixes.{followers}
use Rattle.schedule_search.proofs.Following.{ready_from, ready_to}
use Rattle.schedule_search.proofs.Comparing.{first_within, first_has}
use Rattle.schedule_search.proofs.Counting.{ready_few, topological_long}
use Rattle.common_lemmas.proofs.Lists.{in_filter, contains_at}

-- what a walk tries below a prefix
abbrev pub below : JobValue → ℕ → List ℕ → ℕ → List (List ℕ)
below job more prefix test = walk_from job more (prefix ++ test ∷ [])

-- a prefix, and what is below it by the first of the tests that may follow
abbrev pub tried : JobValue → ℕ → List ℕ → ℕ → List (List ℕ)
tried job more prefix count = prefix ∷ flat_map (below job more prefix) (take count (followers job prefix))

-- what is below it by the others
abbrev pub left : JobValue → ℕ → List ℕ → ℕ → List (List ℕ)
left job more prefix count = flat_map (below job more prefix) (drop count (followers job prefix))

walk-suc : (job : JobValue) (more : ℕ) (prefix : List ℕ) → walk_from job (suc more) prefix ≡ tried job more prefix (length (followers job prefix))
walk-suc job more prefix = ap (λ l. prefix ∷ flat_map (below job more prefix) l) (sym (take_all (length (followers job prefix)) (followers job prefix) (omega arith)))

pub walk_all : (job : JobValue) (more : ℕ) (prefix : List ℕ) → 0 < more → walk_from job more prefix ≡ tried job (more - 1) prefix (length (followers job prefix))
walk_all job zero prefix some = absurd (omega (arith, some))
walk_all job (suc more) prefix some = let e : suc more - 1 ≡ more = omega arith in rw e (walk-suc job more prefix)

tried-split : (job : JobValue) (more : ℕ) (prefix : List ℕ) (count : ℕ) → tried job more prefix (length (followers job prefix)) ≡ tried job more prefix count ++ left job more prefix count
tried-split job more prefix count =
    let f = below job more prefix in
    let tests : List ℕ = followers job prefix in
    let whole : take (length tests) tests ≡ take count tests ++ drop count tests = take_all (length tests) tests (omega arith) ∙ sym (take-append-drop count tests) in
    ap (λ l. prefix ∷ flat_map f l) whole ∙ ap (λ l. prefix ∷ l) (flat_map-append f (take count tests) (drop count tests))

pub walk_split : (job : JobValue) (more : ℕ) (prefix : List ℕ) (count : ℕ) → 0 < more → walk_from job more prefix ≡ tried job (more - 1) prefix count ++ left job (more - 1) prefix count
walk_split job more prefix count some = walk_all job more prefix some ∙ tried-split job (more - 1) prefix count

-- one test more
pub tried_more : (job : JobValue) (more : ℕ) (prefix : List ℕ) (count : ℕ) → count < length (followers job prefix) → tried job more prefix (count + 1) ≡ tried job more prefix count ++ below job more prefix (get_or (followers job prefix) count 0)
tried_more job more prefix count within =
    let f = below job more prefix in
    let tests : List ℕ = followers job prefix in
    let test : ℕ = get_or tests count 0 in
    ap (λ l. prefix ∷ flat_map f l) (take_more tests count 0 within)
    ∙ ap (λ l. prefix ∷ l) (flat_map-append f (take count tests) (test ∷ []) ∙ ap (λ l. flat_map f (take count tests) ++ l) (append-nil (f test)))

-- ---- entries begin with their prefix

abbrev pub Extends : List ℕ → List ℕ → Type 0
Extends prefix entry = (rest : List ℕ) × (entry ≡ prefix ++ rest)

each_extends : (job : JobValue) (more : ℕ) (prefix : List ℕ) → ((test : ℕ) → All (Extends (prefix ++ test ∷ [])) (below job more prefix test)) → (tests : List ℕ) → All (Extends prefix) (flat_map (below job more prefix) tests)
each_extends job more prefix each [] = All-nil (Extends prefix)
each_extends job more prefix each (t ∷ tests) =
    All-append (Extends prefix) (below job more prefix t) (flat_map (below job more prefix) tests)
    (All-weaker (Extends (prefix ++ t ∷ [])) (Extends prefix) (λ q e. (t ∷ e.0, e.1 ∙ append_assoc prefix (t ∷ []) e.0)) (below job more prefix t) (each t))
    (each_extends job more prefix each tests)

pub walk_extends : (job : JobValue) (more : ℕ) (prefix : List ℕ) → All (Extends prefix) (walk_from job more prefix)
walk_extends job zero prefix = All-cons (Extends prefix) prefix [] ([], sym (append-nil prefix)) (All-nil (Extends prefix))
walk_extends job (suc more) prefix =
    All-cons (Extends prefix) prefix (flat_map (below job more prefix) (filter (may_follow job prefix) (by_length job))) ([], sym (append-nil prefix)) (each_extends job more prefix (λ t. walk_extends job more (prefix ++ t ∷ [])) (filter (may_follow job prefix) (by_length job)))

pub extends_in : (job : JobValue) (more : ℕ) (prefix entry : List ℕ) → Contains (walk_from job more prefix) entry → Extends prefix entry
extends_in job more prefix entry there = All-contains (Extends prefix) (walk_from job more prefix) entry (walk_extends job more prefix) there

-- the prefix comes first
pub walk_head : (job : JobValue) (more : ℕ) (prefix : List ℕ) → (rest : List (List ℕ)) × (walk_from job more prefix ≡ prefix ∷ rest)
walk_head job zero prefix = ([], refl)
walk_head job (suc more) prefix = (flat_map (below job more prefix) (filter (may_follow job prefix) (by_length job)), refl)

-- ---- each topological order is an entry

here_ready : (job : JobValue) (prefix : List ℕ) (test : ℕ) (rest : List ℕ) → Each (IsReady job) (prefix ++ test ∷ rest) → IsReady job prefix test
here_ready job prefix test rest ready = each_last (IsReady job) prefix test (each_front (IsReady job) (prefix ++ test ∷ []) rest (subst (Each (IsReady job)) (sym (append_assoc prefix (test ∷ []) rest)) ready))

walk_at : (job : JobValue) (more : ℕ) (prefix rest : List ℕ) → Each (IsReady job) (prefix ++ rest) → length rest ≤ more → (n : ℕ) × (slice_get (walk_from job more prefix) n ≡ Some (prefix ++ rest))
walk_at job zero prefix [] ready few = (0, ap Some (sym (append-nil prefix)))
walk_at job zero prefix (t ∷ rest) ready few = absurd (omega (arith, few))
walk_at job (suc more) prefix [] ready few = (0, ap Some (sym (append-nil prefix)))
walk_at job (suc more) prefix (t ∷ rest) ready few =
    let here = here_ready job prefix t rest ready in
    let k = first_has job (length job.tests) t here.in_job in
    let f = in_filter (may_follow job prefix) (by_length job) k.0 t k.1 (ready_to job prefix t here) in
    let whole : (prefix ++ t ∷ []) ++ rest ≡ prefix ++ t ∷ rest = append_assoc prefix (t ∷ []) rest in
    let below_ = walk_at job more (prefix ++ t ∷ []) rest (subst (Each (IsReady job)) (sym whole) ready) (omega (arith, few)) in
    let r = in_flat_map (below job more prefix) (filter (may_follow job prefix) (by_length job)) f.0 below_.0 t (prefix ++ t ∷ rest) f.1 (below_.1 ∙ ap Some whole) in
    (suc r.0, r.1)

pub in_walk : (job : JobValue) (order : List ℕ) → IsTopological job order → Contains (walk job) order
in_walk job order topological =
    let r = walk_at job (length job.tests) [] order topological.ready (omega (arith, topological_long job order topological)) in
    at_contains (walk job) r.0 order r.1

-- ---- an entry is a list of tests that are ready in turn

pub in_walk_ready : (job : JobValue) (prefix : List ℕ) → Each (IsReady job) prefix → Contains (walk job) prefix
in_walk_ready job prefix ready =
    let r = walk_at job (length job.tests) [] prefix ready (ready_few job prefix ready) in
    at_contains (walk job) r.0 prefix r.1

tests_within : (job : JobValue) (test n : ℕ) → slice_get (by_length job) n ≡ Some test → test < length job.tests
tests_within job test n at = subst (λ (t : ℕ). t < length job.tests) (get_or_from_slice_get (by_length job) n test test at) (first_within job (length job.tests) n test (slice_get_within (by_length job) n test at))

walk_ready : (job : JobValue) (more : ℕ) (prefix : List ℕ) → Each (IsReady job) prefix → (n : ℕ) (entry : List ℕ) → slice_get (walk_from job more prefix) n ≡ Some entry → Each (IsReady job) entry
walk_ready job zero prefix ready zero entry at = let same : prefix ≡ entry = cc in subst (Each (IsReady job)) same ready
walk_ready job zero prefix ready (suc n) entry at = absurd cc
walk_ready job (suc more) prefix ready zero entry at = let same : prefix ≡ entry = cc in subst (Each (IsReady job)) same ready
walk_ready job (suc more) prefix ready (suc n) entry at =
    let f = from_flat_map (below job more prefix) (filter (may_follow job prefix) (by_length job)) n entry at in
    let k = from_filter (may_follow job prefix) (by_length job) f.0 f.1 f.3 in
    let here = ready_from job prefix f.1 (tests_within job f.1 k.0 k.1) k.2 in
    walk_ready job more (prefix ++ f.1 ∷ []) (each_push (IsReady job) prefix f.1 ready here) f.2 entry f.4

pub ready_in_walk : (job : JobValue) (entry : List ℕ) → Contains (walk job) entry → Each (IsReady job) entry
ready_in_walk job entry there =
    let k = contains_at (walk job) entry there in
    walk_ready job (length job.tests) [] (λ n x at. absurd cc) k.0 entry k.1
