-- What a walk has shown, step by step of the code.
use Rattle.std.proofs.Common.{◌≡◌, inl, inr, ℕ, zero, suc, ◌+◌, ◌-◌, ◌<◌, ◌≤◌, ◌^◌, Bool, true, false, List, [], ◌∷◌, ◌++◌, length, get_or, take, max, sym, ◌∙◌, ap, subst, arith, length-append, All, Contains, nat_eq}
use Rattle.std.proofs.lemmas.Bool.{cases_lt, eqb-true}
use Rattle.std.proofs.lemmas.List.{map-append, take_at}
use Rattle.plan_model.specs.Rules.{Each}
use Rattle.resource_table.specs.declared.Placement.{Placement}
use Rattle.resource_table.specs.Jobs.{JobValue, cycles_of, Precedes}
use Rattle.resource_table.specs.Schedules.{TableValue, at_start, IsEarliest, MayPlace, IsSoundTable}
use Rattle.resource_table.proofs.Schedules.{last_push, next_list}
use Rattle.schedule_search.specs.declared.walk.Progress.{Progress}
use Rattle.schedule_search.specs.Orders.{IsReady, IsTopological}
use Rattle.schedule_search.specs.OrderCycles.{Takes, HasPlaced}
use Rattle.schedule_search.specs.Walks.{may_follow, walk_from, IsShut, IsOpen}
use Rattle.schedule_search.specs.Late.{IsLateAt, AreInTime}
use Rattle.schedule_search.specs.Progress.{Stand, stand_of, AtMostFirst, IsBest, NoneBefore, IsKeptOrFewer, Explored}
use Rattle.schedule_search.specs.Prefixes.{followers}
use Rattle.schedule_search.proofs.PlacedOrders.{placed_has, placed_not}
use Rattle.schedule_search.proofs.Following.{ready_from}
use Rattle.schedule_search.proofs.Comparing.{AreInOrder}
use Rattle.schedule_search.proofs.Counting.{topological_long, whole_topological}
use Rattle.schedule_search.proofs.Walking.{Extends, tried, left, walk_all, walk_split, tried_more, walk_extends, walk_head}
use Rattle.schedule_search.proofs.Bests.{placed_ready, late_below, not_shut, open_more, none_before_later}
use Rattle.schedule_search.proofs.Stretches.{refused_here, entered_here, fewer_here, kept_here, left_here, joined, stopped}

-- ---- the best order

best_same : (job : JobValue) (a b : Stand) → b.best ≡ a.best → b.cycles ≡ a.cycles → IsBest job a → IsBest job b
best_same job a b order cycles best = record {
  topological = subst (IsTopological job) (sym order) best.topological;
  takes = subst (λ (l : List ℕ). Takes job l b.cycles) (sym order) (subst (Takes job a.best) (sym cycles) best.takes);
  at_most_first = λ first c is takes. (let most = best.at_most_first first c is takes in omega (arith, most, cycles));
}

pub best_refused : (job : JobValue) (p q : Progress) → q ≡ record p { refused = true } → IsBest job (stand_of p) → IsBest job (stand_of q)
best_refused job p q is best = best_same job (stand_of p) (stand_of q) (ap (λ (x : Progress). x.best.items) is) (ap (λ (x : Progress). x.cycles) is) best

pub best_entered : (job : JobValue) (p q : Progress) → q ≡ record p { entered = p.entered + 1 } → IsBest job (stand_of p) → IsBest job (stand_of q)
best_entered job p q is best = best_same job (stand_of p) (stand_of q) (ap (λ (x : Progress). x.best.items) is) (ap (λ (x : Progress). x.cycles) is) best

best_fewer : (job : JobValue) (a : Stand) (order : List ℕ) (cycles : ℕ) → IsTopological job order → Takes job order cycles → cycles < a.cycles → IsBest job a → IsBest job (record a { best = order; cycles = cycles })
best_fewer job a order cycles topological takes fewer best = record {
  topological = topological;
  takes = takes;
  at_most_first = λ first c is takes. (let most = best.at_most_first first c is takes in omega (arith, most, fewer));
}

pub best_offered : (job : JobValue) (order : List ℕ) (p q r : Progress) (cycles : ℕ) → q ≡ record p { entered = p.entered + 1 } → IsTopological job order → Takes job order cycles
    → (cycles < q.cycles → stand_of r ≡ record (stand_of q) { best = order; cycles = cycles }) → (q.cycles ≤ cycles → r ≡ q) → IsBest job (stand_of p) → IsBest job (stand_of r)
best_offered job order p q r cycles entered topological takes fewer kept best = elim (cases_lt cycles q.cycles) [
  | inl less ↦ subst (IsBest job) (sym (fewer less)) (best_fewer job (stand_of q) order cycles topological takes less (best_entered job p q entered best))
  | inr ge ↦ subst (λ (x : Progress). IsBest job (stand_of x)) (sym (kept ge)) (best_entered job p q entered best)
]

-- ---- the placed tests and their prefix

pub path_ready : (t : TableValue) (job : JobValue) (path : List ℕ) (end : ℕ) → t.job ≡ job → IsSoundTable t → HasPlaced t path end → Each (IsReady job) path
path_ready t job path end same sound has = subst (λ (j : JobValue). Each (IsReady j) path) same (placed_ready t path sound has.in_order)

pub path_topological : (t : TableValue) (job : JobValue) (path : List ℕ) (end : ℕ) → t.job ≡ job → IsSoundTable t → HasPlaced t path end → length path ≡ length job.tests → IsTopological job path
path_topological t job path end same sound has long = whole_topological job path (path_ready t job path end same sound has) long

-- ---- a prefix that is refused, whole, or left

pub explored_refused : (job : JobValue) (budget more : ℕ) (path : List ℕ) (p q : Progress) → q ≡ record p { refused = true } → p.entered ≡ budget → IsOpen job path → Explored job budget (walk_from job more path) (stand_of p) (stand_of q)
explored_refused job budget more path p q is spent open_ =
    let head = walk_head job more path in
    subst (λ (ws : List (List ℕ)). Explored job budget ws (stand_of p) (stand_of q)) (sym head.1)
    (subst (λ (x : Progress). Explored job budget (path ∷ head.0) (stand_of p) (stand_of x)) (sym is) (refused_here job budget path head.0 (stand_of p) open_ spent))

pub explored_whole : (job : JobValue) (budget more : ℕ) (path : List ℕ) (p q r : Progress) (cycles : ℕ) → more ≡ 0 → q ≡ record p { entered = p.entered + 1 } → Takes job path cycles
    → (cycles < q.cycles → stand_of r ≡ record (stand_of q) { best = path; cycles = cycles }) → (q.cycles ≤ cycles → r ≡ q) → IsOpen job path → p.refused ≡ false → NoneBefore job path p.best.items
    → Explored job budget (walk_from job more path) (stand_of p) (stand_of r)
explored_whole job budget more path p q r cycles none entered takes fewer kept open_ going behind =
    let whole : walk_from job more path ≡ path ∷ [] = ap (λ (n : ℕ). walk_from job n path) none in
    let same : q.cycles ≡ p.cycles = ap (λ (x : Progress). x.cycles) entered in
    subst (λ (ws : List (List ℕ)). Explored job budget ws (stand_of p) (stand_of r)) (sym whole) (elim (cases_lt cycles q.cycles) [
      | inl less ↦
          let stand : stand_of r ≡ record (stand_of p) { best = path; cycles = cycles; entered = p.entered + 1 } = fewer less ∙ ap (λ (x : Progress). record (stand_of x) { best = path; cycles = cycles }) entered in
          subst (Explored job budget (path ∷ []) (stand_of p)) (sym stand) (fewer_here job budget path (stand_of p) cycles open_ going takes (omega (arith, less, same)))
      | inr ge ↦
          let stand : stand_of r ≡ record (stand_of p) { entered = p.entered + 1 } = ap stand_of (kept ge) ∙ ap stand_of entered in
          subst (Explored job budget (path ∷ []) (stand_of p)) (sym stand) (kept_here job budget path (stand_of p) cycles open_ going takes (omega (arith, ge, same)) behind)
    ])

pub explored_left : (t : TableValue) (job : JobValue) (budget more : ℕ) (path : List ℕ) (end : ℕ) (p q : Progress) → t.job ≡ job → IsSoundTable t → HasPlaced t path end → IsLateAt t q.cycles → q ≡ record p { entered = p.entered + 1 }
    → IsOpen job path → p.refused ≡ false → NoneBefore job path p.best.items → Explored job budget (walk_from job more path) (stand_of p) (stand_of q)
explored_left t job budget more path end p q same sound has late entered open_ going behind =
    let head = walk_head job more path in
    let cycles : q.cycles ≡ p.cycles = ap (λ (x : Progress). x.cycles) entered in
    subst (λ (ws : List (List ℕ)). Explored job budget ws (stand_of p) (stand_of q)) (sym head.1)
    (subst (λ (x : Progress). Explored job budget (path ∷ head.0) (stand_of p) (stand_of x)) (sym entered)
    (left_here job budget path head.0 (stand_of p) (subst (All (Extends path)) head.1 (walk_extends job more path)) open_ going behind (λ rest c topological takes.
    let most = late_below t path end q.cycles sound.job has late rest c (subst (λ (j : JobValue). IsTopological j (path ++ rest)) (sym same) topological) (subst (λ (j : JobValue). Takes j (path ++ rest) c) (sym same) takes) in
    omega (arith, most, cycles))))

-- ---- the loop

pub explored_entered : (job : JobValue) (budget more : ℕ) (path : List ℕ) (p q : Progress) → q ≡ record p { entered = p.entered + 1 } → IsOpen job path → p.refused ≡ false → (length path ≡ length job.tests → ⊥) → Explored job budget (tried job more path 0) (stand_of p) (stand_of q)
explored_entered job budget more path p q entered open_ going short =
    subst (λ (x : Progress). Explored job budget (path ∷ []) (stand_of p) (stand_of x)) (sym entered)
    (entered_here job budget path (stand_of p) open_ going (λ topological. short (topological_long job path topological)))

pub taken_out : (job : JobValue) (budget more : ℕ) (path : List ℕ) (place test : ℕ) (a b c : Stand) → place < length (followers job path) → test ≡ get_or (followers job path) place 0 → b.refused ≡ false
    → Explored job budget (tried job more path place) a b → Explored job budget (walk_from job more (path ++ test ∷ [])) b c → Explored job budget (tried job more path (place + 1)) a c
taken_out job budget more path place test a b c within at going one two =
    subst (λ (ws : List (List ℕ)). Explored job budget ws a c) (sym (tried_more job more path place within))
    (joined job budget (tried job more path place) (walk_from job more (path ++ get_or (followers job path) place 0 ∷ [])) a b c going one (subst (λ (n : ℕ). Explored job budget (walk_from job more (path ++ n ∷ [])) b c) at two))

-- below a test that follows
pub followed : (job : JobValue) (budget tests : ℕ) (path pushed : List ℕ) (test : ℕ) (a b : Stand) → pushed ≡ path ++ test ∷ [] → Explored job budget (walk_from job (tests - length pushed) pushed) a b → Explored job budget (walk_from job (tests - length path - 1) (path ++ test ∷ [])) a b
followed job budget tests path pushed test a b is explored =
    let more : tests - length pushed ≡ tests - length path - 1 = omega (arith, ap length is, length-append path (test ∷ [])) in
    subst (λ (n : ℕ). Explored job budget (walk_from job n (path ++ test ∷ [])) a b) more (subst (λ (l : List ℕ). Explored job budget (walk_from job (tests - length pushed) l) a b) is explored)

pub child_of : (job : JobValue) (budget : ℕ) (path now : List ℕ) (test : ℕ) (a b : Stand) → now ≡ path → Explored job budget (walk_from job (length job.tests - length now - 1) (now ++ test ∷ [])) a b → Explored job budget (walk_from job (length job.tests - length path - 1) (path ++ test ∷ [])) a b
child_of job budget path now test a b same explored = subst (λ (l : List ℕ). Explored job budget (walk_from job (length job.tests - length l - 1) (l ++ test ∷ [])) a b) same explored

pub walk_stopped : (job : JobValue) (budget more : ℕ) (path : List ℕ) (place : ℕ) (a b : Stand) → 0 < more → b.refused ≡ true → Explored job budget (tried job (more - 1) path place) a b → Explored job budget (walk_from job more path) a b
walk_stopped job budget more path place a b some refused one =
    subst (λ (ws : List (List ℕ)). Explored job budget ws a b) (sym (walk_split job more path place some)) (stopped job budget (tried job (more - 1) path place) (left job (more - 1) path place) a b refused one)

pub walk_ended : (job : JobValue) (budget more : ℕ) (path : List ℕ) (place : ℕ) (a b : Stand) → 0 < more → place ≡ length (followers job path) → Explored job budget (tried job (more - 1) path place) a b → Explored job budget (walk_from job more path) a b
walk_ended job budget more path place a b some all one =
    subst (λ (ws : List (List ℕ)). Explored job budget ws a b) (sym (walk_all job more path some)) (subst (λ (n : ℕ). Explored job budget (tried job (more - 1) path n) a b) all one)

-- ---- a test is placed

pub may_place : (t : TableValue) (job : JobValue) (path : List ℕ) (end test start : ℕ) → t.job ≡ job → IsSoundTable t → HasPlaced t path end → test < length job.tests → may_follow job path test ≡ true → IsEarliest t.job t.placed test start → start + cycles_of t.job test ≤ 10 ^ 18 → MayPlace t.job t.placed test start
may_place t job path end test start same sound has inside may earliest ends =
    let ready = ready_from job path test inside may in
    record {
      in_job = subst (λ (j : JobValue). test < length j.tests) (sym same) inside;
      new = placed_not t.placed path test has.in_order ready.new;
      ready = λ earlier before. placed_has t.placed path earlier has.in_order (ready.after earlier (subst (λ (j : JobValue). Precedes j earlier test) same before));
      fits = earliest.fits;
      ends = ends;
    }

pub one_placed : (t t' : TableValue) (path path' : List ℕ) (end end' test start : ℕ) → HasPlaced t path end → IsEarliest t.job t.placed test start → t' ≡ record t { placed = t.placed ++ at_start test start ∷ [] } → path' ≡ path ++ test ∷ [] → end' ≡ max end (start + cycles_of t.job test) → HasPlaced t' path' end'
one_placed t t' path path' end end' test start has here grown pushed ends =
    subst (λ (v : TableValue). HasPlaced v path' end') (sym grown) (record {
      in_order = map-append (λ (p : Placement). p.test) t.placed (at_start test start ∷ []) ∙ ap (λ (l : List ℕ). l ++ test ∷ []) has.in_order ∙ sym pushed;
      list = next_list t.job t.placed test start has.list here;
      ends = ends ∙ ap (λ (n : ℕ). max n (start + cycles_of t.job test)) has.ends ∙ sym (last_push t.job t.placed (at_start test start));
    })

pub open_below : (t : TableValue) (job : JobValue) (path path' : List ℕ) (end cycles test : ℕ) → t.job ≡ job → HasPlaced t path end → AreInTime t cycles → AtMostFirst job cycles → IsOpen job path → path' ≡ path ++ test ∷ [] → IsOpen job path'
open_below t job path path' end cycles test same has in_time most open_ pushed =
    let free : IsShut job path → ⊥ = λ shut. not_shut t path end cycles has in_time (subst (λ (j : JobValue). AtMostFirst j cycles) (sym same) most) (subst (λ (j : JobValue). IsShut j path) (sym same) shut) in
    subst (IsOpen job) (sym pushed) (open_more job path test open_ free)

-- the best doesn't stand behind orders that begin with a test that is tried later
pub none_before_rest : (job : JobValue) (more : ℕ) (path tests : List ℕ) (place test : ℕ) (a b : Stand) → AreInOrder job tests → test ≡ get_or tests place 0
    → ((later : ℕ) → place ≤ later → later < length tests → NoneBefore job (path ++ get_or tests later 0 ∷ []) a.best) → IsKeptOrFewer (walk_from job more (path ++ test ∷ [])) a b
    → (later : ℕ) → place + 1 ≤ later → later < length tests → NoneBefore job (path ++ get_or tests later 0 ∷ []) b.best
none_before_rest job more path tests place test a b order at before (inl same) later from within = subst (NoneBefore job (path ++ get_or tests later 0 ∷ [])) (sym same.0) (before later (omega (arith, from)) within)
none_before_rest job more path tests place test a b order at before (inr fewer) later from within =
    none_before_later job more path b.best tests place later order (omega (arith, from)) within (subst (λ (n : ℕ). Contains (walk_from job more (path ++ n ∷ [])) b.best) at fewer.1)

-- ---- a turn of the loop

pub taken_back : (t u v : TableValue) (n test start : ℕ) → v ≡ record { job = u.job; placed = take n u.placed } → u ≡ record t { placed = t.placed ++ at_start test start ∷ [] } → n ≡ length t.placed → v ≡ t
taken_back t u v n test start back grown before =
    back ∙ ap (λ (x : TableValue). (let r : TableValue = record { job = x.job; placed = take n x.placed } in r)) grown
    ∙ ap (λ (l : List Placement). (let r : TableValue = record { job = t.job; placed = l } in r)) (take_at t.placed (at_start test start ∷ []) n (sym before))

-- ---- whether any are left

pub none_left : (n : ℕ) (b : Bool) → b ≡ nat_eq n 0 → b ≡ true → n ≡ 0
none_left n b is e = eqb-true n 0 (sym is ∙ e)

pub some_left : (n : ℕ) (b : Bool) → b ≡ nat_eq n 0 → b ≡ false → 0 < n
some_left zero b is e = absurd cc
some_left (suc n) b is e = omega arith
