-- The tests of an order are placed one by one.
use Rattle.std.proofs.Common.{◌≡◌, inl, inr, ℕ, ◌+◌, ◌<◌, ◌≤◌, max, Some, List, [], ◌∷◌, ◌++◌, length, get_or, take, map, true, false, sym, ◌∙◌, ap, subst, arith, append_assoc, length-append, slice_get, nat_eq, Contains}
use Rattle.std.proofs.lemmas.Bool.{cases_Bool, eqb-true, eq-eqb}
use Rattle.std.proofs.lemmas.List.{take_more, take_at, map-append}
use Rattle.std.proofs.lemmas.Option.{slice_get-get_or, slice_get-map}
use Rattle.plan_model.proofs.Lists.{at_contains, any_from}
use Rattle.resource_table.specs.declared.Placement.{Placement}
use Rattle.resource_table.specs.Jobs.{JobValue, cycles_of, Precedes}
use Rattle.resource_table.specs.Schedules.{TableValue, at_start, is_placed, last_end, IsEarliest, IsListSchedule}
use Rattle.resource_table.proofs.Schedules.{last_push, next_list}
use Rattle.schedule_search.specs.Orders.{IsReady, IsTopological, IsFirstOrder}
use Rattle.schedule_search.specs.OrderCycles.{Takes, HasPlaced}
use Rattle.common_lemmas.proofs.Lists.{from_map, contains_at, any_at}

pub placed_has : (placed : List Placement) (tests : List ℕ) (test : ℕ) → map (λ (p : Placement). p.test) placed ≡ tests → Contains tests test → is_placed placed test ≡ true
placed_has placed tests test is there =
    let at = contains_at tests test there in
    let p = from_map (λ (p : Placement). p.test) placed at.0 test (ap (λ (l : List ℕ). slice_get l at.0) is ∙ at.1) in
    any_from (λ (p : Placement). nat_eq p.test test) placed at.0 p.0 p.1 (eq-eqb (p.0).test test p.2)

pub placed_not : (placed : List Placement) (tests : List ℕ) (test : ℕ) → map (λ (p : Placement). p.test) placed ≡ tests → (Contains tests test → ⊥) → is_placed placed test ≡ false
placed_not placed tests test is new = elim (cases_Bool (is_placed placed test)) [
  | inl yes' ↦
      let a = any_at (λ (p : Placement). nat_eq p.test test) placed yes' in
      let there : slice_get (map (λ (p : Placement). p.test) placed) a.0 ≡ Some test = slice_get-map (λ (p : Placement). p.test) placed a.0 ∙ rw a.2 (ap Some (eqb-true (a.1).test test a.3)) in
      absurd (new (at_contains tests a.0 test (ap (λ (l : List ℕ). slice_get l a.0) (sym is) ∙ there)))
  | inr no' ↦ no'
]

-- the next test of an order is ready
pub next_ready : (job : JobValue) (order : List ℕ) (k : ℕ) → IsTopological job order → k < length order → IsReady job (take k order) (get_or order k 0)
next_ready job order k topological within = topological.ready k (get_or order k 0) (slice_get-get_or order k 0 within)

pub next_new : (t : TableValue) (job : JobValue) (order : List ℕ) (k cycles : ℕ) → IsTopological job order → k < length order → HasPlaced t (take k order) cycles → is_placed t.placed (get_or order k 0) ≡ false
next_new t job order k cycles topological within placed = placed_not t.placed (take k order) (get_or order k 0) placed.in_order (next_ready job order k topological within).new

pub next_after : (t : TableValue) (job : JobValue) (order : List ℕ) (k cycles : ℕ) → IsTopological job order → k < length order → HasPlaced t (take k order) cycles → t.job ≡ job → (earlier : ℕ) → Precedes t.job earlier (get_or order k 0) → is_placed t.placed earlier ≡ true
next_after t job order k cycles topological within placed same earlier before =
    placed_has t.placed (take k order) earlier placed.in_order ((next_ready job order k topological within).after earlier (subst (λ (j : JobValue). Precedes j earlier (get_or order k 0)) same before))

-- nothing is placed at first
pub none_placed : (t : TableValue) (order : List ℕ) → t.placed ≡ [] → HasPlaced t (take 0 order) 0
none_placed t order empty = record {
  in_order = ap (map (λ (p : Placement). p.test)) empty;
  list = subst (IsListSchedule t.job) (sym empty) (λ n p at. absurd cc);
  ends = ap (last_end t.job) (sym empty);
}

-- and one test more each time
pub placed_more : (t t' : TableValue) (order : List ℕ) (k cycles cycles' start : ℕ) → HasPlaced t (take k order) cycles → k < length order → IsEarliest t.job t.placed (get_or order k 0) start
    → t' ≡ record t { placed = t.placed ++ at_start (get_or order k 0) start ∷ [] } → cycles' ≡ max cycles (start + cycles_of t.job (get_or order k 0))
    → HasPlaced t' (take (k + 1) order) cycles'
placed_more t t' order k cycles cycles' start placed within here grown ends =
    let test : ℕ = get_or order k 0 in
    subst (λ (v : TableValue). HasPlaced v (take (k + 1) order) cycles') (sym grown) (record {
      in_order = map-append (λ (p : Placement). p.test) t.placed (at_start test start ∷ []) ∙ ap (λ (l : List ℕ). l ++ test ∷ []) placed.in_order ∙ sym (take_more order k 0 within);
      list = next_list t.job t.placed test start placed.list here;
      ends = ends ∙ ap (λ (n : ℕ). max n (start + cycles_of t.job test)) placed.ends ∙ sym (last_push t.job t.placed (at_start test start));
    })

-- what a table holds takes as long in its job
pub takes_placed : (t : TableValue) (job : JobValue) (order : List ℕ) (cycles : ℕ) → t.job ≡ job → HasPlaced t order cycles → Takes job order cycles
takes_placed t job order cycles same placed = record {
  placed = t.placed;
  in_order = placed.in_order;
  list = subst (λ (j : JobValue). IsListSchedule j t.placed) same placed.list;
  ends = placed.ends ∙ ap (λ (j : JobValue). last_end j t.placed) same;
}

-- ---- the first order is topological

pub first_topological : (job : JobValue) (order : List ℕ) → IsFirstOrder job order → IsTopological job order
first_topological job order first = record { ready = λ n test at. (first.longest n test at).ready; whole = first.whole }

-- a placement and those after it are taken back
pub placed_back : (t u v x : TableValue) (n test start : ℕ) → v ≡ record { job = u.job; placed = take n u.placed } → u.job ≡ x.job → (rest : List Placement) × (u.placed ≡ x.placed ++ rest) → x ≡ record t { placed = t.placed ++ at_start test start ∷ [] } → n ≡ length t.placed → v ≡ t
placed_back t u v x n test start back job more grown before =
    let whole : u.placed ≡ t.placed ++ (at_start test start ∷ more.0) = more.1 ∙ ap (λ (y : TableValue). y.placed ++ more.0) grown ∙ append_assoc t.placed (at_start test start ∷ []) more.0 in
    let front : take n u.placed ≡ t.placed = ap (take n) whole ∙ take_at t.placed (at_start test start ∷ more.0) n (sym before) in
    let same : u.job ≡ t.job = job ∙ ap (λ (y : TableValue). y.job) grown in
    back ∙ ap (λ (l : List Placement). (let r : TableValue = record { job = u.job; placed = l } in r)) front ∙ ap (λ (j : JobValue). (let r : TableValue = record { job = j; placed = t.placed } in r)) same

pub placed_long : (t u x : TableValue) (n test start : ℕ) → (rest : List Placement) × (u.placed ≡ x.placed ++ rest) → x ≡ record t { placed = t.placed ++ at_start test start ∷ [] } → n ≡ length t.placed → n ≤ length u.placed
placed_long t u x n test start more grown before =
    omega (arith, before, ap length more.1, length-append x.placed more.0, ap (λ (y : TableValue). length y.placed) grown, length-append t.placed (at_start test start ∷ []))
