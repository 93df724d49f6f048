-- What a search finds.
use Rattle.std.proofs.Common.{◌≡◌, ◌⊎◌, inl, inr, ℕ, ◌+◌, ◌-◌, ◌<◌, ◌≤◌, Bool, true, false, not, List, [], ◌∷◌, ◌++◌, length, get_or, take, map, refl, sym, ◌∙◌, ap, subst, arith}
use Rattle.std.proofs.lemmas.List.{map-append, take_more}
use Rattle.resource_table.specs.declared.Placement.{Placement}
use Rattle.resource_table.specs.Jobs.{JobValue, Precedes}
use Rattle.resource_table.specs.Schedules.{TableValue, at_start, last_end, is_placed, IsEarliest, IsListSchedule}
use Rattle.resource_table.proofs.Schedules.{next_list}
use Rattle.schedule_search.specs.Orders.{IsTopological, IsFirstOrder}
use Rattle.schedule_search.specs.OrderCycles.{Takes}
use Rattle.schedule_search.specs.Exchanges.{NoExchangeHelps}
use Rattle.schedule_search.specs.Walks.{stands_before, walk_from, walk}
use Rattle.schedule_search.specs.Progress.{Stand, IsBest, NoneBefore, NoBetter, Explored}
use Rattle.schedule_search.specs.Found.{IsFound}
use Rattle.schedule_search.specs.Noted.{HasNoted, AreStarts}
use Rattle.schedule_search.specs.Begun.{IsBegun, IsImproved, IsSearched}
use Rattle.schedule_search.proofs.PlacedOrders.{placed_has, placed_not, next_ready}
use Rattle.schedule_search.proofs.CycleCounts.{same_placed, takes_once}
use Rattle.schedule_search.proofs.Bests.{none_before_first, one_first}
use Rattle.schedule_search.proofs.Walking.{in_walk}
use Rattle.schedule_search.proofs.Stretches.{whole_shown, within_shown, more_open}

-- ---- starts

pub none_noted : (t : TableValue) (order starts : List ℕ) → t.placed ≡ [] → starts ≡ [] → HasNoted t (take 0 order) starts
none_noted t order starts empty none = record {
  in_order = ap (map (λ (p : Placement). p.test)) empty;
  list = subst (IsListSchedule t.job) (sym empty) (λ n p at. absurd cc);
  starts_are = none ∙ ap (map (λ (p : Placement). p.start)) (sym empty);
}

pub noted_more : (t t' : TableValue) (order : List ℕ) (k : ℕ) (starts starts' : List ℕ) (start : ℕ) → HasNoted t (take k order) starts → k < length order → IsEarliest t.job t.placed (get_or order k 0) start
    → t' ≡ record t { placed = t.placed ++ at_start (get_or order k 0) start ∷ [] } → starts' ≡ starts ++ start ∷ [] → HasNoted t' (take (k + 1) order) starts'
noted_more t t' order k starts starts' start noted within here grown more =
    let test : ℕ = get_or order k 0 in
    subst (λ (v : TableValue). HasNoted v (take (k + 1) order) starts') (sym grown) (record {
      in_order = map-append (λ (p : Placement). p.test) t.placed (at_start test start ∷ []) ∙ ap (λ (l : List ℕ). l ++ test ∷ []) noted.in_order ∙ sym (take_more order k 0 within);
      list = next_list t.job t.placed test start noted.list here;
      starts_are = more ∙ ap (λ (l : List ℕ). l ++ start ∷ []) noted.starts_are ∙ sym (map-append (λ (p : Placement). p.start) t.placed (at_start test start ∷ []));
    })

pub next_free : (t : TableValue) (job : JobValue) (order : List ℕ) (k : ℕ) (starts : List ℕ) → IsTopological job order → k < length order → HasNoted t (take k order) starts → is_placed t.placed (get_or order k 0) ≡ false
next_free t job order k starts topological within noted = placed_not t.placed (take k order) (get_or order k 0) noted.in_order (next_ready job order k topological within).new

pub next_placed : (t : TableValue) (job : JobValue) (order : List ℕ) (k : ℕ) (starts : List ℕ) → IsTopological job order → k < length order → HasNoted t (take k order) starts → t.job ≡ job → (earlier : ℕ) → Precedes t.job earlier (get_or order k 0) → is_placed t.placed earlier ≡ true
next_placed t job order k starts topological within noted same earlier before =
    placed_has t.placed (take k order) earlier noted.in_order ((next_ready job order k topological within).after earlier (subst (λ (j : JobValue). Precedes j earlier (get_or order k 0)) same before))

pub starts_noted : (t : TableValue) (job : JobValue) (order starts : List ℕ) → t.job ≡ job → HasNoted t order starts → AreStarts job order starts
starts_noted t job order starts same noted cycles takes =
    let list : IsListSchedule job t.placed = subst (λ (j : JobValue). IsListSchedule j t.placed) same noted.list in
    let placed : takes.placed ≡ t.placed = same_placed job takes.placed t.placed (takes.in_order ∙ sym noted.in_order) takes.list list in
    record {
      placed = t.placed;
      in_order = noted.in_order;
      list = list;
      starts_are = noted.starts_are;
      ends = takes.ends ∙ ap (last_end job) placed;
    }

-- ---- the search

pub begun_best : (job : JobValue) (first : List ℕ) (s : Stand) → IsFirstOrder job first → IsTopological job first → IsBegun job first s → IsBest job s
begun_best job first s is topological begun = record {
  topological = subst (IsTopological job) (sym begun.best) topological;
  takes = subst (λ (l : List ℕ). Takes job l s.cycles) (sym begun.best) begun.takes;
  at_most_first = λ other c is' takes. only other c is' takes;
}
  where
    only : (other : List ℕ) (c : ℕ) → IsFirstOrder job other → Takes job other c → s.cycles ≤ c
    only other c is' takes = omega (arith, takes_once job other s.cycles c (subst (λ (l : List ℕ). Takes job l s.cycles) (one_first job first other is is') begun.takes) takes)

pub begun_behind : (job : JobValue) (first : List ℕ) (s : Stand) (path : List ℕ) → IsFirstOrder job first → IsBegun job first s → path ≡ [] → NoneBefore job path s.best
begun_behind job first s path is begun empty = subst (λ (l : List ℕ). NoneBefore job l s.best) (sym empty) (subst (NoneBefore job []) (sym begun.best) (none_before_first job first is))

fewer_than : (job : JobValue) (s : Stand) (order : List ℕ) (c : ℕ) → NoBetter job s order → IsTopological job order → Takes job order c → s.cycles ≤ c
fewer_than job s order c none topological takes = elim (none c topological takes) [ inl more ↦ omega (arith, more) | inr tie ↦ omega (arith, tie.0) ]

pub searched : (job : JobValue) (budget : ℕ) (first : List ℕ) (a b d : Stand) → IsBegun job first a → IsBest job b → Explored job budget (walk job) a b → IsImproved job b d → IsSearched job budget d
searched job budget first a b d begun best explored better = record {
  topological = better.topological;
  takes = better.takes;
  at_most_first = λ first' c is takes. (let most = best.at_most_first first' c is takes in omega (arith, most, fewer));
  within = λ other c in_ takes. (let most = fewer_than job b other c (within_shown job budget (walk job) a b begun.none explored other in_.early) in_.topological takes in omega (arith, most, fewer));
  no_gain = better.no_gain;
  fewest = λ going other c topological takes. (let most = fewer_than job b other c (all going other topological) topological takes in omega (arith, most, fewer));
  earliest = λ going other topological takes. tie other (all going other topological d.cycles topological takes);
  refused = λ is. more_open job budget a b begun.none (sym better.refused ∙ is) explored;
}
  where
    fewer : d.cycles ≤ b.cycles
    fewer = better.most

    all : d.refused ≡ false → (other : List ℕ) → IsTopological job other → NoBetter job b other
    all going other topological = whole_shown job budget (walk job) a b (sym better.refused ∙ going) explored other (in_walk job other topological)

    tie : (other : List ℕ) → (b.cycles < d.cycles) ⊎ ((b.cycles ≡ d.cycles) × (stands_before job other b.best ≡ false)) → stands_before job other d.best ≡ false
    tie other (inl less) = absurd (omega (arith, less, fewer))
    tie other (inr same) = ap (stands_before job other) (better.same (sym same.0)) ∙ same.1

not_back : (b c : Bool) → c ≡ not b → c ≡ true → b ≡ false
not_back true c is e = cc
not_back false c is e = refl

back_not : (b c : Bool) → c ≡ not b → c ≡ false → b ≡ true
back_not true c is e = refl
back_not false c is e = cc

pub found : (job : JobValue) (budget : ℕ) (s : Stand) (order starts : List ℕ) (cycles : ℕ) (complete : Bool) → IsSearched job budget s → AreStarts job s.best starts → order ≡ s.best → cycles ≡ s.cycles → complete ≡ not s.refused → IsFound job budget order starts cycles complete
found job budget s order starts cycles complete searched_ starts_ order_is cycles_is complete_is =
    subst (λ (l : List ℕ). IsFound job budget l starts cycles complete) (sym order_is) (subst (λ (n : ℕ). IsFound job budget s.best starts n complete) (sym cycles_is) (record {
      topological = searched_.topological;
      schedule = starts_ s.cycles searched_.takes;
      at_most_first = searched_.at_most_first;
      within = searched_.within;
      no_gain = searched_.no_gain;
      fewest = λ e. searched_.fewest (not_back s.refused complete complete_is e);
      earliest = λ e. searched_.earliest (not_back s.refused complete complete_is e);
      refused = λ e. searched_.refused (back_not s.refused complete complete_is e);
    }))

-- the walk from the empty prefix is the whole one
pub explored_all : (job : JobValue) (budget : ℕ) (path : List ℕ) (a b : Stand) → path ≡ [] → Explored job budget (walk_from job (length job.tests - length path) path) a b → Explored job budget (walk job) a b
explored_all job budget path a b empty explored =
    let none : List ℕ = [] in
    let all : length job.tests - length none ≡ length job.tests = omega arith in
    subst (λ (n : ℕ). Explored job budget (walk_from job n []) a b) all (subst (λ (l : List ℕ). Explored job budget (walk_from job (length job.tests - length l) l) a b) empty explored)

-- an exchanged order
pub improved : (job : JobValue) (a : Stand) (order : List ℕ) (cycles : ℕ) → IsTopological job order → Takes job order cycles → cycles ≤ a.cycles → (cycles ≡ a.cycles → order ≡ a.best) → NoExchangeHelps job order cycles → IsImproved job a (record a { best = order; cycles = cycles })
improved job a order cycles topological takes most same none = record {
  topological = topological;
  takes = takes;
  most = most;
  same = same;
  refused = refl;
  no_gain = λ few. none;
}
