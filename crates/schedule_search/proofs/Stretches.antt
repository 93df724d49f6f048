-- How stretches of the walk join, and what a whole one has shown.
use Rattle.std.proofs.Common.{◌≡◌, ◌⊎◌, inl, inr, ℕ, ◌+◌, ◌<◌, ◌≤◌, true, false, true≢false, List, [], ◌∷◌, ◌++◌, length, take, refl, sym, ◌∙◌, ap, subst, arith, length-append, All, Contains}
use Rattle.std.proofs.Math.Seq.{take-append-add}
use Rattle.std.proofs.lemmas.Bool.{cases_lt, cases_Bool}
use Rattle.std.proofs.lemmas.List.{append-nil, take_all, take-take, take-append-le}
use Rattle.std.proofs.lemmas.List.Elements.{All-nil, All-cons, All-append, All-weaker, All-take, All-contains, Contains-append_left, Contains-append_right}
use Rattle.plan_model.proofs.Lists.{at_contains}
use Rattle.resource_table.specs.Jobs.{JobValue}
use Rattle.schedule_search.specs.Orders.{IsTopological}
use Rattle.schedule_search.specs.OrderCycles.{Takes}
use Rattle.schedule_search.specs.Walks.{stands_before, StandIn, IsOpen, walk, HasMoreOpen}
use Rattle.schedule_search.specs.Progress.{Stand, NoneBefore, NoBetter, IsKeptOrFewer, Explored}
use Rattle.schedule_search.proofs.CycleCounts.{takes_once}
use Rattle.schedule_search.proofs.Comparing.{same_stays}
use Rattle.schedule_search.proofs.Walking.{Extends}

-- ---- entries that stand in a stretch

stand_more : {X : Type 0} (es xs ys : List X) → StandIn es xs → StandIn es (xs ++ ys)
stand_more [] xs ys in_ = tt
stand_more (e ∷ es) [] ys in_ = absurd in_
stand_more (e ∷ es) (x ∷ xs) ys (inl here) = inl (here.0, stand_more es xs ys here.1)
stand_more (e ∷ es) (x ∷ xs) ys (inr later) = inr (stand_more (e ∷ es) xs ys later)

stand_later : {X : Type 0} (es xs ys : List X) → StandIn es ys → StandIn es (xs ++ ys)
stand_later [] xs ys in_ = tt
stand_later (e ∷ es) [] ys in_ = in_
stand_later (e ∷ es) (x ∷ xs) ys in_ = inr (stand_later (e ∷ es) xs ys in_)

stand_both : {X : Type 0} (es fs xs ys : List X) → StandIn es xs → StandIn fs ys → StandIn (es ++ fs) (xs ++ ys)
stand_both [] fs xs ys in_ in' = stand_later fs xs ys in'
stand_both (e ∷ es) fs [] ys in_ in' = absurd in_
stand_both (e ∷ es) fs (x ∷ xs) ys (inl here) in' = inl (here.0, stand_both es fs xs ys here.1 in')
stand_both (e ∷ es) fs (x ∷ xs) ys (inr later) in' = inr (stand_both (e ∷ es) fs xs ys later in')

-- ---- the best order

no_better_on : (job : JobValue) (ws : List (List ℕ)) (a b : Stand) (w : List ℕ) → IsKeptOrFewer ws a b → NoBetter job a w → NoBetter job b w
no_better_on job ws a b w (inl same) before c topological takes = elim (before c topological takes) [
  | inl more ↦ inl (omega (arith, more, same.1))
  | inr tie ↦ inr (same.1 ∙ tie.0, ap (stands_before job w) same.0 ∙ tie.1)
]
no_better_on job ws a b w (inr fewer) before c topological takes = elim (before c topological takes) [
  | inl more ↦ inl (omega (arith, more, fewer.0))
  | inr tie ↦ inl (omega (arith, tie.0, fewer.0))
]

kept_on : (xs ys : List (List ℕ)) (a b c : Stand) → IsKeptOrFewer xs a b → IsKeptOrFewer ys b c → IsKeptOrFewer (xs ++ ys) a c
kept_on xs ys a b c (inl same) (inl same') = inl (same'.0 ∙ same.0, same'.1 ∙ same.1)
kept_on xs ys a b c (inl same) (inr fewer') = inr (omega (arith, same.1, fewer'.0), Contains-append_right xs ys c.best fewer'.1)
kept_on xs ys a b c (inr fewer) (inl same') = inr (omega (arith, same'.1, fewer.0), Contains-append_left xs ys c.best (subst (Contains xs) (sym same'.0) fewer.1))
kept_on xs ys a b c (inr fewer) (inr fewer') = inr (omega (arith, fewer.0, fewer'.0), Contains-append_right xs ys c.best fewer'.1)

-- ---- stretches

module _ (job : JobValue) (budget : ℕ) where
  -- a prefix was refused
  pub refused_here : (prefix : List ℕ) (more : List (List ℕ)) (old : Stand) → IsOpen job prefix → old.entered ≡ budget → Explored job budget (prefix ∷ more) old (record old { refused = true })
  refused_here prefix more old open_ is = record {
    done = 0;
    some = omega arith;
    no_better = All-nil (NoBetter job (record old { refused = true }));
    best = inl (refl, refl);
    entered = omega arith;
    whole = λ e. absurd (true≢false e);
    spent = λ _. is;
    entries = prefix ∷ [];
    in_walk = inl (refl, tt);
    are_open = All-cons (IsOpen job) prefix [] open_ (All-nil (IsOpen job));
    counted = omega arith;
    more = λ _. omega (arith, is);
  }

  -- nothing was entered
  pub nothing_here : (old : Stand) → old.refused ≡ false → Explored job budget [] old old
  nothing_here old going = record {
    done = 0;
    some = omega arith;
    no_better = All-nil (NoBetter job old);
    best = inl (refl, refl);
    entered = omega arith;
    whole = λ _. refl;
    spent = λ e. absurd (true≢false (sym e ∙ going));
    entries = [];
    in_walk = tt;
    are_open = All-nil (IsOpen job);
    counted = omega arith;
    more = λ e. absurd (true≢false (sym e ∙ going));
  }

  -- a prefix was entered that is no order
  pub entered_here : (prefix : List ℕ) (old : Stand) → IsOpen job prefix → old.refused ≡ false → (IsTopological job prefix → ⊥) → Explored job budget (prefix ∷ []) old (record old { entered = old.entered + 1 })
  entered_here prefix old open_ going part = record {
    done = 1;
    some = omega arith;
    no_better = All-cons (NoBetter job (record old { entered = old.entered + 1 })) prefix [] (λ c topological takes. absurd (part topological)) (All-nil (NoBetter job (record old { entered = old.entered + 1 })));
    best = inl (refl, refl);
    entered = omega arith;
    whole = λ _. refl;
    spent = λ e. absurd (true≢false (sym e ∙ going));
    entries = prefix ∷ [];
    in_walk = inl (refl, tt);
    are_open = All-cons (IsOpen job) prefix [] open_ (All-nil (IsOpen job));
    counted = omega arith;
    more = λ e. absurd (true≢false (sym e ∙ going));
  }

  -- an order was entered that takes fewer cycles
  pub fewer_here : (order : List ℕ) (old : Stand) (cycles : ℕ) → IsOpen job order → old.refused ≡ false → Takes job order cycles → cycles < old.cycles → Explored job budget (order ∷ []) old (record old { best = order; cycles = cycles; entered = old.entered + 1 })
  fewer_here order old cycles open_ going takes fewer =
      let new : Stand = record old { best = order; cycles = cycles; entered = old.entered + 1 } in record {
        done = 1;
        some = omega arith;
        no_better = All-cons (NoBetter job new) order [] (λ c topological takes'. inr (takes_once job order cycles c takes takes', same_stays job order)) (All-nil (NoBetter job new));
        best = inr (fewer, at_contains (order ∷ []) 0 order refl);
        entered = omega arith;
        whole = λ _. refl;
        spent = λ e. absurd (true≢false (sym e ∙ going));
        entries = order ∷ [];
        in_walk = inl (refl, tt);
        are_open = All-cons (IsOpen job) order [] open_ (All-nil (IsOpen job));
        counted = omega arith;
        more = λ e. absurd (true≢false (sym e ∙ going));
      }

  no_better_tie : (old : Stand) (order : List ℕ) (cycles c : ℕ) → old.cycles ≤ c → stands_before job order old.best ≡ false → (old.cycles < c) ⊎ ((old.cycles ≡ c) × (stands_before job order old.best ≡ false))
  no_better_tie old order cycles c most behind = elim (cases_lt old.cycles c) [
    | inl less ↦ inl less
    | inr ge ↦ inr (omega (arith, most, ge), behind)
  ]

  -- an order was entered that doesn't
  pub kept_here : (order : List ℕ) (old : Stand) (cycles : ℕ) → IsOpen job order → old.refused ≡ false → Takes job order cycles → old.cycles ≤ cycles → NoneBefore job order old.best → Explored job budget (order ∷ []) old (record old { entered = old.entered + 1 })
  kept_here order old cycles open_ going takes most behind =
      let new : Stand = record old { entered = old.entered + 1 } in record {
        done = 1;
        some = omega arith;
        no_better = All-cons (NoBetter job new) order [] (λ c topological takes'.
            let same = takes_once job order cycles c takes takes' in
            no_better_tie old order cycles c (omega (arith, same, most)) (ap (λ l. stands_before job l old.best) (sym (append-nil order)) ∙ behind [] (subst (IsTopological job) (sym (append-nil order)) topological))) (All-nil (NoBetter job new));
        best = inl (refl, refl);
        entered = omega arith;
        whole = λ _. refl;
        spent = λ e. absurd (true≢false (sym e ∙ going));
        entries = order ∷ [];
        in_walk = inl (refl, tt);
        are_open = All-cons (IsOpen job) order [] open_ (All-nil (IsOpen job));
        counted = omega arith;
        more = λ e. absurd (true≢false (sym e ∙ going));
      }

  -- a prefix was entered, below which no order takes fewer cycles
  pub left_here : (prefix : List ℕ) (more : List (List ℕ)) (old : Stand) → All (Extends prefix) (prefix ∷ more) → IsOpen job prefix → old.refused ≡ false → NoneBefore job prefix old.best → ((rest : List ℕ) (c : ℕ) → IsTopological job (prefix ++ rest) → Takes job (prefix ++ rest) c → old.cycles ≤ c)
      → Explored job budget (prefix ∷ more) old (record old { entered = old.entered + 1 })
  left_here prefix more old extend open_ going behind late =
      let new : Stand = record old { entered = old.entered + 1 } in record {
        done = length (prefix ∷ more);
        some = omega arith;
        no_better = All-take (NoBetter job new) (length (prefix ∷ more)) (prefix ∷ more) (All-weaker (Extends prefix) (NoBetter job new) (λ w e c topological takes.
            let topological' = subst (IsTopological job) e.1 topological in
            no_better_tie old w c c (late e.0 c topological' (subst (λ l. Takes job l c) e.1 takes)) (ap (λ l. stands_before job l old.best) e.1 ∙ behind e.0 topological')) (prefix ∷ more) extend);
        best = inl (refl, refl);
        entered = omega arith;
        whole = λ _. refl;
        spent = λ e. absurd (true≢false (sym e ∙ going));
        entries = prefix ∷ [];
        in_walk = inl (refl, tt);
        are_open = All-cons (IsOpen job) prefix [] open_ (All-nil (IsOpen job));
        counted = omega arith;
        more = λ e. absurd (true≢false (sym e ∙ going));
      }

  done_all : (xs : List (List ℕ)) (n : ℕ) (s : Stand) → n ≡ length xs → All (NoBetter job s) (take n xs) → All (NoBetter job s) xs
  done_all xs n s is all = subst (All (NoBetter job s)) (take_all n xs (omega (arith, is))) all

  -- a stretch, and then another one
  pub joined : (xs ys : List (List ℕ)) (a b c : Stand) → b.refused ≡ false → Explored job budget xs a b → Explored job budget ys b c → Explored job budget (xs ++ ys) a c
  joined xs ys a b c going one two =
      let all = one.whole going in
      let first = All-weaker (NoBetter job b) (NoBetter job c) (λ w before. no_better_on job ys b c w two.best before) xs (done_all xs one.done b all one.no_better) in
      let len = length-append xs ys in
      let some' = two.some in
      let entered' = one.entered in
      let entered'' = two.entered in
      let counted' = one.counted in
      let counted'' = two.counted in
      let long = length-append one.entries two.entries in
      record {
        done = length xs + two.done;
        some = omega (arith, len, some');
        no_better = subst (All (NoBetter job c)) (sym (take-append-add xs ys two.done)) (All-append (NoBetter job c) xs (take two.done ys) first two.no_better);
        best = kept_on xs ys a b c one.best two.best;
        entered = omega (arith, entered', entered'', all);
        whole = λ e. let w = two.whole e in omega (arith, w, len);
        spent = two.spent;
        entries = one.entries ++ two.entries;
        in_walk = stand_both one.entries two.entries xs ys one.in_walk two.in_walk;
        are_open = All-append (IsOpen job) one.entries two.entries one.are_open two.are_open;
        counted = omega (arith, counted', counted'', long);
        more = λ e. let m = two.more e in omega (arith, m, counted', long);
      }

  kept_more : (xs ys : List (List ℕ)) (a b : Stand) → IsKeptOrFewer xs a b → IsKeptOrFewer (xs ++ ys) a b
  kept_more xs ys a b (inl same) = inl same
  kept_more xs ys a b (inr fewer) = inr (fewer.0, Contains-append_left xs ys b.best fewer.1)

  -- a stretch in which a prefix was refused, and what would come after it
  pub stopped : (xs ys : List (List ℕ)) (a b : Stand) → b.refused ≡ true → Explored job budget xs a b → Explored job budget (xs ++ ys) a b
  stopped xs ys a b refused one =
      let some' = one.some in
      let len = length-append xs ys in
      record {
        done = one.done;
        some = omega (arith, some', len);
        no_better = subst (All (NoBetter job b)) (sym (take-append-le one.done xs ys one.some)) one.no_better;
        best = kept_more xs ys a b one.best;
        entered = one.entered;
        whole = λ e. absurd (true≢false (sym refused ∙ e));
        spent = one.spent;
        entries = one.entries;
        in_walk = stand_more one.entries xs ys one.in_walk;
        are_open = one.are_open;
        counted = one.counted;
        more = one.more;
      }

  -- ---- a whole search

  -- in the end no order of the stretch is better, where none was refused
  pub whole_shown : (ws : List (List ℕ)) (old new : Stand) → new.refused ≡ false → Explored job budget ws old new → (order : List ℕ) → Contains ws order → NoBetter job new order
  whole_shown ws old new going e order there = All-contains (NoBetter job new) ws order (done_all ws e.done new (e.whole going) e.no_better) there

  -- and no order within the budget is better in any case
  pub within_shown : (ws : List (List ℕ)) (old new : Stand) → old.entered ≡ 0 → Explored job budget ws old new → (order : List ℕ) → Contains (take budget ws) order → NoBetter job new order
  within_shown ws old new none e order there = elim (cases_Bool new.refused) [
    | inr going ↦ All-contains (NoBetter job new) (take budget ws) order (All-take (NoBetter job new) budget ws (done_all ws e.done new (e.whole going) e.no_better)) there
    | inl refused ↦
        let spent = e.spent refused in
        let entered = e.entered in
        let front = All-take (NoBetter job new) budget (take e.done ws) e.no_better in
        let same : take budget (take e.done ws) ≡ take budget ws = take-take budget e.done ws (omega (arith, spent, entered, none)) in
        All-contains (NoBetter job new) (take budget ws) order (subst (All (NoBetter job new)) same front) there
  ]

  pub more_open : (old new : Stand) → old.entered ≡ 0 → new.refused ≡ true → Explored job budget (walk job) old new → HasMoreOpen job budget
  more_open old new none refused e = record {
    entries = e.entries;
    in_walk = e.in_walk;
    are_open = e.are_open;
    more = (let m = e.more refused in omega (arith, m, none));
  }
