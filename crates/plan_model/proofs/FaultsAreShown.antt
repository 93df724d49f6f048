-- Every plan is faultless or has a fault, and a good plan has none but that of its certificate.
use Rattle.std.proofs.Common.{◌≡◌, ◌⊎◌, inl, inr, ℕ, suc, ◌+◌, ◌-◌, ◌<◌, ◌≤◌, Bool, Option, None, Some, List, [], ◌∷◌, length, map, filter, refl, ap, ◌∙◌, sym, subst, arith}
use Rattle.std.specs.Prelude.{slice_get, IfSome, if◌then◌else◌, nat_eq}
use Rattle.std.specs.List.{Contains}
use Rattle.std.proofs.lemmas.Bool.{cases_Bool, cases_lt, cases_eq}
use Rattle.std.proofs.lemmas.Option.{slice_get_within}
use Rattle.soc_model.specs.declared.TestId.{TestId}
use Rattle.soc_model.specs.Chips.{ModuleValue, SocValue, IsParent, level_at}
use Rattle.plan_model.specs.Cells.{ChainValue, IsProper, scan_lengths}
use Rattle.plan_model.specs.Listing.{times}
use Rattle.plan_model.specs.Plans.{WrapperValue, PlanValue, LimitsValue, PlannedTest, planned, end_of, greatest, power_at, is_active, IsActive, WhyValue, OfModule, OfPair, OfChain, OfArea, OfPower, OfForced, BoundValue}
use Rattle.plan_model.specs.Right.{IsAt}
use Rattle.plan_model.specs.Rules.{Each, FitsWires, IsKnown, IsNew, IsListed, IsFitting, HasWrapper, HasProperCells, StartsOnce, HasStart, ShareBus, ShareModule, AreParentAndChild, Clash, NoClash, InOrder, WithinPower, listed, named, used_pairs, pair_of, live_ids, has_tam, Rule, Widths, Known, Places, Wrappers, Proper, Starts, Wires, Busy, Parents, Precedences, Power, Cycles, Keeps, IsGood}
use Rattle.plan_model.specs.Certificates.{KeepsList, IsListBreach, IsAccepted, IsChainItem, Follows, IsForcedItem, NeedsMoreThanWires, need_of, certificate_value, CertificateFault, BadListFault, LessFault, IsCertificateFault}
use Rattle.plan_model.specs.Faults.{FaultValue, WidthFault, UnknownModuleFault, ModulePlaceFault, WrapperListFault, CellsFault, TestsFault, WireFault, BusyFault, ParentFault, BeforeFault, PowerFault, CyclesFault, BoundFault, FirstOf, Present, Missing, IsFirstClash, IsFirstExcess, IsFault, IsFaultless, Shows, rank_of, fault_rank}
use Rattle.plan_model.proofs.Deciding.{Decided, both_decided, implied_decided, not_decided, decided_as, not_refuted, le_decided, lt_decided, true_decided, same_pair, same_name, same_names, all_items, all_below, stands_decided, new_decided, Least, least_below, least, Breach, each_or_first}
use Rattle.plan_model.proofs.FaultsAreExact.{shows_breaks}
use Rattle.plan_model.proofs.Greatest.{le-greatest_at}
use Rattle.plan_model.proofs.Lists.{at_contains}
use Rattle.plan_model.proofs.ProperByCounts.{proper_ins, proper_outs, proper_lists}
use Rattle.plan_model.proofs.ProperFromCounts.{all_ins, all_outs, all_scans, ListsOnce, proper_from_counts}
use Rattle.plan_model.proofs.SumsOverCycles.{active_is}
use Rattle.common_lemmas.proofs.Lists.{contains_at}

-- ---- wrappers

lists_decided : (n : ℕ) (xs : List ℕ) → Decided (ListsOnce n xs)
lists_decided n xs = decided_as (λ h. record { once = h.0; within = h.1 }) (λ h. (h.once, h.within))
    (both_decided (all_below (λ c. times c xs ≡ 1) (λ c. cases_eq (times c xs) 1) n) (all_items (λ x. x < n) (λ x. lt_decided x n) xs))

proper_decided : (m : ModuleValue) (scan : Bool) (chains : List ChainValue) → Decided (IsProper m scan chains)
proper_decided m scan chains = elim (cases_eq (all_ins chains) (m.inputs + m.bidirs)) [
  | inr other ↦ inr (λ proper. other (proper_ins m scan chains proper))
  | inl ins ↦ elim (cases_eq (all_outs chains) (m.outputs + m.bidirs)) [
    | inr other ↦ inr (λ proper. other (proper_outs m scan chains proper))
    | inl outs ↦ decided_as (proper_from_counts m scan chains ins outs) (proper_lists m scan chains) (lists_decided (length (scan_lengths m scan)) (all_scans chains))
  ]
]

proper_cells_decided : (soc : SocValue) (w : WrapperValue) → Decided (HasProperCells soc [] w)
proper_cells_decided soc w = all_items (λ m. m.number ≡ w.«module» → IsProper m w.scan w.chains) (λ m. implied_decided (cases_eq m.number w.«module») (proper_decided m w.scan w.chains)) soc.modules

fitting_decided : (soc : SocValue) (plan : PlanValue) (earlier : List WrapperValue) (w : WrapperValue) → Decided (IsFitting soc plan earlier w)
fitting_decided soc plan earlier w =
    decided_as (λ h. record { used = h.0.0; new = h.0.1; some_chain = h.1.0; on_wires = h.1.1 }) (λ h. ((h.used, h.new), (h.some_chain, h.on_wires)))
    (both_decided (both_decided (stands_decided same_pair (used_pairs soc) (pair_of w)) (new_decided same_pair (map pair_of earlier) (pair_of w))) (both_decided (le_decided _ _) (le_decided _ _)))

-- ---- two lists: the items that stand there, and then those that are missing

shown_first : {X Y Z : Type 0} (P : List X → X → Type 0) (xs : List X) (f : X → Z) (Q : List Y → Y → Type 0) (ys : List Y) (g : Y → Z) → Each P xs ⊎ Breach P xs → Each Q ys ⊎ Breach Q ys →
    (Each P xs × Each Q ys) ⊎ ((z : Z) × FirstOf P xs f Q ys g z)
shown_first P xs f Q ys g (inr b) other = inr (f b.x, Present b.n b.x b.first refl)
shown_first P xs f Q ys g (inl all) (inr b) = inr (g b.x, Missing all b.n b.x b.first refl)
shown_first P xs f Q ys g (inl all) (inl every) = inl (all, every)

-- ---- clashes

active_decided : (t : PlannedTest) (c : ℕ) → Decided (IsActive t c)
active_decided t c = both_decided (le_decided t.start c) (lt_decided c (end_of t))

-- a clash at these places, at this first place, at this cycle
record ClashAt (R : PlannedTest → PlannedTest → Type 0) (tests : List PlannedTest) (c i j : ℕ) : Type 0 where
  t : PlannedTest
  u : PlannedTest
  clash : Clash R tests i j c t u

record ClashOf (R : PlannedTest → PlannedTest → Type 0) (tests : List PlannedTest) (c i : ℕ) : Type 0 where
  j : ℕ
  at : ClashAt R tests c i j

record ClashIn (R : PlannedTest → PlannedTest → Type 0) (tests : List PlannedTest) (c : ℕ) : Type 0 where
  i : ℕ
  of : ClashOf R tests c i

clash_at_decided : (R : PlannedTest → PlannedTest → Type 0) → ((t u : PlannedTest) → Decided (R t u)) → (tests : List PlannedTest) (c i j : ℕ) → Decided (ClashAt R tests c i j)
clash_at_decided R related tests c i j = go (slice_get tests i) (slice_get tests j) refl refl where
  moved : (t u : PlannedTest) → slice_get tests i ≡ Some t → slice_get tests j ≡ Some u → (h : ClashAt R tests c i j) → Clash R tests i j c t u
  moved t u at there h =
      let first : IsAt tests i h.t = h.clash.first in
      let second : IsAt tests j h.u = h.clash.second in
      let one : h.t ≡ t = cc in
      let two : h.u ≡ u = cc in
      subst (λ v. Clash R tests i j c v u) one (subst (λ v. Clash R tests i j c h.t v) two h.clash)

  go : (a b : Option PlannedTest) → slice_get tests i ≡ a → slice_get tests j ≡ b → Decided (ClashAt R tests c i j)
  go None b at there = inr (λ h. let first : IsAt tests i h.t = h.clash.first in cc)
  go (Some t) None at there = inr (λ h. let second : IsAt tests j h.u = h.clash.second in cc)
  go (Some t) (Some u) at there = elim (lt_decided i j) [
    | inr no' ↦ inr (λ h. no' h.clash.order)
    | inl less ↦ elim (related t u) [
      | inr no' ↦ inr (λ h. let is : Clash R tests i j c t u = moved t u at there h in no' is.related)
      | inl yes' ↦ elim (both_decided (active_decided t c) (active_decided u c)) [
        | inr no' ↦ inr (λ h. let is : Clash R tests i j c t u = moved t u at there h in no' is.meet)
        | inl meet ↦ inl (record { t = t; u = u; clash = record { first = at; second = there; order = less; related = yes'; meet = meet } })
      ]
    ]
  ]

clash_of_decided : (R : PlannedTest → PlannedTest → Type 0) → ((t u : PlannedTest) → Decided (R t u)) → (tests : List PlannedTest) (c i : ℕ) → Decided (ClashOf R tests c i)
clash_of_decided R related tests c i = elim (least_below (ClashAt R tests c i) (clash_at_decided R related tests c i) (length tests)) [
  | inl found ↦ inl (record { j = found.n; at = found.is })
  | inr none ↦ inr (λ h. none h.j (slice_get_within tests h.j h.at.u h.at.clash.second) h.at)
]

clash_in_decided : (R : PlannedTest → PlannedTest → Type 0) → ((t u : PlannedTest) → Decided (R t u)) → (tests : List PlannedTest) (c : ℕ) → Decided (ClashIn R tests c)
clash_in_decided R related tests c = elim (least_below (ClashOf R tests c) (clash_of_decided R related tests c) (length tests)) [
  | inl found ↦ inl (record { i = found.n; of = found.is })
  | inr none ↦ inr (λ h. none h.i (slice_get_within tests h.i h.of.at.t h.of.at.clash.first) h.of)
]

-- the first clash, with its cycle and the names of its tests
record FirstClash (R : PlannedTest → PlannedTest → Type 0) (tests : List PlannedTest) : Type 0 where
  a : TestId
  b : TestId
  cycle : ℕ
  is : IsFirstClash R tests a b cycle

first_at : (R : PlannedTest → PlannedTest → Type 0) → ((t u : PlannedTest) → Decided (R t u)) → (tests : List PlannedTest) → Least (ClashIn R tests) → FirstClash R tests
first_at R related tests found =
    let row : Least (ClashOf R tests found.n) = least (ClashOf R tests found.n) (clash_of_decided R related tests found.n) found.is.i found.is.of in
    let pair : Least (ClashAt R tests found.n row.n) = least (ClashAt R tests found.n row.n) (clash_at_decided R related tests found.n row.n) row.is.j row.is.at in
    record {
      a = pair.is.t.id;
      b = pair.is.u.id;
      cycle = found.n;
      is = record {
        i = row.n;
        j = pair.n;
        t = pair.is.t;
        u = pair.is.u;
        clash = pair.is.clash;
        a_is = refl;
        b_is = refl;
        least_cycle = λ i j c t u clash. found.least c (record { i = i; of = record { j = j; at = record { t = t; u = u; clash = clash } } });
        least_pair = λ i j t u clash. elim (cases_lt row.n i) [
          | inl less ↦ inl less
          | inr more ↦
              let most : row.n ≤ i = row.least i (record { j = j; at = record { t = t; u = u; clash = clash } }) in
              let same : i ≡ row.n = omega arith in
              inr (sym same, pair.least j (record { t = t; u = u; clash = subst (λ v. Clash R tests v j found.n t u) same clash }))
        ];
      };
    }

first_clash : (R : PlannedTest → PlannedTest → Type 0) → ((t u : PlannedTest) → Decided (R t u)) → (tests : List PlannedTest) → NoClash R tests ⊎ FirstClash R tests
first_clash R related tests = elim (least_below (ClashIn R tests) (clash_in_decided R related tests) (greatest (map end_of tests))) [
  | inl found ↦ inr (first_at R related tests found)
  | inr none ↦ inl (λ i j c t u clash.
      let active : IsActive t c = clash.meet.0 in
      none c (omega (arith, active.1, le-greatest_at end_of tests i t clash.first)) (record { i = i; of = record { j = j; at = record { t = t; u = u; clash = clash } } }))
]

share_bus_decided : (t u : PlannedTest) → Decided (ShareBus t u)
share_bus_decided t u = elim (true_decided t.tam) [
  | inr no' ↦ inr (λ h. no' h.0)
  | inl one ↦ elim (true_decided u.tam) [
    | inr no' ↦ inr (λ h. no' h.1)
    | inl two ↦ elim (cases_eq t.bus u.bus) [ inl same ↦ inl (one, two, same) | inr other ↦ inr (λ h. other h.2) ]
  ]
]

parent_decided : (modules : List ModuleValue) (parent place : ℕ) → Decided (IsParent modules parent place)
parent_decided modules parent place =
    decided_as (λ h. record { earlier = h.0.0; smaller = h.0.1; nearest = λ q after less. h.1 q less after }) (λ h. ((h.earlier, h.smaller), λ q less after. h.nearest q after less))
    (both_decided (both_decided (lt_decided parent place) (lt_decided (level_at modules parent) (level_at modules place)))
    (all_below (λ q. parent < q → level_at modules place ≤ level_at modules q) (λ q. implied_decided (lt_decided parent q) (le_decided (level_at modules place) (level_at modules q))) place))

-- ---- precedences and power

in_order_decided : (tests : List PlannedTest) (p : TestId × TestId) → Decided (InOrder tests [] p)
in_order_decided tests p =
    decided_as (λ all i j t u at there. all i t at j u there) (λ all i t at j u there. all i j t u at there)
    (all_items (λ t. (j : ℕ) (u : PlannedTest) → slice_get tests j ≡ Some u → p ≡ (t.id, u.id) → end_of t ≤ u.start)
    (λ t. all_items (λ u. p ≡ (t.id, u.id) → end_of t ≤ u.start) (λ u. implied_decided (same_names p (t.id, u.id)) (le_decided (end_of t) u.start)) tests) tests)

within_decided : (limit : Option ℕ) (sum : ℕ) → Decided (IfSome limit (λ most. sum ≤ most))
within_decided None sum = inl tt
within_decided (Some most) sum = le_decided sum most

none_active : (tests : List PlannedTest) (c : ℕ) → ((i : ℕ) (t : PlannedTest) → slice_get tests i ≡ Some t → end_of t ≤ c) → filter (is_active c) tests ≡ []
none_active [] c over = refl
none_active (t ∷ tests) c over = elim (cases_Bool (is_active c t)) [
  | inl active ↦ let is : IsActive t c = active_is c t active in absurd (omega (arith, is.1, over 0 t refl))
  | inr idle ↦ rw idle (none_active tests c (λ i u at. over (suc i) u at))
]

nothing_drawn : (limit : Option ℕ) (sum : ℕ) → sum ≡ 0 → IfSome limit (λ most. sum ≤ most)
nothing_drawn None sum e = tt
nothing_drawn (Some most) sum e = omega arith

record FirstExcess (limits : LimitsValue) (tests : List PlannedTest) : Type 0 where
  cycle : ℕ
  is : IsFirstExcess limits tests cycle (power_at limits tests cycle)

first_excess : (limits : LimitsValue) (tests : List PlannedTest) → ((c : ℕ) → WithinPower limits tests c) ⊎ FirstExcess limits tests
first_excess limits tests = elim (least_below (λ c. WithinPower limits tests c → ⊥) (λ c. not_decided (within_decided limits.power (power_at limits tests c))) (greatest (map end_of tests))) [
  | inl found ↦ inr (record { cycle = found.n; is = record { passes = found.is; earlier = λ c less. not_refuted (within_decided limits.power (power_at limits tests c)) (λ no'. let le : found.n ≤ c = found.least c no' in omega arith); sum_is = refl } })
  | inr none ↦ inl (λ c. elim (cases_lt c (greatest (map end_of tests))) [
    | inl less ↦ not_refuted (within_decided limits.power (power_at limits tests c)) (none c less)
    | inr past ↦ nothing_drawn limits.power (power_at limits tests c) (rw (none_active tests c (λ i t at. omega (arith, past, le-greatest_at end_of tests i t at))) refl)
  ])
]

-- ---- the certificate

follows_decided : (limits : LimitsValue) (earlier : List TestId) (id : TestId) → Decided (Follows limits earlier id)
follows_decided limits earlier id = go (slice_get earlier (length earlier - 1)) refl where
  go : (o : Option TestId) → slice_get earlier (length earlier - 1) ≡ o → Decided (Follows limits earlier id)
  go None e = inl (λ last at. absurd cc)
  go (Some before) e = elim (stands_decided same_names limits.before (before, id)) [
    | inl there ↦ inl (λ last at. subst (λ v. Contains limits.before (v, id)) (let same : before ≡ last = cc in same) there)
    | inr none ↦ inr (λ h. none (h before e))
  ]

forced_item_decided : (soc : SocValue) (w b : ℕ) (earlier : List ℕ) (m : ℕ) → Decided (IsForcedItem soc w b earlier m)
forced_item_decided soc w b earlier m =
    decided_as (λ h. record { tam = h.0.0; new = h.0.1; needs = h.1 }) (λ h. ((h.tam, h.new), h.needs))
    (both_decided (both_decided (true_decided _) (new_decided cases_eq earlier m)) (needs_decided earlier))
  where
    needs_decided : (earlier : List ℕ) → Decided (NeedsMoreThanWires soc w b earlier m)
    needs_decided earlier =
        decided_as (λ all a there. let at = contains_at earlier a there in all at.0 a at.1) (λ all n a at. all a (at_contains earlier n a at))
        (all_items (λ a. w < need_of soc w b a + need_of soc w b m) (λ a. lt_decided w (need_of soc w b a + need_of soc w b m)) earlier)

record ListBreach (soc : SocValue) (limits : LimitsValue) (claim : ℕ) (why : WhyValue) : Type 0 where
  place : ℕ
  is : IsListBreach soc limits claim why place

list_or_breach : (soc : SocValue) (limits : LimitsValue) (claim : ℕ) (why : WhyValue) → KeepsList soc limits claim why ⊎ ListBreach soc limits claim why
list_or_breach soc limits claim (OfModule m) = elim (true_decided _) [ inl yes' ↦ inl yes' | inr no' ↦ inr (record { place = 0; is = (no', refl) }) ]
list_or_breach soc limits claim (OfPair m) = elim (true_decided _) [ inl yes' ↦ inl yes' | inr no' ↦ inr (record { place = 0; is = (no', refl) }) ]
list_or_breach soc limits claim (OfChain tests) = elim (each_or_first (IsChainItem soc limits) (λ earlier id. both_decided (stands_decided same_name (live_ids soc) id) (follows_decided limits earlier id)) tests) [
  | inl each ↦ inl each
  | inr b ↦ inr (record { place = b.n; is = (b.x, b.first) })
]
list_or_breach soc limits claim OfArea = inl tt
list_or_breach soc limits claim OfPower = inl tt
list_or_breach soc limits claim (OfForced ms) = elim (each_or_first (IsForcedItem soc limits.wires claim) (forced_item_decided soc limits.wires claim) ms) [
  | inl each ↦ inl each
  | inr b ↦ inr (record { place = b.n; is = (b.x, b.first) })
]

record RefusedCertificate (soc : SocValue) (limits : LimitsValue) (bound : BoundValue) : Type 0 where
  fault : CertificateFault
  is : IsCertificateFault soc limits bound fault

accepted_or_refused : (soc : SocValue) (limits : LimitsValue) (bound : BoundValue) → IsAccepted soc limits bound ⊎ RefusedCertificate soc limits bound
accepted_or_refused soc limits bound = elim (list_or_breach soc limits bound.cycles bound.why) [
  | inr b ↦ inr (record { fault = BadListFault b.place; is = b.is })
  | inl keeps ↦ elim (cases_lt (certificate_value soc limits bound.why) bound.cycles) [
    | inr enough ↦ inl (record { keeps = keeps; enough = enough })
    | inl less ↦ inr (record { fault = LessFault bound.cycles (certificate_value soc limits bound.why); is = (keeps, refl, refl, less) })
  ]
]

-- ---- each rule is kept, or a fault shows that it is broken

record Broken (soc : SocValue) (limits : LimitsValue) (plan : PlanValue) (r : Rule) : Type 0 where
  fault : FaultValue
  rank : fault_rank fault ≡ rank_of r
  shows : Shows soc limits plan fault

kept_or_broken : (soc : SocValue) (limits : LimitsValue) (plan : PlanValue) (r : Rule) → Keeps soc limits plan r ⊎ Broken soc limits plan r
kept_or_broken soc limits plan Widths = elim (each_or_first (FitsWires limits) (λ earlier b. both_decided (le_decided _ _) (le_decided _ _)) plan.buses) [
  | inl kept ↦ inl kept
  | inr b ↦ inr (record { fault = WidthFault b.n; rank = refl; shows = (b.x, b.first) })
]
kept_or_broken soc limits plan Known = elim (each_or_first (IsKnown soc) (λ earlier m. stands_decided cases_eq soc.keys m) (named plan)) [
  | inl kept ↦ inl kept
  | inr b ↦ inr (record { fault = UnknownModuleFault b.x; rank = refl; shows = (b.n, b.first) })
]
kept_or_broken soc limits plan Places = elim (shown_first IsNew (listed plan) (λ x. x) (IsListed plan) soc.modules (λ x. x.number)
    (each_or_first IsNew (λ earlier m. new_decided cases_eq earlier m) (listed plan))
    (each_or_first (IsListed plan) (λ earlier m. implied_decided (true_decided (has_tam m)) (stands_decided cases_eq (listed plan) m.number)) soc.modules)) [
      | inl kept ↦ inl kept
      | inr b ↦ inr (record { fault = ModulePlaceFault b.0; rank = refl; shows = b.1 })
    ]
kept_or_broken soc limits plan Wrappers = elim (shown_first (IsFitting soc plan) plan.wrappers pair_of (HasWrapper plan) (used_pairs soc) (λ p. p)
    (each_or_first (IsFitting soc plan) (fitting_decided soc plan) plan.wrappers)
    (each_or_first (HasWrapper plan) (λ earlier p. stands_decided same_pair (map pair_of plan.wrappers) p) (used_pairs soc))) [
      | inl kept ↦ inl kept
      | inr b ↦ inr (record { fault = WrapperListFault b.0.0 b.0.1; rank = refl; shows = b.1 })
    ]
kept_or_broken soc limits plan Proper = elim (each_or_first (HasProperCells soc) (λ earlier w. proper_cells_decided soc w) plan.wrappers) [
  | inl kept ↦ inl kept
  | inr b ↦ inr (record { fault = CellsFault (b.x).«module» (b.x).scan; rank = refl; shows = (b.n, b.x, b.first, refl) })
]
kept_or_broken soc limits plan Starts = elim (shown_first (StartsOnce soc) plan.starts (λ s. s.0) (HasStart plan) (live_ids soc) (λ x. x)
    (each_or_first (StartsOnce soc) (λ earlier s. both_decided (stands_decided same_name (live_ids soc) s.0) (new_decided same_name (map (λ (e : TestId × ℕ). e.0) earlier) s.0)) plan.starts)
    (each_or_first (HasStart plan) (λ earlier id. stands_decided same_name (map (λ (e : TestId × ℕ). e.0) plan.starts) id) (live_ids soc))) [
      | inl kept ↦ inl kept
      | inr b ↦ inr (record { fault = TestsFault b.0; rank = refl; shows = b.1 })
    ]
kept_or_broken soc limits plan Wires = elim (first_clash ShareBus share_bus_decided (planned soc plan)) [
  | inl kept ↦ inl kept
  | inr b ↦ inr (record { fault = WireFault b.a b.b b.cycle; rank = refl; shows = b.is })
]
kept_or_broken soc limits plan Busy = elim (first_clash ShareModule (λ t u. cases_eq t.place u.place) (planned soc plan)) [
  | inl kept ↦ inl kept
  | inr b ↦ inr (record { fault = BusyFault b.a b.b b.cycle; rank = refl; shows = b.is })
]
kept_or_broken soc limits plan Parents = elim (first_clash (AreParentAndChild soc) (λ t u. parent_decided soc.modules t.place u.place) (planned soc plan)) [
  | inl kept ↦ inl kept
  | inr b ↦ inr (record { fault = ParentFault b.a b.b b.cycle; rank = refl; shows = b.is })
]
kept_or_broken soc limits plan Precedences = elim (each_or_first (InOrder (planned soc plan)) (λ earlier p. in_order_decided (planned soc plan) p) limits.before) [
  | inl kept ↦ inl kept
  | inr b ↦ inr (record { fault = BeforeFault b.x.0 b.x.1; rank = refl; shows = (b.n, b.first) })
]
kept_or_broken soc limits plan Power = elim (first_excess limits (planned soc plan)) [
  | inl kept ↦ inl kept
  | inr b ↦ inr (record { fault = PowerFault b.cycle (power_at limits (planned soc plan) b.cycle); rank = refl; shows = b.is })
]
kept_or_broken soc limits plan Cycles = elim (cases_eq plan.cycles (greatest (map end_of (planned soc plan)))) [
  | inl kept ↦ inl kept
  | inr other ↦ inr (record { fault = CyclesFault (greatest (map end_of (planned soc plan))); rank = refl; shows = (other, refl) })
]

-- ---- the first rule that is broken

-- the rule of a rank
rule_of : ℕ → Rule
rule_of n =
    if nat_eq n 1 then Widths else if nat_eq n 2 then Known else if nat_eq n 3 then Places else if nat_eq n 4 then Wrappers else if nat_eq n 5 then Proper else if nat_eq n 6 then Starts
    else if nat_eq n 7 then Wires else if nat_eq n 8 then Busy else if nat_eq n 9 then Parents else if nat_eq n 10 then Precedences else if nat_eq n 11 then Power else Cycles

rule_of_rank : (r : Rule) → rule_of (rank_of r) ≡ r
unfolding rule_of
rule_of_rank Widths = refl
rule_of_rank Known = refl
rule_of_rank Places = refl
rule_of_rank Wrappers = refl
rule_of_rank Proper = refl
rule_of_rank Starts = refl
rule_of_rank Wires = refl
rule_of_rank Busy = refl
rule_of_rank Parents = refl
rule_of_rank Precedences = refl
rule_of_rank Power = refl
rule_of_rank Cycles = refl

-- a plan has a fault
pub record Faulty (soc : SocValue) (limits : LimitsValue) (plan : PlanValue) : Type 0 where
  pub fault : FaultValue
  pub is : IsFault soc limits plan fault

-- every rule of a lower rank is kept
abbrev KeepsBelow : SocValue → LimitsValue → PlanValue → ℕ → Type 0
KeepsBelow soc limits plan n = (r : Rule) → rank_of r < n → Keeps soc limits plan r

-- one rule more
one_more : (soc : SocValue) (limits : LimitsValue) (plan : PlanValue) (r : Rule) (n : ℕ) → n ≡ rank_of r → KeepsBelow soc limits plan n ⊎ Faulty soc limits plan → KeepsBelow soc limits plan (suc n) ⊎ Faulty soc limits plan
one_more soc limits plan r n e (inr found) = inr found
one_more soc limits plan r n e (inl before) = elim (kept_or_broken soc limits plan r) [
  | inr b ↦ inr (record { fault = b.fault; is = record { keeps_before = λ s less. before s (omega (arith, b.rank, less)); shows = b.shows } })
  | inl kept ↦ inl (λ s less. elim (cases_lt (rank_of s) n) [
    | inl earlier ↦ before s earlier
    | inr here ↦
        let same : rank_of r ≡ rank_of s = omega arith in
        subst (Keeps soc limits plan) (sym (rule_of_rank r) ∙ ap rule_of same ∙ rule_of_rank s) kept
  ])
]

all_rules : (soc : SocValue) (limits : LimitsValue) (plan : PlanValue) → KeepsBelow soc limits plan 13 ⊎ Faulty soc limits plan
all_rules soc limits plan =
    let s1 = one_more soc limits plan Widths 1 refl (inl (λ r less. absurd (no_rule r less))) in
    let s2 = one_more soc limits plan Known 2 refl s1 in
    let s3 = one_more soc limits plan Places 3 refl s2 in
    let s4 = one_more soc limits plan Wrappers 4 refl s3 in
    let s5 = one_more soc limits plan Proper 5 refl s4 in
    let s6 = one_more soc limits plan Starts 6 refl s5 in
    let s7 = one_more soc limits plan Wires 7 refl s6 in
    let s8 = one_more soc limits plan Busy 8 refl s7 in
    let s9 = one_more soc limits plan Parents 9 refl s8 in
    let s10 = one_more soc limits plan Precedences 10 refl s9 in
    let s11 = one_more soc limits plan Power 11 refl s10 in
    one_more soc limits plan Cycles 12 refl s11
  where
    no_rule : (r : Rule) → rank_of r < 1 → ⊥
    no_rule Widths h = omega arith
    no_rule Known h = omega arith
    no_rule Places h = omega arith
    no_rule Wrappers h = omega arith
    no_rule Proper h = omega arith
    no_rule Starts h = omega arith
    no_rule Wires h = omega arith
    no_rule Busy h = omega arith
    no_rule Parents h = omega arith
    no_rule Precedences h = omega arith
    no_rule Power h = omega arith
    no_rule Cycles h = omega arith

few_rules : (r : Rule) → rank_of r < 13
few_rules Widths = omega arith
few_rules Known = omega arith
few_rules Places = omega arith
few_rules Wrappers = omega arith
few_rules Proper = omega arith
few_rules Starts = omega arith
few_rules Wires = omega arith
few_rules Busy = omega arith
few_rules Parents = omega arith
few_rules Precedences = omega arith
few_rules Power = omega arith
few_rules Cycles = omega arith

-- every plan is faultless or has a fault
pub faultless_or_faulty : (soc : SocValue) (limits : LimitsValue) (plan : PlanValue) → IsFaultless soc limits plan ⊎ ((f : FaultValue) × IsFault soc limits plan f)
faultless_or_faulty soc limits plan = elim (all_rules soc limits plan) [
  | inr found ↦ inr (found.fault, found.is)
  | inl kept ↦ elim (accepted_or_refused soc limits plan.bound) [
    | inl accepted ↦ inl ((λ r. kept r (few_rules r)), accepted)
    | inr refused ↦ inr (BoundFault refused.fault, record { keeps_before = λ r less. kept r (few_rules r); shows = refused.is })
  ]
]

-- a good plan has no fault but that of its certificate
pub good_but_for_bound : (soc : SocValue) (limits : LimitsValue) (plan : PlanValue) (f : FaultValue) → IsGood soc limits plan → IsFault soc limits plan f → (fault : CertificateFault) × (f ≡ BoundFault fault)
good_but_for_bound soc limits plan (WidthFault bus) good is = absurd (shows_breaks soc limits plan (WidthFault bus) is.shows (good Widths))
good_but_for_bound soc limits plan (UnknownModuleFault m) good is = absurd (shows_breaks soc limits plan (UnknownModuleFault m) is.shows (good Known))
good_but_for_bound soc limits plan (ModulePlaceFault m) good is = absurd (shows_breaks soc limits plan (ModulePlaceFault m) is.shows (good Places))
good_but_for_bound soc limits plan (WrapperListFault m scan) good is = absurd (shows_breaks soc limits plan (WrapperListFault m scan) is.shows (good Wrappers))
good_but_for_bound soc limits plan (CellsFault m scan) good is = absurd (shows_breaks soc limits plan (CellsFault m scan) is.shows (good Proper))
good_but_for_bound soc limits plan (TestsFault id) good is = absurd (shows_breaks soc limits plan (TestsFault id) is.shows (good Starts))
good_but_for_bound soc limits plan (WireFault a b c) good is = absurd (shows_breaks soc limits plan (WireFault a b c) is.shows (good Wires))
good_but_for_bound soc limits plan (BusyFault a b c) good is = absurd (shows_breaks soc limits plan (BusyFault a b c) is.shows (good Busy))
good_but_for_bound soc limits plan (ParentFault a b c) good is = absurd (shows_breaks soc limits plan (ParentFault a b c) is.shows (good Parents))
good_but_for_bound soc limits plan (BeforeFault a b) good is = absurd (shows_breaks soc limits plan (BeforeFault a b) is.shows (good Precedences))
good_but_for_bound soc limits plan (PowerFault c sum) good is = absurd (shows_breaks soc limits plan (PowerFault c sum) is.shows (good Power))
good_but_for_bound soc limits plan (CyclesFault right) good is = absurd (shows_breaks soc limits plan (CyclesFault right) is.shows (good Cycles))
good_but_for_bound soc limits plan (BoundFault fault) good is = (fault, refl)
