-- Where the search isn't cut off by its budget, one plan alone is one of the planner.
use Rattle.std.proofs.Common.{◌≡◌, inl, inr, ℕ, Bool, true, false, Option, None, Some, List, [], ◌∷◌, map, arith, refl, sym, ap, ◌∙◌, slice_get, nat_lt, All}
use Rattle.std.proofs.lemmas.Bool.{cases_order, cases_Bool, ltb-true}
use Rattle.std.proofs.lemmas.List.Elements.{All-head, All-tail}
use Rattle.std.proofs.lemmas.Option.{slice_get-map}
use Rattle.soc_model.specs.declared.TestId.{TestId}
use Rattle.soc_model.specs.Chips.{ModuleValue, SocValue, numbers}
use Rattle.soc_model.specs.SoundChips.{IsSoundChip}
use Rattle.plan_model.specs.Plans.{BusValue, WrapperValue, PlanValue, LimitsValue, BoundValue}
use Rattle.plan_model.specs.Cells.{ChainValue}
use Rattle.plan_model.specs.Rules.{pair_of, live_ids}
use Rattle.plan_model.proofs.Lists.{at_contains}
use Rattle.bound_certificate.specs.Best.{IsFirstGreatest, IsBefore, HasBefore, GoesBack, IsPrintedChain, IsForcedPart, IsBestBound, IsBestWith, by_need, up_to, winning, forced_or}
use Rattle.bound_certificate.specs.Breaches.{IsBreachPlace}
use Rattle.plan_model.specs.Certificates.{IsForcedItem}
use Rattle.width_table.specs.Times.{mode_time}
use Rattle.width_table.proofs.LeastWidths.{chosen_unique}
use Rattle.resource_table.specs.Jobs.{JobValue}
use Rattle.schedule_search.specs.Walks.{HasMoreOpen}
use Rattle.schedule_search.specs.Found.{IsFound}
use Rattle.schedule_search.proofs.Agreeing.{same_cycles, same_order}
use Rattle.schedule_search.proofs.CycleCounts.{same_placed}
use Rattle.planner.specs.Jobs.{job_of}
use Rattle.planner.specs.Wrapping.{bus_width, IsWrapperOnBus}
use Rattle.planner.specs.Schedules.{IsSchedule}
use Rattle.planner.specs.Plans.{IsPlanned}

-- ---- wrappers

-- wrappers by their pairs, and the same of lists of wrappers
module _ (soc : SocValue) (buses : List BusValue) (sound : IsSoundChip soc) where
  same_core : (i j : ℕ) (m n : ModuleValue) → slice_get soc.modules i ≡ Some m → slice_get soc.modules j ≡ Some n → m.number ≡ n.number → m ≡ n
  same_core i j m n one other same =
      let a : slice_get (numbers soc) i ≡ Some n.number = rw (slice_get-map (λ (m : ModuleValue). m.number) soc.modules i, one, same) refl in
      let b : slice_get (numbers soc) j ≡ Some n.number = rw (slice_get-map (λ (m : ModuleValue). m.number) soc.modules j, other) refl in
      let places : i ≡ j = sound.modules_differ i j n.number a b in
      cc (one, other, places)

  one_wrapper : (v w : WrapperValue) → IsWrapperOnBus soc buses v → IsWrapperOnBus soc buses w → pair_of v ≡ pair_of w → v ≡ w
  one_wrapper v w one other pair =
      let module' : v.«module» ≡ w.«module» = ap (λ (p : ℕ × Bool). p.0) pair in
      let scan' : v.scan ≡ w.scan = ap (λ (p : ℕ × Bool). p.1) pair in
      let core : one.core ≡ other.core = same_core one.place other.place one.core other.core one.there other.there (sym one.wrapper.of ∙ module' ∙ other.wrapper.of) in
      let a = rw (core, scan') at one.wrapper.is_chosen in
      let width : one.wrapper.chosen ≡ other.wrapper.chosen = chosen_unique (mode_time other.core w.scan) (bus_width buses other.core.number) one.wrapper.chosen other.wrapper.chosen a other.wrapper.is_chosen in
      let chains : v.chains ≡ w.chains = one.wrapper.designed ∙ rw (core, scan', width, other.wrapper.designed) refl in
      wrapper_parts v w module' scan' chains
    where
      wrapper_parts : (v w : WrapperValue) → v.«module» ≡ w.«module» → v.scan ≡ w.scan → v.chains ≡ w.chains → v ≡ w
      wrapper_parts v w a b c = ap (λ (p : ℕ × Bool × List ChainValue). (let q : WrapperValue = record { «module» = p.0; scan = p.1; chains = p.2 } in q)) (rw (a, b, c) refl)

  one_list : (vs ws : List WrapperValue) → map pair_of vs ≡ map pair_of ws → All (IsWrapperOnBus soc buses) vs → All (IsWrapperOnBus soc buses) ws → vs ≡ ws
  one_list [] [] pairs one other = refl
  one_list [] (w ∷ ws) pairs one other = absurd cc
  one_list (v ∷ vs) [] pairs one other = absurd cc
  one_list (v ∷ vs) (w ∷ ws) pairs one other =
      let P : WrapperValue → Type 0 = IsWrapperOnBus soc buses in
      let here : v ≡ w = one_wrapper v w (All-head P v vs one) (All-head P w ws other) (cc) in
      let rest : vs ≡ ws = one_list vs ws (cc) (All-tail P v vs one) (All-tail P w ws other) in
      cc

-- ---- the bound

one_breach : {X : Type 0} (P : List X → X → Type 0) (xs : List X) (a b : Option ℕ) → IsBreachPlace P xs a → IsBreachPlace P xs b → a ≡ b
one_breach P xs None None one other = refl
one_breach P xs None (Some n) one other = absurd (other.1.breaks (one n other.0 other.1.there))
one_breach P xs (Some m) None one other = absurd (one.1.breaks (other m one.0 one.1.there))
one_breach P xs (Some m) (Some n) one other = ap Some (elim (cases_order m n) [
  | inl same ↦ same
  | inr apart ↦ elim apart [
    | inl less ↦ absurd (one.1.breaks (other.1.earlier m one.0 less one.1.there))
    | inr more ↦ absurd (other.1.breaks (one.1.earlier n other.0 more other.1.there))
  ]
])

module _ (soc : SocValue) (limits : LimitsValue) where
  one_greatest : (P : TestId → Type 0) (a b : TestId) → IsFirstGreatest soc limits P a → IsFirstGreatest soc limits P b → a ≡ b
  one_greatest P a b one other =
      let places : one.place ≡ other.place = elim (one.first other.place b other.s other.there other.taken other.sum) [
        | inl less ↦ elim (other.first one.place a one.s one.there one.taken one.sum) [
          | inl more ↦ absurd (omega (arith, less, more))
          | inr same ↦ absurd (omega (arith, less, same.0))
        ]
        | inr same ↦ elim (other.first one.place a one.s one.there one.taken one.sum) [
          | inl more ↦ absurd (omega (arith, more, same.0))
          | inr same' ↦ omega (arith, same.1, same'.1)
        ]
      ] in
      cc (one.there, other.there, places)

  -- a test before another is a live one
  has_before : (id a : TestId) → IsFirstGreatest soc limits (IsBefore limits id) a → HasBefore soc limits id
  has_before id a first = (a, at_contains (live_ids soc) first.place a first.there, first.taken)

  one_way : (id : TestId) (xs ys : List TestId) → GoesBack soc limits id xs → GoesBack soc limits id ys → xs ≡ ys
  one_way id [] [] one other = refl
  one_way id [] (b ∷ ys) one other = absurd (one (has_before id b other.0))
  one_way id (a ∷ xs) [] one other = absurd (other (has_before id a one.0))
  one_way id (a ∷ xs) (b ∷ ys) one other =
      let here : a ≡ b = one_greatest (IsBefore limits id) a b one.0 other.0 in
      let rest : xs ≡ ys = one_way b xs ys (rw here at one.1) other.1 in
      cc

  one_chain : (a b : Option (List TestId)) → IsPrintedChain soc limits a → IsPrintedChain soc limits b → a ≡ b
  one_chain None None one other = refl
  one_chain None (Some ids) one other = absurd (one other.0 (at_contains (live_ids soc) other.3.place other.0 other.3.there) other.3.taken)
  one_chain (Some ids) None one other = absurd (other one.0 (at_contains (live_ids soc) one.3.place one.0 one.3.there) one.3.taken)
  one_chain (Some ids) (Some others) one other =
      let last : one.0 ≡ other.0 = one_greatest (HasBefore soc limits) one.0 other.0 one.3 other.3 in
      let back : one.1 ≡ other.1 = one_way other.0 one.1 other.1 (rw last at one.4) other.4 in
      ap Some (one.2 ∙ rw (last, back, other.2) refl)

  one_forced : (cycles : ℕ) (a b : List ℕ) → IsForcedPart soc limits cycles a → IsForcedPart soc limits cycles b → a ≡ b
  one_forced cycles a b one other =
      one.2 ∙ ap (λ (o : Option ℕ). up_to o (by_need soc limits.wires cycles)) (one_breach (IsForcedItem soc limits.wires cycles) (by_need soc limits.wires cycles) one.0 other.0 one.1 other.1) ∙ sym other.2

  one_best : (cycles : ℕ) (chain : Option (List TestId)) (a b : BoundValue) → IsBestWith soc limits cycles chain a → IsBestWith soc limits cycles chain b → a ≡ b
  one_best cycles chain a b one other = one.is ∙ same ∙ sym other.is
    where
      same : forced_or soc limits cycles one.forced (winning soc limits chain) ≡ forced_or soc limits cycles other.forced (winning soc limits chain)
      same = elim (cases_Bool (nat_lt (winning soc limits chain).cycles cycles)) [
        | inl less ↦
            (let fewer = ltb-true (winning soc limits chain).cycles cycles less in
            ap (λ (l : List ℕ). forced_or soc limits cycles l (winning soc limits chain)) (one_forced cycles one.forced other.forced (one.part fewer) (other.part fewer)))
        | inr most ↦ rw most refl
      ]

  one_bound : (cycles : ℕ) (a b : BoundValue) → IsBestBound soc limits cycles a → IsBestBound soc limits cycles b → a ≡ b
  one_bound cycles a b one other = one_best cycles other.chain a b (rw (one_chain one.chain other.chain one.printed other.printed) at one.best) other.best

-- ---- the schedule

-- a search that may enter all open entries is complete
complete_then : {job : JobValue} {budget : ℕ} {order starts : List ℕ} {cycles : ℕ} (complete : Bool) → (HasMoreOpen job budget → ⊥) → IsFound job budget order starts cycles complete → IsFound job budget order starts cycles true
complete_then true all found = found
complete_then false all found = absurd (all (found.refused refl))

one_schedule : (job : JobValue) (budget : ℕ) (order starts order' starts' : List ℕ) (complete complete' : Bool) (listed listed' : List (TestId × ℕ)) (cycles cycles' : ℕ) → (HasMoreOpen job budget → ⊥) →
    IsFound job budget order starts cycles complete → IsFound job budget order' starts' cycles' complete' → IsSchedule job order listed cycles → IsSchedule job order' listed' cycles' → (listed ≡ listed') × (cycles ≡ cycles')
one_schedule job budget order starts order' starts' complete complete' listed listed' cycles cycles' all found found' one other =
    let a = complete_then complete all found in
    let b = complete_then complete' all found' in
    let orders : order ≡ order' = same_order job budget budget order starts order' starts' cycles cycles' a b in
    let placed : one.placed ≡ other.placed = same_placed job one.placed other.placed (one.in_order ∙ orders ∙ sym other.in_order) one.list other.list in
    (one.starts_are ∙ rw (placed, other.starts_are) refl, same_cycles job budget budget order starts order' starts' cycles cycles' a b)

-- ---- the plan

pub one_plan : (soc : SocValue) (limits : LimitsValue) (a b : PlanValue) → IsSoundChip soc → a.buses ≡ b.buses → (HasMoreOpen (job_of soc limits b) limits.budget → ⊥) → IsPlanned soc limits a → IsPlanned soc limits b → a ≡ b
one_plan soc limits a b sound buses all one other =
    let wrappers : a.wrappers ≡ b.wrappers = one_list soc b.buses sound a.wrappers b.wrappers (one.wrappers.pairs ∙ sym other.wrappers.pairs) (rw buses at one.wrappers.on_buses) other.wrappers.on_buses in
    let job : job_of soc limits a ≡ job_of soc limits b = rw (buses, wrappers) refl in
    let found = rw job at one.schedule.found in
    let schedule = rw job at one.schedule.schedule in
    let times = one_schedule (job_of soc limits b) limits.budget one.schedule.order one.schedule.starts other.schedule.order other.schedule.starts one.schedule.complete other.schedule.complete a.starts b.starts a.cycles b.cycles all found other.schedule.found schedule other.schedule.schedule in
    let bound : a.bound ≡ b.bound = one_bound soc limits b.cycles a.bound b.bound (rw times.1 at one.best) other.best in
    plan_parts a b buses wrappers times.0 times.1 bound
  where
    plan_parts : (a b : PlanValue) → a.buses ≡ b.buses → a.wrappers ≡ b.wrappers → a.starts ≡ b.starts → a.cycles ≡ b.cycles → a.bound ≡ b.bound → a ≡ b
    plan_parts a b h i j k l =
        ap (λ (p : List BusValue × List WrapperValue × List (TestId × ℕ) × ℕ × BoundValue). (let q : PlanValue = record { buses = p.0; wrappers = p.1; starts = p.2; cycles = p.3; bound = p.4 } in q)) (rw (h, i, j, k, l) refl)
