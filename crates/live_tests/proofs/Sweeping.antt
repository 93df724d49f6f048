-- The steps of a load, event by event.
use Rattle.std.proofs.Common.{◌≡◌, ℕ, zero, suc, ◌+◌, ◌-◌, ◌*◌, ◌≤◌, ◌<◌, ◌^◌, Some, List, [], ◌∷◌, ◌++◌, length, get_or, map, take, refl, ap, ◌∙◌, sym, subst, append-nil, arith, inl, inr, ◌⊎◌}
use Rattle.std.specs.Prelude.{slice_get, nat_eq}
use Rattle.std.specs.List.{filter, range_with_len, sum_by}
use Rattle.std.specs.List.Sorted.{IsNonDecreasingBy}
use Rattle.std.proofs.lemmas.Bool.{cases_lt, cases_eq, cases_Bool, eq-eqb, le-leb, lt-leb}
use Rattle.std.proofs.lemmas.List.{map-append}
use Rattle.std.proofs.lemmas.List.Elements.{filter-append}
use Rattle.std.proofs.lemmas.List.Sums.{sum_by-cons, sum_by_more}
use Rattle.std.proofs.lemmas.Option.{slice_get_within, slice_get-get_or, get_or_from_slice_get}
use Rattle.live_tests.specs.declared.power_events.Event.{Event}
use Rattle.live_tests.specs.Events.{upto, begun_by, ended_by, IsLastOf, EndBy}
use Rattle.live_tests.specs.Loads.{before, changes, load_steps, with_change, IsLoad}
use Rattle.common_lemmas.proofs.Ranges.{range_next}

-- ---- the steps up to a cycle

-- those at the cycles before it
abbrev pub steps_to : (ℕ → ℕ) → ℕ → List (ℕ × ℕ)
steps_to f n = map (λ c. (c, f c)) (filter (changes f) (range_with_len 0 n))

one_change : (f : ℕ → ℕ) (n : ℕ) → map (λ c. (c, f c)) (filter (changes f) (n ∷ [])) ≡ with_change (before f n) n (f n)
one_change f n = elim (cases_Bool (nat_eq (f n) (before f n))) [ inl same ↦ rw same refl | inr other ↦ rw other refl ]

step_more : (f : ℕ → ℕ) (n : ℕ) → steps_to f (suc n) ≡ steps_to f n ++ with_change (before f n) n (f n)
step_more f n =
    let e : 0 + n ≡ n = omega arith in
    ap (λ l. map (λ c. (c, f c)) (filter (changes f) l)) (range_next 0 n)
    ∙ ap (λ v. map (λ c. (c, f c)) (filter (changes f) (range_with_len 0 n ++ v ∷ []))) e
    ∙ ap (map (λ c. (c, f c))) (filter-append (changes f) (range_with_len 0 n) (n ∷ []))
    ∙ map-append (λ c. (c, f c)) (filter (changes f) (range_with_len 0 n)) (filter (changes f) (n ∷ []))
    ∙ ap (λ l. steps_to f n ++ l) (one_change f n)

no_change : (f : ℕ → ℕ) (n : ℕ) → f n ≡ before f n → with_change (before f n) n (f n) ≡ []
no_change f n same = rw (eq-eqb (f n) (before f n) same) refl

-- these steps, with the load before a cycle
pub record AreSteps (f : ℕ → ℕ) (n : ℕ) (steps : List (ℕ × ℕ)) (load : ℕ) : Type 0 where
  pub steps_are : steps ≡ steps_to f n
  pub load_is : load ≡ before f n

-- further cycles at which the load stays as it is
stays : (f : ℕ → ℕ) (n k : ℕ) (steps : List (ℕ × ℕ)) (load : ℕ) → AreSteps f n steps load → ((c : ℕ) → n ≤ c → c < n + k → f c ≡ load) → AreSteps f (n + k) steps load
stays f n zero steps load are same = let e : n + 0 ≡ n = omega arith in subst (λ m. AreSteps f m steps load) (sym e) are
stays f n (suc k) steps load are same =
    let r : AreSteps f (n + k) steps load = stays f n k steps load are (λ c from to. same c from (omega arith)) in
    let here : f (n + k) ≡ load = same (n + k) (omega arith) (omega arith) in
    let e : suc (n + k) ≡ n + suc k = omega arith in
    subst (λ m. AreSteps f m steps load) e (record {
      steps_are = r.steps_are ∙ sym (append-nil (steps_to f (n + k))) ∙ ap (λ l. steps_to f (n + k) ++ l) (sym (no_change f (n + k) (here ∙ r.load_is))) ∙ sym (step_more f (n + k));
      load_is = sym here;
    })

-- ---- sums over events in order

-- where the first `i` events are up to a cycle and the others come later, the sum is that of the first `i`
pub sum_to : (f : Event → ℕ) (events : List Event) (i c : ℕ) → ((j : ℕ) (e : Event) → j < i → slice_get events j ≡ Some e → e.cycle ≤ c) → ((j : ℕ) (e : Event) → i ≤ j → slice_get events j ≡ Some e → c < e.cycle) → sum_by (upto c f) events ≡ sum_by f (take i events)
sum_to f [] zero c first later = refl
sum_to f [] (suc i) c first later = refl
sum_to f (e ∷ es) zero c first later =
    let here : upto c f e ≡ 0 = rw (lt-leb e.cycle c (later 0 e (omega arith) refl)) refl in
    let rest : sum_by (upto c f) es ≡ 0 = sum_to f es zero c (λ j d less. absurd (omega arith)) (λ j d more at. later (suc j) d (omega arith) at) in
    omega (arith, sum_by-cons (upto c f) e es, here, rest)
sum_to f (e ∷ es) (suc i) c first later =
    let here : upto c f e ≡ f e = rw (le-leb e.cycle c (first 0 e (omega arith) refl)) refl in
    let rest : sum_by (upto c f) es ≡ sum_by f (take i es) = sum_to f es i c (λ j d less at. first (suc j) d (omega (arith, less)) at) (λ j d more at. later (suc j) d (omega (arith, more)) at) in
    omega (arith, sum_by-cons (upto c f) e es, sum_by-cons f e (take i es), here, rest)

pub rises : (events : List Event) (i j : ℕ) (d e : Event) → IsNonDecreasingBy (λ (e : Event). e.cycle) events → i ≤ j → slice_get events i ≡ Some d → slice_get events j ≡ Some e → d.cycle ≤ e.cycle
rises events i j d e sorted order at at' =
    let up : (get_or events i d).cycle ≤ (get_or events j d).cycle = sorted i j d order (slice_get_within events j e at') in
    let left : get_or events i d ≡ d = get_or_from_slice_get events i d d at in
    let right : get_or events j d ≡ e = get_or_from_slice_get events j e d at' in
    omega (arith, up, ap (λ (e : Event). e.cycle) left, ap (λ (e : Event). e.cycle) right)

-- where the event at a place comes after a cycle, those behind it do
pub later_from : (events : List Event) (n d : ℕ) → IsNonDecreasingBy (λ (e : Event). e.cycle) events → ((g : Event) → slice_get events n ≡ Some g → d < g.cycle) → (j : ℕ) (x : Event) → n ≤ j → slice_get events j ≡ Some x → d < x.cycle
later_from events n d sorted next j x more there =
    let g : Event = get_or events n x in
    let there' : slice_get events n ≡ Some g = slice_get-get_or events n x (omega (arith, slice_get_within events j x there)) in
    omega (arith, next g there', rises events n j g x sorted more there' there)

abbrev pub begins_of : Event → ℕ
begins_of e = e.begins

abbrev pub ends_of : Event → ℕ
ends_of e = e.ends

-- the load at a cycle between an event and the next one
load_at : (f : ℕ → ℕ) (events : List Event) (i begun ended d : ℕ) (e : Event) → IsNonDecreasingBy (λ (e : Event). e.cycle) events → IsLoad f events → slice_get events i ≡ Some e → begun ≡ sum_by begins_of (take (i + 1) events) → ended ≡ sum_by ends_of (take (i + 1) events) → e.cycle ≤ d → ((g : Event) → slice_get events (i + 1) ≡ Some g → d < g.cycle) → f d + ended ≡ begun
load_at f events i begun ended d e sorted is at begun_is ended_is from next =
    let b : begun_by events d ≡ sum_by begins_of (take (i + 1) events) = sum_to begins_of events (i + 1) d first (later_from events (i + 1) d sorted next) in
    let n : ended_by events d ≡ sum_by ends_of (take (i + 1) events) = sum_to ends_of events (i + 1) d first (later_from events (i + 1) d sorted next) in
    omega (arith, is d, b, n, begun_is, ended_is)
  where
    first : (j : ℕ) (x : Event) → j < i + 1 → slice_get events j ≡ Some x → x.cycle ≤ d
    first j x less there = omega (arith, rises events j i x e sorted (omega arith) there at, from)

-- before the first event nothing is drawn
none_before : (f : ℕ → ℕ) (events : List Event) (d : ℕ) → IsNonDecreasingBy (λ (e : Event). e.cycle) events → IsLoad f events → ((e : Event) → slice_get events 0 ≡ Some e → d < e.cycle) → f d ≡ 0
none_before f events d sorted is first =
    let b : begun_by events d ≡ 0 = sum_to begins_of events 0 d (λ j x less. absurd (omega arith)) (later_from events 0 d sorted first) in
    omega (arith, is d, b)

-- ---- the loop

-- A cycle is settled by the events before a place: none of them is from then on, but for those of the cycle that is under way.
pub record IsSettled (events : List Event) (at n : ℕ) : Type 0 where
  pub next : (e : Event) → slice_get events at ≡ Some e → n ≤ e.cycle
  pub earlier : (j : ℕ) (e : Event) → j < at → slice_get events j ≡ Some e → (e.cycle < n) ⊎ ((g : Event) × (slice_get events at ≡ Some g) × (e.cycle ≡ g.cycle))

-- the sums of the first events, and the steps up to each cycle that they settle
pub record IsSwept (events : List Event) (at : ℕ) (steps : List (ℕ × ℕ)) (begun ended load : ℕ) : Type 0 where
  pub begun_is : begun ≡ sum_by begins_of (take at events)
  pub ended_is : ended ≡ sum_by ends_of (take at events)
  pub few : begun ≤ at * 2 ^ 64
  pub few_ends : ended ≤ at * 2 ^ 64
  pub settled : (f : ℕ → ℕ) (n : ℕ) → IsLoad f events → IsSettled events at n → AreSteps f n steps load

pub none_swept : (events : List Event) → IsNonDecreasingBy (λ (e : Event). e.cycle) events → IsSwept events 0 [] 0 0 0
none_swept events sorted = record {
  begun_is = refl;
  ended_is = refl;
  few = omega arith;
  few_ends = omega arith;
  settled = λ f n is s.
      let none : AreSteps f (0 + n) [] 0 = stays f 0 n [] 0 (record { steps_are = refl; load_is = refl }) (λ c from to. none_before f events c sorted is (λ e at. omega (arith, s.next e at, to))) in
      let e : 0 + n ≡ n = omega arith in
      subst (λ m. AreSteps f m [] 0) e none;
}

-- another event of the same cycle follows
pub same_swept : (events : List Event) (at : ℕ) (steps : List (ℕ × ℕ)) (begun ended load begun' ended' : ℕ) (d : Event) → at < length events → IsSwept events at steps begun ended load → (IsLastOf events at → ⊥) → begun' ≡ begun + (get_or events at d).begins → ended' ≡ ended + (get_or events at d).ends → (get_or events at d).begins ≤ 2 ^ 64 → (get_or events at d).ends ≤ 2 ^ 64 → IsSwept events (at + 1) steps begun' ended' load
same_swept events at steps begun ended load begun' ended' d within swept other b e small small' = record {
  begun_is = omega (arith, b, swept.begun_is, sum_by_more begins_of events at d within);
  ended_is = omega (arith, e, swept.ended_is, sum_by_more ends_of events at d within);
  few = omega (arith, swept.few);
  few_ends = omega (arith, swept.few_ends);
  settled = λ f n is s. swept.settled f n is (carried n s);
}
  where
    here : slice_get events at ≡ Some (get_or events at d)
    here = slice_get-get_or events at d within

    some_is : {x y : Event} → Some x ≡ Some y → x ≡ y
    some_is h = cc

    cycle_is : (x : Event) → slice_get events at ≡ Some x → x.cycle ≡ (get_or events at d).cycle
    cycle_is x there = ap (λ (e : Event). e.cycle) (some_is (sym there ∙ here))

    carried : (n : ℕ) → IsSettled events (at + 1) n → IsSettled events at n
    carried n s = elim (cases_lt (at + 1) (length events)) [
      | inl more ↦
          let g : Event = get_or events (at + 1) d in
          let next : slice_get events (at + 1) ≡ Some g = slice_get-get_or events (at + 1) d more in
          elim (cases_eq (get_or events at d).cycle g.cycle) [
            | inl same ↦ record {
              next = λ x there. omega (arith, cycle_is x there, same, s.next g next);
              earlier = λ j x less there. elim (s.earlier j x (omega arith) there) [
                | inl low ↦ inl low
                | inr h ↦
                    let g_is : (h.0).cycle ≡ g.cycle = ap (λ (e : Event). e.cycle) (some_is (sym h.1 ∙ next)) in
                    inr (get_or events at d, here, omega (arith, h.2, g_is, same))
              ];
            }
            | inr apart ↦ absurd (other (λ x y there there' same. apart (omega (arith, cycle_is x there, same, ap (λ (e : Event). e.cycle) (some_is (sym there' ∙ next))))))
          ]
      | inr past ↦ absurd (other (λ x y there there' same. omega (arith, slice_get_within events (at + 1) y there', past)))
    ]

-- what the events by the cycle of a last one of its cycle begin and end
pub swept_sums : (events : List Event) (at : ℕ) (steps : List (ℕ × ℕ)) (begun ended load : ℕ) (d : Event) → IsNonDecreasingBy (λ (e : Event). e.cycle) events → at < length events → IsSwept events at steps begun ended load → IsLastOf events at → (begun + (get_or events at d).begins ≡ begun_by events (get_or events at d).cycle) × (ended + (get_or events at d).ends ≡ ended_by events (get_or events at d).cycle)
swept_sums events at steps begun ended load d sorted within swept last = (
  omega (arith, swept.begun_is, sum_by_more begins_of events at d within, sum_to begins_of events (at + 1) (get_or events at d).cycle first later),
  omega (arith, swept.ended_is, sum_by_more ends_of events at d within, sum_to ends_of events (at + 1) (get_or events at d).cycle first later),
)
  where
    here : slice_get events at ≡ Some (get_or events at d)
    here = slice_get-get_or events at d within

    first : (j : ℕ) (x : Event) → j < at + 1 → slice_get events j ≡ Some x → x.cycle ≤ (get_or events at d).cycle
    first j x less there = rises events j at x (get_or events at d) sorted (omega arith) there here

    later : (j : ℕ) (x : Event) → at + 1 ≤ j → slice_get events j ≡ Some x → (get_or events at d).cycle < x.cycle
    later j x more there =
        let g : Event = get_or events (at + 1) x in
        let there' : slice_get events (at + 1) ≡ Some g = slice_get-get_or events (at + 1) x (omega (arith, slice_get_within events j x there)) in
        let up : (get_or events at d).cycle ≤ g.cycle = rises events at (at + 1) (get_or events at d) g sorted (omega arith) here there' in
        let on : g.cycle ≤ x.cycle = rises events (at + 1) j g x sorted more there' there in
        elim (cases_eq (get_or events at d).cycle g.cycle) [ inl same ↦ absurd (last (get_or events at d) g here there' same) | inr apart ↦ omega arith ]

-- the last event of its cycle
pub last_swept : (events : List Event) (at : ℕ) (steps steps' : List (ℕ × ℕ)) (begun ended load begun' ended' now : ℕ) (d : Event) → IsNonDecreasingBy (λ (e : Event). e.cycle) events → at < length events → IsSwept events at steps begun ended load → IsLastOf events at → begun' ≡ begun + (get_or events at d).begins → ended' ≡ ended + (get_or events at d).ends → (get_or events at d).begins ≤ 2 ^ 64 → (get_or events at d).ends ≤ 2 ^ 64 → now + ended' ≡ begun' → steps' ≡ steps ++ with_change load (get_or events at d).cycle now → IsSwept events (at + 1) steps' begun' ended' now
last_swept events at steps steps' begun ended load begun' ended' now d sorted within swept last b e small small' now_is pushed = record {
  begun_is = begun_is;
  ended_is = ended_is;
  few = omega (arith, swept.few);
  few_ends = omega (arith, swept.few_ends);
  settled = λ f n is s. on f n is s (below n s);
}
  where
    here : slice_get events at ≡ Some (get_or events at d)
    here = slice_get-get_or events at d within

    some_is : {x y : Event} → Some x ≡ Some y → x ≡ y
    some_is h = cc

    cycle_is : (x : Event) → slice_get events at ≡ Some x → x.cycle ≡ (get_or events at d).cycle
    cycle_is x there = ap (λ (e : Event). e.cycle) (some_is (sym there ∙ here))

    begun_is : begun' ≡ sum_by begins_of (take (at + 1) events)
    begun_is = omega (arith, b, swept.begun_is, sum_by_more begins_of events at d within)

    ended_is : ended' ≡ sum_by ends_of (take (at + 1) events)
    ended_is = omega (arith, e, swept.ended_is, sum_by_more ends_of events at d within)

    next_later : (g : Event) → slice_get events (at + 1) ≡ Some g → (get_or events at d).cycle < g.cycle
    next_later g there = elim (cases_eq (get_or events at d).cycle g.cycle) [
      | inl same ↦ absurd (last (get_or events at d) g here there same)
      | inr apart ↦ let up : (get_or events at d).cycle ≤ g.cycle = rises events at (at + 1) (get_or events at d) g sorted (omega arith) here there in omega arith
    ]

    below : (n : ℕ) → IsSettled events (at + 1) n → (get_or events at d).cycle < n
    below n s = elim (s.earlier at (get_or events at d) (omega arith) here) [
      | inl low ↦ low
      | inr h ↦ absurd (omega (arith, next_later h.0 h.1, h.2))
    ]

    load_from : (f : ℕ → ℕ) (n : ℕ) → IsLoad f events → IsSettled events (at + 1) n → (k : ℕ) → (get_or events at d).cycle ≤ k → k < n → f k ≡ now
    load_from f n is s k from to =
        let r : f k + ended' ≡ begun' = load_at f events at begun' ended' k (get_or events at d) sorted is here begun_is ended_is from (λ g there. omega (arith, s.next g there, to)) in
        omega (arith, r, now_is)

    settled_here : IsSettled events at (get_or events at d).cycle
    settled_here = record {
      next = λ x there. omega (arith, cycle_is x there);
      earlier = λ j x less there.
          let up : x.cycle ≤ (get_or events at d).cycle = rises events j at x (get_or events at d) sorted (omega arith) there here in
          elim (cases_eq x.cycle (get_or events at d).cycle) [
            | inl same ↦ inr (get_or events at d, here, same)
            | inr apart ↦ inl (omega arith)
          ];
    }

    on : (f : ℕ → ℕ) (n : ℕ) → IsLoad f events → IsSettled events (at + 1) n → (get_or events at d).cycle < n → AreSteps f n steps' now
    on f n is s low =
        let a : AreSteps f (get_or events at d).cycle steps load = swept.settled f (get_or events at d).cycle is settled_here in
        let now_here : f (get_or events at d).cycle ≡ now = load_from f n is s (get_or events at d).cycle (omega arith) low in
        let one : AreSteps f (suc (get_or events at d).cycle) steps' now = record {
          steps_are = pushed
              ∙ ap (λ l. l ++ with_change load (get_or events at d).cycle now) a.steps_are
              ∙ ap (λ v. steps_to f (get_or events at d).cycle ++ with_change v (get_or events at d).cycle now) a.load_is
              ∙ ap (λ v. steps_to f (get_or events at d).cycle ++ with_change (before f (get_or events at d).cycle) (get_or events at d).cycle v) (sym now_here)
              ∙ sym (step_more f (get_or events at d).cycle);
          load_is = sym now_here;
        } in
        let k : ℕ = n - suc (get_or events at d).cycle in
        let e : suc (get_or events at d).cycle + k ≡ n = omega arith in
        subst (λ m. AreSteps f m steps' now) e (stays f (suc (get_or events at d).cycle) k steps' now one (λ x from to. load_from f n is s x (omega arith) (omega arith)))

-- after the last event
pub all_swept : (events : List Event) (at : ℕ) (steps : List (ℕ × ℕ)) (begun ended load : ℕ) → length events ≤ at → IsSwept events at steps begun ended load → (f : ℕ → ℕ) (last : ℕ) → IsLoad f events → EndBy last events → steps ≡ load_steps f last
all_swept events at steps begun ended load past swept f last is ends =
    let s : IsSettled events at (last + 1) = record {
      next = λ e there. absurd (omega (arith, slice_get_within events at e there, past));
      earlier = λ j e less there. inl (omega (arith, ends j e there));
    } in
    (swept.settled f (last + 1) is s).steps_are
