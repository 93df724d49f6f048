-- Steps and rounds lead to one architecture alone.
use Rattle.std.proofs.Common.{◌≡◌, ℕ, zero, suc, ◌+◌, ◌-◌, ◌<◌, ◌≤◌, ◌⊎◌, inl, inr, List, length, take, All, Some, sym, ◌∙◌, ap, subst, arith}
use Rattle.std.specs.List.{slice_get}
use Rattle.std.proofs.lemmas.Option.{slice_get_within, get_or_from_slice_get}
use Rattle.std.proofs.lemmas.List.{length-take, get_or-take}
use Rattle.width_table.specs.Tables.{TableValue}
use Rattle.bus_model.specs.Buses.{BusValue, cost_of}
use Rattle.arch_settle.specs.Neighbours.{bottom_up_of, top_down_of, reshuffle_of}
use Rattle.arch_settle.specs.Settling.{IsStep, IsAtRest, Steps, Rests, IsRound, Rounds, Settles}
use Rattle.common_lemmas.proofs.Options.{some_same}
use Rattle.common_lemmas.proofs.Numbers.{three_ways}

-- what holds of each candidate holds of the one at a place
at_place : (P : List BusValue → Type 0) (xs : List (List BusValue)) (i : ℕ) (x : List BusValue) → All P xs → slice_get xs i ≡ Some x → P x
at_place P xs i x all e = subst P (get_or_from_slice_get xs i x x e) (all i x (slice_get_within xs i x e))

before_place : (P : List BusValue → Type 0) (xs : List (List BusValue)) (i n : ℕ) (x : List BusValue) → All P (take n xs) → i < n → slice_get xs i ≡ Some x → P x
before_place P xs i n x all h e =
    let low = slice_get_within xs i x e in
    let within : i < length (take n xs) = omega (arith, length-take n xs) in
    subst P (get_or-take n xs i x h ∙ get_or_from_slice_get xs i x x e) (all i x within)

step_not_before : (table : TableValue) (xs : List (List BusValue)) (now x y : List BusValue) (s : IsStep table xs now x) (t : IsStep table xs now y) → s.at < t.at → ⊥
step_not_before table xs now x y s t h =
    let less = before_place (λ other. cost_of table y < cost_of table other) xs s.at t.at x t.first h s.is in
    let more = at_place (λ other. cost_of table x ≤ cost_of table other) xs t.at y s.least t.is in
    omega arith

pub step_only : (table : TableValue) (xs : List (List BusValue)) (now x y : List BusValue) → IsStep table xs now x → IsStep table xs now y → x ≡ y
step_only table xs now x y s t = elim (three_ways s.at t.at) [
  | inl less ↦ absurd (step_not_before table xs now x y s t less)
  | inr other ↦ elim other [
    | inl same ↦ some_same x y (sym s.is ∙ (ap (slice_get xs) same ∙ t.is))
    | inr more ↦ absurd (step_not_before table xs now y x t s more)
  ]
]

rest_no_step : (table : TableValue) (xs : List (List BusValue)) (now next : List BusValue) → IsAtRest table xs now → IsStep table xs now next → ⊥
rest_no_step table xs now next rest s =
    let more = at_place (λ other. cost_of table now ≤ cost_of table other) xs s.at next rest s.is in
    let less = s.gains in
    omega arith

-- from where they rest no step leads on
rest_no_steps : (table : TableValue) (kind : List BusValue → List (List BusValue)) (k : ℕ) (now to : List BusValue) → IsAtRest table (kind now) now → Steps table kind (suc k) now to → ⊥
rest_no_steps table kind zero now to rest s = rest_no_step table (kind now) now to rest (subst (λ x. IsStep table (kind x) x to) s.1 s.2)
rest_no_steps table kind (suc k) now to rest s = rest_no_steps table kind k now s.0 rest s.1

steps_only : (table : TableValue) (kind : List BusValue → List (List BusValue)) (n : ℕ) (from x y : List BusValue) → Steps table kind n from x → Steps table kind n from y → x ≡ y
steps_only table kind zero from x y s t = s ∙ sym t
steps_only table kind (suc n) from x y s t =
    let same = steps_only table kind n from s.0 t.0 s.1 t.1 in
    step_only table (kind t.0) t.0 x y (subst (λ l. IsStep table (kind l) l x) same s.2) t.2

-- more steps pass where fewer end
steps_rest : (table : TableValue) (kind : List BusValue → List (List BusValue)) (n k : ℕ) (from x y : List BusValue) → Steps table kind n from x → Steps table kind (n + k) from y → Steps table kind k x y
steps_rest table kind n zero from x y s t =
    let e : n + zero ≡ n = omega arith in
    steps_only table kind n from y x (subst (λ m. Steps table kind m from y) e t) s
steps_rest table kind n (suc k) from x y s t =
    let e : n + suc k ≡ suc (n + k) = omega arith in
    let more = subst (λ m. Steps table kind m from y) e t in
    (more.0, steps_rest table kind n k from x more.0 s more.1, more.2)

rests_not_before : (table : TableValue) (kind : List BusValue → List (List BusValue)) (n k : ℕ) (from x y : List BusValue) → IsAtRest table (kind x) x → Steps table kind n from x → Steps table kind (n + suc k) from y → ⊥
rests_not_before table kind n k from x y rest s t = rest_no_steps table kind k x y rest (steps_rest table kind n (suc k) from x y s t)

rests_longer : (table : TableValue) (kind : List BusValue → List (List BusValue)) (from x y : List BusValue) (n m : ℕ) → IsAtRest table (kind x) x → Steps table kind n from x → Steps table kind m from y → n < m → ⊥
rests_longer table kind from x y n m rest s t h =
    let e : m ≡ n + suc (m - n - 1) = omega arith in
    rests_not_before table kind n (m - n - 1) from x y rest s (subst (λ i. Steps table kind i from y) e t)

pub rests_only : (table : TableValue) (kind : List BusValue → List (List BusValue)) (from x y : List BusValue) → Rests table kind from x → Rests table kind from y → x ≡ y
rests_only table kind from x y r q = elim (three_ways r.count q.count) [
  | inl less ↦ absurd (rests_longer table kind from x y r.count q.count r.rest r.steps q.steps less)
  | inr other ↦ elim other [
    | inl same ↦ steps_only table kind q.count from x y (subst (λ m. Steps table kind m from x) same r.steps) q.steps
    | inr more ↦ absurd (rests_longer table kind from y x q.count r.count q.rest q.steps r.steps more)
  ]
]

round_only : (table : TableValue) (from x y : List BusValue) → IsRound table from x → IsRound table from y → x ≡ y
round_only table from x y r q =
    let one = rests_only table (bottom_up_of table) from r.one q.one r.up q.up in
    let two = rests_only table (top_down_of table) q.one r.two q.two (subst (λ a. Rests table (top_down_of table) a r.two) one r.down) q.down in
    rests_only table (reshuffle_of table) q.two x y (subst (λ a. Rests table (reshuffle_of table) a x) two r.shuffle) q.shuffle

rounds_only : (table : TableValue) (n : ℕ) (from x y : List BusValue) → Rounds table n from x → Rounds table n from y → x ≡ y
rounds_only table zero from x y r q = r ∙ sym q
rounds_only table (suc n) from x y r q =
    let same = rounds_only table n from r.0 q.0 r.1 q.1 in
    round_only table q.0 x y (subst (λ l. IsRound table l x) same r.2) q.2

-- what a round leaves as it is further rounds leave too
rounds_still : (table : TableValue) (n k : ℕ) (from x y : List BusValue) → IsRound table x x → Rounds table n from x → Rounds table (n + k) from y → y ≡ x
rounds_still table n zero from x y still r q =
    let e : n + zero ≡ n = omega arith in
    rounds_only table n from y x (subst (λ m. Rounds table m from y) e q) r
rounds_still table n (suc k) from x y still r q =
    let e : n + suc k ≡ suc (n + k) = omega arith in
    let more = subst (λ m. Rounds table m from y) e q in
    let same = rounds_still table n k from x more.0 still r more.1 in
    round_only table x y x (subst (λ l. IsRound table l y) same more.2) still

rounds_longer : (table : TableValue) (from x y : List BusValue) (n m : ℕ) → IsRound table x x → Rounds table n from x → Rounds table m from y → n < m → x ≡ y
rounds_longer table from x y n m still r q h =
    let e : m ≡ n + (m - n) = omega arith in
    sym (rounds_still table n (m - n) from x y still r (subst (λ i. Rounds table i from y) e q))

pub settles_only : (table : TableValue) (from x y : List BusValue) → Settles table from x → Settles table from y → x ≡ y
settles_only table from x y r q = elim (three_ways r.count q.count) [
  | inl less ↦ rounds_longer table from x y r.count q.count r.still r.rounds q.rounds less
  | inr other ↦ elim other [
    | inl same ↦ rounds_only table q.count from x y (subst (λ m. Rounds table m from x) same r.rounds) q.rounds
    | inr more ↦ sym (rounds_longer table from y x q.count r.count q.still q.rounds r.rounds more)
  ]
]
