-- The order in which the start solution takes the modules.
use Rattle.std.proofs.Common.{◌≡◌, ℕ, zero, suc, ◌+◌, ◌<◌, ◌≤◌, ◌⊎◌, inl, inr, Bool, true, false, cond, List, [], ◌∷◌, ◌++◌, length, get_or, take, map, All, nat_eq, refl, sym, ◌∙◌, ap, subst, arith}
use Rattle.std.specs.List.{AllPairs}
use Rattle.std.specs.List.Sorted.{IsPermutation, IsSorted}
use Rattle.std.specs.Cmp.{IsTotalOrder, nat_cmp_is}
use Rattle.std.specs.Ordering.{nat_cmp, ordering_then, is_lt}
use Rattle.std.specs.declared.cmp.Ordering.TheVariants.{Less, Equal}
use Rattle.std.specs.declared.cmp.Ordering.{Ordering}
use Rattle.std.specs.declared.cmp.Reverse.{Reverse}
use Rattle.std.proofs.lemmas.Cmp.{nat_cmp_total, on_total, then_total, back_total}
use Rattle.std.proofs.lemmas.Map.Keys.{ge_from_not_lt}
use Rattle.std.proofs.lemmas.List.{map-append, get_or-map, length-map, take_more}
use Rattle.std.proofs.lemmas.List.Sums.{sum_by_push, sum_by-cons, get_or-le-sum_by}
use Rattle.std.proofs.lemmas.List.Sorted.{sorted_far, ranks_by, IsPermutation-map, sum_by-IsPermutation, All-permutation}
use Rattle.std.proofs.lemmas.List.Elements.{All-push, All-nil}
use Rattle.width_table.specs.Tables.{TableValue, IsTable, places_of, time_of, has_tam}
use Rattle.bus_model.specs.Sound.{times_listed, due}
use Rattle.bus_model.specs.Start.{StandsBefore, IsStartOrder}
use Rattle.bus_model.proofs.Times.{only_at, only_at-same, only_at-above, only_at-below, due-one}
use Rattle.common_lemmas.proofs.Numbers.{three_ways, less_or_not, below_or_at}

abbrev pub Key : Type 0
Key = Reverse ℕ × ℕ

abbrev pub place_of : Key → ℕ
place_of key = key.1

-- each key has the time of its place
abbrev pub HaveTimes : TableValue → List Key → Type 0
HaveTimes table keys = All (λ (key : Key). key.0.0 ≡ time_of table key.1 1) keys

-- the keys of the places below i
pub record AreKeysBelow (table : TableValue) (i : ℕ) (keys : List Key) : Type 0 where
  pub times : HaveTimes table keys
  pub below : (p : ℕ) → p < i → times_listed p (map place_of keys) ≡ due table p
  pub above : (p : ℕ) → i ≤ p → times_listed p (map place_of keys) ≡ 0

pub keys_none : (table : TableValue) → AreKeysBelow table 0 []
keys_none table = record { times = All-nil (λ (key : Key). key.0.0 ≡ time_of table key.1 1); below = λ p h. absurd (omega arith); above = λ p h. refl }

pub listed_push : (p : ℕ) (xs : List ℕ) (x : ℕ) → times_listed p (xs ++ x ∷ []) ≡ times_listed p xs + only_at x p
listed_push p xs x = sum_by_push (λ q. cond (nat_eq q p) 1 0) xs x

pub keys_push : (p : ℕ) (keys : List Key) (key : Key) → times_listed p (map place_of (keys ++ key ∷ [])) ≡ times_listed p (map place_of keys) + only_at key.1 p
keys_push p keys key = ap (times_listed p) (map-append place_of keys (key ∷ [])) ∙ listed_push p (map place_of keys) key.1

due-true : (table : TableValue) (p : ℕ) → has_tam table p ≡ true → due table p ≡ 1
due-true table p h = ap (λ b. cond b 1 0) h

due-false : (table : TableValue) (p : ℕ) → has_tam table p ≡ false → due table p ≡ 0
due-false table p h = ap (λ b. cond b 1 0) h

pub keys_take : (table : TableValue) (i : ℕ) (keys : List Key) (key : Key) → AreKeysBelow table i keys → key.1 ≡ i → key.0.0 ≡ time_of table i 1 → has_tam table i ≡ true → AreKeysBelow table (i + 1) (keys ++ key ∷ [])
keys_take table i keys key old at time tam = record {
  times = All-push (λ (k : Key). k.0.0 ≡ time_of table k.1 1) keys key old.times (time ∙ ap (λ p. time_of table p 1) (sym at));
  below = λ p h. elim (below_or_at p i h) [
    | inl less ↦ let a = old.below p less in let b = keys_push p keys key in let z = ap (λ x. only_at x p) at in let o = only_at-above i p less in omega arith
    | inr same ↦ let a = old.above p (omega arith) in let b = keys_push p keys key in let z = ap (λ x. only_at x p) (at ∙ sym same) in let o = only_at-same p in
        let d = due-true table p (ap (has_tam table) same ∙ tam) in omega arith
  ];
  above = λ p h. let a = old.above p (omega arith) in let b = keys_push p keys key in let z = ap (λ x. only_at x p) at in let o = only_at-below i p (omega arith) in omega arith;
}

pub keys_skip : (table : TableValue) (i : ℕ) (keys : List Key) → AreKeysBelow table i keys → has_tam table i ≡ false → AreKeysBelow table (i + 1) keys
keys_skip table i keys old tam = record {
  times = old.times;
  below = λ p h. elim (below_or_at p i h) [
    | inl less ↦ old.below p less
    | inr same ↦ let a = old.above p (omega arith) in let d = due-false table p (ap (has_tam table) same ∙ tam) in omega arith
  ];
  above = λ p h. old.above p (omega arith);
}

pub keys_all : (table : TableValue) (i : ℕ) (keys : List Key) → IsTable table → AreKeysBelow table i keys → places_of table ≤ i → (p : ℕ) → times_listed p (map place_of keys) ≡ due table p
keys_all table i keys laws all end p =
    elim (less_or_not p i) [
      | inl less ↦ all.below p less
      | inr past ↦ let a = all.above p past in let d : due table p ≡ 0 = due_past past (has_tam table p) refl in omega arith
    ]
  where
    due_past : i ≤ p → (b : Bool) → has_tam table p ≡ b → due table p ≡ 0
    due_past past true e = absurd (let low = laws.in_range p e in omega arith)
    due_past past false e = due-false table p e

-- the order of keys: the greater time first, then the earlier place
abbrev pub key_cmp : Key → Key → Ordering
key_cmp x y = ordering_then (nat_cmp y.0.0 x.0.0) (nat_cmp x.1 y.1)

key_cmp-total : IsTotalOrder key_cmp
key_cmp-total = then_total (back_total (on_total (λ (k : Key). k.0.0) nat_cmp_total)) (on_total (λ (k : Key). k.1) nat_cmp_total)

later-less : (s t p q : ℕ) → s < t → is_lt (ordering_then (nat_cmp s t) (nat_cmp q p)) ≡ false → ⊥
later-less s t p q less h =
    let e : nat_cmp s t ≡ Less = sym (nat_cmp_is s t Less less) in
    let k : is_lt (ordering_then Less (nat_cmp q p)) ≡ false = subst (λ o. is_lt (ordering_then o (nat_cmp q p)) ≡ false) e h in
    cc

later-same : (s t p q : ℕ) → s ≡ t → is_lt (ordering_then (nat_cmp s t) (nat_cmp q p)) ≡ false → p ≤ q
later-same s t p q same h =
    let e : nat_cmp s t ≡ Equal = sym (nat_cmp_is s t Equal same) in
    let k : is_lt (ordering_then Equal (nat_cmp q p)) ≡ false = subst (λ o. is_lt (ordering_then o (nat_cmp q p)) ≡ false) e h in
    ge_from_not_lt q p k

later : (s t p q : ℕ) → (p ≡ q → ⊥) → is_lt (ordering_then (nat_cmp s t) (nat_cmp q p)) ≡ false → (t < s) ⊎ ((s ≡ t) × (p < q))
later s t p q differ h = elim (three_ways s t) [
  | inl less ↦ absurd (later-less s t p q less h)
  | inr other ↦ elim other [
    | inl same ↦ let le = later-same s t p q same h in inr (same, strict p q le differ)
    | inr more ↦ inl more
  ]
]
  where
    strict : (a b : ℕ) → a ≤ b → (a ≡ b → ⊥) → a < b
    strict a b le ne = grind arith

-- what stands at two places is listed twice
listed_once : (xs : List ℕ) (i d : ℕ) → i < length xs → 1 ≤ times_listed (get_or xs i d) xs
listed_once xs i d h =
    let one = get_or-le-sum_by (λ q. cond (nat_eq q (get_or xs i d)) 1 0) xs i d h in
    let same = only_at-same (get_or xs i d) in omega arith

listed_twice : (xs : List ℕ) (i j d : ℕ) → i < j → j < length xs → get_or xs i d ≡ get_or xs j d → 2 ≤ times_listed (get_or xs j d) xs
listed_twice [] i j d less h e = absurd (omega arith)
listed_twice (x ∷ xs) zero zero d less h e = absurd (omega arith)
listed_twice (x ∷ xs) zero (suc j) d less h e =
    let more = listed_once xs j d (omega arith) in
    let split = sum_by-cons (λ q. cond (nat_eq q (get_or xs j d)) 1 0) x xs in
    let one = ap (λ a. only_at a (get_or xs j d)) e ∙ only_at-same (get_or xs j d) in
    omega arith
listed_twice (x ∷ xs) (suc i) zero d less h e = absurd (omega arith)
listed_twice (x ∷ xs) (suc i) (suc j) d less h e =
    let more = listed_twice xs i j d (omega arith) (omega arith) e in
    let split = sum_by-cons (λ q. cond (nat_eq q (get_or xs j d)) 1 0) x xs in
    omega arith

pair_stands : (table : TableValue) (x y : Key) → x.0.0 ≡ time_of table x.1 1 → y.0.0 ≡ time_of table y.1 1 → (x.1 ≡ y.1 → ⊥) → is_lt (key_cmp y x) ≡ false → StandsBefore table x.1 y.1
pair_stands table x y tx ty differ h = elim (later x.0.0 y.0.0 x.1 y.1 differ h) [
  | inl more ↦ inl (omega arith)
  | inr same ↦ inr (sym tx ∙ (same.0 ∙ ty), same.1)
]

no_key : ℕ → Key
no_key d = (record { 0 = d }, d)

pub start_order-from_sorted : (table : TableValue) (keys sorted : List Key) → HaveTimes table keys → ((p : ℕ) → times_listed p (map place_of keys) ≡ due table p) → IsPermutation keys sorted → IsSorted key_cmp sorted → IsStartOrder table (map place_of sorted)
start_order-from_sorted table keys sorted times once moved up = record { once = same; longest_first = pairs }
  where
    same : (p : ℕ) → times_listed p (map place_of sorted) ≡ due table p
    same p = sum_by-IsPermutation (λ q. cond (nat_eq q p) 1 0) (map place_of keys) (map place_of sorted) (IsPermutation-map place_of keys sorted moved) ∙ once p

    have : HaveTimes table sorted
    have = All-permutation (λ (key : Key). key.0.0 ≡ time_of table key.1 1) keys sorted moved times

    pairs : AllPairs (StandsBefore table) (map place_of sorted)
    pairs i j d less h =
        let k : j < length sorted = omega (arith, length-map sorted place_of) in
        let ki = get_or sorted i (no_key d) in
        let kj = get_or sorted j (no_key d) in
        let ei = get_or-map place_of sorted i (no_key d) d (omega arith) in
        let ej = get_or-map place_of sorted j (no_key d) d k in
        let far = sorted_far (λ x y. is_lt (key_cmp x y)) (ranks_by key_cmp-total (λ (x : Key). x)) sorted up i j (no_key d) (omega arith) k in
        let differ : place_of ki ≡ place_of kj → ⊥ = λ e. (
        let twice = listed_twice (map place_of sorted) i j d less h (ei ∙ (e ∙ sym ej)) in
        let most = same (get_or (map place_of sorted) j d) in
        let few = due-one table (get_or (map place_of sorted) j d) in
        omega arith) in
        subst (λ a. StandsBefore table a (get_or (map place_of sorted) j d)) (sym ei)
        (subst (λ b. StandsBefore table (place_of ki) b) (sym ej)
        (pair_stands table ki kj (have i (no_key d) (omega arith)) (have j (no_key d) k) differ far))

-- the places of one key more
pub places_more : (keys : List Key) (i p : ℕ) (d : Key) (more old : List ℕ) → more ≡ old ++ p ∷ [] → old ≡ map place_of (take i keys) → i < length keys → p ≡ place_of (get_or keys i d) → more ≡ map place_of (take (i + 1) keys)
places_more keys i p d more old is so less here =
    is ∙ (ap (λ (l : List ℕ). l ++ p ∷ []) so ∙ (ap (λ (v : ℕ). map place_of (take i keys) ++ v ∷ []) here
    ∙ sym (ap (map place_of) (take_more keys i d less) ∙ map-append place_of (take i keys) (get_or keys i d ∷ []))))
