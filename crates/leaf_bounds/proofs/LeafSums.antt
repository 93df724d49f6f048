-- What stands in the room of a leaf: steps of powers, crowds, and what tests use list by list.
use Rattle.std.proofs.Common.{◌≡◌, ℕ, zero, suc, ◌+◌, ◌*◌, ◌/◌, ◌≤◌, Option, Some, None, List, sym, ap, ◌∙◌, arith, inl, inr, mul_comm, mul-le-mul_left, div-mul-le_self, position, ◌<◌, Bool, true, [], ◌∷◌, length, get_or, take, refl, subst, ◌^◌, false, ◌++◌, map, add-one, add-mul, slice_get, if◌then◌else◌, ◌&&◌, ◌||◌, slice_index, Contains, sum_by, All}
use Rattle.std.proofs.lemmas.Bool.{cases_lt, lt-ltb, le-ltb, eq-eqb}
use Rattle.soc_model.specs.Chips.{LiveTest, id_of, same_test, SocValue, live_tests}
use Rattle.plan_model.specs.declared.Limits.{Limits}
use Rattle.plan_model.specs.declared.Profile.{Profile}
use Rattle.plan_model.specs.Views.{limits_value}
use Rattle.plan_model.specs.Plans.{LimitsValue, step_power, power_of_id}
use Rattle.plan_model.specs.Bounds.{sum_below}
use Rattle.plan_model.proofs.SumsOverCycles.{sum_below-le, sum_below-const, sum_below-same}
use Rattle.bound_rules.proofs.ProfilePlaces.{said_at, said_by_none}
use Rattle.leaf_bounds.specs.Lists.{counted, power_use, IsCrowd, KeepsList, room_of, IsNear, is_among, is_beside, excludes_all, use_of, AreKept}
use Rattle.std.proofs.lemmas.List.{length-take-le, get_or-take, length-append, length-map}
use Rattle.std.proofs.lemmas.List.Sums.{sum_by-cons, sum_by-le, sum_by_push}
use Rattle.std.proofs.lemmas.Option.{slice_get_within, get_or_from_slice_get, slice_get-get_or, slice_get-map}
use Rattle.soc_model.specs.declared.TestId.{TestId}
use Rattle.soc_model.specs.SoundChips.{IsSoundChip}
use Rattle.plan_model.specs.Rules.{live_ids}
use Rattle.plan_model.proofs.Sums.{at_most_one, item-le-sum_by, one_if}
use Rattle.plan_model.proofs.CertificatesAreBounds.{same_test_is}
use Rattle.live_tests.proofs.HowMany.{live_tests-le}
use Rattle.plan_model.specs.Proofs.{ListValue, OfTurns, OfTurnsOn, OfCrowd, OfPower, list_value, WeightsValue}
use Rattle.common_lemmas.proofs.Lists.{sums_agree, contains_at, from_map}
use Rattle.std.proofs.Math.Nat.{mul-le-mul_right}
use Rattle.std.proofs.lemmas.List.Elements.{All-tail, All-push}
use Rattle.plan_model.specs.Certificates.{on}
use Rattle.leaf_bounds.specs.declared.basis.Basis.{Basis}
use Rattle.leaf_bounds.specs.declared.leaf_costs.BesideUse.{BesideUse}
use Rattle.leaf_bounds.specs.declared.leaf_costs.Weighed.{Weighed}
use Rattle.leaf_bounds.specs.declared.list_table.Role.{Role}
use Rattle.leaf_bounds.specs.declared.list_table.Role.TheVariants.{Out, In, Beside, Drawing}
use Rattle.plan_model.specs.declared.proof.TestList.{TestList}
use Rattle.leaf_bounds.specs.ListTables.{KeepFirst, role_of, role_at}
use Rattle.leaf_bounds.specs.Leaves.{weighed}
use Rattle.leaf_bounds.specs.Bases.{IsBasis, AllKept, chip_of, limits_of, lists_of}
use Rattle.leaf_bounds.specs.LeafCosts.{AreUses, IsMade, all_weights, IsWeighed, USES_COST_MOST, beside_use, drawn_use, in_weight, is_aside, weighed_by}

-- ==== powers as they count, added up over cycles by the steps of profiles

module _ (limit near : ℕ) where
  -- a power counts for all of the limit at most
  pub counted-le : (p : ℕ) → counted limit near p ≤ limit
  counted-le p = elim (cases_lt limit (p + near)) [
    | inl over ↦ rw (lt-ltb limit (p + near) over) (omega arith)
    | inr within ↦ elim (cases_lt p near) [
      | inl small ↦ rw (le-ltb limit (p + near) within, lt-ltb p near small) (omega arith)
      | inr large ↦ rw (le-ltb limit (p + near) within, le-ltb p near large) (omega arith)
    ]
  ]

  abbrev pub counted_at : List (ℕ × ℕ) → ℕ → ℕ
  counted_at steps r = counted limit near (step_power r 0 steps)

  -- what counts of a step is within the limit at each cycle
  pub counted_cycles-le : (power d : ℕ) → counted limit near power * d ≤ limit * d
  counted_cycles-le power d =
      omega (arith, mul-le-mul_left d (counted-le power), mul_comm d (counted limit near power), mul_comm d limit)

  -- all that counts is within the limit at each cycle
  pub counted_sum-le : (f : ℕ → ℕ) (n : ℕ) → sum_below (λ r. counted limit near (f r)) n ≤ limit * n
  counted_sum-le f n = omega (arith, sum_below-le (λ r. counted limit near (f r)) limit n (λ r less. counted-le (f r)), mul_comm n limit)

-- the share of the limit is no more than the cycles
quotient-le : (a n p : ℕ) → a ≤ p * n → a / p ≤ n
quotient-le a n zero h = omega arith
quotient-le a n (suc p) h = elim (cases_lt n (a / suc p)) [
  | inl more ↦
      let wide : suc p * suc n ≤ suc p * (a / suc p) = mul-le-mul_left (suc p) (omega arith) in
      let e : suc p * suc n ≡ suc p * n + suc p = omega arith in
      absurd (omega (arith, wide, e, mul_comm (suc p) (a / suc p), div-mul-le_self a (suc p)))
  | inr few ↦ few
]

pub power_use-le : (limits : LimitsValue) (near : ℕ) (l : LiveTest) (cycles : ℕ) (o : Option ℕ) → power_use limits near l cycles o ≤ cycles
power_use-le limits near l cycles None = omega arith
power_use-le limits near l cycles (Some limit) = quotient-le _ cycles limit (counted_sum-le limit near (power_of_id limits (id_of l) l.test.power) cycles)

-- ---- by the profile of a test, or its own power

module _ (limits : Limits) (limit near : ℕ) (l : LiveTest) where
  abbrev pub counted_of : ℕ → ℕ
  counted_of r = counted limit near (power_of_id (limits_value limits) (id_of l) l.test.power r)

  pub counted_steps-are : {place : ℕ} {p : Profile} {steps : List (ℕ × ℕ)} (cycles : ℕ) →
      Some place ≡ position (λ (p : Profile). same_test p.test (id_of l)) limits.profiles.items → slice_get limits.profiles.items place ≡ Some p → steps ≡ p.steps.items →
      sum_below (counted_at limit near steps) cycles ≡ sum_below counted_of cycles
  counted_steps-are {place} {p} {steps} cycles found at is =
      sym (sum_below-same counted_of (counted_at limit near steps) cycles
      (λ r h. ap (counted limit near) (said_at (id_of l) (λ p. step_power r 0 p.steps) l.test.power limits.profiles.items place p found at ∙ ap (step_power r 0) (sym is))))

  pub counted_own-is : {own : ℕ} (cycles : ℕ) → None ≡ position (λ (p : Profile). same_test p.test (id_of l)) limits.profiles.items → own ≡ l.test.power →
      counted limit near own * cycles ≡ sum_below counted_of cycles
  counted_own-is {own} cycles found is =
      mul_comm (counted limit near own) cycles ∙ sym (sum_below-const (counted limit near own) cycles)
      ∙ sym (sum_below-same counted_of (λ r. counted limit near own) cycles (λ r h. ap (counted limit near) (said_by_none (id_of l) (λ p. step_power r 0 p.steps) l.test.power limits.profiles.items found ∙ sym is)))

pub power_use-is : (limits : LimitsValue) (near : ℕ) (l : LiveTest) (cycles : ℕ) {limit drawn share : ℕ} {o : Option ℕ} → o ≡ Some limit →
    drawn ≡ sum_below (λ r. counted limit near (power_of_id limits (id_of l) l.test.power r)) cycles → share ≡ drawn / limit → share ≡ power_use limits near l cycles o
power_use-is limits near l cycles {limit} some drawn-is is = rw some (is ∙ ap (λ n. n / limit) drawn-is)

-- ==== a crowd has no more tests than the chip has live tests

-- ---- each of some things is met by another one, and none of these meets two

sums_add : {X : Type 0} (f g : X → ℕ) (xs : List X) → sum_by f xs + sum_by g xs ≡ sum_by (λ x. f x + g x) xs
sums_add f g [] = refl
sums_add f g (x ∷ xs) = omega (arith, sum_by-cons f x xs, sum_by-cons g x xs, sum_by-cons (λ x. f x + g x) x xs, sums_add f g xs)

met : {X Y : Type 0} (p : X → Y → Bool) (xs : List X) (ys : List Y) → ((i : ℕ) (x : X) → slice_get xs i ≡ Some x → 1 ≤ sum_by (λ y. one_if (p x y)) ys) → length xs ≤ sum_by (λ y. sum_by (λ x. one_if (p x y)) xs) ys
met p [] ys h = omega arith
met p (x ∷ xs) ys h =
    let first : 1 ≤ sum_by (λ y. one_if (p x y)) ys = h 0 x refl in
    let both = sums_add (λ y. one_if (p x y)) (λ y. sum_by (λ x. one_if (p x y)) xs) ys in
    let turned =
    sums_agree (λ y. one_if (p x y) + sum_by (λ x. one_if (p x y)) xs) (λ y. sum_by (λ x. one_if (p x y)) (x ∷ xs)) ys (λ y. sym (sum_by-cons (λ x. one_if (p x y)) x xs)) in
    omega (arith, first, met p xs ys (λ i z at. h (suc i) z at), both, turned)

module _ {soc : SocValue} (limits : LimitsValue) where
  crowd_long : {most : ℕ} {tests : List TestId} → IsCrowd soc limits most tests → length tests ≤ length (live_tests soc)
  crowd_long {tests} crowd =
      let all = met (λ id l. same_test (id_of l) id) tests (live_tests soc) one in
      let few = sum_by-le (λ l. sum_by (λ id. one_if (same_test (id_of l) id)) tests) 1 (live_tests soc) (λ k d less. once (get_or (live_tests soc) k d)) in
      omega arith
    where
      one : (i : ℕ) (id : TestId) → slice_get tests i ≡ Some id → 1 ≤ sum_by (λ l. one_if (same_test (id_of l) id)) (live_tests soc)
      one i id at =
          let there = contains_at (live_ids soc) id (crowd.items i id at).live in
          let live = from_map id_of (live_tests soc) there.0 id there.1 in
          let same : same_test (id_of live.0) id ≡ true = rw (live.2, (eq-eqb id.«module» id.«module» refl), (eq-eqb id.test id.test refl)) refl in
          let item = item-le-sum_by (λ l. one_if (same_test (id_of l) id)) (live_tests soc) there.0 live.0 live.1 in
          rw same at item

      twice : (l : LiveTest) (i j : ℕ) (x y : TestId) → i < j → slice_get tests i ≡ Some x → slice_get tests j ≡ Some y → same_test (id_of l) x ≡ true → same_test (id_of l) y ≡ true → ⊥
      twice l i j x y before at-x at-y is-x is-y =
          let same = sym (same_test_is (id_of l) x is-x) ∙ same_test_is (id_of l) y is-y in
          let within = slice_get_within tests j y at-y in
          let front = length-take-le j tests (omega arith) in
          let earlier : Contains (take j tests) x = (i, omega (arith, front), get_or-take j tests i x before ∙ get_or_from_slice_get tests i x x at-x) in
          (crowd.items j y at-y).new (subst (λ z. Contains (take j tests) z) same earlier)

      once : (l : LiveTest) → sum_by (λ id. one_if (same_test (id_of l) id)) tests ≤ 1
      once l = at_most_one (same_test (id_of l)) tests (λ i j x y before at-x at-y is-x is-y. twice l i j x y before at-x at-y is-x is-y)

  -- so there is room for no more
  pub room-le : (list : ListValue) → IsSoundChip soc → KeepsList soc limits list → room_of list ≤ 4096
  room-le (OfTurns tests) sound kept = omega arith
  room-le (OfTurnsOn rank tests) sound kept = omega arith
  room-le (OfCrowd most tests) sound kept = omega (arith, kept.many, crowd_long kept, live_tests-le soc sound)
  room-le (OfPower near) sound kept = omega arith

-- ==== what stands in the room of a leaf: one list more, and what tests use by it

-- ---- lists that are kept

kept_first : (soc : SocValue) (limits : LimitsValue) (lists : List ListValue) {kept : ℕ} → kept ≡ length lists → KeepFirst soc limits lists kept →
    AreKept soc limits lists
kept_first soc limits lists all (inl a) = a.1
kept_first soc limits lists {kept} all (inr b) = absurd (omega (arith, slice_get_within lists kept b.0 b.1.there, all))

pub kept_list : {g : Basis} (n : ℕ) {list : ListValue} → IsBasis g → AllKept g → slice_get (lists_of g) n ≡ Some list → KeepsList (chip_of g) (limits_of g) list
kept_list {g} n {list} is all at = kept_first (chip_of g) (limits_of g) (lists_of g) all is.lists.first n list at

-- ---- one list more

pub weighed_push : (lists : List ListValue) (os : List (ℕ × ℕ)) (n y : ℕ) {list : ListValue} (f : ListValue → ℕ) → slice_get lists n ≡ Some list →
    weighed_by lists (os ++ (n, y) ∷ []) f ≡ weighed_by lists os f + y * f list
weighed_push lists os n y {list} f at =
    let last = ap (λ o. on o f) at in
    sum_by_push (λ (o : ℕ × ℕ). o.1 * on (slice_get lists o.0) f) os (n, y) ∙ ap (λ v. weighed_by lists os f + y * v) last

module _ (g : Basis) where
  -- what the room has of a test's use
  abbrev pub room_use : (at : ℕ → Bool) (i cycles : ℕ) → LiveTest → Weighed → ℕ
  room_use at i cycles l room = slice_index room.sums.items i * cycles + sum_by (beside_use g.lists at i cycles) room.beside.items + sum_by (drawn_use (limits_of g) l cycles) room.power.items

  -- what a list adds to the room
  pub record Adds (n y : ℕ) (list : ListValue) (old new : Weighed) : Type 0 where
    pub at : slice_get (lists_of g) n ≡ Some list
    pub long : length new.sums.items ≡ length old.sums.items
    pub low : (i : ℕ) → i < length old.sums.items → slice_index new.sums.items i ≤ slice_index old.sums.items i + y
    pub beside : length new.beside.items ≤ length old.beside.items + 1
    pub listed : All (λ (b : BesideUse). b.list < length (lists_of g)) old.beside.items → All (λ (b : BesideUse). b.list < length (lists_of g)) new.beside.items
    pub power : length new.power.items ≤ length old.power.items + 1
    pub near : All (λ (p : ℕ × ℕ). IsNear (limits_of g) p.0) old.power.items → All (λ (p : ℕ × ℕ). IsNear (limits_of g) p.0) new.power.items
    pub rooms : new.rooms ≡ old.rooms + y * room_of list
    pub adds : (at : ℕ → Bool) (i cycles : ℕ) (l : LiveTest) → slice_get (live_tests (chip_of g)) i ≡ Some l →
        room_use at i cycles l new ≡ room_use at i cycles l old + y * use_of (chip_of g) (limits_of g) at list cycles l

  pub made_next : {os : List (ℕ × ℕ)} (n y : ℕ) (list : ListValue) (old new : Weighed) → room_of list ≤ 4096 → Adds n y list old new → IsMade g os old →
      IsMade g (os ++ (n, y) ∷ []) new
  made_next {os} n y list old new few adds made =
      let more = length-append os ((n, y) ∷ []) in
      let heavier = sum_by_push (λ (o : ℕ × ℕ). o.1) os (n, y) in
      let long = adds.long ∙ made.long in
      record {
        long = long;
        uses = λ at i cycles l there. weighed_push (lists_of g) os n y (λ list. use_of (chip_of g) (limits_of g) at list cycles l) adds.at
            ∙ ap (λ v. v + y * use_of (chip_of g) (limits_of g) at list cycles l) (made.uses at i cycles l there) ∙ sym (adds.adds at i cycles l there);
        low = λ i within. rw heavier (omega (arith, made.low i (omega (arith, adds.long)), adds.low i (omega (arith, adds.long))));
        beside = rw more (omega (arith, adds.beside, made.beside));
        listed = adds.listed made.listed;
        power = rw more (omega (arith, adds.power, made.power));
        near = adds.near made.near;
        rooms = adds.rooms ∙ ap (λ v. v + y * room_of list) made.rooms ∙ sym (weighed_push (lists_of g) os n y room_of adds.at);
        few_rooms = rw heavier (omega (arith, adds.rooms, made.few_rooms, mul-le-mul_left y few, add-mul (all_weights os) y 4096));
      }

-- ---- what each kind adds

-- a test that is named, or isn't
in_part : (b : Bool) (y cycles : ℕ) → in_weight (if b then In else Out) y * cycles ≡ y * (if b then cycles else 0)
in_part true y cycles = refl
in_part false y cycles = omega arith

-- the weights at a test, where the role is known
add_part : (a w cycles b p : ℕ) {u : ℕ} → w * cycles ≡ u → (a + w) * cycles + b + p ≡ a * cycles + b + p + u
add_part a w cycles b p h = omega (arith, add-mul a w cycles)

pub in_use : {g : Basis} (n y : ℕ) {list : ListValue} (tests : List TestId) (old new : Weighed) (at : ℕ → Bool) (i cycles : ℕ) {l : LiveTest} → IsBasis g → AllKept g →
    slice_get (lists_of g) n ≡ Some list → role_of (chip_of g) (limits_of g) list l ≡ (if is_among tests l then In else Out) →
    use_of (chip_of g) (limits_of g) at list cycles l ≡ (if is_among tests l then cycles else 0) → new.beside.items ≡ old.beside.items →
    new.power.items ≡ old.power.items → slice_index new.sums.items i ≡ slice_index old.sums.items i + in_weight (role_at g.lists n i) y →
    slice_get (live_tests (chip_of g)) i ≡ Some l → room_use g at i cycles l new ≡ room_use g at i cycles l old + y * use_of (chip_of g) (limits_of g) at list cycles l
in_use {g} n y {list} tests old new at i cycles {l} is all listed role is-used beside power sums there =
    let known = is.lists.roles n i list l (omega (arith, slice_get_within (lists_of g) n list listed, all)) listed there ∙ role in
    let sums' = sums ∙ ap (λ r. slice_index old.sums.items i + in_weight r y) known in
    rw (beside, power, is-used, sums') (add_part (slice_index old.sums.items i) (in_weight (if is_among tests l then In else Out) y) cycles (sum_by (beside_use g.lists at i cycles) old.beside.items) (sum_by (drawn_use (limits_of g) l cycles) old.power.items) (in_part (is_among tests l) y cycles))

-- a test that is named, or may be beside
beside_part : (among tam e o : Bool) (y cycles : ℕ) → in_weight (if among then In else if tam && e then Beside else Out) y * cycles + (if o && is_aside (if among then In else if tam && e then Beside else Out) then y * cycles else 0)
    ≡ y * (if among || (tam && (o && e)) then cycles else 0)
beside_part true tam e true y cycles = omega arith
beside_part true tam e false y cycles = omega arith
beside_part false false e true y cycles = omega arith
beside_part false false e false y cycles = omega arith
beside_part false true false true y cycles = omega arith
beside_part false true false false y cycles = omega arith
beside_part false true true true y cycles = omega arith
beside_part false true true false y cycles = omega arith

add_both : (a w cycles b d p : ℕ) {u : ℕ} → w * cycles + d ≡ u → (a + w) * cycles + (b + d) + p ≡ a * cycles + b + p + u
add_both a w cycles b d p h = omega (arith, add-mul a w cycles)

pub turns_on_use : {g : Basis} (n y : ℕ) {rank : ℕ} {tests : List TestId} (old new : Weighed) (at : ℕ → Bool) (i cycles : ℕ) {l : LiveTest} → IsBasis g → AllKept g →
    slice_get (lists_of g) n ≡ Some (OfTurnsOn rank tests) → new.beside.items ≡ old.beside.items ++ (record { rank = rank; list = n; weight = y }) ∷ [] →
    new.power.items ≡ old.power.items → slice_index new.sums.items i ≡ slice_index old.sums.items i + in_weight (role_at g.lists n i) y →
    slice_get (live_tests (chip_of g)) i ≡ Some l →
    room_use g at i cycles l new ≡ room_use g at i cycles l old + y * use_of (chip_of g) (limits_of g) at (OfTurnsOn rank tests) cycles l
turns_on_use {g} n y {rank} {tests} old new at i cycles {l} is all listed beside power sums there =
    let role : Role = if is_among tests l then In else if l.test.tam && excludes_all (chip_of g) (limits_of g) tests l then Beside else Out in
    let known = is.lists.roles n i (OfTurnsOn rank tests) l (omega (arith, slice_get_within (lists_of g) n (OfTurnsOn rank tests) listed, all)) listed there in
    let pushed : sum_by (beside_use g.lists at i cycles) new.beside.items ≡ sum_by (beside_use g.lists at i cycles) old.beside.items + (if at rank && is_aside (role_at g.lists n i) then y * cycles else 0) =
    ap (sum_by (beside_use g.lists at i cycles)) beside ∙ sum_by_push (beside_use g.lists at i cycles) old.beside.items (record { rank = rank; list = n; weight = y }) in
    let part =
    subst (λ r. in_weight r y * cycles + (if at rank && is_aside r then y * cycles else 0) ≡ y * use_of (chip_of g) (limits_of g) at (OfTurnsOn rank tests) cycles l) (sym known)
    (beside_part (is_among tests l) l.test.tam (excludes_all (chip_of g) (limits_of g) tests l) (at rank) y cycles) in
    rw (pushed, power, sums) (add_both (slice_index old.sums.items i) (in_weight (role_at g.lists n i) y) cycles (sum_by (beside_use g.lists at i cycles) old.beside.items)
    (if at rank && is_aside (role_at g.lists n i) then y * cycles else 0) (sum_by (drawn_use (limits_of g) l cycles) old.power.items) part)

pub power_more : (g : Basis) (y near : ℕ) (old new : Weighed) (at : ℕ → Bool) (i cycles : ℕ) (l : LiveTest) →
    new.beside.items ≡ old.beside.items → new.power.items ≡ old.power.items ++ (near, y) ∷ [] → new.sums.items ≡ old.sums.items →
    room_use g at i cycles l new ≡ room_use g at i cycles l old + y * use_of (chip_of g) (limits_of g) at (OfPower near) cycles l
power_more g y near old new at i cycles l beside power sums =
    let pushed = ap (sum_by (drawn_use (limits_of g) l cycles)) power ∙ sum_by_push (drawn_use (limits_of g) l cycles) old.power.items (near, y) in
    rw (beside, pushed, sums) (omega arith)

-- a list without weight
pub made_idle : {g : Basis} {os : List (ℕ × ℕ)} (n : ℕ) {list : ListValue} {room : Weighed} → slice_get (lists_of g) n ≡ Some list → IsMade g os room →
    IsMade g (os ++ (n, 0) ∷ []) room
made_idle {g} {os} n {list} at made =
    let more = length-append os ((n, 0) ∷ []) in
    let heavier = sum_by_push (λ (o : ℕ × ℕ). o.1) os (n, 0) in
    record {
      long = made.long;
      uses = λ at' i cycles l there. omega (arith, weighed_push (lists_of g) os n 0 (λ list. use_of (chip_of g) (limits_of g) at' list cycles l) at, made.uses at' i cycles l there);
      low = λ i within. rw heavier (omega (arith, made.low i within));
      beside = rw more (omega (arith, made.beside));
      listed = made.listed;
      power = rw more (omega (arith, made.power));
      near = made.near;
      rooms = omega (arith, made.rooms, weighed_push (lists_of g) os n 0 room_of at);
      few_rooms = rw heavier (omega (arith, made.few_rooms));
    }

-- ---- nothing yet

-- ---- bounds

pub use_of-le : (soc : SocValue) (limits : LimitsValue) (at : ℕ → Bool) (list : ListValue) (cycles : ℕ) (l : LiveTest) → use_of soc limits at list cycles l ≤ cycles
use_of-le soc limits at list cycles l = go list
  where
    either : (b : Bool) → (if b then cycles else 0) ≤ cycles
    either true = omega arith
    either false = omega arith

    go : (list : ListValue) → use_of soc limits at list cycles l ≤ cycles
    go (OfTurns tests) = either (is_among tests l)
    go (OfTurnsOn rank tests) = either (is_among tests l || is_beside soc limits at rank tests l)
    go (OfCrowd most tests) = either (is_among tests l)
    go (OfPower near) = power_use-le limits near l cycles limits.power

-- what is weighed of a test is within all weights in its cycles
pub uses-le : {g : Basis} {weights : WeightsValue} (at : ℕ → Bool) (cycles : ℕ) (l : LiveTest) → AreUses g weights →
    weighed (lists_of g) weights (λ list. use_of (chip_of g) (limits_of g) at list cycles l) ≤ 2 ^ 24 * 10 ^ 9 * cycles
uses-le {g} {weights} at cycles l uses =
    let each : weighed (lists_of g) weights (λ list. use_of (chip_of g) (limits_of g) at list cycles l) ≤ length weights.lists * (10 ^ 9 * cycles) = go weights.lists uses.small.lists in
    let wide = mul-le-mul_right (10 ^ 9 * cycles) uses.few in
    omega arith
  where
    one : (o : Option ListValue) → on o (λ list. use_of (chip_of g) (limits_of g) at list cycles l) ≤ cycles
    one None = omega arith
    one (Some list) = use_of-le (chip_of g) (limits_of g) at list cycles l

    go : (os : List (ℕ × ℕ)) → All (λ (o : ℕ × ℕ). o.1 ≤ 999999999) os → weighed_by (lists_of g) os (λ list. use_of (chip_of g) (limits_of g) at list cycles l) ≤ length os * (10 ^ 9 * cycles)
    go [] small = omega arith
    go (o ∷ os) small =
        let less = mul-le-mul_left o.1 (one (slice_get (lists_of g) o.0)) in
        let head = small 0 o (omega arith) in
        let wide : o.1 * cycles ≤ 10 ^ 9 * cycles = mul-le-mul_right cycles (omega arith) in
        let split : suc (length os) * (10 ^ 9 * cycles) ≡ 10 ^ 9 * cycles + length os * (10 ^ 9 * cycles) = omega arith in
        omega (arith, less, wide, split, go os (All-tail (λ (o : ℕ × ℕ). o.1 ≤ 999999999) o os small), sum_by-cons (λ (o : ℕ × ℕ). o.1 * on (slice_get (lists_of g) o.0) (λ list. use_of (chip_of g) (limits_of g) at list cycles l)) o os)

-- so is each part of it
pub record Parts (g : Basis) (at : ℕ → Bool) (i cycles : ℕ) (l : LiveTest) (room : Weighed) : Type 0 where
  pub beside : sum_by (beside_use g.lists at i cycles) room.beside.items ≤ USES_COST_MOST
  pub drawn : sum_by (drawn_use (limits_of g) l cycles) room.power.items ≤ USES_COST_MOST
  pub all : room_use g at i cycles l room ≤ USES_COST_MOST

pub parts : {g : Basis} {weights : WeightsValue} (at : ℕ → Bool) (i cycles : ℕ) {l : LiveTest} {room : Weighed} → IsWeighed g weights room →
    slice_get (live_tests (chip_of g)) i ≡ Some l → cycles ≤ 10 ^ 18 → Parts g at i cycles l room
parts {g} at i cycles {l} {room} weighed there few =
    let total = sym (weighed.same (λ list. use_of (chip_of g) (limits_of g) at list cycles l)) ∙ weighed.made.uses at i cycles l there in
    let less = uses-le at cycles l weighed.uses in
    let all : room_use g at i cycles l room ≤ USES_COST_MOST = omega (arith, total, less, mul-le-mul_left (2 ^ 24 * 10 ^ 9) few) in
    record { beside = omega (arith, all); drawn = omega (arith, all); all = all }

-- ---- the room with one list more, by its kind

-- one of power
pub made_power : {g : Basis} {os : List (ℕ × ℕ)} (n y : ℕ) {near : ℕ} (old new : Weighed) → IsBasis g → AllKept g → slice_get (lists_of g) n ≡ Some (OfPower near) →
    new.sums.items ≡ old.sums.items → new.beside.items ≡ old.beside.items → new.power.items ≡ old.power.items ++ (near, y) ∷ [] → new.rooms ≡ old.rooms + y * 1 →
    IsMade g os old → IsMade g (os ++ (n, y) ∷ []) new
made_power {g} n y {near} old new is all listed sums beside power rooms made =
    made_next g n y (OfPower near) old new (room-le (limits_of g) (OfPower near) is.sound (kept_list n is all listed)) (record {
      at = listed;
      long = ap length sums;
      low = λ i within. rw sums (omega arith);
      beside = rw beside (omega arith);
      listed = λ h. rw beside h;
      power = rw power (omega (arith, length-append old.power.items ((near, y) ∷ [])));
      near = λ h. rw power (All-push (λ (p : ℕ × ℕ). IsNear (limits_of g) p.0) old.power.items (near, y) h (kept_list n is all listed));
      rooms = rooms;
      adds = λ at i cycles l there. power_more g y near old new at i cycles l beside power sums;
    }) made

in_weight-le : (r : Role) (y : ℕ) → in_weight r y ≤ y
in_weight-le Out y = omega arith
in_weight-le In y = omega arith
in_weight-le Beside y = omega arith
in_weight-le Drawing y = omega arith

-- one that tests may be beside
pub made_turns_on : {g : Basis} {os : List (ℕ × ℕ)} (n y : ℕ) {rank : ℕ} {tests : List TestId} (old new : Weighed) → IsBasis g → AllKept g →
    slice_get (lists_of g) n ≡ Some (OfTurnsOn rank tests) → length new.sums.items ≡ length old.sums.items →
    ((i : ℕ) → i < length old.sums.items → slice_index new.sums.items i ≡ slice_index old.sums.items i + in_weight (role_at g.lists n i) y) →
    new.beside.items ≡ old.beside.items ++ (record { rank = rank; list = n; weight = y }) ∷ [] → new.power.items ≡ old.power.items → new.rooms ≡ old.rooms + y * 1 →
    IsMade g os old → IsMade g (os ++ (n, y) ∷ []) new
made_turns_on {g} n y {rank} {tests} old new is all listed long sums beside power rooms made =
    made_next g n y (OfTurnsOn rank tests) old new (room-le (limits_of g) (OfTurnsOn rank tests) is.sound (kept_list n is all listed)) (record {
      at = listed;
      long = long;
      low = λ i within. omega (arith, sums i within, in_weight-le (role_at g.lists n i) y);
      beside = rw beside (omega (arith, length-append old.beside.items ((record { rank = rank; list = n; weight = y }) ∷ [])));
      listed = λ h. rw beside (All-push (λ (b : BesideUse). b.list < length (lists_of g)) old.beside.items (record { rank = rank; list = n; weight = y }) h (slice_get_within (lists_of g) n (OfTurnsOn rank tests) listed));
      power = rw power (omega arith);
      near = λ h. rw power h;
      rooms = rooms;
      adds = λ at i cycles l there. turns_on_use n y old new at i cycles is all listed beside power (sums i (omega (arith, slice_get_within (live_tests (chip_of g)) i l there, made.long))) there;
    }) made

-- one of turns, or a crowd
abbrev pub IsPlain : ListValue → List TestId → Type 0
IsPlain list tests = (soc : SocValue) (limits : LimitsValue) (at : ℕ → Bool) (cycles : ℕ) (l : LiveTest) →
    (role_of soc limits list l ≡ (if is_among tests l then In else Out)) × (use_of soc limits at list cycles l ≡ (if is_among tests l then cycles else 0))

pub made_in : {g : Basis} {os : List (ℕ × ℕ)} (n y : ℕ) {list : ListValue} (tests : List TestId) (old new : Weighed) → IsBasis g → AllKept g →
    slice_get (lists_of g) n ≡ Some list → IsPlain list tests → length new.sums.items ≡ length old.sums.items →
    ((i : ℕ) → i < length old.sums.items → slice_index new.sums.items i ≡ slice_index old.sums.items i + in_weight (role_at g.lists n i) y) →
    new.beside.items ≡ old.beside.items → new.power.items ≡ old.power.items → new.rooms ≡ old.rooms + y * room_of list → IsMade g os old →
    IsMade g (os ++ (n, y) ∷ []) new
made_in {g} n y {list} tests old new is all listed plain long sums beside power rooms made =
    made_next g n y list old new (room-le (limits_of g) list is.sound (kept_list n is all listed)) (record {
      at = listed;
      long = long;
      low = λ i within. omega (arith, sums i within, in_weight-le (role_at g.lists n i) y);
      beside = rw beside (omega arith);
      listed = λ h. rw beside h;
      power = rw power (omega arith);
      near = λ h. rw power h;
      rooms = rooms;
      adds = λ at i cycles l there.
          let p = plain (chip_of g) (limits_of g) at cycles l in
          in_use n y tests old new at i cycles is all listed p.0 p.1 beside power (sums i (omega (arith, slice_get_within (live_tests (chip_of g)) i l there, made.long))) there;
    }) made

pub turns_plain : (tests : List TestId) → IsPlain (OfTurns tests) tests
turns_plain tests = λ soc limits at cycles l. (refl, refl)

pub crowd_plain : (most : ℕ) (tests : List TestId) → IsPlain (OfCrowd most tests) tests
crowd_plain most tests = λ soc limits at cycles l. (refl, refl)

-- ---- what the code has of a list, and of the sums that it lends

pub listed_at : (xs : List TestList) (n : ℕ) {what v : TestList} → n < length (map list_value xs) → what ≡ get_or xs n what → what ≡ v →
    slice_get (map list_value xs) n ≡ Some (list_value v)
listed_at xs n {what} {v} within here is =
    let at = slice_get-get_or xs n what (omega (arith, within, length-map xs list_value)) ∙ ap Some (sym here ∙ is) in
    slice_get-map list_value xs n ∙ rw at refl

pub rooms_are : (r : ℕ) {f h k y : ℕ} {what v : TestList} → f ≡ y → h ≡ k → k ≡ room_of (list_value what) → what ≡ v → r + f * h ≡ r + y * room_of (list_value v)
rooms_are r {h} {v} e e' room is =
    rw (e, (e' ∙ room ∙ ap (λ x. room_of (list_value x)) is)) refl

pub lent_long : {new old lent xs : List ℕ} → new ≡ xs → lent ≡ old → length xs ≡ length lent → length new ≡ length old
lent_long e e' long = ap length e ∙ long ∙ ap length e'

pub lent_sums : (w : ℕ → ℕ) {new old lent xs : List ℕ} → new ≡ xs → lent ≡ old → ((i : ℕ) → i < length lent → slice_index xs i ≡ slice_index lent i + w i) → (i : ℕ) →
    i < length old → slice_index new i ≡ slice_index old i + w i
lent_sums w e e' h i less = ap (λ l. slice_index l i) e ∙ h i (omega (arith, ap length e', less)) ∙ ap (λ l. slice_index l i + w i) e'

-- one more of the first items
pub take_next : {X : Type 0} (xs : List X) (i : ℕ) (d : X) → i < length xs → take (i + 1) xs ≡ take i xs ++ get_or xs i d ∷ []
take_next {X} xs i d h = rw add-one (go xs i h)
  where
    go : (xs : List X) (i : ℕ) → i < length xs → take (suc i) xs ≡ take i xs ++ get_or xs i d ∷ []
    go [] i h = absurd (omega arith)
    go (x ∷ xs) zero h = refl
    go (x ∷ xs) (suc i) h = ap (λ l. x ∷ l) (go xs i (omega arith))

-- three parts of a sum
pub three_are : {x y z a b p : ℕ} → x ≡ a → y ≡ b → z ≡ p → x + y + z ≡ a + b + p
three_are e e' e'' = omega arith

pub two_fit : {x y a b : ℕ} (p most : ℕ) → x ≡ a → y ≡ b → a + b + p ≤ most → x + y ≤ most
two_fit p most e e' h = omega arith

pub three_fit : {x y z a b p : ℕ} (most : ℕ) → x ≡ a → y ≡ b → z ≡ p → a + b + p ≤ most → x + y + z ≤ most
three_fit most e e' e'' h = omega arith
