-- How many entries a walk has.
use Rattle.std.proofs.Common.{◌≡◌, inl, inr, ℕ, zero, suc, ◌+◌, ◌-◌, ◌*◌, ◌≤◌, Bool, true, Some, List, [], ◌∷◌, ◌++◌, length, refl, ◌∙◌, ap, arith, length-append, mul-suc, slice_get, filter, flat_map}
use Rattle.std.proofs.Math.Nat.{mul_assoc, mul-add, mul_comm, mul-le-mul_right}
use Rattle.std.proofs.lemmas.Bool.{cases_Bool}
use Rattle.plan_model.proofs.Lists.{from_filter}
use Rattle.resource_table.specs.Jobs.{JobValue}
use Rattle.schedule_search.specs.Walks.{by_length, may_follow, walk_from, walk, StandIn}
use Rattle.schedule_search.specs.WalkSizes.{factorial, lists_of, lists_upto, prefixes}
use Rattle.schedule_search.specs.Prefixes.{outside}
use Rattle.schedule_search.specs.Found.{IsFound}
use Rattle.schedule_search.proofs.Outside.{filter_few, outside_all, outside_less, may_outside}
use Rattle.schedule_search.proofs.Walking.{below}

-- ---- numbers of lists

pub lists_are : (n count : ℕ) → count ≤ n → lists_of n count * factorial (n - count) ≡ factorial n
lists_are n zero few = let whole : n - 0 ≡ n = omega arith in ap (λ m. 1 * factorial m) whole ∙ (let one : 1 * factorial n ≡ factorial n = omega arith in one)
lists_are zero (suc count) few = absurd (omega (arith, few))
lists_are (suc n) (suc count) few =
    let less : suc n - suc count ≡ n - count = omega arith in
    ap (λ m. suc n * lists_of n count * factorial m) less ∙ mul_assoc (suc n) (lists_of n count) (factorial (n - count)) ∙ ap (λ m. suc n * m) (lists_are n count (omega (arith, few)))

upto_more : (n count : ℕ) → lists_upto (suc n) (suc count) ≡ 1 + suc n * lists_upto n count
upto_more n zero = refl
upto_more n (suc count) =
    let ih = upto_more n count in
    let sum = mul-add (suc n) (lists_upto n count) (lists_of n (suc count)) in
    omega (arith, ih, sum)

prefixes_more : (n : ℕ) → prefixes (suc n) ≡ 1 + suc n * prefixes n
prefixes_more n = upto_more n n

-- ---- the entries

flat_few : (f : ℕ → List (List ℕ)) (most : ℕ) (tests : List ℕ) → ((k t : ℕ) → slice_get tests k ≡ Some t → length (f t) ≤ most) → length (flat_map f tests) ≤ length tests * most
flat_few f most [] few = omega arith
flat_few f most (t ∷ tests) few =
    let here = few 0 t refl in
    let rest = flat_few f most tests (λ k u at. few (suc k) u at) in
    let turned = mul_comm (suc (length tests)) most in
    let one = mul-suc most (length tests) in
    let back = mul_comm most (length tests) in
    let more : suc (length tests) * most ≡ most + length tests * most = omega (arith, turned, one, back) in
    omega (arith, here, rest, more, length-append (f t) (flat_map f tests))

walk_few : (job : JobValue) (more : ℕ) (prefix : List ℕ) → length (outside job prefix) ≡ more → length (walk_from job more prefix) ≤ prefixes more
walk_few job zero prefix left = omega arith
walk_few job (suc more) prefix left =
    let tests : List ℕ = filter (may_follow job prefix) (by_length job) in
    let is : filter (may_follow job prefix) (outside job prefix) ≡ tests = may_outside job prefix in
    let few : length tests ≤ suc more = omega (arith, filter_few (may_follow job prefix) (outside job prefix), ap length is, left) in
    let all : length (flat_map (below job more prefix) tests) ≤ length tests * prefixes more = flat_few (below job more prefix) (prefixes more) tests (λ k t at.
    let f = from_filter (may_follow job prefix) (outside job prefix) k t (ap (λ (l : List ℕ). slice_get l k) is ∙ at) in
    walk_few job more (prefix ++ t ∷ []) (omega (arith, outside_less job prefix f.0 t f.1, left))) in
    let most : length tests * prefixes more ≤ suc more * prefixes more = mul-le-mul_right (prefixes more) few in
    omega (arith, all, most, prefixes_more more)

pub walk_short : (job : JobValue) → length (walk job) ≤ prefixes (length job.tests)
walk_short job = walk_few job (length job.tests) [] (outside_all job)

stand_few : {X : Type 0} (es xs : List X) → StandIn es xs → length es ≤ length xs
stand_few [] xs in_ = omega arith
stand_few (e ∷ es) [] in_ = absurd in_
stand_few (e ∷ es) (x ∷ xs) (inl here) = let ih = stand_few es xs here.1 in omega (arith, ih)
stand_few (e ∷ es) (x ∷ xs) (inr later) = let ih = stand_few (e ∷ es) xs later in omega (arith, ih)

pub entries_few : (job : JobValue) (entries : List (List ℕ)) → StandIn entries (walk job) → length entries ≤ prefixes (length job.tests)
entries_few job entries in_ = (let few = stand_few entries (walk job) in_ in omega (arith, few, walk_short job))

pub searched_whole : (job : JobValue) (budget : ℕ) (order starts : List ℕ) (cycles : ℕ) (complete : Bool) → IsFound job budget order starts cycles complete → prefixes (length job.tests) ≤ budget → complete ≡ true
searched_whole job budget order starts cycles complete found enough = elim (cases_Bool complete) [
  | inl yes' ↦ yes'
  | inr no' ↦ absurd (let more = found.refused no' in omega (arith, more.more, entries_few job more.entries more.in_walk, enough))
]
