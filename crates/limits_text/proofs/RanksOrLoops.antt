-- Precedences of live tests have a rank, or a first loop.
use Rattle.std.proofs.Common.{◌≡◌, ◌⊎◌, inl, inr, ℕ, zero, suc, ◌+◌, ◌-◌, ◌<◌, List, [], ◌∷◌, ◌++◌, length, get_or, map, take, Bool, true, false, not, nat_eq, Option, Some, None, slice_get, position, refl, sym, ◌∙◌, ap, ap₂, subst, arith, zero-add, length-append, slice_index, All, Contains}
use Rattle.std.specs.List.{range_with_len}
use Rattle.std.proofs.lemmas.Bool.{cases_eq, cases_Bool}
use Rattle.std.proofs.lemmas.List.Elements.{All-head, All-tail, All-from_get_or}
use Rattle.std.proofs.lemmas.List.FromFn.{length-map-range_with_len, get_or-map-range_with_len}
use Rattle.std.proofs.lemmas.Option.{slice_get-get_or, slice_get_within}
use Rattle.soc_model.specs.declared.TestId.{TestId}
use Rattle.plan_model.specs.Rules.{live_ids}
use Rattle.plan_model.proofs.Lists.{at_contains}
use Rattle.live_tests.proofs.Precedences.{pairs_within}
use Rattle.limits_text.specs.Loops.{IsFirstLoop, AreAt, HasRank}
use Rattle.live_tests.specs.Names.{precedences}
use Rattle.limits_text.specs.Orders.{is_in, held, IsOrdered, IsTaking, least_before, Counts, ComesAgain, IsBack}
use Rattle.limits_text.specs.Laws.{RanksOrLoops}
use Rattle.limits_text.proofs.SoundText.{push_cases}
use Rattle.limits_text.proofs.Taking.{Once, EachAt, in_at, in_take_at, at_in_take, few, each_push, once_push, all_gone, some_left}
use Rattle.limits_text.proofs.Walking.{IsWalking, least_small, walk_none, walk_more, walk_short, walk_ends}
use Rattle.limits_text.proofs.FirstLoops.{AreWithin, Marked, all_ranked, first_left, loop_found, acyclic, loop_within}
use Rattle.common_lemmas.proofs.Lists.{at_left, contains_at}

-- the values of a function below `n`
table : {X : Type 0} → (ℕ → X) → ℕ → List X
table f n = map f (range_with_len 0 n)

module _ {X : Type 0} (f : ℕ → X) (n : ℕ) where
  table-length : length (table f n) ≡ n
  unfolding table
  table-length = length-map-range_with_len f 0 n

  table-at : (k : ℕ) (d : X) → k < n → get_or (table f n) k d ≡ f k
  unfolding table
  table-at k d less = get_or-map-range_with_len f 0 n k k d less (zero-add k)

-- ---- taking tests away

-- some tests were taken away, each once, after all that precede them
record AreTaken (pairs : List (ℕ × ℕ)) (count : ℕ) (order : List ℕ) : Type 0 where
  within : EachAt order (λ j. j < count)
  once : Once order
  ordered : IsOrdered pairs order

-- a test that can be taken next
record IsFree (pairs : List (ℕ × ℕ)) (order : List ℕ) (upto j : ℕ) : Type 0 where
  within : j < upto
  fresh : is_in order j ≡ false
  none : held order pairs j ≡ 0

free_or_stuck : (pairs : List (ℕ × ℕ)) (order : List ℕ) (upto : ℕ) → ((j : ℕ) × IsFree pairs order upto j) ⊎ ((j : ℕ) → IsFree pairs order upto j → ⊥)
free_or_stuck pairs order zero = inr (λ j f. omega (arith, f.within))
free_or_stuck pairs order (suc n) = by (free_or_stuck pairs order n) (cases_Bool (is_in order n)) (cases_eq (held order pairs n) 0)
  where
    stuck : ((j : ℕ) → IsFree pairs order n j → ⊥) → (IsFree pairs order (suc n) n → ⊥) → (j : ℕ) → IsFree pairs order (suc n) j → ⊥
    stuck before last j f = at_last (cases_eq j n)
      where
        at_last : (j ≡ n) ⊎ (j ≡ n → ⊥) → ⊥
        at_last (inl same) = last (subst (IsFree pairs order (suc n)) same f)
        at_last (inr apart) = before j (record { within = less; fresh = f.fresh; none = f.none })
          where
            less : j < n
            less = below j n f.within apart
              where
                below : (a b : ℕ) → a < suc b → (a ≡ b → ⊥) → a < b
                below a b less apart = grind arith

    other : (b c : Bool) → b ≡ c → c ≡ true → b ≡ false → ⊥
    other b c e f g = cc

    by : ((j : ℕ) × IsFree pairs order n j) ⊎ ((j : ℕ) → IsFree pairs order n j → ⊥) → (is_in order n ≡ true) ⊎ (is_in order n ≡ false) → (held order pairs n ≡ 0) ⊎ (held order pairs n ≡ 0 → ⊥)
        → ((j : ℕ) × IsFree pairs order (suc n) j) ⊎ ((j : ℕ) → IsFree pairs order (suc n) j → ⊥)
    by (inl k) taken none = inl (k.0, record { within = omega (arith, k.1.within); fresh = k.1.fresh; none = k.1.none })
    by (inr before) (inl taken) none = inr (stuck before (λ f. other (is_in order n) (is_in order n) refl taken f.fresh))
    by (inr before) (inr fresh) (inl none) = inl (n, record { within = omega arith; fresh = fresh; none = none })
    by (inr before) (inr fresh) (inr some) = inr (stuck before (λ f. some f.none))

module _ (pairs : List (ℕ × ℕ)) (count : ℕ) where
  taken_more : (order : List ℕ) (j : ℕ) → AreTaken pairs count order → IsFree pairs order count j → AreTaken pairs count (order ++ j ∷ [])
  taken_more order j t f = record {
    within = each_push order j (λ x. x < count) t.within f.within;
    once = once_push order j f.fresh t.once;
    ordered = λ p i x at c. by p i x c (push_cases order j x p at);
  }
    where
      by : (p i x : ℕ) → Contains pairs (i, x) → (slice_get order p ≡ Some x) ⊎ ((p ≡ length order) × (j ≡ x)) → is_in (take p (order ++ j ∷ [])) i ≡ true
      by p i x c (inl at) =
          let a = in_take_at order p i (t.ordered p i x at c) in
          at_in_take (order ++ j ∷ []) p a.0 i a.1 (at_left order (j ∷ []) a.0 i a.2)
      by p i x c (inr e) =
          let k = contains_at pairs (i, x) c in
          let gone : is_in order i ≡ true = all_gone order pairs i j k.0 f.none (k.1 ∙ ap (λ n. Some (i, n)) (sym e.1)) in
          let a = in_at order i gone in
          at_in_take (order ++ j ∷ []) p a.0 i (omega (arith, e.0, slice_get_within order a.0 i a.1)) (at_left order (j ∷ []) a.0 i a.1)

  take_all : (fuel : ℕ) (order : List ℕ) → AreTaken pairs count order → count < fuel + length order → (all : List ℕ) × IsTaking pairs count all
  take_all zero order t room = absurd (omega (arith, room, few order count t.within t.once))
  take_all (suc fuel) order t room = elim (free_or_stuck pairs order count) [
    | inl k ↦ take_all fuel (order ++ k.0 ∷ []) (taken_more order k.0 t k.1) (omega (arith, room, length-append order (k.0 ∷ [])))
    | inr stuck ↦ (
      order,
      record {
        ordered = t.ordered;
        within = t.within;
        stuck = λ j small fresh. (let k = some_left order pairs j (λ none. stuck j (record { within = small; fresh = fresh; none = none })) in (k.0, at_contains pairs k.1 (k.0, j) k.2, k.3));
      },
    )
  ]

  none_taken : AreTaken pairs count []
  none_taken = record {
    within = λ p j at. absurd (none p j at);
    once = λ p q j at there. absurd (none p j at);
    ordered = λ p i j at c. absurd (none p j at);
  }
    where
      none : (p j : ℕ) → slice_get {X = ℕ} [] p ≡ Some j → ⊥
      none p j at = cc

-- ---- the walk

-- a walk that has room goes on until a test comes again
abbrev Ends : List ℕ → ℕ → Type 0
Ends next start = (walk : List ℕ) × (meets : ℕ) × ComesAgain next start walk meets

goes_again : (next : List ℕ) (start fuel : ℕ) (walk : List ℕ) (test : ℕ) → All (λ j. j < length next) next → IsWalking next start walk test → length next < fuel + length walk → Ends next start
goes_again next start zero walk test all w room = by (position (nat_eq test) walk) refl
  where
    by : (o : Option ℕ) → position (nat_eq test) walk ≡ o → Ends next start
    by (Some meets) found = (walk ++ test ∷ [], meets, walk_ends w meets found)
    by None none = absurd (omega (arith, room, walk_short w none))
goes_again next start (suc fuel) walk test all w room = by (position (nat_eq test) walk) refl (goes_again next start fuel)
  where
    by : (o : Option ℕ) → position (nat_eq test) walk ≡ o → ((walk : List ℕ) (test : ℕ) → All (λ j. j < length next) next → IsWalking next start walk test → length next < fuel + length walk → Ends next start) → Ends next start
    by (Some meets) found again = (walk ++ test ∷ [], meets, walk_ends w meets found)
    by None none again =
        again (walk ++ test ∷ []) (slice_index next test) all (walk_more w (slice_index next test) none all refl) (omega (arith, room, length-append walk (test ∷ [])))

-- ---- the loop

ranks_or_first : (pairs : List (ℕ × ℕ)) (count : ℕ) → AreWithin pairs count → HasRank pairs ⊎ ((circle : List ℕ) × IsFirstLoop pairs count circle)
ranks_or_first pairs count all = by (position not gone) refl
  where
    taken : (order : List ℕ) × IsTaking pairs count order
    taken = take_all pairs count (suc count) [] (none_taken pairs count) (omega arith)

    gone : List Bool
    gone = table (is_in taken.0) count

    long : length gone ≡ count
    long = table-length (is_in taken.0) count

    marked : Marked count taken.0 gone
    marked = record { long = long; marks = λ k less. table-at (is_in taken.0) count k false (omega (arith, less, long)) }

    least : List ℕ
    least = table (least_before gone (length gone - 1) pairs) (length gone)

    least_long : length least ≡ length gone
    least_long = table-length (least_before gone (length gone - 1) pairs) (length gone)

    counts : Counts least (least_before gone (length gone - 1) pairs)
    counts j less = table-at (least_before gone (length gone - 1) pairs) (length gone) j 0 (omega (arith, less, least_long))

    by : (o : Option ℕ) → position not gone ≡ o → HasRank pairs ⊎ ((circle : List ℕ) × IsFirstLoop pairs count circle)
    by None none = inl (all_ranked taken.1 marked all none)
    by (Some start) found = inr (circle, loop_found taken.1 marked all least start walk.0 walk.1 circle found least_long counts walk.2 loop_long back)
      where
        begin : start < count
        begin = (first_left taken.1 marked all start found).1.0

        small : All (λ j. j < length least) least
        small = All-from_get_or (λ j. j < length least) least 0 (λ j less. omega (arith, counts j less, least_small gone (length gone - 1) pairs j, begin, long, least_long))

        walk : Ends least start
        walk = goes_again least start (suc (length least)) [] start small (walk_none least start (omega (arith, begin, long, least_long))) (omega arith)

        at : ℕ → ℕ
        at k = get_or walk.0 (length walk.0 - 1 - k) 0

        circle : List ℕ
        circle = table at (walk.2.last - walk.1)

        loop_long : length circle + walk.1 + 1 ≡ length walk.0
        loop_long = omega (arith, table-length at (walk.2.last - walk.1), walk.2.long, walk.2.before_last)

        back : IsBack walk.0 circle
        back k less =
            slice_get-get_or circle k 0 less ∙ ap Some (table-at at (walk.2.last - walk.1) k 0 (omega (arith, less, table-length at (walk.2.last - walk.1))))
            ∙ sym (slice_get-get_or walk.0 (length walk.0 - 1 - k) 0 (omega (arith, walk.2.long)))

tests_at : (ids : List TestId) (places : List ℕ) → All (λ p. p < length ids) places → (tests : List TestId) × AreAt ids places tests
tests_at ids [] all = ([], refl)
tests_at ids (p ∷ places) all =
    let rest = tests_at ids places (All-tail (λ p. p < length ids) p places all) in
    let test = get_or ids p (record { «module» = 0; test = 0 }) in
    let here : slice_get ids p ≡ Some test = slice_get-get_or ids p (record { «module» = 0; test = 0 }) (All-head (λ p. p < length ids) p places all) in
    (test ∷ rest.0, ap₂ (λ (o : Option TestId) (l : List (Option TestId)). o ∷ l) here rest.1)

pub ranks_or_loop : RanksOrLoops
ranks_or_loop soc limits = elim (ranks_or_first (precedences soc limits) (length (live_ids soc)) within) [
  | inl r ↦ inl (acyclic soc limits r)
  | inr c ↦
      let tests = tests_at (live_ids soc) c.0 (loop_within (precedences soc limits) (length (live_ids soc)) c.0 within c.1) in
      inr (tests.0, (c.0, c.1, tests.1))
]
  where
    within : AreWithin (precedences soc limits) (length (live_ids soc))
    within = pairs_within (live_ids soc) limits.before
