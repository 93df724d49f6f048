-- Going back over forerunners.
use Rattle.std.proofs.Common.{◌≡◌, ◌⊎◌, inl, inr, ℕ, suc, ◌+◌, ◌-◌, ◌<◌, ◌≤◌, List, [], ◌∷◌, ◌++◌, length, get_or, drop, Bool, true, false, cond, ◌&&◌, not, nat_eq, Option, Some, None, slice_get, position, replicate, refl, sym, ◌∙◌, ap, subst, arith, add-one, length-append, slice_index, slice_index_or, slice_set, min, All}
use Rattle.std.proofs.Math.Seq.{drop-cons}
use Rattle.std.proofs.lemmas.Grind.{common_steps, get_or-set_at}
use Rattle.std.proofs.lemmas.Bool.{cases_eq, eq-eqb, ne_eqb}
use Rattle.std.proofs.lemmas.List.Elements.{All-get_or, All-from_get_or}
use Rattle.std.proofs.lemmas.Option.{slice_get_within, slice_get-get_or, same_Some}
use Rattle.std.proofs.lemmas.List.{length-set, get_or-set_other}
use Rattle.soc_model.proofs.Places.{slice_get-from_position}
use Rattle.plan_model.proofs.Finding.{none_passes}
use Rattle.limits_text.specs.Orders.{is_in, least_before, Counts, ComesAgain}
use Rattle.limits_text.proofs.SoundText.{push_cases}
use Rattle.limits_text.proofs.Taking.{each_push, once_push, few, in_at, false_from}
use Rattle.common_lemmas.proofs.Lists.{at_left, at_last, in_front}
use Rattle.common_lemmas.proofs.Tests.{false_true, and_false}

-- ---- the least test before each

pub least_small : (gone : List Bool) (none : ℕ) (pairs : List (ℕ × ℕ)) (j : ℕ) → least_before gone none pairs j ≤ none
least_small gone none [] j = omega arith
least_small gone none (e ∷ pairs) j = by (nat_eq j e.1 && not (slice_index_or gone e.0 false)) (least_small gone none pairs j)
  where
    by : (b : Bool) → least_before gone none pairs j ≤ none → cond b (min e.0 (least_before gone none pairs j)) (least_before gone none pairs j) ≤ none
    by true f = omega (arith, f)
    by false f = f

-- what the search for the least tests keeps
pub record AreLowered (gone : List Bool) (least : List ℕ) (pairs : List (ℕ × ℕ)) (k : ℕ) : Type 0 where
  pub long : length least ≡ length gone
  pub small : (j : ℕ) → j < length gone → slice_index least j ≤ length gone - 1
  pub least_is : (j : ℕ) → j < length gone → min (slice_index least j) (least_before gone (length gone - 1) (drop k pairs) j) ≡ least_before gone (length gone - 1) pairs j

repeated_at : (n x j : ℕ) → j < n → slice_index (replicate n x) j ≡ x
repeated_at n x j less = grind (arith, common_steps)

module _ (gone : List Bool) (least : List ℕ) where
  pub lowered_none : (pairs : List (ℕ × ℕ)) → least ≡ replicate (length gone) (length gone - 1) → AreLowered gone least pairs 0
  lowered_none pairs is = record {
    long = ap length is ∙ repeated_long (length gone) (length gone - 1);
    small = λ j less. omega (arith, here j less);
    least_is = λ j less. min_small (slice_index least j) (least_before gone (length gone - 1) pairs j) (here j less) (least_small gone (length gone - 1) pairs j);
  }
    where
      repeated_long : (n x : ℕ) → length (replicate n x) ≡ n
      repeated_long n x = grind (arith, common_steps)

      here : (j : ℕ) → j < length gone → slice_index least j ≡ length gone - 1
      here j less = ap (λ l. slice_index l j) is ∙ repeated_at (length gone) (length gone - 1) j less

      min_small : (a b : ℕ) → a ≡ length gone - 1 → b ≤ length gone - 1 → min a b ≡ b
      min_small a b e f = omega (arith, e, f)

  pub lowered_more : (new : List ℕ) (pairs : List (ℕ × ℕ)) (k : ℕ) (is_gone : Bool) → AreLowered gone least pairs k → k < length pairs
      → All (λ (e : ℕ × ℕ). (e.0 < length gone) × (e.1 < length gone)) pairs → is_gone ≡ slice_index_or gone (get_or pairs k (0, 0)).0 false
      → new ≡ cond is_gone least (slice_set least (get_or pairs k (0, 0)).1 (min (slice_index least (get_or pairs k (0, 0)).1) (get_or pairs k (0, 0)).0))
      → AreLowered gone new pairs (k + 1)
  lowered_more new pairs k is_gone l less all gone_is is = by is_gone gone_is is
    where
      first : ℕ
      first = (get_or pairs k (0, 0)).0

      second : ℕ
      second = (get_or pairs k (0, 0)).1

      within : (first < length gone) × (second < length gone)
      within = let e = All-get_or (λ (e : ℕ × ℕ). (e.0 < length gone) × (e.1 < length gone)) pairs k (0, 0) less all in (e.0, e.1)

      rest : ℕ → ℕ
      rest j = least_before gone (length gone - 1) (drop (k + 1) pairs) j

      front : (j : ℕ) → least_before gone (length gone - 1) (drop k pairs) j ≡ cond (nat_eq j second && not (slice_index_or gone first false)) (min first (rest j)) (rest j)
      front j = ap (λ p. least_before gone (length gone - 1) p j) (drop-cons pairs k (0, 0) less) ∙ ap (λ n. cond (nat_eq j second && not (slice_index_or gone first false)) (min first (least_before gone (length gone - 1) (drop n pairs) j)) (least_before gone (length gone - 1) (drop n pairs) j)) (sym (add-one k))

      by : (b : Bool) → b ≡ slice_index_or gone first false → new ≡ cond b least (slice_set least second (min (slice_index least second) first)) → AreLowered gone new pairs (k + 1)
      by true gone_is is = record {
        long = ap length is ∙ l.long;
        small = λ j small. subst (λ x. slice_index x j ≤ length gone - 1) (sym is) (l.small j small);
        least_is = λ j small.
            (let same = front j ∙ ap (λ b. cond (nat_eq j second && not b) (min first (rest j)) (rest j)) (sym gone_is) ∙ ap (λ b. cond b (min first (rest j)) (rest j)) (and_false (nat_eq j second)) in
            ap (λ x. min (slice_index x j) (rest j)) is ∙ ap (min (slice_index least j)) (sym same) ∙ l.least_is j small);
      }
      by false gone_is is = record {
        long = ap length is ∙ length-set least second _ ∙ l.long;
        small = λ j small. small_at j small (cases_eq j second);
        least_is = λ j small. least_at j small (cases_eq j second);
      }
        where
          there : second < length least
          there = omega (arith, within.1, l.long)

          set : ℕ
          set = min (slice_index least second) first

          here : (j : ℕ) → j ≡ second → slice_index new j ≡ min (slice_index least j) first
          here j same = ap (λ x. slice_index x j) is ∙ get_or-set_at least second j set 0 same there ∙ ap (λ n. min (slice_index least n) first) (sym same)

          other : (j : ℕ) → (j ≡ second → ⊥) → slice_index new j ≡ slice_index least j
          other j apart = ap (λ x. slice_index x j) is ∙ get_or-set_other least second j set 0 apart

          small_at : (j : ℕ) → j < length gone → (j ≡ second) ⊎ (j ≡ second → ⊥) → slice_index new j ≤ length gone - 1
          small_at j small (inl same) = omega (arith, here j same, l.small j small)
          small_at j small (inr apart) = omega (arith, other j apart, l.small j small)

          min_assoc : (a b c x : ℕ) → x ≡ min a b → min x c ≡ min a (min b c)
          min_assoc a b c x e = omega (arith, e)

          least_at : (j : ℕ) → j < length gone → (j ≡ second) ⊎ (j ≡ second → ⊥) → min (slice_index new j) (rest j) ≡ least_before gone (length gone - 1) pairs j
          least_at j small (inl same) =
              let f = front j ∙ ap (λ b. cond (nat_eq j second && not b) (min first (rest j)) (rest j)) (sym gone_is) ∙ ap (λ b. cond (b && true) (min first (rest j)) (rest j)) (eq-eqb j second same) in
              min_assoc (slice_index least j) first (rest j) (slice_index new j) (here j same) ∙ ap (min (slice_index least j)) (sym f) ∙ l.least_is j small
          least_at j small (inr apart) =
              let f = front j ∙ ap (λ b. cond (b && not (slice_index_or gone first false)) (min first (rest j)) (rest j)) (ne_eqb j second apart) in
              ap (λ n. min n (rest j)) (other j apart) ∙ ap (min (slice_index least j)) (sym f) ∙ l.least_is j small

  pub lowered_all : (pairs : List (ℕ × ℕ)) (k : ℕ) → 1 ≤ length gone → AreLowered gone least pairs k → length pairs ≤ k → All (λ j. j < length gone) least × Counts least (least_before gone (length gone - 1) pairs)
  lowered_all pairs k some l past =
      (All-from_get_or (λ j. j < length gone) least 0 (λ j less. omega (arith, some, l.small j (omega (arith, less, l.long)))), λ j less. whole j (omega (arith, less, l.long)))
    where
      none : drop k pairs ≡ []
      none = grind (arith, common_steps)

      min_is : (a b c : ℕ) → a ≤ b → min a b ≡ c → a ≡ c
      min_is a b c e f = omega (arith, e, f)

      whole : (j : ℕ) → j < length gone → slice_index least j ≡ least_before gone (length gone - 1) pairs j
      whole j less = min_is (slice_index least j) (length gone - 1) (least_before gone (length gone - 1) pairs j) (l.small j less) (ap (λ p. min (slice_index least j) (least_before gone (length gone - 1) p j)) (sym none) ∙ l.least_is j less)

-- ---- a walk

pub record IsWalking (next : List ℕ) (start : ℕ) (walk : List ℕ) (test : ℕ) : Type 0 where
  pub test_small : test < length next
  pub within : (p x : ℕ) → slice_get walk p ≡ Some x → x < length next
  pub begins : slice_get (walk ++ test ∷ []) 0 ≡ Some start
  pub goes : (k x y : ℕ) → slice_get (walk ++ test ∷ []) k ≡ Some x → slice_get (walk ++ test ∷ []) (k + 1) ≡ Some y → y ≡ slice_index next x
  pub once : (p q x : ℕ) → slice_get walk p ≡ Some x → slice_get walk q ≡ Some x → p ≡ q

at_one : {X : Type 0} (y x : X) (p : ℕ) → slice_get (y ∷ []) (p + 1) ≡ Some x → ⊥
at_one y x p e = let f : slice_get (y ∷ []) (suc p) ≡ Some x = ap (slice_get (y ∷ [])) (sym (add-one p)) ∙ e in cc

pub walk_none : (next : List ℕ) (start : ℕ) → start < length next → IsWalking next start [] start
walk_none next start less = record {
  test_small = less;
  within = λ p x e. absurd (none p x e);
  begins = refl;
  goes = λ k x y at there. absurd (at_one start y k there);
  once = λ p q x e f. absurd (none p x e);
}
  where
    none : (p x : ℕ) → slice_get {X = ℕ} [] p ≡ Some x → ⊥
    none p x e = cc

walked_fresh : (walk : List ℕ) (test : ℕ) → position (nat_eq test) walk ≡ None → is_in walk test ≡ false
walked_fresh walk test none = false_from (is_in walk test) (λ e. (let a = in_at walk test e in false_true (nat_eq test test) (none_passes (nat_eq test) walk none a.0 test a.1) (eq-eqb test test refl)))

module _ {next : List ℕ} {start : ℕ} {walk : List ℕ} {test : ℕ} (w : IsWalking next start walk test) where
  pub walk_more : (new : ℕ) → position (nat_eq test) walk ≡ None → All (λ j. j < length next) next → new ≡ slice_index next test → IsWalking next start (walk ++ test ∷ []) new
  walk_more new none all is = record {
    test_small = subst (λ n. n < length next) (sym is) (All-get_or (λ j. j < length next) next test 0 w.test_small all);
    within = each_push walk test (λ x. x < length next) w.within w.test_small;
    begins = at_left (walk ++ test ∷ []) (new ∷ []) 0 start w.begins;
    goes = λ k x y at there. goes k x y at (push_cases (walk ++ test ∷ []) new y (k + 1) there);
    once = once_push walk test (walked_fresh walk test none) w.once;
  }
    where
      long : length (walk ++ test ∷ []) ≡ length walk + 1
      long = length-append walk (test ∷ [])

      goes : (k x y : ℕ) → slice_get ((walk ++ test ∷ []) ++ new ∷ []) k ≡ Some x → (slice_get (walk ++ test ∷ []) (k + 1) ≡ Some y) ⊎ ((k + 1 ≡ length (walk ++ test ∷ [])) × (new ≡ y)) → y ≡ slice_index next x
      goes k x y at (inl there) =
          let within = slice_get_within (walk ++ test ∷ []) (k + 1) y there in
          w.goes k x y (sym (in_front (walk ++ test ∷ []) (new ∷ []) k (omega (arith, within))) ∙ at) there
      goes k x y at (inr end) =
          let place : k ≡ length walk = omega (arith, end.0, long) in
          let front : slice_get (walk ++ test ∷ []) k ≡ Some x = sym (in_front (walk ++ test ∷ []) (new ∷ []) k (omega (arith, place, long))) ∙ at in
          let same : test ≡ x = same_Some test x (sym (at_last walk test) ∙ ap (slice_get (walk ++ test ∷ [])) (sym place) ∙ front) in
          sym end.1 ∙ is ∙ ap (slice_index next) same

  pub walk_short : position (nat_eq test) walk ≡ None → length walk < length next
  walk_short none =
      omega (arith, few (walk ++ test ∷ []) (length next) (each_push walk test (λ x. x < length next) w.within w.test_small) (once_push walk test (walked_fresh walk test none) w.once), length-append walk (test ∷ []))

  pub walk_ends : (meets : ℕ) → position (nat_eq test) walk ≡ Some meets → ComesAgain next start (walk ++ test ∷ []) meets
  walk_ends meets found = record {
    last = length walk;
    long = length-append walk (test ∷ []);
    before_last = slice_get_within walk meets test at;
    again = at_left walk (test ∷ []) meets test at ∙ sym (at_last walk test);
    begins = w.begins;
    goes = w.goes;
    differ = λ p q x less below e f. w.once p q x (sym (in_front walk (test ∷ []) p less) ∙ e) (sym (in_front walk (test ∷ []) q below) ∙ f);
  }
    where
      at : slice_get walk meets ≡ Some test
      at = slice_get-from_position walk test meets found

-- a test that isn't among what the code looks through isn't on the walk
pub seen_none : (test : ℕ) (walk seen : List ℕ) (o : Option ℕ) → seen ≡ walk → o ≡ position (nat_eq test) seen → o ≡ None → position (nat_eq test) walk ≡ None
seen_none test walk seen o same found none = ap (position (nat_eq test)) (sym same) ∙ sym found ∙ none

-- ---- the walk back

-- one test more on the way back
pub back_more : (walk circle new : List ℕ) (back x : ℕ) → (length circle ≡ back) × ((k : ℕ) → k < back → slice_get circle k ≡ slice_get walk (length walk - 1 - k)) → new ≡ circle ++ x ∷ [] → slice_get walk (length walk - 1 - back) ≡ Some x
    → (length new ≡ back + 1) × ((k : ℕ) → k < back + 1 → slice_get new k ≡ slice_get walk (length walk - 1 - k))
back_more walk circle new back x before pushed at = (ap length pushed ∙ length-append circle (x ∷ []) ∙ ap (λ n. n + 1) before.0, λ k less. by k less (cases_eq k back))
  where
    by : (k : ℕ) → k < back + 1 → (k ≡ back) ⊎ (k ≡ back → ⊥) → slice_get new k ≡ slice_get walk (length walk - 1 - k)
    by k less (inl same) =
        ap (λ (l : List ℕ). slice_get l k) pushed ∙ ap (slice_get (circle ++ x ∷ [])) (same ∙ sym before.0) ∙ at_last circle x ∙ sym at ∙ ap (λ n. slice_get walk (length walk - 1 - n)) (sym same)
    by k less (inr apart) =
        let front : slice_get circle k ≡ Some (get_or circle k 0) = slice_get-get_or circle k 0 (omega (arith, less, apart, before.0)) in
        ap (λ (l : List ℕ). slice_get l k) pushed ∙ at_left circle (x ∷ []) k (get_or circle k 0) front ∙ sym front ∙ before.1 k (omega (arith, less, apart))
