-- What was taken away and noted, and that there is room to note each.
use Rattle.std.proofs.Common.{◌≡◌, ℕ, zero, suc, ◌≤◌, ◌<◌, Bool, true, false, cond, List, [], ◌∷◌, ◌++◌, length, take, drop, set, refl, sym, ap, ◌∙◌, append_assoc, arith, slice_set, vec_capacity, count_by}
use Rattle.std.proofs.lemmas.List.{append-nil, set-set, set-get_or, length-set, length-append}
use Rattle.std.proofs.lemmas.List.Sums.{sum_by-set, get_or-le-sum_by}
use Rattle.leaf_bounds.specs.declared.ranks.Ranks.{Ranks}
use Rattle.leaf_bounds.specs.Takings.{bit_at, given_back, IsAfter, HasSpace, IsRestored}

-- ---- what is given back

given_back-append : (bits : List Bool) (xs ys : List ℕ) → given_back bits (xs ++ ys) ≡ given_back (given_back bits ys) xs
given_back-append bits [] ys = refl
given_back-append bits (x ∷ xs) ys = ap (λ b. slice_set b x true) (given_back-append bits xs ys)

take_set : (xs : List Bool) (n i : ℕ) (x : Bool) → take n (set xs i x) ≡ set (take n xs) i x
take_set [] zero i x = refl
take_set [] (suc n) i x = refl
take_set (y ∷ xs) zero i x = zero_case i
  where
    zero_case : (i : ℕ) → take 0 (set (y ∷ xs) i x) ≡ set [] i x
    zero_case zero = refl
    zero_case (suc i) = refl
take_set (y ∷ xs) (suc n) zero x = refl
take_set (y ∷ xs) (suc n) (suc i) x = ap (λ zs. y ∷ zs) (take_set xs n i x)

take_given : (bits : List Bool) (n : ℕ) (xs : List ℕ) → take n (given_back bits xs) ≡ given_back (take n bits) xs
take_given bits n [] = refl
take_given bits n (x ∷ xs) = take_set (given_back bits xs) n x true ∙ ap (λ b. slice_set b x true) (take_given bits n xs)

-- the front of a front
take_take : (xs : List Bool) (m n : ℕ) → m ≤ n → take m (take n xs) ≡ take m xs
take_take [] zero zero h = refl
take_take [] zero (suc n) h = refl
take_take [] (suc m) zero h = refl
take_take [] (suc m) (suc n) h = refl
take_take (x ∷ xs) zero zero h = refl
take_take (x ∷ xs) zero (suc n) h = refl
take_take (x ∷ xs) (suc m) zero h = absurd (omega arith)
take_take (x ∷ xs) (suc m) (suc n) h = ap (λ zs. x ∷ zs) (take_take xs m n (omega arith))

take_whole : (xs : List Bool) → take (length xs) xs ≡ xs
take_whole [] = refl
take_whole (x ∷ xs) = ap (λ zs. x ∷ zs) (take_whole xs)

pub after_none : (r : Ranks) → IsAfter r r
after_none r = record {
  taken = [];
  trail = sym (append-nil r.trail.items);
  longer = omega arith;
  front = take_whole r.may.items;
  most = refl;
  room = refl;
  trail_room = refl;
}

pub after_then : {a b c : Ranks} → IsAfter a b → IsAfter b c → IsAfter a c
after_then {a} {b} {c} x y = record {
  taken = x.taken ++ y.taken;
  trail = y.trail ∙ ap (λ t. t ++ y.taken) x.trail ∙ append_assoc a.trail.items x.taken y.taken;
  longer = omega (arith, x.longer, y.longer);
  front =
      let inner = take_given (given_back c.may.items y.taken) (length b.may.items) x.taken ∙ ap (λ l. given_back l x.taken) y.front in
      ap (take (length a.may.items)) (given_back-append c.may.items x.taken y.taken)
      ∙ sym (take_take (given_back (given_back c.may.items y.taken) x.taken) (length a.may.items) (length b.may.items) x.longer)
      ∙ ap (take (length a.may.items)) inner ∙ x.front;
  most = y.most ∙ x.most;
  room = y.room ∙ x.room;
  trail_room = y.trail_room ∙ x.trail_room;
}

-- ---- one place is taken away

module _ (bits : List Bool) (at : ℕ) where
  -- where nothing is left, nothing changes
  pub gone_already : bit_at bits at ≡ false → slice_set bits at false ≡ bits
  gone_already gone = ap (slice_set bits at) (sym gone) ∙ set-get_or bits at false

  put_back : bit_at bits at ≡ true → slice_set (slice_set bits at false) at true ≡ bits
  put_back left = set-set bits at false true ∙ ap (slice_set bits at) (sym left) ∙ set-get_or bits at false

abbrev one_if : Bool → ℕ
one_if b = cond b 1 0

counts : (b : Bool) → b ≡ true → one_if b ≡ 1
counts true e = refl
counts false e = absurd (no e)
  where
    no : false ≡ true → ⊥
    no h = cc

pub space_to_note : {r : Ranks} (at : ℕ) → HasSpace r → at < length r.may.items → bit_at r.may.items at ≡ true → length r.trail.items < vec_capacity r.trail
space_to_note {r} at space within left =
    let one = counts (bit_at r.may.items at) left in
    omega (arith, one, get_or-le-sum_by one_if r.may.items at false within, space.noted, space.known, space.trail_room)

module _ (r s : Ranks) (at : ℕ) where
  pub space_after : HasSpace r → at < length r.may.items → bit_at r.may.items at ≡ true → s.may.items ≡ slice_set r.may.items at false →
      s.trail.items ≡ r.trail.items ++ at ∷ [] → s.most ≡ r.most → vec_capacity s.may ≡ vec_capacity r.may → vec_capacity s.trail ≡ vec_capacity r.trail → HasSpace s
  space_after space within left may trail most room trail_room =
      let one = counts (bit_at r.may.items at) left in
      let sums = sum_by-set one_if r.may.items at false false within in
      let long = ap length may ∙ length-set r.may.items at false in
      record {
        known = omega (arith, long, most, space.known);
        noted = omega (arith, one, sums, ap (count_by (λ b. b)) may, long, ap length trail ∙ length-append r.trail.items (at ∷ []), space.noted);
        room = omega (arith, room, most, space.room);
        trail_room = omega (arith, trail_room, most, space.trail_room);
      }

  pub after_put : bit_at r.may.items at ≡ true → s.may.items ≡ slice_set r.may.items at false → s.trail.items ≡ r.trail.items ++ at ∷ [] → s.most ≡ r.most →
      vec_capacity s.may ≡ vec_capacity r.may → vec_capacity s.trail ≡ vec_capacity r.trail → IsAfter r s
  after_put left may trail most room trail_room =
      record {
        taken = at ∷ [];
        trail = trail;
        longer = omega (arith, ap length may ∙ length-set r.may.items at false);
        front = ap (λ b. take (length r.may.items) (slice_set b at true)) may ∙ ap (take (length r.may.items)) (put_back r.may.items at left) ∙ take_whole r.may.items;
        most = most;
        room = room;
        trail_room = trail_room;
      }

-- ---- the last place is given back

split_last : (xs ys zs : List ℕ) (c : ℕ) → xs ++ ys ≡ zs ++ c ∷ [] → length xs ≤ length zs →
    (ys ≡ drop (length xs) zs ++ c ∷ []) × (zs ≡ xs ++ drop (length xs) zs)
split_last [] ys zs c e less = (e, refl)
split_last (x ∷ xs) ys [] c e less = absurd (omega arith)
split_last (x ∷ xs) ys (z ∷ zs) c e less =
    let rest = split_last xs ys zs c (tails e) (omega arith) in
    (rest.0, ap (λ l. z ∷ l) rest.1 ∙ ap (λ y. y ∷ (xs ++ drop (length xs) zs)) (sym (heads e)))
  where
    heads : x ∷ (xs ++ ys) ≡ z ∷ (zs ++ c ∷ []) → x ≡ z
    heads h = cc

    tails : x ∷ (xs ++ ys) ≡ z ∷ (zs ++ c ∷ []) → xs ++ ys ≡ zs ++ c ∷ []
    tails h = cc

pub after_popped : {before r : Ranks} (s : Ranks) (at : ℕ) → IsAfter before r → length before.trail.items < length r.trail.items →
    r.trail.items ≡ s.trail.items ++ at ∷ [] → s.may.items ≡ slice_set r.may.items at true → s.most ≡ r.most → vec_capacity s.may ≡ vec_capacity r.may →
    vec_capacity s.trail ≡ vec_capacity r.trail → IsAfter before s
after_popped {before} {r} s at after more popped back most room trail_room =
    let long = ap length popped ∙ length-append s.trail.items (at ∷ []) in
    let parts = split_last before.trail.items after.taken s.trail.items at (sym after.trail ∙ popped) (omega (arith, long, more)) in
    record {
      taken = drop (length before.trail.items) s.trail.items;
      trail = parts.1;
      longer = omega (arith, ap length back ∙ length-set r.may.items at true, after.longer);
      front = ap (take (length before.may.items))
          (ap (λ b. given_back b (drop (length before.trail.items) s.trail.items)) back
          ∙ sym (given_back-append r.may.items (drop (length before.trail.items) s.trail.items) (at ∷ []))
          ∙ ap (given_back r.may.items) (sym parts.0)) ∙ after.front;
      most = most ∙ after.most;
      room = room ∙ after.room;
      trail_room = trail_room ∙ after.trail_room;
    }

gone : (xs ys cs : List ℕ) → ys ≡ xs ++ cs → length ys ≡ length xs → cs ≡ []
gone xs ys [] e long = refl
gone xs ys (c ∷ cs) e long =
    absurd (omega (arith, ap length e ∙ length-append xs (c ∷ cs), long))

-- where all are given back, the ranks that came after are left out
pub restored : {before r : Ranks} (s : Ranks) → IsAfter before r → HasSpace before → length r.trail.items ≡ length before.trail.items →
    s.may.items ≡ take (length before.may.items) r.may.items → s.trail.items ≡ r.trail.items → s.most ≡ r.most → vec_capacity s.may ≡ vec_capacity r.may →
    vec_capacity s.trail ≡ vec_capacity r.trail → IsRestored before s
restored {before} {r} s after space long cut trail most room trail_room =
    let none = gone before.trail.items r.trail.items after.taken after.trail long in
    let same = cut ∙ ap (λ xs. take (length before.may.items) (given_back r.may.items xs)) (sym none) ∙ after.front in
    let known = ap length same in
    let noted = ap length trail in
    record {
      may = same;
      after_it = record {
        taken = [];
        trail = trail ∙ after.trail ∙ ap (λ xs. before.trail.items ++ xs) none;
        longer = omega (arith, known);
        front = ap (take (length before.may.items)) same ∙ take_whole before.may.items;
        most = most ∙ after.most;
        room = room ∙ after.room;
        trail_room = trail_room ∙ after.trail_room;
      };
      trail = trail ∙ after.trail ∙ ap (λ xs. before.trail.items ++ xs) none ∙ append-nil before.trail.items;
      space = record {
        known = omega (arith, known, most, after.most, space.known);
        noted = omega (arith, known, ap (count_by (λ b. b)) same, long, noted, space.noted);
        room = omega (arith, room, most, after.most, after.room, space.room);
        trail_room = omega (arith, trail_room, most, after.most, after.trail_room, space.trail_room);
      };
    }
