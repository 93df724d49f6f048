-- Changes of intervals, and room to note each.
use Rattle.std.proofs.Common.{◌≡◌, ◌≢◌, ◌⊎◌, inl, inr, ℕ, zero, suc, ◌+◌, ◌≤◌, ◌<◌, min, List, [], ◌∷◌, ◌++◌, length, get_or, map, take, drop, refl, sym, ap, ◌∙◌, append_assoc, subst, arith, slice_set, vec_capacity, All, sum_by, ◌-◌}
use Rattle.std.proofs.lemmas.Bool.{cases_eq}
use Rattle.std.proofs.lemmas.List.{append-nil, set-set, set-get_or, length-append, get_or_default}
use Rattle.std.proofs.lemmas.List.Sums.{get_or-le-sum_by}
use Rattle.std.proofs.lemmas.List.Edits.{map_over_more}
use Rattle.leaf_bounds.specs.declared.widths.IntervalChange.{IntervalChange}
use Rattle.leaf_bounds.specs.declared.widths.IntervalChange.TheVariants.{Was}
use Rattle.leaf_bounds.specs.declared.widths.Widths.{Widths}
use Rattle.leaf_bounds.specs.Cases.{Interval, Case, IsEmpty, least_wires, interval, interval_of, at_most, at_least, tightened_below, tightened_by}
use Rattle.leaf_bounds.specs.Trails.{undone, undone_once, IsPart, IsLater, IsFew, IsRoomy, IsBack, HasGap, HasNoGap, changes_left, tight}

-- ==== changes of intervals: what came later, and that there is room to note each

-- ---- what is undone

undone-append : (is : List Interval) (cs ds : List IntervalChange) → undone is (cs ++ ds) ≡ undone (undone is ds) cs
undone-append is [] ds = refl
undone-append is (c ∷ cs) ds = ap (λ js. undone_once js c) (undone-append is cs ds)

pub later_none : (v : Widths) → IsLater v v
later_none v = record {
  changes = [];
  trail = sym (append-nil v.trail.items);
  undone_is = refl;
  wires = refl;
  most = refl;
  room = refl;
  trail_room = refl;
}

pub later_then : {a b c : Widths} → IsLater a b → IsLater b c → IsLater a c
later_then {a} {c} x y = record {
  changes = x.changes ++ y.changes;
  trail = y.trail ∙ ap (λ t. t ++ y.changes) x.trail ∙ append_assoc a.trail.items x.changes y.changes;
  undone_is = undone-append c.intervals.items x.changes y.changes ∙ ap (λ is. undone is x.changes) y.undone_is ∙ x.undone_is;
  wires = y.wires ∙ x.wires;
  most = y.most ∙ x.most;
  room = y.room ∙ x.room;
  trail_room = y.trail_room ∙ x.trail_room;
}

-- ---- another interval for one rank

module _ (is : List Interval) (rank : ℕ) (i : Interval) where
  -- the interval that it has
  pub set_kept : interval_of is rank ≡ i → slice_set is rank i ≡ is
  set_kept e = ap (slice_set is rank) (sym e) ∙ set-get_or is rank (interval 0 0)

  -- it is put back
  pub put_back : slice_set (slice_set is rank i) rank (interval_of is rank) ≡ is
  put_back = set-set is rank i (interval_of is rank) ∙ set-get_or is rank (interval 0 0)

module _ (old : Interval) {new : Interval} where
  -- what one of two bounds tells
  pub lower_low : old.low < new.low → old ≡ new → ⊥
  lower_low less same =
      let e = ap (λ (i : Interval). i.low) same in
      omega arith

  pub lower_high : new.high < old.high → old ≡ new → ⊥
  lower_high less same =
      let e = ap (λ (i : Interval). i.high) same in
      omega arith

  pub no_less : IsPart new old → new.low ≤ old.low → old.high ≤ new.high → old ≡ new
  no_less part low high =
      let l : old.low ≡ new.low = omega (arith, part.low) in
      let h : old.high ≡ new.high = omega (arith, part.high) in
      ap (λ n. interval n old.high) l ∙ ap (interval new.low) h

  -- a narrower interval has fewer changes left
  pub fewer_left : IsFew new → old.low ≤ new.low → new.high ≤ old.high → (old ≡ new → ⊥) → changes_left new < changes_left old
  fewer_left few low high other = fewer (cases_eq old.low new.low) (cases_eq old.high new.high)
    where
      fewer : (old.low ≡ new.low) ⊎ (old.low ≢ new.low) → (old.high ≡ new.high) ⊎ (old.high ≢ new.high) → changes_left new < changes_left old
      fewer (inl l) (inl h) = absurd (other (ap (λ n. interval n old.high) l ∙ ap (interval new.low) h))
      fewer (inl l) (inr h) = omega (arith, few.low, few.high)
      fewer (inr l) h = omega (arith, few.low, few.high)

-- so there is room to note it
pub room_to_note : {v : Widths} (rank : ℕ) {i : Interval} → IsRoomy v → rank < length v.intervals.items → IsFew i → (interval_of v.intervals.items rank).low ≤ i.low →
    i.high ≤ (interval_of v.intervals.items rank).high → (interval_of v.intervals.items rank ≡ i → ⊥) → length v.trail.items < vec_capacity v.trail
room_to_note {v} rank {i} roomy within few low high other =
    let left = fewer_left (interval_of v.intervals.items rank) few low high other in
    let some = get_or-le-sum_by changes_left v.intervals.items rank (interval 0 0) within in
    omega (arith, roomy.noted, roomy.known, roomy.trail_room)

pub later_put : (v w : Widths) (rank : ℕ) (i : Interval) →
    w.intervals.items ≡ slice_set v.intervals.items rank i → w.trail.items ≡ v.trail.items ++ Was rank (interval_of v.intervals.items rank) ∷ [] →
    w.wires ≡ v.wires → w.most ≡ v.most → vec_capacity w.intervals ≡ vec_capacity v.intervals → vec_capacity w.trail ≡ vec_capacity v.trail → IsLater v w
later_put v w rank i is trail wires most room trail_room = record {
  changes = Was rank (interval_of v.intervals.items rank) ∷ [];
  trail = trail;
  undone_is = ap (λ js. slice_set js rank (interval_of v.intervals.items rank)) is ∙ put_back v.intervals.items rank i;
  wires = wires;
  most = most;
  room = room;
  trail_room = trail_room;
}

-- ---- parts of intervals

module _ (xs : List Interval) (rank width : ℕ) {old new : Interval} where
  pub most_part : All IsFew xs → rank < length xs → old ≡ interval_of xs rank → new ≡ at_most width old → IsPart new (interval_of xs rank)
  most_part few within is next =
      let all = few rank (interval 0 0) within in
      subst (λ i. IsPart i (interval_of xs rank)) (sym (next ∙ ap (at_most width) is)) (record {
        low = omega arith;
        high = omega arith;
        few = record { low = all.low; high = omega (arith, all.high) };
      })

  pub least_part : width ≤ 256 → All IsFew xs → rank < length xs → old ≡ interval_of xs rank → new ≡ at_least width old → IsPart new (interval_of xs rank)
  least_part small few within is next =
      let all = few rank (interval 0 0) within in
      subst (λ i. IsPart i (interval_of xs rank)) (sym (next ∙ ap (at_least width) is)) (record {
        low = omega arith;
        high = omega arith;
        few = record { low = omega (arith, all.low); high = all.high };
      })

pub tight_part : (xs : List Interval) (rank more above : ℕ) {old new : Interval} → All IsFew xs → rank < length xs → old ≡ interval_of xs rank →
    new ≡ tight more above old → IsPart new (interval_of xs rank)
tight_part xs rank more above few within is next =
    let all = few rank (interval 0 0) within in
    subst (λ i. IsPart i (interval_of xs rank)) (sym (next ∙ ap (tight more above) is)) (record {
      low = omega arith;
      high = omega arith;
      few = record { low = all.low; high = omega (arith, all.high) };
    })

-- ---- item by item

module _ (xs : List Interval) (k : ℕ) where
  -- what is read is what the definitions read
  pub item_is : {x : Interval} → k < length xs → x ≡ get_or xs k x → x ≡ interval_of xs k
  item_is {x} within e = e ∙ get_or_default xs k x (interval 0 0) within

  pub few_at : All IsFew xs → k < length xs → IsFew (interval_of xs k)
  few_at few within = few k (interval 0 0) within

module _ {X : Type 0} (g : X → X) where
  pub front_length : (xs : List X) (n : ℕ) → length (map g (take n xs) ++ drop n xs) ≡ length xs
  front_length [] zero = refl
  front_length [] (suc n) = refl
  front_length (x ∷ xs) zero = refl
  front_length (x ∷ xs) (suc n) = ap suc (front_length xs n)

module _ (more : ℕ) where
  below_length : (above : ℕ) (xs : List Interval) → length (tightened_below more above xs) ≡ length xs
  below_length above [] = refl
  below_length above (x ∷ xs) = ap suc (below_length (min (min x.high (x.low + more)) above) xs)

  pub tight_length : (xs : List Interval) → length (tightened_by more xs) ≡ length xs
  tight_length [] = refl
  tight_length (x ∷ xs) = below_length x.high (x ∷ xs)

module _ (g : Interval → Interval) where
  pub map_next : (xs : List Interval) {ys : List Interval} {k n : ℕ} → k < length xs → n ≡ suc k → ys ≡ slice_set xs k (g (interval_of xs k)) →
      take n ys ++ map g (drop n ys) ≡ take k xs ++ map g (drop k xs)
  map_next xs {k} within next is = rw next (rw is (step xs k within))
    where
      step : (xs : List Interval) (k : ℕ) → k < length xs → take (suc k) (slice_set xs k (g (interval_of xs k))) ++ map g (drop (suc k) (slice_set xs k (g (interval_of xs k)))) ≡ take k xs ++ map g (drop k xs)
      step [] k h = absurd (omega arith)
      step (x ∷ xs) zero h = refl
      step (x ∷ xs) (suc k) h = ap (λ zs. x ∷ zs) (step xs k (omega arith))

  pub map_all : (xs : List Interval) (n : ℕ) → length xs ≤ n → take n xs ++ map g (drop n xs) ≡ xs
  map_all [] zero h = refl
  map_all [] (suc n) h = refl
  map_all (x ∷ xs) zero h = absurd (omega arith)
  map_all (x ∷ xs) (suc n) h = ap (λ zs. x ∷ zs) (map_all xs n (omega arith))

  -- each of the first items has gone over
  pub front_next : (xs : List Interval) {ys : List Interval} (k : ℕ) → k < length xs → ys ≡ map g (take k xs) ++ drop k xs →
      slice_set ys k (g (interval_of ys k)) ≡ map g (take (k + 1) xs) ++ drop (k + 1) xs
  front_next xs {ys} k within is =
      let read = get_or_default ys k (interval 0 0) (interval_of ys k) (omega (arith, ap length is ∙ front_length g xs k)) in
      map_over_more g xs ys k (interval_of ys k) within is read

module _ (more above : ℕ) where
  pub tight_next : {high : ℕ} (xs : List Interval) {ys : List Interval} {k n : ℕ} → k < length xs → n ≡ suc k → ys ≡ slice_set xs k (tight more above (interval_of xs k)) →
      high ≡ (tight more above (interval_of xs k)).high → take n ys ++ tightened_below more high (drop n ys) ≡ take k xs ++ tightened_below more above (drop k xs)
  tight_next xs {k} within next is high_is = rw high_is (rw next (rw is (step xs k within)))
    where
      step : (xs : List Interval) (k : ℕ) → k < length xs →
          take (suc k) (slice_set xs k (tight more above (interval_of xs k))) ++ tightened_below more (tight more above (interval_of xs k)).high (drop (suc k) (slice_set xs k (tight more above (interval_of xs k))))
          ≡ take k xs ++ tightened_below more above (drop k xs)
      step [] k h = absurd (omega arith)
      step (x ∷ xs) zero h = refl
      step (x ∷ xs) (suc k) h = ap (λ zs. x ∷ zs) (step xs k (omega arith))

  pub tight_all : (xs : List Interval) (n : ℕ) → length xs ≤ n → take n xs ++ tightened_below more above (drop n xs) ≡ xs
  tight_all [] zero h = refl
  tight_all [] (suc n) h = refl
  tight_all (x ∷ xs) zero h = absurd (omega arith)
  tight_all (x ∷ xs) (suc n) h = ap (λ zs. x ∷ zs) (tight_all xs n (omega arith))

-- no rank is before the first one
pub tight_first : (more : ℕ) (xs : List Interval) → All IsFew xs → tightened_below more 256 xs ≡ tightened_by more xs
tight_first more [] few = refl
tight_first more (i ∷ is) few =
    let same : min (min i.high (i.low + more)) 256 ≡ min (min i.high (i.low + more)) i.high = omega (arith, (few 0 i (omega arith)).high) in
    ap (λ high. interval i.low high ∷ tightened_below more high is) same

-- ---- the last change is taken back

split_last : (xs ys zs : List IntervalChange) (c : IntervalChange) → xs ++ ys ≡ zs ++ c ∷ [] → length xs ≤ length zs →
    (ys ≡ drop (length xs) zs ++ c ∷ []) × (zs ≡ xs ++ drop (length xs) zs)
split_last [] ys zs c e less = (e, refl)
split_last (x ∷ xs) ys [] c e less = absurd (omega arith)
split_last (x ∷ xs) ys (z ∷ zs) c e less =
    let rest = split_last xs ys zs c (tails e) (omega arith) in
    (rest.0, ap (λ l. z ∷ l) rest.1 ∙ ap (λ y. y ∷ (xs ++ drop (length xs) zs)) (sym (heads e)))
  where
    heads : x ∷ (xs ++ ys) ≡ z ∷ (zs ++ c ∷ []) → x ≡ z
    heads h = cc

    tails : x ∷ (xs ++ ys) ≡ z ∷ (zs ++ c ∷ []) → xs ++ ys ≡ zs ++ c ∷ []
    tails h = cc

pub later_popped : {before v : Widths} (w : Widths) (c : IntervalChange) → IsLater before v → length before.trail.items < length v.trail.items →
    v.trail.items ≡ w.trail.items ++ c ∷ [] → w.intervals.items ≡ undone_once v.intervals.items c → w.wires ≡ v.wires → w.most ≡ v.most →
    vec_capacity w.intervals ≡ vec_capacity v.intervals → vec_capacity w.trail ≡ vec_capacity v.trail → IsLater before w
later_popped {before} {v} w c later more popped undone' wires most room trail_room =
    let long = ap length popped ∙ length-append w.trail.items (c ∷ []) in
    let parts = split_last before.trail.items later.changes w.trail.items c (sym later.trail ∙ popped) (omega (arith, long, more)) in
    record {
      changes = drop (length before.trail.items) w.trail.items;
      trail = parts.1;
      undone_is =
          ap (λ is. undone is (drop (length before.trail.items) w.trail.items)) undone'
          ∙ sym (undone-append v.intervals.items (drop (length before.trail.items) w.trail.items) (c ∷ []))
          ∙ ap (undone v.intervals.items) (sym parts.0) ∙ later.undone_is;
      wires = wires ∙ later.wires;
      most = most ∙ later.most;
      room = room ∙ later.room;
      trail_room = trail_room ∙ later.trail_room;
    }

gone : (xs : List IntervalChange) {ys : List IntervalChange} (cs : List IntervalChange) → ys ≡ xs ++ cs → length ys ≡ length xs → cs ≡ []
gone xs [] e long = refl
gone xs {ys} (c ∷ cs) e long =
    absurd (omega (arith, ap length e ∙ length-append xs (c ∷ cs), long))

pub back_here : {before v : Widths} → IsLater before v → IsRoomy before → length v.trail.items ≡ length before.trail.items → IsBack before v
back_here {before} {v} later roomy long =
    let none = gone before.trail.items later.changes later.trail long in
    let same = ap (undone v.intervals.items) (sym none) ∙ later.undone_is in
    let known = ap length same in
    record {
      intervals = same;
      later = later;
      trail = later.trail ∙ ap (λ cs. before.trail.items ++ cs) none ∙ append-nil before.trail.items;
      roomy = record {
        wires = omega (arith, later.wires, roomy.wires);
        ranks = omega (arith, later.most, roomy.ranks);
        few = subst (All IsFew) (sym same) roomy.few;
        known = omega (arith, known, later.most, roomy.known);
        noted = omega (arith, known, ap (sum_by changes_left) same, long, roomy.noted);
        room = omega (arith, later.room, later.most, roomy.room);
        trail_room = omega (arith, later.trail_room, later.most, roomy.trail_room);
      };
    }

-- ---- empty cases

module _ (xs : List Interval) (n : ℕ) {i : Interval} where
  pub no_gap_more : i ≡ interval_of xs n → i.low ≤ i.high → HasNoGap xs n → HasNoGap xs (n + 1)
  no_gap_more is fine before k less = by (cases_eq k n)
    where
      by : (k ≡ n) ⊎ (k ≢ n) → (interval_of xs k).low ≤ (interval_of xs k).high
      by (inl same) = subst (λ (j : Interval). j.low ≤ j.high) (is ∙ ap (interval_of xs) (sym same)) fine
      by (inr other) = before k (omega (arith, less, other))

  pub gap_at : n < length xs → i ≡ interval_of xs n → i.high < i.low → HasGap xs
  gap_at within is none = (n, within, subst (λ (j : Interval). j.high < j.low) is none)

module _ (w : ℕ) {xs : List Interval} (c : Case) (is : c.intervals ≡ xs) where
  pub empty_by_gap : HasGap xs → IsEmpty w c
  empty_by_gap gap = inr (subst HasGap (sym is) gap)

  pub empty_by_sum : w < least_wires xs → IsEmpty w c
  empty_by_sum more = inl (subst (λ js. w < least_wires js) (sym is) more)

  pub not_empty : least_wires xs ≤ w → HasNoGap xs (length xs) → IsEmpty w c → ⊥
  not_empty fits fine (inl more) = omega (arith, ap least_wires is, fits, more)
  not_empty fits fine (inr gap) = no (subst HasGap is gap)
    where
      no : HasGap xs → ⊥
      no g = omega (arith, fine g.0 g.1, g.2)
