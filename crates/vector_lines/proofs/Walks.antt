-- Walks over the numbers of a chain's bits.
use Rattle.std.proofs.Common.{◌≡◌, ℕ, zero, suc, ◌+◌, ◌-◌, ◌*◌, ◌/◌, ◌%◌, ◌^◌, ◌≤◌, ◌<◌, List, [], ◌∷◌, ◌++◌, length, get_or, drop, take, refl, ap, sym, subst, ◌∙◌, arith, slice_index, All}
use Rattle.std.specs.List.{range_with_len}
use Rattle.std.proofs.Math.Seq.{drop-append-add}
use Rattle.std.proofs.lemmas.List.{drop_more, drop-append-le, drop-drop, take_more, append-nil, length-append}
use Rattle.std.proofs.lemmas.Grind.{flat_map-append}
use Rattle.std.proofs.lemmas.List.Folds.{length-flat_map-take}
use Rattle.std.proofs.lemmas.List.FromFn.{length-range_with_len}
use Rattle.vector_lines.specs.Made.{has_odd_square, made_from}
use Rattle.vector_lines.specs.Marks.{IsValue}
use Rattle.vector_lines.specs.Numbers.{run_numbers, all_numbers, IsFirstValue, IsFull, IsWalk, HasNext}
use Rattle.vector_lines.specs.declared.numbers.NumberRun.{NumberRun}
use Rattle.vector_lines.specs.declared.numbers.Walk.{Walk}
use Rattle.vector_lines.proofs.MadeBits.{pattern_rest, rest_of, same_rest}

-- ---- what a bit is made from

line_rest : (m n a b u v : ℕ) {x y : ℕ} → x ≡ a + m * u → y ≡ b + m * v → (a + b * n) % m ≡ (x + y * n) % m
line_rest m n a b u v {x} {y} e f =
    let whole : x + y * n ≡ (a + b * n) + m * (u + v * n) = rw (e, f) (omega arith) in
    sym (same_rest m (x + y * n) (a + b * n) (u + v * n) whole)

pub line_of : (base k s n : ℕ) → has_odd_square (((base + 101 * (k % 997) + s) % 997 + (7 + 3 * (k % 997)) % 997 * n) % 997) ≡ made_from base k n s
unfolding made_from
line_of base k s n =
    let a : ℕ = k % 997 in
    let whole : (base + 101 * (k % 997) + s) + (7 + 3 * (k % 997)) * n ≡ base + 101 * (k % 997) + 7 * n + 3 * (n * (k % 997)) + s = omega arith in
    let own : n ≡ n + 997 * 0 = omega arith in
    ap has_odd_square
    (line_rest 997 n ((base + 101 * (k % 997) + s) % 997) ((7 + 3 * (k % 997)) % 997) ((base + 101 * (k % 997) + s) / 997) ((7 + 3 * (k % 997)) / 997) (rest_of (base + 101 * (k % 997) + s) 997) (rest_of (7 + 3 * (k % 997)) 997)
    ∙ ap (λ v. v % 997) whole ∙ pattern_rest 997 (k % 997) n (k / 997) 0 (rest_of k 997) own base s)

pub value_of : (first step n : ℕ) → (first + step * (n % 997)) % 997 ≡ (first + step * n) % 997
value_of first step n =
    let e = rest_of n 997 in
    let whole = by n (n % 997) (n / 997) e in
    sym (same_rest 997 (first + step * n) (first + step * (n % 997)) (step * (n / 997)) whole)
  where
    by : (n a u : ℕ) → n ≡ a + 997 * u → first + step * n ≡ (first + step * a) + 997 * (step * u)
    by n a u e = rw e (omega arith)

-- ---- walks

-- no run
abbrev pub nothing : NumberRun
nothing = record { from = 0; count = 0 }

drop_range : (b a n : ℕ) → b ≤ n → drop b (range_with_len a n) ≡ range_with_len (a + b) (n - b)
drop_range zero a n h =
    let e : a + 0 ≡ a = omega arith in
    let f : n - 0 ≡ n = omega arith in
    rw (e, f) refl
drop_range (suc b) a zero h = absurd (omega arith)
drop_range (suc b) a (suc n) h =
    let e : a + 1 + b ≡ a + suc b = omega arith in
    let f : suc n - suc b ≡ n - b = omega arith in
    rw f (drop_range b (a + 1) n (omega arith) ∙ rw e refl)

module _ (runs : List NumberRun) (i : ℕ) {r : NumberRun} (h : i < length runs) (at : r ≡ get_or runs i r) where
  pub next_run : all_numbers (drop i runs) ≡ run_numbers r ++ all_numbers (drop (i + 1) runs)
  next_run = ap all_numbers (drop_more runs i r h ∙ ap (λ x. x ∷ drop (i + 1) runs) (sym at))

  pub full_at : All IsFull runs → IsFull r
  full_at full = subst IsFull (sym at) (full i r h)

-- where the numbers of the runs from one on begin
pub record IsReached (runs : List NumberRun) (place run before : ℕ) : Type 0 where
  pub within : before < length (all_numbers (drop run runs))
  pub rest : drop before (all_numbers (drop run runs)) ≡ drop place (all_numbers runs)

module _ {runs : List NumberRun} {place run before : ℕ} {r : NumberRun} (h : run < length runs) (at : r ≡ get_or runs run r)
    (is : IsReached runs place run before) where
  pub reached_next : r.count ≤ before → IsReached runs place (run + 1) (before - r.count)
  reached_next past =
      let whole = next_run runs run h at in
      let long = length-range_with_len r.from r.count in
      let there : length (run_numbers r) + (before - r.count) ≡ before = omega arith in
      let total : length (all_numbers (drop run runs)) ≡ length (run_numbers r) + length (all_numbers (drop (run + 1) runs)) = ap length whole ∙ length-append (run_numbers r) (all_numbers (drop (run + 1) runs)) in
      record {
        within = omega (arith, is.within);
        rest = sym (drop-append-add (run_numbers r) (all_numbers (drop (run + 1) runs)) (before - r.count)) ∙ ap (λ n. drop n (run_numbers r ++ all_numbers (drop (run + 1) runs))) there ∙ ap (drop before) (sym whole) ∙ is.rest;
      }

  pub walk_begun : (values : ℕ → ℕ) {v : ℕ} → All IsFull runs → before < r.count → v ≡ values (r.from + before) →
      IsWalk runs values (record { run = run + 1; left = r.count - before; value = v }) (drop place (all_numbers runs))
  walk_begun values {v} full less value =
      let long = length-range_with_len r.from r.count in
      let whole = full_at runs run h at full in
      record {
        number = r.from + before;
        value = value;
        fits = let fits = whole.fits in omega arith;
        rest_is = sym is.rest ∙ ap (drop before) (next_run runs run h at) ∙ drop-append-le before (run_numbers r) (all_numbers (drop (run + 1) runs)) (omega arith)
            ∙ ap (λ v. v ++ all_numbers (drop (run + 1) runs)) (drop_range before r.from r.count (omega arith));
      }

first_of : (number left : ℕ) {n : ℕ} (tail : List ℕ) {more : List ℕ} → 1 ≤ left → n ∷ more ≡ range_with_len number left ++ tail →
    (n ≡ number) × (more ≡ range_with_len (number + 1) (left - 1) ++ tail)
first_of number zero tail h e = absurd (omega arith)
first_of number (suc left) {n} tail {more} h e = let one : suc left - 1 ≡ left = omega arith in (head_is e, rw one (tail_is e)) where
  head_is : n ∷ more ≡ number ∷ (range_with_len (number + 1) left ++ tail) → n ≡ number
  head_is e = cc

  tail_is : n ∷ more ≡ number ∷ (range_with_len (number + 1) left ++ tail) → more ≡ range_with_len (number + 1) left ++ tail
  tail_is e = cc

module _ {runs : List NumberRun} {values : ℕ → ℕ} {w : Walk} (some : 1 ≤ w.left) where
  pub walk_value : (n : ℕ) (more : List ℕ) → IsWalk runs values w (n ∷ more) → w.value ≡ values n
  walk_value n more is =
      let f = first_of is.number w.left (all_numbers (drop w.run runs)) some is.rest_is in
      is.value ∙ ap values (sym f.0)

  pub walk_known : {rest : List ℕ} → IsWalk runs values w rest → IsValue values w.value
  walk_known is = record { number = is.number; is = is.value; fits = let fits = is.fits in omega arith }

  pub walk_next : (n v : ℕ) (more : List ℕ) → IsWalk runs values w (n ∷ more) → ((m : ℕ) → w.value ≡ values m → m + 1 < 2 ^ 64 → v ≡ values (m + 1)) →
      IsWalk runs values (record { run = w.run; left = w.left - 1; value = v }) more
  walk_next n v more is next =
      let f = first_of is.number w.left (all_numbers (drop w.run runs)) some is.rest_is in
      let fits = is.fits in
      record { number = is.number + 1; value = next is.number is.value (omega arith); fits = omega arith; rest_is = f.1 }

-- ---- some numbers of one run

module _ {runs : List NumberRun} {values : ℕ → ℕ} {w : Walk} (some : ℕ) {rest : List ℕ} (few : some ≤ w.left) (is : IsWalk runs values w rest) where
  on_run : drop some rest ≡ range_with_len (is.number + some) (w.left - some) ++ all_numbers (drop w.run runs)
  on_run =
      let long = length-range_with_len is.number w.left in
      ap (drop some) is.rest_is ∙ drop-append-le some (range_with_len is.number w.left) (all_numbers (drop w.run runs)) (omega arith) ∙ ap (λ x. x ++ all_numbers (drop w.run runs)) (drop_range some is.number w.left few)

  pub walk_on : (v : ℕ) → ((n : ℕ) → w.value ≡ values n → n + some < 2 ^ 64 → v ≡ values (n + some)) →
      IsWalk runs values (record { run = w.run; left = w.left - some; value = v }) (drop some rest)
  walk_on v next =
      let fits = is.fits in
      record { number = is.number + some; value = next is.number is.value (omega arith); fits = omega arith; rest_is = on_run }

  pub walk_first : IsFirstValue values w.value some
  walk_first = record { number = is.number; is = is.value; fits = let fits = is.fits in omega arith }

module _ {runs : List NumberRun} {values : ℕ → ℕ} {w : Walk} (place : ℕ) where
  pub walk_number : (numbers : List ℕ) (j : ℕ) → place + j < length numbers → j < w.left → (is : IsWalk runs values w (drop place numbers)) →
      slice_index numbers (place + j) ≡ is.number + j
  walk_number numbers j h less is =
      let few : j ≤ w.left = omega arith in
      let some : 1 ≤ w.left - j = omega arith in
      let whole : get_or numbers (place + j) 0 ∷ drop (place + j + 1) numbers ≡ range_with_len (is.number + j) (w.left - j) ++ all_numbers (drop w.run runs) =
      sym (drop_more numbers (place + j) 0 h) ∙ sym (drop-drop j place numbers) ∙ on_run j few is in
      (first_of (is.number + j) (w.left - j) (all_numbers (drop w.run runs)) some whole).0

  pub has_next : place < length (all_numbers runs) → IsWalk runs values w (drop place (all_numbers runs)) → HasNext runs values w
  has_next h is = record {
    next = get_or (all_numbers runs) place 0;
    more = drop (place + 1) (all_numbers runs);
    is = subst (IsWalk runs values w) (drop_more (all_numbers runs) place 0 h) is;
  }

-- the numbers of one run more
pub count_more : (runs : List NumberRun) (i : ℕ) (d : NumberRun) → i < length runs → (length (all_numbers (take i runs)) + (get_or runs i d).count ≡ length (all_numbers (take (i + 1) runs))) × (length
    (all_numbers (take (i + 1) runs)) ≤ length (all_numbers runs))
count_more runs i d h =
    let r : NumberRun = get_or runs i d in
    let own = length-range_with_len r.from r.count in
    let more : all_numbers (take (i + 1) runs) ≡ all_numbers (take i runs) ++ (run_numbers r ++ []) = ap all_numbers (take_more runs i d h) ∙ flat_map-append run_numbers (take i runs) (r ∷ []) in
    let sum : length (all_numbers (take (i + 1) runs)) ≡ length (all_numbers (take i runs)) + length (run_numbers r) =
    ap length more ∙ length-append (all_numbers (take i runs)) (run_numbers r ++ []) ∙ omega (arith, ap length (append-nil (run_numbers r))) in
    (omega arith, omega (arith, length-flat_map-take run_numbers runs i d h))
