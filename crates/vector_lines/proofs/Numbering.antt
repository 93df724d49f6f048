-- The numbers of the cells of a chain, in a stimulus and in a response.
use Rattle.std.proofs.Common.{◌≡◌, ℕ, zero, suc, ◌+◌, ◌-◌, ◌≤◌, ◌<◌, Bool, true, false, Some, List, [], ◌∷◌, ◌++◌, length, get_or, map, take, refl, ap, sym, ◌∙◌, arith, inl, inr, cond, append_assoc, slice_get, slice_index, All, sum, sum_by, count_by, flat_map}
use Rattle.std.specs.List.{range_with_len}
use Rattle.std.proofs.lemmas.List.{length-append, length-map, get_or-map, get_or_append_left, get_or-append_right, take_more, append-nil}
use Rattle.std.proofs.lemmas.List.FromFn.{length-range_with_len}
use Rattle.std.proofs.lemmas.Grind.{flat_map-append}
use Rattle.std.proofs.lemmas.List.Sums.{sum_by_more_le, sum_by-append, sum_by-cons}
use Rattle.std.proofs.lemmas.List.Elements.{All-get_or, All-append, All-map, All-nil}
use Rattle.plan_model.specs.Cells.{Cell, In, Flop, Out, is_loaded, is_read, in_length, out_length, in_cells, out_cells, flops}
use Rattle.plan_model.proofs.CellOrder.{count_none, count_all}
use Rattle.vector_lines.specs.Places.{response_place, stimulus_place}
use Rattle.vector_lines.specs.Layouts.{IsStarts}
use Rattle.std.proofs.lemmas.Option.{same_Some}
use Rattle.plan_model.proofs.Lists.{from_append}
use Rattle.vector_lines.specs.Building.{flop_numbers, ArePaths}
use Rattle.vector_lines.specs.Paths.{IsChain, IsPath}
use Rattle.vector_lines.specs.Numbers.{all_numbers}
use Rattle.vector_lines.specs.declared.numbers.NumberRun.{NumberRun}
use Rattle.vector_lines.specs.declared.path.Path.{Path}
use Rattle.common_lemmas.proofs.Lists.{map_append, map_twice, any_default}

-- ---- pushed numbers

pub length-flop_numbers : (base : ℕ) (lengths scans : List ℕ) → length (flat_map (flop_numbers base lengths) scans) ≡ sum_by (slice_index lengths) scans
length-flop_numbers base lengths [] = refl
length-flop_numbers base lengths (c ∷ cs) =
    length-append (flop_numbers base lengths c) (flat_map (flop_numbers base lengths) cs)
    ∙ omega (arith, length-range_with_len (base + sum (take c lengths)) (slice_index lengths c), length-flop_numbers base lengths cs, sum_by-cons (slice_index lengths) c cs)

pub scans_more : (old : List ℕ) {now new : List ℕ} (f : ℕ → List ℕ) (scans : List ℕ) (k c : ℕ) → k < length scans → c ≡ get_or scans k 0 →
    now ≡ old ++ flat_map f (take k scans) → new ≡ now ++ f c → new ≡ old ++ flat_map f (take (k + 1) scans)
scans_more old f scans k c h at before pushed =
    let more : flat_map f (take (k + 1) scans) ≡ flat_map f (take k scans) ++ f c = ap (flat_map f) (take_more scans k 0 h) ∙ flat_map-append f (take k scans) (get_or scans k 0 ∷ [])
    ∙ ap (λ v. flat_map f (take k scans) ++ v) (append-nil (f (get_or scans k 0)) ∙ ap f (sym at)) in
    pushed ∙ rw (before, append_assoc) (ap (λ v. old ++ v) (sym more))

pub start_fits : {lengths starts : List ℕ} (c : ℕ) {x : ℕ} → IsStarts lengths starts → c < length lengths → x ≡ get_or starts c x →
    (x ≡ sum (take c lengths)) × (x + slice_index lengths c ≤ sum lengths)
start_fits {lengths} {starts} c {x} is h at =
    let start : x ≡ sum (take c lengths) = at ∙ any_default starts c x 0 (omega arith) ∙ is.start c h in
    let all = sum_by_more_le (λ x. x) lengths c 0 h in
    (start, omega arith)

-- ---- what the cells of a chain are

pub ins_loaded : (i n : ℕ) → All (λ x. is_loaded x ≡ true) (in_cells i n)
ins_loaded i n = All-map (λ x. is_loaded x ≡ true) (λ k. In k) (range_with_len i n) (λ k d h. refl)

ins_unread : (i n : ℕ) → All (λ x. is_read x ≡ false) (in_cells i n)
ins_unread i n = All-map (λ x. is_read x ≡ false) (λ k. In k) (range_with_len i n) (λ k d h. refl)

pub outs_unloaded : (o n : ℕ) → All (λ x. is_loaded x ≡ false) (out_cells o n)
outs_unloaded o n = All-map (λ x. is_loaded x ≡ false) (λ k. Out k) (range_with_len o n) (λ k d h. refl)

outs_read : (o n : ℕ) → All (λ x. is_read x ≡ true) (out_cells o n)
outs_read o n = All-map (λ x. is_read x ≡ true) (λ k. Out k) (range_with_len o n) (λ k d h. refl)

pub flops_loaded : (lengths scans : List ℕ) → All (λ x. is_loaded x ≡ true) (flat_map (flops lengths) scans)
flops_loaded lengths [] = All-nil (λ x. is_loaded x ≡ true)
flops_loaded lengths (c ∷ cs) = All-append (λ x. is_loaded x ≡ true) (flops lengths c) (flat_map (flops lengths) cs) (All-map (λ x. is_loaded x ≡ true) (λ i. Flop c i) (range_with_len 0 (slice_index lengths c)) (λ k d h. refl))
    (flops_loaded lengths cs)

flops_read : (lengths scans : List ℕ) → All (λ x. is_read x ≡ true) (flat_map (flops lengths) scans)
flops_read lengths [] = All-nil (λ x. is_read x ≡ true)
flops_read lengths (c ∷ cs) = All-append (λ x. is_read x ≡ true) (flops lengths c) (flat_map (flops lengths) cs) (All-map (λ x. is_read x ≡ true) (λ i. Flop c i) (range_with_len 0 (slice_index lengths c)) (λ k d h. refl)) (flops_read lengths cs)

-- ---- a chain in three parts

-- input cells, flops and output cells
record Parts (a b c : List Cell) : Type 0 where
  pub ins_in : All (λ x. is_loaded x ≡ true) a
  pub ins_out : All (λ x. is_read x ≡ false) a
  pub mid_in : All (λ x. is_loaded x ≡ true) b
  pub mid_out : All (λ x. is_read x ≡ true) b
  pub outs_in : All (λ x. is_loaded x ≡ false) c
  pub outs_out : All (λ x. is_read x ≡ true) c

count_split : (p : Cell → Bool) (a b : List Cell) → count_by p (a ++ b) ≡ count_by p a + count_by p b
count_split p a b = sum_by-append (λ x. cond (p x) 1 0) a b

module _ (a b c : List Cell) where
  in_is : Parts a b c → in_length (a ++ b ++ c) ≡ length a + length b
  in_is is = count_split is_loaded (a ++ b) c ∙ omega (arith, count_split is_loaded a b, count_all is_loaded a is.ins_in, count_all is_loaded b is.mid_in, count_none is_loaded c is.outs_in)

  out_is : Parts a b c → out_length (a ++ b ++ c) ≡ length b + length c
  out_is is = count_split is_read (a ++ b) c ∙ omega (arith, count_split is_read a b, count_none is_read a is.ins_out, count_all is_read b is.mid_out, count_all is_read c is.outs_out)

  long_is : length (a ++ b ++ c) ≡ length a + length b + length c
  long_is = length-append (a ++ b) c ∙ omega (arith, length-append a b)

  front_at : (r : ℕ) → r < length a + length b → get_or (a ++ b ++ c) r (In 0) ≡ get_or (a ++ b) r (In 0)
  front_at r h = get_or_append_left (a ++ b) c (In 0) r (omega (arith, length-append a b))

  back_at : (r q : ℕ) → r ≡ length a + q → get_or (a ++ b ++ c) r (In 0) ≡ get_or (b ++ c) q (In 0)
  back_at r q e =
      let number : r - length a ≡ q = omega arith in
      ap (λ v. get_or v r (In 0)) (append_assoc a b c) ∙ get_or-append_right a (b ++ c) (length a) r (In 0) refl (omega arith) ∙ rw number refl

  chain_parts : Parts a b c → IsChain (a ++ b ++ c)
  chain_parts is = record {
    in_fit = omega (arith, i, n);
    out_fit = omega (arith, o, n);
    loaded = λ r h. rw (front_at r (omega (arith, i))) (All-get_or (λ x. is_loaded x ≡ true) (a ++ b) r (In 0) (omega (arith, i, length-append a b)) (All-append (λ x. is_loaded x ≡ true) a b is.ins_in is.mid_in));
    unloaded = λ r h h'. rw (get_or-append_right (a ++ b) c (length a + length b) r (In 0) (length-append a b) (omega (arith, i))) (All-get_or (λ x. is_loaded x ≡ false) c (r - (length a + length b)) (In 0) (omega (arith, i, n)) is.outs_in);
    unread = λ r h.
        rw (front_at r (omega (arith, o, n)), get_or_append_left a b (In 0) r (omega (arith, o, n))) (All-get_or (λ x. is_read x ≡ false) a r (In 0) (omega (arith, o, n)) is.ins_out);
    read = λ r h h'.
        rw (back_at r (r - length a) (omega (arith, o, n))) (All-get_or (λ x. is_read x ≡ true) (b ++ c) (r - length a) (In 0) (omega (arith, o, n, length-append b c)) (All-append (λ x. is_read x ≡ true) b c is.mid_out is.outs_out));
  }
    where
      i : in_length (a ++ b ++ c) ≡ length a + length b
      i = in_is is

      o : out_length (a ++ b ++ c) ≡ length b + length c
      o = out_is is

      n : length (a ++ b ++ c) ≡ length a + length b + length c
      n = long_is

-- ---- the numbers of the cells

shifted_range : (a b n : ℕ) → map (λ k. a + k) (range_with_len b n) ≡ range_with_len (a + b) n
shifted_range a b zero = refl
shifted_range a b (suc n) = let e : a + b + 1 ≡ a + (b + 1) = omega arith in rw e (ap (λ v. (a + b) ∷ v) (shifted_range a (b + 1) n))

map_itself : (xs : List ℕ) → map (λ k. k) xs ≡ xs
map_itself [] = refl
map_itself (x ∷ xs) = ap (λ v. x ∷ v) (map_itself xs)

module _ (lengths : List ℕ) where
  pub ins_numbers : (inputs i n : ℕ) → map (stimulus_place inputs lengths) (in_cells i n) ≡ range_with_len i n
  ins_numbers inputs i n = map_twice (stimulus_place inputs lengths) (λ k. In k) (range_with_len i n) ∙ map_itself (range_with_len i n)

  outs_numbers : (o n : ℕ) → map (response_place lengths) (out_cells o n) ≡ range_with_len (sum lengths + o) n
  outs_numbers o n = map_twice (response_place lengths) (λ k. Out k) (range_with_len o n) ∙ shifted_range (sum lengths) o n

  pub flop_loads : (inputs : ℕ) (scans : List ℕ) →
      map (stimulus_place inputs lengths) (flat_map (flops lengths) scans) ≡ flat_map (flop_numbers inputs lengths) scans
  flop_loads inputs [] = refl
  flop_loads inputs (c ∷ cs) =
      map_append (stimulus_place inputs lengths) (flops lengths c) (flat_map (flops lengths) cs)
      ∙ rw (here, flop_loads inputs cs) refl
    where
      same : (n k : ℕ) → map (λ i. inputs + (sum (take c lengths) + i)) (range_with_len k n) ≡ range_with_len (inputs + sum (take c lengths) + k) n
      same zero k = refl
      same (suc n) k =
          let e : inputs + (sum (take c lengths) + k) ≡ inputs + sum (take c lengths) + k = omega arith in
          let f : inputs + sum (take c lengths) + (k + 1) ≡ inputs + sum (take c lengths) + k + 1 = omega arith in
          rw (e, same n (k + 1), f) refl

      none : inputs + sum (take c lengths) + 0 ≡ inputs + sum (take c lengths)
      none = omega arith

      here : map (stimulus_place inputs lengths) (flops lengths c) ≡ flop_numbers inputs lengths c
      here = map_twice (stimulus_place inputs lengths) (λ i. Flop c i) (range_with_len 0 (slice_index lengths c)) ∙ same (slice_index lengths c) 0 ∙ rw none refl

  pub flop_answers : (scans : List ℕ) → map (response_place lengths) (flat_map (flops lengths) scans) ≡ flat_map (flop_numbers 0 lengths) scans
  flop_answers [] = refl
  flop_answers (c ∷ cs) =
      map_append (response_place lengths) (flops lengths c) (flat_map (flops lengths) cs) ∙ rw (here, flop_answers cs) refl
    where
      start : sum (take c lengths) + 0 ≡ 0 + sum (take c lengths)
      start = omega arith

      here : map (response_place lengths) (flops lengths c) ≡ flop_numbers 0 lengths c
      here = map_twice (response_place lengths) (λ i. Flop c i) (range_with_len 0 (slice_index lengths c)) ∙ shifted_range (sum (take c lengths)) 0 (slice_index lengths c) ∙ rw start refl

  -- a chain of these parts
  path_parts : (inputs : ℕ) (a b c : List Cell) (p : Path) → Parts a b c → p.loads ≡ map (stimulus_place inputs lengths) (a ++ b) →
      p.answers ≡ map (response_place lengths) (b ++ c) → p.cells ≡ length p.loads + length c → IsPath inputs lengths (a ++ b ++ c) p
  path_parts inputs a b c p is loads answers all = record {
    chain = chain_parts a b c is;
    long = omega (arith, n, l);
    loads_long = l ∙ sym (in_is a b c is);
    load = λ r h.
        let less : r < length a + length b = omega (arith, in_is a b c is) in
        rw (loads, get_or-map (stimulus_place inputs lengths) (a ++ b) r (In 0) 0 (omega (arith, length-append a b)), front_at a b c r less) refl;
    answers_long = ap length answers ∙ length-map (b ++ c) (response_place lengths) ∙ length-append b c ∙ sym (out_is a b c is);
    answer = λ r q e h.
        let place : r ≡ length a + q = omega (arith, n, out_is a b c is) in
        let less : q < length b + length c = omega (arith, n) in
        rw (answers, get_or-map (response_place lengths) (b ++ c) q (In 0) 0 (omega (arith, length-append b c)), back_at a b c r q place) refl;
  }
    where
      n : length (a ++ b ++ c) ≡ length a + length b + length c
      n = long_is a b c

      l : length p.loads ≡ length a + length b
      l = ap length loads ∙ length-map (a ++ b) (stimulus_place inputs lengths) ∙ length-append a b

  pub new_path : (inputs i o ins outs : ℕ) {from : ℕ} (scans : List ℕ) (p : Path) →
      p.loads ≡ range_with_len i ins ++ flat_map (flop_numbers inputs lengths) scans →
      p.answers ≡ flat_map (flop_numbers 0 lengths) scans ++ range_with_len from outs → from ≡ sum lengths + o → p.cells ≡ length p.loads + outs →
      IsPath inputs lengths (in_cells i ins ++ flat_map (flops lengths) scans ++ out_cells o outs) p
  new_path inputs i o ins outs scans p loads answers start all =
      path_parts inputs (in_cells i ins) (flat_map (flops lengths) scans) (out_cells o outs) p
      (record { ins_in = ins_loaded i ins; ins_out = ins_unread i ins; mid_in = flops_loaded lengths scans; mid_out = flops_read lengths scans; outs_in = outs_unloaded o outs; outs_out = outs_read o outs }) (loads
      ∙ sym (map_append (stimulus_place inputs lengths) (in_cells i ins) (flat_map (flops lengths) scans) ∙ rw (ins_numbers inputs i ins, flop_loads inputs scans) refl)) (answers
      ∙ sym (map_append (response_place lengths) (flat_map (flops lengths) scans) (out_cells o outs)
      ∙ rw (flop_answers scans, outs_numbers o outs, start) refl)) (omega (arith, all, length-map (range_with_len o outs) (λ k. Out k), length-range_with_len o outs))

module _ (inputs : ℕ) (lengths : List ℕ) (chains : List (List Cell)) {paths : List Path} where
  -- no chain yet
  pub no_paths : paths ≡ [] → ArePaths inputs lengths chains 0 paths
  no_paths none = rw none (record { long = refl; each = λ j p at. absurd cc })

  -- one chain more
  pub paths_more : {n : ℕ} {new : List Path} {p : Path} → ArePaths inputs lengths chains n paths → new ≡ paths ++ p ∷ [] →
      IsPath inputs lengths (get_or chains n []) p → ArePaths inputs lengths chains (n + 1) new
  paths_more {n} {p} are pushed is = rw pushed (record {
    long = length-append paths (p ∷ []) ∙ omega (arith, are.long);
    each = λ j q at. elim (from_append paths (p ∷ []) j q at) [
      | inl old ↦ are.each j q old
      | inr last ↦ the_last j q last.0 last.1 last.2
    ];
  })
    where
      the_last : (j : ℕ) (q : Path) (k : ℕ) → j ≡ length paths + k → slice_get (p ∷ []) k ≡ Some q → IsPath inputs lengths (get_or chains j []) q
      the_last j q zero place at =
          let here : n ≡ j = omega (arith, are.long) in
          let same = same_Some _ _ at in
          rw (← here, ← same) is
      the_last j q (suc k) place at = absurd cc

module _ {none : List NumberRun} (first all : List NumberRun) (from : ℕ) (lengths scans : List ℕ) (empty : none ≡ []) where
  -- how many numbers a chain loads, and how many it answers
  pub long_loads : (ins base : ℕ) → all_numbers first ≡ all_numbers none ++ range_with_len from ins →
      all_numbers all ≡ all_numbers first ++ flat_map (flop_numbers base lengths) scans →
      length (all_numbers all) ≡ ins + sum_by (slice_index lengths) scans
  long_loads ins base a b =
      let start : length (all_numbers none) ≡ 0 = ap (λ runs. length (all_numbers runs)) empty in
      let x = ap length a ∙ length-append (all_numbers none) (range_with_len from ins) in
      let y = ap length b ∙ length-append (all_numbers first) (flat_map (flop_numbers base lengths) scans) in
      omega (arith, start, length-range_with_len from ins, length-flop_numbers base lengths scans)

  pub long_answers : (outs : ℕ) → all_numbers first ≡ all_numbers none ++ flat_map (flop_numbers 0 lengths) scans →
      all_numbers all ≡ all_numbers first ++ range_with_len from outs → length (all_numbers all) ≡ outs + sum_by (slice_index lengths) scans
  long_answers outs a b =
      let start : length (all_numbers none) ≡ 0 = ap (λ runs. length (all_numbers runs)) empty in
      let x = ap length a ∙ length-append (all_numbers none) (flat_map (flop_numbers 0 lengths) scans) in
      let y = ap length b ∙ length-append (all_numbers first) (range_with_len from outs) in
      omega (arith, start, length-range_with_len from outs, length-flop_numbers 0 lengths scans)

pub length-loads : (base : ℕ) (lengths : List ℕ) (from ins : ℕ) (scans : List ℕ) → length (range_with_len from ins ++ flat_map (flop_numbers base lengths) scans) ≡ ins + sum_by (slice_index lengths) scans
length-loads base lengths from ins scans =
    length-append (range_with_len from ins) (flat_map (flop_numbers base lengths) scans) ∙ omega (arith, length-range_with_len from ins, length-flop_numbers base lengths scans)
