-- The cells of chains: how many are loaded and read, and that those that are read stand at the end.
use Rattle.std.proofs.Common.{◌≡◌, ℕ, zero, suc, ◌+◌, ◌-◌, ◌<◌, ◌≤◌, ◌⊎◌, inl, inr, Bool, true, false, cond, List, [], ◌∷◌, ◌++◌, length, get_or, refl, ap, ◌∙◌, sym, subst, arith}
use Rattle.std.specs.Prelude.{Some, slice_get, slice_index}
use Rattle.std.specs.List.{count_by, flat_map, range_with_len, All}
use Rattle.std.proofs.lemmas.Bool.{cases_lt}
use Rattle.std.proofs.lemmas.Option.{slice_get_within, get_or_from_slice_get}
use Rattle.std.proofs.lemmas.List.{length-append, get_or-append_right, get_or_append_left, append_assoc}
use Rattle.std.proofs.lemmas.List.Sums.{sum_by-cons, sum_by-append}
use Rattle.std.proofs.lemmas.List.Elements.{All-head, All-tail, All-append, All-map, All-get_or, All-nil}
use Rattle.plan_model.specs.Cells.{Cell, In, Flop, Out, ChainValue, is_loaded, is_read, in_length, out_length, in_cells, out_cells, flops, dealt}
use Rattle.plan_model.specs.OneTest.{ReadsEnd}

pub count_none : (p : Cell → Bool) (xs : List Cell) → All (λ x. p x ≡ false) xs → count_by p xs ≡ 0
count_none p [] h = refl
count_none p (x ∷ xs) h =
    let here : p x ≡ false = All-head (λ x. p x ≡ false) x xs h in
    let ih : count_by p xs ≡ 0 = count_none p xs (All-tail (λ x. p x ≡ false) x xs h) in
    sum_by-cons (λ x. cond (p x) 1 0) x xs ∙ rw here (omega arith)

pub count_all : (p : Cell → Bool) (xs : List Cell) → All (λ x. p x ≡ true) xs → count_by p xs ≡ length xs
count_all p [] h = refl
count_all p (x ∷ xs) h =
    let here : p x ≡ true = All-head (λ x. p x ≡ true) x xs h in
    let ih : count_by p xs ≡ length xs = count_all p xs (All-tail (λ x. p x ≡ true) x xs h) in
    sum_by-cons (λ x. cond (p x) 1 0) x xs ∙ rw here (omega arith)

pub reads_end : (ins rest : List Cell) → All (λ x. is_read x ≡ false) ins → All (λ x. is_read x ≡ true) rest → ReadsEnd (ins ++ rest)
reads_end ins rest a b r h =
    let n : out_length (ins ++ rest) ≡ count_by is_read ins + count_by is_read rest = sum_by-append (λ x. cond (is_read x) 1 0) ins rest in
    let none : count_by is_read ins ≡ 0 = count_none is_read ins a in
    let all : count_by is_read rest ≡ length rest = count_all is_read rest b in
    let long : length (ins ++ rest) ≡ length ins + length rest = length-append ins rest in
    let at : get_or (ins ++ rest) (length (ins ++ rest) - 1 - r) (In 0) ≡ get_or rest (length (ins ++ rest) - 1 - r - length ins) (In 0) =
    get_or-append_right ins rest (length ins) (length (ins ++ rest) - 1 - r) (In 0) refl (omega arith) in
    rw at (All-get_or (λ x. is_read x ≡ true) rest (length (ins ++ rest) - 1 - r - length ins) (In 0) (omega arith) b)

ins_unread : (i n : ℕ) → All (λ x. is_read x ≡ false) (in_cells i n)
ins_unread i n = All-map (λ x. is_read x ≡ false) (λ k. In k) (range_with_len i n) (λ k d h. refl)

outs_read : (o n : ℕ) → All (λ x. is_read x ≡ true) (out_cells o n)
outs_read o n = All-map (λ x. is_read x ≡ true) (λ k. Out k) (range_with_len o n) (λ k d h. refl)

flops_read : (lengths scans : List ℕ) → All (λ x. is_read x ≡ true) (flat_map (flops lengths) scans)
flops_read lengths [] = All-nil (λ x. is_read x ≡ true)
flops_read lengths (c ∷ cs) = All-append (λ x. is_read x ≡ true) (flops lengths c) (flat_map (flops lengths) cs) (All-map (λ x. is_read x ≡ true) (λ i. Flop c i) (range_with_len 0 (slice_index lengths c)) (λ k d h. refl)) (flops_read lengths cs)

pub dealt_reads_end : (lengths : List ℕ) (i o : ℕ) (cs : List ChainValue) (j : ℕ) → ReadsEnd (get_or (dealt lengths i o cs) j [])
dealt_reads_end lengths i o [] j r h = absurd (omega arith)
dealt_reads_end lengths i o (c ∷ cs) zero r h =
    subst (λ v. ReadsEnd v) (sym (append_assoc (in_cells i c.ins) (flat_map (flops lengths) c.scans) (out_cells o c.outs)))
    (reads_end (in_cells i c.ins) (flat_map (flops lengths) c.scans ++ out_cells o c.outs) (ins_unread i c.ins) (All-append (λ x. is_read x ≡ true) (flat_map (flops lengths) c.scans) (out_cells o c.outs) (flops_read lengths c.scans) (outs_read o c.outs))) r h
dealt_reads_end lengths i o (c ∷ cs) (suc j) r h = dealt_reads_end lengths (i + c.ins) (o + c.outs) cs j r h

pub length-dealt : (lengths : List ℕ) (i o : ℕ) (cs : List ChainValue) → length (dealt lengths i o cs) ≡ length cs
length-dealt lengths i o [] = refl
length-dealt lengths i o (c ∷ cs) = ap suc (length-dealt lengths (i + c.ins) (o + c.outs) cs)

-- the cells that are loaded stand at the front
abbrev pub LoadsFront : List Cell → Type 0
LoadsFront cells = (r : ℕ) (x : Cell) → slice_get cells r ≡ Some x → is_loaded x ≡ true → r < in_length cells

-- the cells that are read stand within the out-length from the end
abbrev pub ReadsBack : List Cell → Type 0
ReadsBack cells = (r : ℕ) (x : Cell) → slice_get cells r ≡ Some x → is_read x ≡ true → length cells - 1 - r < out_length cells

-- a cell of a joined list stands in the front or behind it
in_part : (P : Cell → Type 0) (front back : List Cell) (r : ℕ) (x : Cell) → All P back → slice_get (front ++ back) r ≡ Some x → (P x → ⊥) → r < length front
in_part P front back r x all at not' = go (cases_lt r (length front)) where
  go : (r < length front) ⊎ (length front ≤ r) → r < length front
  go (inl less) = less
  go (inr past) =
      let within : r < length (front ++ back) = slice_get_within (front ++ back) r x at in
      let long : length (front ++ back) ≡ length front + length back = length-append front back in
      let is : get_or (front ++ back) r (In 0) ≡ get_or back (r - length front) (In 0) = get_or-append_right front back (length front) r (In 0) refl past in
      absurd (not' (subst P (sym is ∙ get_or_from_slice_get (front ++ back) r x (In 0) at) (All-get_or P back (r - length front) (In 0) (omega arith) all)))

behind_part : (P : Cell → Type 0) (front back : List Cell) (r : ℕ) (x : Cell) → All P front → slice_get (front ++ back) r ≡ Some x → (P x → ⊥) → length front ≤ r
behind_part P front back r x all at not' = go (cases_lt r (length front)) where
  go : (r < length front) ⊎ (length front ≤ r) → length front ≤ r
  go (inl less) =
      let is : get_or (front ++ back) r (In 0) ≡ get_or front r (In 0) = get_or_append_left front back (In 0) r less in
      absurd (not' (subst P (sym is ∙ get_or_from_slice_get (front ++ back) r x (In 0) at) (All-get_or P front r (In 0) less all)))
  go (inr past) = past

pub loads_front : (front outs : List Cell) → All (λ x. is_loaded x ≡ true) front → All (λ x. is_loaded x ≡ false) outs → LoadsFront (front ++ outs)
loads_front front outs a b r x at loaded =
    let n : in_length (front ++ outs) ≡ count_by is_loaded front + count_by is_loaded outs = sum_by-append (λ x. cond (is_loaded x) 1 0) front outs in
    let all : count_by is_loaded front ≡ length front = count_all is_loaded front a in
    let here : r < length front = in_part (λ x. is_loaded x ≡ false) front outs r x b at (λ un. cc) in
    omega arith

pub reads_back : (ins rest : List Cell) → All (λ x. is_read x ≡ false) ins → All (λ x. is_read x ≡ true) rest → ReadsBack (ins ++ rest)
reads_back ins rest a b r x at read =
    let n : out_length (ins ++ rest) ≡ count_by is_read ins + count_by is_read rest = sum_by-append (λ x. cond (is_read x) 1 0) ins rest in
    let all : count_by is_read rest ≡ length rest = count_all is_read rest b in
    let long : length (ins ++ rest) ≡ length ins + length rest = length-append ins rest in
    let within : r < length (ins ++ rest) = slice_get_within (ins ++ rest) r x at in
    let here : length ins ≤ r = behind_part (λ x. is_read x ≡ false) ins rest r x a at (λ un. cc) in
    omega arith

ins_loaded : (i n : ℕ) → All (λ x. is_loaded x ≡ true) (in_cells i n)
ins_loaded i n = All-map (λ x. is_loaded x ≡ true) (λ k. In k) (range_with_len i n) (λ k d h. refl)

outs_unloaded : (o n : ℕ) → All (λ x. is_loaded x ≡ false) (out_cells o n)
outs_unloaded o n = All-map (λ x. is_loaded x ≡ false) (λ k. Out k) (range_with_len o n) (λ k d h. refl)

flops_loaded : (lengths scans : List ℕ) → All (λ x. is_loaded x ≡ true) (flat_map (flops lengths) scans)
flops_loaded lengths [] = All-nil (λ x. is_loaded x ≡ true)
flops_loaded lengths (c ∷ cs) = All-append (λ x. is_loaded x ≡ true) (flops lengths c) (flat_map (flops lengths) cs) (All-map (λ x. is_loaded x ≡ true) (λ i. Flop c i) (range_with_len 0 (slice_index lengths c)) (λ k d h. refl)) (flops_loaded lengths cs)

pub dealt_loads_front : (lengths : List ℕ) (i o : ℕ) (cs : List ChainValue) (j : ℕ) → LoadsFront (get_or (dealt lengths i o cs) j [])
dealt_loads_front lengths i o [] j r x at loaded = absurd cc
dealt_loads_front lengths i o (c ∷ cs) zero r x at loaded =
    loads_front (in_cells i c.ins ++ flat_map (flops lengths) c.scans) (out_cells o c.outs) (All-append (λ x. is_loaded x ≡ true) (in_cells i c.ins) (flat_map (flops lengths) c.scans) (ins_loaded i c.ins) (flops_loaded lengths c.scans)) (outs_unloaded o c.outs) r x at loaded
dealt_loads_front lengths i o (c ∷ cs) (suc j) r x at loaded = dealt_loads_front lengths (i + c.ins) (o + c.outs) cs j r x at loaded

pub dealt_reads_back : (lengths : List ℕ) (i o : ℕ) (cs : List ChainValue) (j : ℕ) → ReadsBack (get_or (dealt lengths i o cs) j [])
dealt_reads_back lengths i o [] j r x at read = absurd cc
dealt_reads_back lengths i o (c ∷ cs) zero r x at read =
    subst (λ v. ReadsBack v) (sym (append_assoc (in_cells i c.ins) (flat_map (flops lengths) c.scans) (out_cells o c.outs)))
    (reads_back (in_cells i c.ins) (flat_map (flops lengths) c.scans ++ out_cells o c.outs) (ins_unread i c.ins) (All-append (λ x. is_read x ≡ true) (flat_map (flops lengths) c.scans) (out_cells o c.outs) (flops_read lengths c.scans) (outs_read o c.outs))) r x at read
dealt_reads_back lengths i o (c ∷ cs) (suc j) r x at read = dealt_reads_back lengths (i + c.ins) (o + c.outs) cs j r x at read
