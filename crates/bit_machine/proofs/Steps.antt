-- The loops over chains and their parts, one step more.
use Rattle.std.proofs.Common.{◌≡◌, ℕ, zero, suc, ◌+◌, ◌-◌, ◌≤◌, ◌<◌, Bool, List, [], ◌∷◌, ◌++◌, length, get_or, map, take, drop, refl, ap, ◌∙◌, sym, arith, slice_index, sum, sum_by, flat_map}
use Rattle.std.proofs.Math.ListN.{set}
use Rattle.std.proofs.lemmas.List.{length-map, take_more, drop_more, length-take-le, set-append_right, append_assoc, append-nil, length-append}
use Rattle.std.proofs.lemmas.Grind.{flat_map-append}
use Rattle.plan_model.specs.Cells.{Cell, Flop, in_cells, flops}
use Rattle.plan_model.specs.Runs.{captured}
use Rattle.bit_machine.specs.Sessions.{each_with, response_bit}
use Rattle.bit_machine.proofs.EachWith.{length-each_with, each_with-past, each_with-more}
use Rattle.vector_lines.proofs.Responses.{AreRead, read_numbered}
use Rattle.bit_machine.proofs.Captures.{captured-more, flop_answers}
use Rattle.bit_machine.proofs.Layouts.{length-ins, length-flops, length-flop}
use Rattle.common_lemmas.proofs.Lists.{any_default}

-- ---- a list of chains

pub same_length : {X : Type 0} (f : X → List Bool → List Bool) (xs : List X) (before : List (List Bool)) {now : List (List Bool)} →
    now ≡ each_with f xs before → length now ≡ length before
same_length f xs before same = ap length same ∙ length-each_with f xs before

module _ {X : Type 0} (f : X → List Bool → List Bool) (xs : List X) (before : List (List Bool)) {now : List (List Bool)} (j : ℕ) (e : List Bool)
    (same : now ≡ each_with f (take j xs) before) where
  -- a chain that no step has reached
  pub item_before : j < length before → get_or now j e ≡ get_or before j []
  item_before h =
      let long = same_length f (take j xs) before same in
      any_default now j e [] (omega arith) ∙ ap (λ bits. get_or bits j []) same ∙ each_with-past f xs before j [] h

  -- one chain more
  pub step_chain : (d : X) (new : List Bool) → j < length xs → j < length before → new ≡ f (get_or xs j d) (get_or now j e) →
      set now j new ≡ each_with f (take (j + 1) xs) before
  step_chain d new h h' is =
      let next : j + 1 ≡ suc j = omega arith in
      let there : new ≡ f (get_or xs j d) (get_or before j []) = is ∙ ap (f (get_or xs j d)) (item_before h') in
      rw (same, there, next) (sym (each_with-more f xs before j d [] h h'))

-- what is filled from the front
pub step_map : {X Y : Type 0} (g : X → Y) (xs : List X) (ys : List Y) {now : List Y} (j : ℕ) (d : X) {y : Y} → j < length xs → j < length ys →
    now ≡ map g (take j xs) ++ drop j ys → y ≡ g (get_or xs j d) → set now j y ≡ map g (take (j + 1) xs) ++ drop (j + 1) ys
step_map g xs ys j d {y} h h' same new =
    let next : j + 1 ≡ suc j = omega arith in
    rw (same, new, next) (fill xs ys j h h')
  where
    fill : (xs : List _) (ys : List _) (j : ℕ) → j < length xs → j < length ys → set (map g (take j xs) ++ drop j ys) j (g (get_or xs j d)) ≡ map g (take (suc j) xs) ++ drop (suc j) ys
    fill [] ys j h h' = absurd (omega arith)
    fill (x ∷ xs) [] j h h' = absurd (omega arith)
    fill (x ∷ xs) (y ∷ ys) zero h h' = refl
    fill (x ∷ xs) (y ∷ ys) (suc j) h h' = ap (λ v. g x ∷ v) (fill xs ys j (omega arith) (omega arith))

-- one bit more of an answer
pub put_more : (old : List Bool) {now new : List Bool} (answer : List Bool) (at place : ℕ) {b : Bool} → place < length answer →
    at + length answer ≤ length old → b ≡ get_or answer place b → new ≡ set now (at + place) b →
    now ≡ take at old ++ take place answer ++ drop (at + place) old → new ≡ take at old ++ take (place + 1) answer ++ drop (at + (place + 1)) old
put_more old answer at place {b} h fits is put same =
    let front : length (take at old ++ take place answer) ≡ at + place = length-append (take at old) (take place answer) ∙ omega (arith, length-take-le at old (omega arith), length-take-le place answer (omega arith)) in
    let none : at + place - (at + place) ≡ 0 = omega arith in
    let next : at + place + 1 ≡ at + (place + 1) = omega arith in
    let rest : set (drop (at + place) old) 0 b ≡ b ∷ drop (at + place + 1) old = ap (λ l. set l 0 b) (drop_more old (at + place) b (omega arith)) in
    let more : take (place + 1) answer ≡ take place answer ++ b ∷ [] = take_more answer place b h ∙ ap (λ x. take place answer ++ x ∷ []) (sym is) in
    put ∙ ap (λ l. set l (at + place) b) same
    ∙ set-append_right (take at old ++ take place answer) (drop (at + place) old) (at + place) (at + place) b front (omega arith)
    ∙ rw none (ap (λ l. (take at old ++ take place answer) ++ l) (rest ∙ ap (λ n. b ∷ drop n old) next)
    ∙ rw more (sym (append_assoc (take at old ++ take place answer) (b ∷ []) (drop (at + (place + 1)) old)) ∙ ap (λ l. l ++ drop (at + (place + 1)) old) (append_assoc (take at old) (take place answer) (b ∷ []))))

-- ---- the parts of one chain

module _ (before : List Bool) {now next answer : List Bool} {at : ℕ} (n : ℕ) (new : next ≡ take at now ++ answer ++ drop (at + length answer) now) where
  -- the answer of one more part, all cells of which are read
  pub step_part : (f : Cell → Bool) (xs ys : List Cell) → AreRead ys → length xs ≡ at → length ys ≡ n → map f ys ≡ answer → at + n ≤ length before →
      now ≡ captured f xs before → next ≡ captured f (xs ++ ys) before
  step_part f xs ys read long long' answers fits same =
      let size : length answer ≡ n = sym (ap length answers) ∙ length-map ys f ∙ long' in
      new ∙ rw (size, same, ← long, ← long', ← answers) (sym (captured-more f xs ys before read (omega arith)))

  -- one scan chain more
  pub step_scan : (lengths : List ℕ) (response : List Bool) (scans : List ℕ) (i ins k start : ℕ) → k < length scans →
      at ≡ ins + sum_by (slice_index lengths) (take k scans) → start ≡ sum (take (slice_index scans k) lengths) →
      n ≡ slice_index lengths (slice_index scans k) → start + n ≤ length response → at + n ≤ length before → answer ≡ take n (drop start response) →
      now ≡ captured (response_bit lengths response) (in_cells i ins ++ flat_map (flops lengths) (take k scans)) before →
      next ≡ captured (response_bit lengths response) (in_cells i ins ++ flat_map (flops lengths) (take (k + 1) scans)) before
  step_scan lengths response scans i ins k start h there starts size fits fits' cut same =
      let c : ℕ = slice_index scans k in
      let front : List Cell = in_cells i ins ++ flat_map (flops lengths) (take k scans) in
      let long : length (in_cells i ins ++ flat_map (flops lengths) (take k scans)) ≡ at =
      length-append (in_cells i ins) (flat_map (flops lengths) (take k scans)) ∙ omega (arith, length-ins i ins, length-flops lengths (take k scans)) in
      let long' : length (flops lengths (slice_index scans k)) ≡ n = length-flop lengths (slice_index scans k) ∙ sym size in
      let answers : map (response_bit lengths response) (flops lengths (slice_index scans k)) ≡ answer =
      flop_answers lengths response (slice_index scans k) starts (omega arith) ∙ rw (← size) (sym cut) in
      let step : next ≡ captured (response_bit lengths response) ((in_cells i ins ++ flat_map (flops lengths) (take k scans)) ++ flops lengths (slice_index scans k)) before =
      step_part (response_bit lengths response) (in_cells i ins ++ flat_map (flops lengths) (take k scans)) (flops lengths (slice_index scans k))
      (read_numbered (λ i. Flop (slice_index scans k) i) (λ i. refl) 0 (slice_index lengths (slice_index scans k))) long long' answers fits' same in
      let more : flat_map (flops lengths) (take (k + 1) scans) ≡ flat_map (flops lengths) (take k scans) ++ flops lengths (slice_index scans k) =
      ap (flat_map (flops lengths)) (take_more scans k 0 h) ∙ flat_map-append (flops lengths) (take k scans) (slice_index scans k ∷ []) ∙ ap (λ v. flat_map (flops lengths) (take k scans) ++ v) (append-nil (flops lengths (slice_index scans k))) in
      step ∙ ap (λ v. captured (response_bit lengths response) v before) (append_assoc (in_cells i ins) (flat_map (flops lengths) (take k scans)) (flops lengths (slice_index scans k)) ∙ ap (λ v. in_cells i ins ++ v) (sym more))
