-- A chain over any operations, with any driven bits.
use Rattle.std.proofs.Common.{◌≡◌, ℕ, zero, suc, ◌+◌, ◌-◌, ◌≤◌, ◌<◌, Bool, true, false, Option, Some, None, List, [], ◌∷◌, length, map, take, drop, reverse, get_or, refl, ap, ◌∙◌, sym, arith, nat_eq, cond, slice_get, count_by}
use Rattle.std.proofs.lemmas.List.{length-map}
use Rattle.std.proofs.lemmas.Bool.{eq-eqb}
use Rattle.std.proofs.lemmas.Option.{slice_get-get_or, slice_get_within, get_or_from_slice_get}
use Rattle.std.proofs.lemmas.List.Sums.{count_by-le-length}
use Rattle.plan_model.specs.Cells.{Cell, In, Flop, Out, is_loaded, is_read, in_length, out_length}
use Rattle.plan_model.specs.Operations.{Operation, Setup, Shift, Capture, SelfTest}
use Rattle.plan_model.specs.Runs.{captured, next_bits, last_bit}
use Rattle.plan_model.specs.OneTest.{ReadsEnd}
use Rattle.plan_model.proofs.ChainShifts.{at_head, length-next_bits, shifted, shifted_in, get_or-captured}
use Rattle.plan_model.proofs.CellOrder.{LoadsFront}
use Rattle.plan_model.proofs.LawOfOneTest.{reverse_is}
use Rattle.shift_program.specs.RightPrograms.{TestContent, bits_before, is_shift}
use Rattle.shift_program.specs.Faults.{shifts_since}
use Rattle.shift_program.proofs.Blocks.{ShiftAt, rest_of, since_more, past_end}
use Rattle.common_lemmas.proofs.Lists.{count_cons}

none_at : {X : Type 0} (i : ℕ) → slice_get {X = X} [] i ≡ None
none_at zero = refl
none_at (suc i) = refl

-- the number of Shifts before the next capture, and its pattern
abbrev next_capture : List Operation → Option (ℕ × ℕ)
next_capture [] = None
next_capture (Shift ∷ ops) = one_more (next_capture ops) where
  one_more : Option (ℕ × ℕ) → Option (ℕ × ℕ)
  one_more None = None
  one_more (Some a) = Some (suc a.0, a.1)
next_capture (Capture k ∷ ops) = Some (0, k)
next_capture (Setup ∷ ops) = next_capture ops
next_capture (SelfTest ∷ ops) = next_capture ops

-- the bit for the cell that a Shift's bit comes to
abbrev bit_for : (ℕ → Cell → Bool) → List Cell → Option (ℕ × ℕ) → Bool
bit_for stimulus cells None = false
bit_for stimulus cells (Some a) = stimulus a.1 (get_or cells a.0 (In 0))

abbrev pub driven : (ℕ → Cell → Bool) → List Cell → List Operation → ℕ → Bool
driven stimulus cells ops n = bit_for stimulus cells (next_capture (drop (suc n) ops))

head_is : (ops : List Operation) (n : ℕ) (o : Operation) → slice_get ops n ≡ Some o → (rest : List Operation) × (drop n ops ≡ o ∷ rest)
head_is [] n o e = absurd cc
head_is (x ∷ ops) zero o e = let same : x ≡ o = cc in (ops, ap (λ v. v ∷ ops) same)
head_is (x ∷ ops) (suc n) o e = head_is ops n o e

module _ (content : TestContent) (cells : List Cell) (ops : List Operation) where
  abbrev driving : ℕ → Bool
  driving = driven content.stimulus cells ops

  abbrev loaded_bits : ℕ → List Bool
  loaded_bits = bits_before content cells ops driving

  module _ (drive : ℕ → Bool) where
    pub length-bits_before : (n : ℕ) → length (bits_before content cells ops drive n) ≡ length cells
    unfolding bits_before
    length-bits_before zero = length-map cells content.initial
    length-bits_before (suc n) =
        length-next_bits content.response cells (slice_get ops n) (drive n) (bits_before content cells ops drive n) ∙ length-bits_before n

    pub bits_more : (n : ℕ) → bits_before content cells ops drive (suc n) ≡ next_bits content.response cells (slice_get ops n) (drive n) (bits_before content cells ops drive n)
    unfolding bits_before
    bits_more n = refl

    -- the bits after an operation that is known
    bits_after_it : (n : ℕ) (o : Option Operation) → slice_get ops n ≡ o →
        bits_before content cells ops drive (suc n) ≡ next_bits content.response cells o (drive n) (bits_before content cells ops drive n)
    bits_after_it n o e = bits_more n ∙ ap (λ v. next_bits content.response cells v (drive n) (bits_before content cells ops drive n)) e

  -- ---- loads: what is to be driven

  -- With `s` Shifts to go before Capture `k`, each cell that a Shift since the last capture has reached holds the stimulus of
  -- the cell `s` places on.
  abbrev Holds : ℕ → Type 0
  Holds n =
      (s k i : ℕ) → next_capture (drop n ops) ≡ Some (s, k) → i < shifts_since 0 (take n ops) → s + i < length cells →
      get_or (loaded_bits n) i false ≡ content.stimulus k (get_or cells (s + i) (In 0))

  module _ (n : ℕ) where
    -- one operation more
    shift_holds : (rest : List Operation) → drop n ops ≡ Shift ∷ rest → Holds n → Holds (suc n)
    shift_holds rest e before s k i next few within = moved i few within
      where
        bits : List Bool
        bits = loaded_bits n

        here : slice_get ops n ≡ Some Shift
        here = (at_head ops n Shift rest e).0

        left : drop (suc n) ops ≡ rest
        left = (at_head ops n Shift rest e).1

        long : length (loaded_bits n) ≡ length cells
        long = length-bits_before driving n

        since : shifts_since 0 (take (suc n) ops) ≡ suc (shifts_since 0 (take n ops))
        since = since_more 0 ops n Shift rest e

        next_rest : next_capture rest ≡ Some (s, k)
        next_rest = sym (ap next_capture left) ∙ next

        ahead : next_capture (drop n ops) ≡ Some (suc s, k)
        ahead = ap next_capture e ∙ rw next_rest refl

        moved : (i : ℕ) → i < shifts_since 0 (take (suc n) ops) → s + i < length cells → get_or (loaded_bits (suc n)) i false ≡ content.stimulus k (get_or cells (s + i) (In 0))
        moved zero few within =
            let none : s + 0 ≡ s = omega arith in
            ap (λ v. get_or v 0 false) (bits_after_it driving n (Some Shift) here)
            ∙ shifted_in (loaded_bits n) (driving n) (omega (arith, long))
            ∙ ap (bit_for content.stimulus cells) next ∙ rw none refl
        moved (suc i) few within =
            let on : s + suc i ≡ suc s + i = omega arith in
            ap (λ v. get_or v (suc i) false) (bits_after_it driving n (Some Shift) here)
            ∙ shifted (loaded_bits n) (driving n) i (omega (arith, long))
            ∙ before (suc s) k i ahead (omega (arith, since, few)) (omega (arith, on, within)) ∙ rw on refl

    step_holds : (l : List Operation) → drop n ops ≡ l → Holds n → Holds (suc n)
    step_holds [] e before s k i next few within =
        let none = ap next_capture ((past_end ops n e).1) in
        absurd cc
    step_holds (Shift ∷ rest) e before s k i next few within = shift_holds rest e before s k i next few within
    step_holds (Capture c ∷ rest) e before s k i next few within =
        let since = since_more 0 ops n (Capture c) rest e in
        absurd (omega arith)
    step_holds (Setup ∷ rest) e before s k i next few within =
        let here = at_head ops n Setup rest e in
        let since = since_more 0 ops n Setup rest e in
        ap (λ v. get_or v i false) (bits_after_it driving n (Some Setup) here.0)
        ∙ before s k i (ap next_capture e ∙ sym (ap next_capture here.1) ∙ next) (omega arith) within
    step_holds (SelfTest ∷ rest) e before s k i next few within =
        let here = at_head ops n SelfTest rest e in
        let since = since_more 0 ops n SelfTest rest e in
        ap (λ v. get_or v i false) (bits_after_it driving n (Some SelfTest) here.0)
        ∙ before s k i (ap next_capture e ∙ sym (ap next_capture here.1) ∙ next) (omega arith) within

  holds : (n : ℕ) → Holds n
  holds zero = λ s k i next few within. absurd (omega arith)
  holds (suc n) = step_holds n (drop n ops) refl (holds n)

  -- after enough Shifts the cells that are loaded hold the stimulus as it is captured
  pub loaded : (n k r : ℕ) (x : Cell) → LoadsFront cells → in_length cells ≤ shifts_since 0 (take n ops) →
      slice_get ops n ≡ Some (Capture k) → slice_get cells r ≡ Some x → is_loaded x ≡ true →
      slice_get (loaded_bits n) r ≡ Some (content.stimulus k x)
  loaded n k r x front enough captures there loads =
      let within = slice_get_within cells r x there in
      let among = front r x there loads in
      let long = length-bits_before driving n in
      let h = head_is ops n (Capture k) captures in
      let none : 0 + r ≡ r = omega arith in
      slice_get-get_or (loaded_bits n) r false (omega arith)
      ∙ ap Some (holds n 0 k r (ap next_capture h.1) (omega arith) (omega arith) ∙ rw none (ap (content.stimulus k) (get_or_from_slice_get cells r x (In 0) there)))

  -- ---- reads

  module _ (drive : ℕ → Bool) where
    -- `i` Shifts, and no capture, move a bit `i` places on
    pub moved_on : (rest : List Operation) (base q i p m : ℕ) → drop base ops ≡ rest → ShiftAt rest i q → base + q ≡ m → p + i < length cells →
        get_or (bits_before content cells ops drive m) (p + i) false ≡ get_or (bits_before content cells ops drive base) p false
    moved_on [] base q i p m e s at_m within = let shifts = s.shifts in absurd cc
    moved_on (o ∷ rest) base zero i p m e s at_m within =
        let here : base ≡ m = omega arith in
        let same : p + i ≡ p = omega arith in
        rw (same, ← here) refl
    moved_on (Shift ∷ rest) base (suc q) i p m e s at_m within =
        let r = rest_of Shift rest i q s in
        let number = r.1 in
        let h = at_head ops base Shift rest e in
        let long = length-bits_before drive base in
        let on : p + i ≡ suc p + count_by is_shift (take q rest) = omega arith in
        rw on
        (moved_on rest (suc base) q (count_by is_shift (take q rest)) (suc p) m h.1 (record { shifts = s.shifts; number = refl; no_capture = r.2 }) (omega arith) (omega arith)
        ∙ ap (λ v. get_or v (suc p) false) (bits_after_it drive base (Some Shift) h.0)
        ∙ shifted (bits_before content cells ops drive base) (drive base) p (omega arith))
    moved_on (Capture k ∷ rest) base (suc q) i p m e s at_m within =
        let r = rest_of (Capture k) rest i q s in
        absurd cc
    moved_on (Setup ∷ rest) base (suc q) i p m e s at_m within =
        let r = rest_of Setup rest i q s in
        let number = r.1 in
        let same : count_by is_shift (take q rest) ≡ i = omega arith in
        let h = at_head ops base Setup rest e in
        moved_on rest (suc base) q i p m h.1 (record { shifts = s.shifts; number = same; no_capture = r.2 }) (omega arith) within
        ∙ ap (λ v. get_or v p false) (bits_after_it drive base (Some Setup) h.0)
    moved_on (SelfTest ∷ rest) base (suc q) i p m e s at_m within =
        let r = rest_of SelfTest rest i q s in
        let number = r.1 in
        let same : count_by is_shift (take q rest) ≡ i = omega arith in
        let h = at_head ops base SelfTest rest e in
        moved_on rest (suc base) q i p m h.1 (record { shifts = s.shifts; number = same; no_capture = r.2 }) (omega arith) within
        ∙ ap (λ v. get_or v p false) (bits_after_it drive base (Some SelfTest) h.0)

    -- the Shifts behind a capture show its response, the last cell first
    pub shown : (n k i q m : ℕ) (x : Cell) → ReadsEnd cells → i < out_length cells → slice_get ops n ≡ Some (Capture k) →
        ShiftAt (drop (suc n) ops) i q → suc n + q ≡ m → slice_get (reverse cells) i ≡ Some x → last_bit (bits_before content cells ops drive m) ≡ content.response k x
    shown n k i q m x ends few captures s at_m there =
        let least = count_by-le-length is_read cells in
        let long = length-bits_before drive m in
        let long' = length-bits_before drive n in
        let place : length cells - 1 - i + i ≡ length cells - 1 = omega arith in
        let moved : get_or (bits_before content cells ops drive m) (length cells - 1 - i + i) false ≡ get_or (bits_before content cells ops drive (suc n)) (length cells - 1 - i) false =
        moved_on (drop (suc n) ops) (suc n) q i (length cells - 1 - i) m refl s at_m (omega arith) in
        let answers =
        ap (λ v. get_or v (length cells - 1 - i) false) (bits_after_it drive n (Some (Capture k)) captures)
        ∙ get_or-captured (content.response k) cells (bits_before content cells ops drive n) (length cells - 1 - i) (omega arith) (omega arith) (ends i few) in
        rw long (ap (λ v. get_or (bits_before content cells ops drive m) v false) (sym place) ∙ moved ∙ answers ∙ ap (content.response k) (reverse_is cells i x there))

-- ---- too few Shifts before a capture

-- a capture of a response without a 1, where what is loaded has none either
kept_zero : (f : Cell → Bool) (cells : List Cell) (bits : List Bool) (i : ℕ) → i < length cells → ((x : Cell) → f x ≡ false) →
    ((x : Cell) → slice_get cells i ≡ Some x → is_loaded x ≡ true → get_or bits i false ≡ false) → get_or (captured f cells bits) i false ≡ false
kept_zero f [] bits i within none held = absurd (omega arith)
kept_zero f (x ∷ cells) [] zero within none held = refl
kept_zero f (x ∷ cells) [] (suc i) within none held = refl
kept_zero f (In k ∷ cells) (b ∷ bits) zero within none held = held (In k) refl refl
kept_zero f (Flop c p ∷ cells) (b ∷ bits) zero within none held = none (Flop c p)
kept_zero f (Out k ∷ cells) (b ∷ bits) zero within none held = none (Out k)
kept_zero f (x ∷ cells) (b ∷ bits) (suc i) within none held = kept_zero f cells bits i (omega arith) none (λ y at loads. held y at loads)

all_zero : (cells : List Cell) (q : ℕ) → get_or (map (λ (x : Cell). false) cells) q false ≡ false
all_zero [] zero = refl
all_zero [] (suc q) = refl
all_zero (x ∷ cells) zero = refl
all_zero (x ∷ cells) (suc q) = all_zero cells q

-- where there are more cells that are loaded than `s`, one of them has at least `s` before it
loaded_past : (cells : List Cell) (s : ℕ) → s < in_length cells → (r : ℕ) × (x : Cell) × (s ≤ r) × (slice_get cells r ≡ Some x) × (is_loaded x ≡ true)
loaded_past [] s h = absurd (omega arith)
loaded_past (y ∷ cells) zero h = by (is_loaded y) refl (λ less. loaded_past cells 0 less)
  where
    by : (b : Bool) → is_loaded y ≡ b → (0 < in_length cells → (r : ℕ) × (x : Cell) × (0 ≤ r) × (slice_get cells r ≡ Some x) × (is_loaded x ≡ true)) → (r : ℕ) × (x : Cell) × (0 ≤ r) × (slice_get (y ∷ cells) r ≡ Some x) × (is_loaded x ≡ true)
    by true e later = (0, y, omega arith, refl, e)
    by false e later =
        let counted : in_length (y ∷ cells) ≡ 0 + in_length cells = count_cons is_loaded y cells ∙ rw e refl in
        let r = later (omega arith) in
        (suc r.0, r.1, omega arith, r.3, r.4)
loaded_past (y ∷ cells) (suc s) h =
    let one = at_most (is_loaded y) in
    let r = loaded_past cells s (omega (arith, count_cons is_loaded y cells)) in
    (suc r.0, r.1, omega arith, r.3, r.4)
  where
    at_most : (b : Bool) → cond b 1 0 ≤ 1
    at_most true = omega arith
    at_most false = omega arith

module _ (k : ℕ) where
  -- all bits are 0 but those of stimulus `k`
  abbrev pub zero_but : TestContent
  zero_but = record { initial = λ x. false; stimulus = λ n x. nat_eq n k; response = λ n x. false }

  module _ (cells : List Cell) (ops : List Operation) where
    -- what no Shift since the last capture has reached is 0
    abbrev ZeroAt : (ℕ → Bool) → ℕ → Type 0
    ZeroAt drive m = (q : ℕ) → shifts_since 0 (take m ops) ≤ q → q < length cells → get_or (bits_before zero_but cells ops drive m) q false ≡ false

    module _ (drive : ℕ → Bool) where
      -- what operation `m` captures isn't `k`, and was loaded
      record IsLoadedOther (m : ℕ) : Type 0 where
        other : (c : ℕ) → slice_get ops m ≡ Some (Capture c) → nat_eq c k ≡ false
        loads : (c r : ℕ) (x : Cell) → slice_get ops m ≡ Some (Capture c) → slice_get cells r ≡ Some x → is_loaded x ≡ true →
            slice_get (bits_before zero_but cells ops drive m) r ≡ Some (nat_eq c k)

      first_zero : ZeroAt drive 0
      unfolding bits_before
      first_zero q since within = all_zero cells q

      step_zero : (m : ℕ) (l : List Operation) → drop m ops ≡ l → IsLoadedOther m → ZeroAt drive m → ZeroAt drive (suc m)
      step_zero m [] e is before q few within =
          let p = past_end ops m e in
          let same = ap (shifts_since 0) p.2 in
          ap (λ v. get_or v q false) (bits_after_it zero_but cells ops drive m None (p.0 ∙ none_at m)) ∙ before q (omega arith) within
      step_zero m (Shift ∷ rest) e is before zero few within =
          let since = since_more 0 ops m Shift rest e in
          absurd (omega arith)
      step_zero m (Shift ∷ rest) e is before (suc q) few within =
          let since = since_more 0 ops m Shift rest e in
          let long = length-bits_before zero_but cells ops drive m in
          ap (λ v. get_or v (suc q) false) (bits_after_it zero_but cells ops drive m (Some Shift) ((at_head ops m Shift rest e).0))
          ∙ shifted (bits_before zero_but cells ops drive m) (drive m) q (omega arith) ∙ before q (omega arith) (omega arith)
      step_zero m (Capture c ∷ rest) e is before q few within =
          let here : slice_get ops m ≡ Some (Capture c) = (at_head ops m (Capture c) rest e).0 in
          ap (λ v. get_or v q false) (bits_after_it zero_but cells ops drive m (Some (Capture c)) here)
          ∙ kept_zero (λ x. false) cells (bits_before zero_but cells ops drive m) q within (λ x. refl)
          (λ x there loads. get_or_from_slice_get (bits_before zero_but cells ops drive m) q (nat_eq c k) false (is.loads c q x here there loads) ∙ is.other c here)
      step_zero m (Setup ∷ rest) e is before q few within =
          let since = since_more 0 ops m Setup rest e in
          ap (λ v. get_or v q false) (bits_after_it zero_but cells ops drive m (Some Setup) ((at_head ops m Setup rest e).0)) ∙ before q (omega arith) within
      step_zero m (SelfTest ∷ rest) e is before q few within =
          let since = since_more 0 ops m SelfTest rest e in
          ap (λ v. get_or v q false) (bits_after_it zero_but cells ops drive m (Some SelfTest) ((at_head ops m SelfTest rest e).0)) ∙ before q (omega arith) within

      zero_at : (n m : ℕ) → m ≤ n → ((i : ℕ) → i < n → IsLoadedOther i) → ZeroAt drive m
      zero_at n zero few each = first_zero
      zero_at n (suc m) few each = step_zero m (drop m ops) refl (each m (omega arith)) (zero_at n m (omega arith) each)

      -- so what was captured before and loaded leaves no room for a capture after too few Shifts
      pub too_few : (n : ℕ) → slice_get ops n ≡ Some (Capture k) → shifts_since 0 (take n ops) < in_length cells →
          ((i c : ℕ) → i < n → slice_get ops i ≡ Some (Capture c) → nat_eq c k ≡ false) →
          ((i c r : ℕ) (x : Cell) → slice_get ops i ≡ Some (Capture c) → slice_get cells r ≡ Some x → is_loaded x ≡ true → slice_get (bits_before zero_but cells ops drive i) r ≡ Some (nat_eq c k)) → ⊥
      too_few n captures few other loads =
          let at = loaded_past cells (shifts_since 0 (take n ops)) few in
          let zero_there =
          zero_at n n (omega arith) (λ i less. record { other = λ c e. other i c less e; loads = λ c r x e there l. loads i c r x e there l }) at.0 at.2 (slice_get_within cells at.0 at.1 at.3) in
          let one_there = get_or_from_slice_get (bits_before zero_but cells ops drive n) at.0 (nat_eq k k) false (loads n k at.0 at.1 captures at.3 at.4) in
          let same : nat_eq k k ≡ true = eq-eqb k k refl in
          let both = sym same ∙ sym one_there ∙ zero_there in
          absurd cc
