-- What is counted entry by entry, and the fault that it shows.
use Rattle.std.proofs.Common.{◌≡◌, ◌⊎◌, inl, inr, ℕ, zero, suc, ◌+◌, ◌≤◌, ◌<◌, Bool, true, false, ◌||◌, not, Option, None, Some, List, [], ◌∷◌, ◌++◌, length, replicate, take, get_or, nat_eq, refl, ap, ◌∙◌, sym, arith, append-nil, slice_get, nat_lt, if◌then◌else◌, All}
use Rattle.std.specs.List.{list_any}
use Rattle.std.proofs.lemmas.Bool.{cases_lt, ltb-true, ltb-false, lt-ltb, and_parts, and_from, or_cases, or_parts, eqb-true, eq-eqb, not-true}
use Rattle.std.proofs.lemmas.List.{length-append, length-replicate}
use Rattle.std.proofs.lemmas.List.Concat.{flat_map-append}
use Rattle.std.proofs.lemmas.List.Elements.{All-nil, All-push, All-head, All-tail}
use Rattle.std.proofs.lemmas.Option.{slice_get_within}
use Rattle.plan_model.specs.Operations.{Operation, Setup, Shift, Capture, SelfTest}
use Rattle.plan_model.proofs.Lists.{any_from}
use Rattle.shift_program.specs.declared.Entry.{Entry}
use Rattle.shift_program.specs.declared.ProgramFault.{ProgramFault}
use Rattle.shift_program.specs.declared.counting.Need.{Need}
use Rattle.shift_program.specs.declared.counting.Passed.{Passed}
use Rattle.shift_program.specs.Programs.{entry_operations, operations}
use Rattle.shift_program.specs.Faults.{Needed, shifts_since, patterns_of, captured, is_rest, Rests, StartsEarly, CapturesWrong, LoadsFew, EndsBlock, UnloadsFew, MissesPatterns, Has, place_of, rank, Before, IsFault, IsFaultless}
use Rattle.shift_program.specs.Counting.{needed_by, AreCounted, passed_more, starts_early, is_wrong, unloads_few, shift_fault, capture_fault, entry_fault, end_fault}
use Rattle.shift_program.proofs.Entries.{CaptureBefore}
use Rattle.common_lemmas.proofs.Lists.{from_take, in_take, any_at}
use Rattle.shift_program.specs.declared.Entry.TheVariants as entry
use Rattle.shift_program.specs.declared.ProgramFault.TheVariants as fault

-- ---- one entry more

pub since_append : (n : ℕ) (a b : List Operation) → shifts_since n (a ++ b) ≡ shifts_since (shifts_since n a) b
since_append n [] b = refl
since_append n (Shift ∷ a) b = since_append (suc n) a b
since_append n (Capture k ∷ a) b = since_append 0 a b
since_append n (Setup ∷ a) b = since_append n a b
since_append n (SelfTest ∷ a) b = since_append n a b

since_rests : (n c : ℕ) → shifts_since n (replicate c Setup) ≡ n
since_rests n zero = refl
since_rests n (suc c) = since_rests n c

since_shifts : (n c : ℕ) → shifts_since n (replicate c Shift) ≡ n + c
since_shifts n zero = omega arith
since_shifts n (suc c) = since_shifts (suc n) c ∙ omega arith

last_rests : (xs : List Entry) (e : Entry) → All Rests (xs ++ e ∷ []) → Rests e
last_rests [] e all = All-head Rests e [] all
last_rests (x ∷ xs) e all = last_rests xs e (All-tail Rests x (xs ++ e ∷ []) all)

pub counted_first : (p : Passed) → p.operations ≡ 0 → p.shifts ≡ 0 → p.acted ≡ false → AreCounted [] p
counted_first p a b c = record { counted = a; shifts = b; resting = λ e. All-nil Rests; acted = λ e. absurd cc }

module _ (xs : List Entry) where
  module _ (e : Entry) where
    one_entry : operations (xs ++ e ∷ []) ≡ operations xs ++ entry_operations e
    one_entry = flat_map-append entry_operations xs (e ∷ []) ∙ ap (λ v. operations xs ++ v) (append-nil (entry_operations e))

    length_more : length (operations (xs ++ e ∷ [])) ≡ length (operations xs) + length (entry_operations e)
    length_more = ap length one_entry ∙ length-append (operations xs) (entry_operations e)

    since_entry : shifts_since 0 (operations (xs ++ e ∷ [])) ≡ shifts_since (shifts_since 0 (operations xs)) (entry_operations e)
    since_entry = ap (shifts_since 0) one_entry ∙ since_append 0 (operations xs) (entry_operations e)

    front_rests : All Rests (xs ++ e ∷ []) → All Rests xs
    front_rests all = λ k d within. rests_at xs k d within all
      where
        rests_at : (xs : List Entry) (k : ℕ) (d : Entry) → k < length xs → All Rests (xs ++ e ∷ []) → Rests (get_or xs k d)
        rests_at [] k d within all = absurd (omega arith)
        rests_at (x ∷ xs) zero d within all = All-head Rests x (xs ++ e ∷ []) all
        rests_at (x ∷ xs) (suc k) d within all = rests_at xs k d (omega arith) (All-tail Rests x (xs ++ e ∷ []) all)

  pub counted_more : (e : Entry) (p : Passed) → AreCounted xs p → AreCounted (xs ++ e ∷ []) (passed_more p e)
  counted_more (entry.Rest c) p is = record {
    counted = omega (arith, length_more (entry.Rest c), length-replicate c Setup);
    shifts = is.shifts ∙ sym (since_entry (entry.Rest c) ∙ since_rests (shifts_since 0 (operations xs)) c);
    resting = λ no'. All-push Rests xs (entry.Rest c) (is.resting no') refl;
    acted = λ yes' all. is.acted yes' (front_rests (entry.Rest c) all);
  }
  counted_more (entry.Shift c) p is = record {
    counted = omega (arith, length_more (entry.Shift c), length-replicate c Shift);
    shifts = ap (λ v. v + c) is.shifts ∙ sym (since_entry (entry.Shift c) ∙ since_shifts (shifts_since 0 (operations xs)) c);
    resting = λ no'. absurd cc;
    acted = λ yes' all. let rests = last_rests xs (entry.Shift c) all in cc;
  }
  counted_more (entry.Capture k) p is = record {
    counted = omega (arith, length_more (entry.Capture k));
    shifts = sym (since_entry (entry.Capture k));
    resting = λ no'. absurd cc;
    acted = λ yes' all. let rests = last_rests xs (entry.Capture k) all in cc;
  }

  pub captured_more : (e : Entry) → captured (xs ++ e ∷ []) ≡ captured xs ++ patterns_of e
  captured_more e = flat_map-append patterns_of xs (e ∷ []) ∙ ap (λ v. captured xs ++ v) (append-nil (patterns_of e))

pub captured-le : (xs : List Entry) → length (captured xs) ≤ length xs
captured-le [] = omega arith
captured-le (entry.Rest c ∷ xs) = omega (arith, captured-le xs)
captured-le (entry.Shift c ∷ xs) = omega (arith, captured-le xs)
captured-le (entry.Capture k ∷ xs) = omega (arith, captured-le xs)

pub taken_more : (es : List Entry) (i : ℕ) (e : Entry) → slice_get es i ≡ Some e → take (suc i) es ≡ take i es ++ e ∷ []
taken_more [] i e at = absurd cc
taken_more (x ∷ es) zero e at = let same : x ≡ e = cc in ap (λ v. v ∷ []) same
taken_more (x ∷ es) (suc i) e at = ap (λ v. x ∷ v) (taken_more es i e at)

-- ---- captures before an entry

pub captured_at : (xs : List Entry) (j k : ℕ) → slice_get (captured xs) j ≡ Some k → (q : ℕ) × (slice_get xs q ≡ Some (entry.Capture k))
captured_at [] j k at = absurd cc
captured_at (entry.Rest c ∷ xs) j k at = let r = captured_at xs j k at in (suc r.0, r.1)
captured_at (entry.Shift c ∷ xs) j k at = let r = captured_at xs j k at in (suc r.0, r.1)
captured_at (entry.Capture c ∷ xs) zero k at = let same : c ≡ k = cc in (0, ap (λ v. Some (entry.Capture v)) same)
captured_at (entry.Capture c ∷ xs) (suc j) k at = let r = captured_at xs j k at in (suc r.0, r.1)

pub at_captured : (xs : List Entry) (q k : ℕ) → slice_get xs q ≡ Some (entry.Capture k) → (j : ℕ) × (slice_get (captured xs) j ≡ Some k)
at_captured [] q k at = absurd cc
at_captured (entry.Rest c ∷ xs) zero k at = absurd cc
at_captured (entry.Rest c ∷ xs) (suc q) k at = at_captured xs q k at
at_captured (entry.Shift c ∷ xs) zero k at = absurd cc
at_captured (entry.Shift c ∷ xs) (suc q) k at = at_captured xs q k at
at_captured (entry.Capture c ∷ xs) zero k at = let same : c ≡ k = cc in (0, ap (λ v. Some v) same)
at_captured (entry.Capture c ∷ xs) (suc q) k at = let r = at_captured xs q k at in (suc r.0, r.1)

first_item : (xs : List ℕ) → 0 < length xs → (k : ℕ) × (slice_get xs 0 ≡ Some k)
first_item [] h = absurd (omega arith)
first_item (x ∷ xs) h = (x, refl)

module _ (es : List Entry) (i : ℕ) where
  abbrev front : List Entry
  front = take i es

  capture_from : 0 < length (captured front) → CaptureBefore es i
  capture_from some =
      let k = first_item (captured front) some in
      let q = captured_at front 0 k.0 k.1 in
      let r = from_take es i q.0 (entry.Capture k.0) q.1 in
      (q.0, k.0, r.0, r.1)

  from_capture : CaptureBefore es i → 0 < length (captured front)
  from_capture c =
      let j = at_captured front c.0 c.1 (in_take es i c.0 (entry.Capture c.1) c.2 c.3) in
      let within = slice_get_within (captured front) j.0 c.1 j.1 in
      omega arith

-- ---- what each test says

same_pattern : (o : Option Entry) (k c : ℕ) → o ≡ Some (entry.Capture k) → o ≡ Some (entry.Capture c) → k ≡ c
same_pattern o k c e f = cc

module _ (need : Need) where
  wrong_if : (es : List Entry) (i k : ℕ) → slice_get es i ≡ Some (entry.Capture k) → is_wrong need (captured (take i es)) k ≡ true → CapturesWrong (needed_by need) es i
  wrong_if es i k at yes' = by (or_cases (nat_lt k 1) (nat_lt need.patterns k || list_any (nat_eq k) (captured (take i es))) yes')
    where
      seen : list_any (nat_eq k) (captured (take i es)) ≡ true → CapturesWrong (needed_by need) es i
      seen e =
          let r = any_at (nat_eq k) (captured (take i es)) e in
          let same = eqb-true k r.1 r.3 in
          let q = captured_at (take i es) r.0 r.1 r.2 in
          let f = from_take es i q.0 (entry.Capture r.1) q.1 in
          record { pattern = k; there = at; wrong = inr (inr (q.0, f.0, f.1 ∙ ap (λ v. Some (entry.Capture v)) (sym same))) }

      rest : (nat_lt need.patterns k ≡ true) ⊎ (list_any (nat_eq k) (captured (take i es)) ≡ true) → CapturesWrong (needed_by need) es i
      rest (inl past) = record { pattern = k; there = at; wrong = inr (inl (ltb-true need.patterns k past)) }
      rest (inr e) = seen e

      by : (nat_lt k 1 ≡ true) ⊎ ((nat_lt need.patterns k || list_any (nat_eq k) (captured (take i es))) ≡ true) → CapturesWrong (needed_by need) es i
      by (inl low) = let less = ltb-true k 1 low in record { pattern = k; there = at; wrong = inl (omega arith) }
      by (inr more) = rest (or_cases (nat_lt need.patterns k) (list_any (nat_eq k) (captured (take i es))) more)

  not_wrong : (es : List Entry) (i k : ℕ) → slice_get es i ≡ Some (entry.Capture k) → is_wrong need (captured (take i es)) k ≡ false →
      CapturesWrong (needed_by need) es i → ⊥
  not_wrong es i k at no' w = by w.wrong
    where
      same : w.pattern ≡ k
      same = same_pattern (slice_get es i) w.pattern k w.there at

      parts : (nat_lt k 1 ≡ false) × ((nat_lt need.patterns k || list_any (nat_eq k) (captured (take i es))) ≡ false)
      parts = or_parts (nat_lt k 1) (nat_lt need.patterns k || list_any (nat_eq k) (captured (take i es))) no'

      others : (nat_lt need.patterns k ≡ false) × (list_any (nat_eq k) (captured (take i es)) ≡ false)
      others = or_parts (nat_lt need.patterns k) (list_any (nat_eq k) (captured (take i es))) parts.1

      by : (w.pattern ≡ 0) ⊎ (need.patterns < w.pattern) ⊎ ((q : ℕ) × (q < i) × (slice_get es q ≡ Some (entry.Capture w.pattern))) → ⊥
      by (inl none) = let low : 1 ≤ k = ltb-false k 1 parts.0 in omega (arith, low, none, same)
      by (inr (inl past)) = let fits : k ≤ need.patterns = ltb-false need.patterns k others.0 in omega (arith, fits, past, same)
      by (inr (inr before)) =
          let j = at_captured (take i es) before.0 w.pattern (in_take es i before.0 (entry.Capture w.pattern) before.1 before.2) in
          let any : list_any (nat_eq k) (captured (take i es)) ≡ true = any_from (nat_eq k) (captured (take i es)) j.0 w.pattern j.1 (eq-eqb k w.pattern (sym same)) in
          let none = others.1 in
          cc

  module _ (p : Passed) (es : List Entry) (i : ℕ) where
    abbrev entries_before : List Entry
    entries_before = take i es

    is_early : (e : Entry) → AreCounted entries_before p → slice_get es i ≡ Some e → is_rest e ≡ false → starts_early need p ≡ true → StartsEarly (needed_by need) es i
    is_early e is at acts yes' =
        let both = and_parts (not p.acted) (nat_lt p.operations need.setup) yes' in
        let few = ltb-true p.operations need.setup both.1 in
        record { entry = e; there = at; acts = acts; first = is.resting (not-true p.acted both.0); few = omega arith }

    module _ (is : AreCounted entries_before p) where
      not_early : starts_early need p ≡ false → StartsEarly (needed_by need) es i → ⊥
      not_early no' s = by p.acted refl
        where
          few : length (operations entries_before) < need.setup
          few = s.few

          by : (b : Bool) → p.acted ≡ b → ⊥
          by true e = is.acted e s.first
          by false e =
              let less = lt-ltb p.operations need.setup (omega arith) in
              let same : starts_early need p ≡ true = rw (e, less) refl in
              cc

      unloads_if : EndsBlock es i → unloads_few need (captured entries_before) p ≡ true → UnloadsFew (needed_by need) es i
      unloads_if ends yes' =
          let both = and_parts (nat_lt 0 (length (captured entries_before))) (nat_lt p.shifts need.so) yes' in
          let few = ltb-true p.shifts need.so both.1 in
          record { ends = ends; capture = capture_from es i (ltb-true 0 (length (captured entries_before)) both.0); few = omega arith }

      not_unloads : unloads_few need (captured entries_before) p ≡ false → UnloadsFew (needed_by need) es i → ⊥
      not_unloads no' u =
          let a = lt-ltb 0 (length (captured entries_before)) (from_capture es i u.capture) in
          let b = lt-ltb p.shifts need.so (omega arith) in
          let both = and_from (nat_lt 0 (length (captured entries_before))) (nat_lt p.shifts need.so) a b in
          cc

-- ---- the first fault

least_rank : (f : ProgramFault) → rank f ≤ 4
least_rank (fault.Setup i) = omega arith
least_rank (fault.Pattern i) = omega arith
least_rank (fault.Load i) = omega arith
least_rank (fault.Missing i) = omega arith
least_rank (fault.Unload i) = omega arith

module _ (needed : Needed) (es : List Entry) where
  module _ (i : ℕ) where
    -- no fault shows before this place
    abbrev pub IsClear : Type 0
    IsClear = (f : ProgramFault) → Has needed es f → i ≤ place_of f

    module _ (r : ℕ) where
      -- the faults at one place, by their ranks
      record NoneBelow : Type 0 where
        setup : 0 < r → StartsEarly needed es i → ⊥
        pattern : 1 < r → CapturesWrong needed es i → ⊥
        load : 2 < r → LoadsFew needed es i → ⊥
        missing : 3 < r → MissesPatterns needed es i → ⊥
        unload : 4 < r → UnloadsFew needed es i → ⊥

      ranked : NoneBelow → (g : ProgramFault) → Has needed es g → place_of g ≡ i → r ≤ rank g
      ranked none (fault.Setup j) has at = by (cases_lt 0 r)
        where
          by : (0 < r) ⊎ (r ≤ 0) → r ≤ 0
          by (inl less) = absurd (none.setup less (rw (← at) has))
          by (inr all) = all
      ranked none (fault.Pattern j) has at = by (cases_lt 1 r)
        where
          by : (1 < r) ⊎ (r ≤ 1) → r ≤ 1
          by (inl less) = absurd (none.pattern less (rw (← at) has))
          by (inr all) = all
      ranked none (fault.Load j) has at = by (cases_lt 2 r)
        where
          by : (2 < r) ⊎ (r ≤ 2) → r ≤ 2
          by (inl less) = absurd (none.load less (rw (← at) has))
          by (inr all) = all
      ranked none (fault.Missing j) has at = by (cases_lt 3 r)
        where
          by : (3 < r) ⊎ (r ≤ 3) → r ≤ 3
          by (inl less) = absurd (none.missing less (rw (← at) has))
          by (inr all) = all
      ranked none (fault.Unload j) has at = by (cases_lt 4 r)
        where
          by : (4 < r) ⊎ (r ≤ 4) → r ≤ 4
          by (inl less) = absurd (none.unload less (rw (← at) has))
          by (inr all) = all

    shows : (f : ProgramFault) → IsClear → NoneBelow (rank f) → Has needed es f → place_of f ≡ i → IsFault needed es f
    shows f clear none has at = record { has = has; first = λ g other before. by g other before }
      where
        by : (g : ProgramFault) → Has needed es g → Before g f → ⊥
        by g other (inl earlier) = omega (arith, clear g other)
        by g other (inr same) = omega (arith, ranked (rank f) none g other (same.0 ∙ at))

  module _ (i : ℕ) where
    clear_on : IsClear i → NoneBelow i 5 → IsClear (suc i)
    clear_on clear none f has = by (cases_lt i (place_of f))
      where
        by : (i < place_of f) ⊎ (place_of f ≤ i) → suc i ≤ place_of f
        by (inl less) = less
        by (inr all) = absurd (omega (arith, least_rank f, ranked i 5 none f has (omega (arith, clear f has))))

    -- what is answered at a place: the fault that shows first, or that none shows up to there
    abbrev pub Shown : Option ProgramFault → Type 0
    Shown None = IsClear (suc i)
    Shown (Some f) = IsFault needed es f

    -- ---- at an entry

    -- at an entry nothing is missing
    not_missing : (e : Entry) → slice_get es i ≡ Some e → MissesPatterns needed es i → ⊥
    not_missing e at m = omega (arith, slice_get_within es i e at)

    rest_clear : (c : ℕ) → slice_get es i ≡ Some (entry.Rest c) → NoneBelow i 5
    rest_clear c at = record {
      setup = λ less s. no_act s.entry (same_entry (slice_get es i) (entry.Rest c) s.entry at s.there) s.acts;
      pattern = λ less w. no_capture (slice_get es i) w.pattern at w.there;
      load = λ less l. no_capture (slice_get es i) l.pattern at l.there;
      missing = λ less m. not_missing (entry.Rest c) at m;
      unload = λ less u. ends u.ends;
    }
      where
        same_entry : (o : Option Entry) (a b : Entry) → o ≡ Some a → o ≡ Some b → a ≡ b
        same_entry o a b e f = cc

        no_act : (e : Entry) → entry.Rest c ≡ e → is_rest e ≡ false → ⊥
        no_act e same acts = let rests = ap is_rest (sym same) in cc

        no_capture : (o : Option Entry) (k : ℕ) → o ≡ Some (entry.Rest c) → o ≡ Some (entry.Capture k) → ⊥
        no_capture o k e f = cc

        ends : EndsBlock es i → ⊥
        ends (inl capture) = no_capture (slice_get es i) capture.0 at capture.1
        ends (inr end) = omega (arith, slice_get_within es i (entry.Rest c) at)

    shift_none : (c r : ℕ) → slice_get es i ≡ Some (entry.Shift c) → (0 < r → StartsEarly needed es i → ⊥) → NoneBelow i r
    shift_none c r at early = record {
      setup = early;
      pattern = λ less w. no_capture (slice_get es i) w.pattern at w.there;
      load = λ less l. no_capture (slice_get es i) l.pattern at l.there;
      missing = λ less m. not_missing (entry.Shift c) at m;
      unload = λ less u. ends u.ends;
    }
      where
        no_capture : (o : Option Entry) (k : ℕ) → o ≡ Some (entry.Shift c) → o ≡ Some (entry.Capture k) → ⊥
        no_capture o k e f = cc

        ends : EndsBlock es i → ⊥
        ends (inl capture) = no_capture (slice_get es i) capture.0 at capture.1
        ends (inr end) = omega (arith, slice_get_within es i (entry.Shift c) at)

end_none : (needed : Needed) (es : List Entry) (i r : ℕ) → i ≡ length es → (3 < r → MissesPatterns needed es i → ⊥) →
    (4 < r → UnloadsFew needed es i → ⊥) → NoneBelow needed es i r
end_none needed es i r end missing unload = record {
  setup = λ less s. omega (arith, slice_get_within es i s.entry s.there);
  pattern = λ less w. omega (arith, slice_get_within es i (entry.Capture w.pattern) w.there);
  load = λ less l. omega (arith, slice_get_within es i (entry.Capture l.pattern) l.there);
  missing = missing;
  unload = unload;
}

module _ (need : Need) (p : Passed) (es : List Entry) (i : ℕ) where
  abbrev before_entry : List Entry
  before_entry = take i es

  shift_shown : (c : ℕ) → AreCounted before_entry p → IsClear (needed_by need) es i → slice_get es i ≡ Some (entry.Shift c) →
      Shown (needed_by need) es i (shift_fault need p i)
  shift_shown c is clear at = by (starts_early need p) refl
    where
      by : (b : Bool) → starts_early need p ≡ b → Shown (needed_by need) es i (if b then Some (fault.Setup i) else None)
      by true e = shows (needed_by need) es i (fault.Setup i) clear (shift_none (needed_by need) es i c 0 at (λ less. absurd (omega arith))) (is_early need p es i (entry.Shift c) is at refl e) refl
      by false e = clear_on (needed_by need) es i clear (shift_none (needed_by need) es i c 5 at (λ less. not_early need p es i is e))

  capture_shown : (k : ℕ) → AreCounted before_entry p → IsClear (needed_by need) es i → slice_get es i ≡ Some (entry.Capture k) →
      Shown (needed_by need) es i (capture_fault need p (captured before_entry) k i)
  capture_shown k is clear at = pick (starts_early need p) (is_wrong need (captured before_entry) k) (nat_lt p.shifts need.si) (unloads_few need (captured before_entry) p) refl refl refl refl
    where
      same : p.shifts ≡ shifts_since 0 (operations before_entry)
      same = is.shifts

      many : nat_lt p.shifts need.si ≡ false → LoadsFew (needed_by need) es i → ⊥
      many no' l =
          let few = l.few in
          let all = ltb-false p.shifts need.si no' in
          omega arith

      pick : (a b c d : Bool) → starts_early need p ≡ a → is_wrong need (captured before_entry) k ≡ b → nat_lt p.shifts need.si ≡ c → unloads_few need (captured before_entry) p ≡ d →
          Shown (needed_by need) es i (if a then Some (fault.Setup i) else (if b then Some (fault.Pattern i) else (if c then Some (fault.Load i) else (if d then Some (fault.Unload i) else None))))
      pick true b c d ea eb ec ed =
          shows (needed_by need) es i (fault.Setup i) clear
          (record { setup = λ less. absurd (omega arith); pattern = λ less. absurd (omega arith); load = λ less. absurd (omega arith); missing = λ less m. not_missing (needed_by need) es i (entry.Capture k) at m; unload = λ less. absurd (omega arith) })
          (is_early need p es i (entry.Capture k) is at refl ea) refl
      pick false true c d ea eb ec ed =
          shows (needed_by need) es i (fault.Pattern i) clear
          (record { setup = λ less. not_early need p es i is ea; pattern = λ less. absurd (omega arith); load = λ less. absurd (omega arith); missing = λ less m. not_missing (needed_by need) es i (entry.Capture k) at m; unload = λ less. absurd (omega arith) })
          (wrong_if need es i k at eb) refl
      pick false false true d ea eb ec ed =
          let few = ltb-true p.shifts need.si ec in
          shows (needed_by need) es i (fault.Load i) clear
          (record { setup = λ less. not_early need p es i is ea; pattern = λ less. not_wrong need es i k at eb; load = λ less. absurd (omega arith); missing = λ less m. not_missing (needed_by need) es i (entry.Capture k) at m; unload = λ less. absurd (omega arith) })
          (record { pattern = k; there = at; few = omega arith }) refl
      pick false false false true ea eb ec ed =
          shows (needed_by need) es i (fault.Unload i) clear
          (record { setup = λ less. not_early need p es i is ea; pattern = λ less. not_wrong need es i k at eb; load = λ less. many ec; missing = λ less m. not_missing (needed_by need) es i (entry.Capture k) at m; unload = λ less. absurd (omega arith) })
          (unloads_if need p es i is (inl (k, at)) ed) refl
      pick false false false false ea eb ec ed =
          clear_on (needed_by need) es i clear
          (record { setup = λ less. not_early need p es i is ea; pattern = λ less. not_wrong need es i k at eb; load = λ less. many ec; missing = λ less m. not_missing (needed_by need) es i (entry.Capture k) at m; unload = λ less. not_unloads need p es i is ed })

  pub entry_shown : (e : Entry) → AreCounted before_entry p → IsClear (needed_by need) es i → slice_get es i ≡ Some e →
      Shown (needed_by need) es i (entry_fault need p (captured before_entry) e i)
  entry_shown (entry.Rest c) is clear at = clear_on (needed_by need) es i clear (rest_clear (needed_by need) es i c at)
  entry_shown (entry.Shift c) is clear at = shift_shown c is clear at
  entry_shown (entry.Capture k) is clear at = capture_shown k is clear at

  -- ---- at the end

  pub end_shown : AreCounted before_entry p → before_entry ≡ es → IsClear (needed_by need) es i → i ≡ length es →
      Shown (needed_by need) es i (end_fault need p (captured before_entry) i)
  end_shown is whole clear end = pick (nat_lt (length (captured before_entry)) need.patterns) (unloads_few need (captured before_entry) p) refl refl
    where
      all : length (captured before_entry) ≡ length (captured es)
      all = ap (λ v. length (captured v)) whole

      pick : (a b : Bool) → nat_lt (length (captured before_entry)) need.patterns ≡ a → unloads_few need (captured before_entry) p ≡ b →
          Shown (needed_by need) es i (if a then Some (fault.Missing i) else (if b then Some (fault.Unload i) else None))
      pick true b ea eb =
          let few : length (captured before_entry) < need.patterns = ltb-true (length (captured before_entry)) need.patterns ea in
          shows (needed_by need) es i (fault.Missing i) clear (end_none (needed_by need) es i 3 end (λ less. absurd (omega (arith, less))) (λ less. absurd (omega (arith, less)))) (record { end = end; few = omega (arith, few, all) }) refl
      pick false true ea eb =
          shows (needed_by need) es i (fault.Unload i) clear (end_none (needed_by need) es i 4 end (λ less. enough ea) (λ less. absurd (omega (arith, less)))) (unloads_if need p es i is (inr end) eb) refl
        where
          enough : nat_lt (length (captured before_entry)) need.patterns ≡ false → MissesPatterns (needed_by need) es i → ⊥
          enough no' m =
              let few : length (captured es) < need.patterns = m.few in
              let most : need.patterns ≤ length (captured before_entry) = ltb-false (length (captured before_entry)) need.patterns no' in
              omega (arith, few, most, all)
      pick false false ea eb =
          clear_on (needed_by need) es i clear (end_none (needed_by need) es i 5 end (λ less. enough ea) (λ less. not_unloads need p es i is eb))
        where
          enough : nat_lt (length (captured before_entry)) need.patterns ≡ false → MissesPatterns (needed_by need) es i → ⊥
          enough no' m =
              let few : length (captured es) < need.patterns = m.few in
              let most : need.patterns ≤ length (captured before_entry) = ltb-false (length (captured before_entry)) need.patterns no' in
              omega (arith, few, most, all)

module _ (needed : Needed) (es : List Entry) where
  -- past the end there is no fault
  within_end : (f : ProgramFault) → Has needed es f → place_of f ≤ length es
  within_end (fault.Setup i) s = omega (arith, slice_get_within es i s.entry s.there)
  within_end (fault.Pattern i) w = omega (arith, slice_get_within es i (entry.Capture w.pattern) w.there)
  within_end (fault.Load i) l = omega (arith, slice_get_within es i (entry.Capture l.pattern) l.there)
  within_end (fault.Missing i) m = omega arith
  within_end (fault.Unload i) u = by u.ends
    where
      by : EndsBlock es i → i ≤ length es
      by (inl capture) = omega (arith, slice_get_within es i (entry.Capture capture.0) capture.1)
      by (inr end) = omega arith

  pub clear_faultless : (i : ℕ) → length es < i → IsClear needed es i → IsFaultless needed es
  clear_faultless i past clear f has = omega (arith, clear f has, within_end f has)

  pub clear_first : IsClear needed es 0
  clear_first f has = omega arith
