-- A program without a fault is right.
use Rattle.std.proofs.Common.{◌≡◌, ◌⊎◌, inl, inr, ℕ, zero, suc, ◌+◌, ◌-◌, ◌≤◌, ◌<◌, true, false, Some, List, [], ◌∷◌, ◌++◌, length, replicate, take, drop, get_or, refl, ap, ◌∙◌, sym, arith, slice_get, All}
use Rattle.std.proofs.lemmas.Bool.{cases_lt, cases_order}
use Rattle.std.proofs.lemmas.List.{take_all, length-append, length-replicate}
use Rattle.std.proofs.lemmas.List.Elements.{All-nil, All-cons, All-head, All-tail}
use Rattle.std.proofs.lemmas.Option.{get_or_from_slice_get}
use Rattle.plan_model.specs.Cells.{Cell, in_length, out_length}
use Rattle.plan_model.specs.Operations.{Operation, Setup, Capture, ops_of}
use Rattle.plan_model.specs.Plans.{si_of, so_of}
use Rattle.plan_model.specs.OneTest.{ReadsEnd}
use Rattle.plan_model.proofs.CellOrder.{LoadsFront}
use Rattle.plan_model.proofs.Greatest.{le-greatest_at}
use Rattle.plan_model.proofs.Lists.{slice_get-replicate}
use Rattle.shift_program.specs.declared.Entry.{Entry}
use Rattle.shift_program.specs.Programs.{entry_operations, operations, WrappedTest}
use Rattle.shift_program.specs.RightPrograms.{TestContent, Drive, Loads, Reads, IsShiftBehind, IsCapturedOnce, AreRight}
use Rattle.shift_program.specs.Faults.{needed_for, shifts_since, is_rest, Rests, captured, IsFaultless}
use Rattle.shift_program.proofs.Blocks.{enough_behind, has_capture, ShiftAt, find_shift, AreSpaced}
use Rattle.shift_program.proofs.Runs.{driven, loaded, shown}
use Rattle.shift_program.proofs.Entries.{at_drop, capture_at, EntryOf, entry_of, CaptureBefore, captured_before, parted_at}
use Rattle.shift_program.proofs.Patterns.{AreApart, AreWithin, all_captured}
use Rattle.shift_program.proofs.Lengths.{long_enough, captures_of}
use Rattle.common_lemmas.proofs.Lists.{at_left}
use Rattle.shift_program.specs.declared.Entry.TheVariants as entry
use Rattle.shift_program.specs.declared.ProgramFault.TheVariants as fault

-- the cells of each chain stand in their order
pub record AreOrdered (chains : List (List Cell)) : Type 0 where
  pub front : (j : ℕ) (cells : List Cell) → slice_get chains j ≡ Some cells → LoadsFront cells
  pub ends : (j : ℕ) (cells : List Cell) → slice_get chains j ≡ Some cells → ReadsEnd cells

-- ---- spaces

-- what stands before a Capture is what the entries before its own do
front_is : (es : List Entry) (n k : ℕ) (f : EntryOf es n k) → take n (operations es) ≡ operations (take f.place es)
front_is es n k f =
    let a = capture_at es f.place k f.there in
    ap (λ v. take v (operations es)) f.at ∙ a.before

enough : (t : WrappedTest) (es : List Entry) → IsFaultless (needed_for t) es → t.patterns ≤ length (captured es)
enough t es none = by (cases_lt (length (captured es)) t.patterns)
  where
    by : (length (captured es) < t.patterns) ⊎ (t.patterns ≤ length (captured es)) → t.patterns ≤ length (captured es)
    by (inl few) = absurd (none (fault.Missing (length es)) (record { end = refl; few = few }))
    by (inr all) = all

module _ (t : WrappedTest) (es : List Entry) (none : IsFaultless (needed_for t) es) where
  enough_before : (i k : ℕ) → slice_get es i ≡ Some (entry.Capture k) → si_of t.chains ≤ shifts_since 0 (operations (take i es))
  enough_before i k at = by (cases_lt (shifts_since 0 (operations (take i es))) (si_of t.chains))
    where
      by : (shifts_since 0 (operations (take i es)) < si_of t.chains) ⊎ (si_of t.chains ≤ shifts_since 0 (operations (take i es))) → si_of t.chains ≤ shifts_since 0 (operations (take i es))
      by (inl few) = absurd (none (fault.Load i) (record { pattern = k; there = at; few = few }))
      by (inr enough) = enough

  enough_after : (i : ℕ) → ((k : ℕ) × (slice_get es i ≡ Some (entry.Capture k))) ⊎ (i ≡ length es) → CaptureBefore es i →
      so_of t.chains ≤ shifts_since 0 (operations (take i es))
  enough_after i ends c = by (cases_lt (shifts_since 0 (operations (take i es))) (so_of t.chains))
    where
      by : (shifts_since 0 (operations (take i es)) < so_of t.chains) ⊎ (so_of t.chains ≤ shifts_since 0 (operations (take i es))) → so_of t.chains ≤ shifts_since 0 (operations (take i es))
      by (inl few) = absurd (none (fault.Unload i) (record { ends = ends; capture = c; few = few }))
      by (inr enough) = enough

  pub spaced : AreSpaced (si_of t.chains) (so_of t.chains) false 0 (operations es)
  spaced = record {
    loads = λ n k e. let f = entry_of es n k e in rw (front_is es n k f) (enough_before f.place k f.there);
    unloads = λ n k e c.
        let f = entry_of es n k e in
        let c' : has_capture false (operations (take f.place es)) ≡ true = rw (front_is es n k f) at c in
        rw (front_is es n k f) (enough_after f.place (inl (k, f.there)) (captured_before es f.place c'));
    end = λ c.
        let whole = take_all (length es) es (omega arith) in
        let c' : has_capture false (operations (take (length es) es)) ≡ true = rw whole c in
        rw (← whole) (enough_after (length es) (inr refl) (captured_before es (length es) c'));
  }

  -- ---- patterns

  within : AreWithin t.patterns es
  within i k at = (low (cases_lt k 1), high (cases_lt t.patterns k))
    where
      low : (k < 1) ⊎ (1 ≤ k) → 1 ≤ k
      low (inl less) = absurd (none (fault.Pattern i) (record { pattern = k; there = at; wrong = inl (omega arith) }))
      low (inr more) = more

      high : (t.patterns < k) ⊎ (k ≤ t.patterns) → k ≤ t.patterns
      high (inl past) = absurd (none (fault.Pattern i) (record { pattern = k; there = at; wrong = inr (inl past) }))
      high (inr fits) = fits

  apart : AreApart es
  apart q i k less first second = none (fault.Pattern i) (record { pattern = k; there = second; wrong = inr (inr (q, less, first)) })

  -- two captures of one pattern stand at one place
  same_place : (m n k : ℕ) → slice_get (operations es) m ≡ Some (Capture k) → slice_get (operations es) n ≡ Some (Capture k) → m ≡ n
  same_place m n k e f =
      let a = entry_of es m k e in
      let b = entry_of es n k f in
      a.at ∙ ap (λ v. length (operations (take v es))) (by a.place b.place (cases_order a.place b.place) a.there b.there) ∙ sym b.at
    where
      by : (x y : ℕ) → (x ≡ y) ⊎ ((x < y) ⊎ (y < x)) → slice_get es x ≡ Some (entry.Capture k) → slice_get es y ≡ Some (entry.Capture k) → x ≡ y
      by x y (inl same) p q = same
      by x y (inr (inl less)) p q = absurd (apart x y k less p q)
      by x y (inr (inr more)) p q = absurd (apart y x k more q p)

once : (t : WrappedTest) (es : List Entry) → IsFaultless (needed_for t) es → (k : ℕ) → 1 ≤ k → k ≤ t.patterns → IsCapturedOnce (operations es) k
once t es none k first last =
    let r = all_captured t.patterns es (within t es none) (apart t es none) (enough t es none) k first last in
    let c = capture_at es r.0 k r.1 in
    record { place = length (operations (take r.0 es)); captures = c.captures; once = λ n e. same_place t es none n (length (operations (take r.0 es))) k e c.captures }

-- all entries rest, or there is a first that doesn't
pub record FirstAct (es : List Entry) : Type 0 where
  pub place : ℕ
  pub entry : Entry
  pub there : slice_get es place ≡ Some entry
  pub acts : is_rest entry ≡ false
  pub first : All Rests (take place es)

act_later : (e : Entry) (es : List Entry) → is_rest e ≡ true → All Rests es ⊎ FirstAct es → All Rests (e ∷ es) ⊎ FirstAct (e ∷ es)
act_later e es rests (inl all) = inl (All-cons Rests e es rests all)
act_later e es rests (inr f) = inr (record { place = suc f.place; entry = f.entry; there = f.there; acts = f.acts; first = All-cons Rests e (take f.place es) rests f.first })

pub first_act : (es : List Entry) → All Rests es ⊎ FirstAct es
first_act [] = inl (All-nil Rests)
first_act (entry.Rest c ∷ es) = act_later (entry.Rest c) es refl (first_act es)
first_act (entry.Shift c ∷ es) = inr (record { place = 0; entry = entry.Shift c; there = refl; acts = refl; first = All-nil Rests })
first_act (entry.Capture k ∷ es) = inr (record { place = 0; entry = entry.Capture k; there = refl; acts = refl; first = All-nil Rests })

none_captured : (es : List Entry) → All Rests es → captured es ≡ []
none_captured [] all = refl
none_captured (entry.Rest c ∷ es) all = none_captured es (All-tail Rests (entry.Rest c) es all)
none_captured (entry.Shift c ∷ es) all = let e = All-head Rests (entry.Shift c) es all in absurd cc
none_captured (entry.Capture k ∷ es) all = let e = All-head Rests (entry.Capture k) es all in absurd cc

-- the operations of Rests are at rest
pub rest_at : (es : List Entry) (n : ℕ) → All Rests es → n < length (operations es) → slice_get (operations es) n ≡ Some Setup
rest_at [] n all h = absurd (omega arith)
rest_at (entry.Rest c ∷ es) n all h = by (cases_lt n c) (λ m less. rest_at es m (All-tail Rests (entry.Rest c) es all) less)
  where
    behind : (c n : ℕ) → c ≤ n → slice_get (replicate c Setup ++ operations es) n ≡ slice_get (operations es) (n - c)
    behind zero n past = let same : n - 0 ≡ n = omega arith in rw same refl
    behind (suc c) zero past = absurd (omega arith)
    behind (suc c) (suc n) past = let same : suc n - suc c ≡ n - c = omega arith in rw same (behind c n (omega arith))

    by : (n < c) ⊎ (c ≤ n) → ((m : ℕ) → m < length (operations es) → slice_get (operations es) m ≡ Some Setup) → slice_get (replicate c Setup ++ operations es) n ≡ Some Setup
    by (inl less) later = at_left (replicate c Setup) (operations es) n Setup (slice_get-replicate c n Setup less)
    by (inr past) later = behind c n past ∙ later (n - c) (omega (arith, length-append (replicate c Setup) (operations es), length-replicate c Setup))
rest_at (entry.Shift c ∷ es) n all h = let e = All-head Rests (entry.Shift c) es all in absurd cc
rest_at (entry.Capture k ∷ es) n all h = let e = All-head Rests (entry.Capture k) es all in absurd cc

behind_is : (ops : List Operation) (n i q : ℕ) → ShiftAt (drop (suc n) ops) i q → IsShiftBehind ops n i (suc n + q)
behind_is ops n i q s =
    let number : suc n + q - suc n ≡ q = omega arith in
    record {
      behind = omega arith;
      shifts = sym (at_drop ops (suc n) q) ∙ s.shifts;
      number = rw number s.number;
      no_capture = rw number s.no_capture;
    }

module _ (t : WrappedTest) (es : List Entry) where
  no_other : IsFaultless (needed_for t) es → (n k : ℕ) → slice_get (operations es) n ≡ Some (Capture k) → (1 ≤ k) × (k ≤ t.patterns)
  no_other none n k e = let f = entry_of es n k e in within t es none f.place k f.there

  -- ---- the setup

  rests : 1 ≤ t.patterns → IsFaultless (needed_for t) es → (n : ℕ) → n < t.setup → slice_get (operations es) n ≡ Some Setup
  rests live none n less = by (first_act es)
    where
      go : (f : FirstAct es) → (length (operations (take f.place es)) < t.setup) ⊎ (t.setup ≤ length (operations (take f.place es))) → slice_get (operations es) n ≡ Some Setup
      go f (inl few) = absurd (none (fault.Setup f.place) (record { entry = f.entry; there = f.there; acts = f.acts; first = f.first; few = few }))
      go f (inr all) =
          rw (parted_at es f.place f.entry f.there)
          (at_left (operations (take f.place es)) (entry_operations f.entry ++ operations (drop (suc f.place) es)) n Setup (rest_at (take f.place es) n f.first (omega arith)))

      by : All Rests es ⊎ FirstAct es → slice_get (operations es) n ≡ Some Setup
      by (inl all) =
          let none_there = ap length (none_captured es all) in
          absurd (omega (arith, enough t es none))
      by (inr f) = go f (cases_lt (length (operations (take f.place es))) t.setup)

  -- ---- together

  module _ (ordered : AreOrdered t.chains) (none : IsFaultless (needed_for t) es) (content : TestContent) where
    loads : (drive : Drive) × Loads t.chains (operations es) content drive
    loads = (
      λ j. driven content.stimulus (get_or t.chains j []) (operations es),
      λ n k j r cells x captures chain there is.
          let same = get_or_from_slice_get t.chains j cells [] chain in
          let s = spaced t es none in
          let most = le-greatest_at in_length t.chains j cells chain in
          rw same (loaded content cells (operations es) n k r x (ordered.front j cells chain) (omega (arith, s.loads n k captures)) captures there is),
    )

    reads : (drive : Drive) → Reads t.chains (operations es) content drive
    reads drive n k j i cells x captures chain few there =
        let most = le-greatest_at out_length t.chains j cells chain in
        let r = find_shift (drop (suc n) (operations es)) i (omega (arith, enough_behind (si_of t.chains) (so_of t.chains) false 0 (operations es) (spaced t es none) n k captures)) in
        (suc n + r.0, behind_is (operations es) n i r.0 r.1, shown content cells (operations es) (drive j) n k i r.0 (suc n + r.0) x (ordered.ends j cells chain) few captures r.1 refl there)

module _ (t : WrappedTest) (es : List Entry) where
  pub faultless_right : AreOrdered t.chains → 1 ≤ t.patterns → IsFaultless (needed_for t) es → AreRight t (operations es)
  faultless_right ordered live none = record {
    rests = rests t es live none;
    captures = once t es none;
    no_other = no_other t es none;
    loads = loads t es ordered none;
    reads = reads t es ordered none;
  }

  pub faultless_long : 1 ≤ t.patterns → IsFaultless (needed_for t) es → length (ops_of t.setup (si_of t.chains) (so_of t.chains) t.patterns) ≤ length (operations es)
  faultless_long live none =
      long_enough t.setup (si_of t.chains) (so_of t.chains) t.patterns (operations es) live (rests t es live none) (omega (arith, captures_of es, enough t es none)) (spaced t es none)
