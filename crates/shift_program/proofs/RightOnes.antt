-- A right program has no fault.
use Rattle.std.proofs.Common.{◌≡◌, ◌⊎◌, inl, inr, ℕ, zero, suc, ◌+◌, ◌-◌, ◌≤◌, ◌<◌, true, false, Some, List, [], ◌∷◌, ◌++◌, length, map, replicate, take, drop, reverse, get_or, refl, ap, ◌∙◌, sym, arith, slice_get, All}
use Rattle.std.proofs.lemmas.Bool.{cases_lt, ne_eqb}
use Rattle.std.proofs.lemmas.List.{take_all, length-reverse}
use Rattle.std.proofs.lemmas.Option.{slice_get-get_or, slice_get_within, get_or_from_slice_get}
use Rattle.std.proofs.lemmas.List.Sums.{count_by-le-length}
use Rattle.plan_model.specs.Cells.{In, is_read, in_length, out_length, scan_lengths}
use Rattle.plan_model.specs.Operations.{Operation, Setup, Shift, Capture}
use Rattle.plan_model.specs.Plans.{greatest, so_of, WrapperValue}
use Rattle.shift_program.specs.declared.Entry.{Entry}
use Rattle.shift_program.specs.Programs.{entry_operations, operations, IsLasting, WrappedTest, wrapped_test}
use Rattle.shift_program.specs.RightPrograms.{Drive, AreRight}
use Rattle.shift_program.specs.Faults.{needed_for, shifts_since, is_rest, StartsEarly, CapturesWrong, LoadsFew, UnloadsFew, MissesPatterns, EndsBlock, IsFaultless}
use Rattle.shift_program.proofs.Blocks.{block, has_capture, since_enough, since_enough_at, within_block, AreUnloaded}
use Rattle.shift_program.proofs.Runs.{zero_but, too_few}
use Rattle.shift_program.proofs.Entries.{at_seam, at_drop, capture_at, entry_of, earlier_capture, before_captured, parted_at, CaptureAt}
use Rattle.shift_program.proofs.Patterns.{enough_captured}
use Rattle.soc_model.specs.declared.Test.{Test}
use Rattle.soc_model.specs.Chips.{ModuleValue}
use Rattle.plan_model.proofs.CellOrder.{dealt_loads_front, dealt_reads_end}
use Rattle.shift_program.specs.Laws.{FaultlessAreRight, RightAreFaultless, RightAreLong}
use Rattle.shift_program.proofs.Faultless.{AreOrdered, faultless_right, faultless_long}
use Rattle.shift_program.specs.declared.Entry.TheVariants as entry
use Rattle.shift_program.specs.declared.ProgramFault.TheVariants as fault

-- ---- greatest lengths are those of some chain

attained : {X : Type 0} (f : X → ℕ) (xs : List X) (s : ℕ) → s < greatest (map f xs) → (j : ℕ) × (x : X) × (slice_get xs j ≡ Some x) × (s < f x)
attained f [] s h = absurd (omega arith)
attained {X = X} f (x ∷ xs) s h = by (cases_lt s (f x)) (λ more. attained f xs s more)
  where
    by : (s < f x) ⊎ (f x ≤ s) → (s < greatest (map f xs) → (j : ℕ) × (y : X) × (slice_get xs j ≡ Some y) × (s < f y)) → (j : ℕ) × (y : X) × (slice_get (x ∷ xs) j ≡ Some y) × (s < f y)
    by (inl less) later = (0, x, refl, less)
    by (inr more) later = let r = later (omega arith) in (suc r.0, r.1, r.2, r.3)

-- ---- the setup

first_of_it : (e : Entry) (rest : List Operation) (a : List Operation) → is_rest e ≡ false → IsLasting e →
    slice_get (a ++ (entry_operations e ++ rest)) (length a) ≡ Some Setup → ⊥
first_of_it (entry.Rest c) rest a acts lasting at = absurd cc
first_of_it (entry.Shift zero) rest a acts lasting at = omega arith
first_of_it (entry.Shift (suc c)) rest a acts lasting at =
    let here = at_seam a Shift (replicate c Shift ++ rest) in
    cc
first_of_it (entry.Capture k) rest a acts lasting at =
    let here = at_seam a (Capture k) rest in
    cc

lasting_at : (es : List Entry) (i : ℕ) (e : Entry) → All IsLasting es → slice_get es i ≡ Some e → IsLasting e
lasting_at es i e all at = rw (← (get_or_from_slice_get es i e e at)) (all i e (slice_get_within es i e at))

module _ (t : WrappedTest) where
  -- captures of one pattern stand at one place
  one_place : (ops : List Operation) → AreRight t ops → (m n k : ℕ) → slice_get ops m ≡ Some (Capture k) → slice_get ops n ≡ Some (Capture k) → m ≡ n
  one_place ops right m n k e f =
      let range = right.no_other m k e in
      let c = right.captures k range.0 range.1 in
      c.once m e ∙ sym (c.once n f)

  -- behind a capture its response comes out
  behind_enough : (ops : List Operation) → AreRight t ops → (n k : ℕ) → slice_get ops n ≡ Some (Capture k) → so_of t.chains ≤ block (drop (suc n) ops)
  behind_enough ops right n k captures = by (cases_lt (block (drop (suc n) ops)) (so_of t.chains))
    where
      drive : Drive
      drive = λ j n. false

      few : block (drop (suc n) ops) < so_of t.chains → ⊥
      few less =
          let chain = attained out_length t.chains (block (drop (suc n) ops)) less in
          let least = count_by-le-length is_read chain.1 in
          let there = slice_get-get_or (reverse chain.1) (block (drop (suc n) ops)) (In 0) (omega (arith, length-reverse chain.1)) in
          let m = right.reads (zero_but 0) (λ j n. false) n k chain.0 (block (drop (suc n) ops)) chain.1 (get_or (reverse chain.1) (block (drop (suc n) ops)) (In 0)) captures chain.2 chain.3 there in
          let at : suc n + (m.0 - suc n) ≡ m.0 = omega arith in
          let shifts = at_drop ops (suc n) (m.0 - suc n) ∙ ap (slice_get ops) at ∙ m.1.shifts in
          let within = within_block (drop (suc n) ops) (block (drop (suc n) ops)) (m.0 - suc n) (record { shifts = shifts; number = m.1.number; no_capture = m.1.no_capture }) in
          omega arith

      by : (block (drop (suc n) ops) < so_of t.chains) ⊎ (so_of t.chains ≤ block (drop (suc n) ops)) → so_of t.chains ≤ block (drop (suc n) ops)
      by (inl less) = absurd (few less)
      by (inr all) = all

  module _ (es : List Entry) where
    not_wrong : AreRight t (operations es) → (i : ℕ) → CapturesWrong (needed_for t) es i → ⊥
    not_wrong right i w = by w.wrong
      where
        here : CaptureAt es i w.pattern
        here = capture_at es i w.pattern w.there

        range : (1 ≤ w.pattern) × (w.pattern ≤ t.patterns)
        range = right.no_other (length (operations (take i es))) w.pattern here.captures

        by : (w.pattern ≡ 0) ⊎ (t.patterns < w.pattern) ⊎ ((q : ℕ) × (q < i) × (slice_get es q ≡ Some (entry.Capture w.pattern))) → ⊥
        by (inl none) = omega (arith, none, range.0)
        by (inr (inl past)) = omega (arith, past, range.1)
        by (inr (inr before)) =
            let there = capture_at es before.0 w.pattern before.2 in
            let same = one_place (operations es) right (length (operations (take before.0 es))) (length (operations (take i es))) w.pattern there.captures here.captures in
            omega (arith, same, earlier_capture es before.0 i w.pattern before.1 before.2)

    none_missing : AreRight t (operations es) → (i : ℕ) → MissesPatterns (needed_for t) es i → ⊥
    none_missing right i m =
        omega (arith, enough_captured t.patterns es (λ k first last. let c = right.captures k first last in let f = entry_of es c.place k c.captures in (f.place, f.there)))

    loads_enough : AreRight t (operations es) → (i : ℕ) → LoadsFew (needed_for t) es i → ⊥
    loads_enough right i l =
        let here = capture_at es i l.pattern l.there in
        let n = length (operations (take i es)) in
        let chain = attained in_length t.chains (shifts_since 0 (operations (take i es))) l.few in
        let run = right.loads (zero_but l.pattern) in
        let few : shifts_since 0 (take (length (operations (take i es))) (operations es)) < in_length chain.1 = rw here.before chain.3 in
        too_few l.pattern chain.1 (operations es) (run.0 chain.0) (length (operations (take i es))) here.captures few
        (λ m c less e. ne_eqb c l.pattern (λ same. let both = one_place (operations es) right m (length (operations (take i es))) l.pattern (ap (λ v. slice_get (operations es) m) same ∙ e ∙ ap (λ v. Some (Capture v)) same) here.captures in omega arith))
        (λ m c r x e there is. run.1 m c chain.0 r chain.1 x e chain.2 there is)

    unloads_enough : AreRight t (operations es) → (i : ℕ) → UnloadsFew (needed_for t) es i → ⊥
    unloads_enough right i u = by u.ends
      where
        unloaded : AreUnloaded (so_of t.chains) false 0 (operations es)
        unloaded = record { first = λ never. absurd cc; each = λ n k e. behind_enough (operations es) right n k e }

        few : shifts_since 0 (operations (take i es)) < so_of t.chains
        few = u.few

        has : has_capture false (operations (take i es)) ≡ true
        has = before_captured es i u.capture

        by : EndsBlock es i → ⊥
        by (inl at) =
            let here = capture_at es i at.0 at.1 in
            let has' : has_capture false (take (length (operations (take i es))) (operations es)) ≡ true = rw here.before has in
            let enough = since_enough_at (so_of t.chains) false 0 (operations es) unloaded (length (operations (take i es))) at.0 here.captures has' in
            let enough' : so_of t.chains ≤ shifts_since 0 (operations (take i es)) = rw here.before at enough in
            omega arith
        by (inr end) =
            let whole = take_all i es (omega arith) in
            let has' : has_capture false (operations es) ≡ true = rw whole at has in
            let few' : shifts_since 0 (operations es) < so_of t.chains = rw whole at few in
            omega (arith, since_enough (so_of t.chains) false 0 (operations es) unloaded has')

    module _ (lasting : All IsLasting es) (right : AreRight t (operations es)) where
      not_early : (i : ℕ) → StartsEarly (needed_for t) es i → ⊥
      not_early i early =
          first_of_it early.entry (operations (drop (suc i) es)) (operations (take i es)) early.acts (lasting_at es i early.entry lasting early.there)
          (ap (λ v. slice_get v (length (operations (take i es)))) (sym (parted_at es i early.entry early.there)) ∙ right.rests (length (operations (take i es))) early.few)

      -- ---- patterns

      -- ---- spaces

      pub right_faultless : IsFaultless (needed_for t) es
      right_faultless (fault.Setup i) has = not_early i has
      right_faultless (fault.Pattern i) has = not_wrong right i has
      right_faultless (fault.Load i) has = loads_enough right i has
      right_faultless (fault.Unload i) has = unloads_enough right i has
      right_faultless (fault.Missing i) has = none_missing right i has

-- ---- what is settled of programs for the chains of a wrapper

ordered : (m : ModuleValue) (t : Test) (w : WrapperValue) → AreOrdered (wrapped_test m t w).chains
ordered m t w = record {
  front = λ j cells at. rw (← (get_or_from_slice_get (wrapped_test m t w).chains j cells [] at)) (dealt_loads_front (scan_lengths m w.scan) 0 0 w.chains j);
  ends = λ j cells at. rw (← (get_or_from_slice_get (wrapped_test m t w).chains j cells [] at)) (dealt_reads_end (scan_lengths m w.scan) 0 0 w.chains j);
}

pub faultless_are_right : FaultlessAreRight
faultless_are_right m t w entries live none = faultless_right (wrapped_test m t w) entries (ordered m t w) live none

pub right_are_faultless : RightAreFaultless
right_are_faultless m t w entries lasting right = right_faultless (wrapped_test m t w) entries lasting right

pub right_are_long : RightAreLong
right_are_long m t w entries live lasting right = faultless_long (wrapped_test m t w) entries live (right_faultless (wrapped_test m t w) entries lasting right)
