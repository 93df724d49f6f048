-- Where a program is counted to its end, and its first fault.
use Rattle.std.proofs.Common.{◌≡◌, ℕ, suc, Option, None, Some, List, [], ◌∷◌, ◌++◌, length, take, ap, ◌∙◌, sym, arith, ◌⊎◌, inl, inr, zero, ◌+◌, ◌<◌, false, get_or, refl, ◌≤◌, slice_get, Result, Ok, Err, OnOk, IfOk, IfErr, IsOk, All}
use Rattle.std.proofs.lemmas.List.{take_all}
use Rattle.shift_program.specs.declared.Entry.{Entry}
use Rattle.shift_program.specs.declared.ProgramFault.{ProgramFault}
use Rattle.shift_program.specs.declared.counting.Need.{Need}
use Rattle.shift_program.specs.declared.counting.Passed.{Passed}
use Rattle.shift_program.specs.Faults.{patterns_of, captured, IsFault, IsFaultless, Needed, place_of, rank, needed_for}
use Rattle.shift_program.specs.Counting.{needed_by, AreCounted, passed_more, entry_fault, end_fault}
use Rattle.shift_program.proofs.Counts.{IsClear, Shown, entry_shown, end_shown, clear_faultless, counted_more, captured_more, taken_more, clear_first, counted_first}
use Rattle.std.proofs.lemmas.Bool.{cases_order}
use Rattle.std.proofs.lemmas.Option.{slice_get-get_or}
use Rattle.shift_program.specs.Laws.{OneFault, FaultlessOrFault, FaultlessAreRight, RightAreFaultless, RightAreLong}
use Rattle.soc_model.specs.declared.Test.{Test}
use Rattle.soc_model.specs.Chips.{ModuleValue}
use Rattle.plan_model.specs.Operations.{ops_of}
use Rattle.plan_model.specs.Plans.{WrapperValue, si_of, so_of}
use Rattle.shift_program.specs.Programs.{operations, wrapped_test, IsLasting}
use Rattle.shift_program.specs.RightPrograms.{AreRight}
use Rattle.shift_program.specs.declared.Entry.TheVariants as entry
use Rattle.shift_program.specs.declared.ProgramFault.TheVariants as fault

-- ---- one entry more, as the checker goes on

pub counted_at : (es : List Entry) (i n : ℕ) (e : Entry) (p q : Passed) → n ≡ suc i → slice_get es i ≡ Some e → AreCounted (take i es) p →
    q ≡ passed_more p e → AreCounted (take n es) q
counted_at es i n e p q next at counted is =
    rw next
    (rw (taken_more es i e at) (rw is (counted_more (take i es) e p counted)))

pub seen_at : (es : List Entry) (i n : ℕ) (e : Entry) (old new : List ℕ) → n ≡ suc i → slice_get es i ≡ Some e → old ≡ captured (take i es) →
    new ≡ old ++ patterns_of e → new ≡ captured (take n es)
seen_at es i n e old new next at same is =
    is ∙ ap (λ xs. xs ++ patterns_of e) same ∙ sym (captured_more (take i es) e) ∙ ap captured (sym (taken_more es i e at)) ∙ ap (λ m. captured (take m es)) (sym next)

module _ (need : Need) (p : Passed) (seen : List ℕ) (es : List Entry) (i place : ℕ) where
  shown_at : (e : Entry) (o : Option ProgramFault) → place ≡ i → seen ≡ captured (take i es) → AreCounted (take i es) p →
      IsClear (needed_by need) es i → slice_get es i ≡ Some e →
      o ≡ entry_fault need p seen e place → Shown (needed_by need) es i o
  shown_at e o same_place same_seen counted clear at is =
      rw (← (ap (λ s. entry_fault need p s e i) (sym same_seen) ∙ ap (λ q. entry_fault need p seen e q) (sym same_place) ∙ sym is))
      (entry_shown need p es i e counted clear at)

  pub fault_at : (e : Entry) (f : ProgramFault) → place ≡ i → seen ≡ captured (take i es) → AreCounted (take i es) p → IsClear (needed_by need) es i →
      slice_get es i ≡ Some e →
      Some f ≡ entry_fault need p seen e place → IsFault (needed_by need) es f
  fault_at e f same_place same_seen counted clear at is = shown_at e (Some f) same_place same_seen counted clear at is

  pub clear_at : (n : ℕ) (e : Entry) → n ≡ suc i → place ≡ i → seen ≡ captured (take i es) → AreCounted (take i es) p →
      IsClear (needed_by need) es i → slice_get es i ≡ Some e →
      None ≡ entry_fault need p seen e place → IsClear (needed_by need) es n
  clear_at n e next same_place same_seen counted clear at is =
      rw next (shown_at e None same_place same_seen counted clear at is)

  shown_end : (o : Option ProgramFault) → place ≡ i → i ≡ length es → seen ≡ captured (take i es) → AreCounted (take i es) p → IsClear (needed_by need) es i →
      o ≡ end_fault need p seen place → Shown (needed_by need) es i o
  shown_end o same_place end same_seen counted clear is =
      rw (← (ap (λ s. end_fault need p s i) (sym same_seen) ∙ ap (λ q. end_fault need p seen q) (sym same_place) ∙ sym is))
      (end_shown need p es i counted (take_all i es (omega arith)) clear end)

  pub fault_end : (f : ProgramFault) → place ≡ i → i ≡ length es → seen ≡ captured (take i es) → AreCounted (take i es) p → IsClear (needed_by need) es i →
      Some f ≡ end_fault need p seen place → IsFault (needed_by need) es f
  fault_end f same_place end same_seen counted clear is = shown_end (Some f) same_place end same_seen counted clear is

  pub none_end : place ≡ i → i ≡ length es → seen ≡ captured (take i es) → AreCounted (take i es) p → IsClear (needed_by need) es i →
      None ≡ end_fault need p seen place → IsFaultless (needed_by need) es
  none_end same_place end same_seen counted clear is =
      clear_faultless (needed_by need) es (suc i) (omega arith) (shown_end None same_place end same_seen counted clear is)

-- ---- in a program no fault shows, or exactly one shows first

-- the fault of a rank at a place
abbrev of_rank : ℕ → ℕ → ProgramFault
of_rank zero i = fault.Setup i
of_rank (suc zero) i = fault.Pattern i
of_rank (suc (suc zero)) i = fault.Load i
of_rank (suc (suc (suc zero))) i = fault.Missing i
of_rank (suc (suc (suc (suc n)))) i = fault.Unload i

of_its_rank : (f : ProgramFault) → of_rank (rank f) (place_of f) ≡ f
of_its_rank (fault.Setup i) = refl
of_its_rank (fault.Pattern i) = refl
of_its_rank (fault.Load i) = refl
of_its_rank (fault.Missing i) = refl
of_its_rank (fault.Unload i) = refl

pub one_fault : OneFault
one_fault needed entries f g a b = by (cases_order (place_of f) (place_of g))
  where
    ranks : place_of f ≡ place_of g → (rank f ≡ rank g) ⊎ ((rank f < rank g) ⊎ (rank g < rank f)) → f ≡ g
    ranks place (inl same) = sym (of_its_rank f) ∙ ap (λ r. of_rank r (place_of f)) same ∙ ap (of_rank (rank g)) place ∙ of_its_rank g
    ranks place (inr (inl less)) = absurd (b.first f a.has (inr (place, less)))
    ranks place (inr (inr more)) = absurd (a.first g b.has (inr (sym place, more)))

    by : (place_of f ≡ place_of g) ⊎ ((place_of f < place_of g) ⊎ (place_of g < place_of f)) → f ≡ g
    by (inl same) = ranks same (cases_order (rank f) (rank g))
    by (inr (inl less)) = absurd (b.first f a.has (inl less))
    by (inr (inr more)) = absurd (a.first g b.has (inl more))

abbrev Answer : Needed → List Entry → Type 0
Answer needed entries = IsFaultless needed entries ⊎ ((f : ProgramFault) × IsFault needed entries f)

module _ (need : Need) (es : List Entry) where
  at_end : (i : ℕ) (p : Passed) → i ≡ length es → AreCounted (take i es) p → IsClear (needed_by need) es i → Answer (needed_by need) es
  at_end i p end is clear = by (end_fault need p (captured (take i es)) i) (end_shown need p es i is (take_all i es (omega arith)) clear end)
    where
      by : (o : Option ProgramFault) → Shown (needed_by need) es i o → Answer (needed_by need) es
      by None next = inl (clear_faultless (needed_by need) es (suc i) (omega arith) next)
      by (Some f) shows = inr (f, shows)

  from_place : (left i : ℕ) (p : Passed) → i + left ≡ length es → AreCounted (take i es) p → IsClear (needed_by need) es i → Answer (needed_by need) es
  from_place zero i p end is clear = at_end i p (omega arith) is clear
  from_place (suc left) i p end is clear = by (entry_fault need p (captured (take i es)) e i) (entry_shown need p es i e is clear at) (λ q counted next. from_place left (suc i) q (omega arith) counted next)
    where
      e : Entry
      e = get_or es i (entry.Rest 0)

      at : slice_get es i ≡ Some e
      at = slice_get-get_or es i (entry.Rest 0) (omega arith)

      by : (o : Option ProgramFault) → Shown (needed_by need) es i o → ((q : Passed) → AreCounted (take (suc i) es) q → IsClear (needed_by need) es (suc i) → Answer (needed_by need) es) → Answer (needed_by need) es
      by None next later = later (passed_more p e) (rw (taken_more es i e at) (counted_more (take i es) e p is)) next
      by (Some f) shows later = inr (f, shows)

pub faultless_or_fault : FaultlessOrFault
faultless_or_fault needed entries =
    from_place (record { setup = needed.setup; si = needed.si; so = needed.so; patterns = needed.patterns }) entries (length entries) 0 (record { operations = 0; shifts = 0; acted = false }) (omega arith)
    (rw (← (none_taken entries)) (counted_first (record { operations = 0; shifts = 0; acted = false }) refl refl refl)) (clear_first needed entries)
  where
    none_taken : (es : List Entry) → [] ≡ take 0 es
    none_taken [] = refl
    none_taken (e ∷ es) = refl

-- ---- from what was counted to what is answered

module _ (m : ModuleValue) (t : Test) (w : WrapperValue) where
  -- what was counted of a program: its operations and that it has no fault, or the fault that shows first
  pub record IsCounted (entries : List Entry) (r : Result ℕ ProgramFault) : Type 0 where
    pub operations : IfOk r (λ n. n ≡ length (operations entries))
    pub faultless : OnOk r (IsFaultless (needed_for (wrapped_test m t w)) entries)
    pub fault : IfErr r (IsFault (needed_for (wrapped_test m t w)) entries)

  -- by the lengths that were found, over the entries as they were lent
  pub counted_by : (si so : ℕ) (entries lent : List Entry) (r : Result ℕ ProgramFault) → si ≡ si_of (wrapped_test m t w).chains →
      so ≡ so_of (wrapped_test m t w).chains → lent ≡ entries →
      IfOk r (λ n. n ≡ length (operations lent)) → OnOk r (IsFaultless (record { setup = m.setup; si = si; so = so; patterns = t.patterns }) lent) →
      IfErr r (IsFault (record { setup = m.setup; si = si; so = so; patterns = t.patterns }) lent) → IsCounted entries r
  counted_by si so entries lent r same_si same_so same a b f =
      record {
        operations = rw (← same) a;
        faultless = rw (← same) (rw (← same_so) (rw (← same_si) b));
        fault = rw (← same) (rw (← same_so) (rw (← same_si) f));
      }

pub checked_right : FaultlessAreRight → (m : ModuleValue) (t : Test) (w : WrapperValue) (entries : List Entry) (r : Result ℕ ProgramFault) →
    1 ≤ t.patterns → IsCounted m t w entries r → OnOk r (AreRight (wrapped_test m t w) (operations entries))
checked_right law m t w entries (Ok n) live is = law m t w entries live is.faultless
checked_right law m t w entries (Err f) live is = tt

pub checked_exact : RightAreFaultless → (m : ModuleValue) (t : Test) (w : WrapperValue) (entries : List Entry) (r : Result ℕ ProgramFault) →
    All IsLasting entries → IsCounted m t w entries r → AreRight (wrapped_test m t w) (operations entries) → IsOk r
checked_exact law m t w entries (Ok n) lasting is right = refl
checked_exact law m t w entries (Err f) lasting is right = absurd (law m t w entries lasting right f is.fault.has)

pub checked_least : FaultlessAreRight → RightAreLong →
    (m : ModuleValue) (t : Test) (w : WrapperValue) (entries : List Entry) (r : Result ℕ ProgramFault) → 1 ≤ t.patterns → All IsLasting entries →
    IsCounted m t w entries r →
    IfOk r (λ n. length (ops_of m.setup (si_of (wrapped_test m t w).chains) (so_of (wrapped_test m t w).chains) t.patterns) ≤ n)
checked_least right law m t w entries (Ok n) live lasting is = omega (arith, law m t w entries live lasting (right m t w entries live is.faultless))
checked_least right law m t w entries (Err f) live lasting is = tt
