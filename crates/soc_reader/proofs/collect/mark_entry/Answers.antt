use Rattle.std.proofs.Common.{◌≡◌, ◌∙◌, ◌||◌, inl, inr, Bool, true, false, refl, sym, ap, ◌&&◌, nat_eq, not}
use Rattle.std.proofs.lemmas.Bool.{cases_Bool, eqb-true, false≢true}
use Rattle.std.proofs.lemmas.Result.{on_ok_weaker}
use Rattle.soc_reader.specs.declared.keys.Key.{Key}
use Rattle.soc_reader.specs.declared.keys.Key.TheVariants.{SocName, TotalModules, Options, PowerFlag, XyFlag, Module, Level, Inputs, Outputs, Bidirs, Setup, ScanChains, TotalTests, Test, ScanUse, TamUse, Patterns, Power}
use Rattle.soc_reader.specs.Grammar.{row, same_subject}
use Rattle.soc_reader.specs.Marks.{is_marked}
use Rattle.soc_reader.specs.Table.{may_repeat}
use Rattle.soc_reader.proofs.Adding.{once_more}
use Rattle.soc_reader.proofs.collect.mark_entry.Goals as goal

-- a keyword's row says whether it may be given again
repeats_by_row : (k : Key) → may_repeat k ≡ (nat_eq (row k) 5 || nat_eq (row k) 13)
repeats_by_row SocName = refl
repeats_by_row TotalModules = refl
repeats_by_row Options = refl
repeats_by_row PowerFlag = refl
repeats_by_row XyFlag = refl
repeats_by_row Module = refl
repeats_by_row Level = refl
repeats_by_row Inputs = refl
repeats_by_row Outputs = refl
repeats_by_row Bidirs = refl
repeats_by_row Setup = refl
repeats_by_row ScanChains = refl
repeats_by_row TotalTests = refl
repeats_by_row Test = refl
repeats_by_row ScanUse = refl
repeats_by_row TamUse = refl
repeats_by_row Patterns = refl
repeats_by_row Power = refl

other_row : (j k : Key) → may_repeat j ≡ true → may_repeat k ≡ false → nat_eq (row k) (row j) ≡ false
other_row j k again once = elim (cases_Bool (nat_eq (row k) (row j))) [
  | inl same ↦ absurd (false≢true (sym once ∙ repeats_by_row k ∙ ap (λ n. nat_eq n 5 || nat_eq n 13) (eqb-true (row k) (row j) same) ∙ sym (repeats_by_row j) ∙ again))
  | inr other ↦ other
]

-- a keyword that may be given again gives nothing that may be given once
gives_none : (j k : Key) (both : Bool) → may_repeat j ≡ true → (not (may_repeat k) && (both && nat_eq (row k) (row j))) ≡ false
gives_none j k both again = by (may_repeat k) refl
  where
    no_row : (both same : Bool) → same ≡ false → (both && same) ≡ false
    no_row true same no' = no'
    no_row false same no' = refl

    by : (b : Bool) → may_repeat k ≡ b → (not b && (both && nat_eq (row k) (row j))) ≡ false
    by true e = refl
    by false e = no_row both (nat_eq (row k) (row j)) (other_row j k again e)

pub returns-then-may_repeat-clause-ok : goal.returns-then-may_repeat-clause-ok
returns-then-may_repeat-clause-ok c =
    on_ok_weaker c.open_test.result
    (λ same s k v. ap (λ (b : Bool). not (may_repeat k) && b) (same s k)
    ∙ sym (ap (λ (b : Bool). b || (not (may_repeat k) && is_marked s k c.args.given.now)) (gives_none c.args.key k (same_subject s c.args.subject) (sym c.may_repeat.ensures ∙ c.if-may_repeat.true))))
    c.open_test.ensures.ok

pub returns-clause-ok : goal.returns-clause-ok
returns-clause-ok c =
    on_ok_weaker c.mark_given.result
    (λ marked s k v. once_more s c.args.subject k c.args.key v (is_marked s k c.args.given.now) (is_marked s k c.mark_given.new.marks) (marked s k))
    c.mark_given.ensures.ok
