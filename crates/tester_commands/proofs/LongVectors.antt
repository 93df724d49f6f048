-- What is written of a run.
use Rattle.std.proofs.Common.{◌≡◌, ℕ, ◌<◌, ◌≤◌, ◌⊎◌, inl, inr, List, Option, None, Some, IfOk, Result, refl, ap, sym, subst, ◌∙◌, IsTrue}
use Rattle.std.specs.Global.{Vec}
use Rattle.std.proofs.lemmas.Bool.{cases_lt, lt-ltb, le-ltb}
use Rattle.outside.specs.declared.NoMemory.{NoMemory as MemoryFault}
use Rattle.plan_model.specs.Plans.{PlanValue}
use Rattle.tester_vectors.specs.declared.Outcome.TheVariants.{RunTooLong}
use Rattle.tester_vectors.specs.declared.TheConstants.{RUN_MOST}
use Rattle.tester_vectors.specs.VectorText.{wire_cycles, too_many}
use Rattle.commands.specs.declared.Status.{Status}
use Rattle.commands.specs.declared.Status.TheVariants.{Done, Refused}
use Rattle.commands.specs.declared.Verdict.{Verdict}
use Rattle.commands.specs.Decides.{GivesText}
use Rattle.commands.specs.Ends.{IsWritten, Writes, WritesUnless}
use Rattle.commands.specs.Texts.{is_line, run_line, run_refusal}
use Rattle.commands.proofs.FileStages.{line_refuses}
use Rattle.commands.proofs.UnlessRefused.{refusal_written}

refused_long : (value : PlanValue) → RUN_MOST < wire_cycles value → run_refusal (too_many value) ≡ Some (run_line (wire_cycles value))
refused_long value long = rw (lt-ltb RUN_MOST (wire_cycles value) long) refl

taken_short : (value : PlanValue) → (RUN_MOST < wire_cycles value → ⊥) → run_refusal (too_many value) ≡ None
taken_short value short = go (cases_lt RUN_MOST (wire_cycles value)) where
  go : (RUN_MOST < wire_cycles value) ⊎ (wire_cycles value ≤ RUN_MOST) → run_refusal (too_many value) ≡ None
  go (inl long) = absurd (short long)
  go (inr past) = rw (le-ltb RUN_MOST (wire_cycles value) past) refl

pub run_written : (value : PlanValue) (text : List ℕ) (kb ka : ℕ) (old new : Option (List ℕ)) (end : Status) → (RUN_MOST < wire_cycles value → ⊥) → IsWritten Done text kb ka old end new → WritesUnless (run_refusal (too_many value)) text kb ka old end new
run_written value text kb ka old new end short put = subst (λ r. WritesUnless r text kb ka old end new) (sym (taken_short value short)) (inr put)

pub long_written : (value : PlanValue) (text : List ℕ) (cells : ℕ) (made : Result (Vec ℕ) MemoryFault) (verdict : Verdict) (kb ka : ℕ) (old new : Option (List ℕ)) (end : Status) → RUN_MOST < wire_cycles value → cells ≡ wire_cycles value →
    IfOk made (λ text. text.items ≡ run_line cells) → IfOk made (λ text. IsTrue (is_line text.items)) → GivesText Refused made verdict → Writes verdict kb ka old end new → WritesUnless (run_refusal (too_many value)) text kb ka old end new
long_written value text cells made verdict kb ka old new end long same is one given put =
    let refusal : run_refusal (too_many value) ≡ Some (run_line cells) = refused_long value long ∙ ap (λ n. Some (run_line n)) (sym same) in
    subst (λ r. WritesUnless r text kb ka old end new) (sym refusal) (refusal_written (run_line cells) text verdict kb ka old new end (line_refuses (run_line cells) made verdict is one given) put)

pub same_cells : (m n : ℕ) → RunTooLong m ≡ RunTooLong n → m ≡ n
same_cells m n e = cc
