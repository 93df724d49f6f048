-- What is shown of each command by itself, and that all that the top call promises follows from it.
use Rattle.std.proofs.Common.{◌≡◌, ◌∙◌, refl, ℕ, List, Option, None, Some, IfSome, subst}
use Rattle.std.specs.FinMap.{empty}
use Rattle.outside.specs.Held.{Files}
use Rattle.outside.specs.declared.sink.Put.{Put}
use Rattle.commands.specs.declared.Status.{Status}
use Rattle.commands.specs.declared.Status.TheVariants.{Done}
use Rattle.commands.specs.Commands.{CommandValue, IsInRange, Print, Widths, Plan, Check, Chart, Vectors, Sample, Locate, Tree, Split, Shift, Improve, Picture, Simulate, Bound, Prove, Data, Retarget, Stil, Vcd, Verilog, Report, PictureWithProof}
use Rattle.commands.specs.Kept.{IsKept}
use Rattle.commands.specs.Ends.{IsCommand, EndsByWords, MayAnswer, Ends}
use Rattle.commands.specs.Endings.{EndingValue, Closes, LoadsEnding, WritesEnding, PutsEnding}
use Rattle.commands.specs.Loads.{LoadsOf, EndsByLoads}
use Rattle.commands.specs.Procedures.{asked}
use Rattle.commands.specs.Promises.{IsTopCall}
use Rattle.commands.specs.Settled.{FilesSayOneThing, IsSettled}
use Rattle.commands.specs.Trusted.{TrustLaws}
use Rattle.commands.proofs.Endings.{ending_promised}
use Rattle.commands.proofs.Kept.{trusted_at_end, answered_without_files, never_bad}
use Rattle.plan_text.specs.Laws.{PrintedPlansAreRead}
use Rattle.plan_commands.specs.Laws.{PlanLaws}
use Rattle.plan_commands.specs.Procedures.{sample_refusal}
use Rattle.plan_commands.specs.Promises.{IsSummedUp}
use Rattle.plan_commands.proofs.Kept.{print_kept, widths_kept, plan_kept, check_kept, chart_kept, sample_kept, locate_kept, split_kept, shift_kept, report_kept}
use Rattle.tester_commands.specs.declared.ending.RunForm.TheVariants as form
use Rattle.tester_commands.proofs.Kept.{vectors_kept, simulate_kept, data_kept, retarget_kept, program_kept}
use Rattle.bound_commands.specs.Laws.{BoundLaws}
use Rattle.bound_commands.proofs.Kept.{tree_kept, bound_kept, picture_kept, picture_with_proof_kept}
use Rattle.plan_improver.proofs.Kept.{improve_kept}
use Rattle.bound_prover.proofs.Kept.{prove_kept}
use Rattle.soctest.specs.Commands.{procedure_of, requested, is_fixed, fixes_text, EndsByCommand}
use Rattle.soctest.specs.Headlines.{Headline, Trusts}

-- the laws that all this rests on
pub record Laws : Type 0 where
  pub files : FilesSayOneThing
  pub trust : TrustLaws
  pub plans : PlanLaws
  pub bounds : BoundLaws
  pub printed : PrintedPlansAreRead

-- each command
kept : Laws → (command : CommandValue) → IsInRange command → IsKept (is_fixed command) (procedure_of command) (Trusts command)
unfolding procedure_of
kept laws (Print soc) range = print_kept laws.files soc
kept laws (Widths soc wires) range = widths_kept laws.files soc wires
kept laws (Plan soc limits) range = plan_kept laws.files laws.trust soc limits
kept laws (Check soc limits plan) range = check_kept laws.files laws.trust soc limits plan
kept laws (Chart soc limits plan) range = chart_kept laws.files laws.trust soc limits plan
kept laws (Vectors soc limits plan seed) range = vectors_kept laws.files laws.trust soc limits plan seed
kept laws (Sample n seed) range = sample_kept laws.trust n seed
kept laws (Locate soc limits plan log) range = locate_kept laws.files laws.trust laws.plans soc limits plan log
kept laws (Tree soc limits tree) range = tree_kept laws.files soc limits tree
kept laws (Split soc limits most) range = split_kept laws.files laws.trust soc limits most range.0
kept laws (Shift soc limits plan program) range = shift_kept laws.files laws.trust laws.plans soc limits plan program
kept laws (Improve soc limits plan tries seed) range = improve_kept laws.files laws.trust laws.printed soc limits plan tries seed
kept laws (Picture soc limits plan) range = picture_kept laws.files laws.trust laws.bounds soc limits plan
kept laws (Simulate soc limits plan seed) range = simulate_kept laws.files laws.trust soc limits plan seed
kept laws (Bound soc limits proof) range = bound_kept laws.files laws.bounds soc limits proof
kept laws (Prove soc limits plan nodes) range = prove_kept laws.files laws.bounds.proofs.are_bounds soc limits plan nodes
kept laws (Data soc seed) range = data_kept laws.files soc seed
kept laws (Retarget soc limits plan «data») range = retarget_kept laws.files laws.trust soc limits plan «data»
kept laws (Stil soc limits plan «data») range = program_kept laws.files laws.trust form.Stil soc limits plan «data»
kept laws (Vcd soc limits plan «data») range = program_kept laws.files laws.trust form.Vcd soc limits plan «data»
kept laws (Verilog soc limits plan «data») range = program_kept laws.files laws.trust form.Verilog soc limits plan «data»
kept laws (Report soc limits plan) range = report_kept laws.files laws.trust laws.plans soc limits plan
kept laws (PictureWithProof soc limits plan proof) range = picture_with_proof_kept laws.files laws.trust laws.bounds soc limits plan proof

-- there is at most one answer to the files
pub settled : Laws → (command : Option CommandValue) → IfSome command IsInRange → IsSettled (fixes_text command) (requested command)
unfolding requested fixes_text
settled laws None range = tt
settled laws (Some command) range = (kept laws command range).settled

-- words that ask for nothing are no command
no_command : Laws → (command : Option CommandValue) → IfSome command IsInRange → (IsCommand (requested command) → ⊥) → command ≡ None
unfolding requested
no_command laws None range asks = refl
no_command laws (Some command) range asks = absurd (asks (kept laws command range).named)

-- a call that decides so, and then writes what it decided, keeps what is promised of every answer
pub answered : {S K : Type 0} {is_load : LoadsOf S} {is_put : K → List ℕ → Put → K → Type 0} {held : Option Files} {first last : S} {sb sa : ℕ} {out_first out_last : K} {kb ka : ℕ} {old new : Option (List ℕ)} {end : Status} →
    Laws → (decided command : Option CommandValue) → decided ≡ command → IfSome command IsInRange → (e : EndingValue) → Closes (requested decided) held sb sa e → LoadsEnding is_load (requested decided) first e last → (decided ≡ None → last ≡ first) →
    WritesEnding e kb ka old end new → PutsEnding is_put e out_first end out_last → IsTopCall is_load is_put (fixes_text command) (requested command) held first last sb sa out_first out_last kb ka old end new
answered {S} {K} {is_load} {is_put} {held} {first} {last} {sb} {sa} {out_first} {out_last} {kb} {ka} {old} {new} {end} laws decided command same range e closes loads untouched written put =
    ending_promised e (settled laws command range) (subst (λ (c : Option CommandValue). Closes (requested c) held sb sa e) same closes) (subst (λ (c : Option CommandValue). LoadsEnding is_load (requested c) first e last) same loads)
    (λ asks. untouched (same ∙ no_command laws command range asks)) written put

-- the words are bad exactly where they are no command
pub by_command : Laws → (command : Option CommandValue) → IfSome command IsInRange → (failed : Type 0) (end : Status) → EndsByWords (requested command) failed end → EndsByCommand command failed end
unfolding requested EndsByCommand
by_command laws None range failed end by_words = by_words
by_command laws (Some command) range failed end by_words = never_bad (procedure_of command) failed end (kept laws command range).named by_words

-- ---- the headline

-- what the command promises, over the files that the shelf tells
trusted : Laws → (command : Option CommandValue) → IfSome command IsInRange → (held : Option Files) (sb sa kb ka : ℕ) (old new : Option (List ℕ)) (end : Status) → Ends (MayAnswer (requested command) held sb sa) kb ka old end new →
    (files : Files) (given : CommandValue) → held ≡ Some files → command ≡ Some given → end ≡ Done → Trusts given files old new
unfolding requested
trusted laws command range held sb sa kb ka old new end ends files given told is done =
    trusted_at_end (kept laws given (subst (λ (c : Option CommandValue). IfSome c IsInRange) is range)) held sb sa kb ka old new end files
    (subst (λ (c : Option CommandValue). Ends (MayAnswer (asked procedure_of c) held sb sa) kb ka old end new) is ends) told done

-- `sample` reads no file, so that what it writes is an answer also where the shelf tells nothing
sampled : {S : Type 0} (is_load : LoadsOf S) → Laws → (command : Option CommandValue) → IfSome command IsInRange → (first last : S) (kb ka : ℕ) (old new : Option (List ℕ)) (end : Status) → EndsByLoads is_load (requested command) first last kb ka old end new →
    (n seed : ℕ) → command ≡ Some (Sample n seed) → end ≡ Done → IsSummedUp n seed old new
unfolding requested procedure_of
sampled is_load laws command range first last kb ka old new end loads n seed is done =
    let a = answered_without_files is_load (sample_refusal n) _ first last kb ka old new end empty (subst (λ (c : Option CommandValue). EndsByLoads is_load (asked procedure_of c) first last kb ka old end new) is loads) done in
    (kept laws (Sample n seed) (subst (λ (c : Option CommandValue). IfSome c IsInRange) is range)).trusted empty a.0 old new a.1 a.2

pub headline : {S K : Type 0} {is_load : LoadsOf S} {is_put : K → List ℕ → Put → K → Type 0} {held : Option Files} {first last : S} {sb sa : ℕ} {out_first out_last : K} {kb ka : ℕ} {old new : Option (List ℕ)} {end : Status} →
    Laws → (command : Option CommandValue) → IfSome command IsInRange → IsTopCall is_load is_put (fixes_text command) (requested command) held first last sb sa out_first out_last kb ka old end new → Headline command held old end new
headline {S} {K} {is_load} {is_put} {held} {first} {last} {sb} {sa} {out_first} {out_last} {kb} {ka} {old} {new} {end} laws command range answers = record {
  trusted = trusted laws command range held sb sa kb ka old new end answers.ends;
  sampled = sampled is_load laws command range first last kb ka old new end answers.by_loads;
}
