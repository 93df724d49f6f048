-- The whole text: its head, the parts of all cycles, and its tail.
use Rattle.std.proofs.Common.{◌≡◌, ℕ, Bool, List, [], ◌++◌, Option, ap, sym, subst, ◌∙◌, append-nil, append_assoc}
use Rattle.outside.specs.Held.{Appended, AppendedFront}
use Rattle.outside.proofs.PieceLemmas.{Appended-then}
use Rattle.soc_model.specs.Chips.{SocValue}
use Rattle.plan_model.specs.Plans.{PlanValue}
use Rattle.plan_model.specs.Runs.{Content}
use Rattle.vector_lines.specs.Marks.{Keys, Marks}
use Rattle.vector_lines.specs.Placed.{StandFor}
use Rattle.tester_vectors.proofs.Blocks.{front_after, front_longer}
use Rattle.cycle_texts.specs.ProgramText.{PartOf, parts_of, program_text, row_at}

module _ (head : List ℕ) (part : PartOf) (tail : List ℕ) (soc : SocValue) (plan : PlanValue) (content : Content) (marks : Marks) (cycles : ℕ) (same : cycles ≡ plan.cycles) where
  whole_is : program_text head part tail soc plan content marks ≡ head ++ (parts_of part (row_at soc plan content marks) 0 cycles ++ tail)
  whole_is = ap (λ (n : ℕ). head ++ (parts_of part (row_at soc plan content marks) 0 n ++ tail)) (sym same)

  pub whole_written : (a b c d : Option (List ℕ)) → Appended a head b → Appended b (parts_of part (row_at soc plan content marks) 0 cycles) c → Appended c tail d → Appended a (program_text head part tail soc plan content marks) d
  whole_written a b c d first parts last =
      subst (λ (t : List ℕ). Appended a t d) (sym whole_is)
      (Appended-then a b d head (parts_of part (row_at soc plan content marks) 0 cycles ++ tail) first
      (Appended-then b c d (parts_of part (row_at soc plan content marks) 0 cycles) tail parts last))

  pub head_stopped : (a b : Option (List ℕ)) → AppendedFront a head b → AppendedFront a (program_text head part tail soc plan content marks) b
  head_stopped a b front = front_longer a b head (parts_of part (row_at soc plan content marks) 0 plan.cycles ++ tail) front

  pub parts_stopped : (a b c : Option (List ℕ)) → Appended a head b → AppendedFront b (parts_of part (row_at soc plan content marks) 0 cycles) c → AppendedFront a (program_text head part tail soc plan content marks) c
  parts_stopped a b c first front =
      front_after a b c head (parts_of part (row_at soc plan content marks) 0 cycles) tail (program_text head part tail soc plan content marks) whole_is first front

  pub tail_stopped : (a b c d : Option (List ℕ)) → Appended a head b → Appended b (parts_of part (row_at soc plan content marks) 0 cycles) c → AppendedFront c tail d → AppendedFront a (program_text head part tail soc plan content marks) d
  tail_stopped a b c d first parts front =
      front_after a c d (head ++ parts_of part (row_at soc plan content marks) 0 cycles) tail [] (program_text head part tail soc plan content marks)
      (whole_is ∙ sym (append_assoc head (parts_of part (row_at soc plan content marks) 0 cycles) tail)
      ∙ ap (λ (t : List ℕ). (head ++ parts_of part (row_at soc plan content marks) 0 cycles) ++ t) (sym (append-nil tail)))
      (Appended-then a b c head (parts_of part (row_at soc plan content marks) 0 cycles) first parts) front

-- what holds of the text of a plan of a chip holds of that of the same ones
pub same_program : (R : List ℕ → Type 0) (keys : Keys) (drive : ℕ → ℕ → ℕ → Bool) (mark : ℕ → ℕ → ℕ → ℕ) (head : List ℕ) (part : PartOf) (tail : List ℕ) (soc soc' : SocValue) (plan plan' : PlanValue) (content : Content) (marks : Marks) → soc ≡ soc' → plan ≡ plan' → StandFor keys drive mark soc' content marks →
    ((content : Content) (marks : Marks) → StandFor keys drive mark soc content marks → R (program_text head part tail soc plan content marks)) → R (program_text head part tail soc' plan' content marks)
same_program R keys drive mark head part tail soc soc' plan plan' content marks e f stand holds =
    subst (λ (p : PlanValue). R (program_text head part tail soc' p content marks)) f
    (subst (λ (s : SocValue). R (program_text head part tail s plan content marks)) e
    (holds content marks (subst (λ (s : SocValue). StandFor keys drive mark s content marks) (sym e) stand)))
