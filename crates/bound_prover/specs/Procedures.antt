-- How `prove` is answered.
use Rattle.std.specs.Prelude.{ℕ, List}
use Rattle.commands.specs.Procedures.{Procedure, done_with_any, with_all}
use Rattle.bound_prover.specs.Proved.{IsProofText}

-- The answer is the text of a proof of at most `nodes` nodes: for the chip and the limits, and the cycles of the plan that is
-- accepted for both.
abbrev pub prove_procedure : (soc limits plan : List ℕ) (nodes : ℕ) → Procedure
prove_procedure soc limits plan nodes =
    with_all soc limits plan (λ chip bounds given. done_with_any (IsProofText chip bounds given.cycles nodes))
