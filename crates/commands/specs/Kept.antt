-- What is shown of one command by itself; all that the top call promises of it follows from that.
use Rattle.std.specs.Prelude.{ℕ, Bool, List, Option}
use Rattle.outside.specs.Held.{Files, Appended}
use Rattle.commands.specs.declared.Status.TheVariants.{Done}
use Rattle.commands.specs.Procedures.{Procedure}
use Rattle.commands.specs.Answers.{Answers}
use Rattle.commands.specs.Ends.{IsCommand}
use Rattle.commands.specs.Settled.{IsSettled}

-- The steps of a command are a command's, the files fix at most one answer to them (and its text, where that is fixed), and what the
-- command promises over the files holds where an answer to them was written.
pub record IsKept (fixed : Bool) (steps : Procedure) (Trusts : Files → (old new : Option (List ℕ)) → Type 0) : Type 0 where
  pub named : IsCommand steps
  pub settled : IsSettled fixed steps
  pub trusted : (files : Files) (text : List ℕ) (old new : Option (List ℕ)) → Answers steps files Done text → Appended old text new →
      Trusts files old new
