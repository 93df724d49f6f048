-- A file that shows a bound, behind the files that it is about.
use Rattle.std.specs.Prelude.{ℕ, List}
use Rattle.commands.specs.declared.FileKind.{FileKind}
use Rattle.commands.specs.declared.FileKind.TheVariants.{Tree, Proof}
use Rattle.commands.specs.declared.Verdict.{Verdict}
use Rattle.commands.specs.Procedures.{Procedure}
use Rattle.commands.specs.Decides.{AnswersBytes}
use Rattle.bound_commands.specs.declared.bound_files.BoundFile.{BoundFile}
use Rattle.bound_commands.specs.declared.bound_files.BoundFile.TheVariants as shows
use Rattle.bound_commands.specs.Pictures.{claim_picture}
use Rattle.bound_commands.specs.ProofReadings.{SaysAcceptedProof, RefusesProof}
use Rattle.bound_commands.specs.ProofTexts.{bound_line as proof_bound_line}
use Rattle.bound_commands.specs.TreeReadings.{SaysAcceptedTree, RefusesTree}
use Rattle.bound_commands.specs.TreeTexts.{bound_line as tree_bound_line}
use Rattle.bound_commands.specs.Procedures.{with_tree, with_proof, with_claim}

abbrev pub kind_of : BoundFile → FileKind
kind_of (shows.Tree both) = Tree
kind_of (shows.Proof both) = Proof
kind_of (shows.Claim all) = Proof

-- the verdict on its bytes
abbrev pub AnswersFile : BoundFile → List ℕ → Verdict → Type 0
AnswersFile (shows.Tree both) bytes verdict = AnswersBytes (SaysAcceptedTree both.now.soc both.now.limits)
    (RefusesTree both.now.soc both.now.limits) tree_bound_line bytes verdict
AnswersFile (shows.Proof both) bytes verdict = AnswersBytes (SaysAcceptedProof both.now.soc both.now.limits)
    (RefusesProof both.now.soc both.now.limits) proof_bound_line bytes verdict
AnswersFile (shows.Claim all) bytes verdict = AnswersBytes (SaysAcceptedProof all.now.soc all.now.limits)
    (RefusesProof all.now.soc all.now.limits) (claim_picture all.now.soc all.now.limits all.now.plan) bytes verdict

-- from a file of this name on
abbrev pub with_file : BoundFile → (name : List ℕ) → Procedure
with_file (shows.Tree both) name = with_tree name both.now.soc both.now.limits
with_file (shows.Proof both) name = with_proof name both.now.soc both.now.limits
with_file (shows.Claim all) name = with_claim name all.now.soc all.now.limits all.now.plan
