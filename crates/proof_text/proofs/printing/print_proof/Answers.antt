use Rattle.std.proofs.Common.{sym, subst, rules}
use Rattle.plan_model.specs.Proofs.{proof_value}
use Rattle.proof_text.specs.Answers.{SaysProof}
use Rattle.proof_text.proofs.PrintedProofs.{printed_is_read, proof_written}
use Rattle.proof_text.proofs.printing.print_proof.Goals as goal

pub returns-clause-text : goal.returns-clause-text
returns-clause-text c =
    proof_written (proof_value c.args.proof.now) c.push_head.new.to.items c.push_lists.new.to.items c.push_nodes.new.to.items
    (search rules) (search rules) (search rules)

pub returns-clause-read_again : goal.returns-clause-read_again
returns-clause-read_again c = λ may range.
    subst (λ text. SaysProof text (proof_value c.args.proof.now)) (sym (returns-clause-text c)) (printed_is_read (proof_value c.args.proof.now) may range)
