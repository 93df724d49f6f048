use Rattle.std.proofs.Common.{◌≡◌, true, arith, rules, sym, subst}
use Rattle.std.proofs.lemmas.List.{length-map}
use Rattle.std.proofs.lemmas.Result.{IfOk-weaker}
use Rattle.plan_model.specs.Proofs.{ProofValue, node_value, proof_value}
use Rattle.bus_proofs.specs.Bounds.{IsAccepted}
use Rattle.proof_text.specs.ProofLines.{proof_text}
use Rattle.bound_prover.specs.Proved.{IsProofText, IsReadable}
use Rattle.bound_prover.proofs.Printing.{kept_text}
use Rattle.bound_prover.proofs.accepting.is_kept.Goals as goal

pub returns : goal.returns
returns c =
    let found = c.found.inside in
    let soc = c.args.problem.now.soc in
    let limits = c.args.problem.now.limits in
    let yes : c.in_ok-reads_back.field-0 ≡ true = search rules in
    let readable : IsReadable (proof_value c.found.inside.proof) = subst IsReadable (sym c.found.view_is) (c.in_ok-reads_back.ensures yes) in
    IfOk-weaker c.is_accepted.result (λ yes. yes ≡ true → IsAccepted soc limits (proof_value found.proof))
    (λ yes. yes ≡ true → IsProofText soc limits c.args.cycles c.args.nodes (proof_text c.args.found.now))
    (λ yes accepted is.
    subst (λ (value : ProofValue). IsProofText soc limits c.args.cycles c.args.nodes (proof_text value)) c.found.view_is
    (kept_text soc limits c.args.cycles c.args.nodes (proof_value found.proof) found.text.items c.requires.some c.found.invariant readable
    (omega (arith, c.if-proof-cycles.false)) (omega (arith, c.if-len-nodes.false, c.len.ensures, length-map found.proof.nodes.items node_value))
    (omega (arith, c.if-len-gt-FILE_MOST.false, c.len-2.ensures)) (accepted is)))
    c.is_accepted.ensures
