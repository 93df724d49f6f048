use Rattle.std.proofs.Common.{◌++◌, ◌∷◌, [], List, ap, refl, ◌∙◌}
use Rattle.plan_model.specs.declared.proof.Node.{Node}
use Rattle.plan_model.specs.declared.proof.Proof.{Proof}
use Rattle.plan_model.specs.declared.proof.Weights.{Weights}
use Rattle.plan_model.specs.declared.proof.Node.TheVariants.{Sum}
use Rattle.plan_model.specs.Proofs.{proof_value}
use Rattle.bound_prover.proofs.Printing.{nothing_value, nothing_printed}
use Rattle.bound_prover.proofs.accepting.nothing_text.Goals as goal

pub returns : goal.returns
returns c =
    let w : Weights = record { wire = 1; ranks = c.new.result; lists = c.new-2.result } in
    let p : Proof = record { claimed = 0; lists = c.new-3.result; nodes = c.push.new.to } in
    nothing_printed c.print_proof.result (proof_value p)
    (nothing_value p w refl c.new-3.ensures.items
    (c.in_ok-push.ensures.ok ∙ ap (λ (nodes : List Node). nodes ++ Sum w ∷ []) c.new-nodes.ensures.items)
    refl c.new.ensures.items c.new-2.ensures.items)
    c.print_proof.ensures.text c.print_proof.ensures.read_again
