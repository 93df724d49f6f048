use Rattle.std.proofs.Common.{◌≡◌, ◌∙◌, ℕ, List, Result, Ok, Err, length, sym, ap, subst, IfOk}
use Rattle.std.proofs.lemmas.List.{length-map}
use Rattle.soc_model.specs.Chips.{SocValue}
use Rattle.plan_model.specs.Plans.{LimitsValue}
use Rattle.plan_model.specs.SoundLimits.{IsAcyclic}
use Rattle.bound_certificate.specs.declared.nodes.PrecedenceNode.{PrecedenceNode}
use Rattle.bound_certificate.specs.Nodes.{node_value, node_values, AreNodes}
use Rattle.bound_certificate.specs.Sums.{AreSums}
use Rattle.bound_certificate.specs.Chains.{SumsFall}
use Rattle.bound_certificate.specs.Winners.{names_of}
use Rattle.bound_certificate.proofs.WayBack.{fall, greatest_chain, printed_keeps}
use Rattle.bound_certificate.proofs.chains.printed_chain.Goals as goal

-- what holds of an answer
on_ok : {X E : Type 0} (P Q : X → Type 0) (r : Result X E) → ((x : X) → P x → Q x) → IfOk r P → IfOk r Q
on_ok P Q (Ok x) f p = f x p
on_ok P Q (Err e) f p = tt

-- what holds of the same nodes and sums
moved : (P : List PrecedenceNode → List ℕ → Type 0) (a b : List PrecedenceNode) (s t : List ℕ) → a ≡ b → s ≡ t → P a s → P b t
moved P a b s t same equal p = subst (λ (l : List PrecedenceNode). P l t) same (subst (λ (l : List ℕ). P a l) equal p)

-- the sums that were found are of these nodes
sums_right : (soc : SocValue) (limits : LimitsValue) (seen nodes : List PrecedenceNode) (sums : List ℕ) → seen ≡ nodes → AreNodes soc limits (node_values nodes) → ((soc : SocValue) (limits : LimitsValue) → AreNodes soc limits (node_values seen) → AreSums soc limits (node_values seen) sums) → AreSums soc limits (node_values nodes) sums
sums_right soc limits seen nodes sums same are right = subst (λ (l : List PrecedenceNode). AreSums soc limits (node_values l) sums) same (right soc limits (subst (λ (l : List PrecedenceNode). AreNodes soc limits (node_values l)) (sym same) are))

pub greatest_sums-requires : goal.greatest_sums-requires
greatest_sums-requires c =
    let acyclic : IsAcyclic c.args.problem.now.soc c.args.problem.now.limits = rw (← c.problem.view_is) c.problem.invariant.bounds.acyclic in
    record { soc = c.args.problem.now.soc; limits = c.args.problem.now.limits; acyclic = acyclic; are = rw c.deref.ensures.value c.in_ok-nodes.ensures }

pub best_chain-requires-clause-long : goal.best_chain-requires-clause-long
best_chain-requires-clause-long c =
    let right = sums_right c.args.problem.now.soc c.args.problem.now.limits c.deref.result.now c.in_ok-nodes.nodes.items c.in_ok-sums.sums.items c.deref.ensures.value c.in_ok-nodes.ensures c.in_ok-sums.ensures in
    ap length c.deref-3.ensures.value ∙ right.long ∙ length-map c.in_ok-nodes.nodes.items node_value ∙ sym (ap length c.deref-2.ensures.value)

pub best_chain-requires-clause-fall : goal.best_chain-requires-clause-fall
best_chain-requires-clause-fall c =
    let soc = c.args.problem.now.soc in
    let limits = c.args.problem.now.limits in
    let right = sums_right soc limits c.deref.result.now c.in_ok-nodes.nodes.items c.in_ok-sums.sums.items c.deref.ensures.value c.in_ok-nodes.ensures c.in_ok-sums.ensures in
    moved (λ nodes sums. SumsFall (node_values nodes) sums) c.in_ok-nodes.nodes.items c.deref-2.result.now c.in_ok-sums.sums.items c.deref-3.result.now (sym c.deref-2.ensures.value) (sym c.deref-3.ensures.value)
    (fall soc limits (node_values c.in_ok-nodes.nodes.items) c.in_ok-sums.sums.items c.in_ok-nodes.ensures right)

pub returns-clause-printed : goal.returns-clause-printed
returns-clause-printed c =
    let soc = c.args.problem.now.soc in
    let limits = c.args.problem.now.limits in
    let right = sums_right soc limits c.deref.result.now c.in_ok-nodes.nodes.items c.in_ok-sums.sums.items c.deref.ensures.value c.in_ok-nodes.ensures c.in_ok-sums.ensures in
    let are = subst (λ (l : List PrecedenceNode). AreNodes soc limits (node_values l)) (sym c.deref-2.ensures.value) c.in_ok-nodes.ensures in
    let seen = moved (λ nodes sums. AreSums soc limits (node_values nodes) sums) c.in_ok-nodes.nodes.items c.deref-2.result.now c.in_ok-sums.sums.items c.deref-3.result.now (sym c.deref-2.ensures.value) (sym c.deref-3.ensures.value) right in
    on_ok _ _ c.best_chain.result (λ chain printed. printed soc limits are seen) c.best_chain.ensures

pub returns-clause-keeps : goal.returns-clause-keeps
returns-clause-keeps c =
    let soc = c.args.problem.now.soc in
    let limits = c.args.problem.now.limits in
    let right = sums_right soc limits c.deref.result.now c.in_ok-nodes.nodes.items c.in_ok-sums.sums.items c.deref.ensures.value c.in_ok-nodes.ensures c.in_ok-sums.ensures in
    let are = subst (λ (l : List PrecedenceNode). AreNodes soc limits (node_values l)) (sym c.deref-2.ensures.value) c.in_ok-nodes.ensures in
    let seen = moved (λ nodes sums. AreSums soc limits (node_values nodes) sums) c.in_ok-nodes.nodes.items c.deref-2.result.now c.in_ok-sums.sums.items c.deref-3.result.now (sym c.deref-2.ensures.value) (sym c.deref-3.ensures.value) right in
    on_ok _ _ c.best_chain.result (λ chain printed. printed_keeps soc limits (node_values c.deref-2.result.now) c.deref-3.result.now are seen chain (printed soc limits are seen)) c.best_chain.ensures

pub returns-clause-greatest : goal.returns-clause-greatest
returns-clause-greatest c =
    let soc = c.args.problem.now.soc in
    let limits = c.args.problem.now.limits in
    let right = sums_right soc limits c.deref.result.now c.in_ok-nodes.nodes.items c.in_ok-sums.sums.items c.deref.ensures.value c.in_ok-nodes.ensures c.in_ok-sums.ensures in
    let are = subst (λ (l : List PrecedenceNode). AreNodes soc limits (node_values l)) (sym c.deref-2.ensures.value) c.in_ok-nodes.ensures in
    let seen = moved (λ nodes sums. AreSums soc limits (node_values nodes) sums) c.in_ok-nodes.nodes.items c.deref-2.result.now c.in_ok-sums.sums.items c.deref-3.result.now (sym c.deref-2.ensures.value) (sym c.deref-3.ensures.value) right in
    on_ok _ _ c.best_chain.result (λ chain printed. greatest_chain soc limits (node_values c.deref-2.result.now) c.deref-3.result.now are seen (names_of chain) (printed soc limits are seen)) c.best_chain.ensures
