use Rattle.std.proofs.Common.{◌≡◌, ◌∙◌, ◌+◌, ◌%◌, ◌++◌, ◌∷◌, [], map, ap, sym, arith}
use Rattle.std.specs.List.{range_with_len}
use Rattle.std.proofs.lemmas.List.FromFn.{map-range_with_len_more}
use Rattle.sample_maker.specs.Samples.{chain_length}
use Rattle.sample_maker.proofs.modules.make_chains.Goals as goal

pub loop-chain-preserved : goal.loop-chain-preserved
loop-chain-preserved c =
    let last : 10 + c.drawn_number.result % 90 ≡ chain_length c.args.seed c.args.number c.loop-chain.chain = ap (λ d. 10 + d % 90) c.drawn_number.ensures.is in
    c.in_ok-push.ensures.ok ∙ ap (λ xs. xs ++ (10 + c.drawn_number.result % 90) ∷ []) c.loop-chain.invariant ∙ ap (λ x. map (chain_length c.args.seed c.args.number) (range_with_len 0 c.loop-chain.chain) ++ x ∷ []) last
    ∙ sym (map-range_with_len_more (chain_length c.args.seed c.args.number) 0 c.loop-chain.chain c.loop-chain.chain (omega arith))
