use Rattle.std.proofs.Common.{refl, arith}
use Rattle.std.proofs.lemmas.List.{length-set}
use Rattle.leaf_bounds.specs.Bases.{chip_of}
use Rattle.leaf_bounds.proofs.PackAnswers.{all_new_prices, each_new_price, seen_more}
use Rattle.leaf_bounds.proofs.pack_rules.are_priced_once.Goals as goal

pub returns-in-None-clause-no : goal.returns-in-None-clause-no
returns-in-None-clause-no c = λ e are.
    c.in-None.ensures.none refl (each_new_price (chip_of c.args.basis.now) c.args.prices.now c.loop-at.at are (omega (arith, c.loop-at-test.true)))

pub loop-at-preserved : goal.loop-at-preserved
loop-at-preserved c =
    seen_more (chip_of c.args.basis.now) c.args.prices.now _ c.loop-at.invariant (omega (arith, c.loop-at-test.true, c.requires.room))
    c.in-Some.ensures.some.0 c.in-Some.ensures.some.1 refl (length-set c.loop-at.places c.loop-at.at c.in-Some.place)

pub returns-clause-yes : goal.returns-clause-yes
returns-clause-yes c = λ e. all_new_prices (chip_of c.args.basis.now) c.args.prices.now (λ k less. c.loop-at.invariant.new k (omega (arith, less, c.loop-at-test.false)))
