use Rattle.std.proofs.Common.{◌∙◌, sym, ap, position, List}
use Rattle.soc_model.specs.declared.TestId.{TestId}
use Rattle.soc_model.specs.Chips.{same_test}
use Rattle.split_plan.proofs.Making.{named_at, named_nowhere}
use Rattle.split_plan.proofs.bounds.cut_named.Goals as goal

pub returns-clause-cut : goal.returns-clause-cut
returns-clause-cut c =
    sym (named_at c.args.cuts.now c.args.id c.in_ok-place.place _ (ap (λ (l : List TestId). position (same_test c.args.id) l) (sym c.requires.named) ∙ sym c.get_index_of.ensures.index ∙ c.in_ok-place.was))

pub returns-in_err-place-clause-cut : goal.returns-in_err-place-clause-cut
returns-in_err-place-clause-cut c =
    c.from_residual.ensures ∙ sym (named_nowhere c.args.cuts.now c.args.id (ap (λ (l : List TestId). position (same_test c.args.id) l) (sym c.requires.named) ∙ sym c.get_index_of.ensures.index ∙ c.in_err-place.was))
