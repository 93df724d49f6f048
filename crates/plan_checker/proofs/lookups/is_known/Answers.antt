use Rattle.std.proofs.Common.{refl, sym, subst, Contains}
use Rattle.soc_model.specs.Chips.{numbers, soc_value}
use Rattle.common_lemmas.proofs.Lists.{contains_from, contains_at}
use Rattle.plan_checker.proofs.lookups.is_known.Goals as goal

pub returns-in-Some-clause-known : goal.returns-in-Some-clause-known
returns-in-Some-clause-known c = λ _. subst (λ ns. Contains ns c.args.number) (sym c.requires.keyed) (contains_from (numbers (soc_value c.args.soc.now)) c.args.number c.in-Some.field-0 c.in-Some.ensures.found)

pub returns-in-None-clause-unknown : goal.returns-in-None-clause-unknown
returns-in-None-clause-unknown c = λ _ known.
    let k = contains_at (numbers (soc_value c.args.soc.now)) c.args.number (subst (λ ns. Contains ns c.args.number) c.requires.keyed known) in
    c.in-None.ensures.none k.0 c.args.number k.1 refl
