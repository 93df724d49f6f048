use Rattle.std.proofs.{Common.rules, lemmas.List.Elements.filter_from_retain}
use Rattle.busy_times.specs.Profiles.{is_used}
use Rattle.busy_times.proofs.points.drop_unused.Goals as goal

pub returns-clause-items : goal.returns-clause-items
returns-clause-items c = filter_from_retain _ is_used (λ p x b q k. search rules) _ _ _ c.retain.ensures.filtered
