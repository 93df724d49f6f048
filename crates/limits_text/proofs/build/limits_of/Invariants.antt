use Rattle.std.proofs.Common.{◌≡◌, map, reverse}
use Rattle.plan_model.specs.Views.{limits_value}
use Rattle.limits_text.specs.Meaning.{limits_of}
use Rattle.limits_text.specs.Views.{item_of}
use Rattle.limits_text.proofs.build.limits_of.Given as goal

abbrev pub invariant-loop-item : goal.invariant-loop-item
invariant-loop-item l = limits_value l.limits ≡ limits_of (reverse (map item_of l.yielded))
