use Rattle.std.proofs.Common.{◌≡◌, take, position, sum_by}
use Rattle.soc_model.specs.Chips.{LiveTest, id_of, same_test}
use Rattle.plan_model.specs.declared.Profile.{Profile}
use Rattle.plan_model.specs.Views.{limits_value}
use Rattle.leaf_bounds.specs.LeafCosts.{drawn_use}
use Rattle.leaf_bounds.proofs.leaf_costs.drawn_uses.Given as goal

abbrev pub invariant-loop-near : goal.invariant-loop-near
invariant-loop-near l = (t : LiveTest) → l.profile ≡ position (λ (p : Profile). same_test p.test (id_of t)) l.limits.profiles.items → l.own ≡ t.test.power →
    l.sum ≡ sum_by (drawn_use (limits_value l.limits) t l.cycles) (take l.near-index l.power)
