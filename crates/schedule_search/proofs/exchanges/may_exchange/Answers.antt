use Rattle.std.proofs.Common.{◌≡◌, ◌+◌, ℕ, Bool, true, false, List, get_or, refl, sym, subst, not, Contains}
use Rattle.resource_table.specs.Jobs.{job_value}
use Rattle.schedule_search.proofs.Exchanging.{exchanged_topological, not_exchanged}
use Rattle.schedule_search.proofs.exchanges.may_exchange.Goals as goal

from_true : (b : Bool) → not b ≡ true → b ≡ false
from_true true e = absurd cc
from_true false e = refl

from_false : (b : Bool) → not b ≡ false → b ≡ true
from_false true e = refl
from_false false e = absurd cc

pub returns-clause-may : goal.returns-clause-may
returns-clause-may c = λ may.
    let a : ℕ = get_or c.args.order.now c.args.place 0 in
    let b : ℕ = get_or c.args.order.now (c.args.place + 1) 0 in
    exchanged_topological (job_value c.args.job.now) c.args.order.now c.args.place c.requires.within c.requires.topological
    (λ before. c.is_listed.ensures.not_listed (from_true c.is_listed.result may) (subst (λ (l : List (ℕ × ℕ)). Contains l (a, b)) (sym c.deref.ensures.value) before))

pub returns-clause-may_not : goal.returns-clause-may_not
returns-clause-may_not c = λ may topological.
    let a : ℕ = get_or c.args.order.now c.args.place 0 in
    let b : ℕ = get_or c.args.order.now (c.args.place + 1) 0 in
    let before = subst (λ (l : List (ℕ × ℕ)). Contains l (a, b)) c.deref.ensures.value (c.is_listed.ensures.listed (from_false c.is_listed.result may)) in
    not_exchanged (job_value c.args.job.now) c.args.order.now c.args.place c.requires.within c.requires.topological before topological
