use Rattle.std.proofs.Common.{◌≡◌, ◌∙◌, ap, sym, subst, List, ℕ, length, ◌<◌, All}
use Rattle.soc_model.specs.Chips.{SocValue}
use Rattle.soc_model.specs.declared.TestId.{TestId}
use Rattle.plan_model.specs.Plans.{LimitsValue}
use Rattle.plan_model.specs.Rules.{live_ids}
use Rattle.live_tests.proofs.Precedences.{pairs_within}
use Rattle.limits_text.specs.Loops.{HasRank, IsFirstLoop, AreAt}
use Rattle.live_tests.specs.Names.{precedences}
use Rattle.limits_text.proofs.FirstLoops.{AreWithin, acyclic, loop_within}
use Rattle.limits_text.proofs.Noting.{no_loop}
use Rattle.limits_text.proofs.loops.loop_of.Goals as goal

-- pairs of live tests are within the count of their names
within : (ids names : List TestId) (pairs : List (ℕ × ℕ)) (soc : SocValue) (limits : LimitsValue) → names ≡ ids → ids ≡ live_ids soc → pairs ≡ precedences soc limits → AreWithin pairs (length names)
within ids names pairs soc limits named live is =
    subst (λ (ps : List (ℕ × ℕ)). AreWithin ps (length names)) (sym is) (subst (λ (l : List TestId). AreWithin (precedences soc limits) (length l)) (sym (named ∙ live)) (pairs_within (live_ids soc) limits.before))

pub first_loop-requires : goal.first_loop-requires
first_loop-requires c =
    let r = c.requires in
    within c.args.tests.now c.names-names.result.now c.args.pairs.now r.0 r.1 c.names-names.ensures r.2 r.3

pub tests_at-requires : goal.tests_at-requires
tests_at-requires c =
    let r = c.requires in
    let n = length c.names-names.result.now in
    let found = rw c.in-Some.is at c.in_ok-circle.ensures in
    subst (λ (l : List ℕ). All (λ p. p < n) l) (sym c.deref.ensures.value)
    (loop_within c.args.pairs.now n c.in-Some.circle.items (within c.args.tests.now c.names-names.result.now c.args.pairs.now r.0 r.1 c.names-names.ensures r.2 r.3) found)

pub returns-in_ok-tests_at-in-Some : goal.returns-in_ok-tests_at-in-Some
returns-in_ok-tests_at-in-Some c = λ soc limits live is.
    let found = rw c.in-Some.is at c.in_ok-circle.ensures in
    let names = c.names-names.ensures ∙ live in (
      c.in-Some.circle.items,
      subst (λ n. IsFirstLoop (precedences soc limits) n c.in-Some.circle.items) (ap length names) (subst (λ (ps : List (ℕ × ℕ)). IsFirstLoop ps (length c.names-names.result.now) c.in-Some.circle.items) is found),
      subst (λ (l : List TestId). AreAt l c.in-Some.circle.items c.in_ok-tests_at-in-Some.field-0.items) names
          (subst (λ (l : List ℕ). AreAt c.names-names.result.now l c.in_ok-tests_at-in-Some.field-0.items) c.deref.ensures.value c.in_ok-tests_at-in-Some.ensures),
    )

pub returns-in-None : goal.returns-in-None
returns-in-None c = λ soc limits live is. acyclic soc limits (subst HasRank is (rw c.in-None.is at c.in_ok-circle.ensures))

pub returns-then-is_empty : goal.returns-then-is_empty
returns-then-is_empty c = λ soc limits live is. no_loop soc limits c.args.pairs.now (sym c.is_empty.ensures ∙ c.if-is_empty.true) is
