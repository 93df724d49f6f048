use Rattle.std.proofs.Common.{◌≡◌, ◌∙◌, ℕ, suc, ◌+◌, ◌-◌, ◌<◌, ◌++◌, List, length, ap, sym, subst, arith, Option, IfSome}
use Rattle.soc_model.specs.Chips.{SocValue, soc_value}
use Rattle.plan_model.specs.Plans.{LimitsValue, step_power}
use Rattle.plan_model.specs.Views.{limits_value}
use Rattle.live_tests.specs.declared.placed.PlacedTest.{PlacedTest}
use Rattle.report.specs.Chains.{chain_lines, chain_text, last_test}
use Rattle.report.proofs.Chained.{all_lines, last_there, line_more, none_left}
use Rattle.report.proofs.chain.push_chain.Goals as goal

-- the lines that are left at first
at_first : (soc : SocValue) (limits : LimitsValue) (load : ℕ → ℕ) (tests : List PlacedTest) (cycles : ℕ) (o : Option PlacedTest) (text : List ℕ) → o ≡ last_test tests cycles → text ++ chain_lines soc limits load tests (cycles - 0) o ≡ text ++ chain_text soc limits load tests cycles
at_first soc limits load tests cycles o text is =
    let all : cycles - 0 ≡ cycles = omega arith in
    ap (λ (n : ℕ). text ++ chain_lines soc limits load tests n o) all ∙ ap (λ (o : Option PlacedTest). text ++ chain_lines soc limits load tests cycles o) is

pub loop-init : goal.loop-init
loop-init c =
    let there = λ (t : PlacedTest). t.place < length (soc_value c.args.soc.now).modules in
    record {
      lines = at_first (soc_value c.args.soc.now) (limits_value c.args.limits.now) (λ r. step_power r 0 c.args.steps.now) c.args.tests.now c.args.cycles c.last_test-next.result c.args.text.now.items c.last_test-next.ensures;
      there = subst (λ (o : Option PlacedTest). IfSome o there) (sym c.last_test-next.ensures) (last_there there c.args.tests.now c.args.cycles c.requires);
    }

pub returns-in-None : goal.returns-in-None
returns-in-None c =
    let soc : SocValue = soc_value c.args.soc.now in
    let limits : LimitsValue = limits_value c.args.limits.now in
    let load : ℕ → ℕ = λ r. step_power r 0 c.args.steps.now in
    let whole : List ℕ = c.args.text.now.items ++ chain_text soc limits load c.args.tests.now c.args.cycles in
    none_left soc limits load c.args.tests.now (c.args.cycles - c.loop.counter) c.loop.text.items whole
    (subst (λ (o : Option PlacedTest). c.loop.text.items ++ chain_lines (soc_value c.args.soc.now) (limits_value c.args.limits.now) (λ r. step_power r 0 c.args.steps.now) c.args.tests.now (c.args.cycles - c.loop.counter) o
    ≡ c.args.text.now.items ++ chain_text (soc_value c.args.soc.now) (limits_value c.args.limits.now) (λ r. step_power r 0 c.args.steps.now) c.args.tests.now c.args.cycles) c.in-None.is c.loop.invariant.lines)

pub loop-preserved : goal.loop-preserved
loop-preserved c =
    let soc : SocValue = soc_value c.args.soc.now in
    let limits : LimitsValue = limits_value c.args.limits.now in
    let load : ℕ → ℕ = λ r. step_power r 0 c.args.steps.now in
    let whole : List ℕ = c.args.text.now.items ++ chain_text soc limits load c.args.tests.now c.args.cycles in
    let more : c.args.cycles - c.loop.counter ≡ suc (c.args.cycles - (c.loop.counter + 1)) = omega (arith, c.loop-test.true) in
    record {
      lines = line_more soc limits load c.args.tests.now c.in-Some.test (c.args.cycles - c.loop.counter) (c.args.cycles - (c.loop.counter + 1)) c.in_ok-next-in-Some.next c.loop.text.items c.push_link.new.text.items whole more
          c.in_ok-next-in-Some.ensures.line c.in_ok-next-in-Some.ensures.next
          (subst (λ (o : Option PlacedTest). c.loop.text.items ++ chain_lines (soc_value c.args.soc.now) (limits_value c.args.limits.now) (λ r. step_power r 0 c.args.steps.now) c.args.tests.now (c.args.cycles - c.loop.counter) o
          ≡ c.args.text.now.items ++ chain_text (soc_value c.args.soc.now) (limits_value c.args.limits.now) (λ r. step_power r 0 c.args.steps.now) c.args.tests.now c.args.cycles) c.in-Some.is c.loop.invariant.lines);
      there = c.in_ok-next-in-Some.ensures.there;
    }

pub returns : goal.returns
returns c =
    let soc : SocValue = soc_value c.args.soc.now in
    let limits : LimitsValue = limits_value c.args.limits.now in
    let load : ℕ → ℕ = λ r. step_power r 0 c.args.steps.now in
    let whole : List ℕ = c.args.text.now.items ++ chain_text soc limits load c.args.tests.now c.args.cycles in
    all_lines soc limits load c.args.tests.now (c.args.cycles - c.loop.counter) c.loop.next c.loop.text.items whole (omega (arith, c.loop-test.false)) c.loop.invariant.lines
