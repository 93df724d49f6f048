-- The lines of the tests that end last: each was held by the one of the next line.
use Rattle.std.specs.Prelude.{ℕ, zero, suc, Option, None, Some, option_map, List, [], ◌++◌, find, nat_eq, codes, decimal}
use Rattle.outside.specs.Decimal.{dotted_numbers}
use Rattle.soc_model.specs.declared.TestId.{TestId}
use Rattle.soc_model.specs.Chips.{SocValue}
use Rattle.plan_model.specs.Plans.{LimitsValue}
use Rattle.live_tests.specs.declared.placed.PlacedTest.{PlacedTest}
use Rattle.report.specs.declared.holders.Hold.{Hold}
use Rattle.report.specs.declared.holders.Hold.TheVariants as hold
use Rattle.report.specs.Holders.{held}

abbrev pub hold_text : Hold → List ℕ
hold_text hold.Bus = codes "bus"
hold_text hold.Module = codes "module"
hold_text hold.Parent = codes "parent"
hold_text hold.Before = codes "before"
hold_text hold.Power = codes "power"

-- the numbers of a test
abbrev pub name_text : TestId → List ℕ
name_text id = dotted_numbers id.module id.test

-- who held a test and by what, or `-`
abbrev pub held_text : Option (PlacedTest × Hold) → List ℕ
held_text None = codes "-"
held_text (Some h) = name_text h.0.id ++ (codes " " ++ hold_text h.1)

-- the cycle at which a test starts, and the first one after it
abbrev pub times_text : (start end : ℕ) → List ℕ
times_text start end = codes " start " ++ (decimal start ++ (codes " end " ++ decimal end))

abbrev pub last_line : PlacedTest → Option (PlacedTest × Hold) → List ℕ
last_line t h = codes "last " ++ (name_text t.id ++ (times_text t.start t.end ++ (codes " held " ++ (held_text h ++ codes "\n"))))

-- the test alone
abbrev pub test_of : Option (PlacedTest × Hold) → Option PlacedTest
test_of h = option_map (λ (h : PlacedTest × Hold). h.0) h

-- The lines from a test on back, at most `n` of them. Each test starts before the one that it held, so a plan has no more lines
-- than cycles.
unfoldable pub chain_lines : SocValue → LimitsValue → (load : ℕ → ℕ) → List PlacedTest → (n : ℕ) → Option PlacedTest → List ℕ
chain_lines soc limits load tests zero o = []
chain_lines soc limits load tests (suc n) None = []
chain_lines soc limits load tests (suc n) (Some t) =
    last_line t (held soc limits load tests t) ++ chain_lines soc limits load tests n (test_of (held soc limits load tests t))

-- the first test that ends last
abbrev pub last_test : List PlacedTest → (cycles : ℕ) → Option PlacedTest
last_test tests cycles = find (λ (t : PlacedTest). nat_eq t.end cycles) tests

abbrev pub chain_text : SocValue → LimitsValue → (load : ℕ → ℕ) → List PlacedTest → (cycles : ℕ) → List ℕ
chain_text soc limits load tests cycles = chain_lines soc limits load tests cycles (last_test tests cycles)
