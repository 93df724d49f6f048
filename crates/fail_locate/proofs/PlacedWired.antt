-- A test over the wires in its wrapper.
use Rattle.std.proofs.Common.{◌≡◌, ℕ, zero, suc, ◌+◌, ◌*◌, ◌^◌, ◌≤◌, Bool, true, max, min, Some, List, [], get_or, refl, ap, sym, subst, ◌∙◌, arith, slice_get}
use Rattle.std.proofs.lemmas.Option.{same_Some}
use Rattle.soc_model.specs.declared.Test.{Test}
use Rattle.soc_model.specs.Chips.{ModuleValue, SocValue}
use Rattle.plan_model.specs.Cells.{Cell, IsProper, chain_cells, out_length}
use Rattle.plan_model.specs.Listing.{module_size}
use Rattle.plan_model.specs.Moments.{ArePhases}
use Rattle.plan_model.specs.Operations.{ops_of}
use Rattle.plan_model.specs.Plans.{PlanValue, PlannedTest, planned_test, chains_of, operations_of, so_of}
use Rattle.plan_model.specs.Runs.{chain_at}
use Rattle.plan_model.proofs.ChainLengths.{time_within}
use Rattle.plan_model.proofs.Greatest.{le-greatest}
use Rattle.live_tests.specs.declared.placed.PlacedTest.{PlacedTest}
use Rattle.live_tests.specs.declared.wrapped.ModeWrapper.{ModeWrapper}
use Rattle.live_tests.specs.Placed.{bus_over, placed_of}
use Rattle.live_tests.specs.Wrapped.{IsModeWrapper}
use Rattle.fail_locate.specs.Wired.{IsWired}

-- the fields of a planned test
record PlannedIs (plan : PlanValue) (p : ℕ) (m : ModuleValue) (t : Test) (u : PlannedTest) : Type 0 where
  pub tam : u.tam ≡ t.tam
  pub chains : u.chains ≡ chains_of plan m t
  pub operations : u.operations ≡ operations_of m t (chains_of plan m t)

planned_is : (plan : PlanValue) (p : ℕ) (m : ModuleValue) (t : Test) → PlannedIs plan p m t (planned_test plan p m t)
unfolding planned_test
planned_is plan p m t = record { tam = refl; chains = refl; operations = refl }

long_ops : (setup si so p n : ℕ) → 1 ≤ p → setup + (1 + max si so) * p + min si so ≤ n → (p ≤ n) × (setup + (1 + max si so) ≤ n)
long_ops setup si so zero n some h = absurd (omega arith)
long_ops setup si so (suc p) n some h = (omega arith, omega arith)

-- the bus of a test over the wires
pub bus_is : (plan : PlanValue) (p : ℕ) (m : ModuleValue) (t : Test) (placed : PlacedTest) → t.tam ≡ true → placed ≡ placed_of (planned_test plan p m t) → placed.bus ≡ Some (planned_test plan p m t).bus
bus_is plan p m t placed tam same = ap (λ (t : PlacedTest). t.bus) same ∙ ap (λ (tam : Bool). bus_over tam (planned_test plan p m t).bus) ((planned_is plan p m t).tam ∙ tam)

-- the test as it is kept
pub wired_is : (soc : SocValue) (plan : PlanValue) (p : ℕ) (m : ModuleValue) (t : Test) (w : ModeWrapper) (placed : PlacedTest) (bus : ℕ) → slice_get soc.modules p ≡ Some m → 1 ≤ t.patterns → t.tam ≡ true → m.setup + t.patterns * module_size m ≤ 10 ^ 18 → IsModeWrapper plan m t.scan w
    → placed ≡ placed_of (planned_test plan p m t) → Some bus ≡ placed.bus
    → IsWired soc plan (planned_test plan p m t) (record { id = placed.id; place = p; bus = bus; wrapper = w.place; start = placed.start; end = placed.end; phases = record { setup = m.setup; si = w.si; so = w.so; patterns = t.patterns } })
wired_is soc plan p m t w placed bus at live tam work is same on = record {
  tam = u.tam ∙ tam;
  id = ap (λ (t : PlacedTest). t.id) same;
  bus = same_Some bus (planned_test plan p m t).bus (on ∙ bus_is plan p m t placed tam same);
  start = ap (λ (t : PlacedTest). t.start) same;
  ends = ap (λ (t : PlacedTest). t.end) same;
  phases = phases;
  operations = u.operations ∙ ops;
  out_fits = λ j. rw (chain j, so_all) (le-greatest out_length [] refl (chains_of plan m t) j);
  wrapped = record { core = m; core_at = at; wrapper = is.wrapper; wrapper_at = is.at; proper = subst (λ (scan : Bool). IsProper m scan is.wrapper.chains) (sym is.mode) is.proper; chains = u.chains ∙ cells ∙ ap (λ (scan : Bool). chain_cells m scan is.wrapper.chains) (sym is.mode) };
}
  where
    u : PlannedIs plan p m t (planned_test plan p m t)
    u = planned_is plan p m t

    cells : chains_of plan m t ≡ chain_cells m t.scan is.wrapper.chains
    cells = rw (tam, is.first) refl

    so_all : w.so ≡ so_of (chains_of plan m t)
    so_all = is.so ∙ ap so_of (sym cells)

    ops : operations_of m t (chains_of plan m t) ≡ ops_of m.setup w.si w.so t.patterns
    ops = rw (tam, is.si, is.so, is.first) refl

    phases : ArePhases (record { setup = m.setup; si = w.si; so = w.so; patterns = t.patterns })
    phases =
        let parts = long_ops m.setup w.si w.so t.patterns (10 ^ 18) live (time_within m.setup w.si w.so t.patterns (module_size m) (10 ^ 18) live is.short work) in
        record { some = live; few = parts.0; fit = let wide = parts.1 in omega arith }

    chain : (k : ℕ) → chain_at (planned_test plan p m t) k ≡ get_or (chains_of plan m t) k []
    chain k = ap (λ (c : List (List Cell)). get_or c k []) u.chains
