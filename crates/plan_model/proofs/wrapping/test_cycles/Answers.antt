use Rattle.std.proofs.Common.{◌≡◌, ◌∙◌, ℕ, List, true, sym, ap, length, map}
use Rattle.soc_model.specs.declared.Test.{Test}
use Rattle.soc_model.specs.Chips.{ModuleValue, module_value}
use Rattle.plan_model.specs.declared.Wrapper.{Wrapper}
use Rattle.plan_model.specs.Cells.{chain_cells}
use Rattle.plan_model.specs.Plans.{PlanValue, chains_of, operations_of}
use Rattle.plan_model.specs.Views.{chain_value, wrapper_value}
use Rattle.plan_model.proofs.FoundWrappers.{IsFound, found_at, proper_found, chains_found, always_found}
use Rattle.plan_model.proofs.SoundChips.{wires_work}
use Rattle.plan_model.proofs.wrapping.test_cycles.Goals as goal

pub tam_duration-requires-clause-proper : goal.tam_duration-requires-clause-proper
tam_duration-requires-clause-proper c =
    let f = found_at (module_value c.args.«module».now) c.args.test.now.scan c.args.wrappers.now c.in-Some.place c.index-wrappers-place.result c.index-wrappers-place.result (sym c.wrapper_of.ensures ∙ c.in-Some.is) c.index-wrappers-place.is in
    proper_found (module_value c.args.«module».now) c.args.test.now c.args.wrappers.now c.in-Some.place c.index-wrappers-place.result (c.requires.wrapped c.if-not-test.false) f

pub tam_duration-requires-clause-mode : goal.tam_duration-requires-clause-mode
tam_duration-requires-clause-mode c =
    (found_at (module_value c.args.«module».now) c.args.test.now.scan c.args.wrappers.now c.in-Some.place c.index-wrappers-place.result c.index-wrappers-place.result (sym c.wrapper_of.ensures ∙ c.in-Some.is) c.index-wrappers-place.is).scan_is

pub tam_duration-requires-clause-work : goal.tam_duration-requires-clause-work
tam_duration-requires-clause-work c = wires_work (module_value c.args.«module».now) c.args.test.now c.if-not-test.false c.requires.work

pub unreachable-requires : goal.unreachable-requires
unreachable-requires c = always_found (module_value c.args.«module».now) c.args.test.now c.args.wrappers.now (c.requires.wrapped c.if-not-test.false) (sym c.wrapper_of.ensures ∙ c.in-None.is)

-- the test's time in the wrapper that is found
time_found : (plan : PlanValue) (m : ModuleValue) (t : Test) (ws : List Wrapper) (k : ℕ) (w : Wrapper) (n : ℕ) → n ≡ length (operations_of m t (chain_cells m t.scan (map chain_value w.chains.items))) → plan.wrappers ≡ map wrapper_value ws → t.tam ≡ true → IsFound m t.scan ws k w → n ≡ length (operations_of m t (chains_of plan m t))
time_found plan m t ws k w n time are tam found = time ∙ ap (λ chains. length (operations_of m t chains)) (chains_found plan m t ws k w are tam found)

pub returns : goal.returns
returns c =
    let m : ModuleValue = module_value c.args.«module».now in
    let t : Test = c.args.test.now in
    let ws : List Wrapper = c.args.wrappers.now in
    let w : Wrapper = c.index-wrappers-place.result in
    let found : IsFound m t.scan ws c.in-Some.place w = found_at m t.scan ws c.in-Some.place c.index-wrappers-place.result w (sym c.wrapper_of.ensures ∙ c.in-Some.is) c.index-wrappers-place.is in
    let all : (plan : PlanValue) → plan.wrappers ≡ map wrapper_value ws → c.tam_duration.result ≡ length (operations_of m t (chains_of plan m t)) = λ plan are. time_found plan m t ws c.in-Some.place w c.tam_duration.result c.tam_duration.ensures.time are c.if-not-test.false found in
    record { time = all }
