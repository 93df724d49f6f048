-- What is kept of each live test of a chip as a plan places it, for its controls.
use Rattle.std.specs.Prelude.{◌≡◌, ℕ, ◌+◌, ◌*◌, ◌≤◌, List, length, map, take, if◌then◌else◌}
use Rattle.std.specs.List.{filter}
use Rattle.soc_model.specs.declared.Test.{Test}
use Rattle.soc_model.specs.Chips.{ModuleValue, SocValue, LiveTest, is_live, live_tests}
use Rattle.soc_model.specs.Modes.{has_tam}
use Rattle.soc_model.specs.SoundChips.{IsSoundChip}
use Rattle.plan_model.specs.Moments.{phase_ops, ArePhases}
use Rattle.plan_model.specs.Plans.{PlanValue, planned_test, chains_of, end_of, si_of, so_of}
use Rattle.plan_model.specs.Rules.{IsGoodAlone}
use Rattle.plan_model.specs.declared.moments.Phases.{Phases}
use Rattle.controls.specs.Controls.{controls, tam_numbers}
use Rattle.controls.specs.declared.placing.ControlledTest.{ControlledTest}
use Rattle.controls.specs.declared.rows.ControlRows.{ControlRows}

-- the phases of a test over the wires; a self test has none to speak of
abbrev pub phases_of : PlanValue → ModuleValue → Test → Phases
phases_of plan m t =
    if t.tam
    then record { setup = m.setup; si = si_of (chains_of plan m t); so = so_of (chains_of plan m t); patterns = t.patterns }
    else record { setup = 0; si = 0; so = 0; patterns = 1 }

-- a test of the module at a place, which `before` modules with a live test over the wires come before
abbrev pub controlled : PlanValue → (place before : ℕ) → ModuleValue → Test → ControlledTest
controlled plan place before m t = record {
  tam = t.tam;
  start = (planned_test plan place m t).start;
  end = end_of (planned_test plan place m t);
  phases = phases_of plan m t;
  before = before;
}

-- the live ones of some tests of such a module
abbrev pub controlled_in : PlanValue → (place before : ℕ) → ModuleValue → List Test → List ControlledTest
controlled_in plan place before m tests = map (controlled plan place before m) (filter is_live tests)

-- how many modules with a live test over the wires come before a place
abbrev pub tam_before : SocValue → (place : ℕ) → ℕ
tam_before soc place = length (filter has_tam (take place soc.modules))

abbrev pub controlled_live : SocValue → PlanValue → LiveTest → ControlledTest
controlled_live soc plan l = controlled plan l.place (tam_before soc l.place) l.core l.test

-- what is kept of a test over the wires: phases that fit, and its end behind all its operations
pub record IsFit (t : ControlledTest) : Type 0 where
  pub phases : ArePhases t.phases
  pub ends : t.end ≡ t.start + length (phase_ops t.phases)

-- the rows of the controls of a good plan of a sound chip
pub record AreControlRows (soc : SocValue) (plan : PlanValue) (rows : ControlRows) : Type 0 where
  pub sound : IsSoundChip soc
  pub good : IsGoodAlone soc plan
  pub tests : rows.tests.items ≡ map (controlled_live soc plan) (live_tests soc)
  pub modules : rows.modules ≡ length (tam_numbers soc)
  pub columns : rows.columns ≡ length (controls soc)

-- they are those of some plan, and `count` of them have room in a text
pub record HaveRowRoom (rows : ControlRows) (count : ℕ) (text : List ℕ) : Type 0 where
  pub soc : SocValue
  pub plan : PlanValue
  pub are : AreControlRows soc plan rows
  pub room : count * length (controls soc) ≤ length text
