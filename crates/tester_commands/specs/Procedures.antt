-- What each command for testers does.
use Rattle.std.specs.Prelude.{ℕ, List, Option}
use Rattle.soc_model.specs.Chips.{SocValue}
use Rattle.plan_model.specs.Plans.{LimitsValue, PlanValue}
use Rattle.test_data.specs.DataWords.{EntryValue}
use Rattle.vector_lines.specs.Made.{made_content}
use Rattle.tester_vectors.specs.VectorText.{more_than, too_many, vector_text}
use Rattle.commands.specs.Procedures.{Procedure, Unless, done_with, with_chip, with_all}
use Rattle.commands.specs.Texts.{run_refusal}
use Rattle.tester_commands.specs.declared.TheConstants.{LONG_RUN_MOST}
use Rattle.tester_commands.specs.declared.ending.RunForm.{RunForm}
use Rattle.tester_commands.specs.DataReadings.{with_data}
use Rattle.tester_commands.specs.MadeText.{made_text, long_data_refusal}
use Rattle.tester_commands.specs.RunCounts.{simulated_text}
use Rattle.tester_commands.specs.RunTexts.{run_text}

-- `vectors`: what a tester drives and compares in a plan that is accepted, with contents that are made from a seed
abbrev pub vectors_procedure : (soc limits plan : List ℕ) (seed : ℕ) → Procedure
vectors_procedure soc limits plan seed = with_all soc limits plan
    (λ chip bounds value. Unless (run_refusal (too_many value)) (done_with (vector_text chip value (made_content chip seed))))

-- `simulate`: the line of the run of a plan that is accepted
abbrev pub simulate_procedure : (soc limits plan : List ℕ) (seed : ℕ) → Procedure
simulate_procedure soc limits plan seed =
    with_all soc limits plan (λ chip bounds value. Unless (run_refusal (too_many value)) (done_with (simulated_text chip value seed)))

-- `data`: the text of the made contents, unless it is too long
abbrev pub data_procedure : (soc : List ℕ) (seed : ℕ) → Procedure
data_procedure soc seed = with_chip soc (λ chip. Unless (long_data_refusal (made_text chip seed)) (done_with (made_text chip seed)))

-- ---- a plan with test data: `retarget`, `stil`, `vcd` and `verilog`, each with its form

-- the line that refuses a run with data, where it is too long
abbrev pub long_run_refusal : PlanValue → Option (List ℕ)
long_run_refusal value = run_refusal (more_than LONG_RUN_MOST value)

-- the text with data that was read, or that line
abbrev pub with_run : RunForm → SocValue → PlanValue → List EntryValue → Procedure
with_run form chip value es = Unless (long_run_refusal value) (done_with (run_text form chip value es))

-- behind a plan that is accepted
abbrev pub with_data_run : RunForm → (name : List ℕ) → SocValue → LimitsValue → PlanValue → Procedure
with_data_run form name chip bounds value = with_data chip name (with_run form chip value)

-- from the chip on
abbrev pub run_procedure : RunForm → (soc limits plan name : List ℕ) → Procedure
run_procedure form soc limits plan name = with_all soc limits plan (with_data_run form name)
