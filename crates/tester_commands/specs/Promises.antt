-- What is promised of the plans and the test data of the commands for testers, where a call ends with Done.
use Rattle.std.specs.Prelude.{◌≡◌, ℕ, List, Option}
use Rattle.std.specs.FinMap.{get}
use Rattle.outside.specs.Held.{Files, Appended}
use Rattle.soc_model.specs.Chips.{SocValue}
use Rattle.plan_model.specs.Plans.{LimitsValue, PlanValue, planned}
use Rattle.plan_model.specs.Runs.{Content}
use Rattle.plan_model.specs.Right.{IsRight}
use Rattle.plan_model.specs.Rules.{IsBound}
use Rattle.vector_lines.specs.Made.{made_content}
use Rattle.vector_lines.specs.Wires.{wires_of}
use Rattle.tester_vectors.specs.VectorText.{vector_text}
use Rattle.test_data.specs.DataWords.{EntryValue, SaysData}
use Rattle.test_data.specs.Agreement.{Agrees, Suits}
use Rattle.commands.specs.declared.FileKind.TheVariants.{Data}
use Rattle.commands.specs.Readings.{IsRead}
use Rattle.commands.specs.Trusted.{IsChipIn, AreLimitsIn, IsPlanIn, IsTrustworthy}
use Rattle.controls.specs.Said.{RunThePlan}
use Rattle.cycle_texts.specs.ProgramText.{vectors_of_rows}
use Rattle.tester_commands.specs.declared.ending.RunForm.{RunForm}
use Rattle.tester_commands.specs.ContentData.{IsDataOf}
use Rattle.tester_commands.specs.DataRuns.{RunsWithData}
use Rattle.tester_commands.specs.MadeText.{made_text}
use Rattle.tester_commands.specs.RetargetText.{retarget_text}
use Rattle.tester_commands.specs.RunCounts.{captures_in, right_loads_in, wired_patterns, counts_line}
use Rattle.tester_commands.specs.RunTexts.{data_row, run_text}

-- `vectors`: the text is that of the vectors of the plan with the made contents of the seed.
abbrev pub AreVectors : Files → (soc limits plan : List ℕ) (seed : ℕ) → (old new : Option (List ℕ)) → Type 0
AreVectors files soc limits plan seed old new = IsTrustworthy (IsChipIn files soc) (AreLimitsIn files limits) (IsPlanIn files plan)
    (λ chip value text. text ≡ vector_text chip value (made_content chip seed)) old new

-- `simulate`: what a plan is that is simulated. It runs right for every content, and no good plan of its chip under its limits ends
-- before its bound. Each pattern of each live test over the wires is captured once in its run, and finds its stimulus,
-- whatever the contents are; these numbers are written.
pub record IsSimulated (files : Files) (soc limits plan : List ℕ) (old new : Option (List ℕ)) : Type 0 where
  pub chip : SocValue
  pub bounds : LimitsValue
  pub value : PlanValue
  pub chip_is : IsChipIn files soc chip
  pub limits_are : AreLimitsIn files limits chip bounds
  pub plan_is : IsPlanIn files plan value
  pub right : (content : Content) → IsRight chip bounds value content
  pub bound : IsBound chip bounds value.bound.cycles
  pub captures : captures_in (planned chip value) value.cycles ≡ wired_patterns chip
  pub loaded : (content : Content) → right_loads_in content (planned chip value) value.cycles ≡ wired_patterns chip
  pub written : Appended old (counts_line value.cycles (wired_patterns chip) (wired_patterns chip)) new

-- `data`: what is written is the text of the data of the made contents of the chip. It is read back as that data, which suits the chip,
-- and the made contents agree with it.
pub record IsMadeData (files : Files) (soc : List ℕ) (seed : ℕ) (old new : Option (List ℕ)) : Type 0 where
  pub chip : SocValue
  pub chip_is : IsChipIn files soc chip
  pub is_data : IsDataOf chip (made_content chip seed)
  pub written : Appended old (made_text chip seed) new

-- `retarget`: the chip, the limits, the plan and the data were read from the held files. The data suits the chip: it has each live test
-- over the wires with all its patterns and bits, and some content agrees with it. The plan runs right for every content, and no good plan
-- of its chip under its limits ends before its bound. What was written runs so with each content that agrees with the data, and compares
-- the response bits that the data says.
pub record IsRetargeted (files : Files) (soc limits plan name : List ℕ) (old new : Option (List ℕ)) : Type 0 where
  pub chip : SocValue
  pub bounds : LimitsValue
  pub value : PlanValue
  pub es : List EntryValue
  pub chip_is : IsChipIn files soc chip
  pub limits_are : AreLimitsIn files limits chip bounds
  pub plan_is : IsPlanIn files plan value
  pub data_is : IsRead Data SaysData (get files name) es
  pub suits : Suits chip es
  pub some : (content : Content) × Agrees chip es content
  pub right : (content : Content) → IsRight chip bounds value content
  pub bound : IsBound chip bounds value.bound.cycles
  pub runs : RunsWithData chip value es (retarget_text chip value es)
  pub written : Appended old (retarget_text chip value es) new

-- `stil`, `vcd` and `verilog`: the chip, the limits, the plan and the data were read from the held files. The data suits the chip: it has
-- each live test over the wires with all its patterns and bits, and some content agrees with it. The plan runs right for every content,
-- and no good plan of its chip under its limits ends before its bound. What was written is the text of the form, of the rows of all
-- cycles. The bits and marks of these rows are those of the text of vectors with the data, which runs right with each content that agrees
-- with the data, and compares the response bits that the data says; their controls are those of the plan at the cycle, and a chip that
-- goes by these has the bits of the plan's run.
pub record IsProgrammed (form : RunForm) (files : Files) (soc limits plan name : List ℕ) (old new : Option (List ℕ)) : Type 0 where
  pub chip : SocValue
  pub bounds : LimitsValue
  pub value : PlanValue
  pub es : List EntryValue
  pub chip_is : IsChipIn files soc chip
  pub limits_are : AreLimitsIn files limits chip bounds
  pub plan_is : IsPlanIn files plan value
  pub data_is : IsRead Data SaysData (get files name) es
  pub suits : Suits chip es
  pub some : (content : Content) × Agrees chip es content
  pub right : (content : Content) → IsRight chip bounds value content
  pub bound : IsBound chip bounds value.bound.cycles
  pub runs : RunsWithData chip value es (retarget_text chip value es)
  pub rows : retarget_text chip value es ≡ vectors_of_rows (wires_of value) value.cycles (data_row chip value es)
  pub controlled : RunThePlan chip value
  pub written : Appended old (run_text form chip value es) new
