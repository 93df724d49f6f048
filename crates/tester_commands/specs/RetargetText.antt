-- The vector text of a plan with the contents of data.
use Rattle.std.specs.Prelude.{◌≡◌, ℕ, List, Some, slice_get}
use Rattle.soc_model.specs.Chips.{SocValue}
use Rattle.plan_model.specs.Plans.{PlanValue}
use Rattle.test_data.specs.declared.DataBit.TheVariants.{Any}
use Rattle.test_data.specs.DataWords.{PatternValue, EntryValue}
use Rattle.tester_vectors.specs.VectorText.{marked_text}
use Rattle.tester_commands.specs.DataContents.{data_content, data_marks}

-- where the data has `x`, a driven bit is 0 and a compared one `-`
abbrev pub retarget_text : SocValue → PlanValue → List EntryValue → List ℕ
retarget_text soc plan es = marked_text soc plan (data_content soc es) (data_marks soc es)

-- the data says each bit of each response
abbrev pub SaysAllResponses : List EntryValue → Type 0
SaysAllResponses es = (place before n : ℕ) (e : EntryValue) (p : PatternValue) → slice_get es place ≡ Some e →
    slice_get e.patterns before ≡ Some p → slice_get p.unload n ≡ Some Any → ⊥
