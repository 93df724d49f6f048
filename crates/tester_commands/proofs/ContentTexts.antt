-- The text of a plan with the data of a content is that of its vectors.
use Rattle.std.proofs.Common.{◌≡◌, Bool, true, false, Some, sym, subst, slice_get}
use Rattle.std.specs.List.{range_with_len}
use Rattle.soc_model.specs.Chips.{SocValue}
use Rattle.soc_model.specs.SoundChips.{IsSoundChip}
use Rattle.plan_model.specs.Cells.{Cell, response_cells}
use Rattle.plan_model.specs.Plans.{LimitsValue, PlanValue}
use Rattle.plan_model.specs.Rules.{IsGood}
use Rattle.plan_model.specs.Runs.{Content}
use Rattle.test_data.specs.declared.DataBit.TheVariants.{Any}
use Rattle.test_data.specs.DataWords.{EntryValue, PatternValue}
use Rattle.test_data.specs.Suiting.{name_in}
use Rattle.tester_vectors.specs.VectorText.{vector_text}
use Rattle.tester_commands.specs.ContentEntries.{data_bit, pattern_of, entry_of, entries_of}
use Rattle.tester_commands.specs.ContentData.{IsDataOf}
use Rattle.tester_commands.proofs.DataOfContents.{data_of}
use Rattle.tester_commands.proofs.SuitingEntries.{IsEntryOf, entry_at}
use Rattle.tester_commands.specs.RetargetText.{retarget_text, SaysAllResponses}
use Rattle.tester_commands.proofs.RetargetTexts.{vectors_again}
use Rattle.common_lemmas.proofs.Lists.{from_map}

known : (b : Bool) → data_bit b ≡ Any → ⊥
known true e = absurd cc
known false e = absurd cc

-- no bit of a content may be any
says_all : (soc : SocValue) (content : Content) → SaysAllResponses (entries_of soc content)
says_all soc content place before n e p at there any =
    let is : IsEntryOf soc content e = entry_at soc content place e at in
    let patterns : slice_get (entry_of content is.core is.test).patterns before ≡ Some p = subst (λ (x : EntryValue). slice_get x.patterns before ≡ Some p) is.entry there in
    let k = from_map (pattern_of content is.core is.test) (range_with_len 1 is.test.patterns) before p patterns in
    let unload : slice_get (pattern_of content is.core is.test k.0).unload n ≡ Some Any = subst (λ (x : PatternValue). slice_get x.unload n ≡ Some Any) (sym k.2) any in
    let cell = from_map (λ (x : Cell). data_bit (content.response (name_in is.core is.test) k.0 x)) (response_cells is.core is.test.scan) n Any unload in
    known (content.response (name_in is.core is.test) k.0 cell.0) cell.2

pub content_again : (soc : SocValue) (limits : LimitsValue) (plan : PlanValue) (content : Content) → IsSoundChip soc → IsGood soc limits plan → retarget_text soc plan (entries_of soc content) ≡ vector_text soc plan content
content_again soc limits plan content sound good =
    let d : IsDataOf soc content = data_of soc content sound in
    vectors_again soc limits plan (entries_of soc content) content sound good d.suits d.agrees (says_all soc content)
