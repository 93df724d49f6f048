-- The text that is written of data runs right, and is that of the vectors where the data says each response bit.
use Rattle.std.proofs.Common.{◌≡◌, ◌⊎◌, inl, inr, ℕ, Some, List, ◌++◌, refl, ap, sym, ◌∙◌}
use Rattle.std.proofs.Math.Path.{fun_ext}
use Rattle.std.specs.List.{flat_map, range_with_len}
use Rattle.soc_model.specs.Chips.{SocValue}
use Rattle.soc_model.specs.SoundChips.{IsSoundChip}
use Rattle.plan_model.specs.Cells.{Cell}
use Rattle.plan_model.specs.Plans.{PlanValue, LimitsValue, PlannedTest, planned}
use Rattle.plan_model.specs.Rules.{IsGood}
use Rattle.plan_model.specs.Runs.{Content, carried}
use Rattle.test_data.specs.DataWords.{EntryValue}
use Rattle.test_data.specs.Suiting.{name_in}
use Rattle.test_data.specs.Agreement.{Suits, Agrees}
use Rattle.vector_lines.specs.Wires.{wires_of, IsCompared}
use Rattle.tester_vectors.specs.Marks.{digit, mark, Marks, MarksStand, response_digits}
use Rattle.tester_vectors.specs.VectorText.{head_line, cycle_line, marked_text, vector_text}
use Rattle.tester_vectors.proofs.DrivenByText.{runs_as_shown}
use Rattle.tester_vectors.proofs.ReadBits.{marks_stand_in}
use Rattle.tester_vectors.proofs.TextPlaces.{text_driven, text_compared}
use Rattle.tester_commands.specs.DataContents.{data_content, data_marks}
use Rattle.tester_commands.specs.DataRuns.{bit_as_data, RunsWithData}
use Rattle.tester_commands.specs.RetargetText.{retarget_text, SaysAllResponses}
use Rattle.tester_commands.proofs.RightData.{data_carried, IsReadOfData, read_of_data}
use Rattle.tester_commands.proofs.RightTexts.{TextShows, any_byte, some_bit, shown_bit, only_data, each_data, runs_with}

-- ---- the text runs right

pub shows_marks : (soc : SocValue) (limits : LimitsValue) (plan : PlanValue) (content : Content) (marks : Marks) → IsGood soc limits plan → TextShows soc plan content marks (marked_text soc plan content marks)
shows_marks soc limits plan content marks good =
    let stand : MarksStand soc plan marks = marks_stand_in soc limits plan marks good in
    record {
      driven = λ c w h h'. text_driven soc plan content marks c w h h';
      reads = λ i k c w t x h h' at read. text_compared soc plan content marks c w h h' ∙ ap Some (stand.bits i t k x c w at read);
      rest = λ c w h h'.
          elim (stand.only c w) [
            | inl dash ↦ inl (text_compared soc plan content marks c w h h' ∙ ap Some dash)
            | inr r ↦ inr r
          ];
    }

pub runs_with_data : (soc : SocValue) (limits : LimitsValue) (plan : PlanValue) (es : List EntryValue) → IsSoundChip soc → IsGood soc limits plan → Suits soc es → RunsWithData soc plan es (retarget_text soc plan es)
runs_with_data soc limits plan es sound good suits =
    let shows : TextShows soc plan (data_content soc es) (data_marks soc es) (retarget_text soc plan es) = shows_marks soc limits plan (data_content soc es) (data_marks soc es) good in
    record {
      runs = λ content agrees.
          runs_with soc limits plan es content (retarget_text soc plan es) sound good suits shows (runs_as_shown soc limits plan content good) (shows_marks soc limits plan content (response_digits content) good) agrees;
      compares = record {
        each = λ id k x bit said. each_data soc limits plan es (data_content soc es) (retarget_text soc plan es) sound good suits shows id k x bit said;
        only = λ c w byte is other. only_data soc limits plan es (data_content soc es) (retarget_text soc plan es) sound good suits shows c w byte is other;
      };
    }

-- ---- the text of the vectors

-- the digit of a response bit that the data says
same_mark : (soc : SocValue) (es : List EntryValue) (content : Content) (t : PlannedTest) (k : ℕ) (x : Cell) → SaysAllResponses es → Agrees soc es content → IsReadOfData soc es t k x → data_marks soc es t.id k x ≡ digit (content.response t.id k x)
same_mark soc es content t k x all agrees d =
    let is = d.has.in_data in
    let b = some_bit d.bit (λ dash. all is.place is.before d.number is.entry d.has.pattern is.at is.pattern (d.says ∙ ap Some (any_byte d.bit dash))) in
    let bit : content.response t.id k x ≡ b.0 =
    ap (λ id. content.response id k x) d.origin.named
    ∙ shown_bit b.0 (content.response (name_in d.origin.core d.origin.test) k x) (agrees.response d.origin.core d.origin.test k d.number d.has.pattern x (bit_as_data b.0) is d.of_cell (d.says ∙ ap Some b.1)) in
    d.mark ∙ b.2 ∙ ap digit (sym bit)

same_marks : (soc : SocValue) (limits : LimitsValue) (plan : PlanValue) (es : List EntryValue) (content : Content) → IsSoundChip soc → IsGood soc limits plan → Suits soc es → Agrees soc es content → SaysAllResponses es → (c w : ℕ) →
    mark (data_marks soc es) (planned soc plan) c w ≡ mark (response_digits content) (planned soc plan) c w
same_marks soc limits plan es content sound good suits agrees all c w = by (said.only c w) (vectors.only c w)
  where
    said : MarksStand soc plan (data_marks soc es)
    said = marks_stand_in soc limits plan (data_marks soc es) good

    vectors : MarksStand soc plan (response_digits content)
    vectors = marks_stand_in soc limits plan (response_digits content) good

    compared : IsCompared (planned soc plan) c w → mark (data_marks soc es) (planned soc plan) c w ≡ mark (response_digits content) (planned soc plan) c w
    compared r =
        said.bits r.place r.test r.pattern r.cell c w r.at r.read
        ∙ same_mark soc es content r.test r.pattern r.cell all agrees (read_of_data soc limits plan es sound good suits r.place r.test r.pattern r.cell c w r.at r.read)
        ∙ sym (vectors.bits r.place r.test r.pattern r.cell c w r.at r.read)

    by : (mark (data_marks soc es) (planned soc plan) c w ≡ 45) ⊎ IsCompared (planned soc plan) c w → (mark (response_digits content) (planned soc plan) c w ≡ 45) ⊎ IsCompared (planned soc plan) c w →
        mark (data_marks soc es) (planned soc plan) c w ≡ mark (response_digits content) (planned soc plan) c w
    by (inl dash) (inl dash') = dash ∙ sym dash'
    by (inl dash) (inr r) = compared r
    by (inr r) other = compared r

same_line : (a b : Content) (m n : Marks) (tests : List PlannedTest) (wires c : ℕ) → ((w : ℕ) → carried a tests c w ≡ carried b tests c w) → ((w : ℕ) → mark m tests c w ≡ mark n tests c w) → cycle_line a m tests wires c ≡ cycle_line b n tests wires c
unfolding cycle_line
same_line a b m n tests wires c driven marks = rw (fun_ext driven, fun_ext marks) refl

-- with data of an agreeing content that says each response bit, the text is that of the content's vectors
pub vectors_again : (soc : SocValue) (limits : LimitsValue) (plan : PlanValue) (es : List EntryValue) (content : Content) → IsSoundChip soc → IsGood soc limits plan → Suits soc es → Agrees soc es content → SaysAllResponses es → retarget_text soc plan es ≡ vector_text soc plan content
vectors_again soc limits plan es content sound good suits agrees all =
    ap (λ (line : ℕ → List ℕ). head_line (wires_of plan) plan.cycles ++ flat_map line (range_with_len 0 plan.cycles))
    (fun_ext (λ c. same_line (data_content soc es) content (data_marks soc es) (response_digits content) (planned soc plan) (wires_of plan) c (λ w. sym (data_carried soc limits plan es content sound good suits agrees c w)) (λ w. same_marks soc limits plan es content sound good suits agrees all c w)))
