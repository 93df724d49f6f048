-- A text with the contents of data runs right with every content that agrees with the data, and compares what the data says.
use Rattle.std.proofs.Common.{◌≡◌, ◌≢◌, ◌⊎◌, inl, inr, ℕ, ◌+◌, ◌-◌, ◌≤◌, ◌<◌, Bool, true, false, Some, List, length, option_map, refl, ap, sym, subst, ◌∙◌, arith, slice_get, Contains}
use Rattle.std.proofs.lemmas.Bool.{and_parts}
use Rattle.std.proofs.lemmas.Option.{same_Some, slice_get_within, slice_get-map}
use Rattle.soc_model.specs.declared.Test.{Test}
use Rattle.soc_model.specs.declared.TestId.{TestId}
use Rattle.soc_model.specs.Chips.{ModuleValue, SocValue, LiveTest, is_live, live_tests}
use Rattle.soc_model.specs.SoundChips.{IsSoundChip}
use Rattle.plan_model.specs.Cells.{Cell, is_read, cells_of}
use Rattle.plan_model.specs.Operations.{Shift}
use Rattle.plan_model.specs.Plans.{PlanValue, LimitsValue, PlannedTest, planned, planned_test}
use Rattle.plan_model.specs.Right.{IsAt, IsRight, IsReadAt}
use Rattle.plan_model.specs.Rules.{IsGood}
use Rattle.plan_model.specs.Runs.{Content, carried, operation_at}
use Rattle.plan_model.proofs.GoodPlansRunRight.{every_good_plan_is_right}
use Rattle.plan_model.proofs.LoadsAndReads.{begun_at}
use Rattle.plan_model.proofs.Lists.{from_filter, at_contains}
use Rattle.plan_model.proofs.TestsInGoodPlans.{apart, planned_tam}
use Rattle.live_tests.proofs.Placing.{in_live}
use Rattle.test_data.specs.declared.DataBit.{DataBit}
use Rattle.test_data.specs.declared.DataBit.TheVariants.{Zero, One, Any}
use Rattle.test_data.specs.DataWords.{PatternValue, EntryValue}
use Rattle.test_data.specs.Suiting.{name_in}
use Rattle.test_data.specs.Agreement.{IsTamTest, Suits, MayShow, IsPatternOf, Agrees}
use Rattle.vector_lines.specs.Wires.{wires_of, IsCompared}
use Rattle.tester_vectors.specs.Marks.{digit, Marks, response_digits}
use Rattle.tester_vectors.specs.DrivenRuns.{IsDriven, line_begin, RunsAsShown}
use Rattle.tester_vectors.specs.VectorText.{vector_text}
use Rattle.tester_vectors.proofs.SameDrive.{chains_within}
use Rattle.tester_commands.specs.DataContents.{compared_byte, data_content, data_marks}
use Rattle.tester_commands.specs.DataRuns.{bit_as_data, IsSaid, IsByteOf, IsComparedOnce, IsOfData, RunsWithContent}
use Rattle.tester_commands.proofs.DataBits.{planned_name, planned_patterns, planned_cells}
use Rattle.tester_commands.proofs.RightData.{data_carried, IsReadOfData, read_of_data, mark_by_number}
use Rattle.common_lemmas.proofs.Lists.{in_filter}

-- what stands in a text that shows the bits of a content, and marks where response bits are read
pub record TextShows (soc : SocValue) (plan : PlanValue) (content : Content) (marks : Marks) (text : List ℕ) : Type 0 where
  pub driven : IsDriven plan text (carried content (planned soc plan))
  pub reads : (i k c w : ℕ) (t : PlannedTest) (x : Cell) → c < plan.cycles → w < wires_of plan → IsAt (planned soc plan) i t → IsReadAt t k x c w →
      slice_get text (line_begin plan c + (wires_of plan + 1 + w)) ≡ Some (marks t.id k x)
  pub rest : (c w : ℕ) → c < plan.cycles → w < wires_of plan →
      (slice_get text (line_begin plan c + (wires_of plan + 1 + w)) ≡ Some 45) ⊎ IsCompared (planned soc plan) c w

-- ---- a bit that is compared

-- a byte that isn't `-` is a bit's
pub some_bit : (b : DataBit) → compared_byte b ≢ 45 → (bit : Bool) × (b ≡ bit_as_data bit) × (compared_byte b ≡ digit bit)
some_bit Zero other = (false, refl, refl)
some_bit One other = (true, refl, refl)
some_bit Any other = absurd (other refl)

-- a `-` is of a bit that may be any
pub any_byte : (b : DataBit) → compared_byte b ≡ 45 → b ≡ Any
any_byte Zero e = absurd (omega (arith, e))
any_byte One e = absurd (omega (arith, e))
any_byte Any e = refl

bit_byte : (bit : Bool) → compared_byte (bit_as_data bit) ≡ digit bit
bit_byte true = refl
bit_byte false = refl

pub shown_bit : (bit shown : Bool) → MayShow (bit_as_data bit) shown → shown ≡ bit
shown_bit true shown may = may
shown_bit false shown may = may

-- ---- what isn't `-` is of the data

pub only_data : (soc : SocValue) (limits : LimitsValue) (plan : PlanValue) (es : List EntryValue) (content : Content) (text : List ℕ) → IsSoundChip soc → IsGood soc limits plan → Suits soc es → TextShows soc plan content (data_marks soc es) text → (c w byte : ℕ) → IsByteOf plan text c w byte → byte ≢ 45 → IsOfData soc plan es c w byte
only_data soc limits plan es content text sound good suits shows c w byte is other = by (shows.rest c w is.cycle is.wire)
  where
    of_mark : (r : IsCompared (planned soc plan) c w) → (d : IsReadOfData soc es r.test r.pattern r.cell) → byte ≡ compared_byte d.bit → IsOfData soc plan es c w byte
    of_mark r d same =
        let b = some_bit d.bit (λ dash. other (same ∙ dash)) in
        record {
          place = r.place;
          test = r.test;
          at = r.at;
          pattern = r.pattern;
          cell = r.cell;
          read = r.read;
          bit = b.0;
          said = record { core = d.origin.core; test = d.origin.test; named = d.origin.named; pattern = d.has.pattern; in_data = d.has.in_data; number = d.number; of_cell = d.of_cell; says = d.says ∙ ap Some b.1 };
          is = same ∙ b.2;
        }

    by : (slice_get text (line_begin plan c + (wires_of plan + 1 + w)) ≡ Some 45) ⊎ IsCompared (planned soc plan) c w → IsOfData soc plan es c w byte
    by (inl dash) = absurd (other (same_Some byte 45 (sym is.stands ∙ dash)))
    by (inr r) =
        let d : IsReadOfData soc es r.test r.pattern r.cell = read_of_data soc limits plan es sound good suits r.place r.test r.pattern r.cell c w r.at r.read in
        let mark : byte ≡ data_marks soc es r.test.id r.pattern r.cell = same_Some byte (data_marks soc es r.test.id r.pattern r.cell) (sym is.stands ∙ shows.reads r.place r.pattern c w r.test r.cell is.cycle is.wire r.at r.read) in
        of_mark r d (mark ∙ d.mark)

-- ---- each bit of the data is compared

-- a live test over the wires stands in the plan
planned_at : (soc : SocValue) (plan : PlanValue) (m : ModuleValue) (t : Test) → (is : IsTamTest soc m t) → (i : ℕ) × IsAt (planned soc plan) i (planned_test plan is.place m t)
unfolding planned
planned_at soc plan m t is =
    let parts = and_parts (is_live t) t.tam is.tam in
    let n = in_filter is_live m.tests is.at t is.test_at parts.0 in
    let i = in_live soc.modules 0 is.place n.0 is.place m t (omega arith) is.module_at n.1 in
    (i.0, slice_get-map (λ (l : LiveTest). planned_test plan l.place l.core l.test) (live_tests soc) i.0 ∙ ap (option_map (λ (l : LiveTest). planned_test plan l.place l.core l.test)) i.1)

-- the number of a pattern of the data is one of its test's
pattern_within : (soc : SocValue) (es : List EntryValue) → Suits soc es → (m : ModuleValue) (t : Test) (k : ℕ) (p : PatternValue) → IsPatternOf soc es m t k p → (1 ≤ k) × (k ≤ t.patterns)
pattern_within soc es suits m t k p is =
    let h = suits.each m t is.tested in
    let place : is.place ≡ h.place = h.only is.place is.entry is.at is.named in
    let same : h.entry ≡ is.entry = same_Some h.entry is.entry (sym h.at ∙ ap (slice_get es) (sym place) ∙ is.at) in
    let many : length is.entry.patterns ≡ t.patterns = ap (λ (e : EntryValue). length e.patterns) (sym same) ∙ h.patterns in
    let within : is.before < length is.entry.patterns = slice_get_within is.entry.patterns is.before p is.pattern in
    (omega (arith, is.number_is), omega (arith, is.number_is, many, within))

-- a bit is read while the plan runs, on one of its wires
read_within : (soc : SocValue) (limits : LimitsValue) (plan : PlanValue) (content : Content) → IsGood soc limits plan → IsRight soc limits plan content → (i k c w : ℕ) (t : PlannedTest) (x : Cell) → IsAt (planned soc plan) i t → IsReadAt t k x c w → (c < plan.cycles) × (w < wires_of plan)
read_within soc limits plan content good right i k c w t x at read =
    let shifts : operation_at t c ≡ Some Shift = right.reads.all_shifts i t k x c w at read c (omega (arith, read.cycle)) (omega arith) in
    let b = begun_at t c Shift shifts in
    let within : c - t.start < length t.operations = slice_get_within t.operations (c - t.start) Shift b.1 in
    let wire = chains_within soc plan (apart soc limits plan good) i read.chain t at (slice_get_within t.chains read.chain read.cells read.there) in
    (right.ends.over i t c at (b.0, omega (arith, b.0, within)), omega (arith, read.wire, wire))

-- a response bit that the data says is compared at the one cycle at which it is read, on the one wire
compared_once : (soc : SocValue) (limits : LimitsValue) (plan : PlanValue) (es : List EntryValue) (content : Content) (text : List ℕ) → IsSoundChip soc → IsGood soc limits plan → Suits soc es → TextShows soc plan content (data_marks soc es) text →
    (k : ℕ) (x : Cell) (bit : Bool) (m : ModuleValue) (test : Test) (p : PatternValue) (n i c w : ℕ) (t : PlannedTest) → IsPatternOf soc es m test k p → slice_get p.unload n ≡ Some (bit_as_data bit) → t.id ≡ name_in m test → data_marks soc es (name_in m test) k x ≡ compared_byte (bit_as_data bit) → IsAt (planned soc plan) i t → IsReadAt t k x c w →
    IsComparedOnce soc plan text (name_in m test) k x bit
compared_once soc limits plan es content text sound good suits shows k x bit m test p n i c w t is says named mark at read =
    let right : IsRight soc limits plan content = every_good_plan_is_right soc limits plan content good in
    let within = read_within soc limits plan content good right i k c w t x at read in
    record {
      place = i;
      test = t;
      at = at;
      named = named;
      cycle = c;
      wire = w;
      read = read;
      stands = record {
        cycle = within.0;
        wire = within.1;
        stands = shows.reads i k c w t x within.0 within.1 at read ∙ ap (λ id. Some (data_marks soc es id k x)) named ∙ ap Some (mark ∙ bit_byte bit);
      };
      once = λ c' w' read'. right.reads.once i t k x c' c w' w at read' read;
    }

pub each_data : (soc : SocValue) (limits : LimitsValue) (plan : PlanValue) (es : List EntryValue) (content : Content) (text : List ℕ) → IsSoundChip soc → IsGood soc limits plan → Suits soc es → TextShows soc plan content (data_marks soc es) text → (id : TestId) (k : ℕ) (x : Cell) (bit : Bool) → IsSaid soc es id k x bit → IsComparedOnce soc plan text id k x bit
each_data soc limits plan es content text sound good suits shows id k x bit said =
    let tested : IsTamTest soc said.core said.test = said.in_data.tested in
    let parts = and_parts (is_live said.test) said.test.tam tested.tam in
    let at = planned_at soc plan said.core said.test tested in
    let t : PlannedTest = planned_test plan tested.place said.core said.test in
    let tam : t.tam ≡ true = planned_tam plan tested.place said.core said.test ∙ parts.1 in
    let within = pattern_within soc es suits said.core said.test k said.pattern said.in_data in
    let last : k ≤ t.patterns = subst (λ p. k ≤ p) (sym (planned_patterns plan tested.place said.core said.test)) within.1 in
    let f = from_filter is_read (cells_of said.core said.test.scan) said.number x said.of_cell in
    let has : Contains t.cells x = subst (λ cells. Contains cells x) (sym (planned_cells plan tested.place said.core said.test)) (at_contains (cells_of said.core said.test.scan) f.0 x f.1) in
    let right : IsRight soc limits plan content = every_good_plan_is_right soc limits plan content good in
    let r = right.reads.every at.0 t k x at.1 tam within.0 last has f.2 in
    subst (λ id. IsComparedOnce soc plan text id k x bit) (sym said.named)
    (compared_once soc limits plan es content text sound good suits shows k x bit said.core said.test said.pattern said.number at.0 r.0 r.1 t said.in_data said.says (planned_name plan tested.place said.core said.test) (mark_by_number soc es sound suits said.core said.test k said.number x said.pattern (bit_as_data bit) said.in_data said.of_cell said.says) at.1 r.2)

-- ---- the runs

pub runs_with : (soc : SocValue) (limits : LimitsValue) (plan : PlanValue) (es : List EntryValue) (content : Content) (text : List ℕ) → IsSoundChip soc → IsGood soc limits plan → Suits soc es → TextShows soc plan (data_content soc es) (data_marks soc es) text →
    RunsAsShown soc plan content (vector_text soc plan content) → TextShows soc plan content (response_digits content) (vector_text soc plan content) → Agrees soc es content → RunsWithContent soc plan content text
runs_with soc limits plan es content text sound good suits shows run vectors agrees = record {
  driven = λ c w h h'. shows.driven c w h h' ∙ ap (λ b. Some (digit b)) (sym (same c w));
  loads = λ drive initial driven i k c t at captures. run.loads drive initial (λ c w h h'. as_vectors drive driven c w h h') i k c t at captures;
  shows = λ drive initial driven c w byte is other.
      let d : IsOfData soc plan es c w byte = only_data soc limits plan es (data_content soc es) text sound good suits shows c w byte is other in
      let bit : content.response d.test.id d.pattern d.cell ≡ d.bit = ap (λ id. content.response id d.pattern d.cell) d.said.named ∙ shown_bit d.bit (content.response (name_in d.said.core d.said.test) d.pattern d.cell) (agrees.response d.said.core d.said.test d.pattern d.said.number d.said.pattern d.cell (bit_as_data d.bit) d.said.in_data d.said.of_cell d.said.says) in
      let compared = run.reads drive initial (λ c w h h'. as_vectors drive driven c w h h') c w is.cycle is.wire (record { place = d.place; test = d.test; pattern = d.pattern; cell = d.cell; at = d.at; read = d.read }) in
      let reads = vectors.reads d.place d.pattern c w d.test d.cell is.cycle is.wire d.at d.read in
      d.is ∙ ap digit (sym bit) ∙ same_Some _ _ (sym reads ∙ compared);
}
  where
    same : (c w : ℕ) → carried content (planned soc plan) c w ≡ carried (data_content soc es) (planned soc plan) c w
    same c w = data_carried soc limits plan es content sound good suits agrees c w

    as_vectors : (drive : ℕ → ℕ → Bool) → IsDriven plan text drive → (c w : ℕ) → c < plan.cycles → w < wires_of plan → slice_get (vector_text soc plan content) (line_begin plan c + w) ≡ Some (digit (drive c w))
    as_vectors drive driven c w h h' = run.driven c w h h' ∙ ap (λ b. Some (digit b)) (same c w) ∙ sym (shows.driven c w h h') ∙ driven c w h h'
