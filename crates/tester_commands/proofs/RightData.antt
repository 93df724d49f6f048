-- What a plan with test data drives and reads: the bits of the data.
use Rattle.std.proofs.Common.{◌≡◌, ◌⊎◌, inl, inr, ℕ, ◌-◌, ◌≤◌, ◌<◌, true, Some, List, [], length, get_or, reverse, ap, sym, subst, ◌∙◌, arith, slice_get, Contains}
use Rattle.std.proofs.lemmas.List.{get_or_past, length-reverse}
use Rattle.std.proofs.lemmas.List.Sums.{count_by-le-length}
use Rattle.std.proofs.lemmas.Bool.{cases_lt}
use Rattle.std.proofs.lemmas.Option.{slice_get-get_or, slice_get_within, get_or_from_slice_get}
use Rattle.soc_model.specs.declared.Test.{Test}
use Rattle.soc_model.specs.Chips.{ModuleValue, SocValue}
use Rattle.soc_model.specs.Modes.{scan_lengths}
use Rattle.soc_model.specs.SoundChips.{IsSoundChip}
use Rattle.plan_model.specs.Cells.{Cell, In, is_loaded, is_read, in_length, cells_of, response_cells, IsResponseBit}
use Rattle.plan_model.specs.Operations.{Capture}
use Rattle.plan_model.specs.Plans.{PlanValue, LimitsValue, PlannedTest, planned}
use Rattle.plan_model.specs.Right.{IsAt, IsRight, IsReadAt, AllStand}
use Rattle.plan_model.specs.Rules.{IsGood}
use Rattle.plan_model.specs.Runs.{Content, chain_at, carried}
use Rattle.plan_model.proofs.ChainsInTheRun.{AreApart}
use Rattle.plan_model.proofs.GoodPlansRunRight.{every_good_plan_is_right}
use Rattle.plan_model.proofs.LawOfOneTest.{reverse_is}
use Rattle.plan_model.proofs.LoadsAndReads.{IsTamTest as DoesPatterns, begun_at}
use Rattle.plan_model.proofs.OperationBlocks.{IsCaptured, capture_found}
use Rattle.plan_model.proofs.TestsInGoodPlans.{apart, is_tam_test, all_stand}
use Rattle.test_data.specs.declared.DataBit.{DataBit}
use Rattle.test_data.specs.declared.DataBit.TheVariants.{Any}
use Rattle.test_data.specs.DataWords.{PatternValue, EntryValue}
use Rattle.test_data.specs.Suiting.{name_in}
use Rattle.test_data.specs.Agreement.{Suits, IsPatternOf, Agrees}
use Rattle.vector_lines.specs.Places.{response_place}
use Rattle.vector_lines.proofs.Responses.{response_number}
use Rattle.tester_commands.specs.DataContents.{compared_byte, unload_bit, entry_place, data_content, data_marks}
use Rattle.tester_commands.proofs.SameLoads.{SameLoads, carried_same, loaded_cell, tam_tests}
use Rattle.tester_commands.proofs.DataBits.{IsOfChip, of_chip, cell_of_mode, response_bit, HasPattern, pattern_of, unload_is, marked_is, same_load}

-- ---- cells of chains

-- the first cells of a chain, as many as it loads, are cells of the mode
front_of_mode : (soc : SocValue) (limits : LimitsValue) (plan : PlanValue) → IsGood soc limits plan → (i j r : ℕ) (t : PlannedTest) → IsAt (planned soc plan) i t → t.tam ≡ true → r < in_length (chain_at t j) → Contains t.cells (get_or (chain_at t j) r (In 0))
front_of_mode soc limits plan good i j r t at tam h = by (cases_lt j (length t.chains))
  where
    by : (j < length t.chains) ⊎ (length t.chains ≤ j) → Contains t.cells (get_or (chain_at t j) r (In 0))
    by (inl within) =
        let few : in_length (chain_at t j) ≤ length (chain_at t j) = count_by-le-length is_loaded (chain_at t j) in
        cell_of_mode t j r (chain_at t j) (get_or (chain_at t j) r (In 0)) (all_stand soc limits plan good i t at tam) (slice_get-get_or t.chains j [] within) (slice_get-get_or (chain_at t j) r (In 0) (omega (arith, few, h)))
    by (inr past) =
        let none : chain_at t j ≡ [] = get_or_past t.chains j [] past in
        let h' : r < in_length [] = subst (λ cells. r < in_length cells) none h in
        absurd (omega (arith, h'))

-- so are those of a reversed chain
reversed_of_mode : (t : PlannedTest) (j s : ℕ) (cells : List Cell) (x : Cell) → AllStand t → slice_get t.chains j ≡ Some cells → slice_get (reverse cells) s ≡ Some x → Contains t.cells x
reversed_of_mode t j s cells x stand there at =
    let within : s < length (reverse cells) = slice_get_within (reverse cells) s x at in
    let long : length (reverse cells) ≡ length cells = length-reverse cells in
    let here : slice_get cells (length cells - 1 - s) ≡ Some (get_or cells (length cells - 1 - s) (In 0)) = slice_get-get_or cells (length cells - 1 - s) (In 0) (omega (arith, within, long)) in
    let same : get_or cells (length cells - 1 - s) (In 0) ≡ x = reverse_is cells s x at in
    cell_of_mode t j (length cells - 1 - s) cells x stand there (here ∙ ap Some same)

-- ---- what is driven

-- contents that agree load the same bits
pub same_loads : (soc : SocValue) (limits : LimitsValue) (plan : PlanValue) (es : List EntryValue) (content : Content) → IsSoundChip soc → IsGood soc limits plan → Suits soc es → Agrees soc es content → SameLoads content (data_content soc es) (planned soc plan)
same_loads soc limits plan es content sound good suits agrees i j t at tam k r first last h =
    let o : IsOfChip soc t = of_chip soc plan i t at tam in
    let has : Contains (cells_of o.core o.test.scan) (get_or (chain_at t j) r (In 0)) = subst (λ cells. Contains cells (get_or (chain_at t j) r (In 0))) o.cells (front_of_mode soc limits plan good i j r t at tam h) in
    let last' : k ≤ o.test.patterns = subst (λ p. k ≤ p) o.patterns last in
    rw o.named (same_load soc es content sound suits agrees o.core o.test k (get_or (chain_at t j) r (In 0)) o.is first last' has (loaded_cell soc plan i j r t at tam h))

pub data_carried : (soc : SocValue) (limits : LimitsValue) (plan : PlanValue) (es : List EntryValue) (content : Content) → IsSoundChip soc → IsGood soc limits plan → Suits soc es → Agrees soc es content → (c w : ℕ) →
    carried content (planned soc plan) c w ≡ carried (data_content soc es) (planned soc plan) c w
data_carried soc limits plan es content sound good suits agrees c w =
    carried_same content (data_content soc es) (planned soc plan) c w (tam_tests soc plan) (same_loads soc limits plan es content sound good suits agrees)

-- ---- what is read

-- a response bit that is read is one of a live test, with a bit of the data
pub record IsReadOfData (soc : SocValue) (es : List EntryValue) (t : PlannedTest) (k : ℕ) (x : Cell) : Type 0 where
  pub origin : IsOfChip soc t
  pub has : HasPattern soc es origin.core origin.test k
  pub number : ℕ
  pub of_cell : IsResponseBit origin.core origin.test.scan x number
  pub bit : DataBit
  pub says : slice_get has.pattern.unload number ≡ Some bit
  pub mark : data_marks soc es t.id k x ≡ compared_byte bit

-- the mark of a response bit, by its pattern and its number
pub mark_by_number : (soc : SocValue) (es : List EntryValue) → IsSoundChip soc → Suits soc es → (m : ModuleValue) (test : Test) (k n : ℕ) (x : Cell) (p : PatternValue) (bit : DataBit) → IsPatternOf soc es m test k p → IsResponseBit m test.scan x n → slice_get p.unload n ≡ Some bit →
    data_marks soc es (name_in m test) k x ≡ compared_byte bit
mark_by_number soc es sound suits m test k n x p bit is of_cell says =
    marked_is soc es sound m test k x is.tested
    ∙ ap (λ n. compared_byte (unload_bit es (entry_place es (name_in m test)) k n)) (response_number m test.scan x n of_cell)
    ∙ ap compared_byte (unload_is soc es suits m test k n p is ∙ get_or_from_slice_get p.unload n bit Any says)

pub read_of_data : (soc : SocValue) (limits : LimitsValue) (plan : PlanValue) (es : List EntryValue) → IsSoundChip soc → IsGood soc limits plan → Suits soc es → (i : ℕ) (t : PlannedTest) (k : ℕ) (x : Cell) (c w : ℕ) → IsAt (planned soc plan) i t → IsReadAt t k x c w → IsReadOfData soc es t k x
read_of_data soc limits plan es sound good suits i t k x c w at read =
    let stand : AreApart (planned soc plan) = apart soc limits plan good in
    let tam : t.tam ≡ true = stand.tam i read.chain t at (slice_get_within t.chains read.chain read.cells read.there) in
    let does : DoesPatterns t = is_tam_test soc plan i t at tam in
    let b = begun_at t read.capture (Capture k) read.captures in
    let f : IsCaptured does.setup does.si does.so t.patterns (read.capture - t.start) k = capture_found does.setup does.si does.so t.patterns (read.capture - t.start) k (ap (λ ops. slice_get ops (read.capture - t.start)) (sym does.operations) ∙ b.1) in
    let o : IsOfChip soc t = of_chip soc plan i t at tam in
    let h : HasPattern soc es o.core o.test k = pattern_of soc es suits o.core o.test k o.is f.first (subst (λ p. k ≤ p) o.patterns f.last) in
    let right : IsRight soc limits plan (data_content soc es) = every_good_plan_is_right soc limits plan (data_content soc es) good in
    let is_one : is_read x ≡ true = (right.reads.shows i t k x c w at read).0 in
    let has : Contains (cells_of o.core o.test.scan) x = subst (λ cells. Contains cells x) o.cells (reversed_of_mode t read.chain read.shifts read.cells x (all_stand soc limits plan good i t at tam) read.there read.cell) in
    let n : ℕ = response_place (scan_lengths o.core o.test.scan) x in
    let of_cell : IsResponseBit o.core o.test.scan x n = response_bit o.core o.test.scan x has is_one in
    let within : n < length h.pattern.unload = omega (arith, h.bits.unload, slice_get_within (response_cells o.core o.test.scan) n x of_cell) in
    let says : slice_get h.pattern.unload n ≡ Some (get_or h.pattern.unload n Any) = slice_get-get_or h.pattern.unload n Any within in
    record {
      origin = o;
      has = h;
      number = n;
      of_cell = of_cell;
      bit = get_or h.pattern.unload n Any;
      says = says;
      mark = ap (λ id. data_marks soc es id k x) o.named ∙ mark_by_number soc es sound suits o.core o.test k n x h.pattern (get_or h.pattern.unload n Any) h.in_data of_cell says;
    }
