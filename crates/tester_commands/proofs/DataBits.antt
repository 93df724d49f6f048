-- What data that suits a chip says of the tests of a plan.
use Rattle.std.proofs.Common.{◌≡◌, ◌⊎◌, inl, inr, ℕ, suc, ◌+◌, ◌-◌, ◌≤◌, ◌<◌, Bool, true, false, Option, Some, List, [], length, get_or, refl, ap, sym, subst, ◌∙◌, arith, slice_get, Contains, flat_map}
use Rattle.std.specs.List.{position_or_len}
use Rattle.std.proofs.lemmas.Bool.{cases_Bool}
use Rattle.std.proofs.lemmas.Option.{slice_get-get_or, slice_get_within, get_or_from_slice_get}
use Rattle.std.proofs.lemmas.List.Sorted.{Contains-permutation, IsPermutation-sym}
use Rattle.std.proofs.lemmas.List.Sums.{position_or_len_is}
use Rattle.soc_model.specs.declared.Test.{Test}
use Rattle.soc_model.specs.Chips.{ModuleValue, SocValue, same_test, is_live}
use Rattle.soc_model.specs.Modes.{scan_lengths}
use Rattle.soc_model.specs.SoundChips.{IsSoundChip}
use Rattle.plan_model.specs.Cells.{Cell, is_loaded, is_read, cells_of, stimulus_cells, IsStimulusBit, IsResponseBit}
use Rattle.plan_model.specs.Plans.{PlanValue, PlannedTest, planned, planned_test}
use Rattle.plan_model.specs.Right.{IsAt, AllStand}
use Rattle.plan_model.specs.Runs.{Content}
use Rattle.plan_model.proofs.Lists.{from_filter, at_contains, in_flat_map}
use Rattle.plan_model.proofs.PlannedTests.{Origin, origin}
use Rattle.plan_model.proofs.TestsInGoodPlans.{planned_tam}
use Rattle.test_data.specs.declared.DataBit.{DataBit}
use Rattle.test_data.specs.declared.DataBit.TheVariants.{Any}
use Rattle.test_data.specs.DataWords.{PatternValue, EntryValue}
use Rattle.test_data.specs.Suiting.{name_in}
use Rattle.test_data.specs.Agreement.{IsTamTest, HasBits, Suits, driven_bit, IsPatternOf, Agrees}
use Rattle.test_data.proofs.SuitedData.{id_itself, same_id, places_of}
use Rattle.vector_lines.specs.Places.{stimulus_place, response_place}
use Rattle.vector_lines.proofs.Responses.{response_number}
use Rattle.vector_lines.proofs.Stimuli.{stimulus_number}
use Rattle.tester_commands.specs.DataContents.{compared_byte, numbered, load_of, unload_of, load_bit, unload_bit, entry_place, of_test, of_module, of_places, of_named, load_at, unload_at, data_content, data_marks}
use Rattle.common_lemmas.proofs.Lists.{contains_at, in_filter}

-- ---- the test of a plan

-- a planned test over the wires is a live test of the chip
pub record IsOfChip (soc : SocValue) (t : PlannedTest) : Type 0 where
  pub core : ModuleValue
  pub test : Test
  pub is : IsTamTest soc core test
  pub named : t.id ≡ name_in core test
  pub patterns : t.patterns ≡ test.patterns
  pub cells : t.cells ≡ cells_of core test.scan

pub planned_name : (plan : PlanValue) (place : ℕ) (m : ModuleValue) (test : Test) → (planned_test plan place m test).id ≡ name_in m test
unfolding planned_test
planned_name plan place m test = refl

pub planned_patterns : (plan : PlanValue) (place : ℕ) (m : ModuleValue) (test : Test) → (planned_test plan place m test).patterns ≡ test.patterns
unfolding planned_test
planned_patterns plan place m test = refl

pub planned_cells : (plan : PlanValue) (place : ℕ) (m : ModuleValue) (test : Test) → (planned_test plan place m test).cells ≡ cells_of m test.scan
unfolding planned_test
planned_cells plan place m test = refl

pub of_chip : (soc : SocValue) (plan : PlanValue) (i : ℕ) (t : PlannedTest) → IsAt (planned soc plan) i t → t.tam ≡ true → IsOfChip soc t
of_chip soc plan i t at tam =
    let o : Origin soc plan i t = origin soc plan i t at in
    let tam' : o.l.test.tam ≡ true = sym (planned_tam plan o.l.place o.l.core o.l.test) ∙ ap (λ (t : PlannedTest). t.tam) o.is ∙ tam in
    let f = from_filter is_live o.l.core.tests o.n o.l.test o.test_at in
    record {
      core = o.l.core;
      test = o.l.test;
      is = record { place = o.l.place; module_at = o.module_at; at = f.0; test_at = f.1; tam = rw (f.2, tam') refl };
      named = ap (λ (t : PlannedTest). t.id) (sym o.is) ∙ planned_name plan o.l.place o.l.core o.l.test;
      patterns = ap (λ (t : PlannedTest). t.patterns) (sym o.is) ∙ planned_patterns plan o.l.place o.l.core o.l.test;
      cells = ap (λ (t : PlannedTest). t.cells) (sym o.is) ∙ planned_cells plan o.l.place o.l.core o.l.test;
    }

-- ---- the numbers of cells

-- a cell of a chain is one of the mode
pub cell_of_mode : (t : PlannedTest) (j r : ℕ) (cells : List Cell) (x : Cell) → AllStand t → slice_get t.chains j ≡ Some cells → slice_get cells r ≡ Some x → Contains t.cells x
cell_of_mode t j r cells x stand there at =
    let n = in_flat_map (λ (cells : List Cell). cells) t.chains j r cells x there at in
    Contains-permutation (flat_map (λ cells. cells) t.chains) t.cells x (IsPermutation-sym t.cells (flat_map (λ cells. cells) t.chains) stand) (at_contains (flat_map (λ cells. cells) t.chains) n.0 x n.1)

-- the number of its bit in a stimulus, and in a response
pub stimulus_bit : (m : ModuleValue) (scan : Bool) (x : Cell) → Contains (cells_of m scan) x → is_loaded x ≡ true → IsStimulusBit m scan x (stimulus_place (m.inputs + m.bidirs) (scan_lengths m scan) x)
stimulus_bit m scan x has loaded =
    let k = contains_at (cells_of m scan) x has in
    let n = in_filter is_loaded (cells_of m scan) k.0 x k.1 loaded in
    subst (IsStimulusBit m scan x) (sym (stimulus_number m scan x n.0 n.1)) n.1

pub response_bit : (m : ModuleValue) (scan : Bool) (x : Cell) → Contains (cells_of m scan) x → is_read x ≡ true → IsResponseBit m scan x (response_place (scan_lengths m scan) x)
response_bit m scan x has read =
    let k = contains_at (cells_of m scan) x has in
    let n = in_filter is_read (cells_of m scan) k.0 x k.1 read in
    subst (IsResponseBit m scan x) (sym (response_number m scan x n.0 n.1)) n.1

-- ---- the entry of a test

only_place : (p : EntryValue → Bool) (es : List EntryValue) (q : ℕ) (e : EntryValue) → slice_get es q ≡ Some e → p e ≡ true → ((j : ℕ) (f : EntryValue) → slice_get es j ≡ Some f → p f ≡ true → j ≡ q) → position_or_len p es ≡ q
only_place p es q e at passes only =
    let within : q < length es = slice_get_within es q e at in
    position_or_len_is p es q e (omega (arith, within))
    (λ k less. before k less (cases_Bool (p (get_or es k e))))
    (λ h. ap p (get_or_from_slice_get es q e e at) ∙ passes)
  where
    before : (k : ℕ) → k < q → (p (get_or es k e) ≡ true) ⊎ (p (get_or es k e) ≡ false) → p (get_or es k e) ≡ false
    before k less (inl yes') =
        let within : q < length es = slice_get_within es q e at in
        let same : k ≡ q = only k (get_or es k e) (slice_get-get_or es k e (omega (arith, less, within))) yes' in
        absurd (omega (arith, same, less))
    before k less (inr no') = no'

-- the entry of a test is found by its name
pub place_is : (soc : SocValue) (es : List EntryValue) → Suits soc es → (m : ModuleValue) (t : Test) → IsTamTest soc m t → (q : ℕ) (e : EntryValue) → slice_get es q ≡ Some e → e.test ≡ name_in m t → entry_place es (name_in m t) ≡ q
place_is soc es suits m t is q e at named =
    only_place (λ (e : EntryValue). same_test (name_in m t) e.test) es q e at (ap (same_test (name_in m t)) named ∙ id_itself (name_in m t))
    (λ j f there same. (suits.each m t is).only j f there (sym (same_id (name_in m t) f.test same)) ∙ sym ((suits.each m t is).only q e at named))

-- the bits of a pattern of the data
pub record HasPattern (soc : SocValue) (es : List EntryValue) (m : ModuleValue) (t : Test) (k : ℕ) : Type 0 where
  pub pattern : PatternValue
  pub in_data : IsPatternOf soc es m t k pattern
  pub bits : HasBits m t pattern

pub pattern_of : (soc : SocValue) (es : List EntryValue) → Suits soc es → (m : ModuleValue) (t : Test) (k : ℕ) → IsTamTest soc m t → 1 ≤ k → k ≤ t.patterns → HasPattern soc es m t k
pattern_of soc es suits m t k is first last =
    let h = suits.each m t is in
    let d : PatternValue = record { load = []; unload = [] } in
    let within : k - 1 < length h.entry.patterns = omega (arith, h.patterns, first, last) in
    let there : slice_get h.entry.patterns (k - 1) ≡ Some (get_or h.entry.patterns (k - 1) d) = slice_get-get_or h.entry.patterns (k - 1) d within in
    record {
      pattern = get_or h.entry.patterns (k - 1) d;
      in_data = record { tested = is; place = h.place; entry = h.entry; at = h.at; named = h.named; before = k - 1; number_is = omega (arith, first); pattern = there };
      bits = h.words (k - 1) (get_or h.entry.patterns (k - 1) d) there;
    }

numbered_is : (es : List EntryValue) (q k before : ℕ) (e : EntryValue) (p : PatternValue) → slice_get es q ≡ Some e → k ≡ before + 1 → slice_get e.patterns before ≡ Some p → numbered (slice_get es q) k ≡ Some p
numbered_is es q k before e p at number there =
    let next : k ≡ suc before = omega (arith, number) in
    rw (at, next) there

pub load_is : (soc : SocValue) (es : List EntryValue) → Suits soc es → (m : ModuleValue) (t : Test) (k n : ℕ) (p : PatternValue) → IsPatternOf soc es m t k p → load_bit es (entry_place es (name_in m t)) k n ≡ get_or p.load n Any
unfolding load_bit
load_is soc es suits m t k n p is =
    ap (λ q. load_of (numbered (slice_get es q) k) n) (place_is soc es suits m t is.tested is.place is.entry is.at is.named)
    ∙ ap (λ o. load_of o n) (numbered_is es is.place k is.before is.entry p is.at is.number_is is.pattern)

pub unload_is : (soc : SocValue) (es : List EntryValue) → Suits soc es → (m : ModuleValue) (t : Test) (k n : ℕ) (p : PatternValue) → IsPatternOf soc es m t k p → unload_bit es (entry_place es (name_in m t)) k n ≡ get_or p.unload n Any
unfolding unload_bit
unload_is soc es suits m t k n p is =
    ap (λ q. unload_of (numbered (slice_get es q) k) n) (place_is soc es suits m t is.tested is.place is.entry is.at is.named)
    ∙ ap (λ o. unload_of o n) (numbered_is es is.place k is.before is.entry p is.at is.number_is is.pattern)

-- ---- the contents of a test

pub named_is : {X : Type 0} (f : ModuleValue → Test → X) (d : X) (soc : SocValue) → IsSoundChip soc → (m : ModuleValue) (t : Test) → IsTamTest soc m t → of_named f d soc (name_in m t) ≡ f m t
named_is f d soc sound m t is =
    ap (of_places f d soc) (places_of soc sound m t is) ∙ ap (λ (o : Option ModuleValue). of_module f d o is.at) is.module_at ∙ ap (of_test f d m) is.test_at

pub driven_is : (soc : SocValue) (es : List EntryValue) → IsSoundChip soc → (m : ModuleValue) (t : Test) (k : ℕ) (x : Cell) → IsTamTest soc m t →
    (data_content soc es).stimulus (name_in m t) k x ≡ driven_bit (load_bit es (entry_place es (name_in m t)) k (stimulus_place (m.inputs + m.bidirs) (scan_lengths m t.scan) x))
unfolding data_content
driven_is soc es sound m t k x is = named_is (λ m' t'. driven_bit (load_at es (name_in m t) k x m' t')) false soc sound m t is

pub marked_is : (soc : SocValue) (es : List EntryValue) → IsSoundChip soc → (m : ModuleValue) (t : Test) (k : ℕ) (x : Cell) → IsTamTest soc m t →
    data_marks soc es (name_in m t) k x ≡ compared_byte (unload_bit es (entry_place es (name_in m t)) k (response_place (scan_lengths m t.scan) x))
unfolding data_marks
marked_is soc es sound m t k x is = named_is (λ m' t'. compared_byte (unload_at es (name_in m t) k x m' t')) 45 soc sound m t is

-- ---- contents that agree

bit_there : (bits : List DataBit) (n : ℕ) → n < length bits → slice_get bits n ≡ Some (get_or bits n Any)
bit_there bits n h = slice_get-get_or bits n Any h

-- an agreeing content loads what the data's content loads
pub same_load : (soc : SocValue) (es : List EntryValue) (content : Content) → IsSoundChip soc → Suits soc es → Agrees soc es content → (m : ModuleValue) (t : Test) (k : ℕ) (x : Cell) → IsTamTest soc m t → 1 ≤ k → k ≤ t.patterns → Contains (cells_of m t.scan) x → is_loaded x ≡ true →
    content.stimulus (name_in m t) k x ≡ (data_content soc es).stimulus (name_in m t) k x
same_load soc es content sound suits agrees m t k x is first last has loaded =
    let h : HasPattern soc es m t k = pattern_of soc es suits m t k is first last in
    let n : ℕ = stimulus_place (m.inputs + m.bidirs) (scan_lengths m t.scan) x in
    let bit : IsStimulusBit m t.scan x n = stimulus_bit m t.scan x has loaded in
    let within : n < length h.pattern.load = omega (arith, h.bits.load, slice_get_within (stimulus_cells m t.scan) n x bit) in
    agrees.stimulus m t k n h.pattern x (get_or h.pattern.load n Any) h.in_data bit (bit_there h.pattern.load n within)
    ∙ ap driven_bit (sym (load_is soc es suits m t k n h.pattern h.in_data))
    ∙ sym (driven_is soc es sound m t k x is)
