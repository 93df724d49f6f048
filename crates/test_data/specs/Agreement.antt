-- What data that suits a chip says of the contents of its tests.
use Rattle.std.specs.Prelude.{◌≡◌, ℕ, ◌+◌, Bool, true, false, Some, List, length, slice_get}
use Rattle.soc_model.specs.declared.Test.{Test}
use Rattle.soc_model.specs.Chips.{ModuleValue, SocValue}
use Rattle.soc_model.specs.Modes.{is_tam}
use Rattle.plan_model.specs.Cells.{Cell, stimulus_cells, response_cells, IsStimulusBit, IsResponseBit}
use Rattle.plan_model.specs.Runs.{Content}
use Rattle.test_data.specs.declared.DataBit.{DataBit}
use Rattle.test_data.specs.declared.DataBit.TheVariants.{Zero, One, Any}
use Rattle.test_data.specs.DataWords.{PatternValue, EntryValue}
use Rattle.test_data.specs.Suiting.{name_in}

-- ---- data that suits

-- a live test over the wires of a module of the chip
pub record IsTamTest (soc : SocValue) (m : ModuleValue) (t : Test) : Type 0 where
  pub place : ℕ
  pub module_at : slice_get soc.modules place ≡ Some m
  pub at : ℕ
  pub test_at : slice_get m.tests at ≡ Some t
  pub tam : is_tam t ≡ true

-- a pattern has as many bits as the stimulus and the response of the test
pub record HasBits (m : ModuleValue) (t : Test) (p : PatternValue) : Type 0 where
  pub load : length p.load ≡ length (stimulus_cells m t.scan)
  pub unload : length p.unload ≡ length (response_cells m t.scan)

-- exactly one entry is the test's, with its patterns and their bits
pub record HasEntry (es : List EntryValue) (m : ModuleValue) (t : Test) : Type 0 where
  pub place : ℕ
  pub entry : EntryValue
  pub at : slice_get es place ≡ Some entry
  pub named : entry.test ≡ name_in m t
  pub only : (q : ℕ) (e : EntryValue) → slice_get es q ≡ Some e → e.test ≡ name_in m t → q ≡ place
  pub patterns : length entry.patterns ≡ t.patterns
  pub words : (k : ℕ) (p : PatternValue) → slice_get entry.patterns k ≡ Some p → HasBits m t p

-- the entry is of such a test
pub record IsOfTest (soc : SocValue) (e : EntryValue) : Type 0 where
  pub core : ModuleValue
  pub test : Test
  pub is : IsTamTest soc core test
  pub named : e.test ≡ name_in core test

-- each such test has its entry, and each entry is of such a test
pub record Suits (soc : SocValue) (es : List EntryValue) : Type 0 where
  pub each : (m : ModuleValue) (t : Test) → IsTamTest soc m t → HasEntry es m t
  pub only : (q : ℕ) (e : EntryValue) → slice_get es q ≡ Some e → IsOfTest soc e

-- ---- contents that agree

-- the bit that is driven for a bit of a stimulus: 0 where it may be any
abbrev pub driven_bit : DataBit → Bool
driven_bit Zero = false
driven_bit One = true
driven_bit Any = false

-- a response may have this bit
abbrev pub MayShow : DataBit → Bool → Type 0
MayShow Zero shown = shown ≡ false
MayShow One shown = shown ≡ true
MayShow Any shown = Unit {0}

-- the pattern of a number from 1 on, in an entry of a live test over the wires
pub record IsPatternOf (soc : SocValue) (es : List EntryValue) (m : ModuleValue) (t : Test) (number : ℕ) (p : PatternValue) : Type 0 where
  pub tested : IsTamTest soc m t
  pub place : ℕ
  pub entry : EntryValue
  pub at : slice_get es place ≡ Some entry
  pub named : entry.test ≡ name_in m t
  pub before : ℕ
  pub number_is : number ≡ before + 1
  pub pattern : slice_get entry.patterns before ≡ Some p

-- Each bit of a stimulus is the one that is driven for it, and each bit of a response is one that the data allows.
pub record Agrees (soc : SocValue) (es : List EntryValue) (content : Content) : Type 0 where
  pub stimulus : (m : ModuleValue) (t : Test) (k n : ℕ) (p : PatternValue) (x : Cell) (b : DataBit) → IsPatternOf soc es m t k p →
      IsStimulusBit m t.scan x n → slice_get p.load n ≡ Some b → content.stimulus (name_in m t) k x ≡ driven_bit b
  pub response : (m : ModuleValue) (t : Test) (k n : ℕ) (p : PatternValue) (x : Cell) (b : DataBit) → IsPatternOf soc es m t k p →
      IsResponseBit m t.scan x n → slice_get p.unload n ≡ Some b → MayShow b (content.response (name_in m t) k x)
