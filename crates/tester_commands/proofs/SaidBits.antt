-- The bytes of a word of the data are those of its contents, and these stand for the data's content on a chip.
use Rattle.std.proofs.Common.{◌≡◌, ℕ, true, List, [], get_or, length, position, None, Some, refl, ap, sym, ◌∙◌, arith, slice_get}
use Rattle.std.proofs.lemmas.List.Sums.{position_or_len_is}
use Rattle.std.proofs.lemmas.Option.{slice_get-get_or}
use Rattle.soc_model.specs.declared.TestId.{TestId}
use Rattle.soc_model.specs.Chips.{SocValue, LiveTest, live_tests, is_live, same_test}
use Rattle.soc_model.specs.SoundChips.{IsSoundChip}
use Rattle.plan_model.proofs.Finding.{none_passes}
use Rattle.plan_model.proofs.Lists.{from_filter}
use Rattle.plan_model.proofs.PlannedTests.{IsLive, live_at}
use Rattle.test_data.specs.declared.DataBit.{DataBit}
use Rattle.test_data.specs.declared.DataBit.TheVariants.{Zero, One, Any}
use Rattle.test_data.specs.DataWords.{PatternValue, EntryValue}
use Rattle.test_data.specs.Agreement.{IsTamTest, driven_bit}
use Rattle.vector_lines.specs.Marks.{digit}
use Rattle.vector_lines.specs.Placed.{StandFor}
use Rattle.tester_commands.specs.DataContents.{byte_for, compared_byte, word_byte, numbered, load_of, unload_of, load_bit, unload_bit, entry_place, data_keys, data_drive, data_mark, data_content, data_marks}
use Rattle.tester_commands.proofs.DataBits.{driven_is, marked_is}

-- ---- bytes

driven_byte : (b : DataBit) → byte_for 48 b ≡ digit (driven_bit b)
driven_byte Zero = refl
driven_byte One = refl
driven_byte Any = refl

pub said_load : (es : List EntryValue) (key k n : ℕ) (p : PatternValue) → Some p ≡ numbered (slice_get es key) k → word_byte 48 p.load n ≡ digit (data_drive es key k n)
unfolding load_bit
said_load es key k n p is = driven_byte (get_or p.load n Any) ∙ ap (λ o. digit (driven_bit (load_of o n))) is

pub no_load : (es : List EntryValue) (key k n : ℕ) → None ≡ numbered (slice_get es key) k → 48 ≡ digit (data_drive es key k n)
unfolding load_bit
no_load es key k n none = ap (λ o. digit (driven_bit (load_of o n))) none

pub said_unload : (es : List EntryValue) (key k n : ℕ) (p : PatternValue) → Some p ≡ numbered (slice_get es key) k → word_byte 45 p.unload n ≡ data_mark es key k n
unfolding unload_bit
said_unload es key k n p is = ap (λ o. compared_byte (unload_of o n)) is

pub no_unload : (es : List EntryValue) (key k n : ℕ) → None ≡ numbered (slice_get es key) k → 45 ≡ data_mark es key k n
unfolding unload_bit
no_unload es key k n none = ap (λ o. compared_byte (unload_of o n)) none

-- a name that no entry has
pub no_entry : (es : List EntryValue) (id : TestId) → None ≡ position (λ (e : EntryValue). same_test id e.test) es → length es ≡ entry_place es id
no_entry es id none =
    let d : EntryValue = record { test = id; patterns = [] } in
    sym (position_or_len_is (λ (e : EntryValue). same_test id e.test) es (length es) d (omega arith)
    (λ k less. none_passes (λ (e : EntryValue). same_test id e.test) es (sym none) k (get_or es k d) (slice_get-get_or es k d less))
    (λ h. absurd (omega (arith, h))))

-- ---- the contents of a chip

-- a live test over the wires
tested : (soc : SocValue) (i : ℕ) (l : LiveTest) → slice_get (live_tests soc) i ≡ Some l → l.test.tam ≡ true → IsTamTest soc l.core l.test
tested soc i l at tam =
    let o : IsLive soc.modules 0 l = live_at soc.modules 0 i l at in
    let f = from_filter is_live l.core.tests o.n l.test o.test_at in
    record { place = o.up; module_at = o.module_at; at = f.0; test_at = f.1; tam = rw (f.2, tam) refl }

pub data_stands : (soc : SocValue) (es : List EntryValue) → IsSoundChip soc → StandFor (data_keys es) (data_drive es) (data_mark es) soc (data_content soc es) (data_marks soc es)
data_stands soc es sound = record {
  stimulus = λ i l at tam k x. driven_is soc es sound l.core l.test k x (tested soc i l at tam);
  answers = λ i l at tam k x. marked_is soc es sound l.core l.test k x (tested soc i l at tam);
}
