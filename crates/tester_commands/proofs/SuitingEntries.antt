-- The data of a content suits the chip, and the content agrees with it.
use Rattle.std.proofs.Common.{◌≡◌, ℕ, zero, suc, ◌+◌, ◌<◌, Bool, true, false, List, [], ◌∷◌, ◌++◌, map, length, Some, None, Option, option_map, is_some, refl, sym, ◌∙◌, ap, subst, arith, eq-eqb, slice_get, filter, flat_map}
use Rattle.std.specs.List.{range_with_len}
use Rattle.std.proofs.lemmas.List.{length-map, map-append}
use Rattle.std.proofs.lemmas.List.FromFn.{length-map-range_with_len, length-range_with_len, get_or-range_with_len}
use Rattle.std.proofs.lemmas.Option.{slice_get-map, slice_get_within, get_or_from_slice_get, same_Some}
use Rattle.soc_model.specs.declared.Test.{Test}
use Rattle.soc_model.specs.declared.TestId.{TestId}
use Rattle.soc_model.specs.declared.TheConstants.{NUMBER_WORD_MOST}
use Rattle.soc_model.specs.Chips.{ModuleValue, SocValue}
use Rattle.soc_model.specs.Modes.{is_tam}
use Rattle.soc_model.specs.Sizes.{HasSmall, test_numbers, module_numbers}
use Rattle.soc_model.specs.SoundChips.{IsSoundChip, IsSoundModule}
use Rattle.soc_model.proofs.Places.{IsKeyed-from_sound, module-unique}
use Rattle.plan_model.specs.Cells.{Cell, stimulus_cells, response_cells}
use Rattle.plan_model.specs.Runs.{Content}
use Rattle.plan_model.proofs.Lists.{from_flat_map, from_filter, in_flat_map, in_append_right}
use Rattle.test_data.specs.declared.DataBit.{DataBit}
use Rattle.test_data.specs.declared.Misfit.{Misfit}
use Rattle.test_data.specs.DataWords.{PatternValue, EntryValue}
use Rattle.test_data.specs.Suiting.{wanted_for, wanted_by, name_in, tam_names_in, tam_names, entry_names, first_misnamed, first_missing, patterns_against, wrong_patterns, wrong_word, bits_against, wrong_bits, first_of, misfit_of}
use Rattle.test_data.specs.Agreement.{IsTamTest, Suits, driven_bit, MayShow, IsPatternOf, Agrees}
use Rattle.test_data.proofs.SuitedData.{suits, wanted_is}
use Rattle.tester_commands.specs.ContentEntries.{data_bit, pattern_of, entry_of, entries_in, entries_of}
use Rattle.tester_commands.proofs.Names.{AreNew, named_right, none_before, none_missing, names_new}
use Rattle.tester_commands.proofs.ReadBack.{IsSmallName, AreSmallNames}
use Rattle.common_lemmas.proofs.Lists.{from_map}

-- ---- each entry is a test's

pub record IsEntryOf (soc : SocValue) (content : Content) (e : EntryValue) : Type 0 where
  pub core : ModuleValue
  pub test : Test
  pub is : IsTamTest soc core test
  pub entry : e ≡ entry_of content core test

pub entry_at : (soc : SocValue) (content : Content) (q : ℕ) (e : EntryValue) → slice_get (entries_of soc content) q ≡ Some e → IsEntryOf soc content e
unfolding entries_of
entry_at soc content q e at =
    let f = from_flat_map (entries_in content) soc.modules q e at in
    let t = from_map (entry_of content f.1) (filter is_tam f.1.tests) f.2 e f.4 in
    let n = from_filter is_tam f.1.tests f.2 t.0 t.1 in
    record { core = f.1; test = t.0; is = record { place = f.0; module_at = f.3; at = n.0; test_at = n.1; tam = n.2 }; entry = sym t.2 }

-- ---- names

names_in : (content : Content) (m : ModuleValue) (ts : List Test) → map (λ (e : EntryValue). e.test) (map (entry_of content m) ts) ≡ map (name_in m) ts
names_in content m [] = refl
names_in content m (t ∷ ts) = ap (λ ids. name_in m t ∷ ids) (names_in content m ts)

names_of : (content : Content) (ms : List ModuleValue) → entry_names (flat_map (entries_in content) ms) ≡ flat_map tam_names_in ms
names_of content [] = refl
names_of content (m ∷ ms) =
    map-append (λ (e : EntryValue). e.test) (entries_in content m) (flat_map (entries_in content) ms)
    ∙ ap (λ x. x ++ entry_names (flat_map (entries_in content) ms)) (names_in content m (filter is_tam m.tests)) ∙ ap (λ x. tam_names_in m ++ x) (names_of content ms)

names_are : (soc : SocValue) (content : Content) → entry_names (entries_of soc content) ≡ tam_names soc
unfolding entries_of
names_are soc content = names_of content soc.modules

sound_module : (soc : SocValue) → IsSoundChip soc → (p : ℕ) (m : ModuleValue) → slice_get soc.modules p ≡ Some m → IsSoundModule m
sound_module soc sound p m at = subst IsSoundModule (get_or_from_slice_get soc.modules p m m at) (sound.modules p m (slice_get_within soc.modules p m at))

known : (soc : SocValue) (content : Content) → IsSoundChip soc → (q : ℕ) (id : TestId) → slice_get (entry_names (entries_of soc content)) q ≡ Some id → is_some (wanted_by soc id) ≡ true
known soc content sound q id at =
    let e = from_map (λ (e : EntryValue). e.test) (entries_of soc content) q id at in
    let is = entry_at soc content q e.0 e.1 in
    let name : id ≡ name_in is.core is.test = sym e.2 ∙ ap (λ (x : EntryValue). x.test) is.entry in
    ap (λ i. is_some (wanted_by soc i)) name ∙ ap is_some (wanted_is soc sound is.core is.test is.is)

right_names : (soc : SocValue) (content : Content) → IsSoundChip soc → first_misnamed soc (entry_names (entries_of soc content)) ≡ None
right_names soc content sound =
    named_right soc [] (entry_names (entries_of soc content)) (known soc content sound)
    (subst (λ ids. AreNew ids) (sym (names_are soc content)) (names_new soc.modules sound.modules_differ (λ q m at. (sound_module soc sound q m at).tests_differ)))
    (none_before (entry_names (entries_of soc content)))

no_missing : (soc : SocValue) (content : Content) → first_missing soc (entry_names (entries_of soc content)) ≡ None
no_missing soc content = ap (first_missing soc) (names_are soc content) ∙ none_missing (tam_names soc)

-- ---- patterns and bits

none_first : (f : EntryValue → Option Misfit) (es : List EntryValue) → ((q : ℕ) (e : EntryValue) → slice_get es q ≡ Some e → f e ≡ None) → first_of f es ≡ None
none_first f [] none = refl
none_first f (e ∷ es) none = rw (none 0 e refl) (none_first f es (λ q x at. none (suc q) x at))

right_length : (content : Content) (m : ModuleValue) (t : Test) → patterns_against (entry_of content m t) (Some (wanted_for m t)) ≡ None
right_length content m t = rw (eq-eqb (length (entry_of content m t).patterns) t.patterns (length-map-range_with_len (pattern_of content m t) 1 t.patterns)) refl

right_words : (content : Content) (m : ModuleValue) (t : Test) (id : TestId) (from n k : ℕ) → wrong_word id (wanted_for m t) k (map (pattern_of content m t) (range_with_len from n)) ≡ None
right_words content m t id from zero k = refl
right_words content m t id from (suc n) k =
    let load : length (pattern_of content m t from).load ≡ length (stimulus_cells m t.scan) = length-map (stimulus_cells m t.scan) (λ (x : Cell). data_bit (content.stimulus (name_in m t) from x)) in
    let unload : length (pattern_of content m t from).unload ≡ length (response_cells m t.scan) = length-map (response_cells m t.scan) (λ (x : Cell). data_bit (content.response (name_in m t) from x)) in
    rw (eq-eqb (length (pattern_of content m t from).load) (length (stimulus_cells m t.scan)) load, eq-eqb (length (pattern_of content m t from).unload) (length (response_cells m t.scan)) unload)
    (right_words content m t id (from + 1) n (k + 1))

right_patterns : (soc : SocValue) (content : Content) → IsSoundChip soc → (q : ℕ) (e : EntryValue) → slice_get (entries_of soc content) q ≡ Some e → wrong_patterns soc e ≡ None
right_patterns soc content sound q e at =
    let is = entry_at soc content q e at in
    ap (wrong_patterns soc) is.entry ∙ ap (patterns_against (entry_of content is.core is.test)) (wanted_is soc sound is.core is.test is.is) ∙ right_length content is.core is.test

right_bits : (soc : SocValue) (content : Content) → IsSoundChip soc → (q : ℕ) (e : EntryValue) → slice_get (entries_of soc content) q ≡ Some e → wrong_bits soc e ≡ None
right_bits soc content sound q e at =
    let is = entry_at soc content q e at in
    ap (wrong_bits soc) is.entry ∙ ap (bits_against (entry_of content is.core is.test)) (wanted_is soc sound is.core is.test is.is)
    ∙ right_words content is.core is.test (name_in is.core is.test) 1 (is.test).patterns 1

pub no_misfit : (soc : SocValue) (content : Content) → IsSoundChip soc → misfit_of soc (entries_of soc content) ≡ None
no_misfit soc content sound =
    rw (right_names soc content sound, no_missing soc content, none_first (wrong_patterns soc) (entries_of soc content) (right_patterns soc content sound), none_first (wrong_bits soc) (entries_of soc content) (right_bits soc content sound)) refl

pub data_suits : (soc : SocValue) (content : Content) → IsSoundChip soc → Suits soc (entries_of soc content)
data_suits soc content sound = suits soc (entries_of soc content) sound (no_misfit soc content sound)

-- ---- the numbers of the names

small_module : (soc : SocValue) → IsSoundChip soc → (p : ℕ) (m : ModuleValue) → slice_get soc.modules p ≡ Some m → HasSmall m
small_module soc sound p m at = subst HasSmall (get_or_from_slice_get soc.modules p m m at) (sound.small p m (slice_get_within soc.modules p m at))

-- the first number of a test is one of the module's
test_number : (m : ModuleValue) (q : ℕ) (t : Test) → slice_get m.tests q ≡ Some t → (n : ℕ) × (slice_get (module_numbers m) n ≡ Some t.number)
test_number m q t at =
    let inside = in_flat_map test_numbers m.tests q 0 t t.number at refl in
    let behind = in_append_right m.chains (flat_map test_numbers m.tests) inside.0 t.number inside.1 in
    in_append_right (m.number ∷ m.level ∷ m.inputs ∷ m.outputs ∷ m.bidirs ∷ m.setup ∷ []) (m.chains ++ flat_map test_numbers m.tests) behind.0 t.number behind.1

small_at : (m : ModuleValue) → HasSmall m → (n v : ℕ) → slice_get (module_numbers m) n ≡ Some v → v < NUMBER_WORD_MOST + 1
small_at m small n v at = subst (λ v. v < NUMBER_WORD_MOST + 1) (get_or_from_slice_get (module_numbers m) n v v at) (small n v (slice_get_within (module_numbers m) n v at))

small_name : (soc : SocValue) → IsSoundChip soc → (m : ModuleValue) (t : Test) → IsTamTest soc m t → IsSmallName (name_in m t)
small_name soc sound m t is =
    let small = small_module soc sound is.place m is.module_at in
    let n = test_number m is.at t is.test_at in
    let number : m.number < NUMBER_WORD_MOST + 1 = small_at m small 0 m.number refl in
    let test : t.number < NUMBER_WORD_MOST + 1 = small_at m small n.0 t.number n.1 in
    record { number = omega arith; test = omega arith }

all_small : (es : List EntryValue) → ((q : ℕ) (e : EntryValue) → slice_get es q ≡ Some e → IsSmallName e.test) → AreSmallNames es
unfolding AreSmallNames
all_small [] each = tt
all_small (e ∷ es) each = (each 0 e refl, all_small es (λ q x at. each (suc q) x at))

pub small_names : (soc : SocValue) (content : Content) → IsSoundChip soc → AreSmallNames (entries_of soc content)
small_names soc content sound =
    all_small (entries_of soc content) (λ q e at. let is = entry_at soc content q e at in subst IsSmallName (sym (ap (λ (x : EntryValue). x.test) is.entry)) (small_name soc sound is.core is.test is.is))

-- ---- agreement

bit_back : (b : Bool) → driven_bit (data_bit b) ≡ b
bit_back true = refl
bit_back false = refl

may_show : (b : Bool) → MayShow (data_bit b) b
may_show true = refl
may_show false = refl

-- the entry of a name is that of the test of the name
same_module : (soc : SocValue) → IsSoundChip soc → (m n : ModuleValue) (t u : Test) → IsTamTest soc m t → IsTamTest soc n u → m.number ≡ n.number → m ≡ n
same_module soc sound m n t u a b number =
    let place : a.place ≡ b.place = module-unique (IsKeyed-from_sound sound) a.place b.place m n a.module_at b.module_at number in
    same_Some m n (sym a.module_at ∙ ap (slice_get soc.modules) place ∙ b.module_at)

same_test_of : (soc : SocValue) → IsSoundChip soc → (m : ModuleValue) (t u : Test) → IsTamTest soc m t → IsTamTest soc m u → t.number ≡ u.number → t ≡ u
same_test_of soc sound m t u a b number =
    let there : (q : ℕ) (x : Test) → slice_get m.tests q ≡ Some x → slice_get (map (λ (t : Test). t.number) m.tests) q ≡ Some x.number =
    λ q x at. slice_get-map (λ (t : Test). t.number) m.tests q ∙ ap (option_map (λ (t : Test). t.number)) at in
    let place : a.at ≡ b.at = (sound_module soc sound a.place m a.module_at).tests_differ a.at b.at t.number (there a.at t a.test_at) (there b.at u b.test_at ∙ ap Some (sym number)) in
    same_Some t u (sym a.test_at ∙ ap (slice_get m.tests) place ∙ b.test_at)

the_entry : (soc : SocValue) (content : Content) → IsSoundChip soc → (m : ModuleValue) (t : Test) → IsTamTest soc m t → (q : ℕ) (e : EntryValue) → slice_get (entries_of soc content) q ≡ Some e → e.test ≡ name_in m t → e ≡ entry_of content m t
the_entry soc content sound m t is q e at named =
    let of = entry_at soc content q e at in
    let name : name_in (of.core) (of.test) ≡ name_in m t = sym (ap (λ (x : EntryValue). x.test) of.entry) ∙ named in
    let core : of.core ≡ m = same_module soc sound of.core m of.test t of.is is (ap (λ (i : TestId). i.«module») name) in
    let there : IsTamTest soc m of.test = subst (λ (m : ModuleValue). IsTamTest soc m of.test) core of.is in
    let test : of.test ≡ t = same_test_of soc sound m of.test t there is (ap (λ (i : TestId). i.test) name) in
    of.entry ∙ ap (λ (n : ModuleValue). entry_of content n of.test) core ∙ ap (λ (u : Test). entry_of content m u) test

pattern_at : (content : Content) (m : ModuleValue) (t : Test) (before : ℕ) (p : PatternValue) → slice_get (entry_of content m t).patterns before ≡ Some p → p ≡ pattern_of content m t (before + 1)
pattern_at content m t before p at =
    let ks : List ℕ = range_with_len 1 t.patterns in
    let k = from_map (pattern_of content m t) ks before p at in
    let inside : before < t.patterns = omega (arith, slice_get_within ks before k.0 k.1, length-range_with_len 1 t.patterns) in
    let number : k.0 ≡ before + 1 = sym (get_or_from_slice_get ks before k.0 k.0 k.1) ∙ get_or-range_with_len 1 t.patterns before k.0 inside ∙ omega arith in
    sym k.2 ∙ ap (pattern_of content m t) number

bit_at : (f : Cell → Bool) (cells : List Cell) (n : ℕ) (x : Cell) (b : DataBit) → slice_get cells n ≡ Some x → slice_get (map (λ (x : Cell). data_bit (f x)) cells) n ≡ Some b → b ≡ data_bit (f x)
bit_at f cells n x b at there =
    same_Some b (data_bit (f x)) (sym there ∙ slice_get-map (λ (x : Cell). data_bit (f x)) cells n ∙ ap (option_map (λ (x : Cell). data_bit (f x))) at)

the_pattern : (soc : SocValue) (content : Content) → IsSoundChip soc → (m : ModuleValue) (t : Test) (k : ℕ) (p : PatternValue) → IsPatternOf soc (entries_of soc content) m t k p → p ≡ pattern_of content m t k
the_pattern soc content sound m t k p is =
    let e : is.entry ≡ entry_of content m t = the_entry soc content sound m t is.tested is.place is.entry is.at is.named in
    pattern_at content m t is.before p (ap (λ (e : EntryValue). slice_get e.patterns is.before) (sym e) ∙ is.pattern) ∙ ap (pattern_of content m t) (sym is.number_is)

pub content_agrees : (soc : SocValue) (content : Content) → IsSoundChip soc → Agrees soc (entries_of soc content) content
content_agrees soc content sound = record {
  stimulus = λ m t k n p x b is at there.
      let e = the_pattern soc content sound m t k p is in
      let same = bit_at (content.stimulus (name_in m t) k) (stimulus_cells m t.scan) n x b at (ap (λ (p : PatternValue). slice_get p.load n) (sym e) ∙ there) in
      sym (ap driven_bit same ∙ bit_back (content.stimulus (name_in m t) k x));
  response = λ m t k n p x b is at there.
      let e = the_pattern soc content sound m t k p is in
      let same = bit_at (content.response (name_in m t) k) (response_cells m t.scan) n x b at (ap (λ (p : PatternValue). slice_get p.unload n) (sym e) ∙ there) in
      subst (λ b. MayShow b (content.response (name_in m t) k x)) (sym same) (may_show (content.response (name_in m t) k x));
}
