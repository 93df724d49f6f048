-- Test data that is written is read back.
use Rattle.std.proofs.Common.{◌≡◌, ℕ, ◌+◌, ◌<◌, ◌≤◌, ◌^◌, true, false, List, [], ◌∷◌, ◌++◌, map, length, Some, refl, sym, ◌∙◌, ap, subst, arith, append_assoc, decimal, codes, flat_map}
use Rattle.std.specs.List.{list_all}
use Rattle.std.proofs.lemmas.Fmt.{decimal_nonempty}
use Rattle.outside.specs.Words.{words_left, AllInWord, IsEnd, ends_word}
use Rattle.outside.proofs.WordLemmas.{first_word}
use Rattle.outside.proofs.DecimalLemmas.{decimal_in_word, number_of-decimal}
use Rattle.soc_model.specs.declared.TestId.{TestId}
use Rattle.plan_model.specs.declared.TheConstants.{PLAN_NUMBER_MOST}
use Rattle.test_data.specs.declared.DataBit.{DataBit}
use Rattle.test_data.specs.declared.DataBit.TheVariants.{Zero, One, Any}
use Rattle.test_data.specs.DataWords.{is_bit, bit_of, is_all_bits, bit_word, PatternValue, EntryValue, DataToken, title, header, number, bits, SaysToken, SayTokens, pattern_tokens, entry_tokens, SaysData}
use Rattle.tester_commands.specs.DataText.{bit_byte, bits_word, pattern_line, test_line, entry_lines, data_text}

-- from any line on the words of a text say these tokens
abbrev Say : List ℕ → List DataToken → Type 0
Say text ts = (line : ℕ) → SayTokens (words_left line text) ts

-- a word with its token, before a text that ends it
first_says : (word rest : List ℕ) (t : DataToken) (ts : List DataToken) → 0 < length word → AllInWord word → IsEnd rest → SaysToken word t → Say rest ts → Say (word ++ rest) (t ∷ ts)
first_says word rest t ts some inside end says others line =
    subst (λ ws. SayTokens ws (t ∷ ts)) (sym (first_word line word rest some inside end)) (says, others line)

-- a space or a line feed before it
space_says : (rest : List ℕ) (ts : List DataToken) → Say rest ts → Say (32 ∷ rest) ts
space_says rest ts says line = says line

feed_says : (rest : List ℕ) (ts : List DataToken) → Say rest ts → Say (10 ∷ rest) ts
feed_says rest ts says line = says (line + 1)

-- ---- bit words

byte_is_bit : (b : DataBit) → is_bit (bit_byte b) ≡ true
byte_is_bit Zero = refl
byte_is_bit One = refl
byte_is_bit Any = refl

byte_in_word : (b : DataBit) → ends_word (bit_byte b) ≡ false
byte_in_word Zero = refl
byte_in_word One = refl
byte_in_word Any = refl

byte_back : (b : DataBit) → bit_of (bit_byte b) ≡ b
byte_back Zero = refl
byte_back One = refl
byte_back Any = refl

all_are_bits : (bs : List DataBit) → list_all is_bit (map bit_byte bs) ≡ true
all_are_bits [] = refl
all_are_bits (b ∷ bs) = rw (byte_is_bit b) (all_are_bits bs)

all_in_word : (bs : List DataBit) → AllInWord (map bit_byte bs)
all_in_word [] = tt
all_in_word (b ∷ bs) = (byte_in_word b, all_in_word bs)

all_back : (bs : List DataBit) → map bit_of (map bit_byte bs) ≡ bs
all_back [] = refl
all_back (b ∷ bs) = rw (byte_back b, all_back bs) refl

word_back : (bs : List DataBit) → bit_word (bits_word bs) ≡ Some bs
unfolding bit_word
word_back [] = refl
word_back (b ∷ bs) =
    let all : is_all_bits (map bit_byte (b ∷ bs)) ≡ true = rw (byte_is_bit b) (all_are_bits bs) in
    rw all (ap Some (all_back (b ∷ bs)))

word_inside : (bs : List DataBit) → AllInWord (bits_word bs)
word_inside [] = (refl, tt)
word_inside (b ∷ bs) = all_in_word (b ∷ bs)

word_some : (bs : List DataBit) → 0 < length (bits_word bs)
word_some [] = omega arith
word_some (b ∷ bs) = omega arith

bits_say : (bs : List DataBit) (rest : List ℕ) (ts : List DataToken) → IsEnd rest → Say rest ts → Say (bits_word bs ++ rest) (bits bs ∷ ts)
bits_say bs rest ts end says = first_says (bits_word bs) rest (bits bs) ts (word_some bs) (word_inside bs) end (word_back bs) says

-- ---- numbers

number_says : (n : ℕ) (rest : List ℕ) (ts : List DataToken) → n ≤ PLAN_NUMBER_MOST → IsEnd rest → Say rest ts → Say (decimal n ++ rest) (number n ∷ ts)
number_says n rest ts small end says =
    let fits : n < 2 ^ 64 = omega (arith, small) in
    first_says (decimal n) rest (number n) ts (decimal_nonempty n fits) (decimal_in_word n fits) end (number_of-decimal n PLAN_NUMBER_MOST fits small) says

-- ---- patterns, entries and data

pattern_says : (p : PatternValue) (rest : List ℕ) (ts : List DataToken) → Say rest ts → Say (pattern_line p ++ rest) (bits p.load ∷ bits p.unload ∷ ts)
pattern_says p rest ts says =
    let text : pattern_line p ++ rest ≡ bits_word p.load ++ (32 ∷ (bits_word p.unload ++ (10 ∷ rest))) =
    append_assoc (bits_word p.load) (32 ∷ (bits_word p.unload ++ 10 ∷ [])) rest ∙ ap (λ x. bits_word p.load ++ (32 ∷ x)) (append_assoc (bits_word p.unload) (10 ∷ []) rest) in
    subst (λ x. Say x (bits p.load ∷ bits p.unload ∷ ts)) (sym text)
    (bits_say p.load (32 ∷ (bits_word p.unload ++ (10 ∷ rest))) (bits p.unload ∷ ts) refl
    (space_says (bits_word p.unload ++ (10 ∷ rest)) (bits p.unload ∷ ts) (bits_say p.unload (10 ∷ rest) ts refl (feed_says rest ts says))))

patterns_say : (ps : List PatternValue) (rest : List ℕ) (ts : List DataToken) → Say rest ts → Say (flat_map pattern_line ps ++ rest) (flat_map pattern_tokens ps ++ ts)
patterns_say [] rest ts says = says
patterns_say (p ∷ ps) rest ts says =
    subst (λ x. Say x (bits p.load ∷ bits p.unload ∷ (flat_map pattern_tokens ps ++ ts))) (sym (append_assoc (pattern_line p) (flat_map pattern_line ps) rest))
    (pattern_says p (flat_map pattern_line ps ++ rest) (flat_map pattern_tokens ps ++ ts) (patterns_say ps rest ts says))

-- the names of the entries are numbers of such a text
pub record IsSmallName (id : TestId) : Type 0 where
  pub number : id.«module» ≤ PLAN_NUMBER_MOST
  pub test : id.test ≤ PLAN_NUMBER_MOST

test_says : (id : TestId) (rest : List ℕ) (ts : List DataToken) → IsSmallName id → Say rest ts → Say (test_line id ++ rest) (header ∷ number id.«module» ∷ number id.test ∷ ts)
test_says id rest ts small says =
    let text : test_line id ++ rest ≡ codes "Test" ++ (32 ∷ (decimal id.«module» ++ (32 ∷ (decimal id.test ++ (10 ∷ rest))))) =
    ap (λ x. codes "Test " ++ x) (append_assoc (decimal id.«module») (32 ∷ (decimal id.test ++ 10 ∷ [])) rest ∙ ap (λ x. decimal id.«module» ++ (32 ∷ x)) (append_assoc (decimal id.test) (10 ∷ []) rest)) in
    subst (λ x. Say x (header ∷ number id.«module» ∷ number id.test ∷ ts)) (sym text)
    (first_says (codes "Test") (32 ∷ (decimal id.«module» ++ (32 ∷ (decimal id.test ++ (10 ∷ rest))))) header (number id.«module» ∷ number id.test ∷ ts) (omega arith) (refl, (refl, (refl, (refl, tt)))) refl refl
    (space_says (decimal id.«module» ++ (32 ∷ (decimal id.test ++ (10 ∷ rest)))) (number id.«module» ∷ number id.test ∷ ts)
    (number_says id.«module» (32 ∷ (decimal id.test ++ (10 ∷ rest))) (number id.test ∷ ts) small.number refl
    (space_says (decimal id.test ++ (10 ∷ rest)) (number id.test ∷ ts) (number_says id.test (10 ∷ rest) ts small.test refl (feed_says rest ts says))))))

entry_says : (e : EntryValue) (rest : List ℕ) (ts : List DataToken) → IsSmallName e.test → Say rest ts → Say (entry_lines e ++ rest) (entry_tokens e ++ ts)
entry_says e rest ts small says =
    subst (λ x. Say x (entry_tokens e ++ ts)) (sym (append_assoc (test_line e.test) (flat_map pattern_line e.patterns) rest))
    (test_says e.test (flat_map pattern_line e.patterns ++ rest) (flat_map pattern_tokens e.patterns ++ ts) small (patterns_say e.patterns rest ts says))

unfoldable pub AreSmallNames : List EntryValue → Type 0
AreSmallNames [] = Unit {0}
AreSmallNames (e ∷ es) = IsSmallName e.test × AreSmallNames es

entries_say : (es : List EntryValue) → AreSmallNames es → Say (flat_map entry_lines es) (flat_map entry_tokens es)
unfolding AreSmallNames
entries_say [] small = λ line. tt
entries_say (e ∷ es) small = entry_says e (flat_map entry_lines es) (flat_map entry_tokens es) small.0 (entries_say es small.1)

pub text_says : (es : List EntryValue) → AreSmallNames es → SaysData (data_text es) es
unfolding data_text
text_says es small =
    first_says (codes "Data") (32 ∷ 49 ∷ 10 ∷ flat_map entry_lines es) title (number 1 ∷ flat_map entry_tokens es) (omega arith) (refl, (refl, (refl, (refl, tt)))) refl refl
    (space_says (49 ∷ 10 ∷ flat_map entry_lines es) (number 1 ∷ flat_map entry_tokens es)
    (first_says (codes "1") (10 ∷ flat_map entry_lines es) (number 1) (flat_map entry_tokens es) (omega arith) (refl, tt) refl refl (feed_says (flat_map entry_lines es) (flat_map entry_tokens es) (entries_say es small)))) 1
