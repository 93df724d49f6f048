-- The words of the .soc form, after the files of the ITC'02 SOC Test Benchmarks.
use Rattle.std.specs.Prelude.{ℕ, ◌||◌, ◌&&◌, ◌++◌, List, [], ◌∷◌, Bool, true, false, not, codes, length, nat_eq, nat_le, Option, None, Some, if◌then◌else◌}
use Rattle.std.specs.List.{list_all, filter}
use Rattle.std.specs.Char.{is_ascii_alphabetic, is_ascii_digit}
use Rattle.outside.specs.Words.{same_letters}
use Rattle.outside.specs.Decimal.{number_of}
use Rattle.soc_model.specs.declared.TheConstants.{NUMBER_WORD_MOST}
use Rattle.soc_reader.specs.declared.keys.Key.{Key}
use Rattle.soc_reader.specs.declared.keys.Key.TheVariants.{SocName, TotalModules, Options, PowerFlag, XyFlag, Module, Level, Inputs, Outputs, Bidirs, Setup, ScanChains, TotalTests, Test, ScanUse, TamUse, Patterns, Power}

-- Keywords are written in any case of their letters; a keyword may have two spellings.
abbrev pub keywords : List (List ℕ × Key)
keywords =
    (codes "SocName", SocName) ∷ (codes "TotalModules", TotalModules) ∷ (codes "Options", Options)
    ∷ (codes "Module", Module) ∷ (codes "Level", Level) ∷ (codes "Inputs", Inputs) ∷ (codes "Outputs", Outputs)
    ∷ (codes "Bidirs", Bidirs) ∷ (codes "Setup", Setup) ∷ (codes "ScanChains", ScanChains) ∷ (codes "TotalScanChains", ScanChains)
    ∷ (codes "TotalTests", TotalTests) ∷ (codes "Tests", TotalTests) ∷ (codes "Test", Test) ∷ (codes "ScanUse", ScanUse)
    ∷ (codes "TamUse", TamUse) ∷ (codes "Patterns", Patterns) ∷ (codes "Power", Power) ∷ []

-- directly after `Options` and its flags, `Power` and `XY` are flags
abbrev pub flags : List (List ℕ × Key)
flags = (codes "Power", PowerFlag) ∷ (codes "XY", XyFlag) ∷ []

-- the keyword that a word is by this list
abbrev pub named : List (List ℕ × Key) → List ℕ → Option Key
named [] w = None
named (k ∷ ks) w = if same_letters w k.0 then Some k.1 else named ks w

-- the keywords of lengths that pass a test
abbrev pub sized : (ℕ → Bool) → List (List ℕ × Key)
sized test = filter (λ k. test (length k.0)) keywords

-- the keyword that a word is, directly after `Options` and its flags or elsewhere
unfoldable pub key_of : Bool → List ℕ → Option Key
key_of true w = named (flags ++ keywords) w
key_of false w = named keywords w

-- `ScanChainLengths` may stand before the lengths of scan chains
unfoldable pub is_lengths_word : List ℕ → Bool
is_lengths_word w = same_letters w (codes "ScanChainLengths")

abbrev pub is_printable_byte : ℕ → Bool
is_printable_byte b = nat_le 33 b && nat_le b 126

unfoldable pub is_printable : List ℕ → Bool
is_printable w = list_all is_printable_byte w

-- a word that may be a name or stand in place data
unfoldable pub is_free_word : List ℕ → Bool
is_free_word w = is_printable w && not (is_lengths_word w) && not (same_letters w (codes "XY"))

abbrev pub begins_with : (ℕ → Bool) → List ℕ → Bool
begins_with test [] = false
begins_with test (b ∷ bs) = test b

unfoldable pub is_letter_word : List ℕ → Bool
is_letter_word w = begins_with is_ascii_alphabetic w

-- a word of place data: it begins with a digit, `-` or `+`
unfoldable pub is_coordinate : List ℕ → Bool
is_coordinate w = is_printable w && begins_with (λ b. is_ascii_digit b || nat_eq b 45 || nat_eq b 43) w

-- a number is at most `NUMBER_WORD_MOST`
unfoldable pub number : List ℕ → Option ℕ
number w = number_of w NUMBER_WORD_MOST

unfoldable pub flag_of : List ℕ → Option Bool
flag_of w =
    if same_letters w (codes "1") || same_letters w (codes "yes") then Some true
    else (if same_letters w (codes "0") || same_letters w (codes "no") then Some false else None)
