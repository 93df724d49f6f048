-- The text of a chip: how a chip is printed.
use Rattle.std.specs.Prelude.{ℕ, List, [], ◌∷◌, ◌++◌, Bool, true, false, length, nat_eq, map, codes, decimal, if◌then◌else◌}
use Rattle.std.specs.List.{flat_map}
use Rattle.soc_model.specs.declared.Test.{Test}
use Rattle.soc_model.specs.Chips.{ModuleValue, SocValue}

-- each word behind a space
abbrev pub spaced : List (List ℕ) → List ℕ
spaced [] = []
spaced (w ∷ ws) = (32 ∷ w) ++ spaced ws

-- a line: a word, and further words
abbrev pub line_of : List ℕ → List (List ℕ) → List ℕ
line_of first more = first ++ (spaced more ++ 10 ∷ [])

abbrev pub flag_word : Bool → List ℕ
flag_word true = codes "1"
flag_word false = codes "0"

-- a name that there is
abbrev pub name_words : List ℕ → List (List ℕ)
name_words [] = []
name_words (b ∷ bs) = (b ∷ bs) ∷ []

-- setup cycles, where there are any
abbrev pub setup_words : ℕ → List (List ℕ)
setup_words n = if nat_eq n 0 then [] else codes "Setup" ∷ decimal n ∷ []

-- the lengths of scan chains, behind a colon where there are any
abbrev pub lengths_text : List ℕ → List ℕ
lengths_text [] = []
lengths_text (n ∷ ns) = codes " :" ++ spaced (map decimal (n ∷ ns))

-- the line with a chip's name, where it has one
abbrev pub name_line : List ℕ → List ℕ
name_line [] = []
name_line (b ∷ bs) = line_of (codes "SocName") ((b ∷ bs) ∷ [])

abbrev pub total_line : ℕ → List ℕ
total_line modules = line_of (codes "TotalModules") (decimal modules ∷ [])

abbrev pub options_line : (power xy : Bool) → List ℕ
options_line power xy = line_of (codes "Options") (codes "Power" ∷ flag_word power ∷ codes "XY" ∷ flag_word xy ∷ [])

-- the counts of a module's terminals
abbrev pub terminal_words : ModuleValue → List (List ℕ)
terminal_words m = codes "Inputs" ∷ decimal m.inputs ∷ codes "Outputs" ∷ decimal m.outputs ∷ codes "Bidirs" ∷ decimal m.bidirs ∷ []

-- what follows `Module` on the line of a module, up to the number of its scan chains
abbrev pub module_words : ModuleValue → List (List ℕ)
module_words m =
    decimal m.number
    ∷ (name_words m.name
    ++ (codes "Level" ∷ decimal m.level
    ∷ (terminal_words m ++ (setup_words m.setup ++ (codes "ScanChains" ∷ decimal (length m.chains) ∷ [])))))

abbrev pub module_line : ModuleValue → List ℕ
module_line m = codes "Module" ++ (spaced (module_words m) ++ (lengths_text m.chains ++ 10 ∷ []))

abbrev pub tests_line : (number tests : ℕ) → List ℕ
tests_line number tests = line_of (codes "Module") (decimal number ∷ codes "TotalTests" ∷ decimal tests ∷ [])

abbrev pub test_line : ℕ → Test → List ℕ
test_line number t =
    line_of (codes "Module")
    (decimal number ∷ codes "Test" ∷ decimal t.number ∷ codes "ScanUse" ∷ flag_word t.scan ∷ codes "TamUse" ∷ flag_word t.tam
    ∷ codes "Patterns" ∷ decimal t.patterns ∷ codes "Power" ∷ decimal t.power ∷ [])

-- the lines of a module and its tests
abbrev pub module_text : ModuleValue → List ℕ
module_text m = module_line m ++ (tests_line m.number (length m.tests) ++ flat_map (test_line m.number) m.tests)

-- the whole text
abbrev pub soc_text : SocValue → List ℕ
soc_text c = name_line c.name ++ (total_line (length c.modules) ++ (options_line c.power_flag c.xy_flag ++ flat_map module_text c.modules))
