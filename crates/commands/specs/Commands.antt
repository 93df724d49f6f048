-- The commands, by the words of the command line.
use Rattle.std.specs.Prelude.{◌≡◌, ℕ, ◌≤◌, List, [], ◌∷◌, Option, None, Some, codes, decimal, nat_eq, nat_le, if◌then◌else◌}
use Rattle.std.specs.Cmp.Lexicographic.{pointwise}
use Rattle.outside.specs.Decimal.{number_of}
use Rattle.soc_model.specs.declared.TheConstants.{NUMBER_WORD_MOST}
use Rattle.plan_model.specs.declared.TheConstants.{WIRES_MOST}
use Rattle.commands.specs.declared.TheConstants.{NODES_MOST, TRIES_MOST}
use Rattle.commands.specs.declared.Command.{Command}
use Rattle.commands.specs.declared.Command.TheVariants as command

-- a command with the names of its files and its numbers, in the order of its words
pub data CommandValue : Type 0 where
  Print : (soc : List ℕ) → CommandValue
  Widths : (soc : List ℕ) → (wires : ℕ) → CommandValue
  Plan : (soc limits : List ℕ) → CommandValue
  Check : (soc limits plan : List ℕ) → CommandValue
  Chart : (soc limits plan : List ℕ) → CommandValue
  Vectors : (soc limits plan : List ℕ) → (seed : ℕ) → CommandValue
  Sample : (n seed : ℕ) → CommandValue
  Locate : (soc limits plan log : List ℕ) → CommandValue
  Tree : (soc limits tree : List ℕ) → CommandValue
  Split : (soc limits : List ℕ) → (most : ℕ) → CommandValue
  Shift : (soc limits plan program : List ℕ) → CommandValue
  Improve : (soc limits plan : List ℕ) → (tries seed : ℕ) → CommandValue
  Picture : (soc limits plan : List ℕ) → CommandValue
  Simulate : (soc limits plan : List ℕ) → (seed : ℕ) → CommandValue
  Bound : (soc limits proof : List ℕ) → CommandValue
  Prove : (soc limits plan : List ℕ) → (nodes : ℕ) → CommandValue
  Data : (soc : List ℕ) → (seed : ℕ) → CommandValue
  Retarget : (soc limits plan «data» : List ℕ) → CommandValue
  Stil : (soc limits plan «data» : List ℕ) → CommandValue
  Vcd : (soc limits plan «data» : List ℕ) → CommandValue
  Verilog : (soc limits plan «data» : List ℕ) → CommandValue
  Report : (soc limits plan : List ℕ) → CommandValue
  PictureWithProof : (soc limits plan proof : List ℕ) → CommandValue

abbrev pub command_value : Command → CommandValue
command_value (command.Print soc) = Print soc.now
command_value (command.Widths soc wires) = Widths soc.now wires
command_value (command.Plan soc limits) = Plan soc.now limits.now
command_value (command.Check soc limits plan) = Check soc.now limits.now plan.now
command_value (command.Chart soc limits plan) = Chart soc.now limits.now plan.now
command_value (command.Vectors soc limits plan seed) = Vectors soc.now limits.now plan.now seed
command_value (command.Sample n seed) = Sample n seed
command_value (command.Locate soc limits plan log) = Locate soc.now limits.now plan.now log.now
command_value (command.Tree soc limits tree) = Tree soc.now limits.now tree.now
command_value (command.Split soc limits most) = Split soc.now limits.now most
command_value (command.Shift soc limits plan program) = Shift soc.now limits.now plan.now program.now
command_value (command.Improve soc limits plan tries seed) = Improve soc.now limits.now plan.now tries seed
command_value (command.Picture soc limits plan) = Picture soc.now limits.now plan.now
command_value (command.Simulate soc limits plan seed) = Simulate soc.now limits.now plan.now seed
command_value (command.Bound soc limits proof) = Bound soc.now limits.now proof.now
command_value (command.Prove soc limits plan nodes) = Prove soc.now limits.now plan.now nodes
command_value (command.Data soc seed) = Data soc.now seed
command_value (command.Retarget soc limits plan «data») = Retarget soc.now limits.now plan.now «data».now
command_value (command.Stil soc limits plan «data») = Stil soc.now limits.now plan.now «data».now
command_value (command.Vcd soc limits plan «data») = Vcd soc.now limits.now plan.now «data».now
command_value (command.Verilog soc limits plan «data») = Verilog soc.now limits.now plan.now «data».now
command_value (command.Report soc limits plan) = Report soc.now limits.now plan.now
command_value (command.PictureWithProof soc limits plan proof) = PictureWithProof soc.now limits.now plan.now proof.now

-- the numbers of a command are in their ranges
abbrev pub IsInRange : CommandValue → Type 0
IsInRange (Print soc) = Unit {0}
IsInRange (Widths soc wires) = (1 ≤ wires) × (wires ≤ WIRES_MOST)
IsInRange (Plan soc limits) = Unit {0}
IsInRange (Check soc limits plan) = Unit {0}
IsInRange (Chart soc limits plan) = Unit {0}
IsInRange (Vectors soc limits plan seed) = seed ≤ NUMBER_WORD_MOST
IsInRange (Sample n seed) = (n ≤ NUMBER_WORD_MOST) × (seed ≤ NUMBER_WORD_MOST)
IsInRange (Locate soc limits plan log) = Unit {0}
IsInRange (Tree soc limits tree) = Unit {0}
IsInRange (Split soc limits most) = (1 ≤ most) × (most ≤ NUMBER_WORD_MOST)
IsInRange (Shift soc limits plan program) = Unit {0}
IsInRange (Improve soc limits plan tries seed) = (tries ≤ TRIES_MOST) × (seed ≤ NUMBER_WORD_MOST)
IsInRange (Picture soc limits plan) = Unit {0}
IsInRange (Simulate soc limits plan seed) = seed ≤ NUMBER_WORD_MOST
IsInRange (Bound soc limits proof) = Unit {0}
IsInRange (Prove soc limits plan nodes) = (1 ≤ nodes) × (nodes ≤ NODES_MOST)
IsInRange (Data soc seed) = seed ≤ NUMBER_WORD_MOST
IsInRange (Retarget soc limits plan «data») = Unit {0}
IsInRange (Stil soc limits plan «data») = Unit {0}
IsInRange (Vcd soc limits plan «data») = Unit {0}
IsInRange (Verilog soc limits plan «data») = Unit {0}
IsInRange (Report soc limits plan) = Unit {0}
IsInRange (PictureWithProof soc limits plan proof) = Unit {0}

-- ---- from words to a command

-- `widths` with a number of wires, where it is from 1 to the most
abbrev pub widths_of : (soc : List ℕ) → Option ℕ → Option CommandValue
widths_of soc None = None
widths_of soc (Some wires) = if nat_le 1 wires then Some (Widths soc wires) else None

-- `vectors` with a seed, where it is a number word
abbrev pub vectors_of : (soc limits plan : List ℕ) → Option ℕ → Option CommandValue
vectors_of soc limits plan None = None
vectors_of soc limits plan (Some seed) = Some (Vectors soc limits plan seed)

-- `sample` with a number of modules and a seed, where both are number words
abbrev pub sample_of : Option ℕ → Option ℕ → Option CommandValue
sample_of None seed = None
sample_of (Some n) None = None
sample_of (Some n) (Some seed) = Some (Sample n seed)

-- `split` with the patterns of a part, where these are at least 1
abbrev pub split_of : (soc limits : List ℕ) → Option ℕ → Option CommandValue
split_of soc limits None = None
split_of soc limits (Some most) = if nat_le 1 most then Some (Split soc limits most) else None

-- `improve` with tries and a seed, where both are numbers
abbrev pub improve_of : (soc limits plan : List ℕ) → Option ℕ → Option ℕ → Option CommandValue
improve_of soc limits plan None seed = None
improve_of soc limits plan (Some tries) None = None
improve_of soc limits plan (Some tries) (Some seed) = Some (Improve soc limits plan tries seed)

-- `simulate` with a seed, where it is a number word
abbrev pub simulate_of : (soc limits plan : List ℕ) → Option ℕ → Option CommandValue
simulate_of soc limits plan None = None
simulate_of soc limits plan (Some seed) = Some (Simulate soc limits plan seed)

-- `prove` with a number of nodes, where it is from 1 to the most
abbrev pub prove_of : (soc limits plan : List ℕ) → Option ℕ → Option CommandValue
prove_of soc limits plan None = None
prove_of soc limits plan (Some nodes) = if nat_le 1 nodes then Some (Prove soc limits plan nodes) else None

-- `data` with a seed, where it is a number word
abbrev pub data_of : (soc : List ℕ) → Option ℕ → Option CommandValue
data_of soc None = None
data_of soc (Some seed) = Some (Data soc seed)

-- the command of a word with one more word
unfoldable pub with_one : (word soc : List ℕ) → Option CommandValue
with_one word soc = if pointwise nat_eq word (codes "print") then Some (Print soc) else None

-- with two more words
unfoldable pub with_two : (word first last : List ℕ) → Option CommandValue
with_two word first last =
    if pointwise nat_eq word (codes "widths") then widths_of first (number_of last WIRES_MOST)
    else if pointwise nat_eq word (codes "plan") then Some (Plan first last)
    else if pointwise nat_eq word (codes "sample") then sample_of (number_of first NUMBER_WORD_MOST) (number_of last NUMBER_WORD_MOST)
    else if pointwise nat_eq word (codes "data") then data_of first (number_of last NUMBER_WORD_MOST)
    else None

-- with three more words
unfoldable pub with_three : (word soc limits last : List ℕ) → Option CommandValue
with_three word soc limits last =
    if pointwise nat_eq word (codes "check") then Some (Check soc limits last)
    else if pointwise nat_eq word (codes "chart") then Some (Chart soc limits last)
    else if pointwise nat_eq word (codes "picture") then Some (Picture soc limits last)
    else if pointwise nat_eq word (codes "report") then Some (Report soc limits last)
    else if pointwise nat_eq word (codes "tree") then Some (Tree soc limits last)
    else if pointwise nat_eq word (codes "bound") then Some (Bound soc limits last)
    else if pointwise nat_eq word (codes "split") then split_of soc limits (number_of last NUMBER_WORD_MOST)
    else None

-- with four more words
unfoldable pub with_four : (word soc limits plan last : List ℕ) → Option CommandValue
with_four word soc limits plan last =
    if pointwise nat_eq word (codes "vectors") then vectors_of soc limits plan (number_of last NUMBER_WORD_MOST)
    else if pointwise nat_eq word (codes "simulate") then simulate_of soc limits plan (number_of last NUMBER_WORD_MOST)
    else if pointwise nat_eq word (codes "locate") then Some (Locate soc limits plan last)
    else if pointwise nat_eq word (codes "shift") then Some (Shift soc limits plan last)
    else if pointwise nat_eq word (codes "prove") then prove_of soc limits plan (number_of last NODES_MOST)
    else if pointwise nat_eq word (codes "retarget") then Some (Retarget soc limits plan last)
    else if pointwise nat_eq word (codes "stil") then Some (Stil soc limits plan last)
    else if pointwise nat_eq word (codes "vcd") then Some (Vcd soc limits plan last)
    else if pointwise nat_eq word (codes "verilog") then Some (Verilog soc limits plan last)
    else if pointwise nat_eq word (codes "picture") then Some (PictureWithProof soc limits plan last)
    else None

-- with five more words
unfoldable pub with_five : (word soc limits plan tries seed : List ℕ) → Option CommandValue
with_five word soc limits plan tries seed =
    if pointwise nat_eq word (codes "improve") then improve_of soc limits plan (number_of tries TRIES_MOST)
    (number_of seed NUMBER_WORD_MOST) else None

-- `print SOC`, `widths SOC WIRES`, `plan SOC LIMITS`, `check SOC LIMITS PLAN`, `chart SOC LIMITS PLAN`,
-- `vectors SOC LIMITS PLAN SEED`, `sample N SEED`, `locate SOC LIMITS PLAN LOG`, `tree SOC LIMITS TREE`, `split SOC LIMITS MOST`,
-- `shift SOC LIMITS PLAN PROGRAM`, `improve SOC LIMITS PLAN TRIES SEED`, `picture SOC LIMITS PLAN`,
-- `simulate SOC LIMITS PLAN SEED`, `bound SOC LIMITS PROOF`, `prove SOC LIMITS PLAN NODES`, `data SOC SEED`,
-- `retarget SOC LIMITS PLAN DATA`, `stil SOC LIMITS PLAN DATA`, `vcd SOC LIMITS PLAN DATA`, `verilog SOC LIMITS PLAN DATA`,
-- `report SOC LIMITS PLAN` and `picture SOC LIMITS PLAN PROOF`; no other words are a command
unfoldable pub command_of : List (List ℕ) → Option CommandValue
command_of (word ∷ soc ∷ []) = with_one word soc
command_of (word ∷ first ∷ last ∷ []) = with_two word first last
command_of (word ∷ soc ∷ limits ∷ last ∷ []) = with_three word soc limits last
command_of (word ∷ soc ∷ limits ∷ plan ∷ last ∷ []) = with_four word soc limits plan last
command_of (word ∷ soc ∷ limits ∷ plan ∷ tries ∷ seed ∷ []) = with_five word soc limits plan tries seed
command_of _ = None

-- ---- and from a command to words

-- the words of a command: its name, the names of its files, and its numbers
abbrev pub words_of : CommandValue → List (List ℕ)
words_of (Print soc) = codes "print" ∷ soc ∷ []
words_of (Widths soc wires) = codes "widths" ∷ soc ∷ decimal wires ∷ []
words_of (Plan soc limits) = codes "plan" ∷ soc ∷ limits ∷ []
words_of (Check soc limits plan) = codes "check" ∷ soc ∷ limits ∷ plan ∷ []
words_of (Chart soc limits plan) = codes "chart" ∷ soc ∷ limits ∷ plan ∷ []
words_of (Vectors soc limits plan seed) = codes "vectors" ∷ soc ∷ limits ∷ plan ∷ decimal seed ∷ []
words_of (Sample n seed) = codes "sample" ∷ decimal n ∷ decimal seed ∷ []
words_of (Locate soc limits plan log) = codes "locate" ∷ soc ∷ limits ∷ plan ∷ log ∷ []
words_of (Tree soc limits tree) = codes "tree" ∷ soc ∷ limits ∷ tree ∷ []
words_of (Split soc limits most) = codes "split" ∷ soc ∷ limits ∷ decimal most ∷ []
words_of (Shift soc limits plan program) = codes "shift" ∷ soc ∷ limits ∷ plan ∷ program ∷ []
words_of (Improve soc limits plan tries seed) = codes "improve" ∷ soc ∷ limits ∷ plan ∷ decimal tries ∷ decimal seed ∷ []
words_of (Picture soc limits plan) = codes "picture" ∷ soc ∷ limits ∷ plan ∷ []
words_of (Simulate soc limits plan seed) = codes "simulate" ∷ soc ∷ limits ∷ plan ∷ decimal seed ∷ []
words_of (Bound soc limits proof) = codes "bound" ∷ soc ∷ limits ∷ proof ∷ []
words_of (Prove soc limits plan nodes) = codes "prove" ∷ soc ∷ limits ∷ plan ∷ decimal nodes ∷ []
words_of (Data soc seed) = codes "data" ∷ soc ∷ decimal seed ∷ []
words_of (Retarget soc limits plan «data») = codes "retarget" ∷ soc ∷ limits ∷ plan ∷ «data» ∷ []
words_of (Stil soc limits plan «data») = codes "stil" ∷ soc ∷ limits ∷ plan ∷ «data» ∷ []
words_of (Vcd soc limits plan «data») = codes "vcd" ∷ soc ∷ limits ∷ plan ∷ «data» ∷ []
words_of (Verilog soc limits plan «data») = codes "verilog" ∷ soc ∷ limits ∷ plan ∷ «data» ∷ []
words_of (Report soc limits plan) = codes "report" ∷ soc ∷ limits ∷ plan ∷ []
words_of (PictureWithProof soc limits plan proof) = codes "picture" ∷ soc ∷ limits ∷ plan ∷ proof ∷ []

-- Each command has words that ask for it.
abbrev pub EachHasWords : Type 0
EachHasWords = (c : CommandValue) → IsInRange c → command_of (words_of c) ≡ Some c
