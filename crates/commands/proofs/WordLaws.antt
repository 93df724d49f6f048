-- Words and the commands that they are.
use Rattle.std.proofs.Common.{◌≡◌, ℕ, ◌≤◌, List, Option, None, Some, IfSome, refl, ap, ◌∙◌, subst, arith, decimal, option_map}
use Rattle.std.proofs.lemmas.Bool.{le-leb}
use Rattle.outside.specs.Decimal.{number_of}
use Rattle.outside.proofs.DecimalLemmas.{number_of-decimal}
use Rattle.soc_model.specs.declared.TheConstants.{NUMBER_WORD_MOST}
use Rattle.plan_model.specs.declared.TheConstants.{WIRES_MOST}
use Rattle.commands.specs.declared.TheConstants.{NODES_MOST, TRIES_MOST}
use Rattle.commands.specs.declared.Command.{Command}
use Rattle.commands.specs.Commands.{CommandValue, command_value, Print, Widths, Plan, Check, Chart, Vectors, Sample, Locate, Tree, Split, Shift, Improve, Picture, Simulate, Bound, Prove, Data, Retarget, Stil, Vcd, Verilog, Report, PictureWithProof, IsInRange, EachHasWords, command_of, widths_of, vectors_of, sample_of, split_of, improve_of, simulate_of, prove_of, data_of, with_one, with_two, with_three, with_four, with_five}

word : (n : ℕ) → n ≤ NUMBER_WORD_MOST → number_of (decimal n) NUMBER_WORD_MOST ≡ Some n
word n small = number_of-decimal n NUMBER_WORD_MOST (omega arith) small

widths_in_range : (soc : List ℕ) (wires : ℕ) → 1 ≤ wires → widths_of soc (Some wires) ≡ Some (Widths soc wires)
widths_in_range soc wires some = rw (le-leb 1 wires some) refl

split_in_range : (soc limits : List ℕ) (most : ℕ) → 1 ≤ most → split_of soc limits (Some most) ≡ Some (Split soc limits most)
split_in_range soc limits most some = rw (le-leb 1 most some) refl

prove_in_range : (soc limits plan : List ℕ) (nodes : ℕ) → 1 ≤ nodes → prove_of soc limits plan (Some nodes) ≡ Some (Prove soc limits plan nodes)
prove_in_range soc limits plan nodes some = rw (le-leb 1 nodes some) refl

pub each_has_words : EachHasWords
unfolding command_of with_one with_two with_three with_four with_five
each_has_words (Print soc) range = refl
each_has_words (Widths soc wires) range = ap (widths_of soc) (number_of-decimal wires WIRES_MOST (omega arith) range.1) ∙ widths_in_range soc wires range.0
each_has_words (Plan soc limits) range = refl
each_has_words (Check soc limits plan) range = refl
each_has_words (Chart soc limits plan) range = refl
each_has_words (Vectors soc limits plan seed) range = ap (vectors_of soc limits plan) (word seed range)
each_has_words (Sample n seed) range = ap (λ o. sample_of o (number_of (decimal seed) NUMBER_WORD_MOST)) (word n range.0) ∙ ap (sample_of (Some n)) (word seed range.1)
each_has_words (Locate soc limits plan log) range = refl
each_has_words (Tree soc limits tree) range = refl
each_has_words (Split soc limits most) range = ap (split_of soc limits) (word most range.1) ∙ split_in_range soc limits most range.0
each_has_words (Shift soc limits plan program) range = refl
each_has_words (Improve soc limits plan tries seed) range =
    ap (λ o. improve_of soc limits plan o (number_of (decimal seed) NUMBER_WORD_MOST)) (number_of-decimal tries TRIES_MOST (omega arith) range.0) ∙ ap (improve_of soc limits plan (Some tries)) (word seed range.1)
each_has_words (Picture soc limits plan) range = refl
each_has_words (Simulate soc limits plan seed) range = ap (simulate_of soc limits plan) (word seed range)
each_has_words (Bound soc limits proof) range = refl
each_has_words (Prove soc limits plan nodes) range = ap (prove_of soc limits plan) (number_of-decimal nodes NODES_MOST (omega arith) range.1) ∙ prove_in_range soc limits plan nodes range.0
each_has_words (Data soc seed) range = ap (data_of soc) (word seed range)
each_has_words (Retarget soc limits plan «data») range = refl
each_has_words (Stil soc limits plan «data») range = refl
each_has_words (Vcd soc limits plan «data») range = refl
each_has_words (Verilog soc limits plan «data») range = refl
each_has_words (Report soc limits plan) range = refl
each_has_words (PictureWithProof soc limits plan proof) range = refl

-- the numbers of a command that was parsed are in their ranges
pub in_range : (result : Option Command) (asked : Option CommandValue) → option_map command_value result ≡ asked → IfSome result (λ c. IsInRange (command_value c)) → IfSome asked IsInRange
in_range None asked is range = subst (λ o. IfSome o IsInRange) is tt
in_range (Some c) asked is range = subst (λ o. IfSome o IsInRange) is range
