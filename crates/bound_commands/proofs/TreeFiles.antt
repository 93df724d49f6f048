-- A file with a width tree: the files give one answer of it, and the bound that is printed is one.
use Rattle.std.proofs.Common.{◌≡◌, ◌∙◌, ℕ, List, Option, true, sym, subst, ap}
use Rattle.std.specs.FinMap.{get}
use Rattle.outside.specs.Held.{Files, Appended}
use Rattle.outside.specs.Words.{words_of}
use Rattle.outside.specs.Grammars.{last_line}
use Rattle.soc_model.specs.Chips.{SocValue}
use Rattle.plan_model.specs.Plans.{LimitsValue}
use Rattle.soc_reader.specs.ChipForm.{SaysChip}
use Rattle.width_tree.specs.declared.TreeFault.{TreeFault}
use Rattle.width_tree.specs.Trees.{TreeValue}
use Rattle.width_tree.specs.Answers.{Says, RefusesText}
use Rattle.width_tree.specs.Bounds.{IsAcceptedTree, IsTreeFault}
use Rattle.width_tree.specs.TreeText.{tree_grammar}
use Rattle.width_tree.specs.Steps.{tree_machine}
use Rattle.width_tree.proofs.ReadTrees.{reads_trees}
use Rattle.keyword_text.proofs.Viability.{one_value}
use Rattle.keyword_text.proofs.Settled.{not_refused, refused_once}
use Rattle.width_tree.proofs.Faults.{one_fault, no_fault}
use Rattle.width_tree.proofs.CaseBounds.{accepted_bounds}
use Rattle.commands.specs.declared.FileKind.TheVariants.{Soc, Limits, Tree}
use Rattle.commands.specs.declared.Status.TheVariants.{Done}
use Rattle.bound_commands.specs.TreeTexts.{bound_line, tree_line, tree_fault_line}
use Rattle.commands.specs.Readings.{IsRead, SaysLimits}
use Rattle.bound_commands.specs.TreeReadings.{SaysAcceptedTree, RefusesTree}
use Rattle.commands.specs.Procedures.{with_both, done_with}
use Rattle.bound_commands.specs.Procedures.{with_tree}
use Rattle.commands.specs.Answers.{Answers}
use Rattle.bound_commands.specs.TreeBounds.{IsShownBound}
use Rattle.commands.proofs.Trusted.{stage_done, read_as_well, both_done}
use Rattle.commands.specs.Settled.{SaysOne, RefusesOne, IsSettled}
use Rattle.commands.proofs.Judged.{JudgedLaws, judged_one, judged_refused_one}
use Rattle.commands.proofs.Settled.{done_once}

-- ---- one answer

-- a tree is refused for a fault
abbrev RefusedTree : SocValue → LimitsValue → TreeValue → List ℕ → Type 0
RefusedTree chip bounds value text = (fault : TreeFault) × IsTreeFault chip bounds value fault × (text ≡ tree_fault_line fault)

judged_trees : (chip : SocValue) (bounds : LimitsValue) → JudgedLaws Says RefusesText (IsAcceptedTree chip bounds) (RefusedTree chip bounds)
judged_trees chip bounds = record {
  one = λ bytes v w a b. one_value tree_grammar tree_machine reads_trees (words_of bytes) v w a b;
  not_refused = λ bytes line v says refused. not_refused tree_grammar (words_of bytes) (last_line bytes) line (v, says) refused;
  refused_once = λ bytes m n a b. refused_once tree_grammar (words_of bytes) (last_line bytes) m n a b;
  one_line = λ v t t' a b. a.2 ∙ ap tree_fault_line (one_fault chip bounds v a.0 b.0 a.1 b.1) ∙ sym b.2;
  not_both = λ bytes v t says right refused. no_fault chip bounds v refused.0 right refused.1;
}

tree_one : (chip : SocValue) (bounds : LimitsValue) → SaysOne (SaysAcceptedTree chip bounds)
tree_one chip bounds = judged_one Says RefusesText (IsAcceptedTree chip bounds) (RefusedTree chip bounds) (judged_trees chip bounds)

tree_refused_one : (chip : SocValue) (bounds : LimitsValue) → RefusesOne (SaysAcceptedTree chip bounds) (RefusesTree chip bounds)
tree_refused_one chip bounds = judged_refused_one Says RefusesText (IsAcceptedTree chip bounds) (RefusedTree chip bounds) tree_line (judged_trees chip bounds)

pub tree_settled : (tree : List ℕ) (chip : SocValue) (bounds : LimitsValue) → IsSettled true (with_tree tree chip bounds)
tree_settled tree chip bounds = (tree_one chip bounds, tree_refused_one chip bounds, λ value. done_once true (bound_line value))

-- ---- the bound that is printed

pub shown : (files : Files) (soc limits tree text : List ℕ) (old new : Option (List ℕ)) → Answers (with_both soc limits (with_tree tree)) files Done text → Appended old text new → IsShownBound files soc limits tree old new
shown files soc limits tree text old new answer put =
    let b = both_done files soc limits text (with_tree tree) answer in
    let c = stage_done Tree (SaysAcceptedTree b.0 b.1) (RefusesTree b.0 b.1) (λ value. Answers (done_with (bound_line value)) files) (get files tree) text b.4 in
    go b.0 b.1 c.0 b.2 b.3 c.1 c.2.1
  where
    go : (chip : SocValue) (bounds : LimitsValue) (value : TreeValue) → IsRead Soc SaysChip (get files soc) chip → IsRead Limits (SaysLimits chip) (get files limits) bounds → IsRead Tree (SaysAcceptedTree chip bounds) (get files tree) value → text ≡ bound_line value → IsShownBound files soc limits tree old new
    go chip bounds value a b c is = record {
      chip = chip;
      bounds = bounds;
      value = value;
      chip_read = a;
      limits_read = b;
      tree_read = read_as_well Tree (SaysAcceptedTree chip bounds) Says (get files tree) value (λ bytes says. says.0) c;
      bound = accepted_bounds chip bounds value b.says.sound.some_wire c.says.1;
      written = subst (λ t. Appended old t new) is put;
    }
