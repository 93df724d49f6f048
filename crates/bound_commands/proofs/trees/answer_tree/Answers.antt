use Rattle.std.proofs.Common.{Err, inl, inr, refl, subst}
use Rattle.soc_model.specs.Chips.{soc_value}
use Rattle.plan_model.specs.Views.{limits_value}
use Rattle.width_tree.specs.Answers.{TreeRead}
use Rattle.width_tree.specs.Trees.{tree_value}
use Rattle.commands.proofs.OwnFiles.{bytes_refused}
use Rattle.bound_commands.specs.TreeReadings.{SaysAcceptedTree, RefusesTree}
use Rattle.bound_commands.specs.TreeTexts.{bound_line, tree_line, tree_fault_line}
use Rattle.bound_commands.proofs.trees.answer_tree.Goals as goal

pub returns-in-Err-Text : goal.returns-in-Err-Text
returns-in-Err-Text c =
    let why = subst (λ fault. TreeRead c.args.bytes.now (Err fault)) c.in-Err-Text.field-0-is c.in-Err-Text.ensures in
    bytes_refused (SaysAcceptedTree (soc_value c.args.soc.now) (limits_value c.args.limits.now)) (RefusesTree (soc_value c.args.soc.now) (limits_value c.args.limits.now)) bound_line c.args.bytes.now (tree_line c.in-Err-Text.line) _ _ (inl (c.in-Err-Text.line, why, refl)) c.tree_line.ensures.text c.tree_line.ensures.line c.refused_with.ensures

pub returns : goal.returns
returns c =
    bytes_refused (SaysAcceptedTree (soc_value c.args.soc.now) (limits_value c.args.limits.now)) (RefusesTree (soc_value c.args.soc.now) (limits_value c.args.limits.now)) bound_line c.args.bytes.now (tree_fault_line c.in-Err.fault) _ _
    (inr (tree_value c.in-Ok.tree, c.in-Ok.ensures, (c.in-Err.fault, c.in-Err.ensures.fault, refl))) c.tree_fault_line.ensures.text c.tree_fault_line.ensures.line c.refused_with-in-Err.ensures
