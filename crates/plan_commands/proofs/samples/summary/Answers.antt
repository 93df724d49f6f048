use Rattle.std.proofs.Common.{◌∙◌, List, ℕ, ◌++◌, ap, decimal, length, codes}
use Rattle.soc_model.specs.Chips.{soc_value, live_tests}
use Rattle.plan_model.specs.Views.{why_value}
use Rattle.commands.specs.Texts.{two_numbers}
use Rattle.plan_commands.specs.Samples.{kind_text}
use Rattle.plan_commands.proofs.samples.summary.Goals as goal

pub returns : goal.returns
returns c =
    let chip = soc_value c.args.soc.now in
    let bound = c.args.plan.now.bound in
    let made = c.in_ok-push_made.ensures ∙ ap (λ (t : List ℕ). t ++ codes "sample " ++ two_numbers c.args.n c.args.seed ++ codes "\nmodules " ++ decimal (length chip.modules) ++ codes "\ntests " ++ decimal (length (live_tests chip))) c.new-text.ensures.items in
    let with_plan = c.in_ok-push_planned.ensures ∙ ap (λ (t : List ℕ). t ++ codes "\ncycles " ++ decimal c.args.plan.now.cycles ++ codes "\nbound " ++ decimal bound.cycles ++ codes " " ++ kind_text (why_value bound.why)) made in
    c.in_ok-push_text.ensures.text ∙ ap (λ (t : List ℕ). t ++ codes "\naccepted\n") with_plan
