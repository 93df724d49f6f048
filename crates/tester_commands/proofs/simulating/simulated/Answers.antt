use Rattle.std.proofs.Common.{◌≡◌, ℕ, List, None, Some, option_map, ap, sym, ◌∙◌}
use Rattle.commands.proofs.FileStages.{gives_line, gives_text}
use Rattle.tester_commands.specs.RunCounts.{simulated_text}
use Rattle.commands.specs.Texts.{run_line, run_refusal}
use Rattle.tester_commands.proofs.simulating.simulated.Goals as goal
use Rattle.tester_vectors.specs.VectorText.{too_many}

pub returns-in-Some : goal.returns-in-Some
returns-in-Some c =
    let long : run_refusal (too_many c.args.all.now.plan) ≡ Some (run_line c.in-Some.cells) = ap (option_map run_line) (sym c.long_simulation.ensures ∙ c.in-Some.is) in
    gives_line (run_refusal (too_many c.args.all.now.plan)) (run_line c.in-Some.cells) (λ (text : List ℕ). text ≡ simulated_text c.args.all.now.soc c.args.all.now.plan c.args.seed) c.run_line.result c.refused_with.result long c.run_line.ensures.text c.run_line.ensures.line c.refused_with.ensures

pub returns-in-None : goal.returns-in-None
returns-in-None c =
    let short : run_refusal (too_many c.args.all.now.plan) ≡ None = ap (option_map run_line) (sym c.long_simulation.ensures ∙ c.in-None.is) in
    gives_text (run_refusal (too_many c.args.all.now.plan)) (λ (text : List ℕ). text ≡ simulated_text c.args.all.now.soc c.args.all.now.plan c.args.seed) c.counts_of.result c.answered_with.result short c.counts_of.ensures c.answered_with.ensures
