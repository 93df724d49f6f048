use Rattle.std.proofs.Common.{◌≡◌, ◌+◌, ◌*◌, ◌++◌, ◌∙◌, ℕ, List, ap, subst, sym, arith}
use Rattle.plan_model.specs.Views.{plan_value}
use Rattle.live_tests.specs.PlacedPlans.{PlacedPlanValue}
use Rattle.vector_lines.specs.Wires.{wires_of}
use Rattle.vector_lines.specs.Vectors.{AreVectors}
use Rattle.tester_vectors.specs.VectorText.{head_line}
use Rattle.tester_vectors.proofs.text.Run.new.Goals as goal

pub returns-clause-run : goal.returns-clause-run
returns-clause-run g c =
    let plan = plan_value c.placed.inside.plan.now in
    let wide : c.args.wires ≡ wires_of plan = c.requires.wires ∙ ap (λ (v : PlacedPlanValue). wires_of v.plan) (sym c.placed.view_is) in
    let head : c.push_head.new.text.items ≡ head_line c.args.wires plan.cycles =
    c.in_ok-push_head.ensures ∙ ap (λ (v : List ℕ). v ++ head_line c.args.wires plan.cycles) c.new-head.ensures.items in
    record {
      good = c.placed.invariant.good;
      vectors = subst (λ (v : PlacedPlanValue). AreVectors (g.C.Contents.keys c.args.contents.now) v.soc v.plan c.in_ok-vectors.vectors) (sym c.placed.view_is) c.in_ok-vectors.ensures;
      head = subst (λ (n : ℕ). c.push_head.new.text.items ≡ head_line n plan.cycles) wide head;
      line = subst (λ (n : ℕ). c.line_length-line.result ≡ 2 * n + 2) wide c.line_length-line.ensures;
      narrow = omega (arith, c.requires.few, wide);
      some = c.lines_in_block-lines.ensures.some;
      fits = omega (arith, c.in_ok-block.ensures);
    }
