use Rattle.std.proofs.Common.{List, None, ap, length, subst, ℕ, ◌∙◌}
use Rattle.live_tests.specs.PlacedPlans.{PlacedPlanValue}
use Rattle.vector_lines.specs.Wires.{wires_of}
use Rattle.controls.specs.Controls.{controls}
use Rattle.tester_forms.specs.StilText.{stil_head}
use Rattle.commands.specs.Ends.{WritesUnless}
use Rattle.tester_commands.proofs.ProgramTexts.{stil_written}
use Rattle.tester_commands.proofs.programs.write_stil.Goals as goal

pub write_in_form-requires-clause-wires : goal.write_in_form-requires-clause-wires
write_in_form-requires-clause-wires g c = c.in-Ok.ensures.wires ∙ ap (λ (p : PlacedPlanValue). wires_of p.plan) c.placed.view_is

pub write_in_form-requires-clause-controls : goal.write_in_form-requires-clause-controls
write_in_form-requires-clause-controls g c = c.in-Ok.ensures.controls_are ∙ ap (λ (p : PlacedPlanValue). length (controls p.soc)) c.placed.view_is

pub returns-in-Ok-clause-written : goal.returns-in-Ok-clause-written
returns-in-Ok-clause-written g c =
    subst (λ (t : List ℕ). WritesUnless None t (g.K.Sink.faults c.args.out.now) (g.K.Sink.faults c.write_in_form.new.out) (g.K.Sink.written c.args.out.now) c.write_in_form.result (g.K.Sink.written c.write_in_form.new.out))
    (stil_written c.in-Ok.form.head.items c.args.placed.now.soc c.args.placed.now.plan c.args.test_data.now (c.in-Ok.ensures.head ∙ ap (λ (p : PlacedPlanValue). stil_head p.soc.name (wires_of p.plan) (controls p.soc)) c.placed.view_is)) c.write_in_form.ensures.written
