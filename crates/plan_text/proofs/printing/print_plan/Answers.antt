use Rattle.std.proofs.Common.{map, sym, ◌∙◌, subst, rules}
use Rattle.std.specs.List.{flat_map}
use Rattle.plan_model.specs.Views.{plan_value}
use Rattle.keyword_text.specs.Lines.{line_text, text_of}
use Rattle.plan_text.specs.Tokens.{spelling}
use Rattle.plan_text.specs.PlanLines.{head_lines, bus_line, wrapper_lines, start_line, bound_line}
use Rattle.plan_text.specs.Answers.{SaysPlan}
use Rattle.plan_text.proofs.Printed.{printed_is_read, plan_text_parts, five}
use Rattle.plan_text.proofs.printing.print_plan.Goals as goal

pub returns-clause-text : goal.returns-clause-text
returns-clause-text c =
    let p = plan_value c.args.plan.now in
    five (text_of spelling (head_lines p.cycles)) (text_of spelling (map bus_line p.buses)) (text_of spelling (flat_map wrapper_lines p.wrappers)) (text_of spelling (map start_line p.starts)) (line_text spelling (bound_line p.bound))
    c.push_head.new.to.items c.push_buses.new.to.items c.push_wrappers.new.to.items c.push_starts.new.to.items c.push_bound.new.to.items
    (search rules) (search rules) (search rules) (search rules) (search rules) ∙ sym (plan_text_parts p)

pub returns-clause-read_again : goal.returns-clause-read_again
returns-clause-read_again c = λ range.
    subst (λ text. SaysPlan text (plan_value c.args.plan.now)) (sym (returns-clause-text c)) (printed_is_read (plan_value c.args.plan.now) range)
