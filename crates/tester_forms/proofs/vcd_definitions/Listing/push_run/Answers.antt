use Rattle.std.proofs.Common.{refl}
use Rattle.tester_forms.specs.Variables.{run_name}
use Rattle.tester_forms.proofs.Listed.{listed_one}
use Rattle.tester_forms.proofs.vcd_definitions.Listing.push_run.Goals as goal
use Rattle.common_lemmas.proofs.Options.{on_ok}

pub returns : goal.returns
returns c =
    on_ok c.push.result
    (λ e. listed_one c.args.self.now (record { text = c.push_run_line.new.text; first = c.args.self.now.first; places = c.push.new.to }) c.number-number.result c.args.place (run_name c.args.module c.args.test) c.number-number.ensures c.in_ok-push_run_line.ensures e refl)
    c.push.ensures.ok
