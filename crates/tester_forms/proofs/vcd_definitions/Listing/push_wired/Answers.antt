use Rattle.std.proofs.Common.{[], ◌∷◌}
use Rattle.tester_forms.specs.Variables.{OfControl, shift_name, capture_name}
use Rattle.tester_forms.proofs.Listed.{listed_then}
use Rattle.tester_forms.proofs.vcd_definitions.Listing.push_wired.Goals as goal
use Rattle.common_lemmas.proofs.Options.{on_ok}

pub returns : goal.returns
returns c =
    let m = c.args.module in
    on_ok c.push_control-2.result
    (λ e. listed_then c.args.self.now c.push_control.new.self c.push_control-2.new.self (record { name = shift_name m; source = OfControl c.args.shift } ∷ []) (record { name = capture_name m; source = OfControl c.args.capture } ∷ []) c.in_ok-push_control.ensures e)
    c.push_control-2.ensures
