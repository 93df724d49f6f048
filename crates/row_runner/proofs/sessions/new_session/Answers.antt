use Rattle.std.proofs.Common.{◌∙◌, ap, sym, arith}
use Rattle.soc_model.specs.Chips.{module_value}
use Rattle.bit_machine.specs.Sessions.{SessionValue}
use Rattle.vector_lines.proofs.LayoutsMade.{scan_counts}
use Rattle.row_runner.proofs.sessions.new_session.Goals as goal

pub returns-clause-chains : goal.returns-clause-chains
returns-clause-chains c =
    let counts = scan_counts (module_value c.args.module.now) c.args.wrapper.now.scan c.args.wrapper.now.chains.items c.in_ok-session.session.cells c.requires.proper c.requires.scan (ap (λ (s : SessionValue). s.cells) c.in_ok-session.ensures) in
    omega (arith, counts.0, c.len.ensures, c.args.wrapper.now.chains.ok.0)

pub returns-clause-bits : goal.returns-clause-bits
returns-clause-bits c =
    let counts = scan_counts (module_value c.args.module.now) c.args.wrapper.now.scan c.args.wrapper.now.chains.items c.in_ok-session.session.cells c.requires.proper c.requires.scan (ap (λ (s : SessionValue). s.cells) c.in_ok-session.ensures) in
    c.response_bits.ensures ∙ sym counts.1
