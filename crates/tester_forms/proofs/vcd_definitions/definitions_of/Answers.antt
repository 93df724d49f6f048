use Rattle.std.proofs.Common.{◌≡◌, ◌+◌, ◌*◌, ◌++◌, length, map, ap, ◌∙◌, arith}
use Rattle.soc_model.specs.Chips.{soc_value}
use Rattle.plan_model.specs.Views.{bus_value, plan_value}
use Rattle.controls.specs.Controls.{tam_numbers}
use Rattle.tester_forms.specs.declared.vcd_definitions.Listing.{Listing}
use Rattle.tester_forms.specs.Dumps.{definitions, scope_lines}
use Rattle.tester_forms.specs.Forms.{control_sources}
use Rattle.tester_forms.specs.Variables.{bus_scopes, module_scopes, sources_of}
use Rattle.tester_forms.proofs.Parts.{wire_sources-length}
use Rattle.tester_forms.proofs.Whole.{definitions_text, bus_sources-all, whole_sources}
use Rattle.tester_forms.proofs.vcd_definitions.definitions_of.Goals as goal

pub returns-clause-text : goal.returns-clause-text
returns-clause-text c =
    let soc = soc_value c.args.soc.now in
    let plan = plan_value c.args.plan.now in
    let counts = c.args.counts in
    let before : Listing = record { text = c.push_buses.new.text; first = 2 * c.args.wires; places = c.new-places.result } in
    let buses = bus_scopes 0 0 plan.buses in
    let scopes = module_scopes counts.wired 0 counts.runs soc.modules in
    let number : 2 * c.args.wires + length c.new-places.result.items ≡ length (sources_of buses) =
    omega (arith, ap length c.new-places.ensures.items, ap length (bus_sources-all plan c.args.wires c.requires.wires), wire_sources-length c.args.wires) in
    let third : c.push_buses.new.text.items ≡ c.extend-2.new.to.items ++ scope_lines 0 buses =
    c.in_ok-push_buses.ensures ∙ ap (λ bs. c.extend-2.new.to.items ++ scope_lines 0 (bus_scopes 0 0 (map bus_value bs))) c.deref.ensures.value in
    definitions_text before c.push_modules.new.self c.new-text.result.items c.extend.new.to.items c.extend-2.new.to.items c.extend-3.new.to.items c.extend-4.new.to.items buses scopes c.new-text.ensures.items c.in_ok-extend.ensures.ok c.in_ok-extend-2.ensures.ok third number c.in_ok-push_modules.ensures c.in_ok-extend-3.ensures.ok c.in_ok-extend-4.ensures.ok
    ∙ ap (λ w. definitions (buses ++ module_scopes w 0 counts.runs soc.modules)) c.requires.wired
    ∙ ap (λ r. definitions (buses ++ module_scopes (length (tam_numbers soc)) 0 r soc.modules)) c.requires.runs

pub returns-clause-sources : goal.returns-clause-sources
returns-clause-sources c =
    let soc = soc_value c.args.soc.now in
    let plan = plan_value c.args.plan.now in
    let counts = c.args.counts in
    let buses = bus_scopes 0 0 plan.buses in
    let scopes = module_scopes counts.wired 0 counts.runs soc.modules in
    whole_sources plan c.args.wires c.push_modules.new.self.places.items scopes c.requires.wires
    (c.in_ok-push_modules.ensures.sources ∙ ap (λ ps. control_sources ps ++ sources_of scopes) c.new-places.ensures.items)
    ∙ ap (λ w. sources_of (buses ++ module_scopes w 0 counts.runs soc.modules)) c.requires.wired
    ∙ ap (λ r. sources_of (buses ++ module_scopes (length (tam_numbers soc)) 0 r soc.modules)) c.requires.runs

pub returns-clause-controls : goal.returns-clause-controls
returns-clause-controls c =
    let scopes = module_scopes c.args.counts.wired 0 c.args.counts.runs (soc_value c.args.soc.now).modules in
    c.in_ok-push_modules.ensures.sources ∙ ap (λ ps. control_sources ps ++ sources_of scopes) c.new-places.ensures.items
