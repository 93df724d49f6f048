use Rattle.std.proofs.Common.{◌+◌, ◌*◌, subst, arith}
use Rattle.soc_model.specs.Chips.{soc_value}
use Rattle.tester_forms.specs.Forms.{AreCodes}
use Rattle.tester_forms.proofs.Listed.{controls-length}
use Rattle.tester_forms.proofs.Whole.{chip_places, chip_places-length, few_runs, few_wired}
use Rattle.tester_forms.proofs.vcd_form.VcdForm.new.Goals as goal

pub definitions_of-requires-clause-few : goal.definitions_of-requires-clause-few
definitions_of-requires-clause-few c =
    let soc = soc_value c.args.soc.now in
    omega (arith, c.in_ok-counts.ensures.runs, c.in_ok-counts.ensures.wired, few_runs soc c.requires.sound, few_wired soc c.requires.sound)

pub codes_of-requires : goal.codes_of-requires
codes_of-requires c =
    let soc = soc_value c.args.soc.now in
    let counts = c.in_ok-counts.counts in
    let places = c.in_ok-listing.listing.places in
    let most = chip_places-length soc counts.runs counts.wired places.items c.in_ok-counts.ensures.runs c.in_ok-counts.ensures.wired c.in_ok-listing.ensures.controls in
    omega (arith, most, c.len.ensures, places.ok.0, c.all_wires-wires.ensures, c.requires.narrow, c.in_ok-counts.ensures.runs, c.in_ok-counts.ensures.wired, few_runs soc c.requires.sound, few_wired soc c.requires.sound)

pub overflow_mul-result : goal.overflow_mul-result
overflow_mul-result c =
    let soc = soc_value c.args.soc.now in
    record { fits = omega (arith, c.in_ok-counts.ensures.wired, few_wired soc c.requires.sound) }

pub overflow_add-result : goal.overflow_add-result
overflow_add-result c =
    let soc = soc_value c.args.soc.now in
    record { fits = omega (arith, c.in_ok-counts.ensures.runs, c.in_ok-counts.ensures.wired, few_runs soc c.requires.sound, few_wired soc c.requires.sound) }

pub invariant_of-result : goal.invariant_of-result
invariant_of-result c =
    let soc = soc_value c.args.soc.now in
    let counts = c.in_ok-counts.counts in
    let places = c.in_ok-listing.listing.places in
    let most = chip_places-length soc counts.runs counts.wired places.items c.in_ok-counts.ensures.runs c.in_ok-counts.ensures.wired c.in_ok-listing.ensures.controls in
    record {
      narrow = omega (arith, c.all_wires-wires.ensures, c.requires.narrow);
      few = omega (arith, most, places.ok.0, c.in_ok-counts.ensures.runs, c.in_ok-counts.ensures.wired, few_runs soc c.requires.sound, few_wired soc c.requires.sound);
      there = chip_places soc counts.runs counts.wired places.items c.in_ok-counts.ensures.runs c.in_ok-counts.ensures.wired c.in_ok-listing.ensures.controls;
      coded = subst (λ n. AreCodes (2 * c.all_wires-wires.result + n) c.in_ok-codes.codes.items) c.len.ensures c.in_ok-codes.ensures;
    }

pub returns-clause-controls : goal.returns-clause-controls
returns-clause-controls c =
    let soc = soc_value c.args.soc.now in
    omega (arith, c.in_ok-counts.ensures.runs, c.in_ok-counts.ensures.wired, controls-length soc)
