use Rattle.std.proofs.Common.{◌≡◌, true, false, not, get_or, sym, ◌∙◌, ap}
use Rattle.soc_model.specs.declared.Test.{Test}
use Rattle.soc_model.specs.declared.TestId.{TestId}
use Rattle.soc_model.specs.Chips.{module_value}
use Rattle.test_data.specs.DataPlaces.{kept_names}
use Rattle.test_data.specs.Suiting.{has_name, name_in}
use Rattle.test_data.proofs.Firsts.{has_entry, has_none, named_among}
use Rattle.test_data.proofs.misfits.missing_in.Goals as goal

none : Test
none = record { number = 0; scan = false; tam = false; patterns = 0; power = 0 }

pub returns-then-not-is_named : goal.returns-then-not-is_named
unfolding none
returns-then-not-is_named c =
    let es = c.args.entries.now in
    let m = module_value c.args.«module».now in
    let us = c.deref-test-items.result.now in
    let t = get_or us c.loop-test.test-index none in
    let no : has_name (kept_names es) (name_in m t) ≡ false = sym (named_among es (name_in m t)) ∙ sym c.is_named.ensures ∙ c.if-not-is_named.true in
    has_none (λ (id : TestId). not (has_name (kept_names es) id)) m c.args.«module».now.tests.items us c.loop-test.test-index none c.deref-test-items.ensures.value c.loop-test-test.true
    (sym c.over_wires.ensures ∙ c.if-not-over_wires.false) (ap not no)
    ∙ sym c.loop-test.invariant

pub loop-test-preserved : goal.loop-test-preserved
unfolding none
loop-test-preserved c =
    let es = c.args.entries.now in
    let m = module_value c.args.«module».now in
    let us = c.deref-test-items.result.now in
    let t = get_or us c.loop-test.test-index none in
    let yes' : has_name (kept_names es) (name_in m t) ≡ true = sym (named_among es (name_in m t)) ∙ sym c.is_named.ensures ∙ c.if-not-is_named.false in
    c.loop-test.invariant
    ∙ has_entry (λ (id : TestId). not (has_name (kept_names es) id)) m c.args.«module».now.tests.items us c.loop-test.test-index none c.deref-test-items.ensures.value c.loop-test-test.true
    (sym c.over_wires.ensures ∙ c.if-not-over_wires.false) (ap not yes')
