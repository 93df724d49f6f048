use Rattle.std.proofs.Common.{◌∙◌, ap, sym}
use Rattle.soc_model.specs.Chips.{SocValue, soc_value}
use Rattle.plan_model.specs.Rules.{live_ids}
use Rattle.limits_text.specs.Places.{named}
use Rattle.limits_text.proofs.Noting.{noted_of}
use Rattle.limits_text.proofs.places.ChipTests.place.Goals as goal

pub returns-in-Some : goal.returns-in-Some
returns-in-Some c =
    let soc = c.self.inside.soc.now in
    let at = sym c.place_of.ensures ∙ c.in_ok-place.was in
    noted_of (live_ids (soc_value soc)) soc c.self.inside.rows.items c.args.id c.in_ok-place.place c.index-row.result.now c.deref.result.now c.in-Some.noted.now c.self.invariant.1 at c.index-row.ensures c.deref.ensures.value c.in-Some.ensures.lookup.3.0
    c.in-Some.ensures.lookup.1
    ∙ ap (λ (s : SocValue). named s c.args.id) c.self.view_is
