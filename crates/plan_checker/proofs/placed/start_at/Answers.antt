use Rattle.std.proofs.Common.{◌≡◌, ℕ, Some, get_or, ap, ◌∙◌, arith, slice_get}
use Rattle.std.proofs.lemmas.Option.{slice_get_within, slice_get-get_or, get_or_from_slice_get}
use Rattle.soc_model.specs.declared.TestId.{TestId}
use Rattle.soc_model.specs.Chips.{soc_value}
use Rattle.plan_model.specs.Rules.{live_ids}
use Rattle.plan_checker.specs.Placing.{IsPlacing}
use Rattle.plan_checker.specs.Starting.{start_or}
use Rattle.plan_checker.specs.declared.placed.PlanLookups.{PlanLookups}
use Rattle.plan_checker.specs.declared.starts.TheConstants.{NO_START}
use Rattle.plan_checker.proofs.Listing.{start_early}
use Rattle.plan_checker.proofs.Starting.{either_none, key_has}
use Rattle.plan_checker.proofs.placed.start_at.Goals as goal

-- the start at the place of a live test
found : (from : PlanLookups) (place : ℕ) (id : TestId) → IsPlacing from → slice_get (live_ids (soc_value from.soc.now)) place ≡ Some id → slice_get from.starts.now place ≡ Some (start_or 0 from.plan.now.starts.items id)
found from place id is at = is.starts_are place id at ∙ ap Some (either_none from.plan.now.starts.items id NO_START 0 (key_has id from.plan.now.starts.items (is.started place id at)))

-- the live test there
none : TestId
none = record { «module» = 0; test = 0 }

pub bounds-from-test : goal.bounds-from-test
bounds-from-test c =
    let ids = live_ids (soc_value c.args.from.now.soc.now) in
    slice_get_within c.args.from.now.starts.now c.args.test _ (found c.args.from.now c.args.test (get_or ids c.args.test none) c.requires.placing (slice_get-get_or ids c.args.test none c.requires.live))

pub returns-clause-start : goal.returns-clause-start
returns-clause-start c = λ id at. get_or_from_slice_get c.args.from.now.starts.now c.args.test _ 0 (found c.args.from.now c.args.test id c.requires.placing at)

pub returns-clause-early : goal.returns-clause-early
returns-clause-early c =
    let ids = live_ids (soc_value c.args.from.now.soc.now) in
    let id = get_or ids c.args.test none in
    let is = get_or_from_slice_get c.args.from.now.starts.now c.args.test _ 0 (found c.args.from.now c.args.test id c.requires.placing (slice_get-get_or ids c.args.test none c.requires.live)) in
    omega (arith, is, start_early id c.args.from.now.plan.now.starts.items c.requires.placing.early)

pub offset_bounds-from-test : goal.offset_bounds-from-test
offset_bounds-from-test c =
    let ids = live_ids (soc_value c.args.from.now.soc.now) in
    omega (arith, slice_get_within c.args.from.now.starts.now c.args.test _ (found c.args.from.now c.args.test (get_or ids c.args.test none) c.requires.placing (slice_get-get_or ids c.args.test none c.requires.live)))
