use Rattle.std.proofs.Common.{◌≡◌, ◌+◌, ◌∷◌, map, length, refl, ap, subst, ◌∙◌, arith, filter, sum_by}
use Rattle.soc_model.specs.Chips.{module_value, soc_value}
use Rattle.soc_model.specs.Modes.{has_tam}
use Rattle.soc_model.proofs.Entries.{modules-at_start}
use Rattle.tester_forms.specs.Listings.{ScopesGoOn}
use Rattle.tester_forms.specs.Variables.{live_of_module, module_scopes}
use Rattle.tester_forms.proofs.Listed.{scopes_go_on-begun, lives-length, tams-length, module_first, module_more, module_runs, module_shifts, modules_done}
use Rattle.tester_forms.proofs.vcd_definitions.Listing.push_modules.Goals as goal

pub loop-module-init : goal.loop-module-init
loop-module-init c =
    let soc = soc_value c.args.soc.now in
    let it = c.into_iter-module-iterator.result in
    let starts = c.into_iter-module-iterator.ensures.into_iter_gives ∙ c.values-module-items.ensures.rest in
    let e : soc.modules ≡ map module_value it = modules-at_start c.args.soc.now it starts in
    let all = module_scopes c.args.wired 0 c.args.runs soc.modules in
    record {
      on = subst (λ ms. ScopesGoOn c.args.self.now c.args.self.now (module_scopes c.args.wired 0 c.args.runs ms) all) e (scopes_go_on-begun c.args.self.now all);
      wired = refl;
      runs =
          let f : sum_by (λ m. length (live_of_module m)) soc.modules ≡ sum_by (λ m. length (live_of_module m)) (map module_value it) = ap (sum_by (λ m. length (live_of_module m))) e in
          omega (arith, f, lives-length soc, c.requires.runs);
      shifts =
          let f : length (filter has_tam soc.modules) ≡ length (filter has_tam (map module_value it)) = ap (λ ms. length (filter has_tam ms)) e in
          omega (arith, f, tams-length soc, c.requires.wired);
    }

pub loop-module-preserved : goal.loop-module-preserved
loop-module-preserved c =
    let soc = soc_value c.args.soc.now in
    let m = module_value c.in-Some.module.now in
    let ms = map module_value c.next.new.self in
    let left = map module_value c.loop-module.module-iterator in
    let is : left ≡ m ∷ ms = ap (map module_value) c.in-Some.ensures.steps in
    let all = module_scopes c.args.wired 0 c.args.runs soc.modules in
    let at = c.loop-module.at in
    let next = c.in_ok-at.at in
    record {
      on = module_more c.args.self.now c.loop-module.self c.push_module.new.self c.args.wired at.run at.shift at.wired next.run next.shift m ms left all c.loop-module.invariant.wired is c.in_ok-at.ensures.run c.in_ok-at.ensures.shift c.loop-module.invariant.on c.in_ok-at.ensures.listed;
      wired = c.in_ok-at.ensures.wired ∙ c.loop-module.invariant.wired;
      runs = module_runs at.run next.run c.args.runs m ms left is c.in_ok-at.ensures.run c.loop-module.invariant.runs;
      shifts = module_shifts at.shift next.shift (c.args.runs + c.args.wired) m ms left is c.in_ok-at.ensures.shift c.loop-module.invariant.shifts;
    }

pub push_module-requires : goal.push_module-requires
push_module-requires c =
    let m = module_value c.in-Some.module.now in
    let ms = map module_value c.next.new.self in
    let left = map module_value c.loop-module.module-iterator in
    let is : left ≡ m ∷ ms = ap (map module_value) c.in-Some.ensures.steps in
    record {
      runs = omega (arith, module_first m ms left is, c.loop-module.invariant.runs, c.requires.few);
      shifts = omega (arith, c.loop-module.invariant.shifts, c.loop-module.invariant.wired, c.requires.few);
    }

pub returns : goal.returns
returns c =
    let soc = soc_value c.args.soc.now in
    modules_done c.args.self.now c.loop-module.self c.args.wired c.loop-module.at.run c.loop-module.at.shift (map module_value c.loop-module.module-iterator) (module_scopes c.args.wired 0 c.args.runs soc.modules)
    (ap (map module_value) c.in-None.ensures.steps.0) c.loop-module.invariant.on
