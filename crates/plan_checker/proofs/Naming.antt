-- The modules that a plan names.
use Rattle.std.proofs.Common.{◌≡◌, ◌+◌, length, List, [], ◌∷◌, ◌++◌, map, refl, ap, ◌∙◌, subst, flat_map, Contains}
use Rattle.soc_model.specs.Chips.{SocValue, numbers}
use Rattle.plan_checker.specs.Broken.{EachOf}
use Rattle.plan_checker.proofs.Firsts.{get_behind}
use Rattle.plan_model.specs.declared.Plan.{Plan}
use Rattle.plan_model.specs.declared.Bus.{Bus}
use Rattle.plan_model.specs.declared.Wrapper.{Wrapper}
use Rattle.plan_model.specs.Plans.{BusValue, WrapperValue}
use Rattle.plan_model.specs.Views.{plan_value, bus_value, wrapper_value}
use Rattle.plan_model.specs.Rules.{named, Each, IsKnown}

pub listed_are : (buses : List Bus) → flat_map (λ (b : BusValue). b.modules) (map bus_value buses) ≡ flat_map (λ (b : Bus). b.modules.items) buses
listed_are [] = refl
listed_are (b ∷ bs) = ap (λ v. b.modules.items ++ v) (listed_are bs)

wrapped_are : (wrappers : List Wrapper) → map (λ (w : WrapperValue). w.«module») (map wrapper_value wrappers) ≡ map (λ (w : Wrapper). w.«module») wrappers
wrapped_are [] = refl
wrapped_are (w ∷ ws) = ap (λ v. w.«module» ∷ v) (wrapped_are ws)

pub named_are : (plan : Plan) → named (plan_value plan) ≡ flat_map (λ (b : Bus). b.modules.items) plan.buses.items ++ map (λ (w : Wrapper). w.«module») plan.wrappers.items
named_are plan = ap (λ v. v ++ map (λ (w : WrapperValue). w.«module») (map wrapper_value plan.wrappers.items)) (listed_are plan.buses.items) ∙ ap (λ v. flat_map (λ (b : Bus). b.modules.items) plan.buses.items ++ v) (wrapped_are plan.wrappers.items)

pub known_wrapped : (soc : SocValue) (plan : Plan) → soc.keys ≡ numbers soc → Each (IsKnown soc) (named (plan_value plan)) → EachOf (Contains (numbers soc)) (map (λ (w : Wrapper). w.«module») plan.wrappers.items)
known_wrapped soc plan keyed known n x at =
    let all = rw (named_are plan) at known in
    subst (λ ns. Contains ns x) keyed (all (length (flat_map (λ (b : Bus). b.modules.items) plan.buses.items) + n) x (get_behind (flat_map (λ (b : Bus). b.modules.items) plan.buses.items) (map (λ (w : Wrapper). w.«module») plan.wrappers.items) n ∙ at))
