use Rattle.std.proofs.Common.{ℕ, ◌∙◌, refl}
use Rattle.std.proofs.lemmas.Option.{slice_get-map}
use Rattle.soc_model.specs.declared.Module.{Module}
use Rattle.soc_model.specs.Chips.{module_value}
use Rattle.soc_model.proofs.lookups.module_at.Goals as goal

pub returns : goal.returns
returns c =
    let entry = c.in-Some.ensures.entry in
    slice_get-map (λ (e : ℕ × Module). module_value e.1) c.args.soc.now.modules.entries c.args.place ∙ rw (← entry) refl
