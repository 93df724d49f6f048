use Rattle.std.proofs.Common.{◌≡◌, ◌+◌, ◌++◌, List, [], drop, sym, ap, ◌∙◌, append-nil, arith, rules, refl, flat_map}
use Rattle.std.proofs.lemmas.List.{drop_all}
use Rattle.indexmap.specs.IndexSet.{keys}
use Rattle.soc_model.specs.Chips.{soc_value, module_value}
use Rattle.plan_model.specs.Rules.{live_ids}
use Rattle.live_tests.specs.Names.{names_in}
use Rattle.live_tests.proofs.Indexing.{names_are}
use Rattle.live_tests.proofs.LiveIds.{ids_differ}
use Rattle.plan_checker.proofs.Filling.{names_apart, names_step, names_room}
use Rattle.plan_checker.proofs.named.fill_names.Goals as goal

none_before : {X : Type 0} (none a b : List X) → none ≡ [] → a ≡ b → none ++ a ≡ b
none_before none a b e f = ap (λ l. l ++ a) e ∙ f

pub loop-place-init : goal.loop-place-init
loop-place-init c = record { filled = none_before _ _ _ (search rules) (names_are (soc_value c.args.soc.now)); space = omega arith }

pub put_names-requires-clause-apart : goal.put_names-requires-clause-apart
put_names-requires-clause-apart c =
    let soc = soc_value c.args.soc.now in
    names_apart (keys c.loop-place.names) (live_ids soc) soc.modules c.loop-place.place (module_value c.module_at.result.now) (ids_differ soc c.requires.sound) c.module_at.ensures c.loop-place.invariant.filled

pub put_names-requires-clause-space : goal.put_names-requires-clause-space
put_names-requires-clause-space c =
    let soc = soc_value c.args.soc.now in
    omega (arith, names_room (keys c.loop-place.names) (live_ids soc) soc.modules c.loop-place.place (module_value c.module_at.result.now) c.module_at.ensures c.loop-place.invariant.filled, c.loop-place.invariant.space, c.requires.space)

pub loop-place-preserved : goal.loop-place-preserved
loop-place-preserved c =
    let soc = soc_value c.args.soc.now in
    let m = module_value c.module_at.result.now in
    record {
      filled = ap (λ l. l ++ flat_map names_in (drop (c.loop-place.place + 1) soc.modules)) c.put_names.ensures.filled ∙ names_step (keys c.loop-place.names) (live_ids soc) soc.modules c.loop-place.place (c.loop-place.place + 1) m refl c.module_at.ensures c.loop-place.invariant.filled;
      space = omega (arith, c.loop-place.invariant.space, c.put_names.ensures.space_left);
    }

pub returns-clause-filled : goal.returns-clause-filled
returns-clause-filled c =
    let modules = (soc_value c.args.soc.now).modules in
    sym (append-nil (keys c.loop-place.names)) ∙ ap (λ l. keys c.loop-place.names ++ flat_map names_in l) (sym (drop_all c.loop-place.place modules (omega arith))) ∙ c.loop-place.invariant.filled
