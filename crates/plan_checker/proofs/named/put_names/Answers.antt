use Rattle.std.proofs.Common.{◌≡◌, ◌++◌, List, ◌∷◌, [], true, false, Some, suc, length, get_or, map, take, drop, sym, ap, ◌∙◌, append_assoc, arith, slice_get, filter}
use Rattle.std.proofs.lemmas.Bool.{lt-ltb}
use Rattle.std.proofs.lemmas.List.{length-append}
use Rattle.std.proofs.lemmas.Option.{slice_get-get_or}
use Rattle.indexmap.specs.IndexSet.{keys}
use Rattle.soc_model.specs.declared.Test.{Test}
use Rattle.soc_model.specs.Chips.{is_live, module_value}
use Rattle.live_tests.specs.Names.{name_in, names_in}
use Rattle.plan_checker.proofs.Filling.{front_taken, passing_split, passing_room, name_new}
use Rattle.plan_checker.proofs.named.put_names.Goals as goal

none : Test
none = record { number = 0; scan = false; tam = false; patterns = 0; power = 0 }

pub put_name-requires-clause-new : goal.put_name-requires-clause-new
unfolding none
put_name-requires-clause-new c =
    let m = module_value c.args.«module».now in
    let t = get_or c.deref-test-items.result.now c.loop-test.test-index none in
    let at : slice_get m.tests c.loop-test.test-index ≡ Some t = ap (λ (l : List Test). slice_get l c.loop-test.test-index) (sym c.deref-test-items.ensures.value) ∙ slice_get-get_or c.deref-test-items.result.now c.loop-test.test-index none (omega arith) in
    let live : is_live t ≡ true = lt-ltb 0 _ (omega arith) in
    let rest = map (name_in m) (filter is_live (drop (suc c.loop-test.test-index) m.tests)) in
    let id = name_in m t in
    name_new (keys c.loop-test.names) rest (keys c.args.names.now ++ names_in m) id c.requires.apart
    (ap (λ l. keys c.args.names.now ++ l) (passing_split (name_in m) is_live m.tests c.loop-test.test-index _ at live)
    ∙ sym (append_assoc (keys c.args.names.now) (map (name_in m) (filter is_live (take c.loop-test.test-index m.tests))) (id ∷ rest)) ∙ ap (λ l. l ++ id ∷ rest) (sym c.loop-test.invariant.filled))

pub put_name-requires-clause-space : goal.put_name-requires-clause-space
unfolding none
put_name-requires-clause-space c =
    let m = module_value c.args.«module».now in
    let t = get_or c.deref-test-items.result.now c.loop-test.test-index none in
    let at : slice_get m.tests c.loop-test.test-index ≡ Some t = ap (λ (l : List Test). slice_get l c.loop-test.test-index) (sym c.deref-test-items.ensures.value) ∙ slice_get-get_or c.deref-test-items.result.now c.loop-test.test-index none (omega arith) in
    let live : is_live t ≡ true = lt-ltb 0 _ (omega arith) in
    let room = passing_room (name_in m) is_live m.tests c.loop-test.test-index _ at live in
    omega (arith, room, c.requires.space, c.loop-test.invariant.space, simp length-append at (ap length c.loop-test.invariant.filled))

pub loop-test-preserved : goal.loop-test-preserved
unfolding none
loop-test-preserved c =
    let m = module_value c.args.«module».now in
    let t = get_or c.deref-test-items.result.now c.loop-test.test-index none in
    let at : slice_get m.tests c.loop-test.test-index ≡ Some t = ap (λ (l : List Test). slice_get l c.loop-test.test-index) (sym c.deref-test-items.ensures.value) ∙ slice_get-get_or c.deref-test-items.result.now c.loop-test.test-index none (omega arith) in
    let live : is_live t ≡ true = lt-ltb 0 _ (omega arith) in
    let id = name_in m t in
    record {
      filled = c.put_name.ensures.filled ∙ ap (λ l. l ++ id ∷ []) c.loop-test.invariant.filled ∙ append_assoc (keys c.args.names.now) (map (name_in m) (filter is_live (take c.loop-test.test-index m.tests))) (id ∷ [])
          ∙ ap (λ l. keys c.args.names.now ++ l) (sym (front_taken (name_in m) is_live m.tests c.loop-test.test-index _ at live));
      space = omega (arith, c.loop-test.invariant.space, c.put_name.ensures.space_left, simp length-append at (ap length c.put_name.ensures.filled));
    }
