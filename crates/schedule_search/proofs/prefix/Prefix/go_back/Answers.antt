use Rattle.std.proofs.Common.{◌≡◌, ◌∙◌, ◌<◌, ◌^◌, ◌++◌, ◌∷◌, [], ℕ, List, length, map, refl, sym, ap, subst, arith, slice_index_or}
use Rattle.std.specs.Vec.{with_items}
use Rattle.std.proofs.lemmas.List.{with_items_is, length-map}
use Rattle.resource_table.specs.Jobs.{job_value}
use Rattle.resource_table.specs.Befores.{listed}
use Rattle.resource_table.proofs.Placed.{each_last}
use Rattle.schedule_search.specs.declared.prefix.Prefix.{Prefix}
use Rattle.schedule_search.specs.Orders.{IsReady}
use Rattle.schedule_search.specs.Prefixes.{tests_after, all_free, AreApart, AreMissing, AreLess, IsAt, IsOut}
use Rattle.schedule_search.proofs.Following.{not_in}
use Rattle.schedule_search.proofs.Missing.{after_known, small_missing}
use Rattle.schedule_search.proofs.Outside.{last_same, front_same}
use Rattle.schedule_search.proofs.Stepping.{free_counted, gone_back}
use Rattle.schedule_search.proofs.Waiting.{none_after}
use Rattle.schedule_search.proofs.prefix.Prefix.go_back.Goals as goal

pub earlier_than-requires : goal.earlier_than-requires
earlier_than-requires c =
    let job = job_value c.args.job.now in
    let test : ℕ = c.take_last-test.result in
    let front : List ℕ = c.take_last-test.new.self.items in
    let at : IsAt job (front ++ test ∷ []) c.args.self.now = subst (λ (l : List ℕ). IsAt job l c.args.self.now) c.take_last-test.ensures.items c.requires.at in
    let last = each_last (IsReady job) front test at.ready in
    omega (arith, last.in_job, c.requires.tries.after.long, length-map c.args.tries.now.after.items listed, ap length c.deref.ensures.value)

pub count_up-requires-clause-in_range : goal.count_up-requires-clause-in_range
count_up-requires-clause-in_range c =
    let job = job_value c.args.job.now in
    let test : ℕ = c.take_last-test.result in
    let front : List ℕ = c.take_last-test.new.self.items in
    let at : IsAt job (front ++ test ∷ []) c.args.self.now = subst (λ (l : List ℕ). IsAt job l c.args.self.now) c.take_last-test.ensures.items c.requires.at in
    let last = each_last (IsReady job) front test at.ready in
    after_known job (map listed c.args.tries.now.after.items) test (length c.deref_mut.result.now) c.earlier_than.result.now c.requires.in_range c.requires.tries.after last.in_job (c.earlier_than.ensures ∙ ap (λ l. slice_index_or (map listed l) test []) c.deref.ensures.value) (ap length c.deref_mut.ensures.value ∙ c.requires.at.missing_are.long)

pub count_up-requires-clause-small : goal.count_up-requires-clause-small
count_up-requires-clause-small c = λ n within.
    let job = job_value c.args.job.now in
    let test : ℕ = c.take_last-test.result in
    let front : List ℕ = c.take_last-test.new.self.items in
    let at : IsAt job (front ++ test ∷ []) c.args.self.now = subst (λ (l : List ℕ). IsAt job l c.args.self.now) c.take_last-test.ensures.items c.requires.at in
    let last = each_last (IsReady job) front test at.ready in
    let are : AreMissing job (front ++ test ∷ []) c.deref_mut.result.now = subst (AreMissing job (front ++ test ∷ [])) (sym c.deref_mut.ensures.value) at.missing_are in
    let small : length job.before < 2 ^ 64 = omega (arith, c.args.job.now.before.ok.0, c.args.job.now.before.small) in
    small_missing job (map listed c.args.tries.now.after.items) front c.deref_mut.result.now test n c.earlier_than.result.now c.requires.tries.after are last.in_job (not_in front test last.new) (c.earlier_than.ensures ∙ ap (λ l. slice_index_or (map listed l) test []) c.deref.ensures.value) within small

pub count_up-requires-clause-free : goal.count_up-requires-clause-free
count_up-requires-clause-free c =
    let job = job_value c.args.job.now in
    let test : ℕ = c.take_last-test.result in
    let front : List ℕ = c.take_last-test.new.self.items in
    let at : IsAt job (front ++ test ∷ []) c.args.self.now = subst (λ (l : List ℕ). IsAt job l c.args.self.now) c.take_last-test.ensures.items c.requires.at in
    let last = each_last (IsReady job) front test at.ready in
    let after : c.earlier_than.result.now ≡ tests_after test job.before = c.earlier_than.ensures ∙ ap (λ l. slice_index_or (map listed l) test []) c.deref.ensures.value ∙ c.requires.tries.after.are test last.in_job in
    let apart : AreApart (front ++ test ∷ []) c.earlier_than.result.now = subst (AreApart (front ++ test ∷ [])) (sym after) (none_after job front test at.ready) in
    let are : c.args.self.now.free.items ≡ all_free job (front ++ test ∷ []) c.deref_mut.result.now = free_counted job (front ++ test ∷ []) c.args.self.now at ∙ ap (all_free job (front ++ test ∷ [])) (sym c.deref_mut.ensures.value) in
    (front ++ test ∷ [], apart, are)

pub returns : goal.returns
returns c = λ path x is.
    let job = job_value c.args.job.now in
    let test : ℕ = c.take_last-test.result in
    let front : List ℕ = c.take_last-test.new.self.items in
    let at : IsAt job (front ++ test ∷ []) c.args.self.now = subst (λ (l : List ℕ). IsAt job l c.args.self.now) c.take_last-test.ensures.items c.requires.at in
    let last = each_last (IsReady job) front test at.ready in
    let after : c.earlier_than.result.now ≡ tests_after test job.before = c.earlier_than.ensures ∙ ap (λ l. slice_index_or (map listed l) test []) c.deref.ensures.value ∙ c.requires.tries.after.are test last.in_job in
    let apart : AreApart (front ++ test ∷ []) c.earlier_than.result.now = subst (AreApart (front ++ test ∷ [])) (sym after) (none_after job front test at.ready) in
    let are : c.args.self.now.free.items ≡ all_free job (front ++ test ∷ []) c.deref_mut.result.now = free_counted job (front ++ test ∷ []) c.args.self.now at ∙ ap (all_free job (front ++ test ∷ [])) (sym c.deref_mut.ensures.value) in
    let counts : List ℕ = c.count_up.new.missing in
    let long : length counts ≡ c.args.self.now.missing.len = sym c.count_up.ensures.less.long ∙ ap length c.deref_mut.ensures.value ∙ sym c.args.self.now.missing.ok.0 in
    let written : (with_items c.args.self.now.missing counts).items ≡ counts = with_items_is c.args.self.now.missing counts long in
    let less : AreLess counts c.args.self.now.missing.items (tests_after test job.before) = subst (AreLess counts c.args.self.now.missing.items) after (subst (λ (l : List ℕ). AreLess counts l c.earlier_than.result.now) c.deref_mut.ensures.value c.count_up.ensures.less) in
    let room = at.has_room in
    let q : Prefix = record { tests = c.take_last-test.new.self; rest = c.args.self.now.rest; free = c.count_up.new.free; missing = with_items c.args.self.now.missing counts } in
    let ends : front ++ test ∷ [] ≡ path ++ x ∷ [] = sym c.take_last-test.ensures.items ∙ is in
    let out : IsOut job front test q = gone_back job front test c.args.self.now q at refl refl
    (c.count_up.ensures.free (front ++ test ∷ []) apart are ∙ ap (all_free job (front ++ test ∷ [])) (sym written))
    (subst (λ (l : List ℕ). AreLess l c.args.self.now.missing.items (tests_after test job.before)) (sym written) less) (record {
      tests_room = omega (arith, room.tests_room, c.take_last-test.ensures.capacity);
      rest_room = room.rest_room;
      free_room = omega (arith, room.free_room, c.count_up.ensures.room);
      missing_room = room.missing_room;
    }) in
    subst (λ (n : ℕ). IsOut job path n q) (last_same front path test x ends) (subst (λ (l : List ℕ). IsOut job l test q) (front_same front path test x ends) out)
