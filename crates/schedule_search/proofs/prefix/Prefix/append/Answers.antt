use Rattle.std.proofs.Common.{◌≡◌, ◌∙◌, ◌++◌, ◌∷◌, [], ℕ, List, length, map, refl, sym, ap, subst, arith, slice_index_or}
use Rattle.std.specs.Vec.{with_items}
use Rattle.std.proofs.lemmas.List.{with_items_is, length-map}
use Rattle.resource_table.specs.Jobs.{job_value}
use Rattle.resource_table.specs.Befores.{listed}
use Rattle.schedule_search.specs.declared.prefix.Prefix.{Prefix}
use Rattle.schedule_search.specs.Prefixes.{tests_after, all_free, AreApart, AreMissing, AreLess}
use Rattle.schedule_search.proofs.Missing.{after_known, enough_missing}
use Rattle.schedule_search.proofs.Stepping.{out_new, gone_on}
use Rattle.schedule_search.proofs.Waiting.{none_after}
use Rattle.schedule_search.proofs.prefix.Prefix.append.Goals as goal

pub push_reserved-requires : goal.push_reserved-requires
push_reserved-requires c = omega (arith, c.requires.out.left, ap length c.requires.out.tests_are, c.requires.out.has_room.tests_room, c.args.self.now.tests.ok.0)

pub earlier_than-requires : goal.earlier_than-requires
earlier_than-requires c =
    let job = job_value c.args.job.now in
    let path : List ℕ = c.args.self.now.tests.items in
    let x : ℕ = c.args.test in
    let new = out_new job path x c.args.self.now c.requires.out in
    omega (arith, new.0, c.requires.tries.after.long, length-map c.args.tries.now.after.items listed, ap length c.deref.ensures.value)

pub count_down-requires-clause-in_range : goal.count_down-requires-clause-in_range
count_down-requires-clause-in_range c =
    let job = job_value c.args.job.now in
    let path : List ℕ = c.args.self.now.tests.items in
    let x : ℕ = c.args.test in
    let new = out_new job path x c.args.self.now c.requires.out in
    after_known job (map listed c.args.tries.now.after.items) x (length c.deref_mut.result.now) c.earlier_than.result.now c.requires.in_range c.requires.tries.after new.0 (c.earlier_than.ensures ∙ ap (λ l. slice_index_or (map listed l) x []) c.deref.ensures.value) (ap length c.deref_mut.ensures.value ∙ c.requires.out.missing_are.long)

pub count_down-requires-clause-enough : goal.count_down-requires-clause-enough
count_down-requires-clause-enough c = λ n within.
    let job = job_value c.args.job.now in
    let path : List ℕ = c.args.self.now.tests.items in
    let x : ℕ = c.args.test in
    let new = out_new job path x c.args.self.now c.requires.out in
    enough_missing job (map listed c.args.tries.now.after.items) path c.deref_mut.result.now x n c.earlier_than.result.now c.requires.tries.after (subst (AreMissing job path) (sym c.deref_mut.ensures.value) c.requires.out.missing_are) new.0 new.1 (c.earlier_than.ensures ∙ ap (λ l. slice_index_or (map listed l) x []) c.deref.ensures.value) within

pub count_down-requires-clause-free : goal.count_down-requires-clause-free
count_down-requires-clause-free c =
    let job = job_value c.args.job.now in
    let path : List ℕ = c.args.self.now.tests.items in
    let x : ℕ = c.args.test in
    let new = out_new job path x c.args.self.now c.requires.out in
    let after : c.earlier_than.result.now ≡ tests_after x job.before = c.earlier_than.ensures ∙ ap (λ l. slice_index_or (map listed l) x []) c.deref.ensures.value ∙ c.requires.tries.after.are x new.0 in
    let apart : AreApart (path ++ x ∷ []) c.earlier_than.result.now = subst (AreApart (path ++ x ∷ [])) (sym after) (none_after job path x c.requires.out.ready) in
    let are : c.args.self.now.free.items ≡ all_free job (path ++ x ∷ []) c.deref_mut.result.now = c.requires.out.free_are ∙ ap (all_free job (path ++ x ∷ [])) (sym c.deref_mut.ensures.value) in
    (path ++ x ∷ [], apart, are)

pub returns : goal.returns
returns c =
    let job = job_value c.args.job.now in
    let path : List ℕ = c.args.self.now.tests.items in
    let x : ℕ = c.args.test in
    let new = out_new job path x c.args.self.now c.requires.out in
    let after : c.earlier_than.result.now ≡ tests_after x job.before = c.earlier_than.ensures ∙ ap (λ l. slice_index_or (map listed l) x []) c.deref.ensures.value ∙ c.requires.tries.after.are x new.0 in
    let apart : AreApart (path ++ x ∷ []) c.earlier_than.result.now = subst (AreApart (path ++ x ∷ [])) (sym after) (none_after job path x c.requires.out.ready) in
    let are : c.args.self.now.free.items ≡ all_free job (path ++ x ∷ []) c.deref_mut.result.now = c.requires.out.free_are ∙ ap (all_free job (path ++ x ∷ [])) (sym c.deref_mut.ensures.value) in
    let counts : List ℕ = c.count_down.new.missing in
    let long : length counts ≡ c.args.self.now.missing.len = c.count_down.ensures.less.long ∙ ap length c.deref_mut.ensures.value ∙ sym c.args.self.now.missing.ok.0 in
    let written : (with_items c.args.self.now.missing counts).items ≡ counts = with_items_is c.args.self.now.missing counts long in
    let less : AreLess c.args.self.now.missing.items counts (tests_after x job.before) = subst (AreLess c.args.self.now.missing.items counts) after (subst (λ (l : List ℕ). AreLess l counts c.earlier_than.result.now) c.deref_mut.ensures.value c.count_down.ensures.less) in
    let room = c.requires.out.has_room in
    let q : Prefix = record { tests = c.push_reserved.new.self; rest = c.args.self.now.rest; free = c.count_down.new.free; missing = with_items c.args.self.now.missing counts } in
    gone_on job path x c.args.self.now q c.requires.out c.push_reserved.ensures.items refl
    (c.count_down.ensures.free (path ++ x ∷ []) apart are ∙ ap (all_free job (path ++ x ∷ [])) (sym written))
    (subst (λ (l : List ℕ). AreLess c.args.self.now.missing.items l (tests_after x job.before)) (sym written) less) (record {
      tests_room = omega (arith, room.tests_room, c.push_reserved.ensures.capacity);
      rest_room = room.rest_room;
      free_room = omega (arith, room.free_room, c.count_down.ensures.room);
      missing_room = room.missing_room;
    })
