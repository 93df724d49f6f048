use Rattle.std.proofs.Common.{◌≡◌, ℕ, Some, ◌++◌, length, take, replicate, ◌+◌, ◌-◌, ◌*◌, ◌^◌, ◌≤◌, ◌∙◌, Bool, max, min, refl, ap, sym, subst, arith}
use Rattle.std.specs.Prelude.{slice_get}
use Rattle.std.specs.Vec.{vec_len}
use Rattle.std.specs.List.{sum_by, sum, filter}
use Rattle.std.proofs.lemmas.List.{take_all}
use Rattle.soc_model.specs.Chips.{ModuleValue, module_value, is_live}
use Rattle.soc_model.specs.Modes.{scan_lengths}
use Rattle.soc_model.specs.Sizes.{test_work}
use Rattle.wrapper_design.specs.Design.{Mode, mode_of, design}
use Rattle.wrapper_design.specs.Balance.{in_length_of, out_length_of}
use Rattle.width_table.specs.Choices.{HasPaths, AreChoices, with_choice}
use Rattle.width_table.specs.Times.{mode_time, mode_tests}
use Rattle.width_table.specs.declared.choosing.Choice.{Choice}
use Rattle.width_table.proofs.Work.{patterns_of, tests_few, idle_time, time_is, time_small}
use Rattle.width_table.proofs.LeastWidths.{idle_choices, choose, choice_stays, fill_choices, newest_at, taken_stays, few_taken}
use Rattle.width_table.proofs.choosing.choices_of.Goals as goal

pub returns-then-totals-eq0 : goal.returns-then-totals-eq0
returns-then-totals-eq0 c =
    let m : ModuleValue = module_value c.args.«module».now in
    let none : length (mode_tests (module_value c.args.«module».now) c.args.scan) ≡ 0 = omega (arith, c.totals-totals.ensures.tests, c.if-totals-eq0.true) in
    rw (c.in_ok-idle.ensures.taken, c.in_ok-idle.ensures.places) (idle_choices m c.args.scan c.args.wires none (λ u. idle_time m c.args.scan u none))

pub cycles_of-cycles-requires-clause-patterns : goal.cycles_of-cycles-requires-clause-patterns
cycles_of-cycles-requires-clause-patterns c =
    omega (arith, c.totals-totals.ensures.tests, c.totals-totals.ensures.patterns, tests_few c.args.scan c.args.«module».now.tests.items)

small : (m : ModuleValue) (scan : Bool) (d : Mode) (si so tests patterns : ℕ) → d ≡ mode_of m scan → si ≤ d.ins + sum d.lengths → so ≤ d.outs + sum d.lengths → tests ≡ length (mode_tests m scan) → patterns ≡ sum_by patterns_of (mode_tests m scan) → sum_by (test_work m) (filter is_live m.tests) ≤ 10 ^ 18 →
    tests * (m.setup + min si so) + (1 + max si so) * patterns ≤ 10 ^ 18
small m scan d si so tests patterns e a b t p work =
    let a' : si ≤ (m.inputs + m.bidirs) + sum (scan_lengths m scan) = subst (λ (v : Mode). si ≤ v.ins + sum v.lengths) e a in
    let b' : so ≤ (m.outputs + m.bidirs) + sum (scan_lengths m scan) = subst (λ (v : Mode). so ≤ v.outs + sum v.lengths) e b in
    rw (t, p) (omega (arith, time_small m scan si so a' b'))

whole : (m : ModuleValue) (scan : Bool) (w : ℕ) (d : Mode) (si so tests patterns cycles : ℕ) → d ≡ mode_of m scan → si ≡ in_length_of d (design d w) → so ≡ out_length_of d (design d w) → tests ≡ length (mode_tests m scan) → patterns ≡ sum_by patterns_of (mode_tests m scan) →
    cycles ≡ tests * (m.setup + min si so) + (1 + max si so) * patterns → cycles ≡ mode_time m scan w
whole m scan w d si so tests patterns cycles e a b t p is =
    is ∙ rw (t, p) (sym (time_is m scan w si so (a ∙ ap (λ (v : Mode). in_length_of v (design v w)) e) (b ∙ ap (λ (v : Mode). out_length_of v (design v w)) e)))

pub cycles_of-cycles-requires-clause-fits : goal.cycles_of-cycles-requires-clause-fits
cycles_of-cycles-requires-clause-fits c =
    small (module_value c.args.«module».now) c.args.scan c.loop-width.paths c.in_ok-si.si c.in_ok-si.so c.totals-totals.result.tests c.totals-totals.result.patterns
    c.loop-width.invariant.mode c.in_ok-si.ensures.si_bounded c.in_ok-si.ensures.so_bounded c.totals-totals.ensures.tests c.totals-totals.ensures.patterns c.requires.work

paths_are : (mode d : Mode) (c : Choice) → d ≡ mode → c.si ≡ in_length_of d (design d c.width) → c.so ≡ out_length_of d (design d c.width) → HasPaths mode c
paths_are mode d c e si so = subst (λ (v : Mode). HasPaths v c) e (record { si = si; so = so })

pub loop-width-preserved : goal.loop-width-preserved
loop-width-preserved c =
    let m : ModuleValue = module_value c.args.«module».now in
    let scan : Bool = c.args.scan in
    let i = c.loop-width.invariant in
    let w : ℕ = c.loop-width.width in
    let last : ℕ = c.same_to-last.result in
    let choice : Choice = record { width = c.loop-width.width; si = c.in_ok-si.si; so = c.in_ok-si.so; cycles = c.cycles_of-cycles.result } in
    let is : c.cycles_of-cycles.result ≡ mode_time (module_value c.args.«module».now) c.args.scan c.loop-width.width =
    whole m scan w c.loop-width.paths c.in_ok-si.si c.in_ok-si.so c.totals-totals.result.tests c.totals-totals.result.patterns c.cycles_of-cycles.result
    i.mode c.in_ok-si.ensures.si c.in_ok-si.ensures.so c.totals-totals.ensures.tests c.totals-totals.ensures.patterns c.cycles_of-cycles.ensures in
    let fits : c.cycles_of-cycles.result ≤ 10 ^ 18 = omega (
      arith,
      c.cycles_of-cycles.ensures,
      small m scan c.loop-width.paths c.in_ok-si.si c.in_ok-si.so c.totals-totals.result.tests c.totals-totals.result.patterns
          i.mode c.in_ok-si.ensures.si_bounded c.in_ok-si.ensures.so_bounded c.totals-totals.ensures.tests c.totals-totals.ensures.patterns c.requires.work,
    ) in
    let paths : HasPaths (mode_of m scan) choice = paths_are (mode_of m scan) c.loop-width.paths choice i.mode c.in_ok-si.ensures.si c.in_ok-si.ensures.so in
    let r = choose m scan w choice c.loop-width.taken.items i.some refl is fits paths i.last i.start in
    let stays : (u : ℕ) → c.loop-width.width ≤ u → u ≤ c.same_to-last.result → mode_time (module_value c.args.«module».now) c.args.scan u ≡ mode_time (module_value c.args.«module».now) c.args.scan c.loop-width.width = λ u le within.
    sym (whole m scan u _ c.in_ok-si.si c.in_ok-si.so c.totals-totals.result.tests c.totals-totals.result.patterns c.cycles_of-cycles.result
    (c.in_ok-si.ensures.kept ∙ i.mode) (sym (c.same_to-last.ensures.si u le within)) (sym (c.same_to-last.ensures.so u le within)) c.totals-totals.ensures.tests c.totals-totals.ensures.patterns c.cycles_of-cycles.ensures)
    ∙ is in
    let e : c.same_to-last.result + 1 - 1 ≡ c.same_to-last.result = omega arith in
    let all : take c.same_to-last.result c.loop-width.places.items ≡ c.loop-width.places.items = take_all c.same_to-last.result c.loop-width.places.items (omega (arith, i.choices.size, c.same_to-last.ensures.least)) in
    let long : vec_len c.loop-width.places ≡ c.loop-width.width - 1 = omega (arith, c.loop-width.places.ok.0, i.choices.size) in
    let items : c.resize.new.self.items ≡ c.loop-width.places.items ++ replicate (c.same_to-last.result - (c.loop-width.width - 1)) c.in_ok-newest.newest =
    c.in_ok-resize.ensures.items ∙ rw (all, long) refl in
    let newest : slice_get (with_choice choice c.loop-width.taken.items) c.in_ok-newest.newest ≡ Some r.0 =
    newest_at (with_choice choice c.loop-width.taken.items) r.0 c.in_ok-newest.newest r.1 (c.in_ok-newest.ensures.newest ∙ ap length c.in_ok-newest.ensures.added) in
    let filled : AreChoices m scan last (with_choice choice c.loop-width.taken.items) c.resize.new.self.items =
    fill_choices m scan (w - 1) w last c.in_ok-newest.newest c.loop-width.taken.items (with_choice choice c.loop-width.taken.items) c.loop-width.places.items c.resize.new.self.items r.0
    (omega (arith, i.some)) c.same_to-last.ensures.least i.choices (taken_stays choice c.loop-width.taken.items) newest r.2 stays items in
    record {
      some = omega arith;
      within = omega (arith, c.same_to-last.ensures.most);
      mode = c.in_ok-si.ensures.kept ∙ i.mode;
      choices = rw (e, c.in_ok-newest.ensures.added) filled;
      few = omega (arith, ap length c.in_ok-newest.ensures.added, few_taken choice c.loop-width.taken.items, i.few, c.same_to-last.ensures.least);
      last = λ h. rw (e, c.in_ok-newest.ensures.added) (r.0, r.1, choice_stays m scan w last r.0 c.same_to-last.ensures.least stays r.2);
      start = λ h. absurd (omega (arith, h, i.some, c.same_to-last.ensures.least));
    }
