use Rattle.std.proofs.Common.{◌≡◌, ℕ, ◌<◌, ◌≤◌, true, None, get_or, refl, sym, ◌∙◌, subst, arith, inl, inr, true≢false}
use Rattle.std.proofs.lemmas.Bool.{cases_eq, le-leb, lt-ltb}
use Rattle.std.proofs.lemmas.Option.{slice_get_within, slice_get-get_or}
use Rattle.live_tests.specs.declared.placed.PlacedTest.{PlacedTest}
use Rattle.live_tests.specs.Loads.{is_active}
use Rattle.plan_checker.specs.Clashes.{keeps_apart, Clash}
use Rattle.plan_checker.proofs.LeastPairs.{clash_gives}
use Rattle.plan_checker.proofs.clashes.first_partner.Goals as goal

none : PlacedTest
none = record { id = record { «module» = 0; test = 0 }; place = 0; bus = None; start = 0; end = 0; power = 0 }

pub loop-second-preserved : goal.loop-second-preserved
loop-second-preserved c = λ k before clash. elim (cases_eq k c.loop-second.second) [
  | inl same ↦
      let here = subst (λ v. Clash (keeps_apart c.args.parents.now c.args.apart) c.args.placed.now c.args.first v c.args.cycle) same clash in
      c.meet_at.ensures.differ c.if-meet_at.false (clash_gives (keeps_apart c.args.parents.now c.args.apart) c.args.placed.now c.args.first c.loop-second.second c.args.cycle _ _ here)
  | inr other ↦ c.loop-second.invariant k (omega (arith, before, other)) clash
]

pub returns-clause-none : goal.returns-clause-none
returns-clause-none c = λ j clash. c.loop-second.invariant j (omega (arith, c.loop-second-test.false, slice_get_within c.args.placed.now j clash.b clash.at')) clash

pub meet_at-requires : goal.meet_at-requires
unfolding none
meet_at-requires c = c.requires.slots c.loop-second.second _ (slice_get-get_or c.args.placed.now c.loop-second.second none c.loop-second-test.true)

active_is : (t : PlacedTest) (c : ℕ) → t.start ≤ c → c < t.end → is_active c t ≡ true
active_is t c begun active = rw (le-leb t.start c begun, lt-ltb c t.end active) refl

pub returns-then-not-is_active-clause-none : goal.returns-then-not-is_active-clause-none
unfolding none
returns-then-not-is_active-clause-none c = λ j clash.
    let both = clash_gives (keeps_apart c.args.parents.now c.args.apart) c.args.placed.now c.args.first j c.args.cycle none none clash in
    true≢false (sym (active_is (get_or c.args.placed.now c.args.first none) c.args.cycle both.begun both.active) ∙ sym c.is_active.ensures ∙ c.if-not-is_active.true)
