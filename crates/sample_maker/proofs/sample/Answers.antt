use Rattle.std.proofs.Common.{◌≡◌, ◌≤◌, ◌<◌, ◌⊎◌, inl, inr, Err, arith, rules, subst, sym, All}
use Rattle.soc_model.specs.Chips.{SocValue, LiveTest, live_tests}
use Rattle.soc_model.specs.SoundChips.{IsSoundChip}
use Rattle.sample_maker.specs.declared.SampleFault.TheVariants.{NoMemory}
use Rattle.sample_maker.proofs.Sound.{made_sound, made_weak}
use Rattle.sample_maker.proofs.sample.Goals as goal

pub returns-in_err-soc-clause-size : goal.returns-in_err-soc-clause-size
returns-in_err-soc-clause-size c =
    let is : c.from_residual.result ≡ Err NoMemory = search rules in
    (λ wrong. absurd cc, λ many. absurd (none many))
  where
    none : c.args.n ≡ 0 ⊎ 200 < c.args.n → ⊥
    none (inl is) = omega arith
    none (inr many) = omega arith

pub returns-clause-sound : goal.returns-clause-sound
returns-clause-sound c = subst IsSoundChip (sym c.in_ok-soc.ensures) (made_sound c.args.n c.args.seed (omega arith))

pub returns-clause-power : goal.returns-clause-power
returns-clause-power c = subst (λ (s : SocValue). All (λ (l : LiveTest). l.test.power ≤ 99) (live_tests s)) (sym c.in_ok-soc.ensures) (made_weak c.args.n c.args.seed (omega arith))
