use Rattle.std.proofs.Common.{◌≡◌, sym, subst, Err, IfErr, Result, rules}
use Rattle.soc_model.specs.Chips.{soc_value}
use Rattle.soc_model.specs.SoundChips.{IsSoundChip}
use Rattle.plan_model.specs.SoundLimits.{IsSoundLimits}
use Rattle.plan_model.specs.Views.{limits_value}
use Rattle.split_plan.specs.declared.Split.{Split}
use Rattle.split_plan.specs.declared.SplitFault.{SplitFault}
use Rattle.split_plan.specs.Laws.{AreParts, EachContentInParts, EachPatternOnce, IsRefusal}
use Rattle.split_plan.specs.Parts.{SplitValue, split_chip}
use Rattle.split_plan.proofs.ChipOfParts.{split_sound}
use Rattle.split_plan.proofs.Profiles.{limits_sound}
use Rattle.split_plan.proofs.PartContents.{contents}
use Rattle.split_plan.proofs.PartLaws.{each_once, are_parts}
use Rattle.split_plan.proofs.split_soc.Goals as goal

pub returns-in_err-check_numbers-clause-refused : goal.returns-in_err-check_numbers-clause-refused
returns-in_err-check_numbers-clause-refused c =
    let limits = limits_value c.args.limits.now in
    let is : c.from_residual.result ≡ Err c.in_err-check_numbers.field-0.0 = search rules in
    subst (λ (r : Result Split SplitFault). IfErr r (IsRefusal (split_chip limits c.args.most (soc_value c.args.soc.now)))) (sym is) (c.in_err-check_numbers.ensures.refused limits c.requires.limits)

pub returns-in-Ok-clause-sound_chip : goal.returns-in-Ok-clause-sound_chip
returns-in-Ok-clause-sound_chip c =
    let limits = limits_value c.args.limits.now in
    let size = c.in_ok-check_numbers.ensures.fits limits c.requires.limits in
    subst (λ (s : SplitValue). IsSoundChip s.soc) (sym c.in-Ok.ensures) (split_sound (soc_value c.args.soc.now) limits c.args.most c.requires.chip c.requires.limits size)

pub returns-in-Ok-clause-sound_limits : goal.returns-in-Ok-clause-sound_limits
returns-in-Ok-clause-sound_limits c =
    let limits = limits_value c.args.limits.now in
    let size = c.in_ok-check_numbers.ensures.fits limits c.requires.limits in
    let sound = split_sound (soc_value c.args.soc.now) limits c.args.most c.requires.chip c.requires.limits size in
    subst (λ (s : SplitValue). IsSoundLimits s.soc s.limits) (sym c.in-Ok.ensures) (limits_sound limits c.args.most (soc_value c.args.soc.now) c.requires.most c.requires.chip c.requires.limits sound)

pub returns-in-Ok-clause-once : goal.returns-in-Ok-clause-once
returns-in-Ok-clause-once c =
    subst (λ (s : SplitValue). EachPatternOnce (soc_value c.args.soc.now) s.parts) (sym c.in-Ok.ensures) (each_once (limits_value c.args.limits.now) c.args.most (soc_value c.args.soc.now) c.requires.most c.requires.chip)

pub returns-in-Ok-clause-tests : goal.returns-in-Ok-clause-tests
returns-in-Ok-clause-tests c =
    subst (λ (s : SplitValue). AreParts (soc_value c.args.soc.now) s.soc s.parts) (sym c.in-Ok.ensures) (are_parts (limits_value c.args.limits.now) c.args.most (soc_value c.args.soc.now) c.requires.most c.requires.chip)

pub returns-in-Ok-clause-contents : goal.returns-in-Ok-clause-contents
returns-in-Ok-clause-contents c =
    subst (λ (s : SplitValue). EachContentInParts s.parts) (sym c.in-Ok.ensures) (contents (limits_value c.args.limits.now) c.args.most (soc_value c.args.soc.now) c.requires.chip)
