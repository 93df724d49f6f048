use Rattle.std.proofs.Common.{◌≡◌, None, sym, ◌∙◌}
use Rattle.soc_model.specs.Chips.{soc_value}
use Rattle.test_data.specs.DataPlaces.{entries_in, kept_names}
use Rattle.test_data.specs.Suiting.{first_misnamed, first_missing, first_of, wrong_bits, wrong_patterns}
use Rattle.test_data.proofs.Firsts.{by_names, by_missing, by_others, first_is, other_is}
use Rattle.test_data.proofs.misfits.first_misfit.Goals as goal

pub returns-in-Some : goal.returns-in-Some
returns-in-Some c = by_names (soc_value c.args.soc.now) c.parts.result.0.now c.parts.result.1.now c.args.«data».now c.in-Some.test c.parts.ensures (sym c.in-Some.is ∙ c.first_misnamed.ensures)

pub returns-in-Some-first_missing : goal.returns-in-Some-first_missing
returns-in-Some-first_missing c =
    let soc = soc_value c.args.soc.now in
    let es = c.parts.result.1.now in
    let named : first_misnamed soc (kept_names es) ≡ None = cc in
    by_missing soc c.parts.result.0.now es c.args.«data».now c.in-Some-first_missing.test c.parts.ensures named (sym c.in-Some-first_missing.is ∙ c.first_missing.ensures)

pub returns-in-Some-first_wrong_patterns : goal.returns-in-Some-first_wrong_patterns
returns-in-Some-first_wrong_patterns c =
    let soc = soc_value c.args.soc.now in
    let bytes = c.parts.result.0.now in
    let es = c.parts.result.1.now in
    let named : first_misnamed soc (kept_names es) ≡ None = cc in
    let missing : first_missing soc (kept_names es) ≡ None = cc in
    first_is (first_of (wrong_patterns soc) (entries_in bytes es)) (first_of (wrong_bits soc) (entries_in bytes es)) c.in-Some-first_wrong_patterns.misfit (sym c.first_wrong_patterns.ensures ∙ c.in-Some-first_wrong_patterns.is)
    ∙ by_others soc bytes es c.args.«data».now c.parts.ensures named missing

pub returns : goal.returns
returns c =
    let soc = soc_value c.args.soc.now in
    let bytes = c.parts.result.0.now in
    let es = c.parts.result.1.now in
    let named : first_misnamed soc (kept_names es) ≡ None = cc in
    let missing : first_missing soc (kept_names es) ≡ None = cc in
    let patterns : first_of (wrong_patterns soc) (entries_in bytes es) ≡ None = cc in
    c.first_wrong_bits.ensures ∙ other_is (first_of (wrong_patterns soc) (entries_in bytes es)) (first_of (wrong_bits soc) (entries_in bytes es)) patterns
    ∙ by_others soc bytes es c.args.«data».now c.parts.ensures named missing
