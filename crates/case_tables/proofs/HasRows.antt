-- The rows of exclusions that the live tests of a chip have.
use Rattle.std.proofs.Common.{◌≡◌, ◌∙◌, ℕ, ◌<◌, List, length, ap, subst}
use Rattle.std.proofs.lemmas.List.{length-map}
use Rattle.soc_model.specs.declared.TestId.{TestId}
use Rattle.soc_model.specs.Chips.{SocValue, id_of, live_tests}
use Rattle.plan_model.specs.Plans.{LimitsValue}
use Rattle.plan_model.specs.Rules.{live_ids}
use Rattle.proof_facts.specs.declared.exclusion_rows.ExclusionRows.{ExclusionRows}
use Rattle.proof_facts.specs.Rows.{AreRowsOf, HasRow}

-- a test of the names of the live tests has a row
pub has_row : (soc : SocValue) (limits : LimitsValue) (rows : ExclusionRows) (ids : List TestId) (test : ℕ) → AreRowsOf soc limits rows → ids ≡ live_ids soc → test < length ids → HasRow rows test
has_row soc limits rows ids test are names within =
    let less : test < length (live_tests soc) = subst (λ n. test < n) (ap length names ∙ length-map (live_tests soc) id_of) within in
    record { soc = soc; limits = limits; are = are; within = less }
