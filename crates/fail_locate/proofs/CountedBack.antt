-- The spot of a cycle and a wire is what is read there.
use Rattle.std.proofs.Common.{◌≡◌, ℕ, ◌-◌, true, Some, None, List, refl, ap, ◌∙◌, sym, subst, arith, inl, inr}
use Rattle.std.proofs.lemmas.Option.{same_Some}
use Rattle.soc_model.specs.declared.TestId.{TestId}
use Rattle.soc_model.specs.Chips.{SocValue}
use Rattle.plan_model.specs.Cells as cells
use Rattle.plan_model.specs.Cells.{is_read}
use Rattle.plan_model.specs.Plans.{LimitsValue, PlanValue, PlannedTest, planned, uses, of_first}
use Rattle.plan_model.specs.Right.{IsAt, IsReadAt, IsRight}
use Rattle.plan_model.specs.Rules.{IsGood, IsGoodAlone, bare_limits}
use Rattle.plan_model.specs.Runs.{Content}
use Rattle.plan_model.proofs.ChainsInTheRun.{AreApart}
use Rattle.plan_model.proofs.TestsInGoodPlans.{uses_is, apart}
use Rattle.plan_model.proofs.GoodPlansRunRight.{every_good_plan_is_right}
use Rattle.plan_model.proofs.GoodWithoutLimits.{good_alone}
use Rattle.live_tests.proofs.CountedBack.{Reading, reading, of_read, of_first_cases, unread}
use Rattle.fail_locate.specs.declared.Cell.{Cell}
use Rattle.fail_locate.specs.declared.Cell.TheVariants.{Flop, Out}
use Rattle.fail_locate.specs.declared.Spot.{Spot}
use Rattle.fail_locate.specs.Laws.{SpotsAreReads}
use Rattle.fail_locate.specs.SpotAt.{named_spot, spot_of, spot_at}
use Rattle.fail_locate.specs.Spots.{IsSpot, IsShown, IsNoSpot, cell_value}
use Rattle.fail_locate.proofs.FoundSpots.{no_bits}

-- ---- a bit that is read

cell_found : (id : TestId) (k : ℕ) (cell : Cell) → named_spot id (Some (k, cell_value cell)) ≡ Some (record { test = id; pattern = k; cell = cell })
cell_found id k (Flop chain place) = refl
cell_found id k (Out number) = refl

spotted : (tests : List PlannedTest) (stand : AreApart tests) (i : ℕ) (t : PlannedTest) (k : ℕ) (cell : Cell) (c w : ℕ) → IsAt tests i t → Reading t k (cell_value cell) c w → of_first (uses c w) (spot_of c w) None tests ≡ Some (record { test = t.id; pattern = k; cell = cell })
spotted tests stand i t k cell c w at r = of_read (spot_of c w) None tests stand i t k (cell_value cell) c w at r ∙ ap (named_spot t.id) r.found ∙ cell_found t.id k cell

-- where something is read, that is the spot
pub spot_is : (soc : SocValue) (plan : PlanValue) (c w : ℕ) (spot : Spot) → IsGoodAlone soc plan → IsSpot soc plan c w spot → Some spot ≡ spot_at soc plan c w
spot_is soc plan c w spot good is =
    let right : IsRight soc (bare_limits plan) plan no_bits = every_good_plan_is_right soc (bare_limits plan) plan no_bits good in
    let r : Reading is.test spot.pattern (cell_value spot.cell) c w = reading (planned soc plan) (apart soc (bare_limits plan) plan good) is.place is.test spot.pattern (cell_value spot.cell) c w is.at is.read (λ s h. right.reads.all_shifts is.place is.test spot.pattern (cell_value spot.cell) c w is.at is.read (c - s) (omega (arith, is.read.cycle)) (omega arith)) in
    ap (λ (id : TestId). Some (spot_with id)) is.name ∙ sym (spotted (planned soc plan) (apart soc (bare_limits plan) plan good) is.place is.test spot.pattern spot.cell c w is.at r)
  where
    spot_with : TestId → Spot
    spot_with id = record { test = id; pattern = spot.pattern; cell = spot.cell }

-- ---- where there is a spot, something is read

-- where nothing is read, there is no spot
pub no_spot : (soc : SocValue) (plan : PlanValue) (c w : ℕ) → IsNoSpot soc plan c w → None ≡ spot_at soc plan c w
no_spot soc plan c w none = elim (of_first_cases (uses c w) (spot_of c w) None (planned soc plan)) [
  | inl is ↦ sym is
  | inr f ↦ elim (unread f.1 c w (uses_is c w f.1 f.3)) [
    | inl no' ↦ sym (f.4 ∙ ap (named_spot (f.1).id) no')
    | inr r ↦ absurd (none f.0 r.pattern f.1 r.cell f.2 r.read)
  ]
]

-- ---- both ways

-- a cell that is read is one that a spot names
named_read : (x : cells.Cell) → is_read x ≡ true → (cell : Cell) × (cell_value cell ≡ x)
named_read (cells.In number) read = absurd cc
named_read (cells.Flop chain place) read = (Flop chain place, refl)
named_read (cells.Out number) read = (Out number, refl)

-- what is read is a spot
read_spot : (soc : SocValue) (limits : LimitsValue) (plan : PlanValue) (c w : ℕ) → IsGood soc limits plan → (i k : ℕ) (t : PlannedTest) (x : cells.Cell) → IsAt (planned soc plan) i t → IsReadAt t k x c w → (spot : Spot) × IsSpot soc plan c w spot
read_spot soc limits plan c w good i k t x at read =
    let right : IsRight soc limits plan no_bits = every_good_plan_is_right soc limits plan no_bits good in
    let n = named_read x ((right.reads.shows i t k x c w at read).0) in
    (record { test = t.id; pattern = k; cell = n.0 }, record { place = i; test = t; at = at; name = refl; read = subst (λ (x : cells.Cell). IsReadAt t k x c w) (sym n.1) read })

-- a spot that is found is what is read
is_spot : (soc : SocValue) (limits : LimitsValue) (plan : PlanValue) (c w : ℕ) (spot : Spot) → IsGood soc limits plan → spot_at soc plan c w ≡ Some spot → IsSpot soc plan c w spot
is_spot soc limits plan c w spot good found = elim (of_first_cases (uses c w) (spot_of c w) None (planned soc plan)) [
  | inl is ↦ let wrong : None ≡ Some spot = sym is ∙ found in absurd cc
  | inr f ↦ elim (unread f.1 c w (uses_is c w f.1 f.3)) [
    | inl no' ↦ let wrong : None ≡ Some spot = sym (ap (named_spot (f.1).id) no') ∙ sym f.4 ∙ found in absurd cc
    | inr r ↦
        let s = read_spot soc limits plan c w good f.0 r.pattern f.1 r.cell f.2 r.read in
        let same : s.0 ≡ spot = same_Some s.0 spot (spot_is soc plan c w s.0 (good_alone soc limits plan good) s.1 ∙ found) in
        subst (λ (s : Spot). IsSpot soc plan c w s) same s.1
  ]
]

-- and its bit is shown
is_shown : (soc : SocValue) (limits : LimitsValue) (plan : PlanValue) (content : Content) (c w : ℕ) (spot : Spot) → IsGood soc limits plan → IsSpot soc plan c w spot → IsShown soc plan content c w spot
is_shown soc limits plan content c w spot good is =
    let right : IsRight soc limits plan content = every_good_plan_is_right soc limits plan content good in
    record {
      spot_is = is;
      bit = (right.reads.shows is.place is.test spot.pattern (cell_value spot.cell) c w is.at is.read).1 ∙ ap (λ (id : TestId). content.response id spot.pattern (cell_value spot.cell)) (sym is.name);
    }

-- nothing is read where there is no spot
none_read : (soc : SocValue) (limits : LimitsValue) (plan : PlanValue) (c w : ℕ) → IsGood soc limits plan → spot_at soc plan c w ≡ None → IsNoSpot soc plan c w
none_read soc limits plan c w good none i k t x at read =
    let s = read_spot soc limits plan c w good i k t x at read in
    let wrong : Some s.0 ≡ None = spot_is soc plan c w s.0 (good_alone soc limits plan good) s.1 ∙ none in
    absurd cc

pub finds_reads : SpotsAreReads
finds_reads soc limits plan content c w good = record {
  found = λ spot. (
    λ found. is_shown soc limits plan content c w spot good (is_spot soc limits plan c w spot good found),
    λ shows. sym (spot_is soc plan c w spot (good_alone soc limits plan good) shows.spot_is),
  );
  none = (none_read soc limits plan c w good, λ none. sym (no_spot soc plan c w none));
}
