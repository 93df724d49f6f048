-- What the rules of lists are tested by, and how live tests are marked for a list, name by name.
use Rattle.std.specs.Prelude.{◌≡◌, ℕ, ◌+◌, ◌<◌, ◌≤◌, ◌&&◌, Bool, true, false, Option, Some, None, List, [], ◌∷◌, ◌++◌, length, map, MatchOption, if◌then◌else◌}
use Rattle.soc_model.specs.declared.TestId.{TestId}
use Rattle.soc_model.specs.Chips.{SocValue, LiveTest, live_tests, soc_value}
use Rattle.soc_model.specs.SoundChips.{IsSoundChip}
use Rattle.plan_model.specs.Plans.{LimitsValue}
use Rattle.plan_model.specs.Views.{limits_value}
use Rattle.plan_model.specs.Rules.{Each, live_ids}
use Rattle.proof_facts.specs.Rows.{AreRowsOf}
use Rattle.leaf_bounds.specs.declared.list_rules.ListRules.{ListRules}
use Rattle.leaf_bounds.specs.declared.list_rules.TurnMarks.{TurnMarks}
use Rattle.leaf_bounds.specs.declared.list_rules.CrowdMarks.{CrowdMarks}
use Rattle.leaf_bounds.specs.declared.list_table.Role.{Role}
use Rattle.leaf_bounds.specs.declared.list_table.Role.TheVariants.{Out, In, Beside}
use Rattle.plan_model.specs.Proofs.{ListValue}
use Rattle.leaf_bounds.specs.Lists.{IsTurn, IsCrowdItem, KeepsList, excludes_all, is_among, least_power_of, least_together}
use Rattle.leaf_bounds.specs.ListTables.{role_of}

abbrev pub chip_ruled : ListRules → SocValue
chip_ruled r = soc_value r.soc.now

abbrev pub limits_ruled : ListRules → LimitsValue
limits_ruled r = limits_value r.limits.now

-- the names of the live tests of a sound chip, their rows, and which are over the wires
pub record IsListRules (r : ListRules) : Type 0 where
  pub sound : IsSoundChip (chip_ruled r)
  pub names : r.names.now ≡ live_ids (chip_ruled r)
  pub rows : AreRowsOf (chip_ruled r) (limits_ruled r) r.rows
  pub tams : r.tams.items ≡ map (λ (l : LiveTest). l.test.tam) (live_tests (chip_ruled r))

-- each live test that some tests name is marked, and no other
abbrev pub among_of : SocValue → List TestId → List Bool
among_of soc tests = map (is_among tests) (live_tests soc)

-- each live test that excludes all of some tests is marked, and no other
abbrev pub apart_of : SocValue → LimitsValue → List TestId → List Bool
apart_of soc limits tests = map (excludes_all soc limits tests) (live_tests soc)

-- the live tests are marked for some tests of a list
pub record AreTurnMarks (r : ListRules) (tests : List TestId) (m : TurnMarks) : Type 0 where
  pub among : m.among.items ≡ among_of (chip_ruled r) tests
  pub apart : m.apart.items ≡ apart_of (chip_ruled r) (limits_ruled r) tests

-- an entry of a list of turns keeps its rule, and is marked behind the earlier ones; or it breaks it
abbrev pub TurnAdded : (r : ListRules) (earlier : List TestId) → TestId → TurnMarks → Bool → Type 0
TurnAdded r earlier id after true = IsTurn (chip_ruled r) (limits_ruled r) earlier id × AreTurnMarks r (earlier ++ id ∷ []) after
TurnAdded r earlier id after false = IsTurn (chip_ruled r) (limits_ruled r) earlier id → ⊥

-- so all entries
abbrev pub TurnsMarked : (r : ListRules) → List TestId → Option TurnMarks → Type 0
TurnsMarked r tests (Some m) = Each (IsTurn (chip_ruled r) (limits_ruled r)) tests × AreTurnMarks r tests m
TurnsMarked r tests None = Each (IsTurn (chip_ruled r) (limits_ruled r)) tests → ⊥

-- the live tests are marked for some tests of a crowd, whose least powers are noted
pub record AreCrowdMarks (r : ListRules) (tests : List TestId) (m : CrowdMarks) : Type 0 where
  pub among : m.among.items ≡ among_of (chip_ruled r) tests
  pub powers : m.powers.items ≡ map (least_power_of (chip_ruled r) (limits_ruled r)) tests

-- an entry of a crowd keeps its rule, and is marked and noted behind the earlier ones; or it breaks it
abbrev pub MemberAdded : (r : ListRules) (earlier : List TestId) → TestId → CrowdMarks → Bool → Type 0
MemberAdded r earlier id after true = IsCrowdItem (chip_ruled r) earlier id × AreCrowdMarks r (earlier ++ id ∷ []) after
MemberAdded r earlier id after false = IsCrowdItem (chip_ruled r) earlier id → ⊥

-- so all entries
abbrev pub MembersMarked : (r : ListRules) → List TestId → Option CrowdMarks → Type 0
MembersMarked r tests (Some m) = Each (IsCrowdItem (chip_ruled r)) tests × AreCrowdMarks r tests m
MembersMarked r tests None = Each (IsCrowdItem (chip_ruled r)) tests → ⊥

-- one mark and another, as far as there are others
abbrev pub both_marked : (marks others : List Bool) → List Bool
both_marked marks [] = marks
both_marked [] (o ∷ others) = []
both_marked (m ∷ marks) (o ∷ others) = (m && o) ∷ both_marked marks others

-- `most` is at least 1, there are more powers than that, and the `most + 1` least of them together pass the limit
abbrev pub AreHeavy : Option ℕ → (most : ℕ) → List ℕ → Type 0
AreHeavy power most powers = (1 ≤ most) × (most < length powers) × MatchOption power ⊥ (λ limit. limit < least_together (most + 1) powers)

-- how a marked live test is in a list, and one that isn't
abbrev pub member_role : Bool → Role
member_role among = if among then In else Out

-- how a live test is in a list of turns on a bus
abbrev pub turn_role : (among tam apart : Bool) → Role
turn_role among tam apart = if among then In else if tam && apart then Beside else Out

-- how all live tests are in a list
abbrev pub roles_in : (r : ListRules) → ListValue → List Role
roles_in r list = map (role_of (chip_ruled r) (limits_ruled r) list) (live_tests (chip_ruled r))

-- a list keeps its rule, and how all live tests are in it is put behind the rest; or it breaks it, and nothing is put
abbrev pub ListAdded : (r : ListRules) → ListValue → (before after : List Role) → Bool → Type 0
ListAdded r list before after true = KeepsList (chip_ruled r) (limits_ruled r) list × (after ≡ before ++ roles_in r list)
ListAdded r list before after false = (KeepsList (chip_ruled r) (limits_ruled r) list → ⊥) × (after ≡ before)
