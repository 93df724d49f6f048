-- How the live tests of a chip are in the lists of a proof, list by list.
use Rattle.std.specs.Prelude.{◌≡◌, ℕ, ◌+◌, ◌*◌, ◌<◌, ◌⊎◌, ◌&&◌, Some, List, length, slice_get, slice_index_or, if◌then◌else◌}
use Rattle.soc_model.specs.Chips.{SocValue, LiveTest, live_tests}
use Rattle.plan_model.specs.Plans.{LimitsValue}
use Rattle.plan_model.specs.Rules.{IsFirstBreach}
use Rattle.leaf_bounds.specs.declared.list_table.ListTable.{ListTable}
use Rattle.leaf_bounds.specs.declared.list_table.Role.{Role}
use Rattle.leaf_bounds.specs.declared.list_table.Role.TheVariants.{Out, In, Beside, Drawing}
use Rattle.plan_model.specs.Proofs.{ListValue, OfTurns, OfTurnsOn, OfCrowd, OfPower}
use Rattle.leaf_bounds.specs.Lists.{is_among, excludes_all, AreKept, KeptBehind}

-- how a live test is in a list
abbrev pub role_of : SocValue → LimitsValue → ListValue → LiveTest → Role
role_of soc limits (OfTurns tests) l = if is_among tests l then In else Out
role_of soc limits (OfTurnsOn rank tests) l =
    if is_among tests l then In else if l.test.tam && excludes_all soc limits tests l then Beside else Out
role_of soc limits (OfCrowd most tests) l = if is_among tests l then In else Out
role_of soc limits (OfPower near) l = Drawing

-- where it stands how the live test at a place is in a list
abbrev pub role_at : ListTable → (list test : ℕ) → Role
role_at table list test = slice_index_or table.roles.items (list * table.tests + test) Out

-- all lists keep their rules, or the one behind the first `kept` is the first that breaks its own
abbrev pub KeepFirst : SocValue → LimitsValue → List ListValue → (kept : ℕ) → Type 0
KeepFirst soc limits lists kept =
    ((kept ≡ length lists) × AreKept soc limits lists) ⊎ ((list : ListValue) × IsFirstBreach (KeptBehind soc limits) lists kept list)

-- The table says how many lists keep their rules before the first that doesn't, and of these how each live test is in each.
pub record IsListTable (soc : SocValue) (limits : LimitsValue) (lists : List ListValue) (table : ListTable) : Type 0 where
  pub tests : table.tests ≡ length (live_tests soc)
  pub first : KeepFirst soc limits lists table.kept
  pub long : length table.roles.items ≡ table.kept * table.tests
  pub roles : (n i : ℕ) (list : ListValue) (l : LiveTest) → n < table.kept →
      slice_get lists n ≡ Some list → slice_get (live_tests soc) i ≡ Some l → role_at table n i ≡ role_of soc limits list l
