-- What a sound chip bounds: the sizes of its modules, and with these the times of its tests over the wires. A caller
-- shows by them what `lengths` and `tam_duration` require.
use Rattle.std.proofs.Common.{◌≡◌, ℕ, ◌+◌, ◌*◌, ◌≤◌, ◌<◌, ◌^◌, true, Some, slice_get, get_or, length, sum, arith}
use Rattle.std.proofs.lemmas.Option.{slice_get_within, get_or_from_slice_get}
use Rattle.soc_model.specs.declared.Test.{Test}
use Rattle.soc_model.specs.Chips.{ModuleValue, SocValue, LiveTest, is_live, live_tests}
use Rattle.soc_model.specs.Sizes.{test_work, work}
use Rattle.soc_model.specs.SoundChips.{IsSoundChip}
use Rattle.soc_model.proofs.Sums.{IsSmall}
use Rattle.soc_model.proofs.Limits.{modules-small, scan_cells-lt, work-le, test_work-le, test_work-le-at}
use Rattle.plan_model.specs.Listing.{module_size}

-- of any module
pub module_size-le : (soc : SocValue) → IsSoundChip soc → (p : ℕ) (m : ModuleValue) → slice_get soc.modules p ≡ Some m → module_size m ≤ 10 ^ 18
module_size-le soc sound p m at =
    let within : p < length soc.modules = slice_get_within soc.modules p m at in
    let here : get_or soc.modules p m ≡ m = get_or_from_slice_get soc.modules p m m at in
    let small : IsSmall m = rw here at (modules-small soc sound.small p m within) in
    let cells : sum m.chains < 10 ^ 15 = rw here at (scan_cells-lt soc sound.small sound.size p m within) in
    omega arith

-- a test's part of the work, of a test over the wires
pub wires_work : (m : ModuleValue) (t : Test) → t.tam ≡ true → test_work m t ≤ 10 ^ 18 → m.setup + t.patterns * module_size m ≤ 10 ^ 18
wires_work m t tam h = let h' = rw tam at h in omega arith

-- of a live test over the wires, by the places of its module and of itself
pub tam_work-le : (soc : SocValue) → IsSoundChip soc → (p q : ℕ) (m : ModuleValue) (t : Test) → slice_get soc.modules p ≡ Some m → slice_get m.tests q ≡ Some t → is_live t ≡ true → t.tam ≡ true →
    m.setup + t.patterns * module_size m ≤ 10 ^ 18
tam_work-le soc sound p q m t at there live tam =
    let part : test_work m t ≤ work soc = test_work-le-at soc p q m t at there live in
    let all : work soc ≤ 10 ^ 18 = work-le soc sound.size in
    wires_work m t tam (omega arith)
