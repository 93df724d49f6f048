-- What a good plan says of the tests that a picture is drawn from.
use Rattle.std.proofs.Common.{◌≡◌, ◌≢◌, Bool, false, ℕ, zero, suc, ◌+◌, ◌-◌, ◌≤◌, Option, None, Some, List, [], ◌++◌, map, refl, sym, ap, ◌∙◌, arith, slice_get, codes, nat_eq, if◌then◌else◌}
use Rattle.std.proofs.lemmas.Bool.Decides.{nat_tests}
use Rattle.std.proofs.lemmas.List.{append-nil}
use Rattle.std.proofs.lemmas.Option.{slice_get_within, get_or_from_slice_get}
use Rattle.std.proofs.Math.Path.{fun_ext}
use Rattle.soc_model.specs.Chips.{SocValue}
use Rattle.plan_model.specs.Plans.{PlanValue, LimitsValue, PlannedTest, ProfileValue, planned, end_of, greatest, is_active, power_at, power_of}
use Rattle.plan_model.specs.Rules.{IsGood, Cycles, Power}
use Rattle.plan_model.specs.SoundLimits.{IsSoundLimits, IsSoundProfile, Grow}
use Rattle.plan_model.proofs.Greatest.{le-greatest_at}
use Rattle.plan_model.proofs.Sums.{sum_by-filter}
use Rattle.live_tests.specs.declared.placed.PlacedTest.{PlacedTest}
use Rattle.live_tests.specs.Placed.{placed_of, placed_tests}
use Rattle.live_tests.specs.Events.{HasSteps, profile_place, steps_from}
use Rattle.live_tests.specs.Loads.{drawn, drawn_by, load_steps}
use Rattle.picture.specs.declared.Parts.{Parts}
use Rattle.picture.specs.declared.sections.BoundMark.{BoundMark}
use Rattle.picture.specs.Laws.{AreParts}
use Rattle.picture.specs.Panels.{below, wires_panel}
use Rattle.picture.specs.PictureText.{bottom_of, frame_text, head_text, inner_text, lanes_of, lanes_text, limit_text, lines_text, load_text, picture_with, plan_steps, power_text, self_tests, wires_text}
use Rattle.picture.specs.Rectangles.{between, bus_wires, laned, wired}
use Rattle.picture.specs.Scale.{scale_text}
use Rattle.common_lemmas.proofs.Lists.{joined_before, from_map, sum_map}

-- no test ends after the plan
pub ends_by : (soc : SocValue) (limits : LimitsValue) (plan : PlanValue) → IsGood soc limits plan → (i : ℕ) (t : PlacedTest) → slice_get (placed_tests soc plan) i ≡ Some t → (t.start ≤ t.end) × (t.end ≤ plan.cycles)
ends_by soc limits plan good i t at =
    let u = from_map placed_of (planned soc plan) i t at in
    let most : end_of u.0 ≤ greatest (map end_of (planned soc plan)) = le-greatest_at end_of (planned soc plan) i u.0 u.1 in
    let cycles : plan.cycles ≡ greatest (map end_of (planned soc plan)) = good Cycles in
    let start : (u.0).start ≡ t.start = ap (λ (t : PlacedTest). t.start) u.2 in
    let end : end_of u.0 ≡ t.end = ap (λ (t : PlacedTest). t.end) u.2 in
    (omega (arith, start, end), omega (arith, most, cycles, end))

-- the steps of power of a test grow
grows : (soc : SocValue) (limits : LimitsValue) (k own : ℕ) (o : Option ProfileValue) → IsSoundLimits soc limits → slice_get limits.profiles k ≡ o → Grow 0 (steps_from o own)
grows soc limits k own None sound at = (omega arith, tt)
grows soc limits k own (Some p) sound at =
    let profile : IsSoundProfile soc p = rw (get_or_from_slice_get limits.profiles k p p at) at (sound.profiles k p (slice_get_within limits.profiles k p at)) in
    profile.grows

pub has_steps : (soc : SocValue) (limits : LimitsValue) (plan : PlanValue) → IsSoundLimits soc limits → IsGood soc limits plan → (i : ℕ) (t : PlacedTest) → slice_get (placed_tests soc plan) i ≡ Some t → HasSteps limits t
has_steps soc limits plan sound good i t at = record {
  ends_later = (ends_by soc limits plan good i t at).0;
  grow = grows soc limits (profile_place limits t.id) t.power (slice_get limits.profiles (profile_place limits t.id)) sound refl;
}

-- what the placed tests draw is what the planned ones draw
drawn_is : (limits : LimitsValue) (tests : List PlannedTest) (c : ℕ) → drawn_by limits (map placed_of tests) c ≡ power_at limits tests c
drawn_is limits tests c = sum_map (drawn limits c) placed_of tests ∙ sym (sum_by-filter (is_active c) (λ t. power_of limits t (c - t.start)) tests)

pub drawn_within : (soc : SocValue) (limits : LimitsValue) (plan : PlanValue) → IsGood soc limits plan → (most : ℕ) → limits.power ≡ Some most → (c : ℕ) → drawn_by limits (placed_tests soc plan) c ≤ most
drawn_within soc limits plan good most limit c =
    let low = rw limit at (good Power c) in
    omega (arith, low, drawn_is limits (planned soc plan) c)

pub steps_are : (soc : SocValue) (limits : LimitsValue) (plan : PlanValue) → load_steps (drawn_by limits (placed_tests soc plan)) plan.cycles ≡ plan_steps soc limits plan
steps_are soc limits plan = ap (λ f. load_steps f plan.cycles) (fun_ext (drawn_is limits (planned soc plan)))

-- ---- all that is in the frame

-- without a limit on power the steps don't matter
same_power : (top cycles : ℕ) (power : Option ℕ) (steps steps' : List (ℕ × ℕ)) → ((most : ℕ) → power ≡ Some most → steps ≡ steps') → power_text top cycles power steps ≡ power_text top cycles power steps'
unfolding power_text
same_power top cycles None steps steps' same = refl
same_power top cycles (Some most) steps steps' same = ap (λ l. load_text top cycles most l ++ limit_text top most) (same most refl)

pub wired_by : (soc : SocValue) (limits : LimitsValue) (plan : PlanValue) (parts : Parts) → AreParts soc limits plan parts → parts.wired.items ≡ wired (between parts.firsts.items) (placed_tests soc plan)
wired_by soc limits plan parts p = p.wired_are ∙ ap (λ b. wired b (placed_tests soc plan)) (sym p.buses)

pub inner_is : (soc : SocValue) (limits : LimitsValue) (plan : PlanValue) (parts : Parts) (power : Option ℕ) (mark : BoundMark) (cycles end : ℕ) (t5 t4 t3 t2 t1 t0 : List ℕ) → AreParts soc limits plan parts → power ≡ limits.power → cycles ≡ plan.cycles → end ≡ below parts.lanes →
    t1 ≡ t0 ++ wires_text soc parts.wires (between parts.firsts.items) (placed_tests soc plan) → t2 ≡ t1 ++ lanes_text soc parts.lanes parts.laned.items → t3 ≡ t2 ++ power_text (end + 24) cycles power parts.steps.items → t4 ≡ t3 ++ scale_text cycles parts.bottom → t5 ≡ t4 ++ lines_text cycles mark parts.bottom → t5 ≡ t0 ++ inner_text soc limits plan mark
unfolding inner_text
inner_is soc limits plan parts power mark cycles end t5 t4 t3 t2 t1 t0 p power_is cycles_is end_is e1 e2 e3 e4 e5 =
    let lanes = lanes_of soc limits plan in
    let bottom = bottom_of (below lanes) plan.cycles limits.power in
    let w : wires_text soc parts.wires (between parts.firsts.items) (placed_tests soc plan) ≡ wires_text soc (wires_panel plan.cycles limits.wires) (bus_wires plan) (placed_tests soc plan) =
    ap (λ v. wires_text soc v (between parts.firsts.items) (placed_tests soc plan)) p.wires ∙ ap (λ v. wires_text soc (wires_panel plan.cycles limits.wires) v (placed_tests soc plan)) p.buses in
    let l : lanes_text soc parts.lanes parts.laned.items ≡ lanes_text soc lanes (laned [] (self_tests soc plan)) = ap (λ v. lanes_text soc v parts.laned.items) p.lanes ∙ ap (lanes_text soc lanes) p.laned_are in
    let top : end ≡ below lanes = end_is ∙ ap below p.lanes in
    let s : power_text (end + 24) cycles power parts.steps.items ≡ power_text (below lanes + 24) plan.cycles limits.power (plan_steps soc limits plan) =
    ap (λ v. power_text (v + 24) cycles power parts.steps.items) top ∙ ap (λ v. power_text (below lanes + 24) v power parts.steps.items) cycles_is ∙ ap (λ v. power_text (below lanes + 24) plan.cycles v parts.steps.items) power_is
    ∙ same_power (below lanes + 24) plan.cycles limits.power parts.steps.items (plan_steps soc limits plan) p.steps in
    let m : scale_text cycles parts.bottom ≡ scale_text plan.cycles bottom = ap (λ v. scale_text v parts.bottom) cycles_is ∙ ap (scale_text plan.cycles) p.bottom in
    let n : lines_text cycles mark parts.bottom ≡ lines_text plan.cycles mark bottom = ap (λ v. lines_text v mark parts.bottom) cycles_is ∙ ap (lines_text plan.cycles mark) p.bottom in
    let w' = wires_text soc (wires_panel plan.cycles limits.wires) (bus_wires plan) (placed_tests soc plan) in
    let l' = lanes_text soc lanes (laned [] (self_tests soc plan)) in
    let s' = power_text (below lanes + 24) plan.cycles limits.power (plan_steps soc limits plan) in
    let m' = scale_text plan.cycles bottom in
    let n' = lines_text plan.cycles mark bottom in
    joined_before t5 t1 t0 w' (l' ++ (s' ++ (m' ++ n'))) (joined_before t5 t2 t1 l' (s' ++ (m' ++ n')) (joined_before t5 t3 t2 s' (m' ++ n') (joined_before t5 t4 t3 m' n' (e5 ∙ ap (λ v. t4 ++ v) n) (e4 ∙ ap (λ v. t3 ++ v) m)) (e3 ∙ ap (λ v. t2 ++ v) s)) (e2 ∙ ap (λ v. t1 ++ v) l)) (e1 ∙ ap (λ v. t0 ++ v) w)

-- the frame, what is in it, and the end
pub picture_is : (soc : SocValue) (limits : LimitsValue) (plan : PlanValue) (mark : BoundMark) (parts : Parts) (t0 t1 t2 t3 t4 : List ℕ) → AreParts soc limits plan parts → t0 ≡ [] → t1 ≡ t0 ++ head_text (parts.bottom + 24) → t2 ≡ t1 ++ frame_text parts.wires →
    t3 ≡ t2 ++ (if nat_eq plan.cycles 0 then [] else inner_text soc limits plan mark) → t4 ≡ t3 ++ codes "</svg>\n" → t4 ≡ picture_with soc limits plan mark
picture_is soc limits plan mark parts t0 t1 t2 t3 t4 p none head frame inner end =
    let within = (if nat_eq plan.cycles 0 then [] else inner_text soc limits plan mark) in
    let rest = within ++ codes "</svg>\n" in
    joined_before t4 t1 t0 (head_text (parts.bottom + 24)) (frame_text parts.wires ++ rest) (joined_before t4 t2 t1 (frame_text parts.wires) rest (joined_before t4 t3 t2 within (codes "</svg>\n") end inner) frame) head
    ∙ ap (λ l. l ++ (head_text (parts.bottom + 24) ++ (frame_text parts.wires ++ rest))) none
    ∙ ap (λ (bottom : ℕ). head_text (bottom + 24) ++ (frame_text parts.wires ++ rest)) p.bottom
    ∙ ap (λ wires. head_text (bottom_of (below (lanes_of soc limits plan)) plan.cycles limits.power + 24) ++ (frame_text wires ++ rest)) p.wires

not_zero : (n : ℕ) → n ≢ 0 → nat_eq n 0 ≡ false
not_zero n some = grind (arith, nat_tests)

-- a plan of some cycles, and one of none
pub some_cycles : (n : ℕ) (old new text : List ℕ) → n ≢ 0 → new ≡ old ++ text → new ≡ old ++ (if nat_eq n 0 then [] else text)
some_cycles n old new text some is = is ∙ ap (λ (b : Bool). old ++ (if b then [] else text)) (sym (not_zero n some))

pub no_cycles : (n : ℕ) (old text : List ℕ) → n ≡ 0 → old ≡ old ++ (if nat_eq n 0 then [] else text)
no_cycles zero old text none = sym (append-nil old)
no_cycles (suc n) old text none = absurd (omega arith)
