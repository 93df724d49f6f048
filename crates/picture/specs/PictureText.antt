-- The text of a picture: one SVG image with the wires, the self tests, and what is drawn under a limit on power.
use Rattle.std.specs.Prelude.{ℕ, ◌+◌, ◌-◌, Bool, true, false, Option, None, Some, List, [], ◌++◌, length, nat_eq, nat_le, codes, decimal, if◌then◌else◌}
use Rattle.std.specs.List.{filter, flat_map}
use Rattle.soc_model.specs.Chips.{SocValue}
use Rattle.plan_model.specs.Plans.{PlanValue, LimitsValue, planned, power_at}
use Rattle.live_tests.specs.Loads.{load_steps}
use Rattle.live_tests.specs.declared.placed.PlacedTest.{PlacedTest}
use Rattle.live_tests.specs.Placed.{placed_tests}
use Rattle.picture.specs.declared.panels.Panel.{Panel}
use Rattle.picture.specs.declared.panels.Drawn.{Drawn}
use Rattle.picture.specs.declared.sections.BoundMark.{BoundMark}
use Rattle.picture.specs.Panels.{below, column, lanes_panel, scaled, wires_panel}
use Rattle.picture.specs.Marks.{bus_texts, label_at, label_end, test_texts}
use Rattle.picture.specs.Scale.{scale_text}
use Rattle.picture.specs.Rectangles.{bus_wires, by_start, is_self, lane_ends, laned, wired}

-- ---- the head

abbrev pub style_text : List ℕ
style_text =
    codes "<style>\nrect{stroke:#333;stroke-width:.5}\n.a{fill:#fff3c4}.b{fill:#cde7cd}.c{fill:#a9c6e8}.d{fill:#c79fc6}\n" ++
    codes ".w{fill:#fff;stroke:#999}.p{fill:#ddd;stroke:#333;stroke-width:.5}.l{stroke:#000;stroke-dasharray:4 3}\n" ++
    codes ".g{stroke:#000;stroke-opacity:.2;pointer-events:none}\n" ++
    codes "text{fill:#111;pointer-events:none}.m{text-anchor:middle}.e{text-anchor:end}\n</style>\n"

-- of a picture of such a height
unfoldable pub head_text : (height : ℕ) → List ℕ
head_text height =
    codes "<svg xmlns='http://www.w3.org/2000/svg' width='1140' height='" ++ (decimal height ++
    (codes "' viewBox='0 0 1140 " ++ (decimal height ++
    (codes "' font-family='sans-serif' font-size='10'>\n" ++ (style_text ++
    (codes "<rect class='w' width='1140' height='" ++ (decimal height ++ codes "'/>\n")))))))

-- the frame of the wires
unfoldable pub frame_text : Panel → List ℕ
frame_text p = codes "<rect class='w' x='120' y='40' width='1000' height='"
    ++ (decimal p.height ++ (codes "'><title>wires " ++ (decimal p.rows ++ codes "</title></rect>\n")))

-- ---- the wires and the lanes

unfoldable pub wires_text : SocValue → Panel → List (ℕ × ℕ) → List PlacedTest → List ℕ
wires_text soc p buses tests = bus_texts p 0 buses ++ test_texts soc p (wired buses tests)

abbrev pub lanes_name : (lanes top : ℕ) → List ℕ
lanes_name lanes top = if nat_eq lanes 0 then [] else label_at (codes "e") 114 (top + 12) ++ codes "self tests</text>\n"

unfoldable pub lanes_text : SocValue → Panel → List Drawn → List ℕ
lanes_text soc p drawn = lanes_name p.rows p.top ++ test_texts soc p drawn

-- ---- what is drawn

-- where a load stands, up to 100 units below the line of the limit at `top`
abbrev pub load_line : (top load most : ℕ) → ℕ
load_line top load most = top + (100 - scaled load most 100)

-- a load from a cycle on
abbrev pub step_text : (top cycles most : ℕ) → ℕ × ℕ → List ℕ
step_text top cycles most s = codes "H" ++ (decimal (column s.0 cycles) ++ (codes "V" ++ decimal (load_line top s.1 most)))

-- the steps of a load over `cycles` cycles
unfoldable pub load_text : (top cycles most : ℕ) → List (ℕ × ℕ) → List ℕ
load_text top cycles most steps =
    codes "<path class='p' d='M120 " ++ (decimal (top + 100) ++ (flat_map (step_text top cycles most) steps ++ codes "'/>\n"))

-- the limit
unfoldable pub limit_text : (top most : ℕ) → List ℕ
limit_text top most =
    codes "<path class='l' d='M120 " ++ (decimal top ++ (codes "H1120'/>\n" ++
    (label_at (codes "e") 114 (top + 4) ++ (codes "power limit</text>\n" ++
    (label_at (codes "e") 114 (top + 16) ++ (decimal most ++ (label_end ++
    (label_at (codes "e") 114 (top + 100) ++ codes "0</text>\n"))))))))

unfoldable pub power_text : (top cycles : ℕ) → Option ℕ → List (ℕ × ℕ) → List ℕ
power_text top cycles None steps = []
power_text top cycles (Some most) steps = load_text top cycles most steps ++ limit_text top most

-- ---- the last cycle and the bound

-- the number of the bound stands on the side of its line that has more room
abbrev pub bound_side : (x : ℕ) → List ℕ
bound_side x = if nat_le 620 x then label_at (codes "e") (x - 4) 32 else label_at (codes "s") (x + 4) 32

-- the words before that number: which bound it is, that of the plan or the claim of a proof
abbrev pub bound_words : (of_proof : Bool) → List ℕ
bound_words of_proof = if of_proof then codes "bound by proof " else codes "bound "

unfoldable pub bound_text : (x : ℕ) → BoundMark → List ℕ
bound_text x mark = bound_side x ++ (bound_words mark.of_proof ++ (decimal mark.cycles ++ label_end))

-- that of the bound at a place, both down to the end of the picture
unfoldable pub lines_at : (x cycles : ℕ) → BoundMark → (bottom : ℕ) → List ℕ
lines_at x cycles mark bottom =
    codes "<path class='l' d='M1120 16V" ++ (decimal bottom
    ++ (codes "M" ++ (decimal x ++ (codes " 32V" ++ (decimal bottom ++ (codes "'/>\n" ++
    (label_at (codes "e") 1116 16 ++ (codes "cycles " ++ (decimal cycles ++ (label_end ++ bound_text x mark))))))))))

abbrev pub lines_text : (cycles : ℕ) → BoundMark → (bottom : ℕ) → List ℕ
lines_text cycles mark bottom = lines_at (column mark.cycles cycles) cycles mark bottom

-- ---- the whole

-- the self tests by their starts
abbrev pub self_tests : SocValue → PlanValue → List PlacedTest
self_tests soc plan = by_start plan.cycles (filter is_self (placed_tests soc plan))

-- the panel of their lanes
abbrev pub lanes_of : SocValue → LimitsValue → PlanValue → Panel
lanes_of soc limits plan = lanes_panel plan.cycles limits.wires (length (lane_ends [] (self_tests soc plan)))

-- what the tests draw together, cycle by cycle
abbrev pub plan_steps : SocValue → LimitsValue → PlanValue → List (ℕ × ℕ)
plan_steps soc limits plan = load_steps (power_at limits (planned soc plan)) plan.cycles

-- where all that is drawn ends; without a limit on power, and without cycles, nothing is below the lanes
abbrev pub bottom_of : (end cycles : ℕ) → Option ℕ → ℕ
bottom_of end cycles None = end
bottom_of end cycles (Some most) = if nat_eq cycles 0 then end else end + 124

-- all but the frame, with the mark of a bound
unfoldable pub inner_text : SocValue → LimitsValue → PlanValue → BoundMark → List ℕ
inner_text soc limits plan mark =
    let lanes = lanes_of soc limits plan in
    let bottom = bottom_of (below lanes) plan.cycles limits.power in
    wires_text soc (wires_panel plan.cycles limits.wires) (bus_wires plan) (placed_tests soc plan) ++
    (lanes_text soc lanes (laned [] (self_tests soc plan)) ++
    (power_text (below lanes + 24) plan.cycles limits.power (plan_steps soc limits plan) ++
    (scale_text plan.cycles bottom ++ lines_text plan.cycles mark bottom)))

-- The frame, and in a plan of any cycles what is in it; the numbers of the scale have 24 units below all else.
abbrev pub picture_with : SocValue → LimitsValue → PlanValue → BoundMark → List ℕ
picture_with soc limits plan mark =
    head_text (bottom_of (below (lanes_of soc limits plan)) plan.cycles limits.power + 24) ++
    (frame_text (wires_panel plan.cycles limits.wires) ++
    ((if nat_eq plan.cycles 0 then [] else inner_text soc limits plan mark) ++ codes "</svg>\n"))

-- with the plan's own bound
abbrev pub picture_text : SocValue → LimitsValue → PlanValue → List ℕ
picture_text soc limits plan = picture_with soc limits plan (record { cycles = plan.bound.cycles; of_proof = false })

-- with the claim of a proof in its place
abbrev pub picture_of_claim : SocValue → LimitsValue → PlanValue → (claim : ℕ) → List ℕ
picture_of_claim soc limits plan claim = picture_with soc limits plan (record { cycles = claim; of_proof = true })
