-- The parts of a picture's text: rectangles, labels, and what they say.
use Rattle.std.specs.Prelude.{ℕ, ◌+◌, ◌-◌, ◌*◌, ◌/◌, Bool, ◌&&◌, Option, None, Some, List, [], ◌∷◌, ◌++◌, length, nat_eq, nat_le, slice_get, codes, decimal, take, if◌then◌else◌}
use Rattle.std.specs.List.{flat_map}
use Rattle.outside.specs.Decimal.{dotted_numbers}
use Rattle.soc_model.specs.declared.TestId.{TestId}
use Rattle.soc_model.specs.Chips.{ModuleValue, SocValue}
use Rattle.live_tests.specs.declared.placed.PlacedTest.{PlacedTest}
use Rattle.picture.specs.declared.panels.Outline.{Outline}
use Rattle.picture.specs.declared.panels.Panel.{Panel}
use Rattle.picture.specs.declared.panels.Drawn.{Drawn}
use Rattle.picture.specs.Fills.{fill_of}
use Rattle.picture.specs.Panels.{outline_of}

-- the sides of a rectangle, behind the name of its class
unfoldable pub sides : Outline → List ℕ
sides o = codes "' x='" ++ (decimal o.x ++ (codes "' y='" ++ (decimal o.y
    ++ (codes "' width='" ++ (decimal o.width ++ (codes "' height='" ++ (decimal o.height ++ codes "'>")))))))

-- where a label of a class begins
unfoldable pub label_at : (class : List ℕ) → (x y : ℕ) → List ℕ
label_at class x y = codes "<text class='" ++ (class ++ (codes "' x='" ++ (decimal x ++ (codes "' y='" ++ (decimal y ++ codes "'>")))))

abbrev pub label_end : List ℕ
label_end = codes "</text>\n"

-- the middle of a stretch
abbrev pub middle : (from size : ℕ) → ℕ
middle from size = from + size / 2

-- a line of text beside a row of such a height
abbrev pub is_high : Outline → Bool
is_high o = nat_le 12 o.height

-- ---- the names of modules

abbrev pub name_of : Option ModuleValue → List ℕ
name_of None = []
name_of (Some m) = m.name

-- the name of the module at a place, empty where it has none
unfoldable pub name_at : SocValue → (place : ℕ) → List ℕ
name_at soc place = name_of (slice_get soc.modules place)

-- a byte in the text of an element of XML, where `&`, `<` and `>` have meanings of their own
abbrev pub escaped : ℕ → List ℕ
escaped b = if nat_eq b 38 then codes "&amp;" else if nat_eq b 60 then codes "&lt;" else if nat_eq b 62 then codes "&gt;" else b ∷ []

-- as much of a name as is shown: of more than 64 characters the first 61, and three points
unfoldable pub shown : (name : List ℕ) → List ℕ
shown name = if nat_le (length name) 64 then name else take 61 name ++ codes "..."

-- a name, as it is shown, behind a space; without a name nothing
unfoldable pub spaced_name : (name : List ℕ) → List ℕ
spaced_name name = if nat_eq (length name) 0 then [] else codes " " ++ flat_map escaped (shown name)

-- ---- tests

-- how many characters the number of a module, a dot and the number of a test are
abbrev pub id_size : TestId → ℕ
id_size id = length (decimal id.module) + length (decimal id.test) + 1

-- a text of this number of characters has room, at seven units each
abbrev pub has_room : Outline → (characters : ℕ) → Bool
has_room o characters = nat_le (7 * characters) o.width && is_high o

-- the name of a fill, `a` to `d`
abbrev pub fill_name : (fill : ℕ) → List ℕ
fill_name fill = (97 + fill) ∷ []

-- what the picture says of a test: its module, with the name of that, and its number, the cycle at which it starts, and the first one
-- after it
unfoldable pub title_text : (name : List ℕ) → PlacedTest → List ℕ
title_text name t = codes "<title>module " ++ (decimal t.id.module
    ++ (spaced_name name ++ (codes ", test " ++ (decimal t.id.test
    ++ (codes ": start " ++ (decimal t.start ++ (codes ", end " ++ (decimal t.end ++ codes "</title></rect>\n"))))))))

-- the rectangle of a test
unfoldable pub box_text : Outline → (fill : ℕ) → (name : List ℕ) → PlacedTest → List ℕ
box_text o fill name t = codes "<rect class='" ++ (fill_name fill ++ (sides o ++ title_text name t))

-- its label
unfoldable pub test_label : Outline → TestId → (name : List ℕ) → List ℕ
test_label o id name = label_at (codes "m") (middle o.x o.width) (middle o.y o.height + 4)
    ++ (dotted_numbers id.module id.test ++ (spaced_name name ++ label_end))

-- with the name of its module, or without, as there is room
unfoldable pub label_text : Outline → TestId → (name : List ℕ) → List ℕ
label_text o id name =
    if has_room o (id_size id + 1 + length (shown name)) then test_label o id name
    else if has_room o (id_size id) then test_label o id [] else []

-- the test of a module of that name
abbrev pub named_test : Outline → (fill : ℕ) → (name : List ℕ) → PlacedTest → List ℕ
named_test o fill name t = box_text o fill name t ++ label_text o t.id name

-- one of these rectangles
abbrev pub test_text : SocValue → Panel → List Drawn → Drawn → List ℕ
test_text soc p drawn d = named_test (outline_of p d.rectangle) (fill_of drawn d) (name_at soc d.test.place) d.test

abbrev pub test_texts : SocValue → Panel → List Drawn → List ℕ
test_texts soc p drawn = flat_map (test_text soc p drawn) drawn

-- ---- buses

-- the place of a bus, and how many wires it has
unfoldable pub bus_label : (place wires : ℕ) → List ℕ
bus_label place wires =
    codes "bus " ++ (decimal place ++ (codes ", " ++ (decimal wires ++ (if nat_eq wires 1 then codes " wire" else codes " wires"))))

-- the frame of a bus, and beside it its label, where there is room
unfoldable pub bus_frame : Outline → (place wires : ℕ) → List ℕ
bus_frame o place wires = codes "<rect class='w" ++ (sides o ++ (codes "<title>" ++ (bus_label place wires ++ codes "</title></rect>\n")))

unfoldable pub bus_name : Outline → (place wires : ℕ) → List ℕ
bus_name o place wires =
    if is_high o then label_at (codes "e") 114 (middle o.y o.height + 4) ++ (bus_label place wires ++ label_end) else []

-- that of the bus at a place, over all cycles
abbrev pub bus_text : Panel → (place : ℕ) → (wires : ℕ × ℕ) → List ℕ
bus_text p place wires =
    let o = outline_of p (record { start = 0; end = p.cycles; first = wires.0; last = wires.1 }) in
    bus_frame o place (wires.1 - wires.0) ++ bus_name o place (wires.1 - wires.0)

abbrev pub bus_texts : Panel → (place : ℕ) → List (ℕ × ℕ) → List ℕ
bus_texts p place [] = []
bus_texts p place (b ∷ bs) = bus_text p place b ++ bus_texts p (place + 1) bs
