-- A plan's run as a test bench in Verilog (IEEE 1364): the ports of a chip, a task for a cycle, then a call of it for each cycle.
use Rattle.std.specs.Prelude.{ℕ, ◌+◌, ◌-◌, List, [], ◌∷◌, ◌++◌, length, map, replicate, codes, decimal, nat_eq, if◌then◌else◌}
use Rattle.controls.specs.declared.Control.{Control}
use Rattle.cycle_texts.specs.Rows.{CycleRow}
use Rattle.tester_forms.specs.Pieces.{signal_name, where_some}

-- a text, where there are neither wires nor controls
abbrev pub where_none : (wires controls : ℕ) → List ℕ → List ℕ
where_none wires controls text = if nat_eq (wires + controls) 0 then text else []

-- ---- numbers and ranges

-- the range of so many bits, from the first on
unfoldable pub range : (count : ℕ) → List ℕ
range count = codes "[0:" ++ (decimal (count - 1) ++ codes "]")

-- what stands before the bits of a number of so many bits
abbrev pub size_mark : (count : ℕ) → List ℕ
size_mark count = decimal count ++ codes "'b"

-- a number of these bits
abbrev pub number : (bits : List ℕ) → List ℕ
number bits = size_mark (length bits) ++ bits

-- ---- signals and ports

-- a declaration of so many bits: what stands before the range and behind it
abbrev pub declared : (before : List ℕ) → (count : ℕ) → (behind : List ℕ) → List ℕ
declared before count behind = before ++ (range count ++ behind)

abbrev pub wire_signals : (wires : ℕ) → List ℕ
wire_signals wires =
    declared (codes "  reg ") wires (codes " wi;\n") ++ declared (codes "  wire ") wires (codes " wo;\n")

abbrev pub control_signals : (controls : ℕ) → List ℕ
control_signals controls = declared (codes "  reg ") controls (codes " control;\n")

-- the port of the control at a place, behind the line before it
abbrev pub control_port : (place : ℕ) → Control → List ℕ
control_port place x = codes ",\n    ." ++ (signal_name x ++ (codes "(control[" ++ (decimal place ++ codes "])")))

-- those of controls, of which the first has this place
abbrev pub control_ports : (place : ℕ) → List Control → List ℕ
control_ports place [] = []
control_ports place (x ∷ xs) = control_port place x ++ control_ports (place + 1) xs

-- up to the clock among the signals; from the counts to the clock among the ports; and the ports of the wires
abbrev pub opening : List ℕ
opening = codes "`timescale 1ns/1ns\nmodule bench;\n  reg clock;\n"

abbrev pub counts : List ℕ
counts = codes "  integer cycle, failed;\n  chip dut (\n    .clock(clock)"

abbrev pub wire_ports : List ℕ
wire_ports = codes ",\n    .wi(wi),\n    .wo(wo)"

-- the signals, and the chip with its ports; behind the last one stands no comma
unfoldable pub chip : (wires : ℕ) → List Control → List ℕ
chip wires controls =
    opening
    ++ (where_some wires (wire_signals wires)
    ++ (where_some (length controls) (control_signals (length controls))
    ++ (counts ++ (where_some wires wire_ports ++ (control_ports 0 controls ++ codes "\n  );\n")))))

-- ---- the task of a cycle

abbrev pub wire_inputs : (wires : ℕ) → List ℕ
wire_inputs wires =
    declared (codes "    input ") wires (codes " drive;\n")
    ++ (declared (codes "    input ") wires (codes " want;\n") ++ declared (codes "    input ") wires (codes " care;\n"))

abbrev pub control_inputs : (controls : ℕ) → List ℕ
control_inputs controls = declared (codes "    input ") controls (codes " controls;\n")

-- what the task takes
unfoldable pub inputs : (wires controls : ℕ) → List ℕ
inputs wires controls =
    codes "  task v;\n"
    ++ (where_some wires (wire_inputs wires)
    ++ (where_some controls (control_inputs controls) ++ where_none wires controls (codes "    input nothing;\n")))

-- what is said of a cycle that fails
abbrev pub failure : List ℕ
failure = codes "        $display(\"cycle %0d shows %b, wanted %b where %b\", cycle, wo, want, care);\n      end\n"

-- whether the wires are as they are wanted where one is compared
abbrev pub comparison : (wires : ℕ) → List ℕ
comparison wires =
    codes "      if (((wo ^ want) & care) !== "
    ++ (number (replicate wires 48) ++ (codes ") begin\n        failed = failed + 1;\n" ++ failure))

-- the clock rises and falls, and the cycle is over
abbrev pub clocking : List ℕ
clocking = codes "      #10 clock = 1;\n      #25 clock = 0;\n      #25 cycle = cycle + 1;\n    end\n  endtask\n"

-- what it does
unfoldable pub steps : (wires controls : ℕ) → List ℕ
steps wires controls =
    codes "    begin\n"
    ++ (where_some wires (codes "      wi = drive;\n")
    ++ (where_some controls (codes "      control = controls;\n")
    ++ (codes "      #40;\n" ++ (where_some wires (comparison wires) ++ clocking))))

-- the whole task
abbrev pub task : (wires controls : ℕ) → List ℕ
task wires controls = inputs wires controls ++ steps wires controls

-- ---- the text before the first cycle

-- of a plan with so many wires
unfoldable pub verilog_head : (wires : ℕ) → List Control → List ℕ
verilog_head wires controls =
    chip wires controls
    ++ (task wires (length controls) ++ codes "  initial begin\n    clock = 0;\n    cycle = 0;\n    failed = 0;\n")

-- ---- the line of a cycle

-- the bit that is wanted of a wire, 0 where none is compared; and 1 where one is
abbrev pub wanted_bit : ℕ → ℕ
wanted_bit mark = if nat_eq mark 48 then 48 else if nat_eq mark 49 then 49 else 48

abbrev pub care_bit : ℕ → ℕ
care_bit mark = if nat_eq mark 48 then 49 else if nat_eq mark 49 then 49 else 48

-- the three numbers of the wires
abbrev pub wire_numbers : (driven compared : List ℕ) → List ℕ
wire_numbers driven compared =
    number driven ++ (codes ", " ++ (number (map wanted_bit compared) ++ (codes ", " ++ number (map care_bit compared))))

-- the number of the controls, behind those of the wires
abbrev pub further_number : (controls : List ℕ) → List ℕ
further_number controls = where_some (length controls) (codes ", " ++ number controls)

-- the only number, where there are no wires
abbrev pub only_number : (controls : List ℕ) → List ℕ
only_number controls = if nat_eq (length controls) 0 then codes "1'b0" else number controls

-- what the task is called with
abbrev pub numbers : (driven compared controls : List ℕ) → List ℕ
numbers driven compared controls =
    if nat_eq (length driven) 0 then only_number controls else wire_numbers driven compared ++ further_number controls

unfoldable pub verilog_line : CycleRow → List ℕ
verilog_line row = codes "    v(" ++ (numbers row.driven row.compared row.controls ++ codes ");\n")

-- ---- the text behind the last cycle

abbrev pub verilog_tail : List ℕ
verilog_tail = codes "    $display(\"cycles %0d failed %0d\", cycle, failed);\n    $finish;\n  end\nendmodule\n"
