-- The lines of `widths`, a width and a module at a time.
use Rattle.std.proofs.Common.{◌≡◌, ℕ, suc, ◌+◌, ◌-◌, ◌<◌, ◌≤◌, Some, List, [], ◌∷◌, ◌++◌, get_or, length, take, refl, sym, ap, ◌∙◌, arith, slice_get, flat_map}
use Rattle.std.proofs.lemmas.Grind.{flat_map-append}
use Rattle.std.proofs.lemmas.List.{take_more, append-nil, append_assoc}
use Rattle.std.proofs.lemmas.Option.{slice_get_within, get_or_from_slice_get}
use Rattle.soc_model.specs.Chips.{ModuleValue, SocValue}
use Rattle.width_table.specs.Times.{time}
use Rattle.width_table.specs.Tables.{TableValue, time_of}
use Rattle.plan_commands.specs.WidthsText.{width_line, lines_from, module_widths}

-- with a width left there is a line, and then the lines of the widths after it
pub next_line : (m : ModuleValue) (width wires : ℕ) → width ≤ wires → lines_from m width (wires + 1 - width) ≡ width_line m.number width (time m width) ++ lines_from m (width + 1) (wires + 1 - (width + 1))
next_line m width wires within =
    let is : wires + 1 - width ≡ suc (wires + 1 - (width + 1)) = omega (arith, within) in
    rw is refl

-- the lines of one module more
pub more_modules : (soc : SocValue) (wires place : ℕ) (m : ModuleValue) → slice_get soc.modules place ≡ Some m → flat_map (module_widths wires) (take (place + 1) soc.modules) ≡ flat_map (module_widths wires) (take place soc.modules) ++ module_widths wires m
more_modules soc wires place m at =
    let within : place < length soc.modules = slice_get_within soc.modules place m at in
    let is : get_or soc.modules place m ≡ m = get_or_from_slice_get soc.modules place m m at in
    ap (flat_map (module_widths wires)) (take_more soc.modules place m within) ∙ flat_map-append (module_widths wires) (take place soc.modules) (get_or soc.modules place m ∷ []) ∙ ap (λ n. flat_map (module_widths wires) (take place soc.modules) ++ flat_map (module_widths wires) (n ∷ [])) is
    ∙ ap (λ v. flat_map (module_widths wires) (take place soc.modules) ++ v) (append-nil (module_widths wires m))

-- the time that the table tells is that of the module
pub time_at : (table : TableValue) (place width : ℕ) (m : ModuleValue) → slice_get table.soc.modules place ≡ Some m → time_of table place width ≡ time m width
unfolding time_of
time_at table place width m at = rw at refl

-- one line more is appended
pub line_more : (m : ModuleValue) (wires width cycles : ℕ) (before now whole : List ℕ) → width ≤ wires → cycles ≡ time m width → now ≡ before ++ width_line m.number width cycles → before ++ lines_from m width (wires + 1 - width) ≡ whole →
    now ++ lines_from m (width + 1) (wires + 1 - (width + 1)) ≡ whole
line_more m wires width cycles before now whole within is put so_far =
    ap (λ v. v ++ lines_from m (width + 1) (wires + 1 - (width + 1))) (put ∙ ap (λ n. before ++ width_line m.number width n) is)
    ∙ append_assoc before (width_line m.number width (time m width)) (lines_from m (width + 1) (wires + 1 - (width + 1)))
    ∙ ap (λ v. before ++ v) (sym (next_line m width wires within)) ∙ so_far
