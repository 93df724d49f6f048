use Rattle.std.proofs.Common.{◌++◌, ◌∙◌, sym, ap, subst, ◌≡◌, length}
use Rattle.std.specs.List.{flat_map}
use Rattle.std.proofs.lemmas.List.{length-map}
use Rattle.soc_model.specs.Chips.{soc_value}
use Rattle.soc_model.proofs.Entries.{value_of}
use Rattle.soc_printer.specs.SocText.{name_line, total_line, options_line, module_text, soc_text}
use Rattle.soc_reader.specs.ChipForm.{SaysChip}
use Rattle.soc_printer.proofs.ReadBack.{says-printed}
use Rattle.soc_printer.proofs.print_soc.Goals as goal
use Rattle.common_lemmas.proofs.Lists.{joined_after}

printed : (c : goal.In_ok-push_modules) → c.push_modules.new.text.items ≡ soc_text (soc_value c.args.soc.now)
printed c =
    let soc = soc_value c.args.soc.now in
    let name = name_line soc.name in
    let total = total_line (length soc.modules) in
    let options = options_line soc.power_flag soc.xy_flag in
    let modules = flat_map module_text soc.modules in
    let t0 = c.new-text.result.items in
    let t1 = c.push_name_line.new.text.items in
    let t2 = c.push_total_line.new.text.items in
    let t3 = c.push_options_line.new.text.items in
    let t4 = c.push_modules.new.text.items in
    let named = c.in_ok-push_name_line.ensures ∙ ap (λ w. t0 ++ name_line w) c.deref.ensures.value in
    let counted = c.in_ok-push_total_line.ensures ∙ ap (λ n. t1 ++ total_line n) (c.len.ensures.len ∙ sym (length-map c.args.soc.now.modules.entries value_of)) in
    joined_after t0 t1 t4 name (total ++ (options ++ modules)) named
    (joined_after t1 t2 t4 total (options ++ modules) counted
    (joined_after t2 t3 t4 options modules c.in_ok-push_options_line.ensures c.in_ok-push_modules.ensures))
    ∙ ap (λ t. t ++ (name ++ (total ++ (options ++ modules)))) c.new-text.ensures.items

pub returns : goal.returns
returns c = record {
  printed = printed c;
  read_back = λ sound. subst (λ text. SaysChip text (soc_value c.args.soc.now)) (sym (printed c)) (says-printed (soc_value c.args.soc.now) sound);
}
