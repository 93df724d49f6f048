use Rattle.std.proofs.Common.{codes, decimal, [], ◌∷◌, ◌++◌, ◌∙◌, sym, ap, length}
use Rattle.soc_model.specs.Chips.{module_value}
use Rattle.soc_printer.specs.SocText.{spaced, name_words, setup_words, terminal_words}
use Rattle.soc_printer.proofs.Pieces.{spaced-six}
use Rattle.soc_printer.proofs.push_module_words.Goals as goal
use Rattle.common_lemmas.proofs.Lists.{joined_after}
use Rattle.common_lemmas.proofs.Options.{on_ok}

pub returns : goal.returns
returns c =
    let m = module_value c.args.module.now in
    let number = decimal m.number ∷ [] in
    let name = name_words m.name in
    let level = codes "Level" ∷ decimal m.level ∷ [] in
    let terminals = terminal_words m in
    let setup = setup_words m.setup in
    let chains = codes "ScanChains" ∷ decimal (length m.chains) ∷ [] in
    let t0 = c.args.text.now.items in
    let t1 = c.push_count.new.text.items in
    let t2 = c.push_name.new.text.items in
    let t3 = c.push_entry.new.text.items in
    let t4 = c.push_terminals.new.text.items in
    let t5 = c.push_setup.new.text.items in
    let t6 = c.push_entry-2.new.text.items in
    let s5 = spaced setup ++ spaced chains in
    let s4 = spaced terminals ++ s5 in
    let s3 = spaced level ++ s4 in
    let s2 = spaced name ++ s3 in
    let named = c.in_ok-push_name.ensures ∙ ap (λ w. t1 ++ spaced (name_words w)) c.deref.ensures.value in
    on_ok c.push_entry-2.result
    (λ e.
    let last = e ∙ ap (λ n. t5 ++ spaced (codes "ScanChains" ∷ decimal n ∷ [])) (c.len.ensures ∙ c.args.module.now.chains.ok.0) in
    joined_after t0 t1 t6 (spaced number) s2 c.in_ok-push_count.ensures
    (joined_after t1 t2 t6 (spaced name) s3 named
    (joined_after t2 t3 t6 (spaced level) s4 c.in_ok-push_entry.ensures
    (joined_after t3 t4 t6 (spaced terminals) s5 c.in_ok-push_terminals.ensures
    (joined_after t4 t5 t6 (spaced setup) (spaced chains) c.in_ok-push_setup.ensures last))))
    ∙ ap (λ s. t0 ++ s) (sym (spaced-six number name level terminals setup chains)))
    c.push_entry-2.ensures
