use Rattle.std.proofs.Common.{◌∙◌, sym, map}
use Rattle.soc_model.specs.Chips.{soc_value}
use Rattle.limits_text.specs.Views.{item_of}
use Rattle.limits_text.proofs.Noting.{none_named}
use Rattle.limits_text.proofs.named.precedences_said.Goals as goal

pub returns-then-not-some_names_test : goal.returns-then-not-some_names_test
returns-then-not-some_names_test c =
    let none = none_named (soc_value c.args.soc.now) (map item_of c.args.list.now) (sym c.some_names_test.ensures ∙ c.if-not-some_names_test.true) in
    (none.0, c.new.ensures.items ∙ sym none.1)
