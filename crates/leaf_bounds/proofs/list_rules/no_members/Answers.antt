use Rattle.std.proofs.Common.{◌≡◌, ◌∙◌, false, length, replicate, ap, rules}
use Rattle.std.proofs.lemmas.List.{length-map}
use Rattle.soc_model.specs.Chips.{LiveTest, live_tests}
use Rattle.leaf_bounds.specs.ListRules.{chip_ruled}
use Rattle.leaf_bounds.proofs.ListRows.{none_among}
use Rattle.leaf_bounds.proofs.list_rules.no_members.Goals as goal

pub returns : goal.returns
returns c =
    let count : c.len.result ≡ length c.args.rules.now.tams.items = search rules in
    let long = count ∙ ap length c.requires.tams ∙ length-map (live_tests (chip_ruled c.args.rules.now)) (λ (l : LiveTest). l.test.tam) in
    let made_among : c.in_ok-among.among.items ≡ replicate c.len.result false = search rules in
    record {
      among = made_among ∙ none_among (live_tests (chip_ruled c.args.rules.now)) long;
      powers = c.new.ensures.items;
    }
