use Rattle.std.proofs.Common.{◌∙◌}
use Rattle.std.{proofs.lemmas.List.length-map}
use Rattle.resource_table.specs.Jobs.{test_value}
use Rattle.resource_table.proofs.empty_times.empty_times.Goals as goal

pub returns : goal.returns
returns c =
    let latest = c.in_ok-latest in
    record {
      buses = c.in_ok-buses.ensures;
      modules = c.in_ok-modules.ensures;
      children = c.in_ok-children.ensures;
      latest = latest.ensures.ends ∙ c.len.ensures ∙ c.in_ok-children.children.ok.0;
      before = latest.ensures.before;
      room = rw (length-map c.args.tests.now test_value) latest.ensures.room;
    }
