use Rattle.std.proofs.Common.{◌∙◌, map}
use Rattle.soc_model.specs.Chips.{soc_value}
use Rattle.limits_text.specs.Views.{item_of}
use Rattle.limits_text.proofs.BoundsSaid.{read_said, refused_said}
use Rattle.limits_text.proofs.Noting.{noted_said}
use Rattle.limits_text.proofs.read.read_bounds.Goals as goal

pub returns-in-Ok-clause-read : goal.returns-in-Ok-clause-read
returns-in-Ok-clause-read c =
    let soc = soc_value c.args.soc.now in
    let items = c.in_ok-items.items in
    let known = rw (c.deref.ensures.value ∙ c.list_of-list.ensures) at c.in-Ok.ensures.0 in
    let answers = rw c.list_of-list.ensures at c.bounds_of.ensures in
    read_said c.args.bytes.now soc items.second (map item_of items.list.items) c.in_ok-items.ensures known c.bounds_of.result answers

pub returns-in-Ok-clause-refused : goal.returns-in-Ok-clause-refused
returns-in-Ok-clause-refused c =
    let soc = soc_value c.args.soc.now in
    let items = c.in_ok-items.items in
    let known = rw (c.deref.ensures.value ∙ c.list_of-list.ensures) at c.in-Ok.ensures.0 in
    let answers = rw c.list_of-list.ensures at c.bounds_of.ensures in
    refused_said c.args.bytes.now soc items.second (map item_of items.list.items) c.in_ok-items.ensures known c.bounds_of.result answers

pub returns-in-Err-clause-refused : goal.returns-in-Err-clause-refused
returns-in-Err-clause-refused c =
    let soc = soc_value c.args.soc.now in
    let items = c.in_ok-items.items in
    let stops = rw (c.deref.ensures.value ∙ c.list_of-list.ensures) at c.in-Err.ensures in
    noted_said c.args.bytes.now soc items.second (map item_of items.list.items) c.in-Err.fault c.in_ok-items.ensures stops
