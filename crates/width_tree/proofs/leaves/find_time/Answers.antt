use Rattle.std.proofs.Common.{ℕ, ◌<◌, Some, ◌∙◌, ap, sym, subst, is_some}
use Rattle.width_tree.specs.Tables.{chip_of}
use Rattle.width_tree.proofs.WidthFacts.{place_within, time_shown}
use Rattle.width_tree.proofs.leaves.find_time.Goals as goal

pub returns-in-Some : goal.returns-in-Some
returns-in-Some c =
    let here = sym c.in-Some.ensures in
    (ap is_some here, ap Some (time_shown c.args.table.now c.args.intervals.now c.args.«module» c.in-Some.place c.from.result c.from-in-Some.result c.requires.table c.requires.intervals here (c.from.ensures ∙ c.tam_time-time.ensures) c.from-in-Some.ensures))

pub bounds-table-place : goal.bounds-table-place
bounds-table-place c =
    subst (λ (n : ℕ). c.in-Some.place < n) (sym c.requires.table.own_long) (place_within (chip_of c.args.table.now) c.requires.table.sound c.args.«module» c.in-Some.place (sym c.in-Some.ensures))
