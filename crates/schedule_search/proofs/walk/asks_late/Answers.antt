use Rattle.std.proofs.Common.{◌≡◌, ◌∙◌, ◌<◌, false, length, map, sym, subst, arith}
use Rattle.std.proofs.lemmas.List.{length-map}
use Rattle.resource_table.specs.Jobs.{JobValue, test_value}
use Rattle.resource_table.specs.Schedules.{is_placed}
use Rattle.schedule_search.proofs.Bests.{followers_unplaced}
use Rattle.schedule_search.proofs.walk.asks_late.Goals as goal

pub ends_late-requires-clause-asked : goal.ends_late-requires-clause-asked
ends_late-requires-clause-asked g c =
    let inside : c.args.test < length (map test_value c.args.job.now.tests.items) = (let less = c.if-test-len.false in omega (arith, less, c.len.ensures, c.args.job.now.tests.ok.0, length-map c.args.job.now.tests.items test_value)) in
    let unplaced : is_placed c.args.table.now.placed c.args.test ≡ false = sym c.is_placed.ensures.placed ∙ c.if-is_placed.false in
    record {
      sound = c.requires.sound;
      in_job = subst (λ (j : JobValue). c.args.test < length j.tests) (sym c.requires.job) inside;
      unplaced = unplaced;
      followers = followers_unplaced c.args.table.now c.args.test c.requires.sound unplaced;
    }

pub returns-clause-late : goal.returns-clause-late
returns-clause-late g c = λ yes'.
    let inside : c.args.test < length (map test_value c.args.job.now.tests.items) = (let less = c.if-test-len.false in omega (arith, less, c.len.ensures, c.args.job.now.tests.ok.0, length-map c.args.job.now.tests.items test_value)) in
    record {
      test = c.args.test;
      in_job = subst (λ (j : JobValue). c.args.test < length j.tests) (sym c.requires.job) inside;
      unplaced = sym c.is_placed.ensures.placed ∙ c.if-is_placed.false;
      late = c.ends_late.ensures.late yes';
    }
