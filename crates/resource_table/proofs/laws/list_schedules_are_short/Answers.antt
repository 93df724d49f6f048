use Rattle.resource_table.proofs.{Placed.each_front, Placed.sound_tests, Schedules.next_list, Schedules.short_list, Schedules.fits_short}
use Rattle.resource_table.specs.Schedules.{IsEarliest}
use Rattle.resource_table.proofs.laws.list_schedules_are_short.Goals as goal

pub returns : goal.returns
returns c = record {
  empty = (λ job n p at. absurd cc);
  next = next_list;
  front = (λ job placed rest list. each_front (λ earlier p. IsEarliest job earlier p.test p.start) placed rest list);
  short = (λ t sound list. short_list t.job t.placed sound.job (sound_tests t sound) list);
  fits = fits_short;
}
