use Rattle.resource_table.proofs.{Placed.sound_tests, Schedules.sound_apart, Schedules.sound_power, Schedules.sound_order}
use Rattle.resource_table.proofs.laws.sound_tables_keep_the_rules.Goals as goal

pub returns : goal.returns
returns c = record {
  differ = (λ t i j p q sound less at at' same. (sound_tests t sound).differ i j p q less at at' same);
  inside = (λ t i p sound at. (sound_tests t sound).inside i p at);
  apart = sound_apart;
  power = sound_power;
  order = sound_order;
}
