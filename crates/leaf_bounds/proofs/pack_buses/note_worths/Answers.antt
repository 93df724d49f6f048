use Rattle.std.proofs.Common.{◌≡◌, ◌+◌, ◌^◌, ◌<◌, ◌≤◌, ℕ, length, refl, ap, subst, ◌∙◌, arith, slice_index}
use Rattle.std.proofs.lemmas.List.{length-set}
use Rattle.plan_model.specs.Proofs.{pricing_value}
use Rattle.leaf_bounds.specs.Bases.{chip_of}
use Rattle.leaf_bounds.specs.PackLeaves.{ArePlaces}
use Rattle.leaf_bounds.specs.PackBuses.{IsLikeRank, bus_most}
use Rattle.leaf_bounds.proofs.LikeBuses.{like_kept, noted_more}
use Rattle.leaf_bounds.proofs.Priced.{item_within}
use Rattle.leaf_bounds.proofs.pack_buses.note_worths.Goals as goal

pub keep_for-requires-clause-places : goal.keep_for-requires-clause-places
keep_for-requires-clause-places c = λ item less.
    let within = item_within (pricing_value c.args.pricing.now) item c.requires.leaf.once (omega (arith, less, c.len-count.ensures)) in
    let place = ap (λ l. slice_index l item) c.deref.ensures.value ∙ c.requires.room.bus.places item (omega (arith, less, c.len-count.ensures)) in
    omega (arith, within, place, c.requires.leaf.setting.of.modules)

pub loop-more-init : goal.loop-more-init
loop-more-init c =
    let count : c.len-count.result ≡ length (pricing_value c.args.pricing.now).prices = omega (arith, c.len-count.ensures) in
    let places : ArePlaces (chip_of c.args.basis.now) (pricing_value c.args.pricing.now).prices (length (pricing_value c.args.pricing.now).prices) c.deref.result.now = λ k less. ap (λ l. slice_index l k) c.deref.ensures.value ∙ c.requires.room.bus.places k less in
    let room = c.requires.room in
    record {
      room = record { bus = room.bus; wires = room.wires; worth = room.worth; kept = c.keep_for.ensures.long ∙ room.kept };
      kept = like_kept c.args.case.now (pricing_value c.args.pricing.now) c.deref.result.now c.args.room.now.kept c.keep_for.new.kept c.requires.leaf.ready places c.requires.kept
          c.keep_for.ensures.rank
          (λ w n at. (let k = c.keep_for.ensures.kept w n at in
          (k.0, subst (λ m. IsLikeRank c.args.case.now c.args.weighed.now c.deref.result.now m c.args.room.now.kept.rank c.args.least.rank) count k.1)));
      rank = c.keep_for.ensures.rank;
      worths = λ k of d less. absurd (omega (arith, less));
      small = λ d less. absurd (omega (arith, less));
      wires = refl;
      work = refl;
      places = refl;
    }

pub loop-more-preserved : goal.loop-more-preserved
loop-more-preserved c =
    let within : c.loop-more.more < length c.kept_worth.new.room.worth.items = omega (arith, c.kept_worth.ensures.room.worth, c.loop-more-test.true, c.requires.width) in
    let at = λ (d : ℕ). ap (λ v. slice_index v.items d) c.kept_worth.ensures.noted in
    record {
      room = record {
        bus = c.kept_worth.ensures.room.bus;
        wires = c.kept_worth.ensures.room.wires;
        worth = length-set c.kept_worth.new.room.worth.items c.loop-more.more c.kept_worth.result ∙ c.kept_worth.ensures.room.worth;
        kept = c.kept_worth.ensures.room.kept;
      };
      kept = c.kept_worth.ensures.kept;
      rank = c.kept_worth.ensures.rank;
      worths = λ k of. noted_more (λ d n. n ≡ bus_most c.args.basis.now k (pricing_value c.args.pricing.now) c.args.least.rank (c.args.least.width + d)) c.kept_worth.new.room.worth.items c.loop-more.more c.kept_worth.result within
          (λ d less. at d ∙ c.loop-more.invariant.worths k of d less) (c.kept_worth.ensures.worth k of);
      small = noted_more (λ d n. n ≤ 10 ^ 18) c.kept_worth.new.room.worth.items c.loop-more.more c.kept_worth.result within
          (λ d less. (omega (arith, at d, c.loop-more.invariant.small d less))) c.kept_worth.ensures.small;
      wires = c.kept_worth.ensures.wires ∙ c.loop-more.invariant.wires;
      work = c.kept_worth.ensures.work ∙ c.loop-more.invariant.work;
      places = c.kept_worth.ensures.places ∙ c.loop-more.invariant.places;
    }
