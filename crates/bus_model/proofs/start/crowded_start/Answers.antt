use Rattle.std.proofs.Common.{arith, ℕ, ◌≡◌, ◌∙◌, sym, ap, subst, refl, length, map, take, drop, ◌++◌, ◌∷◌, [], List, fold, get_or}
use Rattle.std.proofs.lemmas.List.{length-map, append-nil, take_more, append_assoc, take_all, take-append-drop, length-set}
use Rattle.std.proofs.lemmas.List.Sums.{fold_more}
use Rattle.bus_model.specs.Buses.{arch_value, quickest_of, bus_at}
use Rattle.bus_model.specs.Start.{one_wire, with_place, placed_on_quickest}
use Rattle.bus_model.proofs.Starts.{HoldsPlaces, holds_one_wire, holds_more, holds_sound, holds_sound_buses, start_of-crowded, listed_part}
use Rattle.bus_model.proofs.start.crowded_start.Goals as goal

first_is : (wires w : ℕ) (order first : List ℕ) → first ≡ take w order → w ≡ wires → first ≡ take wires order
first_is wires w order first e same = e ∙ ap (λ n. take n order) same

rest_is : (wires w : ℕ) (order rest : List ℕ) → rest ≡ drop w order → w ≡ wires → rest ≡ drop wires order
rest_is wires w order rest e same = e ∙ ap (λ n. drop n order) same

pub loop-place-init : goal.loop-place-init
loop-place-init c =
    let e : arch_value c.in_ok-arch.arch ≡ map one_wire c.split_at.result.0.now = c.in_ok-arch.ensures in
    let f = first_is c.args.table.now.wires c.wires.result c.args.order.now c.split_at.result.0.now c.split_at.ensures.front c.wires.ensures.value in
    let same : arch_value c.in_ok-arch.arch ≡ map one_wire (take c.args.table.now.wires c.args.order.now) = e ∙ ap (map one_wire) f in
    record {
      value = same;
      holds = rw append-nil (subst (HoldsPlaces (take c.args.table.now.wires c.args.order.now)) (sym same) (holds_one_wire (take c.args.table.now.wires c.args.order.now)));
      count = ap (λ xs. length xs) e ∙ (length-map c.split_at.result.0.now one_wire ∙ (c.split_at.ensures.front_len ∙ c.wires.ensures.value));
    }

pub put_on_quickest-requires-clause-buses : goal.put_on_quickest-requires-clause-buses
put_on_quickest-requires-clause-buses c =
    let r = rest_is c.args.table.now.wires c.wires.result c.args.order.now c.split_at.result.1.now c.split_at.ensures.back c.wires.ensures.value in
    holds_sound_buses c.args.table.now (take c.args.table.now.wires c.args.order.now ++ take c.loop-place.place-index c.split_at.result.1.now) (arch_value c.loop-place.arch)
    c.wires.ensures.table.some_wires
    (listed_part c.args.table.now c.args.order.now (take c.args.table.now.wires c.args.order.now) c.split_at.result.1.now c.loop-place.place-index c.requires.order.once refl r)
    c.loop-place.invariant.holds

pub loop-place-preserved : goal.loop-place-preserved
loop-place-preserved c =
    let rest = c.split_at.result.1.now in
    let first = take c.args.table.now.wires c.args.order.now in
    let place = get_or c.split_at.result.1.now c.loop-place.place-index 0 in
    let A = arch_value c.loop-place.arch in
    let new : arch_value c.put_on_quickest.new.arch ≡ placed_on_quickest c.args.table.now (arch_value c.loop-place.arch) (get_or c.split_at.result.1.now c.loop-place.place-index 0) = c.in_ok-put_on_quickest.ensures.value in
    let more = take_more rest c.loop-place.place-index 0 c.loop-place-test.true in
    let listed = ap (λ xs. first ++ xs) more ∙ sym (append_assoc first (take c.loop-place.place-index rest) (place ∷ [])) in
    record {
      value = new ∙ (ap (λ a. placed_on_quickest c.args.table.now a place) c.loop-place.invariant.value
          ∙ sym (fold_more (placed_on_quickest c.args.table.now) (map one_wire first) rest c.loop-place.place-index 0 c.loop-place-test.true));
      holds = subst (λ ps. HoldsPlaces ps (arch_value c.put_on_quickest.new.arch)) (sym listed)
          (subst (HoldsPlaces ((first ++ take c.loop-place.place-index rest) ++ place ∷ [])) (sym new)
          (holds_more (first ++ take c.loop-place.place-index rest) A (quickest_of c.args.table.now A) place c.loop-place.invariant.holds c.put_on_quickest.ensures.within));
      count = ap (λ xs. length xs) new ∙ (length-set A (quickest_of c.args.table.now A) (with_place (bus_at A (quickest_of c.args.table.now A)) place) ∙ c.loop-place.invariant.count);
    }

pub returns-clause-value : goal.returns-clause-value
returns-clause-value c =
    let rest = c.split_at.result.1.now in
    let r = rest_is c.args.table.now.wires c.wires.result c.args.order.now rest c.split_at.ensures.back c.wires.ensures.value in
    c.loop-place.invariant.value
    ∙ (ap (fold (placed_on_quickest c.args.table.now) (map one_wire (take c.args.table.now.wires c.args.order.now))) (take_all c.loop-place.place-index rest c.loop-place-test.false ∙ r)
    ∙ sym (start_of-crowded c.args.table.now c.args.order.now c.requires.room))

pub returns-clause-sound : goal.returns-clause-sound
returns-clause-sound c =
    let rest = c.split_at.result.1.now in
    let first = take c.args.table.now.wires c.args.order.now in
    let r = rest_is c.args.table.now.wires c.wires.result c.args.order.now rest c.split_at.ensures.back c.wires.ensures.value in
    let all : first ++ take c.loop-place.place-index rest ≡ c.args.order.now = ap (λ xs. first ++ xs) (take_all c.loop-place.place-index rest c.loop-place-test.false ∙ r) ∙ take-append-drop c.args.table.now.wires c.args.order.now in
    holds_sound c.args.table.now c.args.order.now (arch_value c.loop-place.arch) c.requires.order.once (let n = c.loop-place.invariant.count in omega arith)
    (subst (λ ps. HoldsPlaces ps (arch_value c.loop-place.arch)) all c.loop-place.invariant.holds)
