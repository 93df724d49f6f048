-- The parts of a chip one after another.
use Rattle.std.proofs.Common.{◌≡◌, ℕ, suc, ◌+◌, ◌<◌, List, [], ◌∷◌, ◌++◌, length, map, take, get_or, append_assoc, drop, drop-cons, Some, sym, ◌∙◌, ap, arith, slice_get}
use Rattle.std.proofs.lemmas.Grind.{flat_map-append}
use Rattle.std.proofs.lemmas.List.{append-nil, map-append, take_more, take-append-drop}
use Rattle.std.proofs.lemmas.Option.{slice_get_within, get_or_from_slice_get}
use Rattle.soc_model.specs.declared.Module.{Module}
use Rattle.soc_model.specs.declared.Soc.{Soc}
use Rattle.soc_model.specs.Chips.{ModuleValue, module_value, soc_value}
use Rattle.soc_model.proofs.Entries.{module-at}
use Rattle.tester_commands.specs.declared.parts.Part.{Part}
use Rattle.tester_commands.specs.DataParts.{part_value, part_text, parts_text, parts_in, parts_from}

drop_at : (ms : List ModuleValue) (i : ℕ) (m : ModuleValue) → slice_get ms i ≡ Some m → drop i ms ≡ m ∷ drop (i + 1) ms
drop_at ms i m at =
    let next : suc i ≡ i + 1 = omega arith in
    drop-cons ms i m (slice_get_within ms i m at) ∙ ap (λ x. x ∷ drop (suc i) ms) (get_or_from_slice_get ms i m m at) ∙ ap (λ n. m ∷ drop n ms) next

pub parts_next : (seed place : ℕ) (soc : Soc) (e : ℕ × Module) → slice_get soc.modules.entries place ≡ Some e →
    parts_from seed place (drop place (soc_value soc).modules) ≡ parts_in seed place (module_value e.1) 0 e.1.tests.items ++ parts_from seed (place + 1) (drop (place + 1) (soc_value soc).modules)
parts_next seed place soc e at = ap (parts_from seed place) (drop_at (soc_value soc).modules place (module_value e.1) (module-at soc.modules.entries place e at))

-- the text of a part more, and of the others
pub parts_more : (ps : List Part) (i : ℕ) (p : Part) → i < length ps → p ≡ get_or ps i p → parts_text (map part_value (take i ps)) ++ part_text (part_value p) ≡ parts_text (map part_value (take (i + 1) ps))
parts_more ps i p inside is =
    let more : take (i + 1) ps ≡ take i ps ++ p ∷ [] = take_more ps i p inside ∙ ap (λ x. take i ps ++ x ∷ []) (sym is) in
    ap (λ t. parts_text (map part_value (take i ps)) ++ t) (sym (append-nil (part_text (part_value p)))) ∙ sym (flat_map-append part_text (map part_value (take i ps)) (part_value p ∷ []))
    ∙ ap (λ vs. parts_text vs) (sym (map-append part_value (take i ps) (p ∷ []))) ∙ ap (λ xs. parts_text (map part_value xs)) (sym more)

pub parts_rest : (ps : List Part) (i : ℕ) (p : Part) → i < length ps → p ≡ get_or ps i p →
    parts_text (map part_value (take i ps)) ++ (part_text (part_value p) ++ parts_text (map part_value (drop (i + 1) ps))) ≡ parts_text (map part_value ps)
parts_rest ps i p inside is =
    sym (append_assoc (parts_text (map part_value (take i ps))) (part_text (part_value p)) (parts_text (map part_value (drop (i + 1) ps))))
    ∙ ap (λ t. t ++ parts_text (map part_value (drop (i + 1) ps))) (parts_more ps i p inside is)
    ∙ sym (flat_map-append part_text (map part_value (take (i + 1) ps)) (map part_value (drop (i + 1) ps)))
    ∙ ap (λ vs. parts_text vs) (sym (map-append part_value (take (i + 1) ps) (drop (i + 1) ps))) ∙ ap (λ xs. parts_text (map part_value xs)) (take-append-drop (i + 1) ps)
