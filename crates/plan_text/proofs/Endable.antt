-- Each state that words come to may still be ended.
use Rattle.std.proofs.Common.{◌≡◌, ℕ, true, [], ◌∷◌, ◌++◌, Some, refl, arith}
use Rattle.soc_model.specs.declared.TestId.{TestId}
use Rattle.plan_model.specs.declared.TheConstants.{PLAN_NUMBER_MOST}
use Rattle.plan_model.specs.Plans.{WrapperValue, OfModule, OfPair, OfChain, OfArea, OfForced, BoundValue}
use Rattle.keyword_text.specs.declared.tokens.Token.TheVariants.{Key}
use Rattle.keyword_text.specs.Machines.{MayEnd}
use Rattle.keyword_text.proofs.Endings.{ends_by_key, ends_by_number, ends_by_zero}
use Rattle.plan_text.specs.declared.tokens.Keyword.TheVariants as key
use Rattle.plan_text.specs.Steps.{DraftValue, PartValue, wants_plan, wants_form, wants_cycles_word, wants_cycles, after_cycles, wants_width, in_bus, wants_module, wants_mode, in_wrapper, wants_ins, wants_outs, in_chain, wants_test_module, wants_test, wants_start, after_start, wants_bound, wants_reason, wants_bound_module, wants_pair_module, in_tests, wants_test_of, in_forced, whole, State, at, with_bus, with_wrapper, with_start, with_chain, step, plan_with, bound_at, plan_machine}
use Rattle.plan_text.proofs.Complete.{ended_at}

-- words that make a state end in a whole plan
abbrev Ends : State → Type 0
Ends s = MayEnd plan_machine PLAN_NUMBER_MOST s

end_at : (d : DraftValue) (p : PartValue) (b : BoundValue) → bound_at p ≡ Some b → Ends (at d p)
end_at d p b e = record { more = []; small = tt; end = at d p; value = plan_with d b; runs = refl; ends = ended_at d p b e }

end_reason : (d : DraftValue) (b : ℕ) → Ends (at d (wants_reason b))
end_reason d b = ends_by_key _ (at d (whole (record { cycles = b; why = OfArea }))) key.Area refl (end_at d _ _ refl)

end_bound : (d : DraftValue) → Ends (at d wants_bound)
end_bound d = ends_by_zero _ (at d (wants_reason 0)) refl (end_reason d 0)

end_by_bound : (s : State) (d : DraftValue) → step s (Key key.Bound) ≡ Some (at d wants_bound) → Ends s
end_by_bound s d e = ends_by_key s (at d wants_bound) key.Bound e (end_bound d)

finish_mode : (d : DraftValue) (m : ℕ) → Ends (at d (wants_mode m))
finish_mode d m =
    let w : WrapperValue = record { «module» = m; scan = true; chains = [] } in
    ends_by_key _ (at d (in_wrapper w)) key.Scan refl (end_by_bound _ (with_wrapper d w) refl)

finish_start : (d : DraftValue) (t : TestId) → Ends (at d (wants_start t))
finish_start d t = ends_by_zero _ (at (with_start d t 0) after_start) refl (end_by_bound _ (with_start d t 0) refl)

finish_test : (d : DraftValue) (m : ℕ) → Ends (at d (wants_test m))
finish_test d m = ends_by_zero _ (at d (wants_start (record { «module» = m; test = 0 }))) refl (finish_start d (record { «module» = m; test = 0 }))

finish_cycles : (d : DraftValue) → Ends (at d wants_cycles)
finish_cycles d = ends_by_zero _ (at (record d { cycles = 0 }) after_cycles) refl (end_by_bound _ (record d { cycles = 0 }) refl)

finish_form : (d : DraftValue) → Ends (at d wants_form)
finish_form d = ends_by_number _ (at d wants_cycles_word) 1 (omega arith) refl (ends_by_key _ (at d wants_cycles) key.Cycles refl (finish_cycles d))

pub finish : (p : PartValue) (d : DraftValue) → Ends (at d p)
finish (whole b) d = end_at d (whole b) b refl
finish (in_tests b tests) d = end_at d (in_tests b tests) (record { cycles = b; why = OfChain tests }) refl
finish (in_forced b ms) d = end_at d (in_forced b ms) (record { cycles = b; why = OfForced ms }) refl
finish (wants_test_of b tests m) d = ends_by_zero _ (at d (in_tests b (tests ++ record { «module» = m; test = 0 } ∷ []))) refl (end_at d _ _ refl)
finish (wants_bound_module b) d = ends_by_zero _ (at d (whole (record { cycles = b; why = OfModule 0 }))) refl (end_at d _ _ refl)
finish (wants_pair_module b) d = ends_by_zero _ (at d (whole (record { cycles = b; why = OfPair 0 }))) refl (end_at d _ _ refl)
finish (wants_reason b) d = end_reason d b
finish wants_bound d = end_bound d
finish after_start d = end_by_bound _ d refl
finish (wants_start t) d = finish_start d t
finish (wants_test m) d = finish_test d m
finish wants_test_module d = ends_by_zero _ (at d (wants_test 0)) refl (finish_test d 0)
finish (in_chain w c) d = end_by_bound _ (with_wrapper d (with_chain w c)) refl
finish (wants_outs w i) d =
    ends_by_zero _ (at d (in_chain w (record { ins = i; scans = []; outs = 0 }))) refl
    (end_by_bound _ (with_wrapper d (with_chain w (record { ins = i; scans = []; outs = 0 }))) refl)
finish (wants_ins w) d =
    ends_by_zero _ (at d (wants_outs w 0)) refl
    (ends_by_zero _ (at d (in_chain w (record { ins = 0; scans = []; outs = 0 }))) refl
    (end_by_bound _ (with_wrapper d (with_chain w (record { ins = 0; scans = []; outs = 0 }))) refl))
finish (in_wrapper w) d = end_by_bound _ (with_wrapper d w) refl
finish (wants_mode m) d = finish_mode d m
finish wants_module d = ends_by_zero _ (at d (wants_mode 0)) refl (finish_mode d 0)
finish (in_bus b) d = end_by_bound _ (with_bus d b) refl
finish wants_width d = ends_by_zero _ (at d (in_bus (record { width = 0; modules = [] }))) refl (end_by_bound _ (with_bus d (record { width = 0; modules = [] })) refl)
finish after_cycles d = end_by_bound _ d refl
finish wants_cycles d = finish_cycles d
finish wants_cycles_word d = ends_by_key _ (at d wants_cycles) key.Cycles refl (finish_cycles d)
finish wants_form d = finish_form d
finish wants_plan d = ends_by_key _ (at d wants_form) key.Plan refl (finish_form d)
