-- Complete searches of a job find the same.
use Rattle.std.proofs.Common.{◌≡◌, inl, inr, ℕ, true, false, true≢false, List, [], ◌∷◌, length, map, refl, sym, ◌∙◌, ap, subst, arith}
use Rattle.std.proofs.lemmas.Bool.{cases_order, eq-eqb}
use Rattle.resource_table.specs.declared.Placement.{Placement}
use Rattle.resource_table.specs.Jobs.{JobValue}
use Rattle.schedule_search.specs.OrderCycles.{Takes}
use Rattle.schedule_search.specs.Walks.{goes_before, stands_before}
use Rattle.schedule_search.specs.Found.{HasStarts, IsFound}
use Rattle.schedule_search.proofs.CycleCounts.{same_placed}
use Rattle.schedule_search.proofs.Comparing.{other_way, differ_here}
use Rattle.schedule_search.proofs.Counting.{topological_long}

same_orders : (job : JobValue) (a b : List ℕ) → length a ≡ length b → stands_before job a b ≡ false → stands_before job b a ≡ false → a ≡ b
same_orders job [] [] long one other = refl
same_orders job [] (y ∷ b) long one other = absurd (omega (arith, long))
same_orders job (x ∷ a) [] long one other = absurd (omega (arith, long))
same_orders job (x ∷ a) (y ∷ b) long one other = elim (cases_order x y) [
  | inl same ↦
      let rest : a ≡ b = same_orders job a b (omega (arith, long)) (rw (eq-eqb x y same) at one) (rw (eq-eqb y x (sym same)) at other) in
      ap (λ (l : List ℕ). x ∷ l) rest ∙ ap (λ (n : ℕ). n ∷ b) same
  | inr apart ↦ elim apart [
    | inl less ↦
        let stays : goes_before job y x ≡ false = sym (differ_here job y x b a (λ e. omega (arith, e, less))) ∙ other in
        absurd (true≢false (sym (other_way job y x stays less) ∙ sym (differ_here job x y a b (λ e. omega (arith, e, less))) ∙ one))
    | inr more ↦
        let stays : goes_before job x y ≡ false = sym (differ_here job x y a b (λ e. omega (arith, e, more))) ∙ one in
        absurd (true≢false (sym (other_way job x y stays more) ∙ sym (differ_here job y x b a (λ e. omega (arith, e, more))) ∙ other))
  ]
]

takes_of : (job : JobValue) (order starts : List ℕ) (cycles : ℕ) → HasStarts job order starts cycles → Takes job order cycles
takes_of job order starts cycles has = record { placed = has.placed; in_order = has.in_order; list = has.list; ends = has.ends }

module _ (job : JobValue) (budget budget' : ℕ) (order starts order' starts' : List ℕ) (cycles cycles' : ℕ) (one : IsFound job budget order starts cycles true) (other : IsFound job budget' order' starts' cycles' true) where
  pub same_cycles : cycles ≡ cycles'
  same_cycles =
      let less = one.fewest refl order' cycles' other.topological (takes_of job order' starts' cycles' other.schedule) in
      let more = other.fewest refl order cycles one.topological (takes_of job order starts cycles one.schedule) in
      omega (arith, less, more)

  pub same_order : order ≡ order'
  same_order =
      same_orders job order order' (topological_long job order one.topological ∙ sym (topological_long job order' other.topological))
      (other.earliest refl order one.topological (subst (Takes job order) same_cycles (takes_of job order starts cycles one.schedule)))
      (one.earliest refl order' other.topological (subst (Takes job order') (sym same_cycles) (takes_of job order' starts' cycles' other.schedule)))

  pub same_starts : starts ≡ starts'
  same_starts =
      let a = one.schedule in
      let b = other.schedule in
      a.starts_are ∙ ap (map (λ (p : Placement). p.start)) (same_placed job a.placed b.placed (a.in_order ∙ same_order ∙ sym b.in_order) a.list b.list) ∙ sym b.starts_are
