use Rattle.std.proofs.Common.{◌≡◌, ◌∙◌, ◌*◌, ℕ, length, sym, ap, vec_len}
use Rattle.std.specs.Global.{Vec}
use Rattle.width_tree.proofs.check.TreeRoom.sized.Goals as goal

as_many : {X : Type 0} (v : Vec X) (count : ℕ) → vec_len v ≡ count → length v.items ≡ count
as_many v count is = sym v.ok.0 ∙ is

pub invariant_of-result : goal.invariant_of-result
invariant_of-result c =
    let modules = c.args.modules in
    let own = as_many c.in_ok-from_elem-4.field-0 modules c.in_ok-from_elem-4.ensures.len in (
      as_many c.in_ok-from_elem-3.field-0 c.in-Some.count c.in_ok-from_elem-3.ensures.len ∙ c.in-Some.ensures.1 ∙ ap (λ (n : ℕ). n * 256) (sym own),
      as_many c.in_ok-from_elem.field-0 modules c.in_ok-from_elem.ensures.len ∙ sym own,
      as_many c.in_ok-from_elem-2.field-0 modules c.in_ok-from_elem-2.ensures.len ∙ sym own,
      as_many c.in_ok-from_elem-5.field-0 modules c.in_ok-from_elem-5.ensures.len ∙ sym own,
    )
