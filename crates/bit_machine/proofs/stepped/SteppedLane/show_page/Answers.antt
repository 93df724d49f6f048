use Rattle.std.proofs.Common.{◌≡◌, ◌∙◌, ℕ, Some, List, length, ap, sym, subst, arith, slice_get, slice_index}
use Rattle.std.specs.Vec.{with_items}
use Rattle.std.proofs.lemmas.List.{with_items_is}
use Rattle.std.proofs.lemmas.Option.{same_Some}
use Rattle.bit_machine.specs.Lanes.{IsPageWord}
use Rattle.bit_machine.specs.declared.stepped.Page.{Page}
use Rattle.vector_lines.specs.declared.path.Path.{Path}
use Rattle.bit_machine.proofs.LaneSteps.{page_word}
use Rattle.bit_machine.proofs.stepped.SteppedLane.show_page.Goals as goal

pub returns-clause-pages : goal.returns-clause-pages
returns-clause-pages c =
    let s = c.args.self.now in
    let items = with_items_is s.pages c.fill_words.new.words (omega (arith, c.fill_words.auto.words, ap length c.deref_mut.ensures.value, s.pages.ok.0)) in
    record {
      many = ap length items ∙ c.fill_words.ensures.many ∙ ap length c.deref.ensures.value;
      each = λ page is. subst
          (λ (page : Page). (j : ℕ) (p : Path) → slice_get s.lane.paths.items j ≡ Some p → IsPageWord s.lane.key page p.loads (slice_index (with_items s.pages c.fill_words.new.words).items j)) (same_Some _ _ is)
          (λ j p at. subst (λ words. IsPageWord s.lane.key c.args.page p.loads (slice_index words j)) (sym items)
          (page_word c.of-line.result s.lane.key c.args.page p.loads (slice_index c.fill_words.new.words j) c.of-line.ensures.bits
          (c.fill_words.ensures.words j p (subst (λ (paths : List Path). slice_get paths j ≡ Some p) (sym c.deref.ensures.value) at))));
    }
