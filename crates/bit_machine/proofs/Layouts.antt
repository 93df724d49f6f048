-- The cells of a layout, and a bit for each, chain by chain.
use Rattle.std.proofs.Common.{◌≡◌, ℕ, zero, suc, ◌+◌, ◌<◌, Bool, false, List, [], ◌∷◌, ◌++◌, length, get_or, map, replicate, refl, ap, ◌∙◌, sym, arith, slice_index, flat_map, sum_by}
use Rattle.std.proofs.lemmas.List.{length-append, length-map, get_or-map}
use Rattle.std.proofs.lemmas.List.FromFn.{length-map-range_with_len}
use Rattle.std.proofs.lemmas.List.Sums.{sum_by-cons}
use Rattle.plan_model.specs.declared.ChainPlan.{ChainPlan}
use Rattle.plan_model.specs.Cells.{Cell, In, Flop, Out, in_cells, out_cells, flops, dealt}
use Rattle.plan_model.specs.Views.{chain_value}
use Rattle.vector_lines.specs.declared.layout.Layout.{Layout}
use Rattle.bit_machine.specs.Sessions.{zero_bits, IsLong}
use Rattle.vector_lines.specs.Layouts.{chain_of, chain_length, layout_cells}

-- ---- lengths

pub length-flops : (lengths scans : List ℕ) → length (flat_map (flops lengths) scans) ≡ sum_by (slice_index lengths) scans
length-flops lengths [] = refl
length-flops lengths (c ∷ cs) =
    let here = length-map-range_with_len (λ i. Flop c i) 0 (slice_index lengths c) in
    length-append (flops lengths c) (flat_map (flops lengths) cs) ∙ omega (arith, here, length-flops lengths cs, sum_by-cons (slice_index lengths) c cs)

pub length-flop : (lengths : List ℕ) (c : ℕ) → length (flops lengths c) ≡ slice_index lengths c
length-flop lengths c = length-map-range_with_len (λ i. Flop c i) 0 (slice_index lengths c)

pub length-ins : (i n : ℕ) → length (in_cells i n) ≡ n
length-ins i n = length-map-range_with_len (λ k. In k) i n

pub length-outs : (o n : ℕ) → length (out_cells o n) ≡ n
length-outs o n = length-map-range_with_len (λ k. Out k) o n

pub length-chain : (lengths : List ℕ) (i o : ℕ) (c : ChainPlan) → length (chain_of lengths i o (chain_value c)) ≡ chain_length lengths c
length-chain lengths i o c =
    length-append (in_cells i c.ins ++ flat_map (flops lengths) c.scans.items) (out_cells o c.outs)
    ∙ omega (arith, length-append (in_cells i c.ins) (flat_map (flops lengths) c.scans.items), length-ins i c.ins, length-flops lengths c.scans.items, length-outs o c.outs)

pub lengths-dealt : (lengths : List ℕ) (i o : ℕ) (cs : List ChainPlan) → map (λ (c : List Cell). length c) (dealt lengths i o (map chain_value cs)) ≡ map (chain_length lengths) cs
lengths-dealt lengths i o [] = refl
lengths-dealt lengths i o (c ∷ cs) =
    let here = length-chain lengths i o c in
    rw (here, lengths-dealt lengths (i + c.ins) (o + c.outs) cs) refl

-- ---- bits 0

pub zeros : (cells : List Cell) (n : ℕ) → length cells ≡ n → map (λ x. false) cells ≡ replicate n false
zeros [] zero same = refl
zeros [] (suc n) same = absurd (omega arith)
zeros (x ∷ cells) zero same = absurd (omega arith)
zeros (x ∷ cells) (suc n) same = ap (λ v. false ∷ v) (zeros cells n (omega arith))

pub zeros-dealt : (lengths : List ℕ) (i o : ℕ) (cs : List ChainPlan) → zero_bits (dealt lengths i o (map chain_value cs)) ≡ map (λ (c : ChainPlan). replicate (chain_length lengths c) false) cs
zeros-dealt lengths i o [] = refl
zeros-dealt lengths i o (c ∷ cs) =
    rw (zeros (chain_of lengths i o (chain_value c)) (chain_length lengths c) (length-chain lengths i o c), zeros-dealt lengths (i + c.ins) (o + c.outs) cs) refl

pub length-layout : (lengths : List ℕ) (i o : ℕ) (cs : List ChainPlan) → length (dealt lengths i o (map chain_value cs)) ≡ length cs
length-layout lengths i o [] = refl
length-layout lengths i o (c ∷ cs) = ap suc (length-layout lengths (i + c.ins) (o + c.outs) cs)

-- ---- the bits of a layout

module _ (l : Layout) (bits : List (List Bool)) (long : IsLong l bits) where
  lengths_are : map (λ (b : List Bool). length b) bits ≡ map (chain_length l.lengths.items) l.chains.items
  lengths_are = long ∙ lengths-dealt l.lengths.items 0 0 l.chains.items

  pub length-bits : length bits ≡ length l.chains.items
  length-bits =
      sym (length-map bits (λ (b : List Bool). length b)) ∙ ap length lengths_are ∙ length-map l.chains.items (chain_length l.lengths.items)

  -- as many as the chain has cells
  pub length-bits_at : (j : ℕ) {c : ChainPlan} → j < length l.chains.items → get_or l.chains.items j c ≡ c →
      length (get_or bits j []) ≡ chain_length l.lengths.items c
  length-bits_at j {c} h at =
      let within : j < length bits = omega (arith, length-bits) in
      sym (get_or-map (λ (b : List Bool). length b) bits j [] 0 within) ∙ ap (λ ns. get_or ns j 0) lengths_are ∙ get_or-map (chain_length l.lengths.items) l.chains.items j c 0 h ∙ ap (chain_length l.lengths.items) at

-- zeros are as many
pub zeros-long : (l : Layout) → IsLong l (zero_bits (layout_cells l))
zeros-long l = by (layout_cells l)
  where
    by : (cells : List (List Cell)) → map (λ (b : List Bool). length b) (zero_bits cells) ≡ map (λ (c : List Cell). length c) cells
    by [] = refl
    by (c ∷ cells) = rw (length-map c (λ x. false), by cells) refl
