-- Listed scan chains are counted one at a time, and marks begin clear.
use Rattle.std.proofs.Common.{◌≡◌, ℕ, ◌+◌, ◌≤◌, ◌<◌, List, cond, eqb, length, get_or, take, replicate, false, zero, suc, refl, arith, eq-eqb}
use Rattle.std.specs.List.{sum_by}
use Rattle.std.proofs.lemmas.List.{length-take-le, length-replicate}
use Rattle.std.proofs.lemmas.List.Sums.{sum_by_more_le}
use Rattle.plan_model.specs.declared.ChainPlan.{ChainPlan}
use Rattle.plan_model.specs.Listing.{times, listed_times, mark_at}

pub times_more : (c : ℕ) (xs : List ℕ) (i : ℕ) → i < length xs → get_or xs i 0 ≡ c → times c (take i xs) + 1 ≤ times c xs
times_more c xs i h e =
    let one : cond {A = ℕ} (eqb (get_or xs i 0) c) 1 0 ≡ 1 = rw (eq-eqb (get_or xs i 0) c e) refl in
    let le : times c (take i xs) + cond {A = ℕ} (eqb (get_or xs i 0) c) 1 0 ≤ times c xs = sum_by_more_le (λ x. cond (eqb x c) 1 0) xs i 0 h in
    omega (arith, le)

pub listed_more : (c : ℕ) (chains : List ChainPlan) (i : ℕ) (chain : ChainPlan) → i < length chains → get_or chains i chain ≡ chain → listed_times c (take i chains) + times c chain.scans.items ≤ listed_times c chains
listed_more c chains i chain h e =
    let le : sum_by (λ (chain : ChainPlan). times c chain.scans.items) (take i chains) + times c (get_or chains i chain).scans.items ≤ listed_times c chains = sum_by_more_le (λ (chain : ChainPlan). times c chain.scans.items) chains i chain h in
    rw e at le

pub clear_length : (n m : ℕ) → n ≤ m → length (take n (replicate m false)) ≡ n
clear_length n m h = length-take-le n (replicate m false) (omega (arith, length-replicate m false))

pub clear : (n m k : ℕ) → mark_at (take n (replicate m false)) k ≡ 0
clear zero m k = refl
clear (suc n) zero k = refl
clear (suc n) (suc m) zero = refl
clear (suc n) (suc m) (suc k) = clear n m k
