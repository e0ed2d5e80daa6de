-- A shut brings back what stood when its level was opened.
use Rattle.std.proofs.Common.{◌≡◌, ℕ, zero, suc, ◌+◌, ◌-◌, ◌<◌, ◌≤◌, List, [], ◌∷◌, ◌++◌, length, take, None, sym, refl, ap, ◌∙◌, subst, inl, inr, arith}
use Rattle.std.proofs.lemmas.List.{take_at, take_all, length-append}
use Rattle.calls.specs.Calls.{Call, open_level, shut_level, level, allowed, Ledger, closed, refusal, step, unless_refused, ledger}
use Rattle.calls.specs.Standing.{call_at, OpenAt, Closes}
use Rattle.calls.specs.Laws.{ShutRestores}
use Rattle.calls.proofs.Falling.{under, under_push, under_all, under_closed, falls_last}
use Rattle.calls.proofs.InWords.{Did, nothing, allows, opens, shuts, did, open_back, next, good_at}

module _ (T E : ℕ) (cs : List Call) (o j : ℕ) (most : j < length cs) (c : Closes T E cs j o) (low : o < j) where
  -- what came before the open, as further calls come
  kept_under : (i : ℕ) → o ≤ i → i < j → under o (ledger T E (take (suc i) cs)) ≡ under o (ledger T E (take i cs))
  kept_under i l h = ap (under o) (next T E cs i (omega arith)) ∙ go (step T E i (ledger T E (take i cs)) (call_at cs i)) (did T E i (ledger T E (take i cs)) (call_at cs i)) (open_back T E cs o (suc i) j c.was_open (omega arith) h)
    where
      go : (k : Ledger) → Did T E i (ledger T E (take i cs)) (call_at cs i) k → OpenAt T E cs o (suc i) → under o k ≡ under o (ledger T E (take i cs))
      go _ (nothing u) w = refl
      go _ (allows e s b u v) w = under_push o (allowed i e s b) _ l
      go _ (opens u v) w = under_push o (level i) _ l
      go _ (shuts u v deep) (inl w) = absurd (let x : open_level ≡ shut_level = sym w.1.is ∙ u in let z : ◌≡◌ {A = ℕ} 0 1 = cc in omega arith)
      go _ (shuts u v deep) (inr w) =
          let q = w.1 (record { inside = omega arith; is = u; accepted = subst (λ z. refusal T E (ledger T E (take i cs)) z ≡ None) u v }) in
          let g = good_at T E cs i (omega arith) in
          under_closed i o q.0 (ledger T E (take i cs)) g.falls (g.open_level_in q.0 q.2) (omega (arith, q.1))

  still_under : (n : ℕ) → o + n ≤ j → under o (ledger T E (take (o + n) cs)) ≡ ledger T E (take o cs)
  still_under zero h = ap (λ k. under o (ledger T E (take k cs))) (let e : o + 0 ≡ o = omega arith in e) ∙ under_all o (ledger T E (take o cs)) (good_at T E cs o (omega arith)).falls
  still_under (suc n) h = ap (λ k. under o (ledger T E (take k cs))) (let e : o + suc n ≡ suc (o + n) = omega arith in e) ∙ kept_under (o + n) (omega arith) (omega arith) ∙ still_under n (omega arith)

  pub restored : ledger T E (take (suc j) cs) ≡ ledger T E (take o cs)
  restored =
      let l = ledger T E (take j cs) in
      let g = good_at T E cs j (omega arith) in
      let here = g.open_level_in o c.was_open in
      next T E cs j most
      ∙ ap (λ z. step T E j l z) c.shuts.is
      ∙ ap (λ z. unless_refused z (closed l) l) c.shuts.accepted
      ∙ sym (under_all o (closed l) (falls_last j o l g.falls here (λ q a. c.last q (g.level_open q a))))
      ∙ under_closed j o o l g.falls here (omega arith)
      ∙ ap (λ k. under o (ledger T E (take k cs))) (let e : j ≡ o + (j - o) = omega arith in e)
      ∙ still_under (j - o) (omega arith)

pub shut_restores : ShutRestores
shut_restores T E cs ds c =
    let all = cs ++ open_level ∷ (ds ++ shut_level ∷ []) in
    let n : length all ≡ suc (suc (length cs + length ds)) = omega (arith, length-append cs (open_level ∷ (ds ++ shut_level ∷ [])), length-append ds (shut_level ∷ [])) in
    sym (ap (ledger T E) (take_all (suc (suc (length cs + length ds))) all (omega arith)))
    ∙ restored T E all (length cs) (suc (length cs + length ds)) (omega arith) c (omega arith)
    ∙ ap (ledger T E) (take_at cs (open_level ∷ (ds ++ shut_level ∷ [])) (length cs) refl)
