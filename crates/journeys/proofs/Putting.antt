-- What is left of a family when the sets of a chain's events are swept.
use Rattle.std.proofs.Common.{◌≡◌, ℕ, suc, ◌-◌, ◌<◌, ◌≤◌, Bool, true, false, List, map, length, replicate, sym, ap, ◌∙◌, subst, inl, inr, arith}
use Rattle.std.proofs.lemmas.Bool.{cases_Bool, both_ways}
use Rattle.std.proofs.lemmas.List.{ext_get_or, get_or-replicate}
use Rattle.minutes.specs.Minutes.{at}
use Rattle.relations.specs.ExactNarrowing.{of, named, kept, narrowed}
use Rattle.relations.specs.Conditions.{journey_met}
use Rattle.relations.proofs.Tabling.{named_place, place_named}
use Rattle.relations.proofs.Narrowing.{is_narrowed}
use Rattle.relations.specs.Tables.{Chain}
use Rattle.journeys.specs.Lengths.{no_way, swept, Put, Swept}
use Rattle.journeys.proofs.Recursion.{swept_cong}
use Rattle.journeys.proofs.Sweeping.{sweep_keeps}

module _ (T cap : ℕ) (fore chain before after row : List ℕ) (changed : Bool) (most : T ≤ 64) (small : cap < no_way) (c : Chain (length before) chain)
    (zeros : fore ≡ replicate 64 0) (p : Swept T cap fore chain before after row changed) where
  sets_are : swept T cap (at fore) (map (of before) chain) ≡ swept T cap (λ _. 0) (map (of before) chain)
  sets_are = swept_cong T cap (at fore) (λ _. 0) (map (of before) chain) (λ m l. ap (λ z. at z m) zeros ∙ get_or-replicate 64 m 0 0 (omega arith))

  put : Put chain (swept T cap (at fore) (map (of before) chain)) before after changed
  put = p.put

  nowhere : (n : ℕ) → named (suc n) chain ≡ false → (i : ℕ) → i < length chain → at chain i ≡ suc n → ⊥
  nowhere n k i l e = both_ways (named (suc n) chain) k (subst (λ z. named z chain ≡ true) e (place_named chain i l))

  pub put_narrowed : after ≡ narrowed T chain (journey_met T cap) before
  put_narrowed = is_narrowed T chain (journey_met T cap) before after put.len here (λ n h k. put.other n (nowhere n k))
    where
      here : (n : ℕ) → n < length before → named (suc n) chain ≡ true → at after n ≡ kept T chain (journey_met T cap) before (suc n) (at before n)
      here n h k =
          let r = named_place (suc n) chain k in
          let e : at chain r.0 - 1 ≡ n = omega (arith, r.2) in
          ap (at after) (sym e) ∙ put.here r.0 r.1 ∙ ap (λ l. at l r.0) sets_are
          ∙ sweep_keeps T cap chain before small c.apart r.0 r.1
          ∙ ap (λ z. kept T chain (journey_met T cap) before z (of before z)) r.2
          ∙ ap (λ z. kept T chain (journey_met T cap) before (suc n) (at before z)) (let q : suc n - 1 ≡ n = omega arith in q)

  pub put_changed : changed ≡ true → after ≡ before → ⊥
  put_changed e q = let m = put.moved e in m.2 (sym (put.here m.0 m.1) ∙ ap (λ l. at l (at chain m.0 - 1)) q)

  pub put_same : changed ≡ false → after ≡ before
  put_same e = ext_get_or 0 after before put.len (λ n h. elim (cases_Bool (named (suc n) chain)) [
    | inl k ↦
        let r = named_place (suc n) chain k in
        let w : at chain r.0 - 1 ≡ n = omega (arith, r.2) in
        ap (at after) (sym w) ∙ put.here r.0 r.1 ∙ put.still e r.0 r.1 ∙ ap (at before) w
    | inr k ↦ put.other n (nowhere n k)
  ])
