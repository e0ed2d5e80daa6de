-- The ledger has what the words say.
use Rattle.std.proofs.Common.{◌≡◌, ℕ, zero, suc, ◌<◌, ◌≤◌, Bool, eqb, List, [], ◌∷◌, length, take, Some, None, Option, sym, refl, ap, ◌∙◌, subst, inl, inr, add-one, arith}
use Rattle.std.proofs.lemmas.Bool.{cases_lt, cases_Bool, cond-true, eqb-false}
use Rattle.std.proofs.lemmas.List.{take_more, take_all, length-take-le}
use Rattle.refusals.specs.declared.Refusal.{Refusal}
use Rattle.calls.specs.Calls.{Call, allow, open_level, shut_level, left, find, level, allowed, Ledger, closed, levels_of, refusal, done, step, unless_refused, ledger}
use Rattle.calls.specs.Standing.{call_at, Takes, OpenAt, Closes}
use Rattle.calls.specs.Laws.{Among, LedgersRight}
use Rattle.calls.proofs.Lists.{ledger_push}
use Rattle.calls.proofs.Falling.{Falls, falls_more, falls_closed, falls_one, level_is, level_not, levels_under, closed_last, closed_keeps, last_level}

-- what a call does to a ledger
pub data Did (T E n : ℕ) (l : Ledger) (c : Call) : Ledger → Type 0 where
  nothing : (refusal T E l c ≡ None → (c ≡ open_level → ⊥) × (c ≡ shut_level → ⊥) × ((e s : ℕ) → c ≡ allow e s → ⊥)) → Did T E n l c l
  allows : (e s : ℕ) (b : Bool) → c ≡ allow e s → refusal T E l c ≡ None → Did T E n l c (allowed n e s b ∷ l)
  opens : c ≡ open_level → refusal T E l c ≡ None → Did T E n l c (level n ∷ l)
  shuts : c ≡ shut_level → refusal T E l c ≡ None → 0 < levels_of l → Did T E n l c (closed l)

some_none : (r : Refusal) → Some r ≡ None → ⊥
some_none r e = let z : ◌≡◌ {A = ℕ} 0 1 = cc in omega arith

module _ (T E n : ℕ) (l : Ledger) where
  refused : (c : Call) (r : Refusal) → refusal T E l c ≡ Some r → Did T E n l c l
  refused c r e = nothing (λ u. absurd (some_none r (sym e ∙ u)))

  some_level : refusal T E l shut_level ≡ None → 0 < levels_of l
  some_level h = elim (cases_Bool (eqb (levels_of l) 0)) [
    | inl t ↦ absurd (some_none _ (sym (cond-true (eqb (levels_of l) 0) _ _ t) ∙ h))
    | inr f ↦ omega (arith, eqb-false (levels_of l) 0 f)
  ]

  did_by : (c : Call) (x : Option Refusal) → refusal T E l c ≡ x → Did T E n l c (unless_refused x (done T E n l c) l)
  did_by (allow e s) None h = allows e s _ refl h
  did_by open_level None h = opens refl h
  did_by shut_level None h = shuts refl h (some_level h)
  did_by (left m e w) None h = nothing (λ _. ((λ u. let z : ◌≡◌ {A = ℕ} 0 1 = cc in omega arith), (λ u. let z : ◌≡◌ {A = ℕ} 0 1 = cc in omega arith), λ v t u. let z : ◌≡◌ {A = ℕ} 0 1 = cc in omega arith))
  did_by (find m f b p w) None h = nothing (λ _. ((λ u. let z : ◌≡◌ {A = ℕ} 0 1 = cc in omega arith), (λ u. let z : ◌≡◌ {A = ℕ} 0 1 = cc in omega arith), λ v t u. let z : ◌≡◌ {A = ℕ} 0 1 = cc in omega arith))
  did_by (allow e s) (Some r) h = refused (allow e s) r h
  did_by open_level (Some r) h = refused open_level r h
  did_by shut_level (Some r) h = refused shut_level r h
  did_by (left m e w) (Some r) h = refused (left m e w) r h
  did_by (find m f b p w) (Some r) h = refused (find m f b p w) r h

  pub did : (c : Call) → Did T E n l c (step T E n l c)
  did c = did_by c (refusal T E l c) refl

module _ (T E : ℕ) (cs : List Call) where
  -- an open level was opened before, and was open ever since
  pub open_below : (p i : ℕ) → OpenAt T E cs p i → p < i
  open_below p zero o = absurd o
  open_below p (suc i) (inl h) = omega (arith, h.0)
  open_below p (suc i) (inr h) = omega (arith, open_below p i h.0)

  pub open_back : (p i n : ℕ) → OpenAt T E cs p n → p < i → i ≤ n → OpenAt T E cs p i
  open_back p i zero o l h = absurd o
  open_back p i (suc n) (inl k) l h = elim (cases_lt n i) [
    | inl u ↦ let e : suc n ≡ i = omega arith in subst (OpenAt T E cs p) e (inl k)
    | inr u ↦ absurd (omega (arith, k.0))
  ]
  open_back p i (suc n) (inr k) l h = elim (cases_lt n i) [
    | inl u ↦ let e : suc n ≡ i = omega arith in subst (OpenAt T E cs p) e (inr k)
    | inr u ↦ open_back p i n k.0 l u
  ]

  -- an allow that stands after n calls
  pub record Kept (n i e s : ℕ) : Type 0 where
    pub first : i < n
    pub takes : Takes T E cs i (allow e s)
    pub kept : (j p : ℕ) → i < j → j < n → Closes T E cs j p → OpenAt T E cs p i → ⊥

  pub record Good (n : ℕ) (l : Ledger) : Type 0 where
    pub falls : Falls n l
    pub level_open : (p : ℕ) → Among (level p) l → OpenAt T E cs p n
    pub open_level_in : (p : ℕ) → OpenAt T E cs p n → Among (level p) l
    pub allow_kept : (i e s : ℕ) (b : Bool) → Among (allowed i e s b) l → Kept n i e s
    pub kept_in : (i e s : ℕ) → Kept n i e s → (b : Bool) × Among (allowed i e s b) l

  good_none : Good 0 []
  good_none = record { falls = tt; level_open = λ p a. absurd a; open_level_in = λ p o. absurd o; allow_kept = λ i e s b a. absurd a; kept_in = λ i e s k. absurd (omega (arith, k.first)) }

  module _ (n : ℕ) (l : Ledger) (inside : n < length cs) (is_l : ledger T E (take n cs) ≡ l) (good : Good n l) where
    taken : (c : Call) → call_at cs n ≡ c → refusal T E l (call_at cs n) ≡ None → Takes T E cs n c
    taken c e h = record { inside = inside; is = e; accepted = ap (λ k. refusal T E k c) is_l ∙ ap (refusal T E l) (sym e) ∙ h }

    accepted : (c : Call) → Takes T E cs n c → refusal T E l (call_at cs n) ≡ None
    accepted c t = ap (refusal T E l) t.is ∙ ap (λ k. refusal T E k c) (sym is_l) ∙ t.accepted

    -- a call that shuts nothing leaves the levels that were open, and what was kept
    module _ (no_shut : Takes T E cs n shut_level → ⊥) where
      still_open : (p : ℕ) → OpenAt T E cs p n → OpenAt T E cs p (suc n)
      still_open p o = inr (o, λ t. absurd (no_shut t))

      still_kept : (i e s : ℕ) → Kept n i e s → Kept (suc n) i e s
      still_kept i e s k = record {
        first = omega (arith, k.first);
        takes = k.takes;
        kept = λ j p u v c o. elim (cases_lt j n) [
          | inl w ↦ k.kept j p u w c o
          | inr w ↦ let q : j ≡ n = omega arith in no_shut (subst (λ z. Takes T E cs z shut_level) q c.shuts)
        ];
      }

    was_kept : (i e s : ℕ) → i < n → Kept (suc n) i e s → Kept n i e s
    was_kept i e s h k = record { first = h; takes = k.takes; kept = λ j p u v. k.kept j p u (omega arith) }

    was_open : (p : ℕ) → (Takes T E cs n open_level → ⊥) → OpenAt T E cs p (suc n) → OpenAt T E cs p n
    was_open p h (inl k) = absurd (h k.1)
    was_open p h (inr k) = k.0

    two_calls : (c d : Call) → Takes T E cs n c → call_at cs n ≡ d → d ≡ c
    two_calls c d t e = sym e ∙ t.is

    grow : (k : Ledger) → Did T E n l (call_at cs n) k → Good (suc n) k
    grow _ (nothing h) =
        let no_open : Takes T E cs n open_level → ⊥ = λ t. (h (accepted open_level t)).0 t.is in
        let no_shut : Takes T E cs n shut_level → ⊥ = λ t. (h (accepted shut_level t)).1 t.is in
        record {
          falls = falls_more n (suc n) l (omega arith) good.falls;
          level_open = λ p a. still_open no_shut p (good.level_open p a);
          open_level_in = λ p o. good.open_level_in p (was_open p no_open o);
          allow_kept = λ i e s b a. still_kept no_shut i e s (good.allow_kept i e s b a);
          kept_in = λ i e s k. elim (cases_lt i n) [
            | inl u ↦ good.kept_in i e s (was_kept i e s u k)
            | inr u ↦ let q : i ≡ n = omega (arith, k.first) in let t = subst (λ z. Takes T E cs z (allow e s)) q k.takes in absurd ((h (accepted (allow e s) t)).2 e s t.is)
          ];
        }
    grow _ (opens e a) =
        let t = taken open_level e a in
        let no_shut : Takes T E cs n shut_level → ⊥ = λ u. let w = two_calls shut_level open_level u e in let z : ◌≡◌ {A = ℕ} 0 1 = cc in omega arith in
        record {
          falls = (omega arith, good.falls);
          level_open = λ p b. elim b [ inl d ↦ inl (level_is p n d, t) | inr c ↦ still_open no_shut p (good.level_open p c) ];
          open_level_in = λ p o. elim o [ inl k ↦ inl (ap level k.0) | inr k ↦ inr (good.open_level_in p k.0) ];
          allow_kept = λ i v s b c. elim c [ inl d ↦ absurd (let z : ◌≡◌ {A = ℕ} 0 1 = cc in omega arith) | inr u ↦ still_kept no_shut i v s (good.allow_kept i v s b u) ];
          kept_in = λ i v s k. elim (cases_lt i n) [
            | inl u ↦ let r = good.kept_in i v s (was_kept i v s u k) in (r.0, inr r.1)
            | inr u ↦ let q : i ≡ n = omega (arith, k.first) in let w = two_calls (allow v s) open_level (subst (λ z. Takes T E cs z (allow v s)) q k.takes) e in absurd (let z : ◌≡◌ {A = ℕ} 0 1 = cc in omega arith)
          ];
        }
    grow _ (allows v s b e a) =
        let t = taken (allow v s) e a in
        let no_shut : Takes T E cs n shut_level → ⊥ = λ u. let w = two_calls shut_level (allow v s) u e in let z : ◌≡◌ {A = ℕ} 0 1 = cc in omega arith in
        let no_open : Takes T E cs n open_level → ⊥ = λ u. let w = two_calls open_level (allow v s) u e in let z : ◌≡◌ {A = ℕ} 0 1 = cc in omega arith in
        record {
          falls = (omega arith, good.falls);
          level_open = λ p c. elim c [ inl d ↦ absurd (let z : ◌≡◌ {A = ℕ} 0 1 = cc in omega arith) | inr u ↦ still_open no_shut p (good.level_open p u) ];
          open_level_in = λ p o. inr (good.open_level_in p (was_open p no_open o));
          allow_kept = λ i w r c x. elim x [
            | inl d ↦ let i_is : i ≡ n = cc in let c_is : allow v s ≡ allow w r = (let p : v ≡ w = cc in let q : s ≡ r = cc in λ k. allow (p k) (q k)) in
                record { first = omega arith; takes = subst (λ z. Takes T E cs z (allow w r)) (sym i_is) (subst (Takes T E cs n) c_is t); kept = λ j p f g. absurd (omega arith) }
            | inr u ↦ still_kept no_shut i w r (good.allow_kept i w r c u)
          ];
          kept_in = λ i w r k. elim (cases_lt i n) [
            | inl u ↦ let h = good.kept_in i w r (was_kept i w r u k) in (h.0, inr h.1)
            | inr u ↦ let q : i ≡ n = omega (arith, k.first) in let same = two_calls (allow w r) (allow v s) (subst (λ z. Takes T E cs z (allow w r)) q k.takes) e in
                let p : w ≡ v = cc in let g : r ≡ s = cc in (b, inl (λ j. allowed (q j) (p j) (g j) b))
          ];
        }
    grow _ (shuts e a deep) =
        let t = taken shut_level e a in
        let no_open : Takes T E cs n open_level → ⊥ = λ u. let w = two_calls open_level shut_level u e in let z : ◌≡◌ {A = ℕ} 0 1 = cc in omega arith in
        record {
          falls = falls_more n (suc n) (closed l) (omega arith) (falls_closed n l good.falls);
          level_open = λ p c. let r = closed_last n l (level p) good.falls c in
              inr (good.level_open p (levels_under l (level p) c), λ _. (r.0, r.1, good.level_open r.0 r.2));
          open_level_in = λ p o. elim o [
            | inl k ↦ absurd (no_open k.1)
            | inr k ↦ let q = k.1 t in closed_keeps n l (level p) q.0 good.falls (good.open_level_in p k.0) (good.open_level_in q.0 q.2) q.1
          ];
          allow_kept = λ i v s b c.
              let k = good.allow_kept i v s b (levels_under l (allowed i v s b) c) in
              let r = closed_last n l (allowed i v s b) good.falls c in
              record {
                first = omega (arith, k.first);
                takes = k.takes;
                kept = λ j p u w d o. elim (cases_lt j n) [
                  | inl x ↦ k.kept j p u x d o
                  | inr x ↦ let q : j ≡ n = omega arith in omega (arith, (subst (λ z. Closes T E cs z p) q d).last r.0 (good.level_open r.0 r.2), open_below p i o, r.1)
                ];
              };
          kept_in = λ i v s k. elim (cases_lt i n) [
            | inl u ↦ let r = good.kept_in i v s (was_kept i v s u k) in
                let top = last_level n l good.falls deep in
                elim (cases_lt i top.0) [
                  | inl w ↦ (r.0, closed_keeps n l (allowed i v s r.0) top.0 good.falls r.1 top.1 w)
                  | inr w ↦
                      let apart : top.0 ≡ i → ⊥ = λ h. level_not top.0 i v s r.0 (falls_one n l (level top.0) (allowed i v s r.0) good.falls top.1 r.1 h) in
                      absurd (k.kept n top.0 u (omega arith)
                      (record { shuts = t; was_open = good.level_open top.0 top.1; last = λ q o. top.2 q (good.open_level_in q o) })
                      (open_back top.0 i n (good.level_open top.0 top.1) (omega arith) (omega arith)))
                ]
            | inr u ↦ let q : i ≡ n = omega (arith, k.first) in let w = two_calls (allow v s) shut_level (subst (λ z. Takes T E cs z (allow v s)) q k.takes) e in absurd (let z : ◌≡◌ {A = ℕ} 0 1 = cc in omega arith)
          ];
        }

  -- the ledger after n calls
  pub next : (n : ℕ) → n < length cs → ledger T E (take (suc n) cs) ≡ step T E n (ledger T E (take n cs)) (call_at cs n)
  next n h =
      ap (λ z. ledger T E z) (ap (λ k. take k cs) (sym (add-one n)) ∙ take_more cs n open_level h)
      ∙ ledger_push T E (take n cs) (call_at cs n)
      ∙ ap (λ k. step T E k (ledger T E (take n cs)) (call_at cs n)) (length-take-le n cs (omega arith))

  pub good_at : (n : ℕ) → n ≤ length cs → Good n (ledger T E (take n cs))
  good_at zero h = good_none
  good_at (suc n) h =
      subst (Good (suc n)) (sym (next n h)) (grow n (ledger T E (take n cs)) h refl (good_at n (omega arith)) (step T E n (ledger T E (take n cs)) (call_at cs n)) (did T E n (ledger T E (take n cs)) (call_at cs n)))

  pub good_all : Good (length cs) (ledger T E cs)
  good_all = subst (λ z. Good (length cs) (ledger T E z)) (take_all (length cs) cs (omega arith)) (good_at (length cs) (omega arith))

pub ledgers_right : LedgersRight
ledgers_right T E cs =
    let g = good_all T E cs in
    record {
      allows_only = λ i e s b a. let k = g.allow_kept i e s b a in record { takes = k.takes; kept = λ j p u c o. k.kept j p u c.shuts.inside c o };
      allows_all = λ i e s k. g.kept_in i e s (record { first = k.takes.inside; takes = k.takes; kept = λ j p u v. k.kept j p u });
      levels_only = g.level_open;
      levels_all = g.open_level_in;
    }
