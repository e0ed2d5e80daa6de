-- The meaning of the example keeps its laws.
use Rattle.std.proofs.Common.{◌≡◌, ℕ, zero, suc, ◌^◌, ◌<◌, ◌≤◌, true, false, leb, List, [], ◌∷◌, length, take, drop, sym, refl, ap, ◌∙◌, subst, inl, inr, arith, pow_mono}
use Rattle.std.proofs.lemmas.Bool.{cases_lt, cond-true, cond-false, le-leb, lt-leb, false≢true}
use Rattle.minutes.specs.Minutes.{at, Within, Timetable, NoneEmpty, single}
use Rattle.minutes.proofs.Sets.{sub_le, no_minute}
use Rattle.relations.specs.Meaning.{Laws, Long, Deflates, Exact, Monotone, Silent}
use Rattle.rest.proofs.Families.{within_refl}
use Rattle.worked_runs.specs.Example.{emptied, never, stubborn}

few : (f : List ℕ) → at f 0 ≤ 2 → never.narrowing f ≡ emptied f
few f h = cond-true (leb (at f 0) 2) (emptied f) f (le-leb _ _ h)

many : (f : List ℕ) → 2 < at f 0 → never.narrowing f ≡ f
many f h = cond-false (leb (at f 0) 2) (emptied f) f (lt-leb _ _ h)

emptied_within : (f g : List ℕ) → Within f g → Within (emptied f) g
emptied_within [] g w = w
emptied_within (s ∷ f) g w = record { len = w.len; sub = elim [ zero ↦ λ m h. absurd (no_minute m h) | suc i ↦ w.sub (suc i) ] }

emptied_both : (f g : List ℕ) → Within f g → Within (emptied f) (emptied g)
emptied_both [] [] w = w
emptied_both [] (b ∷ g) w = absurd (omega (arith, w.len))
emptied_both (a ∷ f) [] w = absurd (omega (arith, w.len))
emptied_both (a ∷ f) (b ∷ g) w = record { len = w.len; sub = elim [ zero ↦ λ m h. h | suc i ↦ w.sub (suc i) ] }

deflates : Deflates 1 never
deflates f h w = elim (cases_lt 2 (at f 0)) [
  | inl l ↦ subst (λ z. Within z f) (sym (many f l)) (within_refl f)
  | inr l ↦ subst (λ z. Within z f) (sym (few f l)) (emptied_within f f (within_refl f))
]

exact : Exact 2 1 never
exact = record { only = only; met = λ x h t c. absurd (false≢true c) }
  where
    only : (x : List ℕ) → Long 1 x → Timetable 2 (length x) x → NoneEmpty (never.narrowing (single x)) → false ≡ true
    only [] h t e = absurd (omega (arith, h.low))
    only (m ∷ x) h t e =
        let l : m ≤ 1 = omega (arith, t.minute 0 (omega arith)) in
        let p : 2 ^ m ≤ 2 ^ 1 = pow_mono l in
        let k : NoneEmpty (emptied (single (m ∷ x))) = subst NoneEmpty (few (single (m ∷ x)) (omega arith)) e in
        absurd (omega (arith, k 0 (omega arith)))

monotone : Monotone 1 never
monotone f g h u v w = elim (cases_lt 2 (at g 0)) [
  | inl l ↦ subst (λ z. Within (never.narrowing f) z) (sym (many g l)) (elim (cases_lt 2 (at f 0)) [
    | inl k ↦ subst (λ z. Within z g) (sym (many f k)) w
    | inr k ↦ subst (λ z. Within z g) (sym (few f k)) (emptied_within f g w)
  ])
  | inr l ↦ let k : at f 0 ≤ 2 = omega (arith, sub_le (at f 0) (at g 0) (w.sub 0)) in
      subst (λ z. Within z (never.narrowing g)) (sym (few f k)) (subst (λ z. Within (emptied f) z) (sym (few g l)) (emptied_both f g w))
]

silent : Silent 1 never
silent = record { kept = λ f h w. kept f; unread = λ f g a b u v e. head f ∙ ap (λ z. never.narrowing z) e ∙ sym (head g) }
  where
    tail : (f : List ℕ) → drop 1 (emptied f) ≡ drop 1 f
    tail [] = refl
    tail (s ∷ f) = refl

    kept : (f : List ℕ) → drop 1 (never.narrowing f) ≡ drop 1 f
    kept f = elim (cases_lt 2 (at f 0)) [ inl l ↦ ap (drop 1) (many f l) | inr l ↦ ap (drop 1) (few f l) ∙ tail f ]

    head : (f : List ℕ) → take 1 (never.narrowing f) ≡ never.narrowing (take 1 f)
    head [] = refl
    head (s ∷ f) = elim (cases_lt 2 s) [
      | inl l ↦ ap (take 1) (many (s ∷ f) l) ∙ sym (many (s ∷ []) l)
      | inr l ↦ ap (take 1) (few (s ∷ f) l) ∙ sym (few (s ∷ []) l)
    ]

pub stubborn_lawful : Laws stubborn
stubborn_lawful = record {
  deflation = elim [ zero ↦ λ h. deflates | suc k ↦ λ h. absurd (omega arith) ];
  soundness = elim [ zero ↦ λ h f x l w t i c. absurd (false≢true c) | suc k ↦ λ h. absurd (omega arith) ];
  exactness = elim [ zero ↦ λ h. exact | suc k ↦ λ h. absurd (omega arith) ];
  monotony = elim [ zero ↦ λ h. monotone | suc k ↦ λ h. absurd (omega arith) ];
  silence = elim [ zero ↦ λ h. silent | suc k ↦ λ h. absurd (omega arith) ];
  confinement = elim [ zero ↦ λ h x y a b e. refl | suc k ↦ λ h. absurd (omega arith) ];
}
