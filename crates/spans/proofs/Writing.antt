-- Two sets of a family written.
use Rattle.std.proofs.Common.{◌≡◌, ℕ, ◌-◌, ◌<◌, true, false, not, eqb, List, length, get_or, set, sym, ap, ◌∙◌, arith}
use Rattle.std.proofs.lemmas.Bool.{eqb-true, eqb-false, not-true, not-false}
use Rattle.std.proofs.lemmas.List.{length-set, get_or-set_same, get_or-set_other, set-get_or}
use Rattle.relations.specs.ExactNarrowing.{of}
use Rattle.spans.specs.Spans.{from_left, to_left}
use Rattle.records.specs.declared.Span.{Span}
use Rattle.spans.specs.Spans.{span_relation, Placed}
use Rattle.spans.proofs.Narrowing.{span_narrows}

module _ (f : List ℕ) (p q a b : ℕ) (hp : p < length f) (hq : q < length f) (apart : p ≡ q → ⊥) where
  first_same : set (set f p a) q b ≡ f → a ≡ get_or f p 0
  first_same e = sym (get_or-set_same f p a 0 hp) ∙ sym (get_or-set_other (set f p a) q p b 0 apart) ∙ ap (λ l. get_or l p 0) e

  second_same : set (set f p a) q b ≡ f → b ≡ get_or f q 0
  second_same e = sym (get_or-set_same (set f p a) q b 0 (omega (arith, length-set f p a))) ∙ ap (λ l. get_or l q 0) e

  both_same : a ≡ get_or f p 0 → b ≡ get_or f q 0 → set (set f p a) q b ≡ f
  both_same x y = let e : set f p a ≡ f = ap (set f p) x ∙ set-get_or f p 0 in ap (λ l. set l q b) e ∙ ap (set f q) y ∙ set-get_or f q 0

-- what span_narrow has to show, where the first set changed and where it did not
module _ (T : ℕ) (s : Span) (f : List ℕ) (a b : ℕ) (h : Placed T s (length f))
    (x : a ≡ from_left T s.lower s.upper (of f s.from) (of f s.to))
    (y : b ≡ to_left T s.lower s.upper (of f s.from) (of f s.to)) where
  low_first : s.from - 1 < length f
  low_first = omega (arith, h.from_low, h.from_high)

  low_second : s.to - 1 < length f
  low_second = omega (arith, h.to_low, h.to_high)

  places_apart : s.from - 1 ≡ s.to - 1 → ⊥
  places_apart e = h.apart (omega (arith, h.from_low, h.to_low))

  pub after : set (set f (s.from - 1) a) (s.to - 1) b ≡ (span_relation T s).narrowing f
  after =
      ap (λ z. set (set f (s.from - 1) z) (s.to - 1) b) x
      ∙ ap (λ z. set (set f (s.from - 1) (from_left T s.lower s.upper (of f s.from) (of f s.to))) (s.to - 1) z) y
      ∙ span_narrows T s.lower s.upper s.from s.to f h.apart h.from_low h.to_low low_first low_second

  pub first_changed : (a ≡ of f s.from → ⊥) → set (set f (s.from - 1) a) (s.to - 1) b ≡ f → ⊥
  first_changed n e = n (first_same f (s.from - 1) (s.to - 1) a b low_first low_second places_apart e)

  pub second_changed : not (eqb b (of f s.to)) ≡ true → set (set f (s.from - 1) a) (s.to - 1) b ≡ f → ⊥
  second_changed n e = eqb-false b (of f s.to) (not-true _ n) (second_same f (s.from - 1) (s.to - 1) a b low_first low_second places_apart e)

  pub none_changed : a ≡ of f s.from → not (eqb b (of f s.to)) ≡ false → set (set f (s.from - 1) a) (s.to - 1) b ≡ f
  none_changed e n = both_same f (s.from - 1) (s.to - 1) a b low_first low_second places_apart e (eqb-true b (of f s.to) (not-false _ n))
