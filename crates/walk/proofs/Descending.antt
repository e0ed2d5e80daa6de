-- Going down from the rest of a prefix to that of one minute more.
use Rattle.std.proofs.Common.{◌≡◌, ℕ, ◌+◌, ◌*◌, ◌%◌, ◌^◌, ◌<◌, ◌≤◌, Bool, true, false, List, length, sym, refl, ap, ◌∙◌, subst, inl, inr, arith}
use Rattle.std.proofs.lemmas.Nat.{one_shl}
use Rattle.std.proofs.lemmas.Bool.{cases_lt, false≢true}
use Rattle.minutes.specs.Minutes.{In, at, NoneEmpty}
use Rattle.relations.specs.Meaning.{Meaning}
use Rattle.rest.specs.Rest.{Rest}
use Rattle.minutes.proofs.Sets.{in_pow}
use Rattle.search.specs.Search.{held}
use Rattle.search.proofs.Held.{held_length}
use Rattle.settle.specs.Settles.{Settles}
use Rattle.walk.specs.Walking.{Extends, Descended}
use Rattle.walk.proofs.Children.{held_one, rest_on, rest_back, rest_stays}

module _ (m : Meaning) (p' r : List ℕ) (short : length p' ≤ length r) where
  fits : (f p : List ℕ) → Extends m f p p' r → length p' ≤ length f
  fits f p x = omega (arith, short, x.rest.inside.len, held_length p f)

  -- the last event has only that minute left
  pub stayed : (d : ℕ) → d + 1 ≡ length p' → NoneEmpty r → at p' d < 64 → at r d ≡ (1 * 2 ^ at p' d) % 2 ^ 64 → Descended m p' r r true
  stayed d last full low single = record {
    down = λ _ f p x. (rest_stays m f p p' r x.begins (fits f p x) x.rest (one f p x), full);
    dead = λ e. absurd (false≢true (sym e));
    kept = λ e. refl;
  }
    where
      is : at r d ≡ 2 ^ at p' d
      is = single ∙ one_shl (at p' d) 64 low

      one : (f p : List ℕ) → Extends m f p p' r → (i t : ℕ) → i < length p' → In t (at r i) → t ≡ at p' i
      one f p x i t l h = elim (cases_lt i (length p)) [
        | inl u ↦ held_one p f r x.rest.inside (omega (arith, x.one_more, fits f p x)) i t u h ∙ x.begins.same i u
        | inr u ↦ let e : i ≡ d = omega (arith, x.one_more, last) in
            in_pow t (at p' d) (subst (λ z. In t z) is (subst (λ z. In t (at r z)) e h)) ∙ ap (at p') (sym e)
      ]

  -- it was narrowed to s
  module _ (s : List ℕ) (b : Bool) (settles : Settles m (held p' r) s b) where
    pub died : b ≡ false → Descended m p' r r false
    died e = record {
      down = λ u. absurd (false≢true u);
      dead = λ _ f p x z rest. settles.dead e z (rest_back m f p p' r x.begins (fits f p x) x.rest z rest);
      kept = λ _. refl;
    }

    pub lived : b ≡ true → (r' : List ℕ) → r' ≡ s → Descended m p' r r' true
    lived e r' is = subst (λ z. Descended m p' r z true) (sym is)
        (record {
          down = λ _ f p x. (rest_on m f p p' r x.begins (fits f p x) x.rest s (settles.rest e), settles.full e);
          dead = λ u. absurd (false≢true (sym u));
          kept = λ u. absurd (false≢true (sym u));
        })
