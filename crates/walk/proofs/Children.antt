-- The rest of a longer prefix, from the rest of a shorter one.
use Rattle.std.proofs.Common.{◌≡◌, ℕ, ◌<◌, ◌≤◌, ◌⊎◌, List, [], length, sym, ◌∙◌, subst, inl, inr, arith}
use Rattle.std.proofs.lemmas.Bool.{cases_lt}
use Rattle.minutes.specs.Minutes.{Within, Sub, In, at}
use Rattle.relations.specs.Meaning.{Meaning}
use Rattle.rest.specs.Rest.{Rest}
use Rattle.rest.proofs.Families.{within_trans}
use Rattle.search.specs.Search.{held, Begins}
use Rattle.search.proofs.Held.{in_only, only_has, held_length, held_in, held_out, held_mono}

-- a family held to a prefix is within the family
pub held_within : (p f : List ℕ) → Within (held p f) f
held_within p f = held_mono p [] f (record { shorter = omega arith; same = λ j h. absurd (omega arith) })

-- u is within a family held to p when it is within the family and has of each held event only its minute
pub within_held : (p f u : List ℕ) → Within u f → ((i t : ℕ) → i < length p → In t (at u i) → t ≡ at p i) → length p ≤ length f → Within u (held p f)
within_held p f u w one short = record { len = w.len ∙ sym (held_length p f); sub = λ i. go i (cases_lt i (length p)) }
  where
    go : (i : ℕ) → (i < length p) ⊎ (length p ≤ i) → Sub (at u i) (at (held p f) i)
    go i (inr l) t h = rw (held_out p f i l) (w.sub i t h)
    go i (inl l) t h =
        let e = one i t l h in
        rw (held_in p f i l (omega arith)) (rw e (only_has (at p i) (at f i) (subst (λ z. In z (at f i)) e (w.sub i t h))))

-- what is within a held family has of each held event only its minute
pub held_one : (p f u : List ℕ) → Within u (held p f) → length p ≤ length f → (i t : ℕ) → i < length p → In t (at u i) → t ≡ at p i
held_one p f u w short i t l h = (in_only t (at p i) (at f i) (rw (held_in p f i l (omega arith)) at (w.sub i t h))).0

module _ (m : Meaning) (f p p' r : List ℕ) (longer : Begins p p') (short : length p' ≤ length f) (rest : Rest m (held p f) r) where
  len : length r ≡ length f
  len = rest.inside.len ∙ held_length p f

  r_in : Within r f
  r_in = within_trans r (held p f) f rest.inside (held_within p f)

  -- what is stable within the family held to the longer prefix is within the rest of the shorter one
  under : (s : List ℕ) → Within s (held p' f) → Within s (held p f)
  under s w = within_trans s (held p' f) (held p f) w (held_mono p' p f longer)

  pub rest_on : (s : List ℕ) → Rest m (held p' r) s → Rest m (held p' f) s
  rest_on s h = record {
    stable = h.stable;
    inside = within_held p' f s (within_trans s r f s_r r_in) (held_one p' r s h.inside (omega (arith, len))) short;
    largest = λ u t w. h.largest u t (within_held p' r u (rest.largest u t (under u w)) (held_one p' f u w short) (omega (arith, len)));
  }
    where
      s_r : Within s r
      s_r = within_trans s (held p' r) r h.inside (held_within p' r)

  -- and back
  pub rest_back : (s : List ℕ) → Rest m (held p' f) s → Rest m (held p' r) s
  rest_back s h = record {
    stable = h.stable;
    inside = within_held p' r s (rest.largest s h.stable (under s h.inside)) (held_one p' f s h.inside short) (omega (arith, len));
    largest = λ u t w. h.largest u t (within_held p' f u (within_trans u r f (within_trans u (held p' r) r w (held_within p' r)) r_in) (held_one p' r u w (omega (arith, len))) short);
  }

  -- where the rest has of each event of the longer prefix only its minute, it is the rest of that too
  pub rest_stays : ((i t : ℕ) → i < length p' → In t (at r i) → t ≡ at p' i) → Rest m (held p' f) r
  rest_stays one = record { stable = rest.stable; inside = within_held p' f r r_in one short; largest = λ u t w. rest.largest u t (under u w) }
