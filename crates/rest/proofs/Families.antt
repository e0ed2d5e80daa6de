-- Families within families.
use Rattle.std.proofs.Common.{◌≡◌, ℕ, suc, ◌+◌, ◌≤◌, List, [], ◌∷◌, refl, ◌∙◌, arith}
use Rattle.std.proofs.lemmas.List.{ext_get_or}
use Rattle.minutes.specs.Minutes.{Within, at}
use Rattle.relations.specs.Meaning.{Meaning}
use Rattle.rest.specs.Rest.{Suits}
use Rattle.minutes.proofs.Sets.{sub_le, same_sets}

pub within_refl : (f : List ℕ) → Within f f
within_refl f = record { len = refl; sub = λ i m h. h }

pub within_trans : (f g h : List ℕ) → Within f g → Within g h → Within f h
within_trans f g h u v = record { len = u.len ∙ v.len; sub = λ i m k. v.sub i m (u.sub i m k) }

pub within_same : (f g : List ℕ) → Within f g → Within g f → f ≡ g
within_same f g u v = ext_get_or 0 f g u.len (λ i h. same_sets (at f i) (at g i) (u.sub i) (v.sub i))

pub suits_within : (m : Meaning) (f g : List ℕ) → Suits m f → Within g f → Suits m g
suits_within m f g h w = record {
  long = record { low = omega (arith, h.long.low, w.len); high = omega (arith, h.long.high, w.len) };
  words = λ i. omega (arith, h.words i, sub_le (at g i) (at f i) (w.sub i));
}

-- the sum of a family's sets as numbers: it falls where a minute is taken away
abbrev pub total : List ℕ → ℕ
total [] = 0
total (x ∷ xs) = x + total xs

within_tail : (a b : ℕ) (f g : List ℕ) → Within (a ∷ f) (b ∷ g) → Within f g
within_tail a b f g w = record { len = omega (arith, w.len); sub = λ i. w.sub (suc i) }

pub within_total : (f g : List ℕ) → Within f g → total f ≤ total g
within_total [] [] w = omega arith
within_total [] (b ∷ g) w = omega arith
within_total (a ∷ f) [] w = absurd (omega (arith, w.len))
within_total (a ∷ f) (b ∷ g) w = omega (arith, within_total f g (within_tail a b f g w), sub_le a b (w.sub 0))

pub total_same : (f g : List ℕ) → Within f g → total g ≤ total f → f ≡ g
total_same [] [] w h = refl
total_same [] (b ∷ g) w h = absurd (omega (arith, w.len))
total_same (a ∷ f) [] w h = absurd (omega (arith, w.len))
total_same (a ∷ f) (b ∷ g) w h =
    let t = within_tail a b f g w in
    let l = within_total f g t in
    let k = sub_le a b (w.sub 0) in
    let e : a ≡ b = omega arith in
    let r : f ≡ g = total_same f g t (omega arith) in
    λ i. e i ∷ r i
