-- What a span leaves, by a turn and a widening.
use Rattle.std.proofs.Common.{◌≡◌, ℕ, ◌+◌, ◌-◌, ◌*◌, ◌%◌, ◌^◌, ◌<◌, ◌≤◌, sym, ap, ◌∙◌, subst, arith}
use lib.Bits.{bit_and}
use Rattle.std.proofs.lemmas.Bool.{and_parts, and_from, le-leb, leb-true}
use Rattle.minutes.specs.Minutes.{In, Sub}
use Rattle.minutes.specs.Differences.{gap}
use Rattle.minutes.proofs.Sets.{same_sets}
use Rattle.relations.proofs.Tests.{has_in, in_has, any_yes, any_from, in_those, those_in}
use Rattle.minutes.proofs.Gaps.{gap_is}
use Rattle.spans.proofs.WayBack.{gap_about, gap_back, Back, back_is}
use Rattle.minutes.specs.Turns.{Turned, Widened}
use Rattle.spans.specs.Spans.{from_left, to_left}
use Rattle.minutes.proofs.Bits.{in_and, and_in, in_below, cut_bit}

module _ (T l n s r q w : ℕ) (hl : l < T) (hn : n < T) (t : Turned T l (bit_and s (2 ^ T - 1)) q) (v : Widened T (n + 1) q w) where
  pub left_beside_is : bit_and r w ≡ to_left T l (l + n) s r
  left_beside_is = same_sets (bit_and r w) (to_left T l (l + n) s r) to from
    where
      width : l + n - l ≡ n
      width = omega arith

      to : Sub (bit_and r w) (to_left T l (l + n) s r)
      to b i =
          let p = in_and r w b i in
          let hb = in_below T w b v.below p.1 in
          let x = v.from b p.1 in
          let d : ℕ = x.0 in
          let hd : d < T = omega (arith, x.1) in
          let g = gap_is T d b (omega arith) hb in
          let a : ℕ = gap T l (gap T d b) in
          let ha : a < T = (gap_is T l (gap T d b) (omega arith) g.below).below in
          let ia : In a s = sym (cut_bit T s a ha) ∙ sym (t.bit (gap T d b) g.below) ∙ x.2 in
          let e : gap T l (gap T a b) ≡ d = gap_about T l d b hl hd hb in
          those_in T _ b hb (and_from _ _ (in_has b r p.0) (any_from T _ a ha (and_from _ _ (in_has a s ia) (le-leb _ _ (omega (arith, e, x.1, width))))))

      from : Sub (to_left T l (l + n) s r) (bit_and r w)
      from b i =
          let p = in_those T _ b i in
          let y = and_parts _ _ p.1 in
          let z = any_yes T _ y.1 in
          let a : ℕ = z.0 in
          let k = and_parts _ _ z.2 in
          let d : ℕ = gap T l (gap T a b) in
          let m : d ≤ l + n - l = leb-true _ _ k.1 in
          let g = gap_is T d b (omega arith) p.0 in
          let e : gap T l (gap T d b) ≡ a = gap_about T l a b hl z.1 p.0 in
          let ia : In a (bit_and s (2 ^ T - 1)) = cut_bit T s a z.1 ∙ has_in a s k.0 in
          and_in r w b (has_in b r y.0) (v.to b d p.0 (omega arith) (t.bit (gap T d b) g.below ∙ subst (λ m. In m (bit_and s (2 ^ T - 1))) (sym e) ia))

-- a span is a span the other way, from its second event back to its first
module _ (T l u s r : ℕ) (hl : l < T) (hu : l ≤ u) (hw : u < l + T) where
  back : Back T l (u - l) ((2 * T - l - (u - l)) % T)
  back = back_is T l (u - l) hl (omega arith)

  width : (2 * T - l - (u - l)) % T + (u - l) - (2 * T - l - (u - l)) % T ≡ u - l
  width = omega arith

  pub from_left_is : to_left T ((2 * T - l - (u - l)) % T) ((2 * T - l - (u - l)) % T + (u - l)) r s ≡ from_left T l u s r
  from_left_is = same_sets _ _ to from
    where
      to : Sub (to_left T ((2 * T - l - (u - l)) % T) ((2 * T - l - (u - l)) % T + (u - l)) r s) (from_left T l u s r)
      to a i =
          let p = in_those T _ a i in
          let y = and_parts _ _ p.1 in
          let z = any_yes T _ y.1 in
          let c = and_parts _ _ z.2 in
          let m = (gap_back T l (u - l) _ a z.0 hl (omega arith) p.0 z.1 back).0 (subst (λ n. gap T ((2 * T - l - (u - l)) % T) (gap T z.0 a) ≤ n) width (leb-true _ _ c.1)) in
          those_in T _ a p.0 (and_from _ _ y.0 (any_from T _ z.0 z.1 (and_from _ _ c.0 (le-leb _ _ m))))

      from : Sub (from_left T l u s r) (to_left T ((2 * T - l - (u - l)) % T) ((2 * T - l - (u - l)) % T + (u - l)) r s)
      from a i =
          let p = in_those T _ a i in
          let y = and_parts _ _ p.1 in
          let z = any_yes T _ y.1 in
          let c = and_parts _ _ z.2 in
          let m = (gap_back T l (u - l) _ a z.0 hl (omega arith) p.0 z.1 back).1 (leb-true _ _ c.1) in
          those_in T _ a p.0 (and_from _ _ y.0 (any_from T _ z.0 z.1 (and_from _ _ c.0 (le-leb _ _ (subst (λ n. gap T ((2 * T - l - (u - l)) % T) (gap T z.0 a) ≤ n) (sym width) m)))))

pub to_left_is : (T l u s r : ℕ) → l ≤ u → to_left T l (l + (u - l)) s r ≡ to_left T l u s r
to_left_is T l u s r h = let e : l + (u - l) ≡ u = omega arith in ap (λ z. to_left T l z s r) e
