use Rattle.std.proofs.Common.{◌≡◌, ℕ, zero, suc, ◌+◌, ◌*◌, ◌%◌, ◌^◌, ◌<◌, List, [], ◌∷◌, length, take, set, refl, ap, ◌∙◌, arith}
use Rattle.std.proofs.lemmas.List.{take_all, length-take}
use Rattle.std.proofs.lemmas.Nat.{one_shl}
use Rattle.std.proofs.lemmas.Nat.Bits.{and_pow}
use lib.Bits.{bit_and}
use Rattle.minutes.specs.Minutes.{at}
use Rattle.search.specs.Search.{held, only}
use Rattle.search.proofs.Held.{held_out}
use Rattle.steps.proofs.hold.Goals as goal

-- one event more keeps only its minute
held_more : (p f : List ℕ) (i : ℕ) → i < length p → i < length f → set (held (take i p) f) i (only (at p i) (at f i)) ≡ held (take (suc i) p) f
held_more [] f i h l = absurd (omega arith)
held_more (m ∷ p) [] i h l = absurd (omega arith)
held_more (m ∷ p) (s ∷ f) zero h l = refl
held_more (m ∷ p) (s ∷ f) (suc i) h l = ap (λ z. only m s ∷ z) (held_more p f i (omega arith) (omega arith))

keeps : (p f : List ℕ) (i : ℕ) → i < length p → i < length f → at p i < 64 → bit_and (at (held (take i p) f) i) ((1 * 2 ^ at p i) % 2 ^ 64) ≡ only (at p i) (at f i)
keeps p f i h l w =
    (λ j. bit_and (held_out (take i p) f i (omega (arith, length-take i p)) j) (one_shl (at p i) 64 w j)) ∙ and_pow (at f i) (at p i)

pub loop-i-preserved : goal.loop-i-preserved
loop-i-preserved c =
    let p = c.args.prefix.list.now in
    let f = c.args.family.now in
    let i = c.loop-i.i in
    let l : i < length f = omega (arith, c.requires) in
    (λ j. set (c.loop-i.invariant j) i (bit_and (at (c.loop-i.invariant j) i) ((1 * 2 ^ at p i) % 2 ^ 64)))
    ∙ ap (set (held (take i p) f) i) (keeps p f i c.loop-i-test.true l (c.args.prefix.low i c.loop-i-test.true)) ∙ held_more p f i c.loop-i-test.true l ∙ (let n : suc i ≡ i + 1 = omega arith in ap (λ k. held (take k p) f) n)

pub returns : goal.returns
returns c = c.loop-i.invariant ∙ ap (λ z. held z c.args.family.now) (take_all c.loop-i.i c.args.prefix.list.now (omega arith))
