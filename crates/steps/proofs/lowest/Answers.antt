use Rattle.std.proofs.Common.{ℕ, ◌<◌, ◌≤◌, Option, Some, None, MatchOption, arith, rules, tests}
use Rattle.std.proofs.lemmas.Iterator.{first_from_Range}
use Rattle.minutes.specs.Minutes.{In}
use Rattle.steps.specs.Steps.{Lowest}
use Rattle.std.proofs.lemmas.Nat.Bits.{shr_and_one}
use Rattle.steps.proofs.lowest.Goals as goal

lowest_by : (s low period : ℕ) (o : Option ℕ) → MatchOption o ((t : ℕ) → low ≤ t → t < period → In t s → ⊥) (λ t. (low ≤ t) × (t < period) × In t s × ((v : ℕ) → low ≤ v → v < t → In v s → ⊥)) →
    MatchOption o ((t : ℕ) → low ≤ t → t < period → In t s → ⊥) (λ t. Lowest s low t)
lowest_by s low period None none = none
lowest_by s low period (Some t) w = record { left = w.2; above = w.0; least = w.3 }

pub returns : goal.returns
returns c =
    let s = c.args.set in
    lowest_by s c.args.low c.args.period c.find.result (first_from_Range _ _ _ _ (λ t. In t s) (λ t. In t s → ⊥) c.find.ensures.ran
    (λ x q k. grind (arith, tests, shr_and_one))
    (λ x q k. (search rules, grind (arith, tests, shr_and_one))))
