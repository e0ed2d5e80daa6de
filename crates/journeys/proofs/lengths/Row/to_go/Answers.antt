use Rattle.std.proofs.Common.{◌-◌, ◌<◌, ◌∙◌, arith}
use Rattle.minutes.specs.Minutes.{at}
use Rattle.journeys.proofs.Scanning.{backwards}
use Rattle.journeys.proofs.lengths.Row.to_go.Goals as goal

pub returns : goal.returns
returns c =
    let T = c.args.period.minutes in
    record {
      value = λ m l.
          let k : T - 1 - m < T = omega arith in
          c.reversed-2.ensures.value m l
          ∙ c.ahead.ensures.value (T - 1 - m) k
          ∙ backwards T c.args.set m (at c.args.self.now.lengths) (at c.reversed.result.lengths) l
          (λ b u. let j : T - 1 - b < T = omega arith in c.reversed.ensures.value b u ∙ c.within.ensures.value (T - 1 - b) j);
    }
