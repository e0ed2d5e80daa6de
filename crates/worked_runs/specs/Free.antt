-- A meaning with no relation.
use Rattle.std.specs.Prelude.{ℕ, ◌<◌, []}
use Rattle.std.proofs.Common.{arith}
use Rattle.relations.specs.Meaning.{Meaning, Laws}
use Rattle.worked_runs.specs.declared.free.Free.{Free}

abbrev pub free : Free → Meaning
free f = record { period = f.period; reach = 0; relations = [] }

-- no number is below 0
none : {A : Type 0} (k : ℕ) → k < 0 → A
none k h = absurd (omega arith)

-- with no relation, each law holds
pub free_lawful : (f : Free) → Laws (free f)
free_lawful f = record {
  deflation = λ k h. none k h;
  soundness = λ k h. none k h;
  exactness = λ k h. none k h;
  monotony = λ k h. none k h;
  silence = λ k h. none k h;
  confinement = λ k h. none k h;
}
