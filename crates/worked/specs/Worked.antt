-- The worked examples together.
use Rattle.relations.specs.Conditions.{WorkedExamples}
use Rattle.worked.specs.Examples.{RingLeft, OneRound, InALevel, Emptied, Sixteen}
use Rattle.worked.specs.Searches.{RingFound, TightNone, TightInALevel}

pub record Worked : Type 0 where
  -- of spans and journeys
  pub conditions : WorkedExamples
  -- of rests
  pub ring_left : RingLeft
  pub one_round : OneRound
  -- of lists of calls
  pub in_a_level : InALevel
  pub emptied : Emptied
  pub sixteen : Sixteen
  -- of searches
  pub ring_found : RingFound
  pub tight_none : TightNone
  pub tight_in_a_level : TightInALevel
