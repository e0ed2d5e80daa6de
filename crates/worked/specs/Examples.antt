-- Worked examples of rests, and of what lists of calls decide.
use Rattle.std.specs.Prelude.{◌≡◌, ℕ, zero, suc, true, false, List, [], ◌∷◌, Some, None}
use Rattle.refusals.specs.declared.Refusal.TheVariants.{Range, Event, Level}
use Rattle.records.specs.declared.Span.{Span}
use Rattle.relations.specs.Meaning.{Meaning, Laws}
use Rattle.relations.specs.Tables.{highest}
use Rattle.spans.specs.Spans.{span_events, span_relations}
use Rattle.rest.specs.Rest.{Stable, Rest, narrowed, Suits, Left}
use Rattle.calls.specs.Calls.{Call, allow, open_level, shut_level, level, allowed, family, entries_of, refusal, ledger}
use Rattle.calls.specs.Standing.{Closes, Stands}

-- a span of weight 1, whose line of eleven bytes stands at the offset
abbrev pub span : ℕ → ℕ → ℕ → ℕ → ℕ → ℕ → Span
span offset index from to lower upper =
    record { index = index; from = from; to = to; lower = lower; upper = upper; weight = 1; place = (offset, 11) }

-- what a bank of these spans means at period 10
abbrev pub bank_of : List Span → Meaning
bank_of spans = record { period = 10; reach = highest span_events spans; relations = span_relations 10 spans }

-- three events in a ring, period 10
abbrev pub ring_spans : List Span
ring_spans = span 7 1 1 2 3 5 ∷ span 19 2 2 3 3 5 ∷ span 31 3 3 1 1 2 ∷ []

abbrev pub ring : Meaning
ring = bank_of ring_spans

-- event 1 allowed minute 0 only: minutes 3, 4 and 5 are left of event 2, and 8 and 9 of event 3, and that is all that is left
pub record RingLeft : Type 0 where
  pub lawful : Laws ring
  pub second : Left ring (family 10 3 (ledger 10 3 (allow 1 1 ∷ []))) 2 56
  pub third : Left ring (family 10 3 (ledger 10 3 (allow 1 1 ∷ []))) 3 768
  pub only : (s : ℕ) → Left ring (family 10 3 (ledger 10 3 (allow 1 1 ∷ []))) 3 s → s ≡ 768

-- event 3 one minute after event 2, which is one minute after event 1; the later span comes first
abbrev pub chain_spans : List Span
chain_spans = span 7 1 2 3 1 1 ∷ span 19 2 1 2 1 1 ∷ []

abbrev pub chain : Meaning
chain = bank_of chain_spans

-- one round of narrowing need not end in a stable family: with event 1 at minute 0 the first span takes nothing away before
-- the second has cut event 2
pub record OneRound : Type 0 where
  pub lawful : Laws chain
  pub suits : Suits chain (1 ∷ 1023 ∷ 1023 ∷ [])
  pub round : narrowed chain (0 ∷ 1 ∷ []) (1 ∷ 1023 ∷ 1023 ∷ []) ≡ 1 ∷ 2 ∷ 1023 ∷ []
  pub unstable : Stable chain (1 ∷ 2 ∷ 1023 ∷ []) → ⊥
  pub rest : Rest chain (1 ∷ 1023 ∷ 1023 ∷ []) (1 ∷ 2 ∷ 4 ∷ [])

-- an allow inside a level, and after its shut; what is refused stands in the list and changes nothing
abbrev pub calls : List Call
calls = open_level ∷ allow 1 1 ∷ allow 1 3 ∷ allow 4 1 ∷ allow 2 1024 ∷ []

pub record InALevel : Type 0 where
  -- the first allow is an entry; the second takes nothing away and is none; there is no event 4, and no minute 10
  pub stands : ledger 10 3 calls ≡ allowed 2 1 3 false ∷ allowed 1 1 1 true ∷ level 0 ∷ []
  pub sets : family 10 3 (ledger 10 3 calls) ≡ 1 ∷ 1023 ∷ 1023 ∷ []
  pub entries : entries_of (ledger 10 3 calls) ≡ 1
  pub no_event : refusal 10 3 (ledger 10 3 calls) (allow 4 1) ≡ Some Event
  pub no_minute : refusal 10 3 (ledger 10 3 calls) (allow 2 1024) ≡ Some Range
  -- after the shut, and after another allow outside every level
  pub shut : ledger 10 3 (open_level ∷ allow 1 1 ∷ shut_level ∷ []) ≡ []
  pub after : ledger 10 3 (open_level ∷ allow 1 1 ∷ shut_level ∷ allow 1 6 ∷ []) ≡ allowed 3 1 6 false ∷ []
  pub no_level : refusal 10 3 (ledger 10 3 (open_level ∷ allow 1 1 ∷ shut_level ∷ [])) shut_level ≡ Some Level
  -- the same allows in either order: the same sets, and not the same entries
  pub one_way : ledger 10 3 (open_level ∷ allow 1 3 ∷ allow 1 1 ∷ []) ≡ allowed 2 1 1 true ∷ allowed 1 1 3 true ∷ level 0 ∷ []
  pub other_way : ledger 10 3 (open_level ∷ allow 1 1 ∷ allow 1 3 ∷ []) ≡ allowed 2 1 3 false ∷ allowed 1 1 1 true ∷ level 0 ∷ []
  -- in the words of levels: call 2 closes the level that call 0 opened, and so call 1 stands no more
  pub closes : Closes 10 3 (open_level ∷ allow 1 1 ∷ shut_level ∷ []) 2 0
  pub stood : Stands 10 3 (open_level ∷ allow 1 1 ∷ []) 1 1 1
  pub gone : Stands 10 3 (open_level ∷ allow 1 1 ∷ shut_level ∷ []) 1 1 1 → ⊥

-- an allow may leave an event no minute
pub record Emptied : Type 0 where
  pub accepted : refusal 10 3 (ledger 10 3 (allow 1 1 ∷ [])) (allow 1 2) ≡ None
  pub sets : family 10 3 (ledger 10 3 (allow 1 1 ∷ allow 1 2 ∷ [])) ≡ 0 ∷ 1023 ∷ 1023 ∷ []

-- n opens
abbrev opens : ℕ → List Call
opens zero = []
opens (suc n) = open_level ∷ opens n

-- 16 levels can be open and no more
pub record Sixteen : Type 0 where
  pub fifteen : refusal 10 3 (ledger 10 3 (opens 15)) open_level ≡ None
  pub sixteen : refusal 10 3 (ledger 10 3 (opens 16)) open_level ≡ Some Level
