-- The tests of a well formed line: which field, if any, is at fault.
use Rattle.std.specs.Prelude.{ℕ, suc, ◌+◌, Bool, cond, not, ◌&&◌, List, [], ◌∷◌, ◌++◌, map, drop, Some, None, Option, ◌==◌, nat_le, nat_lt}
use Rattle.std.specs.List.{list_any}
use Rattle.text.specs.declared.kind.Kind.{Kind}
use Rattle.text.specs.declared.kind.Kind.TheVariants.{Heading, Span, Journey}
use Rattle.entries.specs.Form.{values, nth, value_or_zero}

-- from low to high
abbrev pub from_to : ℕ → ℕ → ℕ → Bool
from_to low high n = nat_le low n && nat_le n high

-- the first field of the list that fails its test
abbrev pub failing : List (ℕ × Bool) → Option ℕ
failing [] = None
failing (t ∷ ts) = cond t.1 (failing ts) (Some t.0)

-- T;period;events: a period from 2 to 64, 1 to 256 events
abbrev pub heading_range : ℕ → ℕ → Option ℕ
heading_range period events = failing ((2, from_to 2 64 period) ∷ (3, from_to 1 256 events) ∷ [])

-- index;from;to;lower;upper;weight at period T: index 1 to 65,535, lower 0 to T - 1, upper lower to lower + T - 1,
-- weight 0 to 65,535
abbrev pub span_range : ℕ → ℕ → ℕ → ℕ → ℕ → Option ℕ
span_range T index lower upper weight =
    failing ((1, from_to 1 65535 index) ∷ (4, nat_lt lower T) ∷ (5, nat_le lower upper && nat_lt upper (lower + T)) ∷ (6, nat_le weight 65535) ∷ [])

-- J;index;cap;event;event;..: index 1 to 65,535, cap 0 to 315
abbrev pub journey_range : ℕ → ℕ → Option ℕ
journey_range index cap = failing ((2, from_to 1 65535 index) ∷ (3, nat_le cap 315) ∷ [])

-- a number of the line, other than an event, is outside its range
abbrev pub range_fault : Kind → ℕ → List ℕ → Option ℕ
range_fault Heading T line = heading_range (nth line 0) (nth line 1)
range_fault Span T line = span_range T (nth line 0) (nth line 3) (nth line 4) (nth line 5)
range_fault Journey T line = journey_range (nth line 0) (nth line 1)

-- e is one of the events
abbrev pub named : ℕ → List ℕ → Bool
named e es = list_any (λ d. d == e) es

-- the first event, the list beginning with field i, that is 0, above E, or stands among those before it
abbrev pub first_wrong : ℕ → List ℕ → ℕ → List ℕ → Option ℕ
first_wrong E before i [] = None
first_wrong E before i (e ∷ es) =
    cond (from_to 1 E e && not (named e before)) (first_wrong E (before ++ e ∷ []) (suc i) es) (Some i)

-- the events that a line names: a span's second and third field, a journey's from the fourth on
abbrev pub events_of : Kind → List ℕ → List ℕ
events_of Heading line = []
events_of Span line = nth line 1 ∷ nth line 2 ∷ []
events_of Journey line = map value_or_zero (drop 2 (values line))

abbrev pub first_event : Kind → ℕ
first_event Heading = 0
first_event Span = 2
first_event Journey = 4

-- an event of the line is 0, above E, or stands twice, the later being at fault
abbrev pub event_fault : Kind → ℕ → List ℕ → Option ℕ
event_fault kind E line = first_wrong E [] (first_event kind) (events_of kind line)
