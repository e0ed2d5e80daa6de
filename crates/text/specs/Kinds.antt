-- What a line of the enum is, whatever its case.
use Rattle.text.specs.Rows.{Row}
use Rattle.text.specs.declared.kind.Kind.{Kind}
use Rattle.text.specs.declared.kind.Kind.TheVariants.{Heading as heading, Span as span, Journey as journey}
use Rattle.text.specs.declared.kind.Line.{Line}
use Rattle.text.specs.declared.kind.Line.TheVariants.{Heading, Span, Journey}

-- its bytes and its place
abbrev pub row_of : Line → Row
row_of (Heading bytes place) = record { bytes = bytes.now; place = place }
row_of (Span bytes place) = record { bytes = bytes.now; place = place }
row_of (Journey bytes place) = record { bytes = bytes.now; place = place }

-- the kind that its case says
abbrev pub case_of : Line → Kind
case_of (Heading bytes place) = heading
case_of (Span bytes place) = span
case_of (Journey bytes place) = journey
