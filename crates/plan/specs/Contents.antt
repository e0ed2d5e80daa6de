-- What a plan holds, and how its calls change that.
use Rattle.std.specs.Prelude.{ℕ, ◌-◌, ◌^◌, cond, ◌&&◌, ◌||◌, List, [], ◌∷◌, ◌++◌, take, drop, replicate, None, Option, bit_and, nat_le, nat_lt, slice_set}
use Rattle.arrayvec.specs.ArrayVec.{array_vec_len}
use Rattle.refusals.specs.declared.Refusal.{Refusal}
use Rattle.refusals.specs.declared.Refusal.TheVariants.{Range, Full}
use Rattle.minutes.specs.Minutes.{at}
use Rattle.calls.specs.Calls.{is_entry, or_else, allow_refusal}
use Rattle.plan.specs.declared.contents.Entry.{Entry}
use Rattle.plan.specs.declared.contents.Contents.{Contents}

-- a new plan: every minute of the period is allowed, and no level is open
abbrev pub fresh : ℕ → ℕ → Contents
fresh T E = record { period = T; events = E; allowed = replicate 256 (2 ^ T - 1); marks = record { items = [] }; trail = record { items = [] } }

abbrev pub make_refusal : ℕ → ℕ → Option Refusal
make_refusal T E = or_else (nat_lt T 2 || (nat_lt 64 T || (nat_lt E 1 || nat_lt 256 E))) Range None

-- how many levels are open
abbrev pub levels_in : Contents → ℕ
levels_in p = array_vec_len p.marks

-- how many entries the open levels have
abbrev pub entries_in : Contents → ℕ
entries_in p = array_vec_len p.trail

-- the allowed sets of the plan's events
abbrev pub sets_of : Contents → List ℕ
sets_of p = take p.events p.allowed

-- the refusal of an allow
abbrev pub allow_refused : Contents → ℕ → ℕ → Option Refusal
allow_refused p e s = allow_refusal p.period p.events (at (sets_of p) (e - 1)) (levels_in p) (entries_in p) e s

-- with the set v at place k
abbrev pub put : ℕ → ℕ → Contents → Contents
put k v p = record { period = p.period; events = p.events; allowed = slice_set p.allowed k v; marks = p.marks; trail = p.trail }

-- with one more entry: the set at place k as it is
abbrev pub noted : ℕ → Contents → Contents
noted k p = record { period = p.period; events = p.events; allowed = p.allowed; marks = p.marks; trail = record { items = p.trail.items ++ record { place = k; set = at p.allowed k } ∷ [] } }

-- the refusal of a cut of the set at place k to the minutes of s
abbrev pub cut_refusal : Contents → ℕ → ℕ → Option Refusal
cut_refusal p k s = or_else (is_entry (levels_in p) (at p.allowed k) s && nat_le 1024 (entries_in p)) Full None

-- after an accepted one
abbrev pub cutting : ℕ → ℕ → Contents → Contents
cutting k s p = put k (bit_and (at p.allowed k) s) (cond (is_entry (levels_in p) (at p.allowed k) s) (noted k p) p)

-- after an accepted allow
abbrev pub allowing : ℕ → ℕ → Contents → Contents
allowing e s p = put (e - 1) (bit_and (at p.allowed (e - 1)) s) (cond (is_entry (levels_in p) (at (sets_of p) (e - 1)) s) (noted (e - 1) p) p)

-- after an accepted open: the new level's mark is the number of entries
abbrev pub opening : Contents → Contents
opening p = record { period = p.period; events = p.events; allowed = p.allowed; marks = record { items = p.marks.items ++ entries_in p ∷ [] }; trail = p.trail }

-- the sets f with those put back that the entries cut, the latest first
abbrev pub given_back : List Entry → List ℕ → List ℕ
given_back [] f = f
given_back (e ∷ es) f = slice_set (given_back es f) e.place e.set

-- without the entries above the mark
abbrev pub taken_back : ℕ → Contents → Contents
taken_back mark p = record { period = p.period; events = p.events; allowed = given_back (drop mark p.trail.items) p.allowed; marks = p.marks; trail = record { items = take mark p.trail.items } }

-- without the level opened last
abbrev pub without_last : Contents → Contents
without_last p = record { period = p.period; events = p.events; allowed = p.allowed; marks = record { items = take (levels_in p - 1) p.marks.items }; trail = p.trail }

-- after an accepted shut: without the level opened last, and without the entries above its mark
abbrev pub shutting : Contents → Contents
shutting p = taken_back (at p.marks.items (levels_in p - 1)) (without_last p)
