-- Tables of records, each of which names events.
use Rattle.std.specs.Prelude.{◌≡◌, ℕ, ◌<◌, ◌≤◌, max, Bool, true, not, ◌&&◌, List, [], ◌∷◌, length, nat_le}
use Rattle.minutes.specs.Minutes.{at}
use Rattle.relations.specs.ExactNarrowing.{named}

-- e is an event from 1 to E
abbrev pub is_event : ℕ → ℕ → Bool
is_event E e = nat_le 1 e && nat_le e E

-- each is an event from 1 to E, and none stands twice
abbrev pub good_events : ℕ → List ℕ → Bool
good_events E [] = true
good_events E (e ∷ es) = is_event E e && (not (named e es) && good_events E es)

-- the highest event of a list, or 0
abbrev pub top : List ℕ → ℕ
top [] = 0
top (e ∷ es) = max e (top es)

-- the highest event that a record of the table names, or 0
abbrev pub highest : {A : Type 0} → (A → List ℕ) → List A → ℕ
highest names [] = 0
highest names (r ∷ rs) = max (top (names r)) (highest names rs)

-- each record of the table is in its ranges and names events from 1 to E, none twice
abbrev pub sound : {A : Type 0} → (A → Bool) → (A → List ℕ) → ℕ → List A → Bool
sound in_range names E [] = true
sound in_range names E (r ∷ rs) = (in_range r && good_events E (names r)) && sound in_range names E rs

-- distinct events from 1 to n, at least one, place by place
pub record Chain (n : ℕ) (es : List ℕ) : Type 0 where
  pub some : 0 < length es
  pub low : (i : ℕ) → i < length es → 1 ≤ at es i
  pub high : (i : ℕ) → i < length es → at es i ≤ n
  pub apart : (i j : ℕ) → i < length es → j < length es → at es i ≡ at es j → i ≡ j
