-- What a call replies: its refusal, if there is one.
use Rattle.std.specs.Prelude.{◌≡◌, Some, None, Ok, Err, Option, Result}
use Rattle.refusals.specs.declared.Refusal.{Refusal}

-- the reply of a call that answers `value` where it is not refused
abbrev pub reply : {A : Type 0} → Option Refusal → A → Result A Refusal
reply None value = Ok value
reply (Some r) value = Err r

-- the reply of a call that answers a value of which P holds where it is not refused
abbrev pub Replies : {A : Type 0} → Option Refusal → (A → Type 0) → Result A Refusal → Type 0
Replies {A} None P r = (value : A) × (r ≡ Ok value) × P value
Replies (Some e) P r = r ≡ Err e
