-- What a refusal says of its tests.
use Rattle.std.proofs.Common.{◌≡◌, ℕ, Bool, true, false, cond, None, Ok, Err, Option, sym, refl, arith}
use Rattle.std.proofs.lemmas.Option.{none-some}
use Rattle.refusals.specs.declared.Refusal.{Refusal}
use Rattle.refusals.specs.declared.Refusal.TheVariants.{Event}
use Rattle.calls.specs.Calls.{or_else}

-- no test refuses: neither this one nor those after it
pub passed : (test : Bool) (r : Refusal) (others : Option Refusal) → or_else test r others ≡ None → (test ≡ false) × (others ≡ None)
passed true r others h = absurd (none-some r (sym h))
passed false r others h = (refl, h)

-- an event has no place, or one
pub no_place : (test : Bool) (r : Refusal) (k : ℕ) → Err r ≡ cond test (Err Event) (Ok k) → (test ≡ true) × (r ≡ Event)
no_place true r k h = (refl, cc)
no_place false r k h = let z : ◌≡◌ {A = ℕ} 0 1 = cc in absurd (omega arith)

pub a_place : (test : Bool) (k place : ℕ) → Ok place ≡ cond test (Err Event) (Ok k) → (test ≡ false) × (place ≡ k)
a_place true k place h = let z : ◌≡◌ {A = ℕ} 0 1 = cc in absurd (omega arith)
a_place false k place h = (refl, cc)
