-- How a plan holds what the calls since it was made decide.
use Rattle.std.specs.Prelude.{◌≡◌, ℕ, zero, suc, List, [], ◌∷◌, ◌++◌, Some, None, Option, Result}
use Rattle.refusals.specs.declared.Refusal.{Refusal}
use Rattle.calls.specs.Calls.{Call, Ledger, closed, levels_of, entries_of, family, refusal, ledger}
use Rattle.calls.specs.Replies.{reply}
use Rattle.plan.specs.declared.contents.Contents.{Contents}
use Rattle.plan.specs.Contents.{levels_in, entries_in, sets_of, shutting}

-- the contents show the allowed family, the levels and the entries of what stands
pub record Shows (p : Contents) (l : Ledger) : Type 0 where
  pub sets : sets_of p ≡ family p.period p.events l
  pub levels : levels_in p ≡ levels_of l
  pub entries : entries_in p ≡ entries_of l

-- they do so now, and would after each of n shuts
abbrev pub Holds : ℕ → Contents → Ledger → Type 0
Holds zero p l = Shows p l
Holds (suc n) p l = Shows p l × Holds n (shutting p) (closed l)

-- the contents are what the calls decide: they show what stands, and would after each shut of an open level
abbrev pub Decided : Contents → List Call → Type 0
Decided p cs = Holds (levels_in p) p (ledger p.period p.events cs)

-- q comes from the calls cs followed by the call c, and its reply r is what those calls say of it
pub record Onward (p : Contents) (c : Call) (q : Contents) (r : Result (Unit {0}) Refusal) (cs : List Call) : Type 0 where
  pub plan : Decided q (cs ++ c ∷ [])
  pub answer : r ≡ reply (refusal p.period p.events (ledger p.period p.events cs) c) tt

-- so whatever calls the plan with the contents p has had
abbrev pub GoesOn : Contents → Call → Contents → Result (Unit {0}) Refusal → Type 0
GoesOn p c q r = (cs : List Call) → Decided p cs → Onward p c q r cs

-- a plan that is made anew has had no call yet; one that is not has had those that it had
abbrev pub Made : Option Refusal → Contents → Contents → Type 0
Made None p q = Decided q []
Made (Some r) p q = (cs : List Call) → Decided p cs → Decided q cs
