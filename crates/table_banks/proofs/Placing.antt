-- A record of a table stands within any list that is as long as the table's reach.
use Rattle.std.proofs.Common.{◌≡◌, ℕ, ◌-◌, ◌<◌, Bool, true, List, length, get_or, take, arith}
use Rattle.minutes.specs.Minutes.{at}
use Rattle.relations.specs.ExactNarrowing.{of}
use Rattle.relations.specs.Tables.{highest, sound, Chain}
use Rattle.relations.proofs.Tabling.{chain_at, sound_at}
use Rattle.bank.specs.Calls.{in_limits, all_below}
use Rattle.bank.proofs.Answering.{limits_are, below_place}

-- record k of a sound table, beside a list of n places within the limits
module _ {A : Type 0} (ranged : A → Bool) (events : A → List ℕ) (some : (r : A) → ranged r ≡ true → 0 < length (events r))
    (rs : List A) (r k n : ℕ) (d : A) (e : r ≡ highest events rs)
    (h : sound ranged events 256 rs ≡ true) (l : in_limits (length rs) r k n ≡ true) where
  pub ranged_here : ranged (get_or rs k d) ≡ true
  ranged_here = (sound_at ranged events 256 rs k d h (limits_are (length rs) r k n l).number).0

  pub placed_here : Chain n (events (get_or rs k d))
  placed_here =
      let m = limits_are (length rs) r k n l in
      chain_at ranged events some 256 n rs k d h m.number (omega (arith, m.low))

  reached : Chain r (events (get_or rs k d))
  reached =
      let m = limits_are (length rs) r k n l in
      chain_at ranged events some 256 r rs k d h m.number (omega (arith, e))

  pub below_here : (T : ℕ) (x : List ℕ) → n ≡ length x → all_below T (take r x) ≡ true → (i : ℕ) → i < length (events (get_or rs k d)) → of x (at (events (get_or rs k d)) i) < T
  below_here T x q a i u =
      let m = limits_are (length rs) r k n l in
      below_place T r x (at (events (get_or rs k d)) i - 1) a (omega (arith, reached.low i u, reached.high i u)) (omega (arith, reached.low i u, reached.high i u, m.low))
