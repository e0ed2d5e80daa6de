-- The way of narrowing does not matter.
use Rattle.std.proofs.Common.{ℕ, ◌-◌, List, length, subst}
use Rattle.minutes.specs.Minutes.{In, at, NoneEmpty}
use Rattle.search.specs.Search.{Problem, WellPosed, Way, Alive, DeadEnd, Counted, Listed}
use Rattle.search.proofs.Listing.{listed_same}
use Rattle.search.specs.Theorems.{AnyWay}
use Rattle.search.proofs.Living.{same_rests}

module _ (q : Problem) (posed : WellPosed q) (o r : Way q) (floor : List ℕ) where
  any_alive : (p : List ℕ) → Alive q o p → Alive q r p
  any_alive p = subst (λ z. NoneEmpty z) (same_rests q posed o r p)

  any_dead : (p : List ℕ) → (Alive q r p → Alive q o p) → DeadEnd q o floor p → DeadEnd q r floor p
  any_dead p back d = record {
    tried = record { some = d.tried.some; most = d.tried.most; alive = any_alive _ d.tried.alive; left = subst (λ z. In (at p (length p - 1)) (at z (length p - 1))) (same_rests q posed o r _) d.tried.left; from_floor = d.tried.from_floor };
    dead = λ l. d.dead (back l);
  }

-- and what counts is as many
pub counted_any : (q : Problem) → WellPosed q → (o r : Way q) (floor : List ℕ) (n : ℕ) (nth : ℕ → List ℕ) → Listed (Counted q o floor) n nth → Listed (Counted q r floor) n nth
counted_any q posed o r floor n nth = listed_same (Counted q o floor) (Counted q r floor) n nth
    (λ p c. record { dead_end = any_dead q posed o r floor p (any_alive q posed r o floor p) c.dead_end; before = c.before })
    (λ p c. record { dead_end = any_dead q posed r o floor p (any_alive q posed o r floor p) c.dead_end; before = c.before })

pub any_way : AnyWay
any_way q posed o r floor b a x f = record { number = f.number; nth = f.nth; says = f.says; listed = counted_any q posed o r floor f.number f.nth f.listed }
