-- Only the minutes of a floor's first events count.
use Rattle.std.proofs.Common.{◌≡◌, ℕ, ◌<◌, ◌≤◌, List, length, take, sym, ◌∙◌, arith}
use Rattle.std.proofs.lemmas.List.{ext_get_or, length-take, get_or-take}
use Rattle.minutes.specs.Minutes.{at, Before}
use Rattle.search.specs.Search.{Problem, events, FloorOf, Way, DeadEnd, Solves, Sought, Counted, Says, Finds}
use Rattle.search.specs.declared.Answer.{Answer}
use Rattle.search.specs.declared.Answer.TheVariants.{Found, Nothing, Spent}
use Rattle.search.proofs.Listing.{listed_same}

module _ (q : Problem) (o : Way q) (y z : List ℕ) (E≤y : events q ≤ length y) (E≤z : events q ≤ length z) (same : (j : ℕ) → j < events q → at y j ≡ at z j) where
  swap : (p : List ℕ) → length p ≤ events q → Before p y → Before p z
  swap p l b = record { place = b.place; in_x = b.in_x; in_y = omega (arith, b.in_x); same = λ j h. b.same j h ∙ same j (omega (arith, b.in_x)); less = omega (arith, b.less, same b.place (omega (arith, b.in_x))) }

  pub swap_dead : (p : List ℕ) → DeadEnd q o z p → DeadEnd q o y p
  swap_dead p d = record { tried = record { some = d.tried.some; most = d.tried.most; alive = d.tried.alive; left = d.tried.left; from_floor = λ b. d.tried.from_floor (swap p d.tried.most b) }; dead = d.dead }

  pub swap_solves : (x : List ℕ) → Solves q z x → Solves q y x
  swap_solves x s = record { timetable = s.timetable; from_floor = λ b. s.from_floor (swap x (omega (arith, s.timetable.len)) b); allowed = s.allowed; meets = s.meets }

module _ (q : Problem) (o : Way q) (y z : List ℕ) (E≤y : events q ≤ length y) (E≤z : events q ≤ length z) (same : (j : ℕ) → j < events q → at y j ≡ at z j) where
  back : (j : ℕ) → j < events q → at z j ≡ at y j
  back j h = sym (same j h)

  to : (x : List ℕ) → Sought q z x → Sought q y x
  to x s = record { solves = swap_solves q o y z E≤y E≤z same x s.solves; earliest = λ w k. s.earliest w (swap_solves q o z y E≤z E≤y back w k) }

  fro : (x : List ℕ) → Sought q y x → Sought q z x
  fro x s = record { solves = swap_solves q o z y E≤z E≤y back x s.solves; earliest = λ w k. s.earliest w (swap_solves q o y z E≤y E≤z same w k) }

  heads : take (events q) z ≡ take (events q) y
  heads = ext_get_or 0 _ _ (omega (arith, length-take (events q) z, length-take (events q) y)) (λ j h. let l : j < events q = omega (arith, length-take (events q) z) in get_or-take (events q) z j 0 l ∙ back j l ∙ sym (get_or-take (events q) y j 0 l))

  pub same_floor : (b : ℕ) (a : Answer) (w : List ℕ) → Finds q o z b a w → Finds q o y b a w
  same_floor b a w f = record {
    number = f.number;
    nth = f.nth;
    listed = listed_same (Counted q o z) (Counted q o y) f.number f.nth
        (λ p c. record { dead_end = swap_dead q o y z E≤y E≤z same p c.dead_end; before = λ x s. c.before x (fro x s) })
        (λ p c. record { dead_end = swap_dead q o z y E≤z E≤y back p c.dead_end; before = λ x s. c.before x (to x s) })
        f.listed;
    says = go a f.says;
  }
    where
      go : (a : Answer) → Says q z b f.number f.nth a w → Says q y b f.number f.nth a w
      go (Found k) s = (s.0, s.1, to w s.2)
      go (Nothing k) s = (s.0, s.1, (λ x u. s.2 x (swap_solves q o z y E≤z E≤y back x u)), s.3)
      go (Spent k) s = (s.0, s.1, record { given = λ e. s.2.given e ∙ heads; after = s.2.after })

pub from_head : (q : Problem) (o : Way q) (floor : List ℕ) → events q ≤ length floor → (b : ℕ) (a : Answer) (w : List ℕ) → Finds q o (take (events q) floor) b a w → Finds q o floor b a w
from_head q o floor h b a w = same_floor q o floor (take (events q) floor) h (omega (arith, length-take (events q) floor)) (λ j l. sym (get_or-take (events q) floor j 0 l)) b a w

pub head_from : (q : Problem) (floor : List ℕ) → FloorOf q floor → FloorOf q (take (events q) floor)
head_from q floor f = record { long = omega (arith, length-take (events q) floor, f.long); minute = λ i h. omega (arith, get_or-take (events q) floor i 0 h, f.minute i h) }
