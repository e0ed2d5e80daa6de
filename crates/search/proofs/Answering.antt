-- An answer is one.
use Rattle.std.proofs.Common.{◌≡◌, ℕ, zero, suc, ◌<◌, List, sym, refl, ap, ◌∙◌, subst, inl, inr, arith}
use Rattle.search.specs.Search.{Problem, events, Way, Sought, Counted, FirstAfter, NextFloor, Says, Finds}
use Rattle.search.specs.declared.Answer.{Answer}
use Rattle.search.specs.declared.Answer.TheVariants.{Found, Nothing, Spent}
use Rattle.search.proofs.Orders.{before_irreflexive, before_trans, two_timetables}
use Rattle.search.proofs.Listing.{agrees, same_number}

pub one_first : (T E : ℕ) (p y z : List ℕ) → FirstAfter T E p y → FirstAfter T E p z → y ≡ z
one_first T E p y z f g = elim (two_timetables T E y z f.timetable g.timetable) [
  | inl e ↦ e
  | inr (inl b) ↦ absurd (g.first y f.timetable f.after b)
  | inr (inr b) ↦ absurd (f.first z g.timetable g.after b)
]

pub one_sought : (q : Problem) (floor x y : List ℕ) → Sought q floor x → Sought q floor y → x ≡ y
one_sought q floor x y a b = elim (a.earliest y b.solves) [
  | inl e ↦ sym e
  | inr u ↦ elim (b.earliest x a.solves) [ inl e ↦ e | inr v ↦ absurd (before_irreflexive x (before_trans x y x u v)) ]
]

-- two answers are the same
module _ (q : Problem) (o : Way q) (floor : List ℕ) (b : ℕ) (a c : Answer) (x y : List ℕ) (f : Finds q o floor b a x) (g : Finds q o floor b c y) where
  pub one_number : f.number ≡ g.number
  one_number = same_number (Counted q o floor) f.number g.number f.nth g.nth f.listed g.listed

  one_next : (b : ℕ) → b < f.number → NextFloor q floor b f.nth x → NextFloor q floor b g.nth y → x ≡ y
  one_next zero l u v = u.given refl ∙ sym (v.given refl)
  one_next (suc b) l u v = one_first q.meaning.period (events q) (g.nth b) x y
      (subst (λ z. FirstAfter q.meaning.period (events q) z x) (agrees (Counted q o floor) f.number g.number f.nth g.nth f.listed g.listed b (omega arith)).1 (u.after b refl))
      (v.after b refl)

  pub one_answer : (a ≡ c) × (x ≡ y)
  one_answer = go a c f.says g.says
    where
      go : (a c : Answer) → Says q floor b f.number f.nth a x → Says q floor b g.number g.nth c y → (a ≡ c) × (x ≡ y)
      go (Found k) (Found l) s t = (ap Found (let e : k ≡ l = omega (arith, s.0, t.0, one_number) in e), one_sought q floor x y s.2 t.2)
      go (Found k) (Nothing l) s t = absurd (t.2 x s.2.solves)
      go (Found k) (Spent l) s t = absurd (omega (arith, s.1, t.1, one_number))
      go (Nothing k) (Found l) s t = absurd (s.2 y t.2.solves)
      go (Nothing k) (Nothing l) s t = (ap Nothing (let e : k ≡ l = omega (arith, s.0, t.0, one_number) in e), s.3 ∙ sym t.3)
      go (Nothing k) (Spent l) s t = absurd (omega (arith, s.1, t.1, one_number))
      go (Spent k) (Found l) s t = absurd (omega (arith, s.1, t.1, one_number))
      go (Spent k) (Nothing l) s t = absurd (omega (arith, s.1, t.1, one_number))
      go (Spent k) (Spent l) s t = (ap Spent (let e : k ≡ l = omega (arith, s.0, t.0) in e), one_next b s.1 s.2 t.2)
