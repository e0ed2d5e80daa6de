-- From what the walk answers to what is written.
use Rattle.std.proofs.Common.{◌≡◌, ℕ, List, [], ◌++◌, length, take, drop, sym, refl, ap, ◌∙◌, subst}
use Rattle.std.proofs.lemmas.List.{drop_at}
use Rattle.search.specs.declared.Answer.{Answer}
use Rattle.search.specs.declared.Answer.TheVariants.{Found, Nothing, Spent}
use Rattle.search.specs.Search.{Problem, events, WellPosed, FloorOf, Way, Finds}
use Rattle.search.proofs.Living.{some_way}
use Rattle.search.proofs.Floors.{from_head}
use Rattle.search.proofs.Proved.{earliest_or_none, the_number}
use Rattle.walk.specs.Walking.{to_write}
use Rattle.find.specs.Outcome.{Outcome}

module _ (q : Problem) (posed : WellPosed q) (floor : List ℕ) (from : FloorOf q floor) (budget : ℕ) (old : List ℕ) (a : Answer) where
  outcome : (written new : List ℕ) → new ≡ written ++ drop (length written) old → drop (events q) new ≡ drop (events q) old →
      ((w : Way q) → Finds q w (take (events q) floor) budget a written) → Outcome q floor budget old new a
  outcome written new b d f =
      let finds : (w : Way q) → Finds q w floor budget a written = λ w. from_head q w floor from.long budget a written (f w) in
      let way = some_way q posed in
      record { written = written; buffer = b; beyond = d; way = way; finds = finds; earliest = earliest_or_none q way floor budget a written (finds way); number = λ w. the_number q w floor budget a written (finds w) }

  -- where the walk from the floor's head came to edge and onward
  module _ (n : ℕ) (n_is : n ≡ events q) (head edge onward : List ℕ) (is_head : head ≡ take n floor) (f : (w : Way q) → Finds q w head budget a (to_write a edge onward)) where
    f' : (w : Way q) → Finds q w (take (events q) floor) budget a (to_write a edge onward)
    f' w = subst (λ z. Finds q w z budget a (to_write a edge onward)) (is_head ∙ ap (λ k. take k floor) n_is) (f w)

    wrote : (z : List ℕ) → z ≡ to_write a edge onward → length z ≡ events q → Outcome q floor budget old (z ++ drop n old) a
    wrote z is len = outcome z (z ++ drop n old) (ap (λ k. z ++ drop k old) (n_is ∙ sym len)) (ap (λ k. drop (events q) (z ++ drop k old)) n_is ∙ drop_at z (drop (events q) old) (events q) len)
        (λ w. subst (λ k. Finds q w (take (events q) floor) budget a k) (sym is) (f' w))

    pub wrote_found : (k : ℕ) → a ≡ Found k → (z : List ℕ) → z ≡ edge → length z ≡ events q → Outcome q floor budget old (z ++ drop n old) a
    wrote_found k is z e = wrote z (e ∙ ap (λ b. to_write b edge onward) (sym is))

    pub wrote_spent : (k : ℕ) → a ≡ Spent k → (z : List ℕ) → z ≡ onward → length z ≡ events q → Outcome q floor budget old (z ++ drop n old) a
    wrote_spent k is z e = wrote z (e ∙ ap (λ b. to_write b edge onward) (sym is))

    pub wrote_none : (k : ℕ) → a ≡ Nothing k → Outcome q floor budget old old a
    wrote_none k is = outcome [] old refl refl (λ w. subst (λ b. Finds q w (take (events q) floor) budget a (to_write b edge onward)) is (f' w))
