-- The calls of a bank that holds a table of records, one relation for each.
use Rattle.std.proofs.Common.{◌≡◌, ℕ, Bool, true, false, List, map, length, get_or, take, sym, ap, ◌∙◌}
use Rattle.std.proofs.lemmas.List.{length-map}
use Rattle.relations.specs.Meaning.{Relation}
use Rattle.relations.proofs.Tabling.{relation_at}
use Rattle.bank.specs.Calls.{meant, in_limits, all_below, answer, Narrows}
use Rattle.bank.proofs.Answering.{limits_are, answer_outside, answer_late, answer_inside, narrows_outside, narrows_inside}

module _ {A : Type 0} (f : A → Relation) (T reach : ℕ) (rs : List A) (k r : ℕ) (same : r ≡ reach) where
  size_is : length rs ≡ length (map f rs)
  size_is = sym (length-map rs f)

  pub holds_outside : (x : List ℕ) → in_limits (length rs) r k (length x) ≡ false → false ≡ answer (meant T reach (map f rs)) k x
  holds_outside = answer_outside (meant T reach (map f rs)) k (length rs) r size_is same

  pub holds_late : (x : List ℕ) → in_limits (length rs) r k (length x) ≡ true → all_below T (take r x) ≡ false →
      false ≡ answer (meant T reach (map f rs)) k x
  holds_late = answer_late (meant T reach (map f rs)) k (length rs) r size_is same

  pub holds_inside : (x : List ℕ) (b : Bool) (d : A) → in_limits (length rs) r k (length x) ≡ true → all_below T (take r x) ≡ true →
      b ≡ (f (get_or rs k d)).condition x → b ≡ answer (meant T reach (map f rs)) k x
  holds_inside x b d l a e = answer_inside (meant T reach (map f rs)) k (length rs) r size_is same x b l a
      (e ∙ ap (λ q. q.condition x) (sym (relation_at f rs k d (limits_are (length rs) r k (length x) l).number)))

  pub narrow_outside : (g : List ℕ) → in_limits (length rs) r k (length g) ≡ false → Narrows (meant T reach (map f rs)) k g g false
  narrow_outside = narrows_outside (meant T reach (map f rs)) k (length rs) r size_is same

  pub narrow_inside : (g h : List ℕ) (b : Bool) (d : A) → in_limits (length rs) r k (length g) ≡ true → h ≡ (f (get_or rs k d)).narrowing g →
      (b ≡ true → h ≡ g → ⊥) → (b ≡ false → h ≡ g) → Narrows (meant T reach (map f rs)) k g h b
  narrow_inside g h b d l e = narrows_inside (meant T reach (map f rs)) k (length rs) r size_is same g h b l
      (e ∙ ap (λ q. q.narrowing g) (sym (relation_at f rs k d (limits_are (length rs) r k (length g) l).number)))
