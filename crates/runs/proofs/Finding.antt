-- The finds of a list whose calls have their replies.
use Rattle.std.proofs.Common.{◌≡◌, ℕ, zero, suc, ◌+◌, ◌-◌, ◌<◌, ◌≤◌, true, false, not, ◌||◌, eqb, ltb, List, ◌++◌, length, take, drop, None, sym, refl, ap, ◌∙◌, subst, inl, inr, arith}
use Rattle.std.proofs.lemmas.Bool.{cases_lt, ltb-false, or_parts, not-false, eqb-true}
use Rattle.std.proofs.lemmas.List.{length-take, take_at, take_all, get_or_past}
use Rattle.refusals.specs.declared.Refusal.TheVariants.{Short, Range, Bank}
use Rattle.minutes.specs.Minutes.{In, at}
use Rattle.minutes.proofs.Sets.{no_minute}
use Rattle.relations.specs.Meaning.{Meaning, Laws, size}
use Rattle.bank.specs.Calls.{all_below}
use Rattle.bank.proofs.Answering.{below_place}
use Rattle.calls.specs.Calls.{Call, Ledger, family, ledger, bank_unfit, find_refusal}
use Rattle.calls.proofs.Lists.{from_length}
use Rattle.calls.proofs.Allowing.{family_right}
use Rattle.left.proofs.Leaving.{fits_size, fits_reach}
use Rattle.search.specs.declared.Answer.{Answer}
use Rattle.search.specs.declared.Answer.TheVariants.{Found, Nothing, Spent}
use Rattle.search.specs.Search.{Problem, events, WellPosed, FloorOf, Says}
use Rattle.search.specs.Theorems.{problem, SameMeaning}
use Rattle.find.specs.Outcome.{Outcome}
use Rattle.runs.specs.Law.{list_of}
use Rattle.runs.proofs.Calling.{open_test, open_rest}

-- what the tests of a find leave
pub record Fits (T E : ℕ) (m : Meaning) (floor : List ℕ) : Type 0 where
  pub long : E ≤ length floor
  pub below : all_below T (take E floor) ≡ true
  pub bank : bank_unfit T E m ≡ false

pub fits : (T E : ℕ) (m : Meaning) (floor : List ℕ) (n w : ℕ) → find_refusal T E m floor n w ≡ None → Fits T E m floor
fits T E m floor n w h =
    let a = open_rest (ltb (length floor) E || (ltb n E || ltb w 4096)) Short _ h in
    record {
      long = ltb-false (length floor) E (or_parts (ltb (length floor) E) _ (open_test (ltb (length floor) E || (ltb n E || ltb w 4096)) Short _ h)).0;
      below = not-false (all_below T (take E floor)) (open_test (not (all_below T (take E floor))) Range _ a);
      bank = open_test (bank_unfit T E m) Bank None (open_rest (not (all_below T (take E floor))) Range _ a);
    }

pub fits_period : (T E : ℕ) (m : Meaning) → bank_unfit T E m ≡ false → m.period ≡ T
fits_period T E m h = eqb-true m.period T (not-false _ (or_parts (not (eqb m.period T)) _ (or_parts (ltb 512 (size m)) _ h).1).0)

-- no minute of the allowed family is outside the period
allowed_below : (T E : ℕ) (cs : List Call) (j t : ℕ) → In t (at (family T E (ledger T E cs)) j) → t < T
allowed_below T E cs j t h = elim (cases_lt j E) [
  | inl l ↦ let e : j ≡ j + 1 - 1 = omega arith in
      (family_right T E cs (j + 1) t (omega arith) (omega arith)).below (subst (λ z. In t (at (family T E (ledger T E cs)) z)) e h)
  | inr l ↦ absurd (no_minute t (subst (λ z. In t z) (get_or_past (family T E (ledger T E cs)) j 0 (omega (arith, from_length T (ledger T E cs) 1 E))) h))
]

module _ (T E : ℕ) (least : 2 ≤ T) (most : T ≤ 64) (some : 1 ≤ E) (many : E ≤ 256) (cs : List Call) where
  pub len : (l : Ledger) → length (family T E l) ≡ E
  len l = from_length T l 1 E

  pub posed : (m : Meaning) → Laws m → bank_unfit T E m ≡ false → WellPosed (problem m (family T E (ledger T E cs)))
  posed m laws h =
      let e = fits_period T E m h in
      record {
        laws = laws;
        relations = fits_size T E m h;
        reach = omega (arith, fits_reach T E m h, len (ledger T E cs));
        least = omega (arith, e);
        most = omega (arith, e);
        some = omega (arith, len (ledger T E cs));
        many = omega (arith, len (ledger T E cs));
        minutes = λ j t i. omega (arith, e, allowed_below T E cs j t i);
      }

  pub floor_of : (m : Meaning) (floor : List ℕ) → m.period ≡ T → E ≤ length floor → all_below T (take E floor) ≡ true → FloorOf (problem m (family T E (ledger T E cs))) floor
  floor_of m floor e l h = record {
    long = omega (arith, len (ledger T E cs));
    minute = λ i u. omega (arith, e, below_place T E floor i h (omega (arith, len (ledger T E cs))) (omega (arith, len (ledger T E cs))));
  }

  -- a meaning that is the same as one that fits
  pub same_posed : (m o : Meaning) → Laws o → SameMeaning m o → WellPosed (problem m (family T E (ledger T E cs))) → WellPosed (problem o (family T E (ledger T E cs)))
  same_posed m o laws s p = record {
    laws = laws;
    relations = omega (arith, s.number, p.relations);
    reach = omega (arith, s.reach, p.reach);
    least = omega (arith, s.period, p.least);
    most = omega (arith, s.period, p.most);
    some = p.some;
    many = p.many;
    minutes = λ j t i. omega (arith, s.period, p.minutes j t i);
  }

-- what a find wrote to its places
full : (E : ℕ) (written old new : List ℕ) → new ≡ written ++ drop (length written) old → length new ≡ E → length written ≡ E → written ≡ new
full E written old new b n e = sym (take_at written (drop (length written) old) E e) ∙ ap (take E) (sym b) ∙ take_all E new (omega arith)

pub written_is : (q : Problem) (E : ℕ) → events q ≡ E → (floor : List ℕ) → E ≤ length floor → (budget : ℕ) (old new : List ℕ) (a : Answer) → length new ≡ E →
    (o : Outcome q floor budget old new a) → o.written ≡ list_of a new
written_is q E e floor l budget old new a n o = go a (o.finds o.way).says
  where
    go : (a : Answer) → Says q floor budget (o.finds o.way).number (o.finds o.way).nth a o.written → o.written ≡ list_of a new
    go (Found k) s = full E o.written old new o.buffer n (s.2.solves.timetable.len ∙ e)
    go (Nothing k) s = s.3
    go (Spent k) s = full E o.written old new o.buffer n (long budget refl)
      where
        long : (b : ℕ) → budget ≡ b → length o.written ≡ E
        long zero z = ap length (s.2.given z) ∙ length-take (events q) floor ∙ (let y : _ ≡ E = omega arith in y)
        long (suc b) z = (s.2.after b z).timetable.len ∙ e
