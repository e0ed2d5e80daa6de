-- The shape of a plan's contents: no set has a minute outside the period, and the marks rise up to the number of entries.
use Rattle.std.proofs.Common.{◌≡◌, ℕ, ◌+◌, ◌-◌, ◌^◌, ◌<◌, ◌≤◌, Bool, true, false, cond, Option, Some, None, List, [], ◌∷◌, ◌++◌, length, get_or, set, take, sym, refl, ap, inl, inr, ◌∙◌, subst, arith, pow_pos}
use lib.Bits.{bit_and}
use Rattle.std.specs.List.{All}
use Rattle.std.specs.List.Sorted.{IsNonDecreasing}
use Rattle.std.proofs.lemmas.List.{length_push, take_at, get_or_push, get_or_past, get_or-take}
use Rattle.std.proofs.lemmas.List.Sorted.{IsNonDecreasingBy-take, IsNonDecreasingBy-push}
use Rattle.std.proofs.lemmas.List.Elements.{All-replicate, All-get_or, All-set, All-push, All-head, All-tail}
use Rattle.std.proofs.lemmas.Nat.{and_le_l}
use Rattle.std.proofs.lemmas.Bool.{cases_lt}
use Rattle.refusals.specs.declared.Refusal.{Refusal}
use Rattle.minutes.specs.Minutes.{at}
use Rattle.calls.specs.Calls.{is_entry, unless_refused}
use Rattle.plan.specs.declared.contents.Entry.{Entry}
use Rattle.plan.specs.declared.contents.Contents.{Contents}
use Rattle.plan.specs.declared.Plan.{Plan}
use Rattle.plan.specs.Contents.{levels_in, entries_in, fresh, put, noted, cutting, given_back}

pub sets_fresh : (p : Contents) (T E : ℕ) → p ≡ fresh T E → All (λ set. set < 2 ^ p.period) p.allowed
sets_fresh p T E is = subst (λ (q : Contents). All (λ set. set < 2 ^ q.period) q.allowed) (sym is) (All-replicate (λ set. set < 2 ^ T) 256 (2 ^ T - 1) (omega (arith, pow_pos T)))

pub set_below : (p : Plan) (i : ℕ) → at p.contents.allowed i < 2 ^ p.contents.period
set_below p i = elim (cases_lt i (length p.contents.allowed)) [
  | inl l ↦ All-get_or (λ set. set < 2 ^ p.contents.period) p.contents.allowed i 0 l p.sets
  | inr l ↦ subst (λ v. v < 2 ^ p.contents.period) (sym (get_or_past p.contents.allowed i 0 l)) (pow_pos p.contents.period)
]

pub sets_back : (P : ℕ → Type 0) (es : List Entry) (f : List ℕ) → All (λ (e : Entry). P e.set) es → All P f → All P (given_back es f)
sets_back P [] f h g = g
sets_back P (e ∷ es) f h g = All-set P (given_back es f) e.place e.set (All-head (λ (e : Entry). P e.set) e es h) (sets_back P es f (All-tail (λ (e : Entry). P e.set) e es h) g)

module _ (marks : List ℕ) (n : ℕ) (rise : IsNonDecreasing (marks ++ n ∷ [])) where
  alone : take (length marks) (marks ++ n ∷ []) ≡ marks
  alone = take_at marks (n ∷ []) (length marks) refl

  pub rise_alone : IsNonDecreasing marks
  rise_alone = subst IsNonDecreasing alone (IsNonDecreasingBy-take (λ x. x) (length marks) (marks ++ n ∷ []) rise)

  pub last_mark : (d : ℕ) → 0 < length marks → get_or marks (length marks - 1) d ≤ n
  last_mark d some =
      let same : get_or (marks ++ n ∷ []) (length marks - 1) d ≡ get_or marks (length marks - 1) d =
      sym (get_or-take (length marks) (marks ++ n ∷ []) (length marks - 1) d (omega arith)) ∙ ap (λ xs. get_or xs (length marks - 1) d) alone in
      omega (arith, same, get_or_push marks n d (length marks) refl, rise (length marks - 1) (length marks) d (omega arith) (omega (arith, length_push marks n)))

  -- with an entry more
  pub rise_on : (more : ℕ) → n ≤ more → IsNonDecreasing (marks ++ more ∷ [])
  rise_on more h = IsNonDecreasingBy-push (λ x. x) marks more rise_alone (λ d some. omega (arith, last_mark d some, h))

  -- where the last mark is k
  pub last_low : (rest : List ℕ) (k : ℕ) → marks ≡ rest ++ k ∷ [] → k ≤ n
  last_low rest k is =
      let long : length marks ≡ length rest + 1 = ap length is ∙ length_push rest k in
      let last : get_or marks (length marks - 1) 0 ≡ k = ap (λ xs. get_or xs (length marks - 1) 0) is ∙ get_or_push rest k 0 _ (omega (arith, long)) in
      omega (arith, last, last_mark 0 (omega (arith, long)))

-- what a plan's ghost fields say of sets and marks
pub record Shaped (p : Contents) : Type 0 where
  pub sets : All (λ set. set < 2 ^ p.period) p.allowed
  pub cuts : All (λ (e : Entry). e.set < 2 ^ p.period) p.trail.items
  pub marks : IsNonDecreasing (p.marks.items ++ entries_in p ∷ [])

module _ (p : Plan) (k s : ℕ) where
  abbrev old : ℕ
  old = at p.contents.allowed k

  abbrev entry : Entry
  entry = record { place = k; set = old }

  -- a cut of the set at place k, whether it is refused or an entry or neither
  pub shaped_cut : (x : Option Refusal) (q : Contents) → q ≡ unless_refused x (cutting k s p.contents) p.contents → Shaped q
  shaped_cut x q is = subst Shaped (sym is) (by x (is_entry (levels_in p.contents) old s))
    where
      left : All (λ set. set < 2 ^ p.contents.period) (set p.contents.allowed k (bit_and old s))
      left = All-set (λ set. set < 2 ^ p.contents.period) p.contents.allowed k (bit_and old s) (omega (arith, and_le_l old s, set_below p k)) p.sets

      by : (x : Option Refusal) (b : Bool) → Shaped (unless_refused x (put k (bit_and old s) (cond b (noted k p.contents) p.contents)) p.contents)
      by (Some r) b = record { sets = p.sets; cuts = p.cuts; marks = p.marks }
      by None false = record { sets = left; cuts = p.cuts; marks = p.marks }
      by None true = record {
        sets = left;
        cuts = All-push (λ (e : Entry). e.set < 2 ^ p.contents.period) p.contents.trail.items entry p.cuts (set_below p k);
        marks = rise_on p.contents.marks.items (entries_in p.contents) p.marks _ (omega (arith, length_push p.contents.trail.items entry));
      }
