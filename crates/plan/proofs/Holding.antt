-- What an accepted call makes of contents that hold a ledger.
use Rattle.std.proofs.Common.{◌≡◌, ℕ, zero, suc, ◌-◌, ◌^◌, ◌<◌, ◌≤◌, Bool, true, false, cond, ltb, List, [], ◌∷◌, take, set, sym, refl, ap, ◌∙◌, subst, inl, inr, add-one, arith}
use lib.Bits.{bit_and}
use Rattle.std.proofs.lemmas.Bool.{and_cases, and_parts, not-false, eqb-true, ltb-true, ltb-false}
use Rattle.std.proofs.lemmas.List.{set-get_or, get_or-take, take-replicate, length-take-le, length_push}
use Rattle.minutes.specs.Minutes.{at}
use Rattle.calls.specs.Calls.{Ledger, level, allowed, closed, family, is_entry}
use Rattle.calls.proofs.Lists.{family_cut, family_new}
use Rattle.plan.specs.declared.contents.Contents.{Contents}
use Rattle.plan.specs.Contents.{levels_in, entries_in, fresh, sets_of, put, noted, allowing, opening, shutting}
use Rattle.plan.specs.Decided.{Shows, Holds}
use Rattle.plan.proofs.Undoing.{shut_opened, shut_noted}

pub holds_shows : (n : ℕ) (p : Contents) (l : Ledger) → Holds n p l → Shows p l
holds_shows zero p l h = h
holds_shows (suc n) p l h = h.0

-- make
pub holds_new : (T E : ℕ) → E ≤ 256 → Holds 0 (fresh T E) []
holds_new T E h = record { sets = take-replicate E 256 (2 ^ T - 1) h ∙ sym (family_new T 1 E); levels = refl; entries = refl }

-- open
pub holds_open : (p : Contents) (l : Ledger) (c : ℕ) → Holds (levels_in p) p l → Holds (levels_in (opening p)) (opening p) (level c ∷ l)
holds_open p l c h =
    let one : suc (levels_in p) ≡ levels_in (opening p) = sym (length_push p.marks.items (entries_in p) ∙ add-one (levels_in p)) in
    let s = holds_shows (levels_in p) p l h in
    subst (λ n. Holds n (opening p) (level c ∷ l)) one (
      record { sets = s.sets; levels = sym one ∙ ap suc s.levels; entries = s.entries },
      subst (λ q. Holds (levels_in p) q l) (sym (shut_opened p)) h,
    )

-- shut
pub holds_shut : (p : Contents) (l : Ledger) → 0 < levels_in p → Holds (levels_in p) p l → Holds (levels_in (shutting p)) (shutting p) (closed l)
holds_shut p l deep h = subst (λ n. Holds n (shutting p) (closed l)) (sym (length-take-le (levels_in p - 1) p.marks.items (omega arith))) (go (levels_in p) deep h)
  where
    go : (n : ℕ) → 0 < n → Holds n p l → Holds (n - 1) (shutting p) (closed l)
    go zero u t = absurd (omega arith)
    go (suc n) u t = subst (λ k. Holds k (shutting p) (closed l)) (let w : n ≡ suc n - 1 = omega arith in w) t.1

take_set_in : (n : ℕ) (f : List ℕ) (k v : ℕ) → k < n → take n (set f k v) ≡ set (take n f) k v
take_set_in zero f k v h = absurd (omega arith)
take_set_in (suc n) [] k v h = refl
take_set_in (suc n) (a ∷ f) zero v h = refl
take_set_in (suc n) (a ∷ f) (suc k) v h = ap (λ z. a ∷ z) (take_set_in n f k v (omega arith))

module _ (p : Contents) (l : Ledger) (c e s : ℕ) (low : 0 < e) (high : e ≤ p.events) where
  old : at (sets_of p) (e - 1) ≡ at p.allowed (e - 1)
  old = get_or-take p.events p.allowed (e - 1) 0 (omega arith)

  abbrev cut : ℕ
  cut = bit_and (at p.allowed (e - 1)) s

  -- the sets after an allow, whether or not it is an entry
  sets_cut : (b : Bool) → sets_of p ≡ family p.period p.events l → take p.events (set p.allowed (e - 1) cut) ≡ family p.period p.events (allowed c e s b ∷ l)
  sets_cut b h =
      take_set_in p.events p.allowed (e - 1) _ (omega arith)
      ∙ ap (λ v. set (sets_of p) (e - 1) (bit_and v s)) (sym old)
      ∙ ap (λ f. set f (e - 1) (bit_and (at f (e - 1)) s)) h
      ∙ sym (family_cut p.period c s b l p.events e low high)

  -- an allow that is an entry
  holds_entry : 0 < levels_in p → at p.marks.items (levels_in p - 1) ≤ entries_in p → Holds (levels_in p) p l → Holds (levels_in p) (put (e - 1) cut (noted (e - 1) p)) (allowed c e s true ∷ l)
  holds_entry deep mark h = go (levels_in p) deep h
    where
      go : (n : ℕ) → 0 < n → Holds n p l → Holds n (put (e - 1) cut (noted (e - 1) p)) (allowed c e s true ∷ l)
      go zero u t = absurd (omega arith)
      go (suc n) u t = (
        record { sets = sets_cut true t.0.sets; levels = t.0.levels; entries = length_push p.trail.items _ ∙ add-one (entries_in p) ∙ ap suc t.0.entries },
        subst (λ q. Holds n q (closed l)) (sym (shut_noted p (e - 1) cut mark)) t.1,
      )

  -- an allow that is none: while a level is open it takes no minute away
  holds_cut : is_entry (levels_in p) (at (sets_of p) (e - 1)) s ≡ false → Holds (levels_in p) p l → Holds (levels_in p) (put (e - 1) cut p) (allowed c e s false ∷ l)
  holds_cut none h = go (levels_in p) refl h
    where
      kept : 0 < levels_in p → set p.allowed (e - 1) cut ≡ p.allowed
      kept deep =
          let same : bit_and (at (sets_of p) (e - 1)) s ≡ at (sets_of p) (e - 1) = elim (and_cases (ltb 0 (levels_in p)) _ none) [
            | inl u ↦ absurd (omega (arith, ltb-false 0 (levels_in p) u))
            | inr u ↦ eqb-true _ _ (not-false _ u)
          ] in
          ap (set p.allowed (e - 1)) (ap (λ v. bit_and v s) (sym old) ∙ same ∙ old) ∙ set-get_or p.allowed (e - 1) 0

      go : (n : ℕ) → levels_in p ≡ n → Holds n p l → Holds n (put (e - 1) cut p) (allowed c e s false ∷ l)
      go zero w t = record { sets = sets_cut false t.sets; levels = t.levels; entries = t.entries }
      go (suc n) w t = (
        record { sets = sets_cut false t.0.sets; levels = t.0.levels; entries = t.0.entries },
        subst (λ f. Holds n (shutting (record { period = p.period; events = p.events; allowed = f; marks = p.marks; trail = p.trail })) (closed l)) (sym (kept (omega arith))) t.1,
      )

  -- an allow, whichever it is
  pub holds_allowing : (0 < levels_in p → at p.marks.items (levels_in p - 1) ≤ entries_in p) → Holds (levels_in p) p l
      → Holds (levels_in (allowing e s p)) (allowing e s p) (allowed c e s (is_entry (levels_in p) (at (sets_of p) (e - 1)) s) ∷ l)
  holds_allowing mark h = go (is_entry (levels_in p) (at (sets_of p) (e - 1)) s) refl
    where
      go : (b : Bool) → is_entry (levels_in p) (at (sets_of p) (e - 1)) s ≡ b → let q = put (e - 1) cut (cond b (noted (e - 1) p) p) in Holds (levels_in q) q (allowed c e s b ∷ l)
      go true is = let deep = ltb-true 0 (levels_in p) (and_parts (ltb 0 (levels_in p)) _ is).0 in holds_entry deep (mark deep) h
      go false is = holds_cut is h
