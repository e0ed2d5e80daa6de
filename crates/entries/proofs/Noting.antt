-- One field more of a line is noted.
use Rattle.std.proofs.Common.{◌≡◌, ℕ, suc, ◌+◌, ◌<◌, ◌≤◌, ◌⊎◌, List, [], ◌∷◌, ◌++◌, map, length, get_or, set, Some, None, Option, sym, refl, ap, ◌∙◌, subst, inl, inr, arith, length-append, length-set, get_or-set_other, get_or-set_same}
use mathlib.Core.List.{map-append}
use Rattle.std.specs.Option.{option_or}
use Rattle.std.proofs.lemmas.List.{get_or_append_left, get_or_push, get_or_past}
use Rattle.std.proofs.lemmas.Bool.{cases_order}
use Rattle.text.specs.Fields.{number, trimmed}
use Rattle.entries.specs.declared.numerals.Numerals.{Numerals}
use Rattle.entries.specs.Form.{no_number, value_or_zero, value_at}
use Rattle.entries.specs.Noted.{Noted}

-- a number changes nothing of the first field that is none
no_number_some : (i : ℕ) (vs : List (Option ℕ)) (v : ℕ) → no_number i (vs ++ Some v ∷ []) ≡ no_number i vs
no_number_some i [] v = refl
no_number_some i (None ∷ vs) v = refl
no_number_some i (Some w ∷ vs) v = no_number_some (suc i) vs v

-- what is no number is the first such field, unless one stands before it
no_number_none : (i : ℕ) (vs : List (Option ℕ)) → no_number i (vs ++ None ∷ []) ≡ option_or (no_number i vs) (Some (i + length vs))
no_number_none i [] = ap Some (omega arith)
no_number_none i (None ∷ vs) = refl
no_number_none i (Some w ∷ vs) = no_number_none (suc i) vs ∙ ap (λ k. option_or (no_number (suc i) vs) (Some k)) (omega arith)

module _ (vs : List (Option ℕ)) (v : Option ℕ) where
  before : (j : ℕ) → j < length vs → value_at (vs ++ v ∷ []) j ≡ value_at vs j
  before j h = ap value_or_zero (get_or_append_left vs (v ∷ []) None j h)

  here : (j : ℕ) → length vs ≡ j → value_at (vs ++ v ∷ []) j ≡ value_or_zero v
  here j h = ap value_or_zero (get_or_push vs v None j h)

  beyond : (j : ℕ) → length vs < j → value_at (vs ++ v ∷ []) j ≡ 0
  beyond j h = ap value_or_zero (get_or_past (vs ++ v ∷ []) j None (simp length-append (omega arith)))

past : (vs : List (Option ℕ)) (j : ℕ) → length vs ≤ j → value_at vs j ≡ 0
past vs j h = ap value_or_zero (get_or_past vs j None h)

-- a value that is 0, or comes after the eighth, is noted by the count alone
same_values : (vs : List (Option ℕ)) (v : Option ℕ) → (value_or_zero v ≡ 0) ⊎ (8 ≤ length vs) → (j : ℕ) → j < 8 →
    value_at vs j ≡ value_at (vs ++ v ∷ []) j
same_values vs v z j h = elim (cases_order j (length vs)) [
  | inl eq ↦ omega (arith, here vs v j (sym eq), past vs j (omega (arith, eq)), eq, z)
  | inr (inl lt) ↦ sym (before vs v j lt)
  | inr (inr gt) ↦ past vs j (omega (arith, gt)) ∙ sym (beyond vs v j gt)
]

-- any other is written at its place
set_values : (vs : List (Option ℕ)) (v : ℕ) (xs : List ℕ) → length xs ≡ 8 → length vs < 8 → ((j : ℕ) → j < 8 → get_or xs j 0 ≡ value_at vs j) →
    (j : ℕ) → j < 8 → get_or (set xs (length vs) v) j 0 ≡ value_at (vs ++ Some v ∷ []) j
set_values vs v xs long room known j h = elim (cases_order j (length vs)) [
  | inl eq ↦ ap (λ k. get_or (set xs k v) j 0) (sym eq) ∙ get_or-set_same xs j v 0 (omega arith) ∙ sym (here vs (Some v) j (sym eq))
  | inr (inl lt) ↦ get_or-set_other xs (length vs) j v 0 (omega (arith, lt)) ∙ known j h ∙ sym (before vs (Some v) j lt)
  | inr (inr gt) ↦ get_or-set_other xs (length vs) j v 0 (omega (arith, gt)) ∙ known j h ∙ past vs j (omega (arith, gt)) ∙ sym (beyond vs (Some v) j gt)
]

module _ (i : ℕ) (vs : List (Option ℕ)) (n : Numerals) (noted : Noted i vs n) where
  one_more : (v : Option ℕ) → n.count + 1 ≡ length (vs ++ v ∷ [])
  one_more v = simp length-append (omega (arith, noted.count))

  -- the eighth number or one before it, one after that, and a field that is no number
  pub noted_at : (v : ℕ) → n.count < 8 → Noted i (vs ++ Some v ∷ []) (record { count = n.count + 1; bad = n.bad; values = set n.values n.count v })
  noted_at v h = record {
    count = one_more (Some v);
    bad = noted.bad ∙ sym (no_number_some i vs v);
    long = simp length-set noted.long;
    nth = λ j l. ap (λ k. get_or (set n.values k v) j 0) noted.count ∙ set_values vs v n.values noted.long (omega (arith, noted.count)) noted.nth j l;
  }

  pub noted_past : (v : ℕ) → 8 ≤ n.count → Noted i (vs ++ Some v ∷ []) (record { count = n.count + 1; bad = n.bad; values = n.values })
  noted_past v h = record {
    count = one_more (Some v);
    bad = noted.bad ∙ sym (no_number_some i vs v);
    long = noted.long;
    nth = λ j l. noted.nth j l ∙ same_values vs (Some v) (inr (omega (arith, noted.count))) j l;
  }

  pub noted_bad : (field : ℕ) → field ≡ i + length vs → Noted i (vs ++ None ∷ []) (record { count = n.count + 1; bad = option_or n.bad (Some field); values = n.values })
  noted_bad field f = record {
    count = one_more None;
    bad = (λ k. option_or (noted.bad k) (Some (f k))) ∙ sym (no_number_none i vs);
    long = noted.long;
    nth = λ j l. noted.nth j l ∙ same_values vs None (inl refl) j l;
  }

-- a field behind others
pub noted_field : (i : ℕ) (fs : List (List ℕ)) (f : List ℕ) (v : Option ℕ) (n : Numerals) → v ≡ number (trimmed f) →
    Noted i (map number (map trimmed fs) ++ v ∷ []) n → Noted i (map number (map trimmed (fs ++ f ∷ []))) n
noted_field i fs f v n e h =
    let same : map number (map trimmed fs) ++ v ∷ [] ≡ map number (map trimmed (fs ++ f ∷ [])) =
    ap (λ w. map number (map trimmed fs) ++ w ∷ []) e ∙ sym (map-append number (map trimmed fs) (trimmed f ∷ [])) ∙ ap (map number) (sym (map-append trimmed fs (f ∷ []))) in
    subst (λ vs. Noted i vs n) same h
