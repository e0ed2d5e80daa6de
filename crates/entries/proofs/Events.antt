-- One event more of a line is tested.
use Rattle.std.proofs.Common.{◌≡◌, ℕ, suc, ◌+◌, ◌-◌, ◌<◌, ◌≤◌, Bool, true, false, zero, cond, not, ◌&&◌, List, [], ◌∷◌, ◌++◌, length, get_or, take, drop, Some, None, Option, IfNone, sym, ap, ◌∙◌, inl, inr, add-one, arith, length-drop, length-take, get_or-drop, get_or-take}
use Rattle.std.proofs.lemmas.List.{at_drop_more, at_drop_all, take_more, get_or_past}
use Rattle.std.proofs.lemmas.Bool.{cases_lt}
use Rattle.entries.specs.Tests.{from_to, named, first_wrong}

module _ (E first : ℕ) (es : List ℕ) where
  -- the i-th event may stand where it does
  abbrev pub right_at : ℕ → Bool
  right_at i = from_to 1 E (get_or es i 0) && not (named (get_or es i 0) (take i es))

  step : (i : ℕ) → i < length es → (b : Bool) → right_at i ≡ b →
      first_wrong E (take i es) (first + i) (drop i es) ≡ cond b (first_wrong E (take (i + 1) es) (first + (i + 1)) (drop (i + 1) es)) (Some (first + i))
  step i here b told =
      let e : ℕ = get_or es i 0 in
      let n : suc (first + i) ≡ first + (i + 1) = omega arith in
      let s : first_wrong E (take i es) (first + i) (drop i es) ≡ cond (right_at i) (first_wrong E (take i es ++ e ∷ []) (suc (first + i)) (drop (i + 1) es)) (Some (first + i))
      = at_drop_more (first_wrong E (take i es) (first + i)) es i 0 here in
      s ∙ (λ k. cond (told k) (first_wrong E (sym (take_more es i 0 here) k) (n k) (drop (i + 1) es)) (Some (first + i)))

  -- right events are passed over
  passed : (n : ℕ) → n ≤ length es → ((k : ℕ) → k < n → right_at k ≡ true) → first_wrong E [] first es ≡ first_wrong E (take n es) (first + n) (drop n es)
  passed zero h right = ap (λ k. first_wrong E [] k es) (omega arith)
  passed (suc n) h right = passed n (omega arith) (λ k l. right k (omega arith)) ∙ rw (← add-one) (step n (omega arith) true (right n (omega arith)))

  pub none_wrong : ((k : ℕ) → k < length es → right_at k ≡ true) → first_wrong E [] first es ≡ None
  none_wrong right =
      passed (length es) (omega arith) right ∙ at_drop_all (first_wrong E (take (length es) es) (first + length es)) es (length es) (omega arith)

  pub one_wrong : (n : ℕ) → n < length es → ((k : ℕ) → k < n → right_at k ≡ true) → right_at n ≡ false → first_wrong E [] first es ≡ Some (first + n)
  one_wrong n here right wrong = passed n (omega arith) right ∙ step n here false wrong

-- the events of a chain are small where none is wrong, and 0 stands behind them
pub chain_small : (ns : List ℕ) (count E j : ℕ) (wrong : Option ℕ) → wrong ≡ None →
    IfNone wrong ((i : ℕ) → i < length (take (count - 2) (drop 2 ns)) → get_or (take (count - 2) (drop 2 ns)) i 0 ≤ E) →
    ((k : ℕ) → count ≤ k → get_or ns k 0 ≡ 0) → 2 ≤ j → E < 65536 → get_or ns j 0 < 65536
chain_small ns count E j None e most zeros low few = elim (cases_lt j count) [
  | inl lt ↦ elim (cases_lt j (length ns)) [
    | inl there ↦
        let at_end : j - 2 < length (take (count - 2) (drop 2 ns)) = simp (length-take, length-drop) (omega (arith, lt, there)) in
        let near : j - 2 < count - 2 = omega (arith, lt) in
        let same : get_or (take (count - 2) (drop 2 ns)) (j - 2) 0 ≡ get_or ns j 0 =
        get_or-take (count - 2) (drop 2 ns) (j - 2) 0 near ∙ get_or-drop 2 ns (j - 2) 0 ∙ ap (λ k. get_or ns k 0) (omega arith) in
        omega (arith, most (j - 2) at_end, same)
    | inr gone ↦ omega (arith, get_or_past ns j 0 gone)
  ]
  | inr ge ↦ omega (arith, zeros j ge)
]
chain_small ns count E j (Some f) e most zeros low few = let z : ◌≡◌ {A = ℕ} 0 1 = cc in absurd (omega arith)
