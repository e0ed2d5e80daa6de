-- A shut undoes the open of its level, and each entry since.
use Rattle.std.proofs.Common.{◌≡◌, ℕ, ◌-◌, ◌≤◌, List, [], ◌∷◌, ◌++◌, length, take, drop, set, sym, refl, ap, ◌∙◌, arith}
use Rattle.std.proofs.lemmas.List.{take_all, drop_all, take_at, take-append-le, drop-append-le, length_push, get_or_push, set-set, set-get_or}
use Rattle.minutes.specs.Minutes.{at}
use Rattle.plan.specs.declared.contents.Entry.{Entry}
use Rattle.plan.specs.declared.contents.Contents.{Contents}
use Rattle.plan.specs.Contents.{levels_in, entries_in, put, noted, opening, given_back, shutting}

given_back_push : (es : List Entry) (e : Entry) (f : List ℕ) → given_back (es ++ e ∷ []) f ≡ given_back es (set f e.place e.set)
given_back_push [] e f = refl
given_back_push (x ∷ es) e f = ap (λ g. set g x.place x.set) (given_back_push es e f)

pub shut_opened : (p : Contents) → shutting (opening p) ≡ p
shut_opened p =
    let m = p.marks.items in
    let t = p.trail.items in
    let n = entries_in p in
    let last : length (m ++ n ∷ []) - 1 ≡ length m = omega (arith, length_push m n) in
    let mark : at (m ++ n ∷ []) (length (m ++ n ∷ []) - 1) ≡ n = get_or_push m n 0 _ (sym last) in
    let marks = take_at m (n ∷ []) _ (sym last) in
    let sets : given_back (drop (at (m ++ n ∷ []) (length (m ++ n ∷ []) - 1)) t) p.allowed ≡ p.allowed =
    ap (λ k. given_back (drop k t) p.allowed) mark ∙ ap (λ (es : List Entry). given_back es p.allowed) (drop_all n t (omega arith)) in
    let trail : take (at (m ++ n ∷ []) (length (m ++ n ∷ []) - 1)) t ≡ t = ap (λ k. take k t) mark ∙ take_all n t (omega arith) in
    λ i. record { period = p.period; events = p.events; allowed = sets i; marks = record { items = marks i }; trail = record { items = trail i } }

-- where the level's mark is at most the number of entries
pub shut_noted : (p : Contents) (k v : ℕ) → at p.marks.items (levels_in p - 1) ≤ entries_in p → shutting (put k v (noted k p)) ≡ shutting p
shut_noted p k v low =
    let t = p.trail.items in
    let m = at p.marks.items (levels_in p - 1) in
    let e : Entry = record { place = k; set = at p.allowed k } in
    let sets : given_back (drop m (t ++ e ∷ [])) (set p.allowed k v) ≡ given_back (drop m t) p.allowed =
    ap (λ (es : List Entry). given_back es (set p.allowed k v)) (drop-append-le m t (e ∷ []) low)
    ∙ given_back_push (drop m t) e (set p.allowed k v)
    ∙ ap (given_back (drop m t)) (set-set p.allowed k v e.set ∙ set-get_or p.allowed k 0) in
    let trail = take-append-le m t (e ∷ []) low in
    λ i. record { period = p.period; events = p.events; allowed = sets i; marks = record { items = take (levels_in p - 1) p.marks.items }; trail = record { items = trail i } }
