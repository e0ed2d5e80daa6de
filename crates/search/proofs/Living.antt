-- Prefixes and their rests: what is alive.
use Rattle.std.proofs.Common.{◌≡◌, ℕ, ◌^◌, ◌<◌, ◌≤◌, List, [], length, take, sym, refl, ◌∙◌, subst, arith, pow_mono}
use Rattle.std.proofs.lemmas.List.{ext_get_or, get_or-map, length-map}
use Rattle.minutes.specs.Minutes.{Within, In, at, Timetable, Lies, Before, single}
use Rattle.rest.specs.Rest.{Rest, Stable, Suits}
use Rattle.relations.specs.Meaning.{Long}
use Rattle.search.specs.Search.{Problem, events, held, Begins, WellPosed, Way, rest_of, Alive, Solves}
use Rattle.minutes.proofs.Sets.{same_sets, sub_le, some_minute, not_empty, in_pow, pow_in}
use Rattle.rest.proofs.Families.{suits_within}
use Rattle.rest.proofs.Settling.{one_rest, any_order, some_order, none_lost, singles_meet, rest_grows}
use Rattle.search.proofs.Held.{in_only, few_minutes, held_length, held_in, held_out, held_mono, lies_held}
use Rattle.search.proofs.Orders.{take_begins}

module _ (q : Problem) (posed : WellPosed q) where
  -- the allowed family held to a prefix is one that the laws speak of
  pub held_suits : (p : List ℕ) → Suits q.meaning (held p q.allowed)
  held_suits p = suits_within q.meaning q.allowed (held p q.allowed)
      (record {
        long = record { low = posed.reach; high = posed.many };
        words = λ i. let m : 2 ^ q.meaning.period ≤ 2 ^ 64 = pow_mono posed.most in omega (arith, few_minutes q.meaning.period (at q.allowed i) (posed.minutes i));
      })
      (held_mono p [] q.allowed (record { shorter = omega arith; same = λ j h. absurd (omega arith) }))

  pub some_way : Way q
  some_way =
      let s = λ (p : List ℕ). some_order q.meaning posed.laws (held p q.allowed) (held_suits p) in
      record { numbers = λ p. (s p).0; known = λ p. (s p).1; settles = λ p. (s p).2 }

  module _ (o : Way q) where
    pub is_rest : (p : List ℕ) → Rest q.meaning (held p q.allowed) (rest_of q o p)
    is_rest p = any_order q.meaning posed.laws (held p q.allowed) (o.numbers p) (held_suits p) (o.known p) (o.settles p)

    pub rest_length : (p : List ℕ) → length (rest_of q o p) ≡ events q
    rest_length p = (is_rest p).inside.len ∙ held_length p q.allowed

    pub rest_falls : (p r : List ℕ) → Begins r p → Within (rest_of q o p) (rest_of q o r)
    rest_falls p r b = rest_grows q.meaning _ _ _ _ (held_mono p r q.allowed b) (is_rest p) (is_rest r)

    -- what begins a living prefix lives
    pub alive_front : (p r : List ℕ) → Begins r p → Alive q o p → Alive q o r
    alive_front p r b l i h =
        let w = rest_falls p r b in
        omega (arith, l i (omega (arith, w.len)), sub_le _ _ (w.sub i))

    -- a living prefix has its minutes
    pub alive_has : (p : List ℕ) (i : ℕ) → i < length p → length p ≤ events q → Alive q o p → In (at p i) (at (rest_of q o p) i) × In (at p i) (at q.allowed i)
    alive_has p i h e l =
        let s = some_minute (at (rest_of q o p) i) (l i (omega (arith, rest_length p))) in
        let u = (is_rest p).inside.sub i s.0 s.1 in
        let k = in_only s.0 (at p i) (at q.allowed i) (rw (held_in p q.allowed i h (omega arith)) at u) in
        (subst (λ z. In z (at (rest_of q o p) i)) k.0 s.1, k.1)

    pub alive_left : (p : List ℕ) (i : ℕ) → i < length p → length p ≤ events q → Alive q o p → In (at p i) (at (rest_of q o (take i p)) i)
    alive_left p i h e l = (rest_falls p (take i p) (take_begins i p)).sub i (at p i) (alive_has p i h e l).0

    pub left_allowed : (p : List ℕ) (t : ℕ) → In t (at (rest_of q o p) (length p)) → In t (at q.allowed (length p))
    left_allowed p t h = let u = (is_rest p).inside.sub (length p) t h in rw (held_out p q.allowed (length p) (omega arith)) at u

    -- a solution lives, whole and in part
    pub solution_lies : (floor x p : List ℕ) → Solves q floor x → Begins p x → Lies x (rest_of q o p)
    solution_lies floor x p s b = none_lost q.meaning posed.laws (held p q.allowed) (rest_of q o p) x (held_suits p) (is_rest p)
        (record { len = s.timetable.len ∙ sym (held_length p q.allowed); minute = λ i h. s.timetable.minute i (omega (arith, held_length p q.allowed)) }) (lies_held p x q.allowed b s.allowed) s.meets

    pub solution_alive : (floor x p : List ℕ) → Solves q floor x → Begins p x → Alive q o p
    solution_alive floor x p s b i h = let l = solution_lies floor x p s b in not_empty (at x i) _ (l.each i (omega (arith, l.len)))

    -- a living prefix of all events is a solution
    pub alive_solves : (floor x : List ℕ) → length x ≡ events q → Alive q o x → (Before x floor → ⊥) → Solves q floor x
    alive_solves floor x e l n = record { timetable = tt'; from_floor = n; allowed = record { len = e; each = λ i h. (has i h).1 }; meets = singles_meet q.meaning posed.laws x fx tx (subst (λ z. Stable q.meaning z) shape (is_rest x).stable) }
      where
        has : (i : ℕ) → i < length x → In (at x i) (at (rest_of q o x) i) × In (at x i) (at q.allowed i)
        has i h = alive_has x i h (omega arith) l

        low : (i : ℕ) → i < length x → at x i < q.meaning.period
        low i h = posed.minutes i (at x i) (has i h).1

        tt' : Timetable q.meaning.period (events q) x
        tt' = record { len = e; minute = λ i h. low i (omega arith) }

        tx : Timetable q.meaning.period (length x) x
        tx = record { len = refl; minute = low }

        fx : Long q.meaning.reach x
        fx = record { low = omega (arith, posed.reach); high = omega (arith, posed.many) }

        one : (i : ℕ) → i < length x → at (rest_of q o x) i ≡ 2 ^ (at x i)
        one i h = same_sets _ _
            (λ t u. let k = in_only t (at x i) (at q.allowed i) (rw (held_in x q.allowed i h (omega arith)) at ((is_rest x).inside.sub i t u)) in rw k.0 (pow_in (at x i)))
            (λ t u. rw (in_pow t (at x i) u) (has i h).0)

        shape : rest_of q o x ≡ single x
        shape = ext_get_or 0 (rest_of q o x) (single x) (rest_length x ∙ sym e ∙ sym (length-map x (λ t. 2 ^ t)))
            (λ i h. let h' : i < length x = omega (arith, rest_length x) in one i h' ∙ sym (get_or-map (λ m. 2 ^ m) x i 0 0 h'))

  -- every way of narrowing gives the same rests
  pub same_rests : (o r : Way q) (p : List ℕ) → rest_of q o p ≡ rest_of q r p
  same_rests o r p = one_rest q.meaning (held p q.allowed) _ _ (is_rest o p) (is_rest r p)
