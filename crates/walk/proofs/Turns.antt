-- What a turn of the walk keeps.
use Rattle.std.proofs.Common.{◌≡◌, ℕ, ◌+◌, ◌<◌, ◌≤◌, Bool, true, false, ltb, List, [], length, take, set, sym, refl, ap, ◌∙◌, subst, inl, inr, add-one, arith}
use Rattle.std.proofs.lemmas.Bool.{cases_lt, cases_Bool, lt-ltb, le-ltb, false≢true}
use Rattle.std.proofs.lemmas.List.{length-take, get_or-take, get_or-set_same, get_or-set_other}
use Rattle.minutes.specs.Minutes.{In, at, NoneEmpty}
use Rattle.rest.specs.Rest.{Rest, Suits}
use Rattle.rest.proofs.Families.{suits_within}
use Rattle.rest.proofs.Settling.{one_rest}
use Rattle.search.specs.declared.Answer.TheVariants.{Found, Nothing, Spent}
use Rattle.search.specs.Search.{Problem, events, held, WellPosed, FloorOf, Way, Begins, rest_of, Alive, Finds}
use Rattle.search.proofs.Edges.{Raised, Lowered}
use Rattle.search.proofs.Held.{held_length}
use Rattle.search.proofs.Living.{some_way, is_rest, held_suits}
use Rattle.search.proofs.Raising.{take_same}
use Rattle.search.proofs.Walk.{y_low}
use Rattle.search.proofs.Worth.{ahead}
use Rattle.steps.specs.Steps.{Lowest}
use Rattle.walk.specs.Walking.{Refreshed, Extends, Descended}
use Rattle.settle.specs.Settles.{Settles}
use Rattle.walk.proofs.Children.{rest_on}
use Rattle.walk.proofs.State.{State, st_start, less_raised, st_dead, st_up, st_down, less_lowered, st_found, st_dead_root, st_none, st_spent}

-- the search has come so far, in whichever way it narrows: the first d minutes of y are alive, and sets has what each of these
-- left to the event behind it; unless it is stale, r is their rest
pub record Turn (q : Problem) (floor y onward root r sets : List ℕ) (d count budget : ℕ) (stale : Bool) : Type 0 where
  pub unspent : count ≤ budget
  pub deep : d < events q
  pub low : (i : ℕ) → i < d → at y i < q.meaning.period
  pub len : length y ≡ events q
  pub base : Rest q.meaning q.allowed root
  pub alive : (way : Way q) → Alive q way (take d y)
  pub left : (way : Way q) (j : ℕ) → j ≤ d → at sets j ≡ at (rest_of q way (take j y)) j
  pub fresh : stale ≡ false → (way : Way q) → r ≡ rest_of q way (take d y)
  pub state : (way : Way q) → State q way floor y onward d count

module _ {q : Problem} (posed : WellPosed q) where
  -- a rest is that by every way
  by_way : (p r : List ℕ) → Rest q.meaning (held p q.allowed) r → (way : Way q) → r ≡ rest_of q way p
  by_way p r rest way = one_rest q.meaning (held p q.allowed) r _ rest (is_rest q posed way p)

  turn : {floor : List ℕ} {budget : ℕ} (y onward root r sets : List ℕ) (d count : ℕ) (stale : Bool) → count ≤ budget → d < events q → Rest q.meaning q.allowed root →
      ((way : Way q) → Alive q way (take d y)) → ((way : Way q) (j : ℕ) → j ≤ d → at sets j ≡ at (rest_of q way (take j y)) j) →
      (stale ≡ false → (way : Way q) → r ≡ rest_of q way (take d y)) → ((way : Way q) → State q way floor y onward d count) → Turn q floor y onward root r sets d count budget stale
  turn {floor} y onward root r sets d count stale h deep b alive left fresh s =
      let t = s (some_way q posed) in
      record { unspent = h; deep = deep; low = y_low q posed (some_way q posed) floor y d count t.names t.walk; len = t.walk.edge.len; base = b; alive = alive; left = left; fresh = fresh; state = s }

  -- before the first turn, when the allowed family was copied to f and settled to root
  module _ {floor : List ℕ} (budget : ℕ) (from : FloorOf q floor) (len : length floor ≡ events q) {f root : List ℕ} {alive : Bool} (copied : f ≡ q.allowed) (settles : Settles q.meaning f root alive) where
    pub turn_start : alive ≡ true → {r : List ℕ} → r ≡ root → {onward : List ℕ} → onward ≡ floor → (sets : List ℕ) → 0 < length sets →
        Turn q floor floor onward root r (set sets 0 (at r 0)) 0 0 budget false
    turn_start e {r} r_is on_is sets some =
        let base : Rest q.meaning q.allowed root = subst (λ z. Rest q.meaning z root) copied (settles.rest e) in
        let is : (way : Way q) → r ≡ rest_of q way [] = λ way. r_is ∙ by_way [] root base way in
        subst (λ z. Turn q floor floor z root r (set sets 0 (at r 0)) 0 0 budget false) (sym on_is)
        (turn floor floor root r (set sets 0 (at r 0)) 0 0 false (omega arith) (omega (arith, posed.some)) base
        (λ way. subst (λ z. NoneEmpty z) (by_way [] root base way) (settles.full e))
        (λ way j h. let z : 0 ≡ j = omega arith in subst (λ k. at (set sets 0 (at r 0)) k ≡ at (rest_of q way (take k floor)) k) z (get_or-set_same sets 0 (at r 0) 0 some ∙ ap (λ k. at k 0) (is way)))
        (λ _. is) (λ way. st_start q posed way floor from len))

    pub end_at_once : alive ≡ false → (way : Way q) → Finds q way floor budget (Nothing 0) []
    end_at_once e way =
        let rest = is_rest q posed way [] in
        st_dead_root q posed way floor floor floor 0 0 (st_start q posed way floor from len) (rest_of q way []) rest budget (omega arith) refl
        (settles.dead e (rest_of q way []) (subst (λ z. Rest q.meaning z (rest_of q way [])) (sym copied) rest))

  module _ {floor y onward root r sets : List ℕ} {d count budget : ℕ} {stale : Bool} (w : Turn q floor y onward root r sets d count budget stale) {P : ℕ} (p_is : P ≡ q.meaning.period) where
    -- the rest of the first d minutes
    here : (way : Way q) → Rest q.meaning (held (take d y) q.allowed) (rest_of q way (take d y))
    here way = is_rest q posed way (take d y)

    some : State q (some_way q posed) floor y onward d count
    some = w.state (some_way q posed)

    long : (n : ℕ) → n ≤ events q → length (take n y) ≡ n
    long n h = omega (arith, length-take n y, w.len)

    set_is : (way : Way q) → at sets d ≡ at (rest_of q way (take d y)) d
    set_is way = w.left way d (omega arith)

    pub root_suits : Suits q.meaning root
    root_suits = suits_within q.meaning q.allowed root (held_suits q posed []) w.base.inside

    pub root_length : length root ≡ events q
    root_length = w.base.inside.len

    -- the rest of the d minutes, from root
    begins : Begins [] (take d y)
    begins = record { shorter = omega arith; same = λ j l. absurd (omega arith) }

    within : length (take d y) ≤ events q
    within = omega (arith, long d (omega (arith, w.deep)), w.deep)

    pub front_short : length (take d y) ≤ length root
    front_short = omega (arith, within, root_length)

    pub front_low : (i : ℕ) → i < length (take d y) → at (take d y) i < 64
    front_low i h = let l : i < d = omega (arith, long d (omega (arith, w.deep))) in omega (arith, get_or-take d y i 0 l, w.low i l, posed.most)

    -- what stays when the search goes back to place i, with the same minutes before it
    module _ (i : ℕ) (y' : List ℕ) (inside : i < d) (same : (j : ℕ) → j ≤ i → take j y ≡ take j y') where
      back_alive : (way : Way q) → Alive q way (take i y')
      back_alive way = subst (λ z. Alive q way z) (same i (omega arith)) ((w.state way).walk.alive i inside)

      back_left : (way : Way q) (j : ℕ) → j ≤ i → at sets j ≡ at (rest_of q way (take j y')) j
      back_left way j h = w.left way j (omega arith) ∙ ap (λ z. at (rest_of q way z) j) (same j h)

    -- no minute is left at place d
    module _ (bare : (t : ℕ) → at y d ≤ t → t < P → In t (at sets d) → ⊥) where
      barren : (way : Way q) (t : ℕ) → at y d ≤ t → t < q.meaning.period → In t (at (rest_of q way (take d y)) d) → ⊥
      barren way t a b h = bare t a (omega arith) (subst (λ z. In t z) (sym (set_is way)) h)

      pub end_none : d ≡ 0 → (way : Way q) → Finds q way floor budget (Nothing count) []
      end_none e way = st_none q posed way floor y onward d count (w.state way) _ (here way) budget w.unspent e (barren way)

      module _ {i : ℕ} {y' : List ℕ} (raised : Raised P (length y) y d i y') where
        up : Raised q.meaning.period (events q) y d i y'
        up = subst (λ z. Raised z (events q) y d i y') p_is (subst (λ z. Raised P z y d i y') w.len raised)

        pub up_less : ahead q.meaning.period (events q) y' i < ahead q.meaning.period (events q) y d
        up_less = less_raised q posed _ floor y onward d count some _ (here (some_way q posed)) i y' up

        pub turn_up : Turn q floor y' onward root r sets i count budget true
        turn_up =
            let same : (j : ℕ) → j ≤ i → take j y ≡ take j y' = λ j h. take_same j y y' (w.len ∙ sym up.len) (λ k l. sym (up.same k (omega arith))) in
            turn y' onward root r sets i count true w.unspent (omega (arith, up.inside, w.deep)) w.base (back_alive i y' up.inside same) (back_left i y' up.inside same) (λ e. absurd (false≢true (sym e)))
            (λ way. st_up q posed way floor y onward d count (w.state way) _ (here way) i y' up (w.alive way) w.deep (barren way))

    -- r was refreshed to s, the rest of the first d minutes
    module _ {s : List ℕ} (refreshed : Refreshed q.meaning (held (take d y) root) r s stale) where
      pub rest_is : (way : Way q) → s ≡ rest_of q way (take d y)
      rest_is way = elim (cases_Bool stale) [
        | inl e ↦ by_way (take d y) s (rest_on q.meaning q.allowed [] (take d y) root begins within w.base s (refreshed.renewed e)) way
        | inr e ↦ refreshed.kept e ∙ w.fresh e way
      ]

      s_rest : Rest q.meaning (held (take d y) q.allowed) s
      s_rest = subst (λ z. Rest q.meaning (held (take d y) q.allowed) z) (sym (rest_is (some_way q posed))) (here (some_way q posed))

      pub rest_suits : Suits q.meaning s
      rest_suits = suits_within q.meaning (held (take d y) q.allowed) s (held_suits q posed (take d y)) s_rest.inside

      pub rest_length : length s ≡ events q
      rest_length = s_rest.inside.len ∙ held_length (take d y) q.allowed

      pub rest_full : NoneEmpty s
      rest_full = subst (λ z. NoneEmpty z) (sym (rest_is (some_way q posed))) (w.alive (some_way q posed))

      -- minute t is the lowest left at place d
      module _ {t : ℕ} (lowest : Lowest (at sets d) (at y d) t) {y' : List ℕ} (lowered : Lowered (length y) y d t y') where
        down : Lowered (events q) y d t y'
        down = subst (λ z. Lowered z y d t y') w.len lowered

        least : (way : Way q) → Lowest (at (rest_of q way (take d y)) d) (at y d) t
        least way = subst (λ z. Lowest z (at y d) t) (set_is way) lowest

        next : (way : Way q) → State q way floor y' onward (d + 1) count
        next way = rw add-one (st_down q posed way floor y onward d count (w.state way) _ (here way) t y' down (w.alive way) w.deep (least way).left (least way).above (least way).least)

        pub down_less : ahead q.meaning.period (events q) y' (d + 1) < ahead q.meaning.period (events q) y d
        down_less = let o = some_way q posed in
            rw add-one (less_lowered q posed o floor y onward d count some _ (here o) t y' down (w.alive o) w.deep (least o).left (least o).above (least o).least)

        pub down_low : (i : ℕ) → i ≤ d → at y' i < q.meaning.period
        down_low i h = let s = next (some_way q posed) in y_low q posed (some_way q posed) floor y' (d + 1) count s.names s.walk i (omega arith)

        same_front : (j : ℕ) → j ≤ d → take j y ≡ take j y'
        same_front j h = take_same j y y' (w.len ∙ sym down.len) (λ k l. sym (down.same k (omega arith)))

        long' : length (take (d + 1) y') ≡ d + 1
        long' = omega (arith, length-take (d + 1) y', down.len, w.deep)

        pub child_some : 0 < length (take (d + 1) y')
        child_some = omega (arith, long')

        pub child_short : length (take (d + 1) y') ≤ length s
        child_short = omega (arith, long', rest_length, w.deep)

        pub child_low : (i : ℕ) → i < length (take (d + 1) y') → at (take (d + 1) y') i < 64
        child_low i h = omega (arith, get_or-take (d + 1) y' i 0 (omega (arith, long')), down_low i (omega (arith, long')), posed.most)

        extends : Extends q.meaning q.allowed (take d y) (take (d + 1) y') s
        extends = record {
          begins = record {
            shorter = omega (arith, long', long d (omega (arith, w.deep)));
            same = λ j h. let l : j < d = omega (arith, long d (omega (arith, w.deep))) in get_or-take d y j 0 l ∙ sym (down.same j l) ∙ sym (get_or-take (d + 1) y' j 0 (omega arith));
          };
          one_more = omega (arith, long', long d (omega (arith, w.deep)));
          rest = s_rest;
        }

        module _ {r' : List ℕ} {b : Bool} (descended : Descended q.meaning (take (d + 1) y') s r' b) where
          child_is : b ≡ true → (way : Way q) → r' ≡ rest_of q way (take (d + 1) y')
          child_is e way = by_way (take (d + 1) y') r' (descended.down e q.allowed (take d y) extends).0 way

          child_alive : b ≡ true → (way : Way q) → Alive q way (take (d + 1) y')
          child_alive e way = subst (λ z. NoneEmpty z) (child_is e way) (descended.down e q.allowed (take d y) extends).1

          child_dead : b ≡ false → (way : Way q) → Alive q way (take (d + 1) y') → ⊥
          child_dead e way = descended.dead e q.allowed (take d y) extends _ (is_rest q posed way (take (d + 1) y'))

          pub turn_down : b ≡ true → (d + 1 ≡ events q → ⊥) → length sets ≡ events q → Turn q floor y' onward root r' (set sets (d + 1) (at r' (d + 1))) (d + 1) count budget false
          turn_down e n width = turn y' onward root r' (set sets (d + 1) (at r' (d + 1))) (d + 1) count false w.unspent (omega (arith, w.deep)) w.base (child_alive e) left (λ _. child_is e) next
            where
              left : (way : Way q) (j : ℕ) → j ≤ d + 1 → at (set sets (d + 1) (at r' (d + 1))) j ≡ at (rest_of q way (take j y')) j
              left way j h = elim (cases_lt j (d + 1)) [
                | inl l ↦ get_or-set_other sets (d + 1) j (at r' (d + 1)) 0 (omega arith) ∙ w.left way j (omega arith) ∙ ap (λ z. at (rest_of q way z) j) (same_front j (omega arith))
                | inr l ↦ let k : d + 1 ≡ j = omega arith in
                    subst (λ z. at (set sets (d + 1) (at r' (d + 1))) z ≡ at (rest_of q way (take z y')) z) k (get_or-set_same sets (d + 1) (at r' (d + 1)) 0 (omega (arith, w.deep)) ∙ ap (λ z. at z (d + 1)) (child_is e way))
              ]

          pub end_found : b ≡ true → d + 1 ≡ events q → (way : Way q) → Finds q way floor budget (Found count) y'
          end_found e full way = st_found q posed way floor y' onward (d + 1) count (next way) _ (is_rest q posed way (take (d + 1) y')) budget (child_alive e way) full w.unspent

          pub end_spent : b ≡ false → count ≡ budget → (way : Way q) → Finds q way floor budget (Spent count) onward
          end_spent e full way = st_spent q posed way floor y' onward (d + 1) count (next way) _ (is_rest q posed way (take (d + 1) y')) budget (omega arith) (child_dead e way) full

          module _ (e : b ≡ false) (more : count ≡ budget → ⊥) {i : ℕ} {z : List ℕ} (raised : Raised P (length y') y' (d + 1) i z) where
            over : Raised q.meaning.period (events q) y' (d + 1) i z
            over = subst (λ k. Raised k (events q) y' (d + 1) i z) p_is (subst (λ k. Raised P k y' (d + 1) i z) down.len raised)

            pub dead_less : ahead q.meaning.period (events q) z i < ahead q.meaning.period (events q) y d
            dead_less = let o = some_way q posed in omega (arith, down_less, less_raised q posed o floor y' onward (d + 1) count (next o) _ (is_rest q posed o (take (d + 1) y')) i z over)

            counted : (way : Way q) → State q way floor z z i (count + 1)
            counted way = rw add-one (st_dead q posed way floor y' onward (d + 1) count (next way) _ (is_rest q posed way (take (d + 1) y')) i z over (child_dead e way))

            same_to : (n : ℕ) → n ≤ i → n ≤ d → take n y ≡ take n z
            same_to n h l = take_same n y z (w.len ∙ sym over.len) (λ k u. sym (down.same k (omega arith)) ∙ sym (over.same k (omega arith)))

            module _ {onward' : List ℕ} (on_is : onward' ≡ z) where
              turn_dead_back : i < d → Turn q floor z onward' root r' sets i (count + 1) budget true
              turn_dead_back h =
                  let same : (j : ℕ) → j ≤ i → take j y ≡ take j z = λ j l. same_to j l (omega arith) in
                  subst (λ k. Turn q floor z k root r' sets i (count + 1) budget true) (sym on_is)
                  (turn z z root r' sets i (count + 1) true (omega (arith, w.unspent)) (omega (arith, w.deep)) w.base (back_alive i z h same) (back_left i z h same) (λ u. absurd (false≢true (sym u))) counted)

              turn_dead_here : i ≡ d → Turn q floor z onward' root r' sets i (count + 1) budget false
              turn_dead_here h =
                  let same : (j : ℕ) → j ≤ i → take j y ≡ take j z = λ j l. same_to j l (omega arith) in
                  subst (λ k. Turn q floor z k root r' sets i (count + 1) budget false) (sym on_is)
                  (turn z z root r' sets i (count + 1) false (omega (arith, w.unspent)) (omega (arith, w.deep)) w.base
                  (λ way. subst (λ k. Alive q way k) (ap (λ k. take k y) (sym h) ∙ same i (omega arith)) (w.alive way))
                  (λ way j l. w.left way j (omega arith) ∙ ap (λ k. at (rest_of q way k) j) (same j l))
                  (λ _ way. descended.kept e ∙ rest_is way ∙ ap (rest_of q way) (ap (λ k. take k y) (sym h) ∙ same i (omega arith)))
                  counted)

              pub turn_dead : Turn q floor z onward' root r' sets i (count + 1) budget (ltb i d)
              turn_dead = elim (cases_lt i d) [
                | inl h ↦ subst (λ k. Turn q floor z onward' root r' sets i (count + 1) budget k) (sym (lt-ltb i d h)) (turn_dead_back h)
                | inr h ↦ subst (λ k. Turn q floor z onward' root r' sets i (count + 1) budget k) (sym (le-ltb i d h)) (turn_dead_here (omega (arith, over.inside)))
              ]
