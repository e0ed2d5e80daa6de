-- Banks of the same meaning have the same answers.
use Rattle.std.proofs.Common.{◌≡◌, ℕ, suc, ◌-◌, ◌<◌, List, [], ◌∷◌, length, sym, refl, ap, ◌∙◌, subst, arith}
use Rattle.minutes.specs.Minutes.{In, at, NoneEmpty}
use Rattle.relations.specs.Meaning.{Meaning, Laws, relation, size}
use Rattle.rest.specs.Rest.{Stable, narrowed, Numbers, Suits}
use Rattle.rest.proofs.Families.{suits_within}
use Rattle.search.specs.declared.Answer.{Answer}
use Rattle.search.specs.declared.Answer.TheVariants.{Found, Nothing, Spent}
use Rattle.search.specs.Search.{held, WellPosed, Way, rest_of, DeadEnd, Solves, Sought, Counted, FirstAfter, Says, Finds}
use Rattle.search.specs.Theorems.{SameMeaning, problem, SameAnswers}
use Rattle.search.proofs.Living.{held_suits, is_rest, same_rests}
use Rattle.search.proofs.Listing.{listed_same}

suits_same : (m n : Meaning) (f : List ℕ) → m.reach ≡ n.reach → Suits m f → Suits n f
suits_same m n f e h = record { long = record { low = omega (arith, h.long.low); high = h.long.high }; words = h.words }

pub same_back : (m n : Meaning) → SameMeaning m n → SameMeaning n m
same_back m n s = record {
  period = sym s.period;
  reach = sym s.reach;
  number = sym s.number;
  conditions = λ k l x g t. sym (s.conditions k (omega (arith, s.number)) x (record { low = omega (arith, g.low, s.reach); high = g.high }) (record { len = refl; minute = λ i h. omega (arith, t.minute i h, s.period) }));
  narrowings = λ k l f h. sym (s.narrowings k (omega (arith, s.number)) f (suits_same n m f (sym s.reach) h));
}

-- narrowing by the one and by the other comes to the same
narrowed_same : (m n : Meaning) → Laws m → SameMeaning m n → (ks f : List ℕ) → Numbers m ks → Suits m f → narrowed m ks f ≡ narrowed n ks f
narrowed_same m n laws s [] f a h = refl
narrowed_same m n laws s (k ∷ ks) f a h =
    let l = a 0 (omega arith) in
    narrowed_same m n laws s ks ((relation m k).narrowing f) (λ i u. a (suc i) (omega arith)) (suits_within m f _ h (laws.deflation k l f h.long h.words))
    ∙ ap (narrowed n ks) (s.narrowings k l f h)

module _ (m n : Meaning) (allowed : List ℕ) (posed : WellPosed (problem m allowed)) (same : SameMeaning m n) (v : Way (problem m allowed)) where
  rests : (p : List ℕ) → rest_of (problem m allowed) v p ≡ narrowed n (v.numbers p) (held p allowed)
  rests p = narrowed_same m n posed.laws same (v.numbers p) (held p allowed) (v.known p) (held_suits (problem m allowed) posed p)

  -- a way of narrowing for the one is one for the other
  pub way_on : Way (problem n allowed)
  way_on = record {
    numbers = v.numbers;
    known = λ p i h. omega (arith, v.known p i h, same.number);
    settles = λ p. subst (λ z. Stable n z) (rests p) (λ k l.
        let h = suits_within m (held p allowed) _ (held_suits (problem m allowed) posed p) (is_rest (problem m allowed) posed v p).inside in
        sym (same.narrowings k (omega (arith, same.number)) _ h) ∙ v.settles p k (omega (arith, same.number)));
  }

  pub rests_on : (p : List ℕ) → rest_of (problem m allowed) v p ≡ rest_of (problem n allowed) way_on p
  unfolding way_on
  rests_on p = rests p

-- what is said of the one, where both come to the same rests
module _ (m n : Meaning) (allowed : List ℕ) (posed : WellPosed (problem m allowed)) (same : SameMeaning m n) (v : Way (problem m allowed)) (w : Way (problem n allowed))
    (rests : (p : List ℕ) → rest_of (problem m allowed) v p ≡ rest_of (problem n allowed) w p) (floor : List ℕ) where
  solves_on : (x : List ℕ) → Solves (problem m allowed) floor x → Solves (problem n allowed) floor x
  solves_on x s =
      let l : length x ≡ length allowed = s.timetable.len in
      record {
        timetable = record { len = l; minute = λ i h. omega (arith, s.timetable.minute i h, same.period) };
        from_floor = s.from_floor;
        allowed = s.allowed;
        meets = λ k h.
            let u : k < size m = omega (arith, same.number) in
            sym (same.conditions k u x (record { low = omega (arith, posed.reach); high = omega (arith, posed.many) }) (record { len = refl; minute = λ i g. s.timetable.minute i (omega arith) })) ∙ s.meets k u;
      }

  dead_on : (p : List ℕ) → DeadEnd (problem m allowed) v floor p → DeadEnd (problem n allowed) w floor p
  dead_on p d = record {
    tried = record {
      some = d.tried.some;
      most = d.tried.most;
      alive = subst (λ z. NoneEmpty z) (rests _) d.tried.alive;
      left = subst (λ z. In (at p (length p - 1)) (at z (length p - 1))) (rests _) d.tried.left;
      from_floor = d.tried.from_floor;
    };
    dead = λ l. d.dead (subst (λ z. NoneEmpty z) (sym (rests p)) l);
  }

module _ (m n : Meaning) (allowed : List ℕ) (pm : WellPosed (problem m allowed)) (pn : WellPosed (problem n allowed)) (same : SameMeaning m n)
    (v : Way (problem m allowed)) (w : Way (problem n allowed)) (rests : (p : List ℕ) → rest_of (problem m allowed) v p ≡ rest_of (problem n allowed) w p) (floor : List ℕ) where
  to : (x : List ℕ) → Solves (problem m allowed) floor x → Solves (problem n allowed) floor x
  to = solves_on m n allowed pm same v w rests floor

  fro : (x : List ℕ) → Solves (problem n allowed) floor x → Solves (problem m allowed) floor x
  fro = solves_on n m allowed pn (same_back m n same) w v (λ p. sym (rests p)) floor

  sought_to : (x : List ℕ) → Sought (problem m allowed) floor x → Sought (problem n allowed) floor x
  sought_to x s = record { solves = to x s.solves; earliest = λ y h. s.earliest y (fro y h) }

  sought_fro : (x : List ℕ) → Sought (problem n allowed) floor x → Sought (problem m allowed) floor x
  sought_fro x s = record { solves = fro x s.solves; earliest = λ y h. s.earliest y (to y h) }

  pub finds_same : (budget : ℕ) (a : Answer) (x : List ℕ) → Finds (problem m allowed) v floor budget a x → Finds (problem n allowed) w floor budget a x
  finds_same budget a x f = record {
    number = f.number;
    nth = f.nth;
    listed = listed_same (Counted (problem m allowed) v floor) (Counted (problem n allowed) w floor) f.number f.nth
        (λ p c. record { dead_end = dead_on m n allowed pm same v w rests floor p c.dead_end; before = λ y s. c.before y (sought_fro y s) })
        (λ p c. record { dead_end = dead_on n m allowed pn (same_back m n same) w v (λ r. sym (rests r)) floor p c.dead_end; before = λ y s. c.before y (sought_to y s) })
        f.listed;
    says = go a f.says;
  }
    where
      go : (a : Answer) → Says (problem m allowed) floor budget f.number f.nth a x → Says (problem n allowed) floor budget f.number f.nth a x
      go (Found k) s = (s.0, s.1, sought_to x s.2)
      go (Nothing k) s = (s.0, s.1, (λ y h. s.2 y (fro y h)), s.3)
      go (Spent k) s = (s.0, s.1, record { given = s.2.given; after = λ b e. subst (λ T. FirstAfter T (length allowed) (f.nth b) x) same.period (s.2.after b e) })

pub same_answers : SameAnswers
same_answers m n allowed pm pn same v w floor budget a x =
    finds_same m n allowed pm pn same v w (λ p. rests_on m n allowed pm same v p ∙ same_rests (problem n allowed) pn (way_on m n allowed pm same v) w p) floor budget a x
