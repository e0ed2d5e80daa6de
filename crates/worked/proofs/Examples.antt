-- The examples of rests and of lists of calls.
use Rattle.std.proofs.Common.{◌≡◌, ℕ, zero, suc, ◌<◌, ◌≤◌, List, [], ◌∷◌, refl, ap, ◌∙◌, inl, inr, arith}
use Rattle.minutes.specs.Minutes.{at, Words}
use Rattle.relations.specs.Meaning.{Meaning, Laws}
use Rattle.spans.proofs.Lawful.{spans_lawful}
use Rattle.rest.specs.Rest.{Stable, Rest, Numbers, Suits, left_in}
use Rattle.rest.proofs.Settling.{any_order, one_rest}
use Rattle.calls.specs.Calls.{Call, allow, open_level, shut_level}
use Rattle.calls.specs.Standing.{OpenAt, Closes}
use Rattle.worked.specs.Examples.{ring_spans, ring, chain_spans, chain, RingLeft, OneRound, InALevel, Emptied, Sixteen}

-- three sets of at most ten minutes
three : (m : Meaning) (a b c : ℕ) → m.reach ≤ 3 → a < 1024 → b < 1024 → c < 1024 → Suits m (a ∷ b ∷ c ∷ [])
three m a b c r x y z = record { long = record { low = r; high = omega arith }; words = small }
  where
    small : Words (a ∷ b ∷ c ∷ [])
    small zero = omega arith
    small (suc zero) = omega arith
    small (suc (suc zero)) = omega arith
    small (suc (suc (suc i))) = omega arith

pub ring_laws : Laws ring
ring_laws = spans_lawful 10 3 ring_spans refl

ring_stable : Stable ring (1 ∷ 56 ∷ 768 ∷ [])
ring_stable zero h = refl
ring_stable (suc zero) h = refl
ring_stable (suc (suc zero)) h = refl
ring_stable (suc (suc (suc k))) h = absurd (omega arith)

ring_rest : Rest ring (1 ∷ 1023 ∷ 1023 ∷ []) (1 ∷ 56 ∷ 768 ∷ [])
ring_rest = any_order ring ring_laws (1 ∷ 1023 ∷ 1023 ∷ []) (0 ∷ 1 ∷ 2 ∷ []) (three ring 1 1023 1023 (omega arith) (omega arith) (omega arith) (omega arith)) numbers ring_stable
  where
    numbers : Numbers ring (0 ∷ 1 ∷ 2 ∷ [])
    numbers zero h = omega arith
    numbers (suc zero) h = omega arith
    numbers (suc (suc zero)) h = omega arith
    numbers (suc (suc (suc i))) h = absurd (omega arith)

pub ring_left : RingLeft
ring_left = record {
  lawful = ring_laws;
  second = record { rest = 1 ∷ 56 ∷ 768 ∷ []; is_rest = ring_rest; set = refl };
  third = record { rest = 1 ∷ 56 ∷ 768 ∷ []; is_rest = ring_rest; set = refl };
  only = λ s l. l.set ∙ ap (λ r. left_in r 3) (one_rest ring (1 ∷ 1023 ∷ 1023 ∷ []) l.rest (1 ∷ 56 ∷ 768 ∷ []) l.is_rest ring_rest);
}

chain_laws : Laws chain
chain_laws = spans_lawful 10 3 chain_spans refl

chain_stable : Stable chain (1 ∷ 2 ∷ 4 ∷ [])
chain_stable zero h = refl
chain_stable (suc zero) h = refl
chain_stable (suc (suc k)) h = absurd (omega arith)

pub one_round : OneRound
one_round = record {
  lawful = chain_laws;
  suits = suits;
  round = refl;
  unstable = λ s. let e : ◌≡◌ {A = ℕ} 4 1023 = ap (λ f. at f 2) (s 0 (omega arith)) in omega arith;
  rest = any_order chain chain_laws (1 ∷ 1023 ∷ 1023 ∷ []) (0 ∷ 1 ∷ 0 ∷ []) suits numbers chain_stable;
}
  where
    suits : Suits chain (1 ∷ 1023 ∷ 1023 ∷ [])
    suits = three chain 1 1023 1023 (omega arith) (omega arith) (omega arith) (omega arith)

    numbers : Numbers chain (0 ∷ 1 ∷ 0 ∷ [])
    numbers zero h = omega arith
    numbers (suc zero) h = omega arith
    numbers (suc (suc zero)) h = omega arith
    numbers (suc (suc (suc i))) h = absurd (omega arith)

abbrev three_calls : List Call
three_calls = open_level ∷ allow 1 1 ∷ shut_level ∷ []

opened : OpenAt 10 3 three_calls 0 1
opened = inl (refl, record { inside = omega arith; is = refl; accepted = refl })

closes : Closes 10 3 three_calls 2 0
closes = record {
  shuts = record { inside = omega arith; is = refl; accepted = refl };
  was_open = inr (opened, λ t. absurd (let e : allow 1 1 ≡ shut_level = t.is in let z : ◌≡◌ {A = ℕ} 0 1 = cc in omega arith));
  last = last;
}
  where
    last : (q : ℕ) → OpenAt 10 3 three_calls q 2 → q ≤ 0
    last q (inl h) = absurd (let e : allow 1 1 ≡ open_level = h.1.is in let z : ◌≡◌ {A = ℕ} 0 1 = cc in omega arith)
    last q (inr h) = elim h.0 [ inl k ↦ omega (arith, k.0) | inr k ↦ absurd k.0 ]

pub in_a_level : InALevel
in_a_level = record {
  stands = refl;
  sets = refl;
  entries = refl;
  no_event = refl;
  no_minute = refl;
  shut = refl;
  after = refl;
  no_level = refl;
  one_way = refl;
  other_way = refl;
  closes = closes;
  stood = record { takes = record { inside = omega arith; is = refl; accepted = refl }; kept = λ j p u c. absurd (omega (arith, c.shuts.inside)) };
  gone = λ k. k.kept 2 0 (omega arith) closes opened;
}

pub emptied : Emptied
emptied = record { accepted = refl; sets = refl }

pub sixteen : Sixteen
sixteen = record { fifteen = refl; sixteen = refl }
