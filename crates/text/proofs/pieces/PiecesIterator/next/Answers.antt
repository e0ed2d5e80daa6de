use Rattle.std.proofs.Common.{◌≡◌, ℕ, ◌+◌, ◌-◌, ◌<◌, ◌==◌, true, false, List, [], ◌∷◌, length, get_or, take, drop, Some, Option, Bor, rules, arith, ap, ◌∙◌}
use Rattle.std.proofs.lemmas.List.Sums.{position_or_len_is}
use Rattle.text.specs.Pieces.{pieces}
use Rattle.text.specs.Cursor.{pieces_of_rest}
use Rattle.text.proofs.Dividing.{cut_at, cut_last}
use Rattle.text.proofs.pieces.PiecesIterator.next.Goals as goal

module _ (sep : ℕ) (left : Option (Bor (List ℕ))) (rest : Bor (List ℕ)) (some : left ≡ Some rest) where
  -- the piece ends at the first separator
  at_end : (n : ℕ) → n < length rest.now → ((k : ℕ) → k < n → (get_or rest.now k 0 == sep) ≡ false) → (get_or rest.now n 0 == sep) ≡ true →
      pieces_of_rest sep left ≡ take n rest.now ∷ pieces sep (take (length rest.now - (n + 1)) (drop (n + 1) rest.now))
  at_end n here apart found =
      ap (pieces_of_rest sep) some ∙ cut_at sep rest.now n (position_or_len_is (λ b. b == sep) rest.now n 0 (omega arith) apart (λ _. found)) here

  -- or with the bytes, where there is none
  at_last : ((k : ℕ) → k < length rest.now → (get_or rest.now k 0 == sep) ≡ false) → pieces_of_rest sep left ≡ rest.now ∷ []
  at_last apart =
      ap (pieces_of_rest sep) some ∙ cut_last sep rest.now (position_or_len_is (λ b. b == sep) rest.now (length rest.now) 0 (omega arith) apart (λ h. absurd (omega arith)))

pub returns-in-Some-clause-steps : goal.returns-in-Some-clause-steps
returns-in-Some-clause-steps c =
    (at_end c.args.self.now.separator c.args.self.now.rest c.in_ok-rest.rest c.in_ok-rest.was c.in-Some.end (search rules) (search rules) (search rules), search rules)

pub returns-in-Some-clause-goes : goal.returns-in-Some-clause-goes
returns-in-Some-clause-goes c =
    let e = at_end c.args.self.now.separator c.args.self.now.rest c.in_ok-rest.rest c.in_ok-rest.was c.in-Some.end (search rules) (search rules) (search rules) in
    record { on = λ _. (tt, tt, omega (arith, ap length e)); keeps = tt; rests = λ _. tt }

pub returns-in-None-clause-steps : goal.returns-in-None-clause-steps
returns-in-None-clause-steps c = (at_last c.args.self.now.separator c.args.self.now.rest c.in_ok-rest.rest c.in_ok-rest.was (search rules), search rules)

pub returns-in-None-clause-goes : goal.returns-in-None-clause-goes
returns-in-None-clause-goes c =
    let e = at_last c.args.self.now.separator c.args.self.now.rest c.in_ok-rest.rest c.in_ok-rest.was (search rules) in
    record { on = λ _. (tt, tt, omega (arith, ap length e)); keeps = tt; rests = λ _. tt }
