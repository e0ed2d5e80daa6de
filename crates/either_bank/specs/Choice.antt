-- One of two banks, and which numbers are odd.
use Rattle.std.specs.Prelude.{Bool, ℕ, ◌%◌, ◌==◌}
use Rattle.relations.specs.Meaning.{Meaning, Laws}
use Rattle.either_bank.specs.declared.Either.{Either}
use Rattle.either_bank.specs.declared.Either.TheVariants.{First, Second}

-- what the bank that is there means, where m and n tell the meanings of banks of the two types
abbrev pub meaning_of : {A B : Type 0} → (A → Meaning) → (B → Meaning) → Either A B → Meaning
meaning_of m n (First a) = m a
meaning_of m n (Second b) = n b

-- what is true of the meanings of both types is true of that of the one that is there
pub of_meaning : {A B : Type 0} (P : Meaning → Type 0) (m : A → Meaning) (n : B → Meaning) → ((a : A) → P (m a)) →
    ((b : B) → P (n b)) → (e : Either A B) → P (meaning_of m n e)
of_meaning P m n k l (First a) = k a
of_meaning P m n k l (Second b) = l b

-- it keeps the laws where the banks of both types do
pub laws_of : {A B : Type 0} (m : A → Meaning) (n : B → Meaning) → ((a : A) → Laws (m a)) → ((b : B) → Laws (n b)) →
    (e : Either A B) → Laws (meaning_of m n e)
laws_of m n k l e = of_meaning Laws m n k l e

-- the bank of a number, of the one of two that is there
abbrev pub numbered_of : {A B C D : Type 0} → (A → ℕ → C) → (B → ℕ → D) → Either A B → ℕ → Either C D
numbered_of k l (First a) n = First (k a n)
numbered_of k l (Second b) n = Second (l b n)

-- whether n is odd
abbrev pub odd : ℕ → Bool
odd n = n % 2 == 1
