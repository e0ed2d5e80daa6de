-- Two meanings joined, and a meaning of which some relations are waived.
use Rattle.std.specs.Prelude.{ℕ, suc, max, Bool, false, cond, List, [], ◌∷◌, ◌++◌, ◌==◌, slice_index_or}
use Rattle.relations.specs.Meaning.{Meaning, Relation, idle, Laws}

-- the common period, or 0 where there is none
abbrev pub common : ℕ → ℕ → ℕ
common a b = cond (a == b) a 0

-- the relations of m, then those of n
abbrev pub joined : Meaning → Meaning → Meaning
joined m n =
    record { period = common m.period n.period; reach = max m.reach n.reach; relations = m.relations ++ n.relations }

-- the relations from number k on, the marked ones idle
abbrev pub waived_from : List Bool → ℕ → List Relation → List Relation
waived_from marks k [] = []
waived_from marks k (r ∷ rs) = cond (slice_index_or marks k false) idle r ∷ waived_from marks (suc k) rs

-- the relations of m, those that are marked idle
abbrev pub waived : List Bool → Meaning → Meaning
waived marks m = record { period = m.period; reach = m.reach; relations = waived_from marks 0 m.relations }

-- joined and waived meanings keep the laws that their parts keep
pub record JoinsAreLawful : Type 0 where
  pub of_joined : (m n : Meaning) → Laws m → Laws n → Laws (joined m n)
  pub of_waived : (marks : List Bool) (m : Meaning) → Laws m → Laws (waived marks m)
