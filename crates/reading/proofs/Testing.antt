-- The fault of a line that is taken: that of the line itself, or that its table is full.
use Rattle.std.proofs.Common.{◌≡◌, ℕ, List, [], ◌∷◌, ◌++◌, Some, None, Option, refl, ap, ◌∙◌, arith}
use Rattle.refusals.specs.declared.Refusal.{Refusal}
use Rattle.refusals.specs.declared.Refusal.TheVariants.{Full}
use Rattle.refusals.specs.declared.Fault.{Fault}
use Rattle.text.specs.Fields.{kind_of}
use Rattle.text.specs.Rows.{Row}
use Rattle.entries.specs.Entries.{before, first_of, record_tests, record_refusal}
use Rattle.reading.specs.Readings.{Reading, fault_if, full_fault, take_fault}

-- one test more at the end changes nothing where an earlier one applies
after_some : (ts : List (Refusal × Option ℕ)) (t : Refusal × Option ℕ) (f : Refusal × ℕ) → first_of ts ≡ Some f → first_of (ts ++ t ∷ []) ≡ Some f
after_some [] t f e = let z : ◌≡◌ {A = ℕ} 0 1 = cc in absurd (omega arith)
after_some (s ∷ ts) t f e = go s.1 e (after_some ts t f)
  where
    go : (o : Option ℕ) → before s.0 o (first_of ts) ≡ Some f → (first_of ts ≡ Some f → first_of (ts ++ t ∷ []) ≡ Some f) → before s.0 o (first_of (ts ++ t ∷ [])) ≡ Some f
    go None e h = h e
    go (Some i) e h = e

pub line_fault : (r : Reading) (n m : ℕ) (row : Row) (f : Fault) → fault_if row.place (record_refusal r.period r.events row.bytes) ≡ Some f →
    take_fault r n m row ≡ Some f
line_fault r n m row f = go (record_refusal r.period r.events row.bytes) refl
  where
    go : (o : Option (Refusal × ℕ)) → record_refusal r.period r.events row.bytes ≡ o → fault_if row.place o ≡ Some f → take_fault r n m row ≡ Some f
    go None e h = let z : ◌≡◌ {A = ℕ} 0 1 = cc in absurd (omega arith)
    go (Some g) e h = ap (fault_if row.place) (after_some (record_tests r.period r.events row.bytes) (Full, full_fault (kind_of row.bytes) r n m) g e) ∙ h
