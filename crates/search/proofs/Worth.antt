-- A floor as a number, so that a search ends.
use Rattle.std.proofs.Common.{◌≡◌, ℕ, zero, suc, ◌+◌, ◌-◌, ◌*◌, ◌^◌, ◌<◌, ◌≤◌, List, [], ◌∷◌, length, sym, ap, ◌∙◌, subst, mul-le-mul_right, pow-suc, arith}
use native.Mathlib.Nat.{pow-zero}
use Rattle.minutes.specs.Minutes.{Before, at}
use Rattle.search.proofs.Raising.{Edge}

abbrev pub worth : ℕ → List ℕ → ℕ
worth T [] = 0
worth T (a ∷ x) = a * T ^ length x + worth T x

worth_low : (T : ℕ) (x : List ℕ) → ((j : ℕ) → j < length x → at x j < T) → worth T x < T ^ length x
worth_low T [] low = omega (arith, pow-zero T)
worth_low T (a ∷ x) low =
    let ih = worth_low T x (λ j h. low (suc j) (omega arith)) in
    let m : suc a * T ^ length x ≤ T * T ^ length x = mul-le-mul_right (T ^ length x) (low 0 (omega arith)) in
    omega (arith, pow-suc T (length x))

worth_less : (T k : ℕ) (x y : List ℕ) → length x ≡ length y → k < length x → ((j : ℕ) → 0 < j → j < length x → at x j < T) → ((j : ℕ) → j < k → at x j ≡ at y j) → at x k < at y k → worth T x < worth T y
worth_less T k [] y e h low s l = absurd (omega arith)
worth_less T k (a ∷ x) [] e h low s l = absurd (omega arith)
worth_less T zero (a ∷ x) (b ∷ y) e h low s l =
    let n : length x ≡ length y = omega arith in
    let v = worth_low T x (λ j g. low (suc j) (omega arith) (omega arith)) in
    let m : suc a * T ^ length x ≤ b * T ^ length x = mul-le-mul_right (T ^ length x) l in
    let m' : suc a * T ^ length x ≤ b * T ^ length y = subst (λ z. suc a * T ^ length x ≤ b * T ^ z) n m in
    omega arith
worth_less T (suc k) (a ∷ x) (b ∷ y) e h low s l =
    let n : length x ≡ length y = omega arith in
    let c : a ≡ b = s 0 (omega arith) in
    let ih = worth_less T k x y n (omega arith) (λ j p g. low (suc j) (omega arith) (omega arith)) (λ j g. s (suc j) (omega arith)) l in
    let m : a * T ^ length x ≡ b * T ^ length y = ap (λ z. z * T ^ length x) c ∙ ap (λ z. b * T ^ z) n in
    omega arith

pub worth_before : (T E : ℕ) (x y : List ℕ) → Edge T E x → Edge T E y → Before x y → worth T x < worth T y
worth_before T E x y f g b = worth_less T b.place x y (f.len ∙ sym g.len) b.in_x (λ j p h. f.later j p (omega (arith, f.len))) b.same b.less

abbrev pub top : ℕ → ℕ → ℕ
top T E = 2 * T ^ E

worth_top_at : (T : ℕ) (x : List ℕ) → 0 < T → at x 0 ≤ T → ((j : ℕ) → 0 < j → j < length x → at x j < T) → worth T x ≤ top T (length x)
worth_top_at T [] pos f l = omega arith
worth_top_at T (a ∷ x) pos f l =
    let v = worth_low T x (λ j h. l (suc j) (omega arith) (omega arith)) in
    let m : a * T ^ length x ≤ T * T ^ length x = mul-le-mul_right (T ^ length x) f in
    let m' : 1 * T ^ length x ≤ T * T ^ length x = mul-le-mul_right (T ^ length x) pos in
    omega (arith, pow-suc T (length x))

pub worth_top : (T E : ℕ) (x : List ℕ) → 0 < T → Edge T E x → worth T x ≤ top T E
worth_top T E x pos f = subst (λ z. worth T x ≤ top T z) f.len (worth_top_at T x pos f.first (λ j p h. f.later j p (omega (arith, f.len))))

-- what is left to do at floor y and depth d
abbrev pub ahead : ℕ → ℕ → List ℕ → ℕ → ℕ
ahead T E y d = (top T E - worth T y) * suc E + (E - d)

falls : (u v e c d : ℕ) → u < v → u * suc e + (e - c) < v * suc e + (e - d)
falls u v e c d h = let m : suc u * suc e ≤ v * suc e = mul-le-mul_right (suc e) h in omega arith

pub ahead_up : (T E : ℕ) (x y : List ℕ) (c d : ℕ) → 0 < T → Edge T E x → Edge T E y → Before x y → ahead T E y c < ahead T E x d
ahead_up T E x y c d pos f g b = falls (top T E - worth T y) (top T E - worth T x) E c d (omega (arith, worth_before T E x y f g b, worth_top T E y pos g))

pub ahead_down : (T E : ℕ) (y : List ℕ) (d : ℕ) → d < E → ahead T E y (suc d) < ahead T E y d
ahead_down T E y d h = omega arith
