-- The law holds over every list whose calls have their replies.
use Rattle.std.proofs.Common.{◌≡◌, ℕ, zero, suc, ◌+◌, ◌*◌, ◌<◌, ◌≤◌, ◌⊎◌, List, [], ◌∷◌, length, take, drop, Some, None, Option, sym, refl, ap, ◌∙◌, subst, inl, inr, arith, Ok, Err}
use Rattle.std.proofs.lemmas.List.{length-take, length-drop}
use Rattle.refusals.specs.declared.Refusal.{Refusal}
use Rattle.relations.specs.Meaning.{Meaning, Laws}
use Rattle.bank.specs.Calls.{all_below}
use Rattle.calls.specs.Calls.{Call, find, refusal}
use Rattle.calls.specs.Standing.{call_at}
use Rattle.search.specs.declared.Answer.{Answer}
use Rattle.search.specs.declared.Answer.TheVariants.{Spent}
use Rattle.search.specs.Search.{WellPosed, FloorOf}
use Rattle.search.specs.InWords.{EarliestOrNone, TheNumber}
use Rattle.search.specs.Theorems.{problem, SameMeaning, added, MustAnswer}
use Rattle.search.proofs.Living.{some_way}
use Rattle.search.proofs.Proved.{resuming}
use Rattle.find.specs.Outcome.{Outcome}
use Rattle.runs.specs.Requests.{Reply}
use Rattle.runs.specs.declared.requests.Done.TheVariants.{Answered}
use Rattle.runs.specs.declared.requests.Action.{Action}
use Rattle.runs.specs.declared.requests.Action.TheVariants.{Allow, Open, Shut, Left, Find}
use Rattle.runs.specs.declared.requests.Request.{Request}
use Rattle.runs.specs.Requests.{asked, calls_of}
use Rattle.runs.specs.Law.{places, reply_at, stood, allowed_at, Answers, RightReplies, FindAt, list_of, Determined, LawOverRuns}
use Rattle.runs.proofs.Running.{row_ends}
use Rattle.runs.proofs.Finding.{Fits, fits, fits_period, len, posed, floor_of, same_posed, written_is}

-- refused or not
either : (x : Option Refusal) → ((e : Refusal) × (x ≡ Some e)) ⊎ (x ≡ None)
either None = inr refl
either (Some e) = inl (e, refl)

module _ (T E : ℕ) (least : 2 ≤ T) (most : T ≤ 64) (some : 1 ≤ E) (many : E ≤ 256) (cs : List Call) (replies : List Reply) (old new : List ℕ)
    (long : length cs * E ≤ length new)
    (lawful : (i : ℕ) → i < length cs → (m : Meaning) (floor : List ℕ) (b n w : ℕ) → call_at cs i ≡ find m floor b n w → Laws m)
    (right : RightReplies T E cs replies old new) where
  module _ (i : ℕ) (m : Meaning) (floor : List ℕ) (budget : ℕ) (a : Answer) (f : FindAt cs replies i m floor budget a) where
    accepted : refusal T E (stood T E cs i) (call_at cs i) ≡ None
    accepted = elim (either (refusal T E (stood T E cs i) (call_at cs i))) [
      | inl x ↦ let u : reply_at replies i ≡ Err x.0 = (right.each i f.inside).refused x.0 x.1 in
          let v : reply_at replies i ≡ Ok (Answered a) = f.answered in
          let z : ◌≡◌ {A = ℕ} 0 1 = cc in absurd (omega arith)
      | inr x ↦ x
    ]

    outcome : Outcome (problem m (allowed_at T E cs i)) floor budget (places E old i) (places E new i) a
    outcome =
        let h : Answers T E (stood T E cs i) (find m floor budget f.buffer f.workspace) (places E old i) (places E new i) (reply_at replies i) =
        subst (λ c. Answers T E (stood T E cs i) c (places E old i) (places E new i) (reply_at replies i)) f.is ((right.each i f.inside).accepted accepted) in
        let u : reply_at replies i ≡ Ok (Answered h.0) = h.1 in
        let v : reply_at replies i ≡ Ok (Answered a) = f.answered in
        let e : h.0 ≡ a = cc in
        subst (λ z. Outcome (problem m (allowed_at T E cs i)) floor budget (places E old i) (places E new i) z) e h.2

    tests : Fits T E m floor
    tests = fits T E m floor f.buffer f.workspace (subst (λ c. refusal T E (stood T E cs i) c ≡ None) f.is accepted)

    is_posed : WellPosed (problem m (allowed_at T E cs i))
    is_posed = posed T E least most some many (take i cs) m (lawful i f.inside m floor budget f.buffer f.workspace f.is) tests.bank

    is_floor : FloorOf (problem m (allowed_at T E cs i)) floor
    is_floor = floor_of T E least most some many (take i cs) m floor (fits_period T E m tests.bank) tests.long tests.below

    size : length (places E new i) ≡ E
    size = omega (arith, length-take E (drop (i * E) new), length-drop (i * E) new, row_ends i (length cs) E f.inside, long)

    wrote : outcome.written ≡ list_of a (places E new i)
    wrote = written_is (problem m (allowed_at T E cs i)) E (len T E least most some many cs (stood T E cs i)) floor tests.long budget (places E old i) (places E new i) a size outcome

  -- a find from where another stopped
  module _ (i j : ℕ) (m n : Meaning) (first second : List ℕ) (b c k : ℕ) (a : Answer) (f : FindAt cs replies i m first b (Spent k)) (g : FindAt cs replies j n second c a)
      (same : SameMeaning m n) (level : allowed_at T E cs i ≡ allowed_at T E cs j) (from : take E second ≡ places E new i)
      (o : Meaning) (whole : List ℕ) (laws : Laws o) (same_o : SameMeaning m o) (start : take E whole ≡ take E first) where
    e : length (allowed_at T E cs i) ≡ E
    e = len T E least most some many cs (stood T E cs i)

    posed_o : WellPosed (problem o (allowed_at T E cs i))
    posed_o = same_posed T E least most some many (take i cs) m o laws same_o (is_posed i m first b (Spent k) f)

    floor_o : FloorOf (problem o (allowed_at T E cs i)) whole
    floor_o =
        let t = tests i m first b (Spent k) f in
        floor_of T E least most some many (take i cs) o whole (sym same_o.period ∙ fits_period T E m t.bank)
        (omega (arith, ap length start, length-take E whole, length-take E first, t.long)) (ap (all_below T) start ∙ t.below)

    determined : Determined (problem o (allowed_at T E cs i)) whole (b + c) (added b a) (list_of a (places E new j))
    determined =
        let x = outcome i m first b (Spent k) f in
        let y : Outcome (problem n (allowed_at T E cs i)) second c (places E old j) (places E new j) a =
        subst (λ z. Outcome (problem n z) second c (places E old j) (places E new j) a) (sym level) (outcome j n second c a g) in
        let pn : WellPosed (problem n (allowed_at T E cs i)) = subst (λ z. WellPosed (problem n z)) (sym level) (is_posed j n second c a g) in
        let fn : FloorOf (problem n (allowed_at T E cs i)) second = subst (λ z. FloorOf (problem n z) second) (sym level) (is_floor j n second c a g) in
        let wrote_y : y.written ≡ list_of a (places E new j) =
        written_is (problem n (allowed_at T E cs i)) E e second (tests j n second c a g).long c (places E old j) (places E new j) a (size j n second c a g) y in
        let next : take (length (allowed_at T E cs i)) second ≡ x.written = ap (λ z. take z second) e ∙ from ∙ sym (wrote i m first b (Spent k) f) in
        let begin : take (length (allowed_at T E cs i)) whole ≡ take (length (allowed_at T E cs i)) first = subst (λ z. take z whole ≡ take z first) (sym e) start in
        record {
          way = some_way (problem o (allowed_at T E cs i)) posed_o;
          must = subst (λ z. MustAnswer (problem o (allowed_at T E cs i)) whole (b + c) (added b a) z) wrote_y
              (resuming m n o (allowed_at T E cs i) (is_posed i m first b (Spent k) f) pn posed_o same same_o x.way y.way first second whole x.written
              (is_floor i m first b (Spent k) f) fn floor_o b c k a y.written (x.finds x.way) next (y.finds y.way) begin);
        }

  pub law_holds : LawOverRuns T E cs replies old new
  law_holds = record {
    right = right;
    earliest = λ i m floor budget a f. subst (λ z. EarliestOrNone (problem m (allowed_at T E cs i)) floor a z) (wrote i m floor budget a f) (outcome i m floor budget a f).earliest;
    way = λ i m floor budget a f. (outcome i m floor budget a f).way;
    number = λ i m floor budget a f w. subst (λ z. TheNumber (problem m (allowed_at T E cs i)) w floor budget a z) (wrote i m floor budget a f) ((outcome i m floor budget a f).number w);
    resuming = λ i j. record {
      adds_up = λ m n first second b c k a f g same level from o whole laws same_o start.
          determined i j m n first second b c k a f g same level from o whole laws same_o start;
    };
  }

-- the banks that a list of requests brings keep their laws

asked_laws : (m : Meaning) (floor : List ℕ) (E w : ℕ) (a : Action) → Laws m → (n : Meaning) (start : List ℕ) (b p v : ℕ) → asked m floor E w a ≡ find n start b p v → Laws n
asked_laws m floor E w (Allow e s) h n start b p v q = let z : ◌≡◌ {A = ℕ} 0 1 = cc in absurd (omega arith)
asked_laws m floor E w Open h n start b p v q = let z : ◌≡◌ {A = ℕ} 0 1 = cc in absurd (omega arith)
asked_laws m floor E w Shut h n start b p v q = let z : ◌≡◌ {A = ℕ} 0 1 = cc in absurd (omega arith)
asked_laws m floor E w (Left e) h n start b p v q = let z : ◌≡◌ {A = ℕ} 0 1 = cc in absurd (omega arith)
asked_laws m floor E w (Find c) h n start b p v q = let z : m ≡ n = cc in subst Laws z h

pub requests_lawful : {B : Type 0} (f : B → Meaning) → ((b : B) → Laws (f b)) → (E w : ℕ) (rs : List (Request B)) (i : ℕ) → i < length (calls_of f E w rs) →
    (m : Meaning) (floor : List ℕ) (b n v : ℕ) → call_at (calls_of f E w rs) i ≡ find m floor b n v → Laws m
requests_lawful f laws E w [] i h m floor b n v e = absurd (omega arith)
requests_lawful f laws E w (r ∷ rs) zero h m floor b n v e = asked_laws (f r.bank.now) r.floor.now E w r.action (laws r.bank.now) m floor b n v e
requests_lawful f laws E w (r ∷ rs) (suc i) h m floor b n v e = requests_lawful f laws E w rs i (omega arith) m floor b n v e
