-- What is true of every search.
use Rattle.std.proofs.Common.{◌≡◌, ℕ, ◌+◌, ◌<◌, ◌≤◌, List, length, take, sym, refl, ap, ◌∙◌, arith}
use Rattle.std.proofs.lemmas.Bool.{false≢true}
use Rattle.std.proofs.lemmas.List.{length-take, get_or-take}
use Rattle.minutes.specs.Minutes.{at}
use Rattle.search.specs.declared.Answer.{Answer}
use Rattle.search.specs.declared.Answer.TheVariants.{Found, Nothing, Spent}
use Rattle.search.specs.Search.{Problem, events, WellPosed, Way, Says, Finds}
use Rattle.search.specs.InWords.{EarliestOrNone, TheNumber}
use Rattle.search.specs.Theorems.{problem, SomeWay, OneAnswer, FloorCut, added, MustAnswer, Resuming, EarliestOrNoneHolds, TheNumberHolds}
use Rattle.search.proofs.Living.{some_way}
use Rattle.search.proofs.AnyWay.{any_way, counted_any}
use Rattle.search.proofs.Answering.{one_answer}
use Rattle.search.proofs.Listing.{same_number}
use Rattle.search.proofs.Floors.{same_floor}
use Rattle.search.proofs.SameMeaning.{same_answers, same_back}
use Rattle.search.proofs.Resuming.{resumed}

pub there_is_a_way : SomeWay
there_is_a_way = some_way

pub one_answer_only : OneAnswer
one_answer_only q posed v w floor budget a b x y f g =
    let h = any_way q posed w v floor budget b y g in
    let r = one_answer q v floor budget a b x y f h in
    record { answer = r.0; written = r.1; number = same_number _ _ _ _ _ f.listed (counted_any q posed w v floor g.number g.nth g.listed) }

-- floors of the same minutes
alike : (E : ℕ) (f g : List ℕ) → take E f ≡ take E g → (j : ℕ) → j < E → at f j ≡ at g j
alike E f g e j h = sym (get_or-take E f j 0 h) ∙ ap (λ z. at z j) e ∙ get_or-take E g j 0 h

pub floor_cut : FloorCut
floor_cut q posed way f g hf hg e budget a x = same_floor q way g f hg.long hf.long (alike (events q) g f (sym e)) budget a x

must : (q : Problem) → WellPosed q → (floor : List ℕ) (budget : ℕ) (a : Answer) (x : List ℕ) → ((way : Way q) → Finds q way floor budget a x) → MustAnswer q floor budget a x
must q posed floor budget a x f = record {
  finds = f;
  word = λ way b y g. (one_answer q way floor budget b a y x g (f way)).0;
  written = λ way b y g. (one_answer q way floor budget b a y x g (f way)).1;
}

pub resuming : Resuming
resuming m n o allowed pm pn po mn mo v w first second whole next ff fs fw b c k a x f e g h =
    let E = length allowed in
    let long : E ≤ length next = omega (arith, ap length (sym e), length-take E second, fs.long) in
    let eq : (j : ℕ) → j < E → at next j ≡ at second j = λ j l. ap (λ z. at z j) (sym e) ∙ get_or-take E second j 0 l in
    let g' = same_floor (problem m allowed) v next second long fs.long eq c a x (same_answers n m allowed pn pm (same_back m n mn) w v second c a x g) in
    let both = resumed (problem m allowed) pm v first next b c k a x ff f g' in
    must (problem o allowed) po whole (b + c) (added b a) x
    (λ u. same_answers m o allowed pm po mo v u whole (b + c) (added b a) x
    (same_floor (problem m allowed) v whole first fw.long ff.long (alike E whole first h) (b + c) (added b a) x both))

pub earliest_or_none : EarliestOrNoneHolds
earliest_or_none q way floor budget a x f = go a f.says
  where
    go : (a : Answer) → Says q floor budget f.number f.nth a x → EarliestOrNone q floor a x
    go (Found k) s = record { none_if = λ _ u. absurd (u x s.2.solves); none_only = λ e. absurd (false≢true e); otherwise = λ _ y h. refl; earliest = λ _. s.2 }
    go (Nothing k) s = record { none_if = λ _ u. refl; none_only = λ _. s.2; otherwise = λ _ y h. absurd (s.2 y h); earliest = λ e. absurd (false≢true e) }
    go (Spent k) s = record { none_if = λ e u. absurd (false≢true (sym e)); none_only = λ e. absurd (false≢true e); otherwise = λ e y h. absurd (false≢true (sym e)); earliest = λ e. absurd (false≢true e) }

pub the_number : TheNumberHolds
the_number q way floor budget a x f = go a f.says
  where
    go : (a : Answer) → Says q floor budget f.number f.nth a x → TheNumber q way floor budget a x
    go (Found k) s = record { number = f.number; nth = f.nth; listed = f.listed; unspent = λ _. s.0; spent_if = λ l. absurd (omega (arith, s.1)); spent_only = λ e. absurd (false≢true e); budget_carried = λ e. absurd (false≢true e); next = λ e. absurd (false≢true e) }
    go (Nothing k) s = record { number = f.number; nth = f.nth; listed = f.listed; unspent = λ _. s.0; spent_if = λ l. absurd (omega (arith, s.1)); spent_only = λ e. absurd (false≢true e); budget_carried = λ e. absurd (false≢true e); next = λ e. absurd (false≢true e) }
    go (Spent k) s = record { number = f.number; nth = f.nth; listed = f.listed; unspent = λ e. absurd (false≢true (sym e)); spent_if = λ l. refl; spent_only = λ _. s.1; budget_carried = λ _. s.0; next = λ _. s.2 }
