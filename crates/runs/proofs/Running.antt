-- A list of calls that is under way.
use borrow.Rule.Slice.PartMut.{put_mid}
use Rattle.std.proofs.Common.{◌≡◌, ℕ, suc, ◌+◌, ◌*◌, ◌<◌, ◌≤◌, ◌≢◌, List, [], length, take, drop, set, sym, refl, ap, ◌∙◌, subst, inl, inr, mul-le-mul_right, suc-mul, add-one, arith, Ok}
use Rattle.std.proofs.lemmas.Bool.{cases_lt}
use Rattle.std.proofs.lemmas.List.{take_more, drop-take, drop-drop, drop_at, drop-set-lt, get_or-set_same, get_or-set_other, length-take}
use Rattle.std.proofs.lemmas.Slice.{take-put_mid_below, take-put_mid, drop-put_mid}
use Rattle.calls.specs.Calls.{Call, open_level, ledger}
use Rattle.calls.specs.Standing.{call_at}
use Rattle.plan.specs.declared.contents.Contents.{Contents}
use Rattle.plan.specs.Decided.{Decided}
use Rattle.runs.specs.Requests.{Reply}
use Rattle.runs.specs.declared.requests.Done.TheVariants.{Accepted}
use Rattle.runs.specs.Law.{places, reply_at, stood, RightReply, RightReplies}
use Rattle.runs.specs.Onward.{GoesOn, Lent}

-- the first i calls of cs have been made
pub record Running (T E : ℕ) (cs : List Call) (i : ℕ) (p : Contents) (before replies : List Reply) (old new w v : List ℕ) : Type 0 where
  pub period : p.period ≡ T
  pub events : p.events ≡ E
  pub plan : Decided p (take i cs)
  pub each : (k : ℕ) → k < i → RightReply T E (stood T E cs k) (call_at cs k) (places E old k) (places E new k) (reply_at replies k)
  pub beyond : drop (i * E) new ≡ drop (i * E) old
  pub others : drop i replies ≡ drop i before
  pub lent : Lent w v

pub running_none : (cs : List Call) (p : Contents) (replies : List Reply) (old w : List ℕ) → Decided p [] → Running p.period p.events cs 0 p replies replies old old w w
running_none cs p replies old w d = record { period = refl; events = refl; plan = d; each = λ k h. absurd (omega arith); beyond = refl; others = refl; lent = record { clears = refl; short = λ _. refl } }

-- E places each
next_row : (i E : ℕ) → (i + 1) * E ≡ i * E + E
next_row i E = ap (λ z. z * E) (add-one i) ∙ suc-mul i E

pub row_ends : (k i E : ℕ) → k < i → k * E + E ≤ i * E
row_ends k i E h = let z : suc k * E ≤ i * E = mul-le-mul_right E h in omega (arith, suc-mul k E)

pub row_fits : (i n r E long : ℕ) → i < n → r ≡ E → n * E ≤ long → i * r + r ≤ long
row_fits i n r E long h e l = subst (λ z. i * z + z ≤ long) (sym e) (omega (arith, row_ends i n E h))

module _ (E i : ℕ) (new x : List ℕ) (long : i * E + E ≤ length new) (len : length x ≡ E) where
  places_before : (k : ℕ) → k < i → places E (put_mid (i * E) E new x) k ≡ places E new k
  places_before k h =
      sym (drop-take (k * E) E (put_mid (i * E) E new x)) ∙ ap (drop (k * E)) (take-put_mid_below (i * E) E new x (k * E + E) (row_ends k i E h) (omega arith)) ∙ drop-take (k * E) E new

  places_here : places E (put_mid (i * E) E new x) i ≡ x
  places_here =
      sym (drop-take (i * E) E (put_mid (i * E) E new x)) ∙ ap (drop (i * E)) (take-put_mid (i * E) E new x (i * E + E) (omega arith) (omega arith))
      ∙ drop_at (take (i * E) new) x (i * E) (omega (arith, length-take (i * E) new))

  beyond_here : drop ((i + 1) * E) (put_mid (i * E) E new x) ≡ drop ((i + 1) * E) new
  beyond_here = drop-put_mid (i * E) E new x ((i + 1) * E) (omega (arith, next_row i E)) (omega arith) len

further : (E i : ℕ) (new old : List ℕ) → drop (i * E) new ≡ drop (i * E) old → drop ((i + 1) * E) new ≡ drop ((i + 1) * E) old
further E i new old h =
    ap (λ n. drop n new) (next_row i E) ∙ sym (drop-drop E (i * E) new) ∙ ap (drop E) h ∙ drop-drop E (i * E) old ∙ ap (λ n. drop n old) (sym (next_row i E))

lent_on : (w v u : List ℕ) → Lent w v → Lent v u → Lent w u
lent_on w v u a b = record { clears = b.clears ∙ a.clears; short = λ h. b.short (subst (λ z. length z < 4096) (sym (a.short h)) h) ∙ a.short h }

same_right : (T U E F : ℕ) (cs : List Call) (c : Call) (old old' new new' : List ℕ) (r s : Reply) → T ≡ U → E ≡ F → old ≡ old' → new ≡ new' → r ≡ s →
    RightReply T E (ledger T E cs) c old new r → RightReply U F (ledger U F cs) c old' new' s
same_right T U E F cs c old old' new new' r s a b d e f h =
    subst (λ z. RightReply U F (ledger U F cs) c old' new' z) f (subst (λ z. RightReply U F (ledger U F cs) c old' z r) e (subst (λ z. RightReply U F (ledger U F cs) c z new r) d
    (subst (λ z. RightReply U z (ledger U z cs) c old new r) b (subst (λ z. RightReply z E (ledger z E cs) c old new r) a h))))

-- one more call
module _ (T E : ℕ) (cs : List Call) (i : ℕ) (p q : Contents) (before replies : List Reply) (old new w v u x : List ℕ) (r : Reply)
    (run : Running T E cs i p before replies old new w v) (inside : i < length cs) (room : length cs ≤ length replies) (long : length cs * E ≤ length new)
    (on : GoesOn p (call_at cs i) q (places E new i) x r) (lent : Lent v u) (len : length x ≡ E) where
  fits : i * E + E ≤ length new
  fits = omega (arith, row_ends i (length cs) E inside)

  here : RightReply T E (stood T E cs i) (call_at cs i) (places E old i) (places E (put_mid (i * E) E new x) i) (reply_at (set replies i r) i)
  here = same_right p.period T p.events E (take i cs) (call_at cs i) (places E new i) (places E old i) x _ r _ run.period run.events
      (ap (take E) run.beyond) (sym (places_here E i new x fits len)) (sym (get_or-set_same replies i r (Ok Accepted) (omega arith))) (on.onward (take i cs) run.plan).reply

  earlier : (k : ℕ) → k < i → RightReply T E (stood T E cs k) (call_at cs k) (places E old k) (places E (put_mid (i * E) E new x) k) (reply_at (set replies i r) k)
  earlier k h =
      let ne : k ≢ i = omega arith in
      subst (λ z. RightReply T E (stood T E cs k) (call_at cs k) (places E old k) (places E (put_mid (i * E) E new x) k) z) (sym (get_or-set_other replies i k r (Ok Accepted) ne))
      (subst (λ z. RightReply T E (stood T E cs k) (call_at cs k) (places E old k) z (reply_at replies k)) (sym (places_before E i new x fits len k h)) (run.each k h))

  ran : Running T E cs (i + 1) q before (set replies i r) old (put_mid (i * E) E new x) w u
  ran = record {
    period = on.period ∙ run.period;
    events = on.events ∙ run.events;
    plan = subst (Decided q) (sym (take_more cs i open_level inside)) (on.onward (take i cs) run.plan).plan;
    each = λ k h. elim (cases_lt k i) [
      | inl l ↦ earlier k l
      | inr l ↦ let e : i ≡ k = omega arith in subst (λ z. RightReply T E (stood T E cs z) (call_at cs z) (places E old z) (places E (put_mid (i * E) E new x) z) (reply_at (set replies i r) z)) e here
    ];
    beyond = beyond_here E i new x fits len ∙ further E i new old run.beyond;
    others = drop-set-lt (i + 1) replies i r (omega arith) ∙ sym (drop-drop 1 i replies) ∙ ap (drop 1) run.others ∙ drop-drop 1 i before;
    lent = lent_on w v u run.lent lent;
  }

  -- as the code has it
  pub ran_by : (a k : ℕ) → a ≡ i * E → k ≡ E → Running T E cs (i + 1) q before (set replies i r) old (put_mid a k new x) w u
  ran_by a k ea ek = subst (λ z. Running T E cs (i + 1) q before (set replies i r) old (put_mid z k new x) w u) (sym ea)
      (subst (λ z. Running T E cs (i + 1) q before (set replies i r) old (put_mid (i * E) z new x) w u) (sym ek) ran)

-- all calls made
pub all_ran : (T E : ℕ) (cs : List Call) (i : ℕ) (p : Contents) (before replies : List Reply) (old new w v : List ℕ) → Running T E cs i p before replies old new w v → i ≡ length cs → RightReplies T E cs replies old new
all_ran T E cs i p before replies old new w v run e = record {
  each = λ k h. run.each k (omega arith);
  beyond = subst (λ n. drop (n * E) new ≡ drop (n * E) old) e run.beyond;
}
