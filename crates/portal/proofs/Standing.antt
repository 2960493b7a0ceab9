-- The calls over a tree that the portal keeps, from their contracts alone: what C reads off a call is what the monitor's outcome says, so demand 3 and the
-- secrecy rule for histories are the monitor's. Assumes nothing.
use mathlib.Core.Path.{◌≡◌, refl, sym, ◌∙◌, ap, subst}
use mathlib.Core.List.{List, [], ◌∷◌, map}
use Prim.Native.Nat.{ℕ, ◌/◌, ◌%◌, ◌<◌, ◌≤◌}
use native.Mathlib.Omega.{arith}
use Rattle.rules.specs.Limits.{max_budget, bad_follow_on}
use Rattle.rules.specs.Level.{Level}
use Rattle.rules.specs.Number.{range}
use Rattle.rules.specs.Run.{Stop, flow, absent, tableFull, boardFull, spent, overflow, stop_number, Ending, finished, stopped}
use Rattle.rules.specs.Outcome as Rules
use Rattle.rules.specs.Outcome.{ending_number, answer}
use Rattle.rules.specs.Public.{Comparable}
use Rattle.rules.specs.History.{section_script}
use Rattle.actions.specs.Board.{seen_board}
use Rattle.monitor.specs.declared.entry.Outcome.{Outcome}
use Rattle.monitor.specs.Promises.{answer_of, places_in, Tree, Leaves, Promises}
use Rattle.monitor.specs.Secrecy.{seen_of, SecretCalls}
use Rattle.monitor.specs.Follow.{StandsIn, Follows, over, none}
use Rattle.monitor.specs.Histories.{Call, CallHistory, UnseenHistory, SecretHistories, SecretJobHistories}
use Rattle.monitor.proofs.Secret.{secret_calls}
use Rattle.monitor.proofs.Histories.{secret_histories}
use Rattle.monitor.proofs.JobHistories.{secret_job_histories}
use Rattle.portal.specs.Portal.{number_of}
use Rattle.portal.specs.Secrecy.{ending_in, count_in, lines_in, Unseen}
use Rattle.portal.specs.Standing.{Words, shown, TurnedBack, PortalCall, PortalHistory, SecretStart, UnseenPortalHistory, SecretPortalHistories, SecretPortalJobHistories}
use Rattle.portal.proofs.Handed.{few_started, few_followed}
use Rattle.portal.proofs.Secret.{upper, lower}

-- an outcome, and what C reads off its number and the area
module _ (o : Outcome) (few : (answer_of o).lines ≤ max_budget) (x' : Words) (n : ℕ) (is : n ≡ number_of (answer_of o)) where
  ending_in_law : ending_in (shown n x') ≡ (answer_of o).ending
  unfolding ending_in number_of
  ending_in_law = ap (λ (k : ℕ). k / range) is ∙ upper _ _ few

  lines_in_law : (r : Level) → lines_in r (shown n x') ≡ seen_of r o x'
  unfolding lines_in count_in seen_of number_of
  lines_in_law r = ap (λ (k : ℕ). seen_board r k x'.board) (ap (λ (k : ℕ). k % range) is ∙ lower _ _ few)

-- what a reader r sees of the lines of two calls, from what r sees of those of their outcomes
unseen : (r : Level) (p q : Outcome) → (answer_of p).lines ≤ max_budget → (answer_of q).lines ≤ max_budget → (x y : Words) (n m : ℕ)
    → n ≡ number_of (answer_of p) → m ≡ number_of (answer_of q) → Comparable (seen_of r p x) (seen_of r q y)
    → ((answer_of p).ending ≡ 0 → (answer_of q).ending ≡ 0 → seen_of r p x ≡ seen_of r q y) → Unseen r (shown n x) (shown m y)
unseen r p q fp fq x y n m ip iq lines finish =
    record {
      lines = rw (lines_in_law p fp x n ip r, lines_in_law q fq y m iq r) lines;
      finish = λ e f.
          lines_in_law p fp x n ip r ∙ finish (sym (ending_in_law p fp x n ip) ∙ e) (sym (ending_in_law q fq y m iq) ∙ f) ∙ sym (lines_in_law q fq y m iq r);
    }

-- a stop has a number from 21 on
from_flow : (k : Stop) → stop_number k < stop_number flow → ⊥
unfolding stop_number
from_flow flow h = omega arith
from_flow absent h = omega arith
from_flow tableFull h = omega arith
from_flow boardFull h = omega arith
from_flow spent h = omega arith
from_flow overflow h = omega arith

ended_back : (e : Ending) → 0 < ending_number e → ending_number e < stop_number flow → ⊥
unfolding ending_number
ended_back finished a b = omega arith
ended_back (stopped k) a b = from_flow k b

-- so what has another number was not run
back : (w : Rules.Outcome) (n : ℕ) (x x' : Words) → Leaves places_in Tree n x x' w → 0 < (answer w).ending → (answer w).ending < stop_number flow → x' ≡ x
unfolding answer
back (Rules.rejected k i) n x x' l a b = l
back (Rules.ran e) n x x' l a b = absurd (ended_back e.ending a b)

-- the outcome of the rules that a call's outcome says
record Said (x x' : Words) (o : Outcome) : Type 0 where
  outcome : Rules.Outcome
  told : answer_of o ≡ answer outcome
  variables : ℕ
  leaves : Leaves places_in Tree variables x x' outcome

said_start : {b : List ℕ} {budget : ℕ} {x x' : Words} {o : Outcome} → Promises places_in Tree b budget x x' o → Said x x' o
said_start p = record { outcome = _; told = p.answered; variables = _; leaves = p.leaves }

said_follow : {b : List ℕ} {budget : ℕ} {x x' : Words} {o : Outcome} → Follows places_in Tree StandsIn b budget x x' o → Said x x' o
said_follow (over s h t k) = record { outcome = _; told = t.answered; variables = _; leaves = t.leaves }
said_follow (none h t) = record { outcome = Rules.rejected bad_follow_on 0; told = t.answered; variables = 0; leaves = t.leaves }

module _ (x x' : Words) (n : ℕ) (o : Outcome) (few : (answer_of o).lines ≤ max_budget) (is : n ≡ number_of (answer_of o)) (s : Said x x' o) where
  ending_said : ending_in (shown n x') ≡ (answer s.outcome).ending
  ending_said = ending_in_law o few x' n is ∙ ap (λ a. a.ending) s.told

  said_back : 0 < ending_in (shown n x') → ending_in (shown n x') < stop_number flow → x' ≡ x
  said_back a b =
      back s.outcome s.variables x x' s.leaves (subst (λ (k : ℕ). 0 < k) ending_said a) (subst (λ (k : ℕ). k < stop_number flow) ending_said b)

pub turned_back_law : TurnedBack
unfolding TurnedBack
turned_back_law =
    record {
      start = λ b budget x x' n g. said_back x x' n g.outcome (few_started g.promise) g.number (said_start g.promise);
      follow = λ b budget x x' n g. said_back x x' n g.outcome (few_followed g.promise) g.number (said_follow g.promise);
    }

-- two calls of portal_start
pub secret_start : (o : Level) → SecretStart o
unfolding SecretStart SecretCalls
secret_start o a b n m x x' y y' r s p q ha hb alike =
    let u = secret_calls o a b n m x x' y y' p.outcome q.outcome p.promise q.promise ha hb alike in
    let fp = few_started p.promise in
    let fq = few_started q.promise in
    let ep = sym (ending_in_law p.outcome fp x' r p.number) in
    let eq = sym (ending_in_law q.outcome fq y' s q.number) in
    record {
      lines =
          unseen o p.outcome q.outcome fp fq x' y' r s p.number q.number u.lines (λ e f. (u.finish e f).lines);
      variables = λ e f. (u.finish (ep ∙ e) (eq ∙ f)).variables;
      trees = λ e f. (u.finish (ep ∙ e) (eq ∙ f)).trees;
    }

-- calls of portal_follow as the monitor's calls
calls : (x : Words) (cs : List PortalCall) → PortalHistory x cs → List (Call (List ℕ))
calls x [] h = []
calls x (c ∷ cs) h =
    record { section = c.section; budget = c.budget; given = c.given; left = c.left; outcome = h.1.0.outcome } ∷ calls c.left cs h.1.1

kept : (x : Words) (cs : List PortalCall) (h : PortalHistory x cs) → CallHistory places_in Tree StandsIn x (calls x cs h)
unfolding calls
kept x [] h = tt
kept x (c ∷ cs) h = (h.0, (h.1.0.promise, kept c.left cs h.1.1))

scripts : (x : Words) (cs : List PortalCall) (h : PortalHistory x cs)
    → map (λ c. section_script c.section) (calls x cs h) ≡ map (λ c. section_script c.section) cs
unfolding calls
scripts x [] h = refl
scripts x (c ∷ cs) h = ap (λ ss. section_script c.section ∷ ss) (scripts c.left cs h.1.1)

read_off : (o : Level) (cs ds : List PortalCall) (x y : Words) (h : PortalHistory x cs) (k : PortalHistory y ds)
    → UnseenHistory places_in Tree StandsIn o (calls x cs h) (calls y ds k) → UnseenPortalHistory o cs ds
unfolding calls
read_off o [] ds x y h k u = tt
read_off o (c ∷ cs) [] x y h k u = tt
read_off o (c ∷ cs) (d ∷ ds) x y h k u =
    let p = h.1.0 in
    let q = k.1.0 in
    let fp = few_followed p.promise in
    let fq = few_followed q.promise in
    let ep = sym (ending_in_law p.outcome fp c.left c.number p.number) in
    let eq = sym (ending_in_law q.outcome fq d.left d.number q.number) in (
      unseen o p.outcome q.outcome fp fq c.left d.left c.number d.number p.number q.number u.0 (λ e f. (u.1 e f).0.lines),
      λ e f. let w = u.1 (ep ∙ e) (eq ∙ f) in (w.0.agree, read_off o cs ds c.left d.left h.1.1 k.1.1 w.1),
    )

pub secret_portal_histories : (o : Level) → SecretPortalHistories o
unfolding SecretPortalHistories SecretHistories
secret_portal_histories o x y cs ds agree same h k =
    read_off o cs ds x y h k
    (secret_histories o x y (calls x cs h) (calls y ds k) agree (scripts x cs h ∙ same ∙ sym (scripts y ds k)) (kept x cs h) (kept y ds k))

pub secret_portal_job_histories : (o : Level) → SecretPortalJobHistories o
unfolding SecretPortalJobHistories SecretJobHistories SecretStart
secret_portal_job_histories o a b n m x x' y y' z w r s cs ds p q ha hb alike on on' same h k =
    let ep = sym (ending_in_law p.outcome (few_started p.promise) x' r p.number) in
    let eq = sym (ending_in_law q.outcome (few_started q.promise) y' s q.number) in
    let u = secret_job_histories o a b n m x x' y y' z w p.outcome q.outcome (calls z cs h) (calls w ds k) p.promise q.promise ha hb alike on on'
    (scripts z cs h ∙ same ∙ sym (scripts w ds k)) (kept z cs h) (kept w ds k) in (
      secret_start o a b n m x x' y y' r s p q ha hb alike,
      λ e f. read_off o cs ds z w h k (u.1 (ep ∙ e) (eq ∙ f)),
    )
