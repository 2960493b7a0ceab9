-- The report, call by call: from a place to the next change nothing is dirty, so what is left of the report from the one is what is left from the other. Assumes
-- nothing.
use mathlib.Core.Path.{◌≡◌, sym, ap, ◌∙◌}
use Prim.Native.Nat.{ℕ, zero, suc, ◌+◌, ◌-◌, ◌≤◌, ◌<◌}
use native.Mathlib.Omega.{arith}
use native.Mathlib.Decide.{dec_lt}
use mathlib.Core.Bool.{true, false, ◌&&◌}
use mathlib.Core.List.{List, [], ◌∷◌}
use lib.Dec.{ltb}
use lib.ListN.{length}
use borrow.Author.Tests.{lt-ltb, le-ltb, ltb-true}
use Rattle.rules.specs.Blocks.{first_from}
use Rattle.rules.specs.Check.{length_rule, offset_rule, first}
use Rattle.rules.specs.Bytes.{nodes_at, script_at, trailer_at}
use Rattle.rules.specs.Clean.{Change, change_at, spot_in, spot_of, is_dirty, changes, report}
use Rattle.rules.proofs.Tests.{Test, holds, fails, test, both}
use Rattle.rules.proofs.Search.{search}
use Rattle.rules.proofs.Accepted.{right_by}
use Rattle.rules.proofs.Reported.{changes_yes, changes_no}
use Rattle.std.specs.Prelude.{Some, None}
use Rattle.std.proofs.lemmas.Option.{same_Some, none-some}
use Rattle.cleaner.specs.declared.changes.Change as Program
use Rattle.cleaner.specs.Cleaner.{next_place, spot_held, found, said, next_of, handed, HandsReport}

module _ (b : List ℕ) where
  -- what is left of the report from a place on
  abbrev left : ℕ → List Change
  left from = changes b (length b - from) from

  left_here : (at : ℕ) → at < length b → is_dirty b at ≡ true → left at ≡ change_at b at ∷ left (suc at)
  left_here at h e =
      let z : length b - at ≡ suc (length b - suc at) = omega arith in ap (λ (n : ℕ). changes b n at) z ∙ changes_yes b (length b - suc at) at e

  left_next : (at : ℕ) → at < length b → is_dirty b at ≡ false → left at ≡ left (suc at)
  left_next at h e =
      let z : length b - at ≡ suc (length b - suc at) = omega arith in ap (λ (n : ℕ). changes b n at) z ∙ changes_no b (length b - suc at) at e

  left_end : (at : ℕ) → length b ≤ at → left at ≡ []
  unfolding changes
  left_end at h = let z : length b - at ≡ 0 = omega arith in ap (λ (n : ℕ). changes b n at) z

  -- over places that are not dirty
  pass : (n from : ℕ) → from + n ≤ length b → ((k : ℕ) → from ≤ k → k < from + n → is_dirty b k ≡ false) → left from ≡ left (from + n)
  pass zero from h g = ap left {x = from} {y = from + 0} (omega arith)
  pass (suc n) from h g =
      left_next from (omega arith) (g from (omega arith) (omega arith))
      ∙ pass n (suc from) (omega arith) (λ k a c. g k (omega arith) (omega arith))
      ∙ ap left {x = suc from + n} {y = from + suc n} (omega arith)

  pub to_next : (from : ℕ) → from ≤ length b → left from ≡ left (next_place b from)
  unfolding next_place
  to_next from h =
      let s = search (is_dirty b) (length b - from) from in
      let p = first_from (is_dirty b) (length b - from) from in
      pass (p - from) from (omega (arith, s.from, s.to)) (λ k a c. s.missed k a (omega (arith, s.from)))
      ∙ ap left {x = from + (p - from)} {y = p} (omega (arith, s.from))

  pub next_dirty : (from : ℕ) → next_place b from < length b → is_dirty b (next_place b from) ≡ true
  unfolding next_place
  next_dirty from h = let s = search (is_dirty b) (length b - from) from in s.found (omega (arith, s.from))

  pub next_from : (from : ℕ) → from ≤ next_place b from
  unfolding next_place
  next_from from = (search (is_dirty b) (length b - from) from).from

  -- a change says what the rules' does: its section is one of the four
  said_found : (at after : ℕ) → said (found (change_at b at) after) ≡ change_at b at
  unfolding found change_at spot_held spot_of spot_in
  said_found at after = by (test (ltb at (nodes_at b))) (test (ltb at (script_at b))) (test (ltb at (trailer_at b)))
    where
      by : Test (ltb at (nodes_at b)) → Test (ltb at (script_at b)) → Test (ltb at (trailer_at b)) → said (found (change_at b at) after) ≡ change_at b at
      by (holds t) u v = rw t
      by (fails t) (holds u) v = rw (t, u)
      by (fails t) (fails u) (holds v) = rw (t, u, v)
      by (fails t) (fails u) (fails v) = rw (t, u, v)

  -- one call
  one_found : (n from at : ℕ) → next_of b from ≡ Some (found (change_at b at) (suc at)) → handed b (suc n) from ≡ change_at b at ∷ handed b n (suc at)
  unfolding handed found
  one_found n from at e = rw (e, handed) (ap (λ (c : Change). c ∷ handed b n (suc at)) (said_found at (suc at)))

  one_end : (n from : ℕ) → next_of b from ≡ None → handed b (suc n) from ≡ []
  unfolding handed
  one_end n from e = rw (e, handed)

  module _ (d : length_rule (length b) ≡ true) (e : offset_rule b ≡ true) where
    pub is_found : (from : ℕ) → next_place b from < length b → next_of b from ≡ Some (found (change_at b (next_place b from)) (suc (next_place b from)))
    unfolding next_of
    is_found from h = rw (d, e, lt-ltb (next_place b from) (length b) h)

    pub is_end_law : (from : ℕ) → length b ≤ next_place b from → next_of b from ≡ None
    unfolding next_of
    is_end_law from h = rw (d, e, le-ltb (next_place b from) (length b) h)

    all_handed : (n from : ℕ) → from ≤ length b → length b ≤ from + n → handed b n from ≡ left from
    unfolding handed
    all_handed zero from h g = sym (left_end from (omega arith))
    all_handed (suc n) from h g = by (dec_lt (next_place b from) (length b)) (λ k l m. all_handed n k l m)
      where
        by : Dec (next_place b from < length b) → ((k : ℕ) → k ≤ length b → length b ≤ k + n → handed b n k ≡ left k) → handed b (suc n) from ≡ left from
        by (yes z) r =
            let p = next_place b from in
            one_found n from p (is_found from z)
            ∙ ap (λ (cs : List Change). change_at b p ∷ cs) (r (suc p) (omega arith) (omega (arith, next_from from)))
            ∙ sym (to_next from h ∙ left_here p z (next_dirty from z))
        by (no z) r = one_end n from (is_end_law from (omega arith)) ∙ sym (to_next from h ∙ left_end (next_place b from) (omega arith))

  -- each call comes further, and not behind the end
  pub found_later : (from : ℕ) (c : Program.Change) → next_of b from ≡ Some c → (from < c.after) × (c.after ≤ length b)
  unfolding next_of found
  found_later from c e = by (test (length_rule (length b) && offset_rule b && ltb (next_place b from) (length b)))
    where
      by : Test (length_rule (length b) && offset_rule b && ltb (next_place b from) (length b)) → (from < c.after) × (c.after ≤ length b)
      by (holds t) =
          let q = next_from from in
          let l = ltb-true (next_place b from) (length b) (both (length_rule (length b) && offset_rule b) (ltb (next_place b from) (length b)) t).1 in
          let z : suc (next_place b from) ≡ c.after = ap (λ (x : Program.Change). x.after) (same_Some _ _ (rw t at e)) in
          (omega (arith, q, z), omega (arith, l, z))
      by (fails t) = absurd (none-some _ (rw t at e))

  -- none where the sections do not lie within the bytes
  pub not_long : (from : ℕ) → length_rule (length b) ≡ false → next_of b from ≡ None
  unfolding next_of
  not_long from d = rw d

  pub not_laid : (from : ℕ) → length_rule (length b) ≡ true → offset_rule b ≡ false → next_of b from ≡ None
  unfolding next_of
  not_laid from d e = rw (d, e)

pub hands_report : HandsReport
unfolding report
hands_report =
    record {
      every = λ b n e h.
          let r = (right_by first b e).right in
          let z : length b ≡ length b - 0 = omega arith in
          all_handed b r.lengths r.offsets n 0 (omega arith) (omega arith) ∙ sym (ap (λ (k : ℕ). changes b k 0) z);
    }
