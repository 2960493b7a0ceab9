-- Laws of the state that a read leaves: what is settled before it, also where it is made in two steps. Assumes nothing.
use mathlib.Core.Bool.{Bool, true, false, cond, true≢false}
use mathlib.Core.List.{List, [], ◌++◌}
use mathlib.Core.Path.{◌≡◌, refl, sym, ◌∙◌, ap, subst}
use native.Mathlib.Omega.{arith}
use Prim.Native.Nat.{ℕ, ◌+◌, ◌-◌, ◌≤◌, ◌<◌, min}
use lib.Dec.{ltb}
use lib.ListN.{length, take, drop}
use lib.Seq.{length-take-le, take_all, take-take}
use Rattle.std.proofs.lemmas.List.{length-take}
use borrow.Author.Tests.{ltb-true, ltb-false, lt-ltb, le-ltb}
use Rattle.std.specs.Prelude.{Result, Ok, Err}
use Rattle.print.specs.Waiting.{Output}
use Rattle.frames.specs.declared.Ended.{Ended}
use Rattle.frames.specs.declared.State.{State}
use Rattle.frames.specs.Block.{Block}
use Rattle.frames.specs.Input.{Ready, same, anew, written, settled, finished, Takes, Reads, goes, ends, Keeps}
use Rattle.frames.proofs.Coming.{begun, short, dry, empty, readied}
use Rattle.frames.proofs.Coming as Coming

-- outputs by their parts
pub outs : {o p : Output} → o.fd ≡ p.fd → o.waits ≡ p.waits → o ≡ p
outs e f = λ i. record { fd = e i; waits = f i }

module _ (s : State) (n : ℕ) where
  pub settles : length s.input.left < n → settled s n ≡ written s.out.fd
  unfolding settled
  settles h = rw (lt-ltb (length s.input.left) n h)

  pub stays : n ≤ length s.input.left → settled s n ≡ s.out
  unfolding settled
  stays h = rw (le-ltb (length s.input.left) n h)

  -- it goes where it went
  settled_fd : (settled s n).fd ≡ s.out.fd
  unfolding settled
  settled_fd = pick (ltb (length s.input.left) n)
    where
      pick : (t : Bool) → (cond t (written s.out.fd) s.out).fd ≡ s.out.fd
      pick true = refl
      pick false = refl

  pub closed : {o p : Output} → o ≡ settled s n → p ≡ written o.fd → p ≡ written s.out.fd
  closed e f = f ∙ ap (λ (x : Output). written x.fd) e ∙ ap (λ (fd : ℕ). written fd) settled_fd

  -- no more waits than before
  settled_keeps : Keeps s.out (settled s n)
  unfolding settled
  settled_keeps = pick (ltb (length s.input.left) n)
    where
      pick : (t : Bool) → Keeps s.out (cond t (written s.out.fd) s.out)
      pick true = refl
      pick false = sym (take_all (length s.out.waits) s.out.waits (omega arith))

-- a test, moved
moved : (x y m k : ℕ) → y + k ≡ x + m → ltb y m ≡ ltb x k
moved x y m k e = pick (ltb x k) refl
  where
    pick : (t : Bool) → ltb x k ≡ t → ltb y m ≡ t
    pick true h = lt-ltb y m (omega (arith, ltb-true x k h))
    pick false h = le-ltb y m (omega (arith, ltb-false x k h))

-- written out twice is written out once
choice : (o : Output) (p q r : Bool) → (p ≡ true → q ≡ true) → (p ≡ false → r ≡ q) → cond r (written (cond p (written o.fd) o).fd) (cond p (written o.fd) o) ≡ cond q (written o.fd) o
choice o true true true a b = refl
choice o true true false a b = refl
choice o true false r a b = absurd (true≢false (sym (a refl)))
choice o false q r a b = rw (b refl)

-- settled for n bytes and then, where w is left, for m: as for k at once
module _ (s : State) (w : Block) (n m k : ℕ) (less : length s.input.left < n → length s.input.left < k) (even : n ≤ length s.input.left → length w.left + k ≡ length s.input.left + m) where
  twice : settled (record { input = w; out = settled s n }) m ≡ settled s k
  unfolding settled
  twice =
      let x = length s.input.left in
      choice s.out (ltb x n) (ltb x k) (ltb (length w.left) m) (λ p. lt-ltb x k (less (ltb-true x n p)))
      (λ p. moved x (length w.left) m k (even (ltb-false x n p)))

-- of a block of which something is left nothing is read
kept : {w v : Block} → Ready w v → 0 < length w.left → length v.left ≡ length w.left
kept (same some e) pos = ap (λ (b : Block). length b.left) e
kept (anew z g) pos = absurd (omega (arith, ap length z))

-- made ready before n bytes are wanted, where what waits is settled for one
once : {v : Block} (s : State) {n : ℕ} {o : Output} → Ready s.input v → 0 < n → o ≡ settled s 1 → settled (record { input = v; out = o }) n ≡ settled s n
once {v} s {n} y pos e =
    ap (λ (x : Output). settled (record { input = v; out = x }) n) e ∙ twice s v 1 n n (λ p. omega arith) (λ p. ap (λ (k : ℕ). k + n) (kept y p))

pub begins : {X : Type 0} {v : Block} {old new : List ℕ} {s t u : State} {n : ℕ} {r : Result X Ended} → u.input ≡ s.input → u.out ≡ settled s 1 → Ready u.input v → 0 < n
    → Reads (record { input = v; out = u.out }) n old new t r → Reads s n old new t r
begins {X} {v} {old} {new} {s} {t} {u} {n} {r} unread e y pos h = pick h
  where
    here : Ready s.input v
    here = subst (λ (w : Block). Ready w v) unread y

    pick : Reads (record { input = v; out = u.out }) n old new t r → Reads s n old new t r
    pick (goes h le f i) = goes (readied here pos h) le (f ∙ once s here pos e) i
    pick (ends h less f i) = ends (readied here pos h) less (closed s 1 e f) i

-- made ready, and nothing came
pub nothing_comes : {X : Type 0} {v : Block} {old : List ℕ} {s t u : State} {n : ℕ} (k : ℕ) {r : Result X Ended} {f : Ended} → u.input ≡ s.input → u.out ≡ settled s k → Ready u.input v → 0 < n
    → length v.left ≡ 0 → t ≡ finished (record { input = v; out = u.out }) → r ≡ Err f → Reads s n old old t r
nothing_comes {v = v} {old} {s} {t} {u} {n} k {r} unread e y pos none i f =
    let z : v.left ≡ [] = empty none in
    let here : Ready s.input v = subst (λ (w : Block). Ready w v) unread y in
    subst (λ (x : State). Reads s n old old x r) (sym i) (ends (short (begun s.input old) n pos (dry here z) here z) pos (closed s k e refl) f)

-- what was read, as another says
pub failed : {X Y : Type 0} {s t : State} {n : ℕ} {old new : List ℕ} {r : Result X Ended} {q : Result Y Ended} {e f : Ended} → Reads s n old new t r → r ≡ Err e → q ≡ Err f → Reads s n old new t q
failed (goes h le x i) e f = absurd (cc (i, e))
failed (ends h less x i) e f = ends h less x f

pub passed : {X Y : Type 0} {s t : State} {n : ℕ} {old new : List ℕ} {r : Result X Ended} {q : Result Y Ended} {x : X} {y : Y} → Reads s n old new t r → r ≡ Ok x → q ≡ Ok y → Reads s n old new t q
passed (ends h less x i) e f = absurd (cc (i, e))
passed (goes h le x i) e f = goes h le x f

-- a body of m bytes: its first n are put, as many as have places, and the others passed over
module _ {X : Type 0} {s t : State} {n : ℕ} (m : ℕ) (old : List ℕ) (e : n ≡ min m (length old)) {new : List ℕ} {r : Result X Ended} where
  exactly : Reads s (length (take n old)) (take n old) new t r → Reads s n (take n old) new t r
  exactly h = subst (λ (k : ℕ). Reads s k (take n old) new t r) (length-take-le n old (omega arith)) h

  pub cut : {f : Ended} → Reads s (length (take n old)) (take n old) new t r → r ≡ Err f → Reads s m old (new ++ drop n old) t r
  cut {f} h o = pick (exactly h)
    where
      pick : Reads s n (take n old) new t r → Reads s m old (new ++ drop n old) t r
      pick (goes h le i j) = absurd (cc (o, j))
      pick (ends h less i j) = ends (Coming.cut n m old e h less) (omega arith) i j

  pub body : {Y : Type 0} {u : State} {q : Result Y Ended} {x : X} → Reads s (length (take n old)) (take n old) new t r → r ≡ Ok x → Reads t (m - n) [] [] u q
      → Reads s m old (new ++ drop n old) u q
  body {Y} {u} {q} h o g = pick (exactly h)
    where
      pick : Reads s n (take n old) new t r → Reads s m old (new ++ drop n old) u q
      pick (ends h less i j) = absurd (cc (o, j))
      pick (goes h le i j) = rest g
        where
          after : (k : ℕ) → settled t k ≡ settled (record { input = t.input; out = settled s n }) k
          after k = ap (λ (o : Output). settled (record { input = t.input; out = o }) k) i

          rest : Reads t (m - n) [] [] u q → Reads s m old (new ++ drop n old) u q
          rest (goes k le' a b) =
              goes (Coming.on n m old e h le k) (omega arith)
              (a ∙ after (m - n) ∙ twice s t.input n (m - n) m (λ p. omega arith) (λ p. omega (arith, Coming.remain n m old e h le p))) b
          rest (ends k less a b) = ends (Coming.on n m old e h le k) (omega arith) (closed s n i a) b

-- settled, and then as many bytes taken as came
here : {i j : Block} {n count : ℕ} {old new : List ℕ} {v : Block} → i ≡ j → Takes i n old new v count → Takes j n old new v count
here {n = n} {count} {old} {new} {v} unread h = subst (λ (w : Block). Takes w n old new v count) unread h

module _ {s u : State} {n : ℕ} (unread : u.input ≡ s.input) (out : u.out ≡ settled s n) {old new : List ℕ} {v : Block} {count : ℕ} (h : Takes u.input n old new v count) where
  pub filled : {X : Type 0} {x : X} → n ≤ count → Reads s n old new (record { input = v; out = u.out }) (Ok x)
  filled le = goes (here unread h) le out refl

  pub broken : {X : Type 0} {t : State} {r : Result X Ended} {e : Ended} → count < n → t ≡ finished (record { input = v; out = u.out }) → r ≡ Err e → Reads s n old new t r
  broken {t = t} {r} less f e = subst (λ (x : State). Reads s n old new x r) (sym f) (ends (here unread h) less (closed s n out refl) e)

-- no more waits behind a read than before it, and it has not changed
pub keeps : {X : Type 0} {old new : List ℕ} {s t : State} {n : ℕ} {r : Result X Ended} → Reads s n old new t r → Keeps s.out t.out
keeps {s = s} {n = n} (goes h le e i) = subst (λ (o : Output). Keeps s.out o) (sym e) (settled_keeps s n)
keeps {s = s} (ends h less e i) = subst (λ (o : Output). Keeps s.out o) (sym e) refl

-- the same of two steps
pub keeps_on : (o p q : Output) → Keeps o p → Keeps p q → Keeps o q
keeps_on o p q e f =
    let m = length q.waits in
    let n = length p.waits in
    let le : m ≤ n = omega (arith, ap length f, length-take m p.waits) in
    f ∙ ap (λ (l : List ℕ). take m l) e ∙ take-take m n o.waits le

-- settled
pub settles_keeps : (s : State) (n : ℕ) {o : Output} → o ≡ settled s n → Keeps s.out o
settles_keeps s n e = subst (λ (o : Output). Keeps s.out o) (sym e) (settled_keeps s n)
