-- Laws of what comes of the input, and of what is put of it: bytes behind bytes, many of a block at once, and bytes of which the first alone are put. Assumes
-- nothing.
use mathlib.Core.Bool.{Bool, true, false}
use mathlib.Core.List.{List, [], ◌∷◌, ◌++◌, append-nil}
use mathlib.Core.Path.{◌≡◌, refl, sym, ◌∙◌, ap, subst}
use native.Mathlib.Omega.{arith}
use Prim.Native.Nat.{ℕ, zero, suc, ◌+◌, ◌-◌, ◌≤◌, ◌<◌, min}
use lib.Dec.{ltb}
use lib.ListN.{length, take, drop, set, length-append, take-append-drop}
use Rattle.std.proofs.Common.{length-take-le}
use borrow.Author.Tests.{ltb-true, ltb-false}
use Rattle.frames.specs.Block.{Block, at}
use Rattle.frames.specs.Input.{Ready, same, anew, Handed, Comes, none, more, Gives, all, fewer, onto, Takes}

-- of no bytes
pub empty : {w : List ℕ} → length w ≡ 0 → w ≡ []
empty {w = []} e = refl
empty {w = x ∷ w} e = absurd (omega (arith, e))

-- made ready twice
again : {w v u : Block} → Ready w v → Ready v u → Ready w u
again (same some e) (same some' e') = same some (e' ∙ e)
again (same some e) (anew z g) = absurd (omega (arith, ap (λ (b : Block). length b.left) e, ap length z))
again (anew z g) (same some e) = anew z (ap (λ (b : Block). b.gone) e ∙ g)
again (anew z g) (anew z' g') = anew z g'

-- made ready, and still nothing is left
pub dry : {w v : Block} → Ready w v → v.left ≡ [] → w.left ≡ []
dry (same some e) z = sym (ap (λ (b : Block). b.left) e) ∙ z
dry (anew z g) z' = z

-- bytes, and bytes behind them
join : {w v u : Block} {l k : List ℕ} → Comes w l v → Comes v k u → Comes w (l ++ k) u
join none h = h
join (more y g) h = more y (join g h)

-- made ready before the first byte
first : {w v u : Block} {l : List ℕ} → Ready w v → 0 < length l → Comes v l u → Comes w l u
first y pos none = absurd (omega arith)
first y pos (more z h) = more (record { before = z.before; ready = again y z.ready; next = z.next }) h

-- made ready, and nothing came
still : {w v u t : Block} → Ready w v → Comes v [] u → u.left ≡ [] → Ready u t → (w.left ≡ []) × Ready w t
still y none z r = (dry y z, again y r)

primed : {w v u : Block} {l : List ℕ} {n : ℕ} → Ready w v → 0 < n → Gives v n l u → Gives w n l u
primed y pos (all e h) = all e (first y (omega arith) h)
primed {l = []} y pos (fewer less h z r e) = let s = still y h z r in fewer less none s.0 s.1 e
primed {l = x ∷ l} y pos (fewer less h z r e) = fewer less (first y (omega arith) h) z r e

pub readied : {w v u : Block} {old new : List ℕ} {n count : ℕ} → Ready w v → 0 < n → Takes v n old new u count → Takes w n old new u count
readied y pos h = record { came = h.came; gives = primed y pos h.gives; counted = h.counted; put = h.put }

-- bytes of one block
ahead : (b : Block) (g h : ℕ) (l u : List ℕ) → h ≡ g + length l → Comes (at b g (l ++ u)) l (at b h u)
ahead b g h [] u e = let q : g ≡ h = omega (arith, e) in subst (λ (k : ℕ). Comes (at b g u) [] (at b k u)) q none
ahead b g h (x ∷ l) u e = more {u = at b (suc g) (l ++ u)} (record { before = g; ready = same (omega arith) refl; next = refl }) (ahead b (suc g) h l u (omega (arith, e)))

-- of a block of which something is left the first byte is taken
lessened : {w v : Block} {x : ℕ} → Handed w x v → 0 < length w.left → length v.left + 1 ≡ length w.left
lessened {w} {v} {x} h pos = pick h.ready
  where
    pick : Ready w (at v h.before (x ∷ v.left)) → length v.left + 1 ≡ length w.left
    pick (same some e) = omega (arith, ap (λ (b : Block). length b.left) e)
    pick (anew z g) = absurd (omega (arith, ap length z))

-- of a block that has all the bytes that came, the others are left
drawn : {w v : Block} {l : List ℕ} → Comes w l v → length l ≤ length w.left → length v.left + length l ≡ length w.left
drawn none h = omega arith
drawn (more y g) h = let d = lessened y (omega arith) in omega (arith, d, drawn g (omega (arith, d)))

-- nothing is put where there is no place
onto_nil : (l : List ℕ) → onto l [] ≡ []
unfolding onto
onto_nil [] = refl
onto_nil (x ∷ l) = refl

-- one byte more is put
onto_set : (l t : List ℕ) (x : ℕ) → set (onto l t) (length l) x ≡ onto (l ++ (x ∷ [])) t
unfolding onto
onto_set [] [] x = refl
onto_set [] (y ∷ t) x = refl
onto_set (z ∷ l) [] x = refl
onto_set (z ∷ l) (y ∷ t) x = ap (λ (k : List ℕ). z ∷ k) (onto_set l t x)

-- bytes put over the first n places alone
onto_part : (n : ℕ) (l t : List ℕ) → length l ≤ n → onto l (take n t) ++ drop n t ≡ onto l t
unfolding onto
onto_part n [] t h = take-append-drop n t
onto_part zero (x ∷ l) t h = absurd (omega arith)
onto_part (suc n) (x ∷ l) [] h = refl
onto_part (suc n) (x ∷ l) (y ∷ t) h = ap (λ (k : List ℕ). x ∷ k) (onto_part n l t (omega arith))

-- bytes behind those that fill all places
onto_full : (l k t : List ℕ) → length t ≤ length l → onto (l ++ k) t ≡ onto l t
unfolding onto
onto_full [] k [] h = onto_nil k
onto_full [] k (y ∷ t) h = absurd (omega arith)
onto_full (x ∷ l) k [] h = refl
onto_full (x ∷ l) k (y ∷ t) h = ap (λ (j : List ℕ). x ∷ j) (onto_full l k t (omega arith))

-- so many bytes came, and were put over `old`
pub record Came (w : Block) (old new : List ℕ) (v : Block) (count : ℕ) : Type 0 where
  pub bytes : List ℕ
  pub comes : Comes w bytes v
  pub many : count ≡ length bytes
  pub put : new ≡ onto bytes old

pub begun : (w : Block) (old : List ℕ) → Came w old old w 0
unfolding onto
begun w old = record { bytes = []; comes = none; many = refl; put = refl }

module _ {w : Block} {old new : List ℕ} {v : Block} {count : ℕ} (h : Came w old new v count) where
  -- all that were wanted
  pub whole : (n k : ℕ) → k ≡ count → count ≡ n → Takes w n old new v k
  whole n k f e = record { came = h.bytes; gives = all (sym h.many ∙ e) h.comes; counted = f ∙ h.many; put = h.put }

  -- the input has ended
  pub short : {u : Block} (n : ℕ) → count < n → v.left ≡ [] → Ready v u → u.left ≡ [] → Takes w n old new u count
  short n less z r e = record { came = h.bytes; gives = fewer (omega (arith, h.many)) h.comes z r e; counted = h.many; put = h.put }

  -- one byte more, at its place
  pub byte : {x : ℕ} {u : Block} → Handed v x u → Came w old (set new count x) u (count + 1)
  byte {x = x} y = record {
    bytes = h.bytes ++ (x ∷ []);
    comes = join h.comes (more y none);
    many = omega (arith, h.many, length-append h.bytes (x ∷ []));
    put = ap (λ (l : List ℕ). set l count x) h.put ∙ ap (λ (i : ℕ). set (onto h.bytes old) i x) h.many ∙ onto_set h.bytes old x;
  }

-- k bytes more of a block, which are put nowhere
pub leap : {w v u : Block} {count : ℕ} → Came w [] [] v count → Ready v u → (k : ℕ) → 0 < k → k ≤ length u.left
    → Came w [] [] (at u (u.gone + k) (drop k u.left)) (count + k)
leap {u = u} h y k pos le =
    let some : length (take k u.left) ≡ k = length-take-le k u.left le in
    let here : Comes u (take k u.left) (at u (u.gone + k) (drop k u.left)) =
    subst (λ (l : List ℕ). Comes (at u u.gone l) (take k u.left) (at u (u.gone + k) (drop k u.left))) (take-append-drop k u.left)
    (ahead u u.gone (u.gone + k) (take k u.left) (drop k u.left) (omega (arith, some))) in record {
      bytes = h.bytes ++ take k u.left;
      comes = join h.comes (first y (omega (arith, some)) here);
      many = omega (arith, h.many, some, length-append h.bytes (take k u.left));
      put = sym (onto_nil (h.bytes ++ take k u.left));
    }

-- fewer than n bytes are fewer than m
fewer_still : {w v : Block} {l : List ℕ} {n : ℕ} (m : ℕ) → n ≤ m → length l < n → Gives w n l v → Gives w m l v
fewer_still m le less (all e h) = absurd (omega arith)
fewer_still m le less (fewer less' h z r e) = fewer (omega arith) h z r e

most : {w v : Block} {l : List ℕ} {n : ℕ} → Gives w n l v → length l ≤ n
most (all e h) = omega arith
most (fewer less h z r e) = omega arith

-- all n bytes came
came_all : {w v : Block} {l : List ℕ} {n : ℕ} → n ≤ length l → Gives w n l v → Comes w l v
came_all le (all e h) = h
came_all le (fewer less h z r e) = absurd (omega arith)

-- bytes that came, and others that are wanted behind them
behind : {w v u : Block} {l k : List ℕ} {m i : ℕ} → length l + m ≡ i → Comes w l v → Gives v m k u → Gives w i (l ++ k) u
behind {l = l} {k} e h (all f g) = all (omega (arith, length-append l k)) (join h g)
behind {l = l} {k} e h (fewer less g z r f) = fewer (omega (arith, length-append l k)) (join h g) z r f

-- bytes that have no place, since they are none or all places are filled
onto_more : (l k t : List ℕ) → (length l < length t → length k ≡ 0) → onto (l ++ k) t ≡ onto l t
onto_more l [] t h = ap (λ (j : List ℕ). onto j t) (append-nil l)
onto_more l (x ∷ k) t h = onto_full l (x ∷ k) t (pick (ltb (length l) (length t)) refl)
  where
    pick : (b : Bool) → ltb (length l) (length t) ≡ b → length t ≤ length l
    pick true e = absurd (omega (arith, h (ltb-true (length l) (length t) e)))
    pick false e = ltb-false (length l) (length t) e

-- m bytes were wanted: the first n, as many as have places, were put, and the others passed over
module _ {w : Block} (n m : ℕ) (old : List ℕ) {new : List ℕ} {v : Block} {count : ℕ} (e : n ≡ min m (length old)) (h : Takes w n (take n old) new v count) where
  placed : new ++ drop n old ≡ onto h.came old
  placed = ap (λ (l : List ℕ). l ++ drop n old) h.put ∙ onto_part n h.came old (most h.gives)

  pub cut : count < n → Takes w m old (new ++ drop n old) v count
  cut less = record {
    came = h.came;
    gives = fewer_still m (omega arith) (omega (arith, h.counted)) h.gives;
    counted = h.counted;
    put = placed;
  }

  module _ (le : n ≤ count) where
    long : length h.came ≡ n
    long = omega (arith, h.counted, most h.gives)

    comes : Comes w h.came v
    comes = came_all (omega (arith, long)) h.gives

    pub remain : n ≤ length w.left → length v.left + n ≡ length w.left
    remain some = omega (arith, long, drawn comes (omega (arith, long)))

    pub on : {u : Block} {k : ℕ} → Takes v (m - n) [] [] u k → Takes w m old (new ++ drop n old) u (n + k)
    on g = record {
      came = h.came ++ g.came;
      gives = behind (omega (arith, long)) comes g.gives;
      counted = omega (arith, long, g.counted, length-append h.came g.came);
      put = placed ∙ sym (onto_more h.came g.came old (λ x. omega (arith, long, most g.gives)));
    }
