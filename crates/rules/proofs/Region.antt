-- A block whose guard the reader does not see: a run that enters it ends in it with no line more, or leaves it at the one place where it can be
-- left, with the blocks and the view that it came with. Steps in the block are confined, and only the end of the block itself leaves it. The view
-- that counts is the one behind the block: an if that comes back hides the cursor in its block, and its end shows it again.
-- Assumes nothing.
use mathlib.Core.Path.{◌≡◌, refl, sym, ◌∙◌, ap, subst}
use mathlib.Core.Option.{Option, none, some}
use Prim.Native.Nat.{ℕ, zero, suc, ◌<◌}
use native.Mathlib.Omega.{arith}
use mathlib.Core.Bool.{true, false}
use mathlib.Core.List.{List, [], ◌∷◌, ◌++◌, tail, cons≢nil, head-eq_of_cons-eq}
use lib.ListN.{length}
use lib.IntN.{ℤ}
use lib.Dec.{eqb}
use borrow.Author.Tests.{ltb-true, ltb-false, lt-ltb}
use Rattle.rules.specs.Level.{Level, public, join, visible}
use Rattle.rules.specs.Number.{is_zero}
use Rattle.rules.specs.Tree.{Place}
use Rattle.rules.specs.Script.{Expression, Action, Command, number, fetch, number_at}
use Rattle.rules.specs.Blocks.{goes_to}
use Rattle.rules.specs.Run.{Memory, Saved, Block, State, Buffers, Stop, spent, next, context, level_of, with_cursor, position, effect, relocate, on_block, restore, leave, stepped, relocated, pushed, saving, raised, enter_if, enter_while, enter_back, carried, step, run}
use Rattle.rules.specs.Public.{seen_lines}
use Rattle.rules.proofs.Tests.{Test, holds, fails, test, clash}
use Rattle.rules.proofs.Lattice.{hid_left, hid_right}
use Rattle.rules.proofs.Nests.{nest_done}
use Rattle.rules.proofs.Ends.{end_of}
use Rattle.rules.proofs.Exits.{exit_of, end_goes, while_target}
use Rattle.rules.proofs.Results.{Good, good_given, good_next}
use Rattle.rules.proofs.View.{View, view, SeenBlock, seen_at, seen_cursor, seen_saved, seen_block, looks, Kept, confined}
use Rattle.rules.proofs.Relocate.{blocks_length, looks_kept}
use Rattle.rules.proofs.Alike.{agree_hidden, expressions}
use Rattle.rules.proofs.Runs.{more, halted, run_spent, Turn, stops, goes, turn}
use Rattle.rules.proofs.Control.{Closed, open_at, Valid, Enters, plainly, saves, Moves, keeps, opens_one, leaves_one, Lands, step_lands, landed}

-- an if or a while with the guard e
pub data IsGuard (c : Command) (e : Expression) : Type 0 where
  is_if : c ≡ Command.if e → IsGuard c e
  is_while : c ≡ Command.while e → IsGuard c e
  is_back : c ≡ Command.ifBack e → IsGuard c e

-- what is seen where a block ends: of an if that comes back the cursor that it remembers
over : Option (Option Saved) → Option Saved → Option Saved
over none c = c
over (some r) c = r

behind_block : Option (Option Saved) → View → View
behind_block r v = record { variables = v.variables; tree = v.tree; cursor = over r v.cursor; lines = v.lines }

-- and where the blocks ts end, then the one around them
unwound : List SeenBlock → SeenBlock → View → View
unwound [] b v = behind_block b.saved v
unwound (t ∷ ts) b v = unwound ts b (behind_block t.saved v)

unwound_lines : (ts : List SeenBlock) (b : SeenBlock) (v : View) → (unwound ts b v).lines ≡ v.lines
unfolding unwound behind_block
unwound_lines [] b v = refl
unwound_lines (t ∷ ts) b v = unwound_lines ts b _

-- guards are seen
unfoldable pub guards : List SeenBlock → Level
guards [] = public
guards (b ∷ bs) = join b.guard (guards bs)

module _ (o : Level) where
  pub guards_context : (bs : List Block) → guards (looks o bs) ≡ context bs
  unfolding guards looks seen_block context
  guards_context [] = refl
  guards_context (b ∷ bs) = ap (join b.guard) (guards_context bs)

  dark_guards : (ts : List SeenBlock) (b : SeenBlock) (bs : List SeenBlock) → visible o b.guard ≡ false → visible o (guards (ts ++ (b ∷ bs))) ≡ false
  unfolding guards
  dark_guards [] b bs h = hid_left o _ _ h
  dark_guards (t ∷ ts) b bs h = hid_right o _ _ (dark_guards ts b bs h)

  -- the end of a block shows what was seen before it was entered
  enter_view : (s : State) (b : Block) (m : Memory) → Enters s b m → behind_block (seen_saved o b.saved) (view o m) ≡ view o s.memory
  unfolding behind_block over seen_saved view seen_cursor with_cursor
  enter_view s b m (plainly r e) =
      let z : ◌≡◌ {A = View} (behind_block (seen_saved o b.saved) (view o m)) (behind_block (seen_saved o none) (view o s.memory)) =
      λ i. behind_block (seen_saved o (r i)) (view o (e i)) in z
  enter_view s b m (saves l r e) =
      let c : Option Saved = some (record { place = some s.memory.cursor; level = s.memory.level }) in
      let n = with_cursor s.memory s.memory.cursor (join s.memory.level l) in
      let z : ◌≡◌ {A = View} (behind_block (seen_saved o b.saved) (view o m)) (behind_block (seen_saved o c) (view o n)) =
      λ i. behind_block (seen_saved o (r i)) (view o (e i)) in z

  leave_view : (m n : Memory) (r : Option Saved) → leave m r ≡ next n → view o n ≡ behind_block (seen_saved o r) (view o m)
  unfolding leave restore behind_block over seen_saved view seen_cursor with_cursor
  leave_view m n none e = let z : n ≡ m = cc in ap (view o) z
  leave_view m n (some r) e = go r.place refl
    where
      go : (p : Option Place) → r.place ≡ p → view o n ≡ behind_block (some (seen_at o r.place r.level)) (view o m)
      go none w = let f : restore m none r.level ≡ next n = ap (λ x. restore m x r.level) (sym w) ∙ e in let z : true ≡ false = cc in clash refl z
      go (some p) w =
          let f : restore m (some p) r.level ≡ next n = ap (λ x. restore m x r.level) (sym w) ∙ e in
          let z : n ≡ with_cursor m p r.level = cc in
          ap (view o) z ∙ ap (λ x. behind_block (some (seen_at o x r.level)) (view o m)) (sym w)

module _ (o : Level) (lent : Buffers) (cs : List Command) (closed : Closed cs) where
  -- the run from s ends with the lines of the view v, or comes to record i with the blocks bs and the view v
  pub data Leaves (n : ℕ) (s : State) (v : View) (bs : List SeenBlock) (i : ℕ) : Type 0 where
    ends : (k : Stop) (s' : State) → run lent cs n s ≡ halted k s' → seen_lines o s'.memory.lines ≡ v.lines → Leaves n s v bs i
    leaves : (j : ℕ) (s' : State) → j < n → run lent cs n s ≡ run lent cs j s' → view o s'.memory ≡ v → looks o s'.blocks ≡ bs
        → s'.at ≡ i → Valid cs s' → Leaves n s v bs i

  -- from a later state of the same run
  later : (n j : ℕ) (s s' : State) (v : View) (bs : List SeenBlock) (i : ℕ) → j < n → run lent cs n s ≡ run lent cs j s' → Leaves j s' v bs i
      → Leaves n s v bs i
  later n j s s' v bs i a r (ends k t e l) = ends k t (r ∙ e) l
  later n j s s' v bs i a r (leaves h t b e w q c d) = leaves h t (omega arith) (r ∙ e) w q c d

  -- an action in a context that is not seen
  module _ (s s' : State) (h : Valid cs s) (dark : visible o (context s.blocks) ≡ false) (a : Action)
      (e : effect lent (context s.blocks) s.memory a ≡ next s'.memory) (b : s'.blocks ≡ relocated s a)
    where
      same_view : view o s'.memory ≡ view o s.memory
      unfolding Kept
      same_view = good_next (Kept o s.memory) _ s'.memory e (confined o (context s.blocks) s.memory h.memory dark lent a)

      same_looks : looks o s'.blocks ≡ looks o s.blocks
      unfolding relocated position
      same_looks =
          ap (looks o) b ∙ looks_kept lent _ s.memory h.memory a s'.memory e o (hid_left o _ _ dark) s.blocks h.restorable

  -- the block b, opened at record p over the blocks bs, behind which v is seen
  module _ (p : ℕ) (b : SeenBlock) (bs : List SeenBlock) (v : View) (dark : visible o b.guard ≡ false) where
    -- in the block, with the blocks ts open in it
    record In (s : State) (ts : List SeenBlock) : Type 0 where
      valid : Valid cs s
      blocks : looks o s.blocks ≡ ts ++ (b ∷ bs)
      inner : List ℕ
      nested : open_at cs s.at ≡ inner ++ (p ∷ open_at cs p)
      depth : length inner ≡ length ts
      outside : unwound ts b (view o s.memory) ≡ v

    no_block : (us : List ℕ) (xs : List ℕ) → us ++ (p ∷ xs) ≡ [] → ⊥
    no_block [] xs e = cons≢nil e
    no_block (u ∷ us) xs e = cons≢nil e

    in_script : (s : State) (ts : List SeenBlock) → In s ts → more lent cs s ≡ true
    in_script s ts h = pick (test (more lent cs s))
      where
        pick : Test (more lent cs s) → more lent cs s ≡ true
        pick (holds e) = e
        pick (fails e) =
            let z : s.at ≡ length cs = omega (arith, ltb-false s.at (length cs) e, h.valid.within) in
            absurd (no_block h.inner _ (sym h.nested ∙ ap (open_at cs) z ∙ nest_done (number_at cs) (length cs) closed.blocks))

    context_dark : (s : State) (ts : List SeenBlock) → In s ts → visible o (context s.blocks) ≡ false
    context_dark s ts h = rw (← guards_context o s.blocks, h.blocks) (dark_guards o ts b bs dark)

    in_lines : (s : State) (ts : List SeenBlock) → In s ts → seen_lines o s.memory.lines ≡ v.lines
    unfolding view
    in_lines s ts h = sym (unwound_lines ts b (view o s.memory)) ∙ ap (λ w. w.lines) h.outside

    Region : ℕ → Type 0
    Region n = (s : State) (ts : List SeenBlock) → In s ts → Leaves n s v bs (exit_of (number_at cs) (length cs) p)

    region_zero : Region zero
    unfolding Region
    region_zero s ts h = ends spent s (run_spent lent cs s (in_script s ts h)) (in_lines s ts h)

    region_suc : (n : ℕ) → Region n → Region (suc n)
    unfolding Region unwound looks seen_block
    region_suc n r s ts h = pick (turn lent cs n s here)
      where
        here : more lent cs s ≡ true
        here = in_script s ts h

        target : ℕ
        target = exit_of (number_at cs) (length cs) p

        after : (s' : State) → run lent cs (suc n) s ≡ run lent cs n s' → Leaves n s' v bs target → Leaves (suc n) s v bs target
        after s' q l = later (suc n) n s s' v bs target (omega arith) q l

        -- an end: of a block inside, or of the block itself
        out : (s' : State) → run lent cs (suc n) s ≡ run lent cs n s' → Valid cs s' → number_at cs s.at ≡ 5 → (c : SeenBlock)
            → looks o s.blocks ≡ c ∷ looks o s'.blocks → view o s'.memory ≡ behind_block c.saved (view o s.memory)
            → s'.at ≡ goes_to (number_at cs) (length cs) s.at → open_at cs s'.at ≡ tail (open_at cs s.at) → (us : List SeenBlock) (is : List ℕ)
            → looks o s.blocks ≡ us ++ (b ∷ bs) → open_at cs s.at ≡ is ++ (p ∷ open_at cs p) → length is ≡ length us
            → unwound us b (view o s.memory) ≡ v → Leaves (suc n) s v bs target
        out s' q t k c w y a x [] [] e f d u =
            let z : c ≡ b = head-eq_of_cons-eq (sym w ∙ e) in
            leaves n s' (omega arith) q (y ∙ ap (λ m. behind_block m.saved (view o s.memory)) z ∙ u) (ap tail (sym w ∙ e))
            (a ∙ end_goes (number_at cs) (length cs) closed.blocks s.at p _ (ltb-true _ _ here) k f) t
        out s' q t k c w y a x [] (i ∷ is) e f d u = absurd (omega arith)
        out s' q t k c w y a x (m ∷ us) [] e f d u = absurd (omega arith)
        out s' q t k c w y a x (m ∷ us) (i ∷ is) e f d u =
            let z : c ≡ m = head-eq_of_cons-eq (sym w ∙ e) in
            after s' q
            (r s' us
            (record {
              valid = t;
              blocks = ap tail (sym w ∙ e);
              inner = is;
              nested = x ∙ ap tail f;
              depth = omega arith;
              outside = ap (unwound us b) (y ∙ ap (λ m. behind_block m.saved (view o s.memory)) z) ∙ u;
            }))

        go : (s' : State) → run lent cs (suc n) s ≡ run lent cs n s' → Valid cs s' → Moves lent cs s s' → Leaves (suc n) s v bs target
        go s' q t (keeps a e w x) =
            let d = context_dark s ts h in
            after s' q
            (r s' ts
            (record {
              valid = t;
              blocks = same_looks s s' h.valid d a e w ∙ h.blocks;
              inner = h.inner;
              nested = x ∙ h.nested;
              depth = h.depth;
              outside = ap (unwound ts b) (same_view s s' h.valid d a e w) ∙ h.outside;
            }))
        go s' q t (opens_one e c g w m x z) =
            after s' q
            (r s' (seen_block o c ∷ ts)
            (record {
              valid = t;
              blocks = ap (looks o) w ∙ ap (λ z. seen_block o c ∷ z) h.blocks;
              inner = s.at ∷ h.inner;
              nested = x ∙ ap (λ z. s.at ∷ z) h.nested;
              depth = ap suc h.depth;
              outside = ap (unwound ts b) (enter_view o s c s'.memory m) ∙ h.outside;
            }))
        go s' q t (leaves_one k c w f a x) =
            out s' q t k (seen_block o c) (ap (looks o) w) (leave_view o s.memory s'.memory c.saved f) a x ts h.inner h.blocks h.nested
            h.depth h.outside

        pick : Turn lent cs n s → Leaves (suc n) s v bs target
        pick (stops k q) = ends k s q (in_lines s ts h)
        pick (goes s' f q) =
            let l = good_next (Lands lent cs closed s h.valid here) _ s' f (step_lands lent cs closed s h.valid here) in
            go s' q (landed lent cs closed s h.valid here s' l) l.moves

    region : (n : ℕ) → Region n
    region zero = region_zero
    region (suc n) = region_suc n (region n)

  -- what a guard does: it goes behind its block, or enters it
  data Guarded (s : State) (e : Expression) (s' : State) : Type 0 where
    skipped : s'.memory ≡ s.memory → s'.blocks ≡ s.blocks → s'.at ≡ suc (end_of (number_at cs) (length cs) s.at) → Guarded s e s'
    entered : (b : Block) → b.guard ≡ level_of s.memory e → s'.blocks ≡ b ∷ s.blocks → Enters s b s'.memory → Guarded s e s'

  while_guarded : (s : State) (e : Expression) (y : ℤ) → s.at < length cs → number_at cs s.at ≡ 4
      → Guarded s e (enter_while s (goes_to (number_at cs) (length cs) s.at) e y)
  unfolding enter_while stepped pushed
  while_guarded s e y h k = pick (test (is_zero y))
    where
      pick : Test (is_zero y) → Guarded s e (enter_while s (goes_to (number_at cs) (length cs) s.at) e y)
      pick (holds z) = skipped refl (rw z) (rw z (while_target (number_at cs) (length cs) closed.blocks s.at h k))
      pick (fails z) = entered (record { guard = level_of s.memory e; saved = none }) refl (rw z) (plainly refl refl)

  guarded : (s : State) (e : Expression) → s.at < length cs → IsGuard (fetch cs s.at) e → Good (Guarded s e) (step lent cs s)
  unfolding step carried enter_if enter_back stepped pushed saving raised number_at number
  guarded s e h (is_if f) =
      subst (λ c. Good (Guarded s e) (carried s lent (goes_to (number_at cs) (length cs) s.at) c)) (sym f)
      (good_given (Guarded s e) _ _ λ _. entered _ refl refl (plainly refl refl))
  guarded s e h (is_while f) =
      subst (λ c. Good (Guarded s e) (carried s lent (goes_to (number_at cs) (length cs) s.at) c)) (sym f)
      (good_given (Guarded s e) _ _ λ y. while_guarded s e y h (ap number f))
  guarded s e h (is_back f) =
      subst (λ c. Good (Guarded s e) (carried s lent (goes_to (number_at cs) (length cs) s.at) c)) (sym f)
      (good_given (Guarded s e) _ _ λ _. entered _ refl refl (saves _ refl refl))

  -- a block that was entered
  opened : (s s' : State) (b : Block) → Moves lent cs s s' → s'.blocks ≡ b ∷ s.blocks → open_at cs s'.at ≡ s.at ∷ open_at cs s.at
  unfolding relocated
  opened s s' b (keeps a e w x) q =
      let z = ap length (sym w ∙ q) in absurd (omega (arith, z, blocks_length (on_block (relocate a s.memory.cursor)) s.blocks))
  opened s s' b (opens_one f c g w m x r) q = x
  opened s s' b (leaves_one k c w f a x) q = let z = ap length w in let y = ap length q in absurd (omega arith)

  module _ (i : ℕ) (e : Expression) where
    behind : ℕ
    behind = suc (end_of (number_at cs) (length cs) i)

    -- a run that comes to the guard e at record i, unseen, comes to the record behind its block
    Skips : ℕ → Type 0
    Skips n = (s : State) → Valid cs s → s.at ≡ i → i < length cs → IsGuard (fetch cs i) e → visible o (level_of s.memory e) ≡ false
        → Leaves n s (view o s.memory) (looks o s.blocks) behind

    skips_zero : Skips zero
    unfolding Skips view
    skips_zero s h a l g d = ends spent s (run_spent lent cs s (lt-ltb s.at (length cs) (rw a l))) refl

    -- where the block was left: an if is done, a while comes to its guard again
    again : (n j : ℕ) (s t : State) → ((m : ℕ) → m < n → Skips m) → j < n → Valid cs s → run lent cs n s ≡ run lent cs j t
        → view o t.memory ≡ view o s.memory → looks o t.blocks ≡ looks o s.blocks → t.at ≡ exit_of (number_at cs) (length cs) i → Valid cs t
        → i < length cs → IsGuard (fetch cs i) e → visible o (level_of s.memory e) ≡ false → Leaves n s (view o s.memory) (looks o s.blocks) behind
    unfolding Skips exit_of behind
    again n j s t r l hs q v w a ht k g d = pick (test (eqb (number_at cs i) 4))
      where
        pick : Test (eqb (number_at cs i) 4) → Leaves n s (view o s.memory) (looks o s.blocks) behind
        pick (fails z) = leaves j t l q v w (a ∙ rw z) ht
        pick (holds z) =
            later n j s t _ _ behind l q
            (subst (λ bs. Leaves j t (view o s.memory) bs behind) w
            (subst (λ x. Leaves j t x (looks o t.blocks) behind) v
            (r j l t ht (a ∙ rw z) k g (agree_hidden o (expressions o s.memory t.memory hs.memory ht.memory (sym v) e) d))))

    skips_suc : (n : ℕ) → ((m : ℕ) → m < suc n → Skips m) → Skips (suc n)
    unfolding Skips behind Region unwound looks seen_block view
    skips_suc n r s h a l g d = pick (turn lent cs n s here)
      where
        here : more lent cs s ≡ true
        here = lt-ltb s.at (length cs) (rw a l)

        inside : (s' : State) → run lent cs (suc n) s ≡ run lent cs n s'
            → Leaves n s' (view o s.memory) (looks o s.blocks) (exit_of (number_at cs) (length cs) i)
            → Leaves (suc n) s (view o s.memory) (looks o s.blocks) behind
        inside s' q (ends k t x y) = ends k t (q ∙ x) y
        inside s' q (leaves j t x y w b c z) = again (suc n) j s t r (omega arith) h (q ∙ y) w b c z l g d

        go : (s' : State) → run lent cs (suc n) s ≡ run lent cs n s' → Valid cs s' → Moves lent cs s s' → Guarded s e s'
            → Leaves (suc n) s (view o s.memory) (looks o s.blocks) behind
        go s' q t w (skipped m b c) = leaves n s' (omega arith) q (ap (view o) m) (ap (looks o) b) (c ∙ rw a) t
        go s' q t w (entered b x y m) =
            inside s' q
            (region i (seen_block o b) (looks o s.blocks) (view o s.memory) (rw x d) n s' []
            (record {
              valid = t;
              blocks = ap (looks o) y;
              inner = [];
              nested = opened s s' b w y ∙ rw a;
              depth = refl;
              outside = enter_view o s b s'.memory m;
            }))

        pick : Turn lent cs n s → Leaves (suc n) s (view o s.memory) (looks o s.blocks) behind
        pick (stops k q) = ends k s q refl
        pick (goes s' f q) =
            let w = good_next (Lands lent cs closed s h here) _ s' f (step_lands lent cs closed s h here) in
            go s' q (landed lent cs closed s h here s' w) w.moves (good_next (Guarded s e) _ s' f (guarded s e (rw a l) (rw a g)))

    skips_below : (k n : ℕ) → n < k → Skips n
    skips_below zero n h = absurd (omega arith)
    skips_below (suc k) zero h = skips_zero
    skips_below (suc k) (suc n) h = skips_suc n (λ m l. skips_below k m (omega arith))

    pub skips : (n : ℕ) (s : State) → Valid cs s → s.at ≡ i → i < length cs → IsGuard (fetch cs i) e → visible o (level_of s.memory e) ≡ false
        → Leaves n s (view o s.memory) (looks o s.blocks) (suc (end_of (number_at cs) (length cs) i))
    unfolding Skips behind
    skips n = skips_below (suc n) n (omega arith)
