-- Locals in a walk by hand, each by its position in the context: steps that would else be written out at every statement. It says nothing of the
-- crate.
--     sized        a slice whose length fits 64 bits is one
--     var          a local's value, as an operand
--     sets         a right side is stored in a local that has no value yet
--     result       a call's result is stored in such a local
--     valued, vacant   a local at the end, with a value or with none
--     frees_all    all locals are freed at once. They stand first in the context, the last of them before the others; what each is is read off it
-- Assumes nothing.
use mathlib.Core.Path.{◌≡◌}
use Prim.Native.Nat.{ℕ, ◌<◌, ◌^◌}
use mathlib.Core.List.{List, [], ◌∷◌, ◌++◌}
use seplogic.Ra.Ura.{Ura}
use base.Fraction.{full_share}
use lib.Dec.{T}
use mir.Syntax.{Ty, w64, Rv as RValue, Body, place, copy, assign, seq}
use mir.Val.{Val, Fits, has_ty, WT}
use base.Logic.{ent, sep, id⊢, via, comm∗, assoc∗, assoc', mono_l, mono_r}
use base.Fml.{Share, fat, froom, fdies}
use prog.Wp.{Heap, Env, Calls, Loops, spot_of}
use types.Logic.{Logic}
use types.Kit.{Goal, frees as releases, Item, ‵, Post, Step, step, runs, lands, aim, mean, ⋆, push, pop, nth, put}
use types.Run.{Opd, Rv, load, look, init, from, stop, assigns, land}

abbrev pub sized : {n : ℕ} → n < 2 ^ 64 → Unit {0} × (Unit {0} × (Fits w64 n × Unit {0}))
sized h = (tt, (tt, (record { fits = h }, tt)))

module _ {M : Type 1} {𝓤 : Ura M} {𝓛 : Logic 𝓤} {K : Type 0} {Γ : List (Item 𝓤)} {E : Env 𝓤 𝓛.H} where
  open 𝓛 use {H}

  pub var : K → (n : ℕ) {i : ℕ} {q : Share} {v : Val} → nth 𝓛 n Γ ≡ ‵ (fat q (spot_of 𝓤 H E i).0 (spot_of 𝓤 H E i).1 0 v)
      → Opd K 𝓛 Γ E (copy (place i [])) v
  var t n e = load t (from t (stop t)) (look t n e)

  module _ {C : Calls 𝓤 H} {Λ : Loops 𝓤 H} {q : Post 𝓤 H} where
    pub sets : K → {i : ℕ} {rv : RValue} {rest : Body} {v : Val} → Rv K 𝓛 Γ E rv v → (n : ℕ)
        → nth 𝓛 n Γ ≡ ‵ (froom (spot_of 𝓤 H E i).0 (spot_of 𝓤 H E i).1 0) → T (has_ty (spot_of 𝓤 H E i).0 v) × WT v
        → Step K 𝓛 (put 𝓛 n (‵ (fat full_share (spot_of 𝓤 H E i).0 (spot_of 𝓤 H E i).1 0 v)) Γ) (runs C Λ E rest q) Γ
        (runs C Λ E (seq (assign (place i []) rv) rest) q)
    sets t r n e wt = assigns t r (from t (stop t)) (init t n e wt)

    pub result : K → {i : ℕ} {r : Val} {rest : Body} (n : ℕ) → nth 𝓛 n Γ ≡ ‵ (froom (spot_of 𝓤 H E i).0 (spot_of 𝓤 H E i).1 0)
        → T (has_ty (spot_of 𝓤 H E i).0 r) × WT r
        → Step K 𝓛 (put 𝓛 n (‵ (fat full_share (spot_of 𝓤 H E i).0 (spot_of 𝓤 H E i).1 0 r)) Γ) (runs C Λ E rest q) Γ
        (lands C Λ E (place i []) r rest q)
    result t n e wt = land t (from t (stop t)) (init t n e wt)

-- a local at the end, with a value or with none
pub data Spent : Type 0 where
  valued : Ty → ℕ → Val → Spent
  vacant : Ty → ℕ → Spent

abbrev pub spot : Spent → Ty × ℕ
spot (valued τ b v) = (τ, b)
spot (vacant τ b) = (τ, b)

module _ {M : Type 1} (𝓤 : Ura M) (H : Heap 𝓤) where
  abbrev pub spots : List Spent → Env 𝓤 H
  spots [] = []
  spots (c ∷ cs) = spot c ∷ spots cs

  abbrev pub held : Spent → Item 𝓤
  held (valued τ b v) = ‵ (fat full_share τ b 0 v)
  held (vacant τ b) = ‵ (froom τ b 0)

  -- the locals in a context, the last of them first
  abbrev pub spent : List Spent → List (Item 𝓤) → List (Item 𝓤)
  spent [] Γ = Γ
  spent (c ∷ cs) Γ = spent cs (held c ∷ ‵ (fdies (spot c).0 (spot c).1) ∷ Γ)

module _ {M : Type 1} {𝓤 : Ura M} (𝓛 : Logic 𝓤) where
  -- an entry behind all locals is taken out
  open 𝓛 use {H}

  take_out : (cs : List Spent) (Θ : List (Item 𝓤)) (i : Item 𝓤) (Γ : List (Item 𝓤))
      → ent 𝓤 (⋆ 𝓛 (spent 𝓤 H cs (Θ ++ (i ∷ Γ)))) (sep 𝓤 (mean 𝓛 i) (⋆ 𝓛 (spent 𝓤 H cs (Θ ++ Γ))))
  take_out [] [] i Γ = pop 𝓛 i Γ
  take_out [] (j ∷ Θ) i Γ =
      let P = mean 𝓛 i in
      let Q = mean 𝓛 j in
      let R = ⋆ 𝓛 (Θ ++ Γ) in
      via 𝓤 (sep 𝓤 Q (⋆ 𝓛 (Θ ++ (i ∷ Γ)))) (pop 𝓛 j (Θ ++ (i ∷ Γ)))
      (via 𝓤 (sep 𝓤 Q (sep 𝓤 P R)) (mono_r 𝓤 Q (take_out [] Θ i Γ))
      (via 𝓤 (sep 𝓤 (sep 𝓤 Q P) R) (assoc' 𝓤 Q P R)
      (via 𝓤 (sep 𝓤 (sep 𝓤 P Q) R) (mono_l 𝓤 R (comm∗ 𝓤 Q P))
      (via 𝓤 (sep 𝓤 P (sep 𝓤 Q R)) (assoc∗ 𝓤 P Q R) (mono_r 𝓤 P (push 𝓛 j (Θ ++ Γ)))))))
  take_out (c ∷ cs) Θ i Γ = take_out cs (held 𝓤 H c ∷ ‵ (fdies (spot c).0 (spot c).1) ∷ Θ) i Γ

  empties : (c : Spent) → ent 𝓤 (mean 𝓛 (held 𝓤 H c)) (H.room (spot c).0 (spot c).1 0)
  empties (valued τ b v) = 𝓛.laws.at_room τ b 0 v
  empties (vacant τ b) = id⊢ 𝓤 (H.room τ b 0)

  -- all locals are freed
  all_free_law : (cs : List Spent) (Γ : List (Item 𝓤)) (g : Goal 𝓤 H) → ent 𝓤 (⋆ 𝓛 Γ) (aim 𝓤 H g)
      → ent 𝓤 (⋆ 𝓛 (spent 𝓤 H cs Γ)) (aim 𝓤 H (releases (spots 𝓤 H cs) g))
  all_free_law [] Γ g h = h
  all_free_law (c ∷ cs) Γ g h =
      let d : Item 𝓤 = ‵ (fdies (spot c).0 (spot c).1) in
      let R = H.room (spot c).0 (spot c).1 0 in
      let D = H.dies (spot c).0 (spot c).1 in
      let rest = ⋆ 𝓛 (spent 𝓤 H cs Γ) in
      via 𝓤 (sep 𝓤 (mean 𝓛 (held 𝓤 H c)) (⋆ 𝓛 (spent 𝓤 H cs (d ∷ Γ)))) (take_out cs [] (held 𝓤 H c) (d ∷ Γ))
      (via 𝓤 (sep 𝓤 R (⋆ 𝓛 (spent 𝓤 H cs (d ∷ Γ)))) (mono_l 𝓤 (⋆ 𝓛 (spent 𝓤 H cs (d ∷ Γ))) (empties c))
      (via 𝓤 (sep 𝓤 R (sep 𝓤 D rest)) (mono_r 𝓤 R (take_out cs [] d Γ))
      (via 𝓤 (sep 𝓤 (sep 𝓤 R D) rest) (assoc' 𝓤 R D rest) (mono_r 𝓤 (sep 𝓤 R D) (all_free_law cs Γ g h)))))

module _ {M : Type 1} {𝓤 : Ura M} {𝓛 : Logic 𝓤} {K : Type 0} {Γ : List (Item 𝓤)} {g : Goal 𝓤 𝓛.H} where
  open 𝓛 use {H}

  pub frees_all : K → (cs : List Spent) → Step K 𝓛 Γ g (spent 𝓤 H cs Γ) (releases (spots 𝓤 H cs) g)
  frees_all t cs = step (λ s. record { prf = all_free_law 𝓛 cs Γ g s.prf })
