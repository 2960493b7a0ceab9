-- A branch inside a walk by hand whose arms meet again, so that what comes after it is walked once. It says nothing of any crate.
--     meets_after      each arm ends in the context I at some x, and the rest of the body runs from there. An arm is shown at any postcondition P, to
--                      which `out` takes its end; so a walk names neither the environment nor a piece of the MIR
-- Assumes nothing.
use mathlib.Core.Bool.{Bool, not}
use mathlib.Core.List.{List}
use lib.Dec.{T}
use seplogic.Ra.Ura.{Ura}
use mir.Syntax.{Opd as Operand, Body, seq, cond}
use mir.Val.{vbool}
use prog.Wp.{Env, Calls, Loops, Wp, next, after_seq}
use types.Logic.{Logic}
use types.Kit.{Item, Post, any_q, post, prop, runs, Seq, ◌$◌}
use types.Run.{Opd, first, branches}

module _ {M : Type 1} {𝓤 : Ura M} {𝓛 : Logic 𝓤} {K : Type 0} {Γ : List (Item 𝓤)} {E : Env 𝓤 𝓛.H} {C : Calls 𝓤 𝓛.H} {Λ : Loops 𝓤 𝓛.H} where
  open 𝓛 use {H}

  pub meets_after : K → {X : Type 0} (I : X → List (Item 𝓤)) {c : Operand} {a b rest : Body} {q : Post 𝓤 H} {y : Bool} → Opd K 𝓛 Γ E c (vbool y)
      → (T y → (P : Post 𝓤 H) → (out : (x : X) → Seq K 𝓛 (I x) (prop (post 𝓤 H P next))) → Seq K 𝓛 Γ (runs C Λ E a P))
      → (T (not y) → (P : Post 𝓤 H) → (out : (x : X) → Seq K 𝓛 (I x) (prop (post 𝓤 H P next))) → Seq K 𝓛 Γ (runs C Λ E b P))
      → ((x : X) → Seq K 𝓛 (I x) (runs C Λ E rest q)) → Seq K 𝓛 Γ (runs C Λ E (seq (cond c a b) rest) q)
  meets_after t I {rest = rest} {q} o held failed go =
      let P : Post 𝓤 H = any_q (after_seq 𝓤 H (Wp 𝓤 H C Λ E rest (post 𝓤 H q)) (post 𝓤 H q)) in
      first t $ branches t o (λ h. held h P (λ x. record { prf = (go x).prf })) (λ h. failed h P (λ x. record { prf = (go x).prf }))
