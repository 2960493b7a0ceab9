-- What clauses see of standard input. Assumes nothing.
use Rattle.std.specs.Prelude.{List, [], ◌≡◌, ℕ, ◌+◌, ◌-◌, ◌≤◌, length, take, drop, replicate}
use Rattle.std.proofs.Common.{sym, ◌∙◌, ap, subst, length-take-le}
use Rattle.std.proofs.lemmas.List.{length-drop}
use Rattle.std.proofs.Math.Nat.{add-sub_of_le}
use Rattle.std.specs.declared.io.Stdin.{Stdin}
use Rattle.print.specs.Waiting.{size}

-- the block that was read last: how many of its bytes are handed out, and which are left; all its bytes; and what it was read from
pub record Block : Type 0 where
  pub gone : ℕ
  pub left : List ℕ
  pub bytes : List ℕ
  pub stdin : Stdin

-- the same block with n bytes handed out and these left
abbrev pub at : Block → ℕ → List ℕ → Block
at b n l = record { gone = n; left = l; bytes = b.bytes; stdin = b.stdin }

-- no block has been read: nothing is left of one of zeros
abbrev pub unread : Stdin → Block
unread stdin = record { gone = 0; left = []; bytes = replicate size 0; stdin = stdin }

-- where the bytes that are left end
pub ends : (l : List ℕ) {from end : ℕ} → from ≤ end → end ≤ size → length l ≡ size → from + length (drop from (take end l)) ≡ end
ends l {from} {end} rising within long =
    let all : length (take end l) ≡ end = length-take-le end l (subst (λ (n : ℕ). end ≤ n) (sym long) within) in
    ap (λ (n : ℕ). from + n) (length-drop from (take end l) ∙ ap (λ (n : ℕ). n - from) all) ∙ add-sub_of_le rising
