use Rattle.std.proofs.Common.{List, ◌++◌, ◌≡◌, ℕ, ◌≤◌, ◌<◌, length, drop, IfSome, option_to_list}
use Rattle.text.specs.Hex.{digits, bytes_of, plain, Leaves}
use Rattle.text.proofs.append.Given as goal

abbrev pub invariant-loop-c : goal.invariant-loop-c
invariant-loop-c l = (length l.bytes ≡ length l.initial.bytes) × (l.s.count ≤ length l.bytes) × IfSome l.s.high (λ h. h < 16)
    × ((k : List ℕ) → Leaves l.initial.bytes l.n (plain l.text ++ k) l.bytes l.s.count (bytes_of (option_to_list l.s.high ++ digits (drop l.c-index l.text)) ++ k))
