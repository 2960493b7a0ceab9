use mathlib.Core.Path.{◌≡◌}
use Prim.Native.Nat.{◌<◌}
use lib.ListN.{drop}
use Rattle.text.specs.Hex.{digits, number_of}
use Rattle.text.proofs.decimal.Given as goal

abbrev pub invariant-loop-c : goal.invariant-loop-c
invariant-loop-c l = (l.value < 100000000) × (number_of l.value (digits (drop l.c-index l.text)) ≡ number_of 0 (digits l.text))
