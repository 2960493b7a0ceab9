-- A job in text form: hexadecimal digits, two to a byte, where [3*00ff] stands for three times 00ff. Assumes nothing.
use Rattle.std.specs.Prelude.{◌&&◌, ◌==◌, cond, List, [], ◌∷◌, ◌++◌, ◌≡◌, ℕ, zero, suc, ◌+◌, ◌-◌, ◌*◌, min, leb, ltb, length, take, drop, set, Option, Some, None, option_to_list}
use Rattle.std.specs.List.{position_or_len}

-- the first place of a character in a text, or the text's length
abbrev pub first_of : ℕ → List ℕ → ℕ
first_of c t = position_or_len (λ x. x == c) t

-- what a character stands for: 0 to 9 (48 to 57), a to f (97 to 102); no other stands for a digit
unfoldable pub digit_of : ℕ → Option ℕ
digit_of c = cond (leb 48 c && leb c 57) (Some (c - 48)) (cond (leb 97 c && leb c 102) (Some (c - 97 + 10)) None)

unfoldable pub digits : List ℕ → List ℕ
digits [] = []
digits (c ∷ t) = option_to_list (digit_of c) ++ digits t

-- the number with a decimal digit more; what follows eight digits is left out
unfoldable pub one_more : ℕ → ℕ → ℕ
one_more v d = cond (ltb v 10000000 && ltb d 10) (v * 10 + d) v

-- the number that v and the decimal digits behind it spell
unfoldable pub number_of : ℕ → List ℕ → ℕ
number_of v [] = v
number_of v (d ∷ ds) = number_of (one_more v d) ds

-- the bytes that digits spell, two to a byte; one that is left over spells none
unfoldable pub bytes_of : List ℕ → List ℕ
bytes_of [] = []
bytes_of (h ∷ []) = []
bytes_of (h ∷ d ∷ ds) = (h * 16 + d) ∷ bytes_of ds

unfoldable pub plain : List ℕ → List ℕ
plain t = bytes_of (digits t)

-- so many times
unfoldable pub times : ℕ → List ℕ → List ℕ
times zero l = []
times (suc n) l = l ++ times n l

-- the bytes before [ (91); those between * (42) and ] (93) as often as the number between [ and * says; the same again behind ], n times in all
unfoldable pub expanded : ℕ → List ℕ → List ℕ
expanded zero t = []
expanded (suc n) t =
    let repeat = drop (first_of 91 t) t in
    let part = drop (first_of 42 repeat) repeat in
    plain (take (first_of 91 t) t)
    ++ (times (number_of 0 (digits (take (first_of 42 repeat) repeat))) (plain (take (first_of 93 part) part)) ++ expanded n (drop (suc (first_of 93 part)) part))

-- what a text spells: no more turns than it has characters
unfoldable pub spelled : List ℕ → List ℕ
spelled t = expanded (length t) t

-- a buffer with bytes stored from place n on; what finds no room is lost
unfoldable pub placed : List ℕ → ℕ → List ℕ → List ℕ
placed b n [] = b
placed b n (x ∷ l) = placed (set b n x) (suc n) l

-- to store l from n on in b, and to see how far that reaches, comes to the same as to store l' from n' on in b'
pub record Leaves (b : List ℕ) (n : ℕ) (l b' : List ℕ) (n' : ℕ) (l' : List ℕ) : Type 0 where
  pub same : placed b n l ≡ placed b' n' l'
  pub count : min (n + length l) (length b) ≡ min (n' + length l') (length b')
