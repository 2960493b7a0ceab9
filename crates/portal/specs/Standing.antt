-- What a portal's calls hand back over a tree and variables that the portal keeps, and what they keep from a reader, in what C sees. Assumes nothing.
use Rattle.std.specs.Prelude.{◌≡◌, List, [], ◌∷◌, map, ℕ, ◌<◌}
use Rattle.rules.specs.Level.{Level}
use Rattle.rules.specs.Tree.{Forest, Place}
use Rattle.rules.specs.Bytes.{variable_count}
use Rattle.rules.specs.Check.{accepted, check_bytes}
use Rattle.rules.specs.Run.{flow, stop_number}
use Rattle.rules.specs.Public.{seen_variable, AgreeTrees, Alike}
use Rattle.rules.specs.History.{section_script}
use Rattle.table.specs.Cells.{cells}
use Rattle.table.specs.Promises.{Behind}
use Rattle.monitor.specs.declared.entry.Outcome.{Outcome}
use Rattle.monitor.specs.Promises.{answer_of, Lent, places_in, Tree, Promises}
use Rattle.monitor.specs.Secrecy.{variable_in}
use Rattle.monitor.specs.Follow.{StandsIn, Follows}
use Rattle.monitor.specs.Histories.{Stays, LentOn, AgreeLent}
use Rattle.portal.specs.Portal.{number_of, Handed, handed}
use Rattle.portal.specs.Secrecy.{ending_in, Unseen}

-- a table of words, the variables' levels and values, and an area for lines
abbrev pub Words : Type 0
Words = Lent (List ℕ)

-- the number of an outcome that keeps a promise of what was lent; no cell behind the table's places has changed
pub record Gives (Promise : Words → Words → Outcome → Type 0) (x x' : Words) (n : ℕ) : Type 0 where
  pub outcome : Outcome
  pub promise : Promise x x' outcome
  pub number : n ≡ number_of (answer_of outcome)
  pub behind : Behind (places_in x.table) (cells x.table) (cells x'.table)

-- portal_start keeps the promise of the run over a job's bytes
abbrev pub Started : List ℕ → ℕ → Words → Words → ℕ → Type 0
Started b budget = Gives (Promises places_in Tree b budget)

-- portal_follow keeps that of a bare section over what stands
abbrev pub Followed : List ℕ → ℕ → Words → Words → ℕ → Type 0
Followed b budget = Gives (Follows places_in Tree StandsIn b budget)

-- what C reads of a call's ending and lines: its number, and the area that it left
abbrev pub shown : ℕ → Words → Handed
shown n x' = handed n x'.board

-- both calls: what they were lent, what they left there and the number that they handed back are so
pub record OfBoth (So : Words → Words → ℕ → Type 0) : Type 0 where
  pub start : (b : List ℕ) (budget : ℕ) (x x' : Words) (n : ℕ) → Started b budget x x' n → So x x' n
  pub follow : (b : List ℕ) (budget : ℕ) (x x' : Words) (n : ℕ) → Followed b budget x x' n → So x x' n

-- an ending below 21, but for 0, is that of a call that changed nothing
unfoldable pub TurnedBack : Type 0
TurnedBack = OfBoth (λ x x' n. 0 < ending_in (shown n x') → ending_in (shown n x') < stop_number flow → x' ≡ x)

-- a call of portal_follow: script and budget, what it was lent, what it left there and the number that it handed back
pub record PortalCall : Type 0 where
  pub section : List ℕ
  pub budget : ℕ
  pub given : Words
  pub left : Words
  pub number : ℕ

abbrev pub seen : PortalCall → Handed
seen c = shown c.number c.left

-- call after call, each over what the one before it left, the first over what x holds; a call that the portal undoes is none of them
abbrev pub PortalHistory : Words → List PortalCall → Type 0
PortalHistory x [] = Unit {0}
PortalHistory x (c ∷ cs) =
    Stays StandsIn x c.given × (Followed c.section c.budget c.given c.left c.number × PortalHistory c.left cs)

-- "the same scripts"
abbrev pub SameScripts : List PortalCall → List PortalCall → Type 0
SameScripts cs ds = map (λ c. section_script c.section) cs ≡ map (λ d. section_script d.section) ds

-- for a reader o
module _ (o : Level) where
  -- what two calls of portal_start with n variables left: the lines are unseen; if both finish, o sees the same variables and trees
  pub record UnseenStart (n : ℕ) (x y : Words) (r s : ℕ) : Type 0 where
    pub lines : Unseen o (shown r x) (shown s y)
    pub variables : ending_in (shown r x) ≡ 0 → ending_in (shown s y) ≡ 0 → (i : ℕ) → i < n
        → seen_variable o (variable_in x i) ≡ seen_variable o (variable_in y i)
    pub trees : ending_in (shown r x) ≡ 0 → ending_in (shown s y) ≡ 0
        → (k m : ℕ) (t u : Forest) (p q : Place) → Tree x.table k t p → Tree y.table m u q → AgreeTrees o t u

  -- demand 3 of two calls of portal_start that keep the contract, with accepted jobs that are alike for o, whatever their budgets and what they were lent
  unfoldable pub SecretStart : Type 0
  SecretStart =
      (a b : List ℕ) (n m : ℕ) (x x' y y' : Words) (r s : ℕ) → Started a n x x' r → Started b m y y' s
      → check_bytes a ≡ accepted → check_bytes b ≡ accepted → Alike o a b → UnseenStart (variable_count a) x' y' r s

  -- "up to and including the first script that stops or is turned away in either"
  abbrev pub UnseenPortalHistory : List PortalCall → List PortalCall → Type 0
  UnseenPortalHistory [] ds = Unit {0}
  UnseenPortalHistory (c ∷ cs) [] = Unit {0}
  UnseenPortalHistory (c ∷ cs) (d ∷ ds) =
      Unseen o (seen c) (seen d)
      × (ending_in (seen c) ≡ 0 → ending_in (seen d) ≡ 0
      → AgreeLent places_in Tree StandsIn o c.left d.left × UnseenPortalHistory cs ds)

  -- two histories of calls of portal_follow that keep the contract, with the same scripts, from what agrees for o, whatever their budgets and areas
  unfoldable pub SecretPortalHistories : Type 0
  SecretPortalHistories =
      (x y : Words) (cs ds : List PortalCall) → AgreeLent places_in Tree StandsIn o x y → SameScripts cs ds → PortalHistory x cs → PortalHistory y ds
      → UnseenPortalHistory cs ds

  -- the same from two calls of portal_start with accepted jobs that are alike for o, which come first
  unfoldable pub SecretPortalJobHistories : Type 0
  SecretPortalJobHistories =
      (a b : List ℕ) (n m : ℕ) (x x' y y' z w : Words) (r s : ℕ) (cs ds : List PortalCall) → Started a n x x' r → Started b m y y' s
      → check_bytes a ≡ accepted → check_bytes b ≡ accepted → Alike o a b → LentOn (variable_count a) x' z → LentOn (variable_count b) y' w
      → SameScripts cs ds → PortalHistory z cs → PortalHistory w ds
      → UnseenStart (variable_count a) x' y' r s × (ending_in (shown r x') ≡ 0 → ending_in (shown s y') ≡ 0 → UnseenPortalHistory cs ds)
