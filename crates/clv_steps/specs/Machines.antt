-- A machine that makes one move after another and asks for answers.
use Rattle.std.specs.Prelude.{ℕ, ◌+◌, List, [], ◌∷◌, ◌++◌}

-- What it does next: a move of its own, a question, nothing more, or what is undefined (for a source) or a trap (for a target).
pub data Status (E : Type 0) : Type 0 where
  Runs : Status E
  Asks : (e : E) → Status E
  Ends : Status E
  Fails : Status E

-- A move takes one number: the answer to what is asked, and else the unspecified value that the move may need.
pub record Machine (S E : Type 0) : Type 0 where
  pub status : S → Status E
  pub next : ℕ → S → S

-- A history has one number for each move made. The state after it:
abbrev pub after : {S E : Type 0} → Machine S E → List ℕ → S → S
after m [] s = s
after m (x ∷ xs) s = after m xs (m.next x s)

abbrev pub told_by : {E : Type 0} → Status E → ℕ → List (E × ℕ)
told_by (Asks e) x = (e, x) ∷ []
told_by _ x = []

-- what was asked in a history, with the answers
abbrev pub told : {S E : Type 0} → Machine S E → List ℕ → S → List (E × ℕ)
told m [] s = []
told m (x ∷ xs) s = told_by (m.status s) x ++ told m xs (m.next x s)

-- it makes a move or asks
abbrev pub IsLive : {E : Type 0} → Status E → Type 0
IsLive Runs = Unit {0}
IsLive (Asks e) = Unit {0}
IsLive Ends = ⊥
IsLive Fails = ⊥

-- Each move of the history can be made: none comes after the end, nor where the next is undefined or a trap.
abbrev pub IsLegal : {S E : Type 0} → Machine S E → List ℕ → S → Type 0
IsLegal m [] s = Unit {0}
IsLegal m (x ∷ xs) s = IsLive (m.status s) × IsLegal m xs (m.next x s)

-- The costs of the moves, summed. Where a move costs 1 if it is a step of the machine's language, and 0 if it is none, these are the steps made.
abbrev pub paid : {S E : Type 0} → Machine S E → (S → ℕ) → List ℕ → S → ℕ
paid m cost [] s = 0
paid m cost (x ∷ xs) s = cost s + paid m cost xs (m.next x s)

-- the same questions in the target's words
abbrev pub in_words : {E F : Type 0} → (E → F) → List (E × ℕ) → List (F × ℕ)
in_words word [] = []
in_words word (p ∷ ps) = (word p.0, p.1) ∷ in_words word ps
