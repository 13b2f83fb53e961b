-- How far a symbol was read, and where one is refused.
use Rattle.std.specs.Prelude.{◌≡◌, ℕ, ◌+◌, ◌-◌, ◌<◌, ◌≤◌, length, take, drop, List, [], ◌∷◌, ◌++◌, true, false}
use Rattle.clv_place.specs.declared.place.Place.{Place}
use Rattle.cl_grammar.specs.declared.lexeme.Lexeme.{Lexeme}
use Rattle.cl_grammar.specs.declared.terminal.Terminal.{Terminal}
use Rattle.cl_grammar.specs.declared.terminal.Terminal.TheVariants as t
use Rattle.cl_grammar.specs.declared.stop.ExprStop.{ExprStop}
use Rattle.cl_grammar.specs.declared.stop.ExprStop.TheVariants.{Out, NoMemory}
use Rattle.cl_grammar.specs.Expressions.{IsA}
use Rattle.cl_grammar.specs.StatementSymbols.{Statement}
use Rattle.cl_grammar.specs.Symbols.{Sym, Mark, Of, E, S, D, Is, Are, continues, have_some}

-- None of these symbols begins with a token that would go on with an x.
pub record Stops (x : Sym) (others : List Sym) : Type 0 where
  pub stops : (l : Lexeme) (w : List Lexeme) → Are others (l ∷ w) → continues x l.terminal ≡ false

-- An `else` that may stand behind a statement belongs to an `if` before it: behind that `else` a statement and the others may stand too.
pub record Elses (others : List Sym) : Type 0 where
  pub elses : (e : Lexeme) (w : List Lexeme) → IsA t.Else e → Are others (e ∷ w) → Are (S Statement ∷ others) w

-- symbols that may stand behind an x
abbrev pub Fits : Sym → List Sym → Type 0
Fits (S x) others = Stops (S x) others × Elses others
Fits (Mark terminal) others = Stops (Mark terminal) others
Fits (Of class) others = Stops (Of class) others
Fits (E x) others = Stops (E x) others
Fits (D x) others = Stops (D x) others

-- The symbol x was read from s on as far as s': what was read and these symbols make an x, and where x and
-- others stand for tokens that begin so and go on with the token that comes next, these symbols and the others stand for what is left.
pub record Item (x : Sym) (todo : List Sym) (read s s' : List Lexeme) : Type 0 where
  pub split : s ≡ read ++ s'
  pub builds : (u : List Lexeme) → Are todo u → Is x (read ++ u)
  pub only : (others : List Sym) → Fits x others → (l : Lexeme) (v w : List Lexeme) → s' ≡ l ∷ v → Are (x ∷ others) (read ++ l ∷ w) → Are (todo ++ others) (l ∷ w)

-- No x goes on with the token that stands first in s' behind what was read.
pub record Excluded (x : Sym) (read s s' : List Lexeme) : Type 0 where
  pub split : s ≡ read ++ s'
  pub no_more : (others : List Sym) → Fits x others → (l : Lexeme) (v w : List Lexeme) → s' ≡ l ∷ v → Are (x ∷ others) (read ++ l ∷ w) → ⊥

-- Some x begins so: with these symbols, each of which stands for some tokens, behind what was read.
pub record Begun (x : Sym) (read : List Lexeme) : Type 0 where
  pub todo : List Sym
  pub there : have_some todo ≡ true
  pub builds : (u : List Lexeme) → Are todo u → Is x (read ++ u)

-- the tokens from one index to another
abbrev pub between : List Lexeme → ℕ → ℕ → List Lexeme
between ts at next = take (next - at) (drop at ts)

-- the last token is the end, which is no word
pub record EndsIn (ts : List Lexeme) : Type 0 where
  pub front : List Lexeme
  pub last : Lexeme
  pub is : ts ≡ front ++ last ∷ []
  pub ends : IsA t.End last
  pub no_word : last.text ≡ []

-- this token stands there
pub record StandsAt (ts : List Lexeme) (at : ℕ) (l : Lexeme) : Type 0 where
  pub within : at < length ts
  pub here : drop at ts ≡ l ∷ drop (at + 1) ts

-- a token of this terminal stands there
pub record IsAt (ts : List Lexeme) (at : ℕ) (terminal : Terminal) : Type 0 where
  pub token : Lexeme
  pub stands : StandsAt ts at token
  pub is : IsA terminal token

-- a token of another terminal stands there
pub record OtherAt (ts : List Lexeme) (at : ℕ) (terminal : Terminal) : Type 0 where
  pub other : Terminal
  pub stands : IsAt ts at other
  pub differs : (other ≡ terminal) → ⊥

-- A reading of an x goes from one index to another, at which a token stands, and these symbols are left of it.
pub record GoesOn (x : Sym) (todo : List Sym) (ts : List Lexeme) (at next : ℕ) : Type 0 where
  pub forth : at ≤ next
  pub within : next < length ts
  pub item : Item x todo (between ts at next) (drop at ts) (drop next ts)

-- An x stands from one index to another, and none goes on with the token there.
pub record ReadAt (x : Sym) (ts : List Lexeme) (at next : ℕ) : Type 0 where
  pub read : GoesOn x [] ts at next

-- No x begins with the tokens from one index to another and the one there.
pub record NoneAt (x : Sym) (ts : List Lexeme) (at next : ℕ) : Type 0 where
  pub forth : at ≤ next
  pub within : next < length ts
  pub excluded : Excluded x (between ts at next) (drop at ts) (drop next ts)

-- Some x begins with the tokens from one index to another, and none with these and the token there.
pub record OutAt (x : Sym) (ts : List Lexeme) (at next : ℕ) : Type 0 where
  pub none : NoneAt x ts at next
  pub begun : Begun x (between ts at next)

-- an x that begins at an index is refused at one, unless memory ran out
abbrev pub IsRefused : Sym → List Lexeme → ℕ → ExprStop → Type 0
IsRefused x ts at (Out k) = OutAt x ts at k
IsRefused x ts at NoMemory = Unit {0}

pub record RefusedAt (x : Sym) (ts : List Lexeme) (at : ℕ) (stop : ExprStop) : Type 0 where
  pub refused : IsRefused x ts at stop

-- the same of an x that no tokens there begin
abbrev pub IsBarred : Sym → List Lexeme → ℕ → ExprStop → Type 0
IsBarred x ts at (Out k) = NoneAt x ts at k
IsBarred x ts at NoMemory = Unit {0}

pub record BarredAt (x : Sym) (ts : List Lexeme) (at : ℕ) (stop : ExprStop) : Type 0 where
  pub barred : IsBarred x ts at stop

-- the token there stands at this place
pub record PlaceAt (ts : List Lexeme) (at : ℕ) (place : Place) : Type 0 where
  pub token : Lexeme
  pub stands : StandsAt ts at token
  pub is : token.place ≡ place

-- the token there is a word of these bytes
pub record TextAt (ts : List Lexeme) (at : ℕ) (text : List ℕ) : Type 0 where
  pub token : Lexeme
  pub stands : StandsAt ts at token
  pub is : token.text ≡ text
