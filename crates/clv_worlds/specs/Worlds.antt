-- Work-items over shared memory, in any order, with barriers of groups.
use Rattle.std.specs.Prelude.{◌≡◌, ℕ, zero, suc, ◌+◌, ◌<◌, ◌⊎◌, Bool, true, false, List, [], ◌∷◌, ◌++◌, Option, Some, None}
use Rattle.clv_steps.specs.Machines.{Runs, Asks, Ends, Fails, Machine, after, paid}

-- the first where the numbers are equal, and else the second
abbrev pub pick : {A : Type 0} → ℕ → ℕ → A → A → A
pick zero zero x y = x
pick zero (suc j) x y = y
pick (suc i) zero x y = y
pick (suc i) (suc j) x y = pick i j x y

abbrev pub with_item : ℕ → List ℕ → (ℕ → List ℕ) → ℕ → List ℕ
with_item i h hs j = pick i j h (hs j)

-- each item of the group is answered, by 0
abbrev pub freed : (ℕ → ℕ) → ℕ → (ℕ → List ℕ) → ℕ → List ℕ
freed group g hs j = pick (group j) g (hs j ++ 0 ∷ []) (hs j)

-- What one launch has: so many items, the group of each, and the memory: whether it has no answer to what an item asks (it was never set), its answer, and what it becomes by the question and its answer.
pub record Shared (F M : Type 0) : Type 0 where
  pub count : ℕ
  pub group : ℕ → ℕ
  pub denies : ℕ → F → M → Bool
  pub reply : ℕ → F → M → ℕ
  pub leave : ℕ → F → ℕ → M → M

-- A program: each item's machine and first state; what a move weighs, 1 where it is a step of the program's language and 0 where it is none; its questions in the memory's words, and the chain of places of a question that is a barrier. Whether a question that the memory denies is answered by any number, or not at all.
pub record Program (S E F : Type 0) : Type 0 where
  pub machine : ℕ → Machine S E
  pub start : ℕ → S
  pub weight : S → ℕ
  pub word : E → F
  pub gate : E → Option (List ℕ)
  pub takes_any : Bool

-- what is seen from outside: a question with its answer, and the release of a group
pub data Entry (F : Type 0) : Type 0 where
  Did : (i : ℕ) (f : F) (answer : ℕ) → Entry F
  Opened : (g : ℕ) → Entry F

-- The memory, each item's history, and what was seen. An item's state is that after its history, from its start.
pub record World (F M : Type 0) : Type 0 where
  pub memory : M
  pub items : ℕ → List ℕ
  pub log : List (Entry F)

abbrev pub state : {S E F M : Type 0} → Program S E F → World F M → ℕ → S
state p w i = after (p.machine i) (w.items i) (p.start i)

-- the item waits at a barrier of this chain
pub record WaitsAt {S E F M : Type 0} (p : Program S E F) (w : World F M) (i : ℕ) (chain : List ℕ) : Type 0 where
  pub event : E
  pub asks : (p.machine i).status (state p w i) ≡ Asks event
  pub gate : p.gate event ≡ Some chain

-- the item asks this of the memory
pub record AsksMemory {S E F M : Type 0} (p : Program S E F) (w : World F M) (i : ℕ) (e : E) : Type 0 where
  pub asks : (p.machine i).status (state p w i) ≡ Asks e
  pub gate : p.gate e ≡ None

-- the world after a question of an item was answered
abbrev pub answered : {S E F M : Type 0} → Shared F M → Program S E F → World F M → ℕ → E → ℕ → World F M
answered l p w i e x = record { memory = l.leave i (p.word e) x w.memory; items = with_item i (w.items i ++ x ∷ []) w.items; log = w.log ++ Did i (p.word e) x ∷ [] }

-- One move: an item's own, with any number as the unspecified value that it may need; the answer to what it asks; any answer, where the memory denies and the program takes it; or the release of a group whose items all wait at one barrier.
pub data Moves {S E F M : Type 0} (l : Shared F M) (p : Program S E F) : World F M → World F M → Type 0 where
  own : (w : World F M) (i x : ℕ) → i < l.count → (p.machine i).status (state p w i) ≡ Runs
      → Moves l p w (record { memory = w.memory; items = with_item i (w.items i ++ x ∷ []) w.items; log = w.log })
  does : (w : World F M) (i : ℕ) (e : E) → i < l.count → AsksMemory p w i e → l.denies i (p.word e) w.memory ≡ false
      → Moves l p w (answered l p w i e (l.reply i (p.word e) w.memory))
  takes : (w : World F M) (i : ℕ) (e : E) (x : ℕ) → i < l.count → AsksMemory p w i e → l.denies i (p.word e) w.memory ≡ true → p.takes_any ≡ true
      → Moves l p w (answered l p w i e x)
  opens : (w : World F M) (g : ℕ) (chain : List ℕ) → (i : ℕ) → i < l.count → l.group i ≡ g → ((j : ℕ) → j < l.count → l.group j ≡ g → WaitsAt p w j chain)
      → Moves l p w (record { memory = w.memory; items = freed l.group g w.items; log = w.log ++ Opened g ∷ [] })

-- a run from one world to another
pub data Leads {S E F M : Type 0} (l : Shared F M) (p : Program S E F) : World F M → World F M → Type 0 where
  here : (w : World F M) → Leads l p w w
  onward : (u v w : World F M) → Leads l p u v → Moves l p v w → Leads l p u w

-- no item has made a move
abbrev pub opening : {F M : Type 0} → M → World F M
opening m = record { memory = m; items = λ i. []; log = [] }

-- In the group each item waits at a barrier or has ended, one waits, and not all wait at one.
pub record IsMismatched {S E F M : Type 0} (l : Shared F M) (p : Program S E F) (w : World F M) (g : ℕ) : Type 0 where
  pub each : (i : ℕ) → i < l.count → l.group i ≡ g → ((chain : List ℕ) × WaitsAt p w i chain) ⊎ (p.machine i).status (state p w i) ≡ Ends
  pub one : (i : ℕ) × (i < l.count) × (l.group i ≡ g) × (chain : List ℕ) × WaitsAt p w i chain
  pub not_all : (chain : List ℕ) → ((i : ℕ) → i < l.count → l.group i ≡ g → WaitsAt p w i chain) → ⊥

-- Something has gone wrong: what an item is to do next is undefined or a trap; it asks what the memory denies and the program doesn't take; or a group's items don't meet.
pub data IsWrong {S E F M : Type 0} (l : Shared F M) (p : Program S E F) (w : World F M) : Type 0 where
  fails : (i : ℕ) → i < l.count → (p.machine i).status (state p w i) ≡ Fails → IsWrong l p w
  denied : (i : ℕ) (e : E) → i < l.count → AsksMemory p w i e → l.denies i (p.word e) w.memory ≡ true → p.takes_any ≡ false → IsWrong l p w
  mismatched : (g : ℕ) → IsMismatched l p w g → IsWrong l p w

-- No run from this memory goes wrong.
abbrev pub IsDefined : {S E F M : Type 0} → Shared F M → Program S E F → M → Type 0
IsDefined {S} {E} {F} {M} l p m = (w : World F M) → Leads l p (opening m) w → IsWrong l p w → ⊥

-- all items have ended
abbrev pub IsComplete : {S E F M : Type 0} → Shared F M → Program S E F → World F M → Type 0
IsComplete l p w = (i : ℕ) → i < l.count → (p.machine i).status (state p w i) ≡ Ends

-- neither complete nor wrong, and no move can be made
pub record IsStuck {S E F M : Type 0} (l : Shared F M) (p : Program S E F) (w : World F M) : Type 0 where
  pub not_complete : IsComplete l p w → ⊥
  pub not_wrong : IsWrong l p w → ⊥
  pub no_move : (v : World F M) → Moves l p w v → ⊥

-- an item's steps in a history: what its moves weigh, summed
abbrev pub item_steps : {S E F : Type 0} → Program S E F → ℕ → List ℕ → ℕ
item_steps p i h = paid (p.machine i) p.weight h (p.start i)

-- the steps of the first so many items, summed
abbrev pub steps_of : {S E F : Type 0} → Program S E F → ℕ → (ℕ → List ℕ) → ℕ
steps_of p zero items = 0
steps_of p (suc n) items = steps_of p n items + item_steps p n (items n)
