-- What the log of a world says of one item.
use Rattle.std.specs.Prelude.{◌≡◌, ℕ, ◌<◌, List, [], ◌∷◌, ◌++◌, Option, Some, None}
use Rattle.clv_steps.specs.Machines.{Asks, after, told, in_words}
use Rattle.clv_worlds.specs.Worlds.{pick, Shared, Program, Entry, Did, Opened, World, Leads, opening}

-- The questions of an item with their answers, read off a log in order: what it asked of the memory; and for each release of its group a barrier, at
-- which it waited.
pub data Reads {S E F M : Type 0} (l : Shared F M) (p : Program S E F) (i : ℕ) : List (Entry F) → List (E × ℕ) → Type 0 where
  nothing : Reads l p i [] []
  asked : (e : E) (x : ℕ) (log : List (Entry F)) (tells : List (E × ℕ)) → p.gate e ≡ None → Reads l p i log tells → Reads l p i (Did i (p.word e) x ∷ log) ((e, x) ∷ tells)
  another : (j : ℕ) (f : F) (x : ℕ) (log : List (Entry F)) (tells : List (E × ℕ)) → (i ≡ j → ⊥) → Reads l p i log tells → Reads l p i (Did j f x ∷ log) tells
  released : (e : E) (chain : List ℕ) (g : ℕ) (log : List (Entry F)) (tells : List (E × ℕ)) → l.group i ≡ g → p.gate e ≡ Some chain → Reads l p i log tells → Reads l p i (Opened g ∷ log) ((e, 0) ∷ tells)
  other_group : (g : ℕ) (log : List (Entry F)) (tells : List (E × ℕ)) → (l.group i ≡ g → ⊥) → Reads l p i log tells → Reads l p i (Opened g ∷ log) tells

-- The log of each world that is reached says of each item what it has asked, in order.
abbrev pub LogTells : {S E F M : Type 0} → Shared F M → Program S E F → M → Type 0
LogTells {S} {E} {F} {M} l p m = (w : World F M) → Leads l p (opening m) w → (i : ℕ) → i < l.count → Reads l p i w.log (told (p.machine i) (w.items i) (p.start i))

-- ---- what was asked of the memory

-- an item's entries in a log
abbrev pub did_by : {F : Type 0} → ℕ → List (Entry F) → List (F × ℕ)
did_by i [] = []
did_by i (Did j f x ∷ log) = pick i j ((f, x) ∷ did_by i log) (did_by i log)
did_by i (Opened g ∷ log) = did_by i log

abbrev pub unless_gate : {A : Type 0} → Option (List ℕ) → A → List A → List A
unless_gate None x xs = x ∷ xs
unless_gate (Some chain) x xs = xs

-- what is no barrier
abbrev pub without_gates : {E : Type 0} → (E → Option (List ℕ)) → List (E × ℕ) → List (E × ℕ)
without_gates gate [] = []
without_gates gate (q ∷ qs) = unless_gate (gate q.0) q (without_gates gate qs)

-- What an item asked of the memory stands in the log, in the memory's words, with its answers and in its order.
abbrev pub MemoryTells : {S E F M : Type 0} → Shared F M → Program S E F → M → Type 0
MemoryTells {S} {E} {F} {M} l p m = (w : World F M) → Leads l p (opening m) w → (i : ℕ) → i < l.count → did_by i w.log ≡ in_words p.word (without_gates p.gate (told (p.machine i) (w.items i) (p.start i)))

-- ---- barriers

-- The item waited at a barrier of this chain when the log was so far, and went on from there.
pub record Waited {S E F M : Type 0} (l : Shared F M) (p : Program S E F) (w : World F M) (before : List (Entry F)) (chain : List ℕ) (i : ℕ) : Type 0 where
  pub front : List ℕ
  pub back : List ℕ
  pub history : w.items i ≡ front ++ 0 ∷ back
  pub event : E
  pub asks : (p.machine i).status (after (p.machine i) front (p.start i)) ≡ Asks event
  pub gate : p.gate event ≡ Some chain
  pub reads : Reads l p i before (told (p.machine i) front (p.start i))

-- The items of a group that was released, of which there is one, had met at barriers of one chain.
pub record Met {S E F M : Type 0} (l : Shared F M) (p : Program S E F) (w : World F M) (before : List (Entry F)) (g : ℕ) : Type 0 where
  pub chain : List ℕ
  pub one : (i : ℕ) × (i < l.count) × (l.group i ≡ g)
  pub each : (i : ℕ) → i < l.count → l.group i ≡ g → Waited l p w before chain i

-- Each release in the log of a world that is reached was such a meeting.
abbrev pub GroupsMeet : {S E F M : Type 0} → Shared F M → Program S E F → M → Type 0
GroupsMeet {S} {E} {F} {M} l p m = (w : World F M) → Leads l p (opening m) w → (before behind : List (Entry F)) (g : ℕ) → w.log ≡ before ++ Opened g ∷ behind → Met l p w before g
