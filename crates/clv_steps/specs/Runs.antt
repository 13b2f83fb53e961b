-- A machine that does what another does.
use Rattle.std.specs.Prelude.{◌≡◌, ℕ, ◌+◌, ◌*◌, ◌≤◌, ◌⊎◌, List, [], ◌∷◌, ◌++◌, length}
use Rattle.clv_steps.specs.Machines.{Status, Runs, Asks, Ends, Fails, Machine, after, told, IsLegal, paid, in_words}

-- What the source does next, beside what the target does next: it asks the same, and it has ended if the target has. The target doesn't trap.
abbrev pub Matches : {E F : Type 0} → (E → F) → Status E → Status F → Type 0
Matches word s Runs = Unit {0}
Matches {E} word s (Asks f) = (e : E) × (s ≡ Asks e) × (f ≡ word e)
Matches word s Ends = s ≡ Ends
Matches word s Fails = ⊥

-- After a history g of the source and h of the target: the source has asked the first of what the target has asked, and what it is to do next is undefined.
pub record Broke {S T E F : Type 0} (a : Machine S E) (b : Machine T F) (word : E → F) (s : S) (t : T) (g h : List ℕ) : Type 0 where
  pub more : List (F × ℕ)
  pub asked : told b h t ≡ in_words word (told a g s) ++ more
  pub fails : a.status (after a g s) ≡ Fails

-- The source has asked the same, in steps of which each is worth so many moves of the target; one step more, until the target has ended. A move of the source weighs 1 where it is a step, and 0 where it is none.
pub record Serves {S T E F : Type 0} (a : Machine S E) (b : Machine T F) (word : E → F) (weight : S → ℕ) (worth : ℕ) (s : S) (t : T) (g h : List ℕ) : Type 0 where
  pub asked : told b h t ≡ in_words word (told a g s)
  pub stands : Matches word (a.status (after a g s)) (b.status (after b h t))
  pub bound : length h ≤ worth * (paid a weight g s + 1)
  pub ended : b.status (after b h t) ≡ Ends → length h ≤ worth * paid a weight g s

-- One choice of unspecified values serves at each moment of a run of the target: a front of it is a history of the source that stands so.
pub record Moments {S T E F : Type 0} (a : Machine S E) (b : Machine T F) (word : E → F) (weight : S → ℕ) (worth : ℕ) (s : S) (t : T) (h : List ℕ) : Type 0 where
  pub choice : List ℕ
  pub legal : IsLegal a choice s
  pub each : (front back : List ℕ) → h ≡ front ++ back → (g more : List ℕ) × (choice ≡ g ++ more) × (Broke a b word s t g front ⊎ Serves a b word weight worth s t g front)

-- The target does what the source does: on each of its runs, under any answers and unspecified values.
abbrev pub Simulates : {S T E F : Type 0} → Machine S E → Machine T F → (E → F) → (S → ℕ) → ℕ → S → T → Type 0
Simulates a b word weight worth s t = (h : List ℕ) → IsLegal b h t → Moments a b word weight worth s t h

-- How a run is measured: what each move costs, and what the state that it comes to counts ahead, on account of moves to come.
pub record Meter (S : Type 0) : Type 0 where
  pub cost : S → ℕ
  pub ahead : S → ℕ

-- the measure of a run
abbrev pub measured : {S E : Type 0} → Machine S E → Meter S → List ℕ → S → ℕ
measured m meter h s = paid m meter.cost h s + meter.ahead (after m h s)

-- the steps alone, by the weights of moves
abbrev pub counted : {S : Type 0} → (S → ℕ) → Meter S
counted weight = record { cost = weight; ahead = λ s. 0 }

-- each step by so much, and one step more ahead
abbrev pub valued : {S : Type 0} → (S → ℕ) → ℕ → Meter S
valued weight worth = record { cost = λ s. worth * weight s; ahead = λ s. worth }

-- The same by a meter on each side: what is due, by the target's run, is at most what the source's run pays. Once the target has ended, this holds of the costs alone.
pub record Keeps {S T E F : Type 0} (a : Machine S E) (b : Machine T F) (word : E → F) (pay : Meter S) (due : Meter T) (s : S) (t : T) (g h : List ℕ) : Type 0 where
  pub asked : told b h t ≡ in_words word (told a g s)
  pub stands : Matches word (a.status (after a g s)) (b.status (after b h t))
  pub bound : measured b due h t ≤ measured a pay g s
  pub ended : b.status (after b h t) ≡ Ends → paid b due.cost h t ≤ paid a pay.cost g s

-- The source's history is a function of the target's that only grows, so that runs of several machines can be put together move by move. A machine between two others has one meter on both sides: what is due of it as a target it pays as a source.
pub record Follows {S T E F : Type 0} (a : Machine S E) (b : Machine T F) (word : E → F) (pay : Meter S) (due : Meter T) (s : S) (t : T) : Type 0 where
  pub choose : List ℕ → List ℕ
  pub grows : (h : List ℕ) (x : ℕ) → (more : List ℕ) × (choose (h ++ x ∷ []) ≡ choose h ++ more)
  pub legal : (h : List ℕ) → IsLegal b h t → IsLegal a (choose h) s
  pub serves : (h : List ℕ) → IsLegal b h t → Broke a b word s t (choose h) h ⊎ Keeps a b word pay due s t (choose h) h
