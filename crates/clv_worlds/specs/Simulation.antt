-- The items of one program do together what those of another do, each program over a memory of its own.
use Rattle.std.specs.Prelude.{◌≡◌, ℕ, ◌+◌, ◌*◌, ◌<◌, ◌≤◌, true, false, List, map, Some, None}
use Rattle.clv_steps.specs.Machines.{Asks, after, IsLegal}
use Rattle.clv_steps.specs.Runs.{counted, valued, Follows}
use Rattle.clv_worlds.specs.Worlds.{Shared, Program, Entry, Did, Opened, World, Leads, opening, IsWrong, IsStuck, IsComplete, item_steps, steps_of}

-- what was seen, in other words
abbrev pub entry_in : {F G : Type 0} → (F → G) → Entry F → Entry G
entry_in across (Did i f answer) = Did i (across f) answer
entry_in across (Opened g) = Opened g

abbrev pub log_in : {F G : Type 0} → (F → G) → List (Entry F) → List (Entry G)
log_in across = map (entry_in across)

-- the item comes to ask this, under some answers and unspecified values
pub record CanAsk {S E F : Type 0} (p : Program S E F) (i : ℕ) (e : E) : Type 0 where
  pub history : List ℕ
  pub legal : IsLegal (p.machine i) history (p.start i)
  pub asks : (p.machine i).status (after (p.machine i) history (p.start i)) ≡ Asks e

-- One memory by a question of the source, and another by that question in the target's words: where the first has an answer, the second has the same, and behind it they stand beside each other again.
pub record Alike {F G M N : Type 0} (l : Shared F M) (k : Shared G N) (holds : M → N → Type 0) (i : ℕ) (f : F) (g : G) (m : M) (n : N) : Type 0 where
  pub denies : k.denies i g n ≡ true → l.denies i f m ≡ true
  pub reply : l.denies i f m ≡ false → l.reply i f m ≡ k.reply i g n
  pub leave : l.denies i f m ≡ false → holds (l.leave i f (l.reply i f m) m) (k.leave i g (l.reply i f m) n)

-- What is asked item by item. The target follows the source, each of whose steps is worth so many of its own; its questions are the source's in other words. A barrier of the one is a barrier of the other, and two have one chain in the one exactly where they have in the other. The memories, where one stands beside the other, are alike by each question that the source can ask; what is said to the one is said across to the other. The source isn't answered where its memory denies.
pub record Serves {S T E D F G M N : Type 0} (l : Shared F M) (k : Shared G N) (a : Program S E F) (b : Program T D G) (word : E → D) (across : F → G) (holds : M → N → Type 0) (worth : ℕ) : Type 0 where
  pub count : l.count ≡ k.count
  pub group : (i : ℕ) → l.group i ≡ k.group i
  pub follows : (i : ℕ) → i < l.count → Follows (a.machine i) (b.machine i) word (valued a.weight worth) (counted b.weight) (a.start i) (b.start i)
  pub words : (e : E) → across (a.word e) ≡ b.word (word e)
  pub chain : List ℕ → List ℕ
  pub meets : (e : E) (c : List ℕ) → b.gate (word e) ≡ Some c → a.gate e ≡ Some (chain c)
  pub open_gate : (e : E) → b.gate (word e) ≡ None → a.gate e ≡ None
  pub tells : (e e2 : E) (c c2 : List ℕ) → a.gate e ≡ a.gate e2 → b.gate (word e) ≡ Some c → b.gate (word e2) ≡ Some c2 → c ≡ c2
  pub alike : (i : ℕ) (e : E) (m : M) (n : N) → i < l.count → CanAsk a i e → a.gate e ≡ None → holds m n → Alike l k holds i (a.word e) (b.word (word e)) m n
  pub denied : a.takes_any ≡ false

-- A world of the source beside one of the target. The memories stand beside each other, and the same was asked, answered and released in the same order. Each step of a source's item is worth so many of the target's, but for one more until the item has ended.
pub record Agree {S T E D F G M N : Type 0} (l : Shared F M) (k : Shared G N) (a : Program S E F) (b : Program T D G) (across : F → G) (holds : M → N → Type 0) (worth : ℕ) (u : World F M) (v : World G N) : Type 0 where
  pub memory : holds u.memory v.memory
  pub log : v.log ≡ log_in across u.log
  pub bound : (i : ℕ) → i < k.count → item_steps b i (v.items i) ≤ worth * (item_steps a i (u.items i) + 1)
  pub complete : IsComplete k b v → IsComplete l a u
  pub steps : IsComplete k b v → steps_of b k.count v.items ≤ worth * steps_of a l.count u.items

-- World simulation, from one memory of each: no run of the target goes wrong or is stuck, and each is beside one of the source's.
pub record Simulated {S T E D F G M N : Type 0} (l : Shared F M) (k : Shared G N) (a : Program S E F) (b : Program T D G) (across : F → G) (holds : M → N → Type 0) (worth : ℕ) (m : M) (n : N) : Type 0 where
  pub right : (v : World G N) → Leads k b (opening n) v → IsWrong k b v → ⊥
  pub moves : (v : World G N) → Leads k b (opening n) v → IsStuck k b v → ⊥
  pub runs : (v : World G N) → Leads k b (opening n) v → (u : World F M) × Leads l a (opening m) u × Agree l k a b across holds worth u v
