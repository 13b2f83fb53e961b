-- The log of a world tells what its items asked, and where they met.
use Rattle.std.proofs.Common.{◌≡◌, ℕ, ◌<◌, ◌⊎◌, inl, inr, List, [], ◌∷◌, ◌++◌, Some, None, refl, sym, ap, ◌∙◌, subst, append_assoc}
use Rattle.std.proofs.lemmas.List.{append-nil}
use Rattle.clv_steps.specs.Machines.{Status, Runs, Asks, after, told_by, told, in_words}
use Rattle.clv_steps.proofs.Append.{told_append}
use Rattle.clv_worlds.specs.Worlds.{with_item, freed, Shared, Program, Entry, Did, Opened, World, state, WaitsAt, AsksMemory, Moves, own, does, takes, opens, Leads, here, onward, opening}
use Rattle.clv_worlds.specs.Histories.{Reads, nothing, asked, another, released, other_group, LogTells, did_by, unless_gate, without_gates, MemoryTells, Waited, Met, GroupsMeet}
use Rattle.clv_worlds.proofs.Picks.{pick_same, pick_other, pick_either}

module _ {S E F M : Type 0} (l : Shared F M) (p : Program S E F) where
  reads_append : (i : ℕ) (log : List (Entry F)) (tells : List (E × ℕ)) (log2 : List (Entry F)) (tells2 : List (E × ℕ)) → Reads l p i log tells → Reads l p i log2 tells2 → Reads l p i (log ++ log2) (tells ++ tells2)
  reads_append i _ _ log2 tells2 nothing r = r
  reads_append i _ _ log2 tells2 (asked e x log tells h q) r = asked e x (log ++ log2) (tells ++ tells2) h (reads_append i log tells log2 tells2 q r)
  reads_append i _ _ log2 tells2 (another j f x log tells h q) r = another j f x (log ++ log2) (tells ++ tells2) h (reads_append i log tells log2 tells2 q r)
  reads_append i _ _ log2 tells2 (released e chain g log tells h k q) r = released e chain g (log ++ log2) (tells ++ tells2) h k (reads_append i log tells log2 tells2 q r)
  reads_append i _ _ log2 tells2 (other_group g log tells h q) r = other_group g (log ++ log2) (tells ++ tells2) h (reads_append i log tells log2 tells2 q r)

  -- one more entry, which says nothing of the item
  reads_other : (i : ℕ) (log : List (Entry F)) (tells : List (E × ℕ)) (entry : Entry F) → Reads l p i log tells → Reads l p i (entry ∷ []) [] → Reads l p i (log ++ entry ∷ []) tells
  reads_other i log tells entry q r = subst (Reads l p i (log ++ entry ∷ [])) (append-nil tells) (reads_append i log tells (entry ∷ []) [] q r)

  -- one more move
  told_more : (i x : ℕ) (h : List ℕ) (st : Status E) → (p.machine i).status (after (p.machine i) h (p.start i)) ≡ st → told (p.machine i) (h ++ x ∷ []) (p.start i) ≡ told (p.machine i) h (p.start i) ++ told_by st x
  told_more i x h st e = told_append (p.machine i) h (x ∷ []) (p.start i) ∙ ap (λ z. told (p.machine i) h (p.start i) ++ z) (append-nil (told_by ((p.machine i).status (after (p.machine i) h (p.start i))) x) ∙ ap (λ z. told_by z x) e)

  abbrev Says : ℕ → List (Entry F) → List ℕ → Type 0
  Says i log h = Reads l p i log (told (p.machine i) h (p.start i))

  abbrev AllSay : World F M → Type 0
  AllSay w = (i : ℕ) → i < l.count → Says i w.log (w.items i)

  -- an item's history grows by a move that is told so
  says_more : (i x : ℕ) (log more : List (Entry F)) (h : List ℕ) (st : Status E) → (p.machine i).status (after (p.machine i) h (p.start i)) ≡ st → Says i log h → Reads l p i more (told_by st x) → Says i (log ++ more) (h ++ x ∷ [])
  says_more i x log more h st e q r = subst (Reads l p i (log ++ more)) (sym (told_more i x h st e)) (reads_append i log _ more _ q r)

  say_own : (v : World F M) (i x : ℕ) → i < l.count → (p.machine i).status (state p v i) ≡ Runs → AllSay v → (j : ℕ) → j < l.count → Says j v.log (with_item i (v.items i ++ x ∷ []) v.items j)
  say_own v i x low runs all j j_low = pick_either (Says j v.log) i j _ _
      (λ e. subst (λ k. Says k v.log (v.items i ++ x ∷ [])) e (subst (λ z. Says i z (v.items i ++ x ∷ [])) (append-nil v.log) (says_more i x v.log [] (v.items i) Runs runs (all i low) nothing)))
      (λ other. all j j_low)

  say_asked : (v : World F M) (i x : ℕ) (e : E) → i < l.count → AsksMemory p v i e → AllSay v → (j : ℕ) → j < l.count → Says j (v.log ++ Did i (p.word e) x ∷ []) (with_item i (v.items i ++ x ∷ []) v.items j)
  say_asked v i x e low asks all j j_low = pick_either (Says j (v.log ++ Did i (p.word e) x ∷ [])) i j _ _
      (λ is. subst (λ k. Says k (v.log ++ Did i (p.word e) x ∷ []) (v.items i ++ x ∷ [])) is (says_more i x v.log (Did i (p.word e) x ∷ []) (v.items i) (Asks e) asks.asks (all i low) (asked e x [] [] asks.gate nothing)))
      (λ other. reads_other j v.log _ (Did i (p.word e) x) (all j j_low) (another i (p.word e) x [] [] (λ e2. other (sym e2)) nothing))

  say_opened : (v : World F M) (g : ℕ) (chain : List ℕ) → ((j : ℕ) → j < l.count → l.group j ≡ g → WaitsAt p v j chain) → AllSay v → (j : ℕ) → j < l.count → Says j (v.log ++ Opened g ∷ []) (freed l.group g v.items j)
  say_opened v g chain wait all j low = pick_either (Says j (v.log ++ Opened g ∷ [])) (l.group j) g _ _
      (λ there. (let w = wait j low there in says_more j 0 v.log (Opened g ∷ []) (v.items j) (Asks w.event) w.asks (all j low) (released w.event chain g [] [] there w.gate nothing)))
      (λ other. reads_other j v.log _ (Opened g) (all j low) (other_group g [] [] other nothing))

  say_next : (v w : World F M) → Moves l p v w → AllSay v → AllSay w
  say_next v _ (own _ i x low runs) all = say_own v i x low runs all
  say_next v _ (does _ i e low asks grants) all = say_asked v i _ e low asks all
  say_next v _ (takes _ i e x low asks denies any) all = say_asked v i x e low asks all
  say_next v _ (opens _ g chain i low there wait) all = say_opened v g chain wait all

  all_say : (m : M) (o w : World F M) → o ≡ opening m → Leads l p o w → AllSay w
  all_say m o _ e (here _) = subst AllSay (sym e) (λ i low. nothing)
  all_say m o w e (onward _ v _ run move) = say_next v w move (all_say m o v e run)

  pub log_tells : (m : M) → LogTells l p m
  log_tells m w run = all_say m (opening m) w refl run

  -- ---- what was asked of the memory

  no_gate : (e : E) (x : ℕ) (qs : List (E × ℕ)) → p.gate e ≡ None → without_gates p.gate ((e, x) ∷ qs) ≡ (e, x) ∷ without_gates p.gate qs
  no_gate e x qs h = ap (λ z. unless_gate z (e, x) (without_gates p.gate qs)) h

  a_gate : (e : E) (x : ℕ) (chain : List ℕ) (qs : List (E × ℕ)) → p.gate e ≡ Some chain → without_gates p.gate ((e, x) ∷ qs) ≡ without_gates p.gate qs
  a_gate e x chain qs h = ap (λ z. unless_gate z (e, x) (without_gates p.gate qs)) h

  read_memory : (i : ℕ) (log : List (Entry F)) (tells : List (E × ℕ)) → Reads l p i log tells → did_by i log ≡ in_words p.word (without_gates p.gate tells)
  read_memory i _ _ nothing = refl
  read_memory i _ _ (asked e x log tells h q) = pick_same i _ _ ∙ ap (λ z. (p.word e, x) ∷ z) (read_memory i log tells q) ∙ ap (in_words p.word) (sym (no_gate e x tells h))
  read_memory i _ _ (another j f x log tells h q) = pick_other i j _ _ h ∙ read_memory i log tells q
  read_memory i _ _ (released e chain g log tells h k q) = read_memory i log tells q ∙ ap (in_words p.word) (sym (a_gate e 0 chain tells k))
  read_memory i _ _ (other_group g log tells h q) = read_memory i log tells q

  pub memory_tells : (m : M) → MemoryTells l p m
  memory_tells m w run i low = read_memory i w.log _ (log_tells m w run i low)

  -- ---- barriers

  abbrev Longer : List ℕ → List ℕ → Type 0
  Longer h k = (more : List ℕ) × (k ≡ h ++ more)

  none_longer : (h : List ℕ) → Longer h h
  none_longer h = ([], sym (append-nil h))

  items_longer : (v w : World F M) → Moves l p v w → (j : ℕ) → Longer (v.items j) (w.items j)
  items_longer v _ (own _ i x low runs) j = pick_either (Longer (v.items j)) i j _ _ (λ e. subst (λ k. Longer (v.items k) (v.items i ++ x ∷ [])) e (x ∷ [], refl)) (λ other. none_longer (v.items j))
  items_longer v _ (does _ i e low asks grants) j = pick_either (Longer (v.items j)) i j _ _ (λ is. subst (λ k. Longer (v.items k) (v.items i ++ l.reply i (p.word e) v.memory ∷ [])) is (l.reply i (p.word e) v.memory ∷ [], refl)) (λ other. none_longer (v.items j))
  items_longer v _ (takes _ i e x low asks denies any) j = pick_either (Longer (v.items j)) i j _ _ (λ is. subst (λ k. Longer (v.items k) (v.items i ++ x ∷ [])) is (x ∷ [], refl)) (λ other. none_longer (v.items j))
  items_longer v _ (opens _ g chain i low there wait) j = pick_either (Longer (v.items j)) (l.group j) g _ _ (λ e. (0 ∷ [], refl)) (λ other. none_longer (v.items j))

  waited_still : (v w : World F M) (before : List (Entry F)) (chain : List ℕ) (i : ℕ) → Longer (v.items i) (w.items i) → Waited l p v before chain i → Waited l p w before chain i
  waited_still v w before chain i more h = record {
    front = h.front;
    back = h.back ++ more.0;
    history = more.1 ∙ ap (λ z. z ++ more.0) h.history ∙ append_assoc h.front (0 ∷ h.back) more.0;
    event = h.event;
    asks = h.asks;
    gate = h.gate;
    reads = h.reads;
  }

  met_still : (v w : World F M) (before : List (Entry F)) (g : ℕ) → Moves l p v w → Met l p v before g → Met l p w before g
  met_still v w before g move h = record { chain = h.chain; one = h.one; each = λ i low there. waited_still v w before h.chain i (items_longer v w move i) (h.each i low there) }

  not_empty : (before : List (Entry F)) (x : Entry F) (behind : List (Entry F)) → before ++ x ∷ behind ≡ [] → ⊥
  not_empty [] x behind e = cc
  not_empty (b ∷ before) x behind e = cc

  -- an entry of a log with one more is that one, or an entry of the log
  last_or_before : (before log : List (Entry F)) (x y : Entry F) (behind : List (Entry F)) → log ++ y ∷ [] ≡ before ++ x ∷ behind → ((x ≡ y) × (log ≡ before)) ⊎ ((rest : List (Entry F)) × (log ≡ before ++ x ∷ rest))
  last_or_before [] [] x y behind e = inl ((let f : y ∷ [] ≡ x ∷ behind = e in cc), refl)
  last_or_before [] (z ∷ log) x y behind e = inr (log, (let f : z ∷ (log ++ y ∷ []) ≡ x ∷ behind = e in cc))
  last_or_before (b ∷ before) [] x y behind e = absurd (not_empty before x behind (let f : y ∷ [] ≡ b ∷ (before ++ x ∷ behind) = e in cc))
  last_or_before (b ∷ before) (z ∷ log) x y behind e =
      let f : z ∷ (log ++ y ∷ []) ≡ b ∷ (before ++ x ∷ behind) = e in
      let head : z ≡ b = cc in
      elim (last_or_before before log x y behind cc) [
        | inl q ↦ inl (q.0, (let t = q.1 in cc))
        | inr q ↦ inr (q.0, (let t = q.1 in cc))
      ]

  abbrev Meetings : World F M → Type 0
  Meetings w = (before behind : List (Entry F)) (g : ℕ) → w.log ≡ before ++ Opened g ∷ behind → Met l p w before g

  meet_did : (v w : World F M) (i x : ℕ) (f : F) → Moves l p v w → w.log ≡ v.log ++ Did i f x ∷ [] → Meetings v → Meetings w
  meet_did v w i x f move is all before behind g e = elim (last_or_before before v.log (Opened g) (Did i f x) behind (sym is ∙ e)) [
    | inl q ↦ absurd (let t : Opened g ≡ Did i f x = q.0 in cc)
    | inr q ↦ met_still v w before g move (all before q.0 g q.1)
  ]

  now_met : (v w : World F M) (g : ℕ) (chain : List ℕ) (i : ℕ) → i < l.count → l.group i ≡ g → ((j : ℕ) → j < l.count → l.group j ≡ g → WaitsAt p v j chain) → AllSay v → w.items ≡ freed l.group g v.items → Met l p w v.log g
  now_met v w g chain i low there wait say is = record {
    chain = chain;
    one = (i, low, there);
    each = λ j j_low j_there.
        let q = wait j j_low j_there in
        record {
          front = v.items j;
          back = [];
          history = ap (λ z. z j) is ∙ pick_here j j_there;
          event = q.event;
          asks = q.asks;
          gate = q.gate;
          reads = say j j_low;
        };
  }
    where
      pick_here : (j : ℕ) → l.group j ≡ g → freed l.group g v.items j ≡ v.items j ++ 0 ∷ []
      pick_here j e = pick_either (λ z. z ≡ v.items j ++ 0 ∷ []) (l.group j) g _ _ (λ k. refl) (λ other. absurd (other e))

  meet_opened : (v w : World F M) (g : ℕ) (chain : List ℕ) (i : ℕ) → i < l.count → l.group i ≡ g → ((j : ℕ) → j < l.count → l.group j ≡ g → WaitsAt p v j chain) → AllSay v → Moves l p v w → w.items ≡ freed l.group g v.items → w.log ≡ v.log ++ Opened g ∷ [] → Meetings v → Meetings w
  meet_opened v w g chain i low there wait say move items is all before behind h e = elim (last_or_before before v.log (Opened h) (Opened g) behind (sym is ∙ e)) [
    | inl q ↦ (let t : Opened h ≡ Opened g = q.0 in let same : g ≡ h = cc in
        subst (λ z. Met l p w z h) q.1 (subst (λ k. Met l p w v.log k) same (now_met v w g chain i low there wait say items)))
    | inr q ↦ met_still v w before h move (all before q.0 h q.1)
  ]

  meet_next : (v w : World F M) → Moves l p v w → AllSay v → Meetings v → Meetings w
  meet_next v _ (own _ i x low runs) say all = λ before behind g e. met_still v _ before g (own v i x low runs) (all before behind g e)
  meet_next v _ (does _ i e low asks grants) say all = meet_did v _ i _ (p.word e) (does v i e low asks grants) refl all
  meet_next v _ (takes _ i e x low asks denies any) say all = meet_did v _ i x (p.word e) (takes v i e x low asks denies any) refl all
  meet_next v _ (opens _ g chain i low there wait) say all = meet_opened v _ g chain i low there wait say (opens v g chain i low there wait) refl refl all

  all_meet : (m : M) (o w : World F M) → o ≡ opening m → Leads l p o w → Meetings w
  all_meet m o _ e (here _) = λ before behind g is. absurd (not_empty before (Opened g) behind (sym is ∙ ap (λ z. z.log) e))
  all_meet m o w e (onward _ v _ run move) = meet_next v w move (all_say m o v e run) (all_meet m o v e run)

  pub groups_meet : (m : M) → GroupsMeet l p m
  groups_meet m w run = all_meet m (opening m) w refl run
