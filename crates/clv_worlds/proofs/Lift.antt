-- From items to worlds: beside each run of the target is one of the source, in which each item stands as the target's does.
use Rattle.std.proofs.Common.{◌≡◌, ℕ, zero, suc, ◌<◌, ◌≤◌, ◌⊎◌, inl, inr, Bool, true, false, List, [], ◌∷◌, ◌++◌, refl, sym, ap, ◌∙◌, subst, arith, append_assoc}
use Rattle.std.proofs.lemmas.Bool.{cases_eq, cases_lt}
use Rattle.std.proofs.lemmas.List.{append-nil}
use Rattle.clv_steps.specs.Machines.{Runs, Asks, Fails, after, told_by, told, IsLive, IsLegal, in_words}
use Rattle.clv_steps.specs.Runs.{Matches, Broke, counted, valued, Keeps}
use Rattle.clv_steps.proofs.Append.{after_append, told_append, legal_append, legal_behind, words_append}
use Rattle.clv_worlds.specs.Worlds.{pick, with_item, freed, Shared, Program, Entry, Did, Opened, World, state, WaitsAt, AsksMemory, answered, Moves, own, does, takes, opens, Leads, here, onward, opening, IsDefined, fails, denied}
use Rattle.clv_worlds.specs.Simulation.{entry_in, log_in, Alike, Serves}
use Rattle.clv_worlds.proofs.Picks.{pick_same, pick_other, pick_either, pick_pairs, none_behind, front_behind}
use Rattle.clv_steps.proofs.Statuses.{asks_fails, matches_asks, words_none, runs_of}

pub onto : {S E F M : Type 0} (l : Shared F M) (p : Program S E F) (u v w : World F M) → Leads l p u v → Leads l p v w → Leads l p u w
onto l p u v _ g (here w) = g
onto l p u v _ g (onward _ x y h m) = onward u x y (onto l p u v x g h) m

not_true : (b : Bool) → (b ≡ true → ⊥) → b ≡ false
not_true true h = absurd (h refl)
not_true false h = refl

-- what was seen behind something else
seen_behind : {F G : Type 0} (across : F → G) (xs ys : List (Entry F)) → log_in across (xs ++ ys) ≡ log_in across xs ++ log_in across ys
seen_behind across [] ys = refl
seen_behind across (x ∷ xs) ys = ap (λ z. entry_in across x ∷ z) (seen_behind across xs ys)

-- A world of the source in which each item keeps up with the target's.
pub record Beside {S T E D F G M N : Type 0} (l : Shared F M) (k : Shared G N) (a : Program S E F) (b : Program T D G) (word : E → D) (across : F → G) (holds : M → N → Type 0) (worth : ℕ) (m : M) (v : World G N) : Type 0 where
  pub world : World F M
  pub run : Leads l a (opening m) world
  pub memory : holds world.memory v.memory
  pub log : v.log ≡ log_in across world.log
  pub legal : (i : ℕ) → i < l.count → IsLegal (a.machine i) (world.items i) (a.start i)
  pub keeps : (i : ℕ) → i < l.count → Keeps (a.machine i) (b.machine i) word (valued a.weight worth) (counted b.weight) (a.start i) (b.start i) (world.items i) (v.items i)

module _ {S T E D F G M N : Type 0} (l : Shared F M) (k : Shared G N) (a : Program S E F) (b : Program T D G) (word : E → D) (across : F → G) (holds : M → N → Type 0) (worth : ℕ) (s : Serves l k a b word across holds worth) (m : M) (n : N) (at_first_alike : holds m n) (defined : IsDefined l a m) where
  -- what is known of a choice of an item's histories
  record Chooses (i : ℕ) (choose : List ℕ → List ℕ) : Type 0 where
    grows : (h : List ℕ) (x : ℕ) → (more : List ℕ) × (choose (h ++ x ∷ []) ≡ choose h ++ more)
    legal : (h : List ℕ) → IsLegal (b.machine i) h (b.start i) → IsLegal (a.machine i) (choose h) (a.start i)
    serves : (h : List ℕ) → IsLegal (b.machine i) h (b.start i) → Broke (a.machine i) (b.machine i) word (a.start i) (b.start i) (choose h) h ⊎ Keeps (a.machine i) (b.machine i) word (valued a.weight worth) (counted b.weight) (a.start i) (b.start i) (choose h) h

  choice : (i : ℕ) → (choose : List ℕ → List ℕ) × (i < l.count → Chooses i choose)
  choice i = elim (cases_lt i l.count) [
    | inl low ↦ (let f = s.follows i low in (f.choose, λ here_low. record { grows = f.grows; legal = f.legal; serves = f.serves }))
    | inr high ↦ (λ h. [], λ low. absurd (omega (arith, low, high)))
  ]

  chosen : ℕ → List ℕ → List ℕ
  chosen i = (choice i).0

  chooses : (i : ℕ) → i < l.count → Chooses i (chosen i)
  unfolding chosen
  chooses i = (choice i).1

  -- the source's item has not made all of its moves yet, but asks nothing in the rest
  record Behind (i : ℕ) (h p : List ℕ) : Type 0 where
    rest : List ℕ
    is : chosen i h ≡ p ++ rest
    unasked : told (a.machine i) rest (after (a.machine i) p (a.start i)) ≡ []

  record Close (u : World F M) (v : World G N) : Type 0 where
    memory : holds u.memory v.memory
    log : v.log ≡ log_in across u.log
    legal : (i : ℕ) → i < l.count → IsLegal (b.machine i) (v.items i) (b.start i)
    behind : (i : ℕ) → i < l.count → Behind i (v.items i) (u.items i)

  record Equal (u : World F M) (v : World G N) : Type 0 where
    memory : holds u.memory v.memory
    log : v.log ≡ log_in across u.log
    legal : (i : ℕ) → i < l.count → IsLegal (b.machine i) (v.items i) (b.start i)
    items : (i : ℕ) → i < l.count → u.items i ≡ chosen i (v.items i)

  -- an item makes moves that ask nothing
  record Ran (u : World F M) (i : ℕ) (rest : List ℕ) : Type 0 where
    world : World F M
    run : Leads l a u world
    memory : world.memory ≡ u.memory
    log : world.log ≡ u.log
    at : world.items i ≡ u.items i ++ rest
    others : (j : ℕ) → (i ≡ j → ⊥) → world.items j ≡ u.items j

  ran : (rest : List ℕ) (u : World F M) (i : ℕ) → i < l.count → IsLegal (a.machine i) rest (state a u i) → told (a.machine i) rest (state a u i) ≡ [] → Ran u i rest
  ran [] u i low legal unasked = record { world = u; run = here u; memory = refl; log = refl; at = sym (append-nil (u.items i)); others = λ j e. refl }
  ran (x ∷ rest) u i low legal unasked =
      let st = (a.machine i).status (state a u i) in
      let then = (a.machine i).next x (state a u i) in
      let runs : st ≡ Runs = runs_of st x (told (a.machine i) rest then) legal.0 unasked in
      let mid : World F M = record { memory = u.memory; items = with_item i (u.items i ++ x ∷ []) u.items; log = u.log } in
      let is : mid.items i ≡ u.items i ++ x ∷ [] = pick_same i _ _ in
      let there : state a mid i ≡ then = ap (λ h. after (a.machine i) h (a.start i)) is ∙ after_append (a.machine i) (u.items i) (x ∷ []) (a.start i) in
      let none : told (a.machine i) rest then ≡ [] = ap (λ z. told_by z x ++ told (a.machine i) rest then) (sym runs) ∙ unasked in
      let r = ran rest mid i low (subst (IsLegal (a.machine i) rest) (sym there) legal.1) (ap (told (a.machine i) rest) there ∙ none) in
      record {
        world = r.world;
        run = onto l a u mid r.world (onward u u mid (here u) (own u i x low runs)) r.run;
        memory = r.memory;
        log = r.log;
        at = r.at ∙ ap (λ h. h ++ rest) is ∙ append_assoc (u.items i) (x ∷ []) rest;
        others = λ j e. r.others j e ∙ pick_other i j _ _ e;
      }

  -- the first top items have made all of their moves
  record Caught (top : ℕ) (u : World F M) (v : World G N) : Type 0 where
    world : World F M
    run : Leads l a u world
    memory : world.memory ≡ u.memory
    log : world.log ≡ u.log
    done : (i : ℕ) → i < l.count → i < top → world.items i ≡ chosen i (v.items i)
    rest : (i : ℕ) → top ≤ i → world.items i ≡ u.items i

  caught : (top : ℕ) (u : World F M) (v : World G N) → top ≤ l.count → Close u v → Caught top u v
  caught zero u v most c = record { world = u; run = here u; memory = refl; log = refl; done = λ i low z. absurd (omega (arith, z)); rest = λ i z. refl }
  caught (suc top) u v most c =
      let q = caught top u v (omega (arith, most)) c in
      let low : top < l.count = omega (arith, most) in
      let z = c.behind top low in
      let same : state a q.world top ≡ after (a.machine top) (u.items top) (a.start top) = ap (λ h. after (a.machine top) h (a.start top)) (q.rest top (omega arith)) in
      let whole : IsLegal (a.machine top) (u.items top ++ z.rest) (a.start top) = subst (λ h. IsLegal (a.machine top) h (a.start top)) z.is ((chooses top low).legal (v.items top) (c.legal top low)) in
      let legal = subst (IsLegal (a.machine top) z.rest) (sym same) (legal_behind (a.machine top) (u.items top) z.rest (a.start top) whole) in
      let r = ran z.rest q.world top low legal (ap (told (a.machine top) z.rest) same ∙ z.unasked) in
      record {
        world = r.world;
        run = onto l a u q.world r.world q.run r.run;
        memory = r.memory ∙ q.memory;
        log = r.log ∙ q.log;
        done = λ i here_low less. elim (cases_eq top i) [
          | inl e ↦ subst (λ j. r.world.items j ≡ chosen j (v.items j)) e (r.at ∙ ap (λ h. h ++ z.rest) (q.rest top (omega arith)) ∙ sym z.is)
          | inr other ↦ r.others i other ∙ q.done i here_low (omega (arith, less, other))
        ];
        rest = λ i high. r.others i (λ e. omega (arith, e, high)) ∙ q.rest i (omega (arith, high));
      }

  equal : (u : World F M) (v : World G N) → (c : Close u v) → Equal (caught l.count u v (omega arith) c).world v
  equal u v c =
      let q = caught l.count u v (omega arith) c in
      record { memory = subst (λ z. holds z v.memory) (sym q.memory) c.memory; log = c.log ∙ ap (log_in across) (sym q.log); legal = c.legal; items = λ i low. q.done i low low }

  -- what the served moment says, in either case
  record Asked (i : ℕ) (h : List ℕ) : Type 0 where
    rest : List (D × ℕ)
    asked : told (b.machine i) h (b.start i) ≡ in_words word (told (a.machine i) (chosen i h) (a.start i)) ++ rest
    why : (rest ≡ []) ⊎ ((a.machine i).status (after (a.machine i) (chosen i h) (a.start i)) ≡ Fails)

  asked_at : (i : ℕ) (h : List ℕ) → i < l.count → IsLegal (b.machine i) h (b.start i) → Asked i h
  asked_at i h low legal = elim ((chooses i low).serves h legal) [
    | inl w ↦ record { rest = w.more; asked = w.asked; why = inr w.fails }
    | inr k ↦ record { rest = []; asked = k.asked ∙ sym (append-nil _); why = inl refl }
  ]

  kept_at : (u : World F M) (v : World G N) (i : ℕ) → Leads l a (opening m) u → i < l.count → Equal u v → Keeps (a.machine i) (b.machine i) word (valued a.weight worth) (counted b.weight) (a.start i) (b.start i) (u.items i) (v.items i)
  kept_at u v i run low e = subst (λ g. Keeps (a.machine i) (b.machine i) word (valued a.weight worth) (counted b.weight) (a.start i) (b.start i) g (v.items i)) (sym (e.items i low)) (elim ((chooses i low).serves (v.items i) (e.legal i low)) [
    | inl w ↦ absurd (defined u run (fails i low (ap (λ g. (a.machine i).status (after (a.machine i) g (a.start i))) (e.items i low) ∙ w.fails)))
    | inr k ↦ k
  ])

  behind_same : (u : World F M) (v : World G N) (i : ℕ) → i < l.count → Equal u v → Behind i (v.items i) (u.items i)
  behind_same u v i low e = record { rest = []; is = sym (e.items i low) ∙ sym (append-nil (u.items i)); unasked = refl }

  -- what one more move of the target's item adds to what was asked
  record Grown (u : World F M) (v : World G N) (i x : ℕ) : Type 0 where
    more : List ℕ
    is : chosen i (v.items i ++ x ∷ []) ≡ u.items i ++ more
    rest : List (D × ℕ)
    adds : told_by ((b.machine i).status (state b v i)) x ≡ in_words word (told (a.machine i) more (state a u i)) ++ rest
    why : (rest ≡ []) ⊎ ((a.machine i).status (after (a.machine i) (u.items i ++ more) (a.start i)) ≡ Fails)

  grown : (u : World F M) (v : World G N) (i x : ℕ) → Leads l a (opening m) u → i < l.count → Equal u v → IsLegal (b.machine i) (v.items i ++ x ∷ []) (b.start i) → Grown u v i x
  grown u v i x run low e legal =
      let k = kept_at u v i run low e in
      let g = (chooses i low).grows (v.items i) x in
      let is : chosen i (v.items i ++ x ∷ []) ≡ u.items i ++ g.0 = g.1 ∙ ap (λ z. z ++ g.0) (sym (e.items i low)) in
      let q = asked_at i (v.items i ++ x ∷ []) low legal in
      let st = (b.machine i).status (state b v i) in
      let old = told (a.machine i) (u.items i) (a.start i) in
      let new = told (a.machine i) g.0 (state a u i) in
      let both : in_words word (told (a.machine i) (chosen i (v.items i ++ x ∷ [])) (a.start i)) ≡ in_words word old ++ in_words word new = ap (λ z. in_words word (told (a.machine i) z (a.start i))) is ∙ ap (in_words word) (told_append (a.machine i) (u.items i) g.0 (a.start i)) ∙ words_append word old new in
      let same : told (b.machine i) (v.items i ++ x ∷ []) (b.start i) ≡ in_words word old ++ told_by st x = told_append (b.machine i) (v.items i) (x ∷ []) (b.start i) ∙ ap (λ z. told (b.machine i) (v.items i) (b.start i) ++ z) (append-nil (told_by st x)) ∙ ap (λ z. z ++ told_by st x) k.asked in
      let all : in_words word old ++ told_by st x ≡ in_words word old ++ (in_words word new ++ q.rest) = sym same ∙ q.asked ∙ ap (λ z. z ++ q.rest) both ∙ append_assoc (in_words word old) (in_words word new) q.rest in
      record {
        more = g.0;
        is = is;
        rest = q.rest;
        adds = front_behind (in_words word old) _ _ all;
        why = subst (λ z. (q.rest ≡ []) ⊎ ((a.machine i).status (after (a.machine i) z (a.start i)) ≡ Fails)) is q.why;
      }

  -- the target's item made a move of its own
  behind_own : (u : World F M) (v : World G N) (i x : ℕ) → Leads l a (opening m) u → i < l.count → Equal u v → IsLegal (b.machine i) (v.items i ++ x ∷ []) (b.start i) → (b.machine i).status (state b v i) ≡ Runs → Behind i (v.items i ++ x ∷ []) (u.items i)
  behind_own u v i x run low e legal runs =
      let g = grown u v i x run low e legal in
      record { rest = g.more; is = g.is; unasked = words_none word _ (none_behind [] _ g.rest (ap (λ z. told_by z x) (sym runs) ∙ g.adds)) }

  -- what the source's item does at an answer
  at_answer : (i x : ℕ) (f : D) (e : E) (p more : List ℕ) (rest : List (D × ℕ)) → (a.machine i).status (after (a.machine i) p (a.start i)) ≡ Asks e → (f, x) ∷ [] ≡ in_words word (told (a.machine i) more (after (a.machine i) p (a.start i))) ++ rest → (rest ≡ []) ⊎ ((a.machine i).status (after (a.machine i) (p ++ more) (a.start i)) ≡ Fails) → (after_it : List ℕ) × (more ≡ x ∷ after_it) × (told (a.machine i) after_it (after (a.machine i) (p ++ x ∷ []) (a.start i)) ≡ [])
  at_answer i x f e p [] rest asks same why = absurd (elim why [
    | inl none_left ↦ (let k : (f, x) ∷ [] ≡ [] = same ∙ none_left in cc)
    | inr undefined ↦ asks_fails _ e asks (ap (λ z. (a.machine i).status (after (a.machine i) z (a.start i))) (sym (append-nil p)) ∙ undefined)
  ])
  at_answer i x f e p (y ∷ more) rest asks same why =
      let here = after (a.machine i) p (a.start i) in
      let told_after = told (a.machine i) more ((a.machine i).next y here) in
      let k : (f, x) ∷ [] ≡ (word e, y) ∷ (in_words word told_after ++ rest) = same ∙ ap (λ z. in_words word (told_by z y ++ told_after) ++ rest) asks in
      let heads : ◌≡◌ {A = D × ℕ} (f, x) (word e, y) = cc in
      let tails : [] ≡ in_words word told_after ++ rest = cc in
      let number : x ≡ y = ap (λ z. z.1) heads in
      let unasked : told_after ≡ [] = words_none word told_after (none_behind [] _ rest tails) in
      let there : after (a.machine i) (p ++ x ∷ []) (a.start i) ≡ (a.machine i).next y here = after_append (a.machine i) p (x ∷ []) (a.start i) ∙ ap (λ z. (a.machine i).next z here) number in
      (more, ap (λ z. z ∷ more) (sym number), ap (told (a.machine i) more) there ∙ unasked)

  behind_asked : (u : World F M) (v : World G N) (i x : ℕ) (f : D) (e : E) → Leads l a (opening m) u → i < l.count → Equal u v → IsLegal (b.machine i) (v.items i ++ x ∷ []) (b.start i) → (b.machine i).status (state b v i) ≡ Asks f → (a.machine i).status (state a u i) ≡ Asks e → Behind i (v.items i ++ x ∷ []) (u.items i ++ x ∷ [])
  behind_asked u v i x f e run low eq legal asks asks_a =
      let g = grown u v i x run low eq legal in
      let n = at_answer i x f e (u.items i) g.more g.rest asks_a (ap (λ z. told_by z x) (sym asks) ∙ g.adds) g.why in
      record { rest = n.0; is = g.is ∙ ap (λ z. u.items i ++ z) n.1 ∙ sym (append_assoc (u.items i) (x ∷ []) n.0); unasked = n.2 }

  -- one more move is legal where the item makes a move or asks
  legal_more : (v : World G N) (i x : ℕ) → IsLegal (b.machine i) (v.items i) (b.start i) → IsLive ((b.machine i).status (state b v i)) → IsLegal (b.machine i) (v.items i ++ x ∷ []) (b.start i)
  legal_more v i x legal live = legal_append (b.machine i) (v.items i) (x ∷ []) (b.start i) legal (live, tt)

  -- all items' histories are legal still where one has grown
  legal_items : (u : World F M) (v : World G N) (i : ℕ) (h : List ℕ) → Equal u v → IsLegal (b.machine i) h (b.start i) → (j : ℕ) → j < l.count → IsLegal (b.machine j) (with_item i h v.items j) (b.start j)
  legal_items u v i h eq legal j low = pick_either (λ g. IsLegal (b.machine j) g (b.start j)) i j _ _ (λ e. subst (λ k. IsLegal (b.machine k) h (b.start k)) e legal) (λ other. eq.legal j low)

  record Followed (u : World F M) (v : World G N) : Type 0 where
    world : World F M
    run : Leads l a u world
    equal_to : Equal world v

  -- a first move of the source's world, and then each item's
  closed : (u u1 : World F M) (v : World G N) → Leads l a u u1 → Close u1 v → Followed u v
  closed u u1 v run c =
      let q = caught l.count u1 v (omega arith) c in
      record { world = q.world; run = onto l a u u1 q.world run q.run; equal_to = equal u1 v c }

  move_own : (u : World F M) (v : World G N) (i x : ℕ) → Leads l a (opening m) u → Equal u v → i < l.count → (b.machine i).status (state b v i) ≡ Runs → Followed u (record { memory = v.memory; items = with_item i (v.items i ++ x ∷ []) v.items; log = v.log })
  move_own u v i x run eq low runs =
      let legal = legal_more v i x (eq.legal i low) (subst IsLive (sym runs) tt) in
      let z = behind_own u v i x run low eq legal runs in
      closed u u _ (here u) (record {
        memory = eq.memory;
        log = eq.log;
        legal = legal_items u v i (v.items i ++ x ∷ []) eq legal;
        behind = λ j j_low. pick_either (λ h. Behind j h (u.items j)) i j _ _ (λ e. subst (λ k. Behind k (v.items i ++ x ∷ []) (u.items k)) e z) (λ other. behind_same u v j j_low eq);
      })

  -- the source's item has made moves that it can make
  source_legal : (u : World F M) (v : World G N) (i : ℕ) → Equal u v → i < l.count → IsLegal (a.machine i) (u.items i) (a.start i)
  source_legal u v i eq low = subst (λ h. IsLegal (a.machine i) h (a.start i)) (sym (eq.items i low)) ((chooses i low).legal (v.items i) (eq.legal i low))

  -- what the target's item asks of its memory the source's asks too
  record AskedToo (u : World F M) (v : World G N) (i : ℕ) (f : D) : Type 0 where
    event : E
    asks : AsksMemory a u i event
    words : across (a.word event) ≡ b.word f
    alike : Alike l k holds i (a.word event) (b.word f) u.memory v.memory

  asked_too : (u : World F M) (v : World G N) (i : ℕ) (f : D) → i < l.count → IsLegal (a.machine i) (u.items i) (a.start i) → holds u.memory v.memory → Matches word ((a.machine i).status (state a u i)) ((b.machine i).status (state b v i)) → AsksMemory b v i f → AskedToo u v i f
  asked_too u v i f low legal beside stands asks =
      let q = matches_asks word _ _ f asks.asks stands in
      let gate = s.open_gate q.0 (ap b.gate (sym q.2) ∙ asks.gate) in
      record {
        event = q.0;
        asks = record { asks = q.1; gate = gate };
        words = s.words q.0 ∙ ap b.word (sym q.2);
        alike = subst (λ z. Alike l k holds i (a.word q.0) (b.word z) u.memory v.memory) (sym q.2) (s.alike i q.0 u.memory v.memory low (record { history = u.items i; legal = legal; asks = q.1 }) gate beside);
      }

  -- the target never asks what its memory denies
  pub not_denied : (u : World F M) (v : World G N) (i : ℕ) (f : D) → Leads l a (opening m) u → i < l.count → IsLegal (a.machine i) (u.items i) (a.start i) → holds u.memory v.memory → Matches word ((a.machine i).status (state a u i)) ((b.machine i).status (state b v i)) → AsksMemory b v i f → k.denies i (b.word f) v.memory ≡ true → ⊥
  not_denied u v i f run low legal beside stands asks denies =
      let q = asked_too u v i f low legal beside stands asks in
      defined u run (denied i q.event low q.asks (q.alike.denies denies) s.denied)

  move_does : (u : World F M) (v : World G N) (i : ℕ) (f : D) → Leads l a (opening m) u → Equal u v → i < l.count → AsksMemory b v i f → Followed u (answered k b v i f (k.reply i (b.word f) v.memory))
  move_does u v i f run eq low asks =
      let q = asked_too u v i f low (source_legal u v i eq low) eq.memory (kept_at u v i run low eq).stands asks in
      let e = q.event in
      let x = k.reply i (b.word f) v.memory in
      let y = l.reply i (a.word e) u.memory in
      let grants = not_true (l.denies i (a.word e) u.memory) (λ denies. defined u run (denied i e low q.asks denies s.denied)) in
      let reply : y ≡ x = q.alike.reply grants in
      let u1 = answered l a u i e y in
      let legal = legal_more v i x (eq.legal i low) (subst IsLive (sym asks.asks) tt) in
      let z = behind_asked u v i x f e run low eq legal asks.asks q.asks.asks in
      let same_answer : Behind i (v.items i ++ x ∷ []) (u.items i ++ y ∷ []) = subst (λ c. Behind i (v.items i ++ x ∷ []) (u.items i ++ c ∷ [])) (sym reply) z in
      closed u u1 _ (onward u u u1 (here u) (does u i e low q.asks grants)) (record {
        memory = subst (λ c. holds (l.leave i (a.word e) y u.memory) (k.leave i (b.word f) c v.memory)) reply (q.alike.leave grants);
        log = ap (λ c. c ++ Did i (b.word f) x ∷ []) eq.log ∙ ap (λ c. log_in across u.log ++ Did i (b.word f) c ∷ []) (sym reply) ∙ ap (λ c. log_in across u.log ++ Did i c y ∷ []) (sym q.words) ∙ sym (seen_behind across u.log (Did i (a.word e) y ∷ []));
        legal = legal_items u v i (v.items i ++ x ∷ []) eq legal;
        behind = λ j j_low. pick_pairs (Behind j) i j _ _ _ _ (λ here_too. subst (λ c. Behind c (v.items i ++ x ∷ []) (u.items i ++ y ∷ [])) here_too same_answer) (λ other. behind_same u v j j_low eq);
      })

  move_opens : (u : World F M) (v : World G N) (g : ℕ) (chain : List ℕ) (i : ℕ) → Leads l a (opening m) u → Equal u v → i < l.count → l.group i ≡ g → ((j : ℕ) → j < l.count → l.group j ≡ g → WaitsAt b v j chain) → Followed u (record { memory = v.memory; items = freed k.group g v.items; log = v.log ++ Opened g ∷ [] })
  move_opens u v g chain i run eq i_low i_there wait =
      let asks_in : (j : ℕ) (low : j < l.count) (w : WaitsAt b v j chain) → (e : E) × ((a.machine j).status (state a u j) ≡ Asks e) × (w.event ≡ word e) = λ j low w. matches_asks word _ _ w.event w.asks (kept_at u v j run low eq).stands in
      let waits_in : (j : ℕ) → j < l.count → l.group j ≡ g → WaitsAt a u j (s.chain chain) = λ j low there. (let w = wait j low there in let q = asks_in j low w in record { event = q.0; asks = q.1; gate = s.meets q.0 chain (ap b.gate (sym q.2) ∙ w.gate) }) in
      let legal_in : (j : ℕ) → j < l.count → l.group j ≡ g → IsLegal (b.machine j) (v.items j ++ 0 ∷ []) (b.start j) = λ j low there. legal_more v j 0 (eq.legal j low) (subst IsLive (sym (wait j low there).asks) tt) in
      let u1 : World F M = record { memory = u.memory; items = freed l.group g u.items; log = u.log ++ Opened g ∷ [] } in
      closed u u1 _ (onward u u u1 (here u) (opens u g (s.chain chain) i i_low i_there waits_in)) (record {
        memory = eq.memory;
        log = ap (λ c. c ++ Opened g ∷ []) eq.log ∙ sym (seen_behind across u.log (Opened g ∷ []));
        legal = λ j low. pick_either (λ h. IsLegal (b.machine j) h (b.start j)) (k.group j) g _ _ (λ there. legal_in j low (s.group j ∙ there)) (λ other. eq.legal j low);
        behind = λ j low. subst (λ c. Behind j (pick c g (v.items j ++ 0 ∷ []) (v.items j)) (pick (l.group j) g (u.items j ++ 0 ∷ []) (u.items j))) (s.group j) (pick_pairs (Behind j) (l.group j) g _ _ _ _ (λ there.
            let w = wait j low there in
            let q = asks_in j low w in
            behind_asked u v j 0 w.event q.0 run low eq (legal_in j low there) w.asks q.1) (λ other. behind_same u v j low eq));
      })

  -- the launches have the same items in the same groups
  in_source : (i : ℕ) → i < k.count → i < l.count
  in_source i low = subst (λ c. i < c) (sym s.count) low

  in_target : (i : ℕ) → i < l.count → i < k.count
  in_target i low = subst (λ c. i < c) s.count low

  one_move : (u : World F M) (v w : World G N) → Leads l a (opening m) u → Equal u v → Moves k b v w → Followed u w
  one_move u v _ run eq (own _ i x low runs) = move_own u v i x run eq (in_source i low) runs
  one_move u v _ run eq (does _ i f low asks grants) = move_does u v i f run eq (in_source i low) asks
  one_move u v _ run eq (takes _ i f x low asks denies any) = absurd (not_denied u v i f run (in_source i low) (source_legal u v i eq (in_source i low)) eq.memory (kept_at u v i run (in_source i low) eq).stands asks denies)
  one_move u v _ run eq (opens _ g chain i low there wait) = move_opens u v g chain i run eq (in_source i low) (s.group i ∙ there) (λ j j_low same. wait j (in_target j j_low) (sym (s.group j) ∙ same))

  record Reached (v : World G N) : Type 0 where
    world : World F M
    run : Leads l a (opening m) world
    equal_to : Equal world v

  at_first : Reached (opening n)
  at_first =
      let c : Close (opening m) (opening n) = record { memory = at_first_alike; log = refl; legal = λ i low. tt; behind = λ i low. (let q = asked_at i [] low tt in record { rest = chosen i []; is = refl; unasked = words_none word _ (none_behind [] _ q.rest q.asked) }) } in
      let f = closed (opening m) (opening m) (opening n) (here (opening m)) c in
      record { world = f.world; run = f.run; equal_to = f.equal_to }

  all_moves : (o v : World G N) → o ≡ opening n → Leads k b o v → Reached v
  all_moves o _ e (here _) = subst Reached (sym e) at_first
  all_moves o w e (onward _ v _ run move) =
      let q = all_moves o v e run in
      let f = one_move q.world v w q.run q.equal_to move in
      record { world = f.world; run = onto l a (opening m) q.world f.world q.run f.run; equal_to = f.equal_to }

  pub lifted : (v : World G N) → Leads k b (opening n) v → Beside l k a b word across holds worth m v
  lifted v run =
      let q = all_moves (opening n) v refl run in
      record {
        world = q.world;
        run = q.run;
        memory = q.equal_to.memory;
        log = q.equal_to.log;
        legal = λ i low. source_legal q.world v i q.equal_to low;
        keeps = λ i low. kept_at q.world v i q.run low q.equal_to;
      }
