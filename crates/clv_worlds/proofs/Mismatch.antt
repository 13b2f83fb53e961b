-- Items that don't meet at a barrier of the target don't meet in the source.
use Rattle.std.proofs.Common.{◌≡◌, ℕ, ◌<◌, inl, inr, List, Some, sym, ap, ◌∙◌, subst}
use Rattle.clv_steps.specs.Machines.{Asks}
use Rattle.clv_steps.specs.Runs.{Matches}
use Rattle.clv_worlds.specs.Worlds.{Shared, Program, World, state, WaitsAt, IsMismatched}
use Rattle.clv_worlds.specs.Simulation.{Serves}
use Rattle.clv_steps.proofs.Statuses.{asks_same, asks_ends, matches_asks, matches_ends}

module _ {S T E D F G M N : Type 0} (l : Shared F M) (k : Shared G N) (a : Program S E F) (b : Program T D G) (word : E → D) (across : F → G) (holds : M → N → Type 0) (worth : ℕ) (s : Serves l k a b word across holds worth) (u : World F M) (v : World G N) (stands : (i : ℕ) → i < l.count → Matches word ((a.machine i).status (state a u i)) ((b.machine i).status (state b v i))) where
  -- the question of the source at which the target's item waits
  record Meets (i : ℕ) (chain : List ℕ) : Type 0 where
    event : E
    asks : (a.machine i).status (state a u i) ≡ Asks event
    gate : b.gate (word event) ≡ Some chain

  meets : (i : ℕ) (chain : List ℕ) → i < l.count → WaitsAt b v i chain → Meets i chain
  meets i chain low w = let n = matches_asks word _ _ w.event w.asks (stands i low) in record { event = n.0; asks = n.1; gate = ap b.gate (sym n.2) ∙ w.gate }

  pub waits_too : (i : ℕ) (chain : List ℕ) → i < l.count → WaitsAt b v i chain → WaitsAt a u i (s.chain chain)
  waits_too i chain low w = let n = meets i chain low w in record { event = n.event; asks = n.asks; gate = s.meets n.event chain n.gate }

  -- two items that wait at one barrier in the source wait at one in the target
  one_chain : (i j : ℕ) (chain chain2 chain3 : List ℕ) → Meets i chain → Meets j chain2 → WaitsAt a u i chain3 → WaitsAt a u j chain3 → chain ≡ chain2
  one_chain i j chain chain2 chain3 n n2 w w2 =
      let same = ap a.gate (asks_same _ n.event w.event n.asks w.asks) ∙ w.gate in
      let same2 = ap a.gate (asks_same _ n2.event w2.event n2.asks w2.asks) ∙ w2.gate in
      s.tells n.event n2.event chain chain2 (same ∙ sym same2) n.gate n2.gate

  in_source : (i : ℕ) → i < k.count → i < l.count
  in_source i low = subst (λ c. i < c) (sym s.count) low

  in_target : (i : ℕ) → i < l.count → i < k.count
  in_target i low = subst (λ c. i < c) s.count low

  pub mismatch : (g : ℕ) → IsMismatched k b v g → IsMismatched l a u g
  mismatch g h =
      let first = h.one.0 in
      let first_low = in_source first h.one.1 in
      let first_there = s.group first ∙ h.one.2 in
      let first_chain = h.one.3 in
      record {
        each = λ i low here. elim (h.each i (in_target i low) (sym (s.group i) ∙ here)) [ inl w ↦ inl (s.chain w.0, waits_too i w.0 low w.1) | inr e ↦ inr (matches_ends word _ _ e (stands i low)) ];
        one = (first, first_low, first_there, s.chain first_chain, waits_too first first_chain first_low h.one.4);
        not_all = λ chain all. h.not_all first_chain (λ i t_low t_here.
            let low = in_source i t_low in
            let w = all i low (s.group i ∙ t_here) in
            elim (h.each i t_low t_here) [
              | inl q ↦ subst (WaitsAt b v i) (one_chain i first q.0 first_chain chain (meets i q.0 low q.1) (meets first first_chain first_low h.one.4) w (all first first_low first_there)) q.1
              | inr e ↦ absurd (asks_ends _ w.event w.asks (matches_ends word _ _ e (stands i low)))
            ]);
      }
