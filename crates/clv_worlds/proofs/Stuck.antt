-- No world is stuck: where neither an item's move nor the release of a group can be made, all have ended or something is wrong.
use Rattle.std.proofs.Common.{◌≡◌, ℕ, zero, suc, ◌<◌, ◌⊎◌, inl, inr, List, Bool, true, false, Option, Some, None, refl, subst, arith}
use Rattle.std.proofs.lemmas.Bool.{cases_eq}
use Rattle.clv_steps.specs.Machines.{Status, Runs, Asks, Ends, Fails}
use Rattle.clv_worlds.specs.Worlds.{Shared, Program, World, state, WaitsAt, AsksMemory, own, does, takes, opens, fails, denied, mismatched, IsStuck}

-- Where each of the first n is one or the other, one of them is the one, or all are the other.
one_or_all : {A B : ℕ → Type 0} (n : ℕ) → ((i : ℕ) → i < n → A i ⊎ B i) → ((i : ℕ) × (i < n) × A i) ⊎ ((i : ℕ) → i < n → B i)
one_or_all zero each = inr (λ i low. absurd (omega (arith, low)))
one_or_all {A = A} {B = B} (suc n) each = elim (each n (omega arith)) [
  | inl one ↦ inl (n, omega arith, one)
  | inr last ↦ elim (one_or_all {A = A} {B = B} n (λ i low. each i (omega (arith, low)))) [
    | inl one ↦ inl (one.0, (let low = one.1 in omega (arith, low)), one.2)
    | inr all ↦ inr (λ i low. elim (cases_eq n i) [
      | inl e ↦ subst B e last
      | inr other ↦ all i (omega (arith, low, other))
    ])
  ]
]

module _ {S E F M : Type 0} (l : Shared F M) (p : Program S E F) (w : World F M) (stuck : IsStuck l p w) where
  abbrev Waits : ℕ → Type 0
  Waits i = (chain : List ℕ) × WaitsAt p w i chain

  abbrev HasEnded : ℕ → Type 0
  HasEnded i = (p.machine i).status (state p w i) ≡ Ends

  -- what the memory is asked it answers, or the program takes any answer, or something is wrong
  not_asked_taken : (i : ℕ) (e : E) → i < l.count → AsksMemory p w i e → l.denies i (p.word e) w.memory ≡ true → (b : Bool) → p.takes_any ≡ b → ⊥
  not_asked_taken i e low asks denies true any = stuck.no_move _ (takes w i e 0 low asks denies any)
  not_asked_taken i e low asks denies false any = stuck.not_wrong (denied i e low asks denies any)

  not_asked : (i : ℕ) (e : E) → i < l.count → AsksMemory p w i e → (b : Bool) → l.denies i (p.word e) w.memory ≡ b → ⊥
  not_asked i e low asks false denies = stuck.no_move _ (does w i e low asks denies)
  not_asked i e low asks true denies = not_asked_taken i e low asks denies p.takes_any refl

  asks_gate : (i : ℕ) (e : E) → i < l.count → (p.machine i).status (state p w i) ≡ Asks e → (g : Option (List ℕ)) → p.gate e ≡ g → Waits i
  asks_gate i e low asks (Some chain) gate = (chain, record { event = e; asks = asks; gate = gate })
  asks_gate i e low asks None gate = absurd (not_asked i e low (record { asks = asks; gate = gate }) (l.denies i (p.word e) w.memory) refl)

  at_status : (i : ℕ) → i < l.count → (s : Status E) → (p.machine i).status (state p w i) ≡ s → Waits i ⊎ HasEnded i
  at_status i low Runs is = absurd (stuck.no_move _ (own w i 0 low is))
  at_status i low (Asks e) is = inl (asks_gate i e low is (p.gate e) refl)
  at_status i low Ends is = inr is
  at_status i low Fails is = absurd (stuck.not_wrong (fails i low is))

  each_item : (i : ℕ) → i < l.count → Waits i ⊎ HasEnded i
  each_item i low = at_status i low ((p.machine i).status (state p w i)) refl

  -- the group of an item that waits can't be released, so it is mismatched
  not_waiting : (i : ℕ) → i < l.count → Waits i → ⊥
  not_waiting i low waits = stuck.not_wrong (mismatched (l.group i) (record {
    each = λ j j_low same. each_item j j_low;
    one = (i, low, refl, waits.0, waits.1);
    not_all = λ chain all. stuck.no_move _ (opens w (l.group i) chain i low refl all);
  }))

  pub not_stuck : ⊥
  not_stuck = elim (one_or_all {A = Waits} {B = HasEnded} l.count each_item) [
    | inl one ↦ not_waiting one.0 one.1 one.2
    | inr all ↦ stuck.not_complete all
  ]
