-- From one move to whole runs.
use Rattle.std.proofs.Common.{◌≡◌, ℕ, ◌+◌, ◌≤◌, ◌⊎◌, inl, inr, List, [], ◌∷◌, ◌++◌, refl, sym, ap, ◌∙◌, subst, arith, append_assoc}
use Rattle.clv_steps.specs.Machines.{Status, Runs, Asks, Ends, Fails, Machine, after, told_by, told, IsLive, IsLegal, paid, in_words}
use Rattle.clv_steps.specs.Runs.{Matches, Broke, Meter, measured, Follows}
use Rattle.clv_steps.proofs.Append.{after_append, told_append, legal_append, paid_append, words_append}

-- What the two machines do from two states on, up to the next pair of states that R holds of. The number is what the source has paid and is not due yet: a move of the source adds to it by what that changes of the source's measure, and one of the target takes from it likewise.
pub data Goes {S T E F : Type 0} (a : Machine S E) (b : Machine T F) (word : E → F) (pay : Meter S) (due : Meter T) (R : ℕ → S → T → Type 0) : ℕ → S → T → Type 0 where
  wrong : (c : ℕ) (s : S) (t : T) → a.status s ≡ Fails → Goes a b word pay due R c s t
  ended : (c : ℕ) (s : S) (t : T) → a.status s ≡ Ends → b.status t ≡ Ends → pay.ahead s ≤ c + due.ahead t → Goes a b word pay due R c s t
  quiet : (c : ℕ) (d : ℕ → ℕ) (s : S) (t : T) → b.status t ≡ Runs → ((x : ℕ) → Goes a b word pay due R (d x) s (b.next x t)) → ((x : ℕ) → d x + (due.cost t + due.ahead (b.next x t)) ≤ c + due.ahead t) → Goes a b word pay due R c s t
  alone : (c : ℕ) (s : S) (t : T) → b.status t ≡ Runs → ((x : ℕ) → (d : ℕ) × R d s (b.next x t) × (d + (due.cost t + due.ahead (b.next x t)) ≤ c + due.ahead t)) → Goes a b word pay due R c s t
  skips : (c d x : ℕ) (s : S) (t : T) → a.status s ≡ Runs → Goes a b word pay due R d (a.next x s) t → d + pay.ahead s ≤ c + (pay.cost s + pay.ahead (a.next x s)) → Goes a b word pay due R c s t
  moves : (c : ℕ) (s : S) (t : T) → a.status s ≡ Runs → b.status t ≡ Runs → ((x : ℕ) → (y d : ℕ) × R d (a.next y s) (b.next x t) × (d + pay.ahead s + (due.cost t + due.ahead (b.next x t)) ≤ c + due.ahead t + (pay.cost s + pay.ahead (a.next y s)))) → Goes a b word pay due R c s t
  asks : (c : ℕ) (s : S) (t : T) (e : E) → a.status s ≡ Asks e → b.status t ≡ Asks (word e) → ((x : ℕ) → (d : ℕ) × R d (a.next x s) (b.next x t) × (d + pay.ahead s + (due.cost t + due.ahead (b.next x t)) ≤ c + due.ahead t + (pay.cost s + pay.ahead (a.next x s)))) → Goes a b word pay due R c s t

-- where more is left too
pub at_credit : {S T E F : Type 0} {a : Machine S E} {b : Machine T F} {word : E → F} {pay : Meter S} {due : Meter T} {R : ℕ → S → T → Type 0} {s : S} {t : T} (c d : ℕ) → c ≤ d → Goes a b word pay due R c s t → Goes a b word pay due R d s t
at_credit _ d most (wrong c s t e) = wrong d s t e
at_credit _ d most (ended c s t e f low) = ended d s t e f (omega (arith, most, low))
at_credit _ d most (quiet c left s t e f low) = quiet d left s t e f (λ x. let k = low x in omega (arith, most, k))
at_credit _ d most (alone c s t e go) = alone d s t e (λ x. let g = go x in (g.0, g.1, (let k = g.2 in omega (arith, most, k))))
at_credit _ d most (skips c left x s t e g low) = skips d left x s t e g (omega (arith, most, low))
at_credit _ d most (moves c s t e f go) = moves d s t e f (λ x. let g = go x in (g.0, g.1, g.2, (let k = g.3 in omega (arith, most, k))))
at_credit _ d most (asks c s t v e f go) = asks d s t v e f (λ x. let g = go x in (g.0, g.1, (let k = g.2 in omega (arith, most, k))))

-- what follows one move of the target
record Next {S T E F : Type 0} (a : Machine S E) (b : Machine T F) (word : E → F) (pay : Meter S) (due : Meter T) (R : ℕ → S → T → Type 0) (c : ℕ) (s : S) (t : T) (x : ℕ) : Type 0 where
  moved : List ℕ
  left : ℕ
  goes : Goes a b word pay due R left (after a moved s) (b.next x t)
  legal : IsLegal a moved s
  asked : told_by (b.status t) x ≡ in_words word (told a moved s)
  pays : left + pay.ahead s + (due.cost t + due.ahead (b.next x t)) ≤ c + due.ahead t + measured a pay moved s

-- the source has no more to do before the target's next move
data Ready {S T E F : Type 0} (a : Machine S E) (b : Machine T F) (word : E → F) (pay : Meter S) (due : Meter T) (R : ℕ → S → T → Type 0) (c : ℕ) (s : S) (t : T) : Type 0 where
  is_wrong : a.status s ≡ Fails → Ready a b word pay due R c s t
  is_over : a.status s ≡ Ends → b.status t ≡ Ends → pay.ahead s ≤ c + due.ahead t → Ready a b word pay due R c s t
  is_on : IsLive (b.status t) → Matches word (a.status s) (b.status t) → ((x : ℕ) → Next a b word pay due R c s t x) → Ready a b word pay due R c s t

record Settled {S T E F : Type 0} (a : Machine S E) (b : Machine T F) (word : E → F) (pay : Meter S) (due : Meter T) (R : ℕ → S → T → Type 0) (c : ℕ) (s : S) (t : T) : Type 0 where
  moved : List ℕ
  left : ℕ
  ready : Ready a b word pay due R left (after a moved s) t
  legal : IsLegal a moved s
  asked : told a moved s ≡ []
  pays : left + pay.ahead s ≤ c + measured a pay moved s

live_runs : {E : Type 0} (s : Status E) → s ≡ Runs → IsLive s
live_runs s e = subst IsLive (sym e) tt

live_asks : {E : Type 0} (s : Status E) (e : E) → s ≡ Asks e → IsLive s
live_asks s e h = subst IsLive (sym h) tt

told_runs : {E : Type 0} (s : Status E) (x : ℕ) → s ≡ Runs → told_by s x ≡ []
told_runs s x e = ap (λ z. told_by z x) e

told_asks : {E : Type 0} (s : Status E) (e : E) (x : ℕ) → s ≡ Asks e → told_by s x ≡ (e, x) ∷ []
told_asks s e x h = ap (λ z. told_by z x) h

settle : {S T E F : Type 0} (a : Machine S E) (b : Machine T F) (word : E → F) (pay : Meter S) (due : Meter T) (R : ℕ → S → T → Type 0) → ((c : ℕ) (s : S) (t : T) → R c s t → Goes a b word pay due R c s t) → (c : ℕ) (s : S) (t : T) → Goes a b word pay due R c s t → Settled a b word pay due R c s t
settle a b word pay due R cert _ _ _ (wrong c s t e) = record { moved = []; left = c; ready = is_wrong e; legal = tt; asked = refl; pays = omega arith }
settle a b word pay due R cert _ _ _ (ended c s t e f low) = record { moved = []; left = c; ready = is_over e f low; legal = tt; asked = refl; pays = omega arith }
settle a b word pay due R cert _ _ _ (quiet c d s t e f low) = record {
  moved = [];
  left = c;
  ready = is_on (live_runs _ e) (subst (Matches word (a.status s)) (sym e) tt) (λ x. record { moved = []; left = d x; goes = f x; legal = tt; asked = told_runs _ x e; pays = let k = low x in omega (arith, k) });
  legal = tt;
  asked = refl;
  pays = omega arith;
}
settle a b word pay due R cert _ _ _ (alone c s t e go) = record {
  moved = [];
  left = c;
  ready = is_on (live_runs _ e) (subst (Matches word (a.status s)) (sym e) tt) (λ x.
      let g = go x in
      record { moved = []; left = g.0; goes = cert _ _ _ g.1; legal = tt; asked = told_runs _ x e; pays = let k = g.2 in omega (arith, k) });
  legal = tt;
  asked = refl;
  pays = omega arith;
}
settle a b word pay due R cert _ _ _ (skips c d x s t e g low) =
    let q = settle a b word pay due R cert d (a.next x s) t g in
    record {
      moved = x ∷ q.moved;
      left = q.left;
      ready = q.ready;
      legal = (live_runs _ e, q.legal);
      asked = ap (λ l. l ++ told a q.moved (a.next x s)) (told_runs _ x e) ∙ q.asked;
      pays = let k = q.pays in omega (arith, k, low);
    }
settle a b word pay due R cert _ _ _ (moves c s t e f go) = record {
  moved = [];
  left = c;
  ready = is_on (live_runs _ f) (subst (Matches word (a.status s)) (sym f) tt) (λ x.
      let g = go x in
      record {
        moved = g.0 ∷ [];
        left = g.1;
        goes = cert _ _ _ g.2;
        legal = (live_runs _ e, tt);
        asked = told_runs _ x f ∙ sym (ap (λ l. in_words word (l ++ [])) (told_runs _ g.0 e));
        pays = let k = g.3 in omega (arith, k);
      });
  legal = tt;
  asked = refl;
  pays = omega arith;
}
settle a b word pay due R cert _ _ _ (asks c s t v e f go) = record {
  moved = [];
  left = c;
  ready = is_on (live_asks _ _ f) (subst (Matches word (a.status s)) (sym f) (v, e, refl)) (λ x.
      let g = go x in
      record {
        moved = x ∷ [];
        left = g.0;
        goes = cert _ _ _ g.1;
        legal = (live_asks _ _ e, tt);
        asked = told_asks _ _ x f ∙ sym (ap (λ l. in_words word (l ++ [])) (told_asks _ _ x e));
        pays = let k = g.2 in omega (arith, k);
      });
  legal = tt;
  asked = refl;
  pays = omega arith;
}

module _ {S T E F : Type 0} (a : Machine S E) (b : Machine T F) (word : E → F) (pay : Meter S) (due : Meter T) (R : ℕ → S → T → Type 0) (cert : (c : ℕ) (s : S) (t : T) → R c s t → Goes a b word pay due R c s t) where
  settled : (c : ℕ) (s : S) (t : T) → Goes a b word pay due R c s t → Settled a b word pay due R c s t
  settled = settle a b word pay due R cert

  -- the source's moves for the target's
  abbrev chosen : (h : List ℕ) (c : ℕ) (s : S) (t : T) → Ready a b word pay due R c s t → List ℕ
  chosen [] c s t r = []
  chosen (x ∷ h) c s t (is_wrong e) = []
  chosen (x ∷ h) c s t (is_over e f low) = []
  chosen (x ∷ h) c s t (is_on live same step) =
      let n = step x in
      let q = settled _ _ _ n.goes in
      n.moved ++ (q.moved ++ chosen h _ _ _ q.ready)

  chosen_grows : (h : List ℕ) (x c : ℕ) (s : S) (t : T) (r : Ready a b word pay due R c s t) → (more : List ℕ) × (chosen (h ++ x ∷ []) c s t r ≡ chosen h c s t r ++ more)
  chosen_grows [] x c s t r = (chosen (x ∷ []) c s t r, refl)
  chosen_grows (y ∷ h) x c s t (is_wrong e) = ([], refl)
  chosen_grows (y ∷ h) x c s t (is_over e f low) = ([], refl)
  chosen_grows (y ∷ h) x c s t (is_on live same step) =
      let n = step y in
      let q = settled _ _ _ n.goes in
      let g = chosen_grows h x _ _ _ q.ready in
      (g.0, ap (λ l. n.moved ++ (q.moved ++ l)) g.1 ∙ ap (λ l. n.moved ++ l) (sym (append_assoc q.moved (chosen h _ _ _ q.ready) g.0)) ∙ sym (append_assoc n.moved (q.moved ++ chosen h _ _ _ q.ready) g.0))

  -- where the source stands after these moves
  record Stood (c : ℕ) (s : S) (t : T) (g h : List ℕ) : Type 0 where
    asked : told b h t ≡ in_words word (told a g s)
    stands : Matches word (a.status (after a g s)) (b.status (after b h t))
    bound : measured b due h t + pay.ahead s ≤ c + due.ahead t + measured a pay g s
    ended : b.status (after b h t) ≡ Ends → paid b due.cost h t + pay.ahead s ≤ c + due.ahead t + paid a pay.cost g s

  record Kept (c : ℕ) (s : S) (t : T) (g h : List ℕ) : Type 0 where
    legal : IsLegal a g s
    serves : Broke a b word s t g h ⊎ Stood c s t g h

  -- the source makes some moves first
  kept_after : (g g2 : List ℕ) (c d : ℕ) (s : S) (t : T) (h : List ℕ) → IsLegal a g s → told a g s ≡ [] → d + pay.ahead s ≤ c + measured a pay g s → Kept d (after a g s) t g2 h → Kept c s t (g ++ g2) h
  kept_after g g2 c d s t h legal unasked pays k = record {
    legal = legal_append a g g2 s legal k.legal;
    serves =
        let same = told_append a g g2 s ∙ ap (λ l. l ++ told a g2 (after a g s)) unasked in
        let there = after_append a g g2 s in
        let costs = paid_append a pay.cost g g2 s in
        let last = ap pay.ahead there in
        elim k.serves [
          | inl w ↦ inl (record { more = w.more; asked = w.asked ∙ ap (λ l. in_words word l ++ w.more) (sym same); fails = ap a.status there ∙ w.fails })
          | inr z ↦ inr (record {
            asked = z.asked ∙ ap (in_words word) (sym same);
            stands = subst (λ u. Matches word (a.status u) (b.status (after b h t))) (sym there) z.stands;
            bound = let k = z.bound in omega (arith, k, costs, last, pays);
            ended = λ e. let k = z.ended e in omega (arith, k, costs, pays);
          })
        ];
  }

  -- the target makes one move
  kept_step : (x : ℕ) (h g : List ℕ) (c : ℕ) (s : S) (t : T) (n : Next a b word pay due R c s t x) → Kept n.left (after a n.moved s) (b.next x t) g h → Kept c s t (n.moved ++ g) (x ∷ h)
  kept_step x h g c s t n k = record {
    legal = legal_append a n.moved g s n.legal k.legal;
    serves =
        let same = told_append a n.moved g s in
        let there = after_append a n.moved g s in
        let costs = paid_append a pay.cost n.moved g s in
        let last = ap pay.ahead there in
        let pays = n.pays in
        let both = ap (in_words word) same ∙ words_append word (told a n.moved s) (told a g (after a n.moved s)) in
        elim k.serves [
          | inl w ↦ inl (record {
            more = w.more;
            asked = ap (λ l. told_by (b.status t) x ++ l) w.asked ∙ ap (λ l. l ++ (in_words word (told a g (after a n.moved s)) ++ w.more)) n.asked ∙ sym (append_assoc (in_words word (told a n.moved s)) _ w.more) ∙ ap (λ l. l ++ w.more) (sym both);
            fails = ap a.status there ∙ w.fails;
          })
          | inr z ↦ inr (record {
            asked = ap (λ l. told_by (b.status t) x ++ l) z.asked ∙ ap (λ l. l ++ in_words word (told a g (after a n.moved s))) n.asked ∙ sym both;
            stands = subst (λ u. Matches word (a.status u) (b.status (after b h (b.next x t)))) (sym there) z.stands;
            bound = let k = z.bound in omega (arith, k, costs, last, pays);
            ended = λ e. let k = z.ended e in omega (arith, k, costs, pays);
          })
        ];
  }

  matches_over : (s : S) (t : T) → a.status s ≡ Ends → b.status t ≡ Ends → Matches word (a.status s) (b.status t)
  matches_over s t e f = subst (Matches word (a.status s)) (sym f) e

  not_live : (u : Status F) → u ≡ Ends → IsLive u → ⊥
  not_live u e l = subst IsLive e l

  live_not_ends : (u : Status F) → IsLive u → u ≡ Ends → ⊥
  live_not_ends u l e = subst IsLive e l

  kept : (h : List ℕ) (c : ℕ) (s : S) (t : T) (r : Ready a b word pay due R c s t) → IsLegal b h t → Kept c s t (chosen h c s t r) h
  kept [] c s t (is_wrong e) l = record { legal = tt; serves = inl (record { more = []; asked = refl; fails = e }) }
  kept [] c s t (is_over e f low) l = record { legal = tt; serves = inr (record { asked = refl; stands = matches_over s t e f; bound = omega arith; ended = λ k. omega (arith, low) }) }
  kept [] c s t (is_on live same step) l = record { legal = tt; serves = inr (record { asked = refl; stands = same; bound = omega arith; ended = λ k. absurd (live_not_ends _ live k) }) }
  kept (x ∷ h) c s t (is_wrong e) l = record { legal = tt; serves = inl (record { more = told b (x ∷ h) t; asked = refl; fails = e }) }
  kept (x ∷ h) c s t (is_over e f low) l = absurd (not_live _ f l.0)
  kept (x ∷ h) c s t (is_on live same step) l =
      let n = step x in
      let q = settled _ _ _ n.goes in
      kept_step x h (q.moved ++ chosen h _ _ _ q.ready) c s t n (kept_after q.moved (chosen h _ _ _ q.ready) n.left q.left _ _ h q.legal q.asked q.pays (kept h _ _ _ q.ready l.1))

  -- What is left at first is no more than what the source counts ahead.
  pub follows : (c : ℕ) (s : S) (t : T) → c + due.ahead t ≤ pay.ahead s → Goes a b word pay due R c s t → Follows a b word pay due s t
  follows c s t first g =
      let q = settled _ _ _ g in
      let all : (h : List ℕ) → IsLegal b h t → Kept c s t (q.moved ++ chosen h _ _ _ q.ready) h = λ h l. kept_after q.moved _ c q.left s t h q.legal q.asked q.pays (kept h _ _ _ q.ready l) in
      record {
        choose = λ h. q.moved ++ chosen h _ _ _ q.ready;
        grows = λ h x.
            let m = chosen_grows h x _ _ _ q.ready in
            (m.0, ap (λ l. q.moved ++ l) m.1 ∙ sym (append_assoc q.moved _ m.0));
        legal = λ h l. (all h l).legal;
        serves = λ h l. elim (all h l).serves [
          | inl w ↦ inl w
          | inr z ↦ inr (record { asked = z.asked; stands = z.stands; bound = let k = z.bound in omega (arith, k, first); ended = λ e. let k = z.ended e in omega (arith, k, first) })
        ];
      }
