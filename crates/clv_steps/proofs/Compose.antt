-- Two simulations after one another: what follows a machine that follows the source follows the source.
use Rattle.std.proofs.Common.{◌≡◌, ℕ, ◌≤◌, ◌⊎◌, inl, inr, List, [], ◌∷◌, ◌++◌, sym, ap, ◌∙◌, arith, append_assoc}
use Rattle.std.proofs.lemmas.List.{append-nil}
use Rattle.clv_steps.specs.Machines.{Status, Runs, Asks, Ends, Fails, Machine, after, told, in_words}
use Rattle.clv_steps.specs.Runs.{Matches, Broke, Meter, Keeps, Follows}
use Rattle.clv_steps.proofs.Append.{paid_most, words_append, words_words}
use Rattle.clv_steps.proofs.Statuses.{matches_asks, matches_fails, matches_ends}

-- a choice that grows by each move grows by all
pub grows_all : {S T E F : Type 0} (a : Machine S E) (b : Machine T F) (word : E → F) (pay : Meter S) (due : Meter T) (s : S) (t : T) (f : Follows a b word pay due s t) (back h : List ℕ) → (more : List ℕ) × (f.choose (h ++ back) ≡ f.choose h ++ more)
grows_all a b word pay due s t f [] h = ([], ap f.choose (append-nil h) ∙ sym (append-nil (f.choose h)))
grows_all a b word pay due s t f (x ∷ back) h =
    let one = f.grows h x in
    let rest = grows_all a b word pay due s t f back (h ++ x ∷ []) in
    (one.0 ++ rest.0, ap f.choose (sym (append_assoc h (x ∷ []) back)) ∙ rest.1 ∙ ap (λ l. l ++ rest.0) one.1 ∙ append_assoc (f.choose h) one.0 rest.0)

-- ---- other meters

module _ {S T E F : Type 0} (a : Machine S E) (b : Machine T F) (word : E → F) (pay more : Meter S) (due : Meter T) (costs : (s : S) → pay.cost s ≤ more.cost s) (aheads : (s : S) → pay.ahead s ≤ more.ahead s) where
  keeps_more : (s : S) (t : T) (g h : List ℕ) → Keeps a b word pay due s t g h → Keeps a b word more due s t g h
  keeps_more s t g h k =
      let all = paid_most a pay.cost more.cost costs g s in
      let last = aheads (after a g s) in
      record {
        asked = k.asked;
        stands = k.stands;
        bound = let z = k.bound in omega (arith, z, all, last);
        ended = λ e. let z = k.ended e in omega (arith, z, all);
      }

  -- A source that pays more is followed too.
  pub pays_more : (s : S) (t : T) → Follows a b word pay due s t → Follows a b word more due s t
  pays_more s t f = record {
    choose = f.choose;
    grows = f.grows;
    legal = f.legal;
    serves = λ h l. elim (f.serves h l) [
      | inl w ↦ inl w
      | inr k ↦ inr (keeps_more s t (f.choose h) h k)
    ];
  }

-- ---- two after one another

matches_both : {E F G : Type 0} (word : E → F) (word2 : F → G) (s : Status E) (t : Status F) (u : Status G) → Matches word s t → Matches word2 t u → Matches (λ e. word2 (word e)) s u
matches_both word word2 s t Runs m n = tt
matches_both word word2 s t (Asks f) m n =
    let k = matches_asks word s t n.0 n.1 m in
    (k.0, k.1, n.2 ∙ ap word2 k.2)
matches_both word word2 s t Ends m n = matches_ends word s t n m
matches_both word word2 s t Fails m n = n

module _ {S T U E F G : Type 0} (a : Machine S E) (b : Machine T F) (c : Machine U G) (word : E → F) (word2 : F → G) (pay : Meter S) (mid : Meter T) (due : Meter U) (s : S) (t : T) (u : U) where
  abbrev both : E → G
  both e = word2 (word e)

  -- Where the machine between is undefined, so is the source.
  broke_later : (k g h : List ℕ) → Broke b c word2 t u g h → Broke a b word s t k g ⊎ Keeps a b word pay mid s t k g → Broke a c both s u k h
  broke_later k g h w (inl z) = record {
    more = in_words word2 z.more ++ w.more;
    asked = w.asked ∙ ap (λ l. in_words word2 l ++ w.more) z.asked ∙ ap (λ l. l ++ w.more) (words_append word2 (in_words word (told a k s)) z.more) ∙ append_assoc _ (in_words word2 z.more) w.more ∙ ap (λ l. l ++ (in_words word2 z.more ++ w.more)) (words_words word word2 (told a k s));
    fails = z.fails;
  }
  broke_later k g h w (inr z) = absurd (matches_fails word _ _ w.fails z.stands)

  broke_first : (k g h : List ℕ) → told c h u ≡ in_words word2 (told b g t) → Broke a b word s t k g → Broke a c both s u k h
  broke_first k g h same z = record {
    more = in_words word2 z.more;
    asked = same ∙ ap (in_words word2) z.asked ∙ words_append word2 (in_words word (told a k s)) z.more ∙ ap (λ l. l ++ in_words word2 z.more) (words_words word word2 (told a k s));
    fails = z.fails;
  }

  keeps_both : (k g h : List ℕ) → Keeps b c word2 mid due t u g h → Keeps a b word pay mid s t k g → Keeps a c both pay due s u k h
  keeps_both k g h y z = record {
    asked = y.asked ∙ ap (in_words word2) z.asked ∙ words_words word word2 (told a k s);
    stands = matches_both word word2 _ _ _ z.stands y.stands;
    bound = let m = y.bound in let n = z.bound in omega (arith, m, n);
    ended = λ e. let m = y.ended e in let n = z.ended (matches_ends word2 _ _ e y.stands) in omega (arith, m, n);
  }

  served_both : (k g h : List ℕ) → Broke b c word2 t u g h ⊎ Keeps b c word2 mid due t u g h → Broke a b word s t k g ⊎ Keeps a b word pay mid s t k g → Broke a c both s u k h ⊎ Keeps a c both pay due s u k h
  served_both k g h (inl w) z = inl (broke_later k g h w z)
  served_both k g h (inr y) (inl z) = inl (broke_first k g h y.asked z)
  served_both k g h (inr y) (inr z) = inr (keeps_both k g h y z)

  -- Simulations compose. The machine between has one meter in both, so the bounds chain, and what the target is ahead by doesn't add up.
  pub composed : Follows a b word pay mid s t → Follows b c word2 mid due t u → Follows a c both pay due s u
  composed f f2 = record {
    choose = λ h. f.choose (f2.choose h);
    grows = λ h x.
        let one = f2.grows h x in
        let rest = grows_all a b word pay mid s t f one.0 (f2.choose h) in
        (rest.0, ap f.choose one.1 ∙ rest.1);
    legal = λ h l. f.legal (f2.choose h) (f2.legal h l);
    serves = λ h l. served_both (f.choose (f2.choose h)) (f2.choose h) h (f2.serves h l) (f.serves (f2.choose h) (f2.legal h l));
  }
