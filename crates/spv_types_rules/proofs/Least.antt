-- Where a rule is broken, there is a least broken one.
use Rattle.std.proofs.Common.{◌≡◌, ℕ, zero, suc, ◌+◌, ◌<◌, ◌≤◌, Bool, true, false, List, [], ◌∷◌, Option, Some, None, cond, length, refl, sym, subst, ap, ◌∙◌, inl, inr, arith, eqb-true, eq-eqb, ltb-true}
use Rattle.std.specs.Prelude.{◌&&◌, ◌||◌, not, ◌⊎◌, All, Contains, ◌==◌, nat_lt}
use Rattle.std.proofs.lemmas.Bool.{cases_lt, cases_order, and_cases}
use Rattle.std.proofs.lemmas.List.Elements.{All-nil, All-cons, All-head, All-tail, All-weaker, All-contains, All-contains_itself}
use Rattle.std.proofs.lemmas.List.Sums.{AllPass-from_list_all}
use Rattle.spv_module.specs.declared.module.Inst.{Inst}
use Rattle.spv_module.specs.declared.op.TheConstants as op
use Rattle.spv_types_rules.specs.Lines.{Line, Whole, Spot, only, whole, lines_of, onto, has_op, to_end}
use Rattle.spv_types_rules.proofs.Breaking.{structure_test, structure_rule, tests_by, keeps_number, has_number, line_from, Break, break_by, break_of, or_next, first_from, least_broken}
use Rattle.spv_types_rules.specs.Rules.{Rule, rules, spot, IsAt, Breaks, by_line, by_blocks, Lacks, by_whole, all_keep, IsIntact, first_word, IsBrokenAt, at_line, at_none, IsLeastBroken, HasLeastBroken, SomeLeastBroken}
use Rattle.spv_types_rules.proofs.Structured.{is_structured, structured_passes, passes_structured}
use Rattle.spv_types_rules.proofs.Unbroken.{left, right, never, kept_at, is_function}

-- ---- the rules of a number

abbrev Passes : (Rule → Bool) → ℕ → Rule → Type 0
Passes test n r = r.number ≡ n → test r ≡ true

-- one of them that doesn't
record Culprit (P : Rule → Type 0) (test : Rule → Bool) (n : ℕ) : Type 0 where
  rule : Rule
  known : P rule
  number : rule.number ≡ n
  fails : test rule ≡ false

chosen : (n m : ℕ) (x : Bool) → not (n == m) || x ≡ true → n ≡ m → x ≡ true
chosen n m x h e = subst (λ (b : Bool). not b || x ≡ true) (eq-eqb n m e) h

refused_by : (b : Bool) (n m : ℕ) (x : Bool) → n == m ≡ b → not b || x ≡ false → (n ≡ m) × (x ≡ false)
refused_by true n m x e h = (eqb-true n m e, h)
refused_by false n m x e h = let f : true ≡ false = h in cc

module _ (test : Rule → Bool) (n : ℕ) where
  pass : (rs : List Rule) → tests_by test rs n ≡ true → All (Passes test n) rs
  pass [] h = All-nil (Passes test n)
  pass (r ∷ rs) h =
      All-cons (Passes test n) r rs (chosen r.number n (test r) (left (not (r.number == n) || test r) (tests_by test rs n) h))
      (pass rs (right (not (r.number == n) || test r) (tests_by test rs n) h))

  culprit_in : (P : Rule → Type 0) (r : Rule) (rs : List Rule) → All P (r ∷ rs) → ((not (r.number == n) || test r ≡ false) ⊎ (tests_by test rs n ≡ false)) → (tests_by test rs n ≡ false → Culprit P test n) → Culprit P test n
  culprit_in P r rs p (inl h) more = let q = refused_by (r.number == n) r.number n (test r) refl h in record { rule = r; known = All-head P r rs p; number = q.0; fails = q.1 }
  culprit_in P r rs p (inr h) more = more h

  culprit : (P : Rule → Type 0) (rs : List Rule) → All P rs → tests_by test rs n ≡ false → Culprit P test n
  culprit P [] p h = let f : true ≡ false = h in cc
  culprit P (r ∷ rs) p h = culprit_in P r rs p (and_cases (not (r.number == n) || test r) (tests_by test rs n) h) (culprit P rs (All-tail P r rs p))

-- ---- the first line that breaks a rule

not_true : (x : Bool) → (x ≡ true → ⊥) → x ≡ false
not_true false h = refl
not_true true h = absurd (h refl)

abbrev tail_of : List Line → List Line
tail_of [] = []
tail_of (_ ∷ ls) = ls

abbrev head_of : Line → List Line → Line
head_of l [] = l
head_of l (m ∷ _) = m

abbrev or_zero : ℕ → Option ℕ → ℕ
or_zero i None = i
or_zero i (Some j) = j

-- lines behind as many others are the same in the same lines
same_onto : (b c xs ys : List Line) → onto b xs ≡ onto c ys → length b ≡ length c → (b ≡ c) × (xs ≡ ys)
same_onto [] [] xs ys e f = (refl, e)
same_onto [] (m ∷ c) xs ys e f = absurd (omega arith)
same_onto (l ∷ b) [] xs ys e f = absurd (omega arith)
same_onto (l ∷ b) (m ∷ c) xs ys e f =
    let h = same_onto b c (l ∷ xs) (m ∷ ys) e (omega arith) in
    let p : l ≡ m = ap (head_of l) h.1 in
    (ap (λ d. l ∷ d) h.0 ∙ ap (λ k. k ∷ c) p, ap tail_of h.1)

module _ (keeps : Spot → Bool) (w : Whole) (all : List Line) where
  abbrev spot_at : List Line → Line → List Line → Spot
  spot_at b l a = record { whole = w; before = b; here = l; after = a }

  -- the lines with fewer before them keep
  abbrev Earlier : ℕ → Type 0
  Earlier n = (b : List Line) (l : Line) (a : List Line) → all ≡ onto b (l ∷ a) → length b < n → keeps (spot_at b l a) ≡ true

  record IsFirst (i : ℕ) : Type 0 where
    before : List Line
    here : Line
    after : List Line
    parts : all ≡ onto before (here ∷ after)
    place : length before ≡ i
    fails : keeps (spot_at before here after) ≡ false
    earlier : Earlier (length before)

  same_kept : (b c : List Line) (l m : Line) (a d : List Line) → all ≡ onto b (l ∷ a) → all ≡ onto c (m ∷ d) → length c ≡ length b → keeps (spot_at b l a) ≡ true → keeps (spot_at c m d) ≡ true
  same_kept b c l m a d e f g h =
      let s = same_onto b c (l ∷ a) (m ∷ d) (sym e ∙ f) (sym g) in
      ap (λ b. keeps (spot_at b m d)) (sym s.0) ∙ ap (λ n. keeps (spot_at b n d)) (sym (ap (head_of l) s.1)) ∙ ap (λ a. keeps (spot_at b l a)) (sym (ap tail_of s.1)) ∙ h

  earlier_by : (b c : List Line) (l m : Line) (a d : List Line) → all ≡ onto b (l ∷ a) → Earlier (length b) → keeps (spot_at b l a) ≡ true → all ≡ onto c (m ∷ d) → length c < suc (length b) → ((length c < length b) ⊎ (length b ≤ length c)) → keeps (spot_at c m d) ≡ true
  earlier_by b c l m a d e h k f g (inl p) = h c m d f p
  earlier_by b c l m a d e h k f g (inr p) = same_kept b c l m a d e f (omega arith) k

  earlier_more : (b : List Line) (l : Line) (a : List Line) → all ≡ onto b (l ∷ a) → Earlier (length b) → keeps (spot_at b l a) ≡ true → Earlier (suc (length b))
  earlier_more b l a e h k c m d f g = earlier_by b c l m a d e h k f g (cases_lt (length c) (length b))

  some_same : (i j : ℕ) → Some i ≡ Some j → i ≡ j
  some_same i j e = ap (or_zero i) e

  first_by : (x : Bool) (i : ℕ) (b : List Line) (l : Line) (a : List Line) → keeps (spot_at b l a) ≡ x → all ≡ onto b (l ∷ a) → Earlier (length b) → cond x (line_from keeps w (l ∷ b) (suc (length b)) a) (Some (length b)) ≡ Some i → (keeps (spot_at b l a) ≡ true → line_from keeps w (l ∷ b) (suc (length b)) a ≡ Some i → IsFirst i) → IsFirst i
  first_by true i b l a k e h f more = more k f
  first_by false i b l a k e h f more = record { before = b; here = l; after = a; parts = e; place = some_same (length b) i f; fails = k; earlier = h }

  first_in : (i : ℕ) (b ls : List Line) → all ≡ onto b ls → Earlier (length b) → line_from keeps w b (length b) ls ≡ Some i → IsFirst i
  first_in i b [] e h f = let g : None ≡ Some i = f in cc
  first_in i b (l ∷ a) e h f = first_by (keeps (spot_at b l a)) i b l a refl e h f (λ k g. first_in i (l ∷ b) a e (earlier_more b l a e h k) g)

  none_by : (x : Bool) (b : List Line) (l : Line) (a : List Line) → cond x (line_from keeps w (l ∷ b) (suc (length b)) a) (Some (length b)) ≡ None → (line_from keeps w (l ∷ b) (suc (length b)) a ≡ None → all_keep keeps w (l ∷ b) a ≡ true) → x && all_keep keeps w (l ∷ b) a ≡ true
  none_by true b l a f more = more f
  none_by false b l a f more = let g : Some (length b) ≡ None = f in cc

  none_in : (b ls : List Line) → line_from keeps w b (length b) ls ≡ None → all_keep keeps w b ls ≡ true
  none_in b [] f = refl
  none_in b (l ∷ a) f = none_by (keeps (spot_at b l a)) b l a f (none_in (l ∷ b) a)

-- ---- a module

module _ (body : List Inst) where
  abbrev lines : List Line
  lines = lines_of body

  abbrev here : List Line → Line → List Line → Spot
  here b l a = spot lines b l a

  -- a line that breaks the rule of a number doesn't keep the rules of that number
  record Fails (n i : ℕ) : Type 0 where
    before : List Line
    line : Line
    after : List Line
    at : IsAt lines i before line after
    fails : keeps_number n (here before line after) ≡ false

  fails_at : (n i : ℕ) → Breaks body n i → Fails n i
  fails_at _ _ (by_line r i b l a c at f) = record {
    before = b;
    line = l;
    after = a;
    at = at;
    fails = not_true (keeps_number r.number (here b l a)) (λ h.
        never (r.keeps (here b l a))
        (All-contains (Passes (λ r. r.keeps (here b l a)) r.number) rules r (All-tail (Passes (λ r. r.keeps (here b l a)) r.number) structure_rule rules (pass (λ r. r.keeps (here b l a)) r.number (structure_rule ∷ rules) h)) c refl)
        f);
  }
  fails_at _ _ (by_blocks i b l a at f g) = record {
    before = b;
    line = l;
    after = a;
    at = at;
    fails = not_true (keeps_number 35 (here b l a)) (λ h.
        g (passes_structured (to_end a)
        (subst (λ (x : Bool). only x structure_test (here b l a) ≡ true) (is_function l f)
        (All-head (Passes (λ r. r.keeps (here b l a)) 35) structure_rule rules (pass (λ r. r.keeps (here b l a)) 35 (structure_rule ∷ rules) h) refl))));
  }

  intact_lines : (n : ℕ) → all_keep (keeps_number n) (whole lines) [] lines ≡ true → (i : ℕ) → Breaks body n i → ⊥
  intact_lines n k i b =
      let f = fails_at n i b in
      never (keeps_number n (here f.before f.line f.after)) (kept_at (keeps_number n) (whole lines) lines f.before f.line f.after f.at.parts k) f.fails

  intact_whole : (n : ℕ) → has_number n (whole lines) ≡ true → Lacks body n → ⊥
  intact_whole _ h (by_whole r c f) =
      never (r.has (whole lines)) (All-contains (Passes (λ r. r.has (whole lines)) r.number) rules r (pass (λ r. r.has (whole lines)) r.number rules h) c refl) f

  -- which rule it is that a line doesn't keep
  abbrev IsKnown : Rule → Type 0
  IsKnown r = (r ≡ structure_rule) ⊎ Contains rules r

  all_known : All IsKnown (structure_rule ∷ rules)
  all_known = All-cons IsKnown structure_rule rules (inl refl) (All-weaker (Contains rules) IsKnown (λ r c. inr c) rules (All-contains_itself rules))

  unstructured : (x : Bool) (s : Spot) → only x structure_test s ≡ false → (x ≡ true) × (structure_test s ≡ false)
  unstructured true s e = (refl, e)
  unstructured false s e = let f : true ≡ false = e in cc

  breaks_by : (n : ℕ) (b : List Line) (l : Line) (a : List Line) → lines ≡ onto b (l ∷ a) → (r : Rule) → IsKnown r → r.number ≡ n → r.keeps (here b l a) ≡ false → Breaks body n (length b)
  breaks_by n b l a e r (inr c) p f = subst (λ (n : ℕ). Breaks body n (length b)) p (by_line r (length b) b l a c (record { parts = e; at = refl }) f)
  breaks_by n b l a e r (inl q) p f =
      let u = unstructured (has_op op.FUNCTION l) (here b l a) (ap (λ (r : Rule). r.keeps (here b l a)) (sym q) ∙ f) in
      subst (λ (n : ℕ). Breaks body n (length b)) (ap (λ (r : Rule). r.number) (sym q) ∙ p)
      (by_blocks (length b) b l a (record { parts = e; at = refl }) (eqb-true l.op op.FUNCTION u.0) (λ s. never (is_structured (to_end a)) (structured_passes (to_end a) s) u.1))

  abbrev First : ℕ → ℕ → Type 0
  First n i = IsFirst (keeps_number n) (whole lines) lines i

  breaks_first : (n i : ℕ) (f : First n i) → Breaks body n i
  breaks_first n i f =
      let c = culprit (λ r. r.keeps (here f.before f.here f.after)) n IsKnown (structure_rule ∷ rules) all_known f.fails in
      subst (Breaks body n) f.place (breaks_by n f.before f.here f.after f.parts c.rule c.known c.number c.fails)

  none_earlier : (n i : ℕ) (f : First n i) (j : ℕ) → j < i → Breaks body n j → ⊥
  none_earlier n i f j h b =
      let g = fails_at n j b in
      let p : length g.before ≡ j = g.at.at in
      let q : length f.before ≡ i = f.place in
      never (keeps_number n (here g.before g.line g.after)) (f.earlier g.before g.line g.after g.at.parts (omega arith)) g.fails

  -- what it says that a rule is broken, or isn't
  abbrev pub word_by : Option ℕ → ℕ
  word_by None = 0
  word_by (Some i) = first_word body i

  abbrev Judges : ℕ → Option Break → Type 0
  Judges n None = IsIntact body n
  Judges n (Some b) = (n ≡ b.number) × IsBrokenAt body n (word_by b.line)

  judge_by : (n : ℕ) (o : Option ℕ) (x : Bool) → line_from (keeps_number n) (whole lines) [] 0 lines ≡ o → has_number n (whole lines) ≡ x → Judges n (break_by n o x)
  judge_by n (Some i) x f h =
      let g = first_in (keeps_number n) (whole lines) lines i [] lines refl (λ b l a e h. absurd (omega arith)) f in
      (refl, at_line i (breaks_first n i g) (none_earlier n i g))
  judge_by n None true f h = record { lines = intact_lines n (none_in (keeps_number n) (whole lines) lines [] lines f); whole = intact_whole n h }
  judge_by n None false f h =
      let c = culprit (λ r. r.has (whole lines)) n (Contains rules) rules (All-contains_itself rules) h in
      (refl, at_none (subst (Lacks body) c.number (by_whole c.rule c.known c.fails)) (intact_lines n (none_in (keeps_number n) (whole lines) lines [] lines f)))

  judge : (n : ℕ) → Judges n (break_of (whole lines) n)
  judge n = judge_by n (line_from (keeps_number n) (whole lines) [] 0 lines) (has_number n (whole lines)) refl refl

  -- ---- the least, of the numbers below a bound

  abbrev AreIntact : ℕ → Type 0
  AreIntact n = (m : ℕ) → m < n → IsIntact body m

  abbrev Tells : Option Break → Type 0
  Tells None = AreIntact 45
  Tells (Some b) = IsLeastBroken body b.number (word_by b.line)

  intact_more : (n m : ℕ) → AreIntact n → IsIntact body n → m < suc n → ((m ≡ n) ⊎ ((m < n) ⊎ (n < m))) → IsIntact body m
  intact_more n m h k p (inl e) = subst (IsIntact body) (sym e) k
  intact_more n m h k p (inr (inl q)) = h m q
  intact_more n m h k p (inr (inr q)) = absurd (omega arith)

  search_by : (n : ℕ) (o next : Option Break) → AreIntact n → Judges n o → (AreIntact (suc n) → Tells next) → Tells (or_next o next)
  search_by n None next h k more = more (λ m p. intact_more n m h k p (cases_order m n))
  search_by n (Some b) next h k more = subst (λ (m : ℕ). IsLeastBroken body m (word_by b.line)) k.0 (record { broken = k.1; least = h })

  search : (left n : ℕ) → n + left ≡ 45 → AreIntact n → Tells (first_from left n (whole lines))
  search zero n e h = λ m p. h m (omega arith)
  search (suc left) n e h = search_by n (break_of (whole lines) n) (first_from left (suc n) (whole lines)) h (judge n) (search left (suc n) (omega arith))

  -- no rule has a greater number
  abbrev IsLow : Rule → Type 0
  IsLow r = nat_lt r.number 45 ≡ true

  all_low : All IsLow rules
  all_low = AllPass-from_list_all (λ (r : Rule). nat_lt r.number 45) rules refl

  low_line : (n i : ℕ) → Breaks body n i → n < 45
  low_line _ _ (by_line r i b l a c at f) = ltb-true r.number 45 (All-contains IsLow rules r all_low c)
  low_line _ _ (by_blocks i b l a at f g) = omega arith

  low_whole : (n : ℕ) → Lacks body n → n < 45
  low_whole _ (by_whole r c f) = ltb-true r.number 45 (All-contains IsLow rules r all_low c)

  all_intact : AreIntact 45 → (n : ℕ) → IsIntact body n
  all_intact h n = record { lines = λ i b. (h n (low_line n i b)).lines i b; whole = λ l. (h n (low_whole n l)).whole l }

  found : (o : Option Break) → Tells o → HasLeastBroken body ⊎ ((n : ℕ) → IsIntact body n)
  found None h = inr (all_intact h)
  found (Some b) h = inl (record { number = b.number; word = word_by b.line; least = h })

  -- what is computed is the least broken rule
  pub least_is : (b : Break) → least_broken body ≡ Some b → IsLeastBroken body b.number (word_by b.line)
  least_is b e = subst Tells e (search 45 0 refl (λ m h. absurd (omega arith)))

pub some_least_broken : SomeLeastBroken
some_least_broken body = found body (least_broken body) (search body 45 0 refl (λ m h. absurd (omega arith)))
