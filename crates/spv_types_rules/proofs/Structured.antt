-- Whether blocks are a sequence is decided: a test that tries each way to cut them.
use Rattle.std.proofs.Common.{◌≡◌, ℕ, zero, suc, ◌≤◌, Bool, true, false, List, [], ◌∷◌, ◌++◌, length, length-append, refl, sym, subst, ap, ◌∙◌, inl, inr, arith, eqb-true, eq-eqb}
use Rattle.std.proofs.lemmas.Bool.{or_cases}
use Rattle.std.specs.Prelude.{◌&&◌, ◌||◌, ◌==◌, ◌⊎◌}
use Rattle.spv_types_rules.specs.Lines.{Line, is_empty}
use Rattle.spv_types_rules.specs.Functions.{Block, blocks_in}
use Rattle.spv_types_rules.specs.Structure.{End, Leaves, Goes, Forks, Chooses, Switches, Loops, Ill, end_of, Around, outermost, in_switch, in_loop, in_continue, Ending, To, Back, leads, closes, arms_of, cases, own_default, arm_ending, IsSequence, closed, goes_on, chooses, switches, loops, AreArms, none, more, first_label, IsStructured}

abbrev pub Test : Type 0
Test = Around → Ending → ℕ → List Block → Bool

-- ---- ways to cut a list in two

abbrev pub any_cut : {A : Type 0} → (List A → List A → Bool) → List A → Bool
any_cut p [] = p [] []
any_cut p (x ∷ xs) = p [] (x ∷ xs) || any_cut (λ us vs. p (x ∷ us) vs) xs

record IsCut {A : Type 0} (p : List A → List A → Bool) (xs : List A) : Type 0 where
  front : List A
  back : List A
  whole : xs ≡ front ++ back
  holds : p front back ≡ true

left : (x y : Bool) → x && y ≡ true → x ≡ true
left true y e = refl
left false y e = e

right : (x y : Bool) → x && y ≡ true → y ≡ true
right true y e = e
right false true e = refl
right false false e = e

both : (x y : Bool) → x ≡ true → y ≡ true → x && y ≡ true
both x y p q = ap (λ z. z && y) p ∙ q

or_left : (x y : Bool) → x ≡ true → x || y ≡ true
or_left x y e = ap (λ z. z || y) e

or_right : (x y : Bool) → y ≡ true → x || y ≡ true
or_right true y e = refl
or_right false y e = e

cut_further : {A : Type 0} (p : List A → List A → Bool) (x : A) (xs : List A) → IsCut (λ us vs. p (x ∷ us) vs) xs → IsCut p (x ∷ xs)
cut_further p x xs c = record { front = x ∷ c.front; back = c.back; whole = ap (λ ys. x ∷ ys) c.whole; holds = c.holds }

cut_by : {A : Type 0} (p : List A → List A → Bool) (x : A) (xs : List A) → (any_cut (λ us vs. p (x ∷ us) vs) xs ≡ true → IsCut (λ us vs. p (x ∷ us) vs) xs) → ((p [] (x ∷ xs) ≡ true) ⊎ (any_cut (λ us vs. p (x ∷ us) vs) xs ≡ true)) → IsCut p (x ∷ xs)
cut_by p x xs found (inl e) = record { front = []; back = x ∷ xs; whole = refl; holds = e }
cut_by p x xs found (inr e) = cut_further p x xs (found e)

cut_found : {A : Type 0} (p : List A → List A → Bool) (xs : List A) → any_cut p xs ≡ true → IsCut p xs
cut_found p [] e = record { front = []; back = []; whole = refl; holds = e }
cut_found p (x ∷ xs) e = cut_by p x xs (cut_found (λ us vs. p (x ∷ us) vs) xs) (or_cases (p [] (x ∷ xs)) (any_cut (λ us vs. p (x ∷ us) vs) xs) e)

cut_at : {A : Type 0} (p : List A → List A → Bool) (us vs : List A) → p us vs ≡ true → any_cut p (us ++ vs) ≡ true
cut_at p [] [] e = e
cut_at p [] (v ∷ vs) e = or_left (p [] (v ∷ vs)) (any_cut (λ us ws. p (v ∷ us) ws) vs) e
cut_at p (u ∷ us) vs e = or_right (p [] (u ∷ (us ++ vs))) (any_cut (λ as_ ws. p (u ∷ as_) ws) (us ++ vs)) (cut_at (λ as_ ws. p (u ∷ as_) ws) us vs e)

-- ---- the test

abbrev pub are_arms : Test → Around → Bool → ℕ → List ℕ → List Block → Bool
are_arms test a falls m [] bs = is_empty bs
are_arms test a falls m (l ∷ ls) bs = any_cut (λ us vs. test a (arm_ending falls m ls) l us && are_arms test a falls m ls vs) bs

abbrev pub are_parts : Test → Around → Ending → Block → End → List Block → Bool
are_parts test a e b (Goes k) bs = test a e k bs
are_parts test a e b (Chooses m t f) bs = any_cut (λ us vs. are_arms test a false m (arms_of (m ∷ []) (t ∷ f ∷ [])) us && test a e m vs) bs
are_parts test a e b (Switches m d ts) bs =
    any_cut (λ before after. any_cut (λ us vs. are_arms test (in_switch a m) true m (before ++ (own_default m d ts ++ after)) us && test a e m vs) bs) (cases m ts)
are_parts test a e b (Loops m c jump) bs =
    leads m (first_label bs) jump
    && any_cut (λ us vs. test (in_loop a m c) (To (c ∷ [])) (first_label bs) us && any_cut (λ ws xs. test in_continue (Back b.label m) c ws && test a e m xs) vs) bs
are_parts test a e b _ bs = false

abbrev pub is_sequence : ℕ → Test
is_sequence zero a e l bs = false
is_sequence (suc n) a e l [] = false
is_sequence (suc n) a e l (b ∷ bs) = (b.label == l) && ((closes a e (end_of b.lines) && is_empty bs) || are_parts (is_sequence n) a e b (end_of b.lines) bs)

abbrev pub is_structured : List Line → Bool
is_structured lines = is_sequence (length (blocks_in lines)) outermost (To []) (first_label (blocks_in lines)) (blocks_in lines)

-- ---- what passes the test is a sequence

abbrev IsSound : Test → Type 0
IsSound test = (a : Around) (e : Ending) (l : ℕ) (bs : List Block) → test a e l bs ≡ true → IsSequence a e l bs

nothing_left : (bs : List Block) → is_empty bs ≡ true → [] ≡ bs
nothing_left [] e = refl
nothing_left (b ∷ bs) e = let f : false ≡ true = e in cc

module _ (test : Test) (sound : IsSound test) where
  arms_sound : (a : Around) (falls : Bool) (m : ℕ) (ls : List ℕ) (bs : List Block) → are_arms test a falls m ls bs ≡ true → AreArms a falls m ls bs
  arms_sound a falls m [] bs h = subst (λ (bs : List Block). AreArms a falls m [] bs) (nothing_left bs h) (none a falls m)
  arms_sound a falls m (l ∷ ls) bs h =
      let c = cut_found (λ us vs. test a (arm_ending falls m ls) l us && are_arms test a falls m ls vs) bs h in
      let x = test a (arm_ending falls m ls) l c.front in
      let y = are_arms test a falls m ls c.back in
      subst (λ (bs : List Block). AreArms a falls m (l ∷ ls) bs) (sym c.whole)
      (more a falls m l ls c.front c.back (sound a (arm_ending falls m ls) l c.front (left x y c.holds)) (arms_sound a falls m ls c.back (right x y c.holds)))

  chooses_sound : (a : Around) (e : Ending) (b : Block) (m t f : ℕ) (bs : List Block) → end_of b.lines ≡ Chooses m t f → are_parts test a e b (Chooses m t f) bs ≡ true → IsSequence a e b.label (b ∷ bs)
  chooses_sound a e b m t f bs p h =
      let c = cut_found (λ us vs. are_arms test a false m (arms_of (m ∷ []) (t ∷ f ∷ [])) us && test a e m vs) bs h in
      let x = are_arms test a false m (arms_of (m ∷ []) (t ∷ f ∷ [])) c.front in
      let y = test a e m c.back in
      subst (λ (bs : List Block). IsSequence a e b.label (b ∷ bs)) (sym c.whole)
      (chooses a e b m t f c.front c.back p (arms_sound a false m (arms_of (m ∷ []) (t ∷ f ∷ [])) c.front (left x y c.holds)) (sound a e m c.back (right x y c.holds)))

  switches_sound : (a : Around) (e : Ending) (b : Block) (m d : ℕ) (ts : List ℕ) (bs : List Block) → end_of b.lines ≡ Switches m d ts → are_parts test a e b (Switches m d ts) bs ≡ true → IsSequence a e b.label (b ∷ bs)
  switches_sound a e b m d ts bs p h =
      let o = cut_found (λ before after. any_cut (λ us vs. are_arms test (in_switch a m) true m (before ++ (own_default m d ts ++ after)) us && test a e m vs) bs) (cases m ts) h in
      let order = o.front ++ (own_default m d ts ++ o.back) in
      let c = cut_found (λ us vs. are_arms test (in_switch a m) true m order us && test a e m vs) bs o.holds in
      let x = are_arms test (in_switch a m) true m order c.front in
      let y = test a e m c.back in
      subst (λ (bs : List Block). IsSequence a e b.label (b ∷ bs)) (sym c.whole)
      (switches a e b m d ts o.front o.back c.front c.back p o.whole (arms_sound (in_switch a m) true m order c.front (left x y c.holds)) (sound a e m c.back (right x y c.holds)))

  loops_sound : (a : Around) (e : Ending) (b : Block) (m c : ℕ) (jump : End) (bs : List Block) → end_of b.lines ≡ Loops m c jump → are_parts test a e b (Loops m c jump) bs ≡ true → IsSequence a e b.label (b ∷ bs)
  loops_sound a e b m c jump bs p h =
      let k = first_label bs in
      let parts = λ (us vs : List Block). test (in_loop a m c) (To (c ∷ [])) k us && any_cut (λ ws xs. test in_continue (Back b.label m) c ws && test a e m xs) vs in
      let o = cut_found parts bs (right (leads m k jump) (any_cut parts bs) h) in
      let x = test (in_loop a m c) (To (c ∷ [])) k o.front in
      let y = any_cut (λ ws xs. test in_continue (Back b.label m) c ws && test a e m xs) o.back in
      let i = cut_found (λ ws xs. test in_continue (Back b.label m) c ws && test a e m xs) o.back (right x y o.holds) in
      let v = test in_continue (Back b.label m) c i.front in
      let w = test a e m i.back in
      subst (λ (bs : List Block). IsSequence a e b.label (b ∷ bs)) (sym (o.whole ∙ ap (λ ys. o.front ++ ys) i.whole))
      (loops a e b m c k jump o.front i.front i.back p (left (leads m k jump) (any_cut parts bs) h)
      (sound (in_loop a m c) (To (c ∷ [])) k o.front (left x y o.holds)) (sound in_continue (Back b.label m) c i.front (left v w i.holds)) (sound a e m i.back (right v w i.holds)))

  parts_sound : (a : Around) (e : Ending) (b : Block) (x : End) (bs : List Block) → end_of b.lines ≡ x → are_parts test a e b x bs ≡ true → IsSequence a e b.label (b ∷ bs)
  parts_sound a e b (Goes k) bs p h = goes_on a e b k bs p (sound a e k bs h)
  parts_sound a e b (Chooses m t f) bs p h = chooses_sound a e b m t f bs p h
  parts_sound a e b (Switches m d ts) bs p h = switches_sound a e b m d ts bs p h
  parts_sound a e b (Loops m c jump) bs p h = loops_sound a e b m c jump bs p h
  parts_sound a e b Leaves bs p h = let f : false ≡ true = h in cc
  parts_sound a e b (Forks t f) bs p h = let g : false ≡ true = h in cc
  parts_sound a e b Ill bs p h = let f : false ≡ true = h in cc

  either_sound : (a : Around) (e : Ending) (b : Block) (bs : List Block) → ((closes a e (end_of b.lines) && is_empty bs ≡ true) ⊎ (are_parts test a e b (end_of b.lines) bs ≡ true)) → IsSequence a e b.label (b ∷ bs)
  either_sound a e b bs (inl h) =
      subst (λ (bs : List Block). IsSequence a e b.label (b ∷ bs)) (nothing_left bs (right (closes a e (end_of b.lines)) (is_empty bs) h)) (closed a e b (left (closes a e (end_of b.lines)) (is_empty bs) h))
  either_sound a e b bs (inr h) = parts_sound a e b (end_of b.lines) bs refl h

sequence_sound : (n : ℕ) → IsSound (is_sequence n)
sequence_sound zero a e l bs h = let f : false ≡ true = h in cc
sequence_sound (suc n) a e l [] h = let f : false ≡ true = h in cc
sequence_sound (suc n) a e l (b ∷ bs) h =
    let x = closes a e (end_of b.lines) && is_empty bs in
    let y = are_parts (is_sequence n) a e b (end_of b.lines) bs in
    subst (λ (l : ℕ). IsSequence a e l (b ∷ bs)) (eqb-true b.label l (left (b.label == l) (x || y) h))
    (either_sound (is_sequence n) (sequence_sound n) a e b bs (or_cases x y (right (b.label == l) (x || y) h)))

-- ---- a sequence passes the test

label_is : (a : Around) (e : Ending) (l : ℕ) (bs rest : List Block) → IsSequence a e l bs → first_label (bs ++ rest) ≡ l
label_is _ _ _ _ rest (closed a e b h) = refl
label_is _ _ _ _ rest (goes_on a e b k bs p s) = refl
label_is _ _ _ _ rest (chooses a e b m t f arms bs p h s) = refl
label_is _ _ _ _ rest (switches a e b m d ts before after arms bs p o h s) = refl
label_is _ _ _ _ rest (loops a e b m c k jump body again bs p g h i s) = refl

abbrev IsFull : ℕ → Type 0
IsFull n = (a : Around) (e : Ending) (l : ℕ) (bs : List Block) → IsSequence a e l bs → length bs ≤ n → is_sequence n a e l bs ≡ true

same : (l : ℕ) → l == l ≡ true
same l = eq-eqb l l refl

module _ (n : ℕ) (full : IsFull n) where
  arms_full : (a : Around) (falls : Bool) (m : ℕ) (ls : List ℕ) (bs : List Block) → AreArms a falls m ls bs → length bs ≤ n → are_arms (is_sequence n) a falls m ls bs ≡ true
  arms_full _ _ _ _ _ (none a falls m) le = refl
  arms_full _ _ _ _ _ (more a falls m l ls arm arms s h) le =
      let sum = length-append arm arms in
      cut_at (λ us vs. is_sequence n a (arm_ending falls m ls) l us && are_arms (is_sequence n) a falls m ls vs) arm arms
      (both (is_sequence n a (arm_ending falls m ls) l arm) (are_arms (is_sequence n) a falls m ls arms) (full a (arm_ending falls m ls) l arm s (omega arith)) (arms_full a falls m ls arms h (omega arith)))

  -- the test of a block whose end is known, and of what is behind it
  at : (a : Around) (e : Ending) (b : Block) (bs : List Block) (x : End) → end_of b.lines ≡ x → are_parts (is_sequence n) a e b x bs ≡ true → is_sequence (suc n) a e b.label (b ∷ bs) ≡ true
  at a e b bs x p h = both (b.label == b.label) ((closes a e (end_of b.lines) && is_empty bs) || are_parts (is_sequence n) a e b (end_of b.lines) bs) (same b.label)
      (or_right (closes a e (end_of b.lines) && is_empty bs) (are_parts (is_sequence n) a e b (end_of b.lines) bs) (ap (λ x. are_parts (is_sequence n) a e b x bs) p ∙ h))

  parts_full : (a : Around) (e : Ending) (l : ℕ) (bs : List Block) → IsSequence a e l bs → length bs ≤ suc n → is_sequence (suc n) a e l bs ≡ true
  parts_full _ _ _ _ (closed a e b h) le = both (b.label == b.label) ((closes a e (end_of b.lines) && true) || are_parts (is_sequence n) a e b (end_of b.lines) []) (same b.label)
      (or_left (closes a e (end_of b.lines) && true) (are_parts (is_sequence n) a e b (end_of b.lines) []) (both (closes a e (end_of b.lines)) true h refl))
  parts_full _ _ _ _ (goes_on a e b k bs p s) le = at a e b bs (Goes k) p (full a e k bs s (omega arith))
  parts_full _ _ _ _ (chooses a e b m t f arms bs p h s) le =
      let sum = length-append arms bs in
      at a e b (arms ++ bs) (Chooses m t f) p
      (cut_at (λ us vs. are_arms (is_sequence n) a false m (arms_of (m ∷ []) (t ∷ f ∷ [])) us && is_sequence n a e m vs) arms bs
      (both (are_arms (is_sequence n) a false m (arms_of (m ∷ []) (t ∷ f ∷ [])) arms) (is_sequence n a e m bs) (arms_full a false m (arms_of (m ∷ []) (t ∷ f ∷ [])) arms h (omega arith)) (full a e m bs s (omega arith))))
  parts_full _ _ _ _ (switches a e b m d ts before after arms bs p o h s) le =
      let sum = length-append arms bs in
      let order = before ++ (own_default m d ts ++ after) in
      at a e b (arms ++ bs) (Switches m d ts) p
      (subst (λ (ls : List ℕ). any_cut (λ before after. any_cut (λ us vs. are_arms (is_sequence n) (in_switch a m) true m (before ++ (own_default m d ts ++ after)) us && is_sequence n a e m vs) (arms ++ bs)) ls ≡ true) (sym o)
      (cut_at (λ before after. any_cut (λ us vs. are_arms (is_sequence n) (in_switch a m) true m (before ++ (own_default m d ts ++ after)) us && is_sequence n a e m vs) (arms ++ bs)) before after
      (cut_at (λ us vs. are_arms (is_sequence n) (in_switch a m) true m order us && is_sequence n a e m vs) arms bs
      (both (are_arms (is_sequence n) (in_switch a m) true m order arms) (is_sequence n a e m bs) (arms_full (in_switch a m) true m order arms h (omega arith)) (full a e m bs s (omega arith))))))
  parts_full _ _ _ _ (loops a e b m c k jump body again bs p g h i s) le =
      let sum = length-append body (again ++ bs) in
      let rest = length-append again bs in
      at a e b (body ++ (again ++ bs)) (Loops m c jump) p
      (subst (λ (k : ℕ). leads m k jump && any_cut (λ us vs. is_sequence n (in_loop a m c) (To (c ∷ [])) k us && any_cut (λ ws xs. is_sequence n in_continue (Back b.label m) c ws && is_sequence n a e m xs) vs) (body ++ (again ++ bs)) ≡ true)
      (sym (label_is (in_loop a m c) (To (c ∷ [])) k body (again ++ bs) h))
      (both (leads m k jump) (any_cut (λ us vs. is_sequence n (in_loop a m c) (To (c ∷ [])) k us && any_cut (λ ws xs. is_sequence n in_continue (Back b.label m) c ws && is_sequence n a e m xs) vs) (body ++ (again ++ bs))) g
      (cut_at (λ us vs. is_sequence n (in_loop a m c) (To (c ∷ [])) k us && any_cut (λ ws xs. is_sequence n in_continue (Back b.label m) c ws && is_sequence n a e m xs) vs) body (again ++ bs)
      (both (is_sequence n (in_loop a m c) (To (c ∷ [])) k body) (any_cut (λ ws xs. is_sequence n in_continue (Back b.label m) c ws && is_sequence n a e m xs) (again ++ bs)) (full (in_loop a m c) (To (c ∷ [])) k body h (omega arith))
      (cut_at (λ ws xs. is_sequence n in_continue (Back b.label m) c ws && is_sequence n a e m xs) again bs
      (both (is_sequence n in_continue (Back b.label m) c again) (is_sequence n a e m bs) (full in_continue (Back b.label m) c again i (omega arith)) (full a e m bs s (omega arith))))))))

none_empty : (a : Around) (e : Ending) (l : ℕ) (bs : List Block) → IsSequence a e l bs → 1 ≤ length bs
none_empty _ _ _ _ (closed a e b h) = omega arith
none_empty _ _ _ _ (goes_on a e b k bs p s) = omega arith
none_empty _ _ _ _ (chooses a e b m t f arms bs p h s) = omega arith
none_empty _ _ _ _ (switches a e b m d ts before after arms bs p o h s) = omega arith
none_empty _ _ _ _ (loops a e b m c k jump body again bs p g h i s) = omega arith

sequence_full : (n : ℕ) → IsFull n
sequence_full zero a e l bs s le = let h = none_empty a e l bs s in absurd (omega arith)
sequence_full (suc n) a e l bs s le = parts_full n (sequence_full n) a e l bs s le

-- ---- both ways

pub structured_passes : (lines : List Line) → IsStructured lines → is_structured lines ≡ true
structured_passes lines s = sequence_full (length (blocks_in lines)) outermost (To []) (first_label (blocks_in lines)) (blocks_in lines) s (omega arith)

pub passes_structured : (lines : List Line) → is_structured lines ≡ true → IsStructured lines
passes_structured lines h = sequence_sound (length (blocks_in lines)) outermost (To []) (first_label (blocks_in lines)) (blocks_in lines) h
