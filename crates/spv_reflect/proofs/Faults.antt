-- The first break that is found is the first that there is, and where none is found there are rows.
use Rattle.std.proofs.Common.{◌≡◌, ℕ, ◌+◌, ◌≤◌, Bool, true, false, List, [], ◌∷◌, ◌++◌, length, zero, suc, Option, Some, None, refl, sym, ap, subst, ◌∙◌, arith, append_assoc, append-nil, length-append, ne_eqb, ◌⊎◌, inl, inr}
use Rattle.std.specs.Prelude.{if◌then◌else◌, ◌&&◌, ◌↔◌, Result, Ok, Err, IfOk, IfErr}
use Rattle.spv_module.specs.declared.module.Inst.{Inst}
use Rattle.spv_module.specs.Instructions.{said}
use Rattle.spv_module.specs.Options.{only_if, or_else}
use Rattle.spv_reflect.specs.declared.line.PlacedLine.{PlacedLine}
use Rattle.spv_reflect.specs.declared.rows.Reflection.{Reflection}
use Rattle.spv_reflect.specs.declared.stop.ReflectStop.{ReflectStop}
use Rattle.spv_reflect.specs.declared.stop.ReflectStop.TheVariants as stops
use Rattle.spv_reflect.specs.Reflection.{Line, line_of, with_line, lines_in, keeps, each_keeps, are_right, rows_in, rows_of, Breaks, IsFirstBreak}
use Rattle.spv_reflect.specs.Readings.{Placed, line_by, placed_at, placed_by, lines_by, lines_from, first_break, of_rule, fault_in, IsBroken, IsFaultOf, Answers}

-- ---- one rule, among some instructions behind others

module _ (rule : ℕ) (all : List Line) (body : List Inst) where
  -- one of these instructions, so many behind the first, is a line that breaks the rule
  pub record BreaksIn (seen : List Line) (is : List Inst) (count : ℕ) : Type 0 where
    pub before : List Inst
    pub inst : Inst
    pub after : List Inst
    pub line : Line
    pub split : is ≡ before ++ inst ∷ after
    pub stands : count ≡ length before
    pub reads : line_of body (said inst) ≡ Some line
    pub broken : keeps rule all (seen ++ lines_in body before) line ≡ false

  abbrev pub found_in : List Line → ℕ → List Inst → Option ℕ
  found_in seen at is = first_break rule all seen (lines_from body at is)

  -- ---- one instruction

  abbrev next : List Line → Option Line → List Line
  next seen None = seen
  next seen (Some l) = seen ++ l ∷ []

  abbrev keeps_here : List Line → Option Line → Bool
  keeps_here seen None = true
  keeps_here seen (Some l) = keeps rule all seen l

  abbrev here : Inst → Option Line
  here i = line_of body (said i)

  next-behind : (seen : List Line) (o : Option Line) (ls : List Line) → next seen o ++ ls ≡ seen ++ with_line o ls
  next-behind seen None ls = refl
  next-behind seen (Some l) ls = append_assoc seen (l ∷ []) ls

  found-head : (seen : List Line) (at : ℕ) (o : Option Line) (ps : List Placed) → first_break rule all seen (placed_at at o ps) ≡ (if keeps_here seen o then first_break rule all (next seen o) ps else Some at)
  found-head seen at None ps = refl
  found-head seen at (Some l) ps = refl

  each-head : (seen : List Line) (o : Option Line) (ls : List Line) → each_keeps rule all seen (with_line o ls) ≡ (keeps_here seen o && each_keeps rule all (next seen o) ls)
  each-head seen None ls = refl
  each-head seen (Some l) ls = refl

  record IsBrokenHere (seen : List Line) (o : Option Line) : Type 0 where
    line : Line
    is : o ≡ Some line
    broken : keeps rule all seen line ≡ false

  broken_here : (seen : List Line) (o : Option Line) → keeps_here seen o ≡ false → IsBrokenHere seen o
  broken_here seen None e = absurd (cc)
  broken_here seen (Some l) e = record { line = l; is = refl; broken = e }

  here_first : (seen : List Line) (i : Inst) (is : List Inst) → IsBrokenHere seen (here i) → BreaksIn seen (i ∷ is) 0
  here_first seen i is b = record { before = []; inst = i; after = is; line = b.line; split = refl; stands = refl; reads = b.is; broken = subst (λ (ls : List Line). keeps rule all ls b.line ≡ false) (sym (append-nil seen)) b.broken }

  here_later : (seen : List Line) (i : Inst) (is : List Inst) (n : ℕ) → BreaksIn (next seen (here i)) is n → BreaksIn seen (i ∷ is) (suc n)
  here_later seen i is n b = record {
    before = i ∷ b.before;
    inst = b.inst;
    after = b.after;
    line = b.line;
    split = ap (λ (js : List Inst). i ∷ js) b.split;
    stands = ap suc b.stands;
    reads = b.reads;
    broken = subst (λ (ls : List Line). keeps rule all ls b.line ≡ false) (next-behind seen (here i) (lines_in body b.before)) b.broken;
  }

  -- a break is at the first instruction or behind it
  record IsLater (seen : List Line) (is : List Inst) (count : ℕ) : Type 0 where
    n : ℕ
    more : count ≡ suc n
    breaks : BreaksIn seen is n

  parted : (seen : List Line) (i : Inst) (is before : List Inst) (inst : Inst) (after : List Inst) (line : Line) (count : ℕ) → i ∷ is ≡ before ++ inst ∷ after → count ≡ length before → line_of body (said inst) ≡ Some line → keeps rule all (seen ++ lines_in body before) line ≡ false → (keeps_here seen (here i) ≡ false) ⊎ IsLater (next seen (here i)) is count
  parted seen i is [] inst after line count split stands reads broken =
      let same : i ≡ inst = cc in
      let kept : keeps rule all seen line ≡ false = subst (λ (ls : List Line). keeps rule all ls line ≡ false) (append-nil seen) broken in
      inl (ap (keeps_here seen) (ap here same ∙ reads) ∙ kept)
  parted seen i is (j ∷ before) inst after line count split stands reads broken =
      let same : j ≡ i = cc in
      let tail : is ≡ before ++ inst ∷ after = cc in
      let kept : keeps rule all (next seen (here i) ++ lines_in body before) line ≡ false =
      subst (λ (ls : List Line). keeps rule all ls line ≡ false) (sym (next-behind seen (here i) (lines_in body before)))
      (subst (λ (k : Inst). keeps rule all (seen ++ with_line (here k) (lines_in body before)) line ≡ false) same broken) in
      inr (record { n = length before; more = stands; breaks = record { before = before; inst = inst; after = after; line = line; split = tail; stands = refl; reads = reads; broken = kept } })

  first_or_later : (seen : List Line) (i : Inst) (is : List Inst) (count : ℕ) → BreaksIn seen (i ∷ is) count → (keeps_here seen (here i) ≡ false) ⊎ IsLater (next seen (here i)) is count
  first_or_later seen i is count b = parted seen i is b.before b.inst b.after b.line count b.split b.stands b.reads b.broken

  none_in : (seen : List Line) (count : ℕ) → BreaksIn seen [] count → ⊥
  none_in seen count b = no_parts b.before b.inst b.after b.split where
    no_parts : (xs : List Inst) (x : Inst) (ys : List Inst) → [] ≡ xs ++ x ∷ ys → ⊥
    no_parts [] x ys e = cc
    no_parts (y ∷ xs) x ys e = cc

  -- ---- what is found

  pub record IsFound (seen : List Line) (is : List Inst) (at place : ℕ) : Type 0 where
    pub count : ℕ
    pub stands : place ≡ at + count
    pub breaks : BreaksIn seen is count

  found_test : (seen : List Line) (at : ℕ) (i : Inst) (is : List Inst) (place : ℕ) (b : Bool) → keeps_here seen (here i) ≡ b → (if b then found_in (next seen (here i)) (suc at) is else Some at) ≡ Some place → (found_in (next seen (here i)) (suc at) is ≡ Some place → IsFound (next seen (here i)) is (suc at) place) → IsFound seen (i ∷ is) at place
  found_test seen at i is place true k e more =
      let f = more e in
      record { count = suc f.count; stands = omega (arith, f.stands); breaks = here_later seen i is f.count f.breaks }
  found_test seen at i is place false k e more =
      let same : at ≡ place = cc in
      record { count = 0; stands = omega (arith, same); breaks = here_first seen i is (broken_here seen (here i) k) }

  pub found : (seen : List Line) (at : ℕ) (is : List Inst) (place : ℕ) → found_in seen at is ≡ Some place → IsFound seen is at place
  found seen at [] place e = absurd (cc)
  found seen at (i ∷ is) place e =
      found_test seen at i is place (keeps_here seen (here i)) refl (sym (found-head seen at (here i) (lines_from body (suc at) is)) ∙ e) (found (next seen (here i)) (suc at) is place)

  -- ---- no break is earlier

  abbrev IsNotBefore : ℕ → Option ℕ → Type 0
  IsNotBefore n None = ⊥
  IsNotBefore n (Some place) = place ≤ n

  earliest_test : (seen : List Line) (at : ℕ) (i : Inst) (is : List Inst) (count : ℕ) (b : Bool) → keeps_here seen (here i) ≡ b → (keeps_here seen (here i) ≡ false) ⊎ IsLater (next seen (here i)) is count → ((n : ℕ) → BreaksIn (next seen (here i)) is n → IsNotBefore (suc at + n) (found_in (next seen (here i)) (suc at) is)) → IsNotBefore (at + count) (if b then found_in (next seen (here i)) (suc at) is else Some at)
  earliest_test seen at i is count true k (inl f) more = absurd (cc)
  earliest_test seen at i is count true k (inr f) more =
      let same : suc at + f.n ≡ at + count = omega (arith, f.more) in
      subst (λ (m : ℕ). IsNotBefore m (found_in (next seen (here i)) (suc at) is)) same (more f.n f.breaks)
  earliest_test seen at i is count false k f more = omega arith

  pub earliest : (seen : List Line) (at : ℕ) (is : List Inst) (count : ℕ) → BreaksIn seen is count → IsNotBefore (at + count) (found_in seen at is)
  earliest seen at [] count b = absurd (none_in seen count b)
  earliest seen at (i ∷ is) count b =
      subst (IsNotBefore (at + count)) (sym (found-head seen at (here i) (lines_from body (suc at) is)))
      (earliest_test seen at i is count (keeps_here seen (here i)) refl (first_or_later seen i is count b) (λ (n : ℕ). earliest (next seen (here i)) (suc at) is n))

  -- ---- none is found where each line keeps the rule

  abbrev pub is_none : Option ℕ → Bool
  is_none None = true
  is_none (Some n) = false

  both : (b c : Bool) (o : Option ℕ) (at : ℕ) → c ≡ is_none o → (b && c) ≡ is_none (if b then o else Some at)
  both true c o at e = e
  both false c o at e = refl

  pub none_found : (seen : List Line) (at : ℕ) (is : List Inst) → each_keeps rule all seen (lines_in body is) ≡ is_none (found_in seen at is)
  none_found seen at [] = refl
  none_found seen at (i ∷ is) =
      each-head seen (here i) (lines_in body is)
      ∙ both (keeps_here seen (here i)) (each_keeps rule all (next seen (here i)) (lines_in body is)) (found_in (next seen (here i)) (suc at) is) at (none_found (next seen (here i)) (suc at) is)
      ∙ ap is_none (sym (found-head seen at (here i) (lines_from body (suc at) is)))

-- ---- a whole module

module _ (body : List Inst) where
  abbrev all : List Line
  all = lines_in body body

  abbrev place_of : ℕ → Option ℕ
  place_of rule = found_in rule all body [] 0 body

  within : (rule place : ℕ) → Breaks body rule place → BreaksIn rule all body [] body place
  within rule place b = record { before = b.before; inst = b.inst; after = b.after; line = b.line; split = b.split; stands = b.stands; reads = b.reads; broken = b.broken }

  broken_at : (rule place : ℕ) → place_of rule ≡ Some place → Breaks body rule place
  broken_at rule place e =
      let f = found rule all body [] 0 body place e in
      let b = f.breaks in
      record { before = b.before; inst = b.inst; after = b.after; line = b.line; split = b.split; stands = omega (arith, f.stands, b.stands); reads = b.reads; broken = b.broken }

  unbroken : (rule place : ℕ) → place_of rule ≡ None → Breaks body rule place → ⊥
  unbroken rule place e b = subst (IsNotBefore rule all body (0 + place)) e (earliest rule all body [] 0 body place (within rule place b))

  not_earlier : (rule place other : ℕ) → place_of rule ≡ Some place → Breaks body rule other → place ≤ other
  not_earlier rule place other e b =
      let h : place ≤ 0 + other = subst (IsNotBefore rule all body (0 + other)) e (earliest rule all body [] 0 body other (within rule other b)) in
      omega (arith, h)

  -- only three rules can be broken
  no_rule_0 : (place : ℕ) → Breaks body 0 place → ⊥
  no_rule_0 place b = absurd (cc (b.broken))

  no_rule_3 : (place : ℕ) → Breaks body 3 place → ⊥
  no_rule_3 place b = absurd (cc (b.broken))

  no_more_rules : (n place : ℕ) → Breaks body (suc (suc (suc (suc (suc n))))) place → ⊥
  no_more_rules n place b =
      let m = suc (suc (suc (suc (suc n)))) in
      let kept : keeps m all (lines_in body b.before) b.line ≡ true = rw (ne_eqb m 1 (λ e. omega arith), ne_eqb m 2 (λ e. omega arith), ne_eqb m 4 (λ e. omega arith)) refl in
      absurd (cc (sym kept ∙ b.broken))

  least_2 : place_of 1 ≡ None → (other at : ℕ) → Breaks body other at → 2 ≤ other
  least_2 e zero at b = absurd (no_rule_0 at b)
  least_2 e (suc zero) at b = absurd (unbroken 1 at e b)
  least_2 e (suc (suc n)) at b = omega arith

  least_4 : place_of 1 ≡ None → place_of 2 ≡ None → (other at : ℕ) → Breaks body other at → 4 ≤ other
  least_4 e f zero at b = absurd (no_rule_0 at b)
  least_4 e f (suc zero) at b = absurd (unbroken 1 at e b)
  least_4 e f (suc (suc zero)) at b = absurd (unbroken 2 at f b)
  least_4 e f (suc (suc (suc zero))) at b = absurd (no_rule_3 at b)
  least_4 e f (suc (suc (suc (suc n)))) at b = omega arith

  least_1 : (other at : ℕ) → Breaks body other at → 1 ≤ other
  least_1 zero at b = absurd (no_rule_0 at b)
  least_1 (suc n) at b = omega arith

  first_is : (rule place : ℕ) → place_of rule ≡ Some place → ((other at : ℕ) → Breaks body other at → rule ≤ other) → IsFirstBreak body rule place
  first_is rule place e least = record { breaks = broken_at rule place e; least = least; first = λ (at : ℕ) (b : Breaks body rule at). not_earlier rule place at e b }

  abbrev IsFaultThere : Option (ℕ × ℕ) → Type 0
  IsFaultThere None = Unit {0}
  IsFaultThere (Some (rule, place)) = IsFirstBreak body rule place

  fault_by : (a b c : Option ℕ) → place_of 1 ≡ a → place_of 2 ≡ b → place_of 4 ≡ c → IsFaultThere (or_else (of_rule 1 a) (or_else (of_rule 2 b) (of_rule 4 c)))
  fault_by (Some p) b c ea eb ec = first_is 1 p ea least_1
  fault_by None (Some p) c ea eb ec = first_is 2 p eb (least_2 ea)
  fault_by None None (Some p) ea eb ec = first_is 4 p ec (least_4 ea eb)
  fault_by None None None ea eb ec = tt

  abbrev pub fault_of : Option (ℕ × ℕ)
  fault_of = fault_in all (lines_from body 0 body)

  pub fault_first : (rule place : ℕ) → fault_of ≡ Some (rule, place) → IsFirstBreak body rule place
  fault_first rule place e = subst IsFaultThere e (fault_by (place_of 1) (place_of 2) (place_of 4) refl refl refl)

  -- ---- rows

  kept_where : (rule : ℕ) → place_of rule ≡ None → each_keeps rule all [] all ≡ true
  kept_where rule e = none_found rule all body [] 0 body ∙ ap (is_none rule all body) e

  right_by : (a b c : Option ℕ) → place_of 1 ≡ a → place_of 2 ≡ b → place_of 4 ≡ c → or_else (of_rule 1 a) (or_else (of_rule 2 b) (of_rule 4 c)) ≡ None → are_right all ≡ true
  right_by (Some p) b c ea eb ec e = absurd (cc)
  right_by None (Some p) c ea eb ec e = absurd (cc)
  right_by None None (Some p) ea eb ec e = absurd (cc)
  right_by None None None ea eb ec e = rw (kept_where 1 ea, kept_where 2 eb, kept_where 4 ec) refl

  pub rows_where : fault_of ≡ None → rows_of body ≡ Some (rows_in all)
  rows_where e = ap (λ (b : Bool). only_if b (rows_in all)) (right_by (place_of 1) (place_of 2) (place_of 4) refl refl refl e)

  -- a break keeps the rows away
  broken_where : (rule place : ℕ) (o : Option ℕ) → place_of rule ≡ o → Breaks body rule place → each_keeps rule all [] all ≡ false
  broken_where rule place None e b = absurd (unbroken rule place e b)
  broken_where rule place (Some p) e b = none_found rule all body [] 0 body ∙ ap (is_none rule all body) e

  first_false : (a b c : Bool) → a ≡ false → (a && b && c) ≡ false
  first_false true b c e = absurd (cc)
  first_false false b c e = refl

  second_false : (a b c : Bool) → b ≡ false → (a && b && c) ≡ false
  second_false a true c e = absurd (cc)
  second_false true false c e = refl
  second_false false false c e = refl

  third_false : (a b c : Bool) → c ≡ false → (a && b && c) ≡ false
  third_false a b true e = absurd (cc)
  third_false true true false e = refl
  third_false true false false e = refl
  third_false false b false e = refl

  wrong_where : (rule place : ℕ) → Breaks body rule place → are_right all ≡ false
  wrong_where zero place b = absurd (no_rule_0 place b)
  wrong_where (suc zero) place b = first_false (each_keeps 1 all [] all) (each_keeps 2 all [] all) (each_keeps 4 all [] all) (broken_where 1 place (place_of 1) refl b)
  wrong_where (suc (suc zero)) place b = second_false (each_keeps 1 all [] all) (each_keeps 2 all [] all) (each_keeps 4 all [] all) (broken_where 2 place (place_of 2) refl b)
  wrong_where (suc (suc (suc zero))) place b = absurd (no_rule_3 place b)
  wrong_where (suc (suc (suc (suc zero)))) place b = third_false (each_keeps 1 all [] all) (each_keeps 2 all [] all) (each_keeps 4 all [] all) (broken_where 4 place (place_of 4) refl b)
  wrong_where (suc (suc (suc (suc (suc n))))) place b = absurd (no_more_rules n place b)

  pub no_rows : (rule place : ℕ) → Breaks body rule place → rows_of body ≡ None
  no_rows rule place b = ap (λ (c : Bool). only_if c (rows_in all)) (wrong_where rule place b)

  whole_by : (o : Option (ℕ × ℕ)) → fault_of ≡ o → rows_of body ≡ None → IsBroken body
  whole_by None e h = absurd (cc (sym (rows_where e) ∙ h))
  whole_by (Some (rule, place)) e h = record { rule = rule; place = place; breaks = (fault_first rule place e).breaks }

  pub whole : (rows_of body ≡ None) ↔ IsBroken body
  whole = (whole_by fault_of refl, λ (b : IsBroken body). no_rows b.rule b.place b.breaks)

  -- a break stands in the body
  pub break_within : (rule place : ℕ) → Breaks body rule place → place ≤ length body
  break_within rule place b = omega (arith, b.stands, length-append b.before (b.inst ∷ b.after), ap length b.split)

-- ---- as the code reads it

abbrev lines_of : List Placed → List Line
lines_of [] = []
lines_of (p ∷ ps) = p.line ∷ lines_of ps

lines_by-placed : (ls : List PlacedLine) → lines_by ls ≡ lines_of (placed_by ls)
lines_by-placed [] = refl
lines_by-placed (l ∷ ls) = ap (λ ks. line_by l.line ∷ ks) (lines_by-placed ls)

lines_of-head : (at : ℕ) (o : Option Line) (ps : List Placed) → lines_of (placed_at at o ps) ≡ with_line o (lines_of ps)
lines_of-head at None ps = refl
lines_of-head at (Some l) ps = refl

lines_of-from : (body : List Inst) (at : ℕ) (is : List Inst) → lines_of (lines_from body at is) ≡ lines_in body is
lines_of-from body at [] = refl
lines_of-from body at (i ∷ is) = lines_of-head at (line_of body (said i)) (lines_from body (suc at) is) ∙ ap (with_line (line_of body (said i))) (lines_of-from body (suc at) is)

lines_are : (body : List Inst) (ls : List PlacedLine) → placed_by ls ≡ lines_from body 0 body → lines_by ls ≡ lines_in body body
lines_are body ls e = lines_by-placed ls ∙ ap lines_of e ∙ lines_of-from body 0 body

fault_is : (body : List Inst) (ls : List PlacedLine) → placed_by ls ≡ lines_from body 0 body → fault_in (lines_by ls) (placed_by ls) ≡ fault_of body
fault_is body ls e = ap (λ (ks : List Line). fault_in ks (placed_by ls)) (lines_are body ls e) ∙ ap (fault_in (lines_in body body)) e

pub fault_read : (body slice : List Inst) (ls : List PlacedLine) (rule place : ℕ) → slice ≡ body → placed_by ls ≡ lines_from slice 0 slice → Some (rule, place) ≡ fault_in (lines_by ls) (placed_by ls) → IsFirstBreak body rule place
fault_read body slice ls rule place s e f =
    let there : fault_of slice ≡ Some (rule, place) = sym (fault_is slice ls e) ∙ sym f in
    subst (λ (b : List Inst). IsFirstBreak b rule place) s (fault_first slice rule place there)

pub rows_read : (body slice : List Inst) (ls : List PlacedLine) (r : Reflection) → slice ≡ body → placed_by ls ≡ lines_from slice 0 slice → None ≡ fault_in (lines_by ls) (placed_by ls) → r ≡ rows_in (lines_by ls) → rows_of body ≡ Some r
rows_read body slice ls r s e f is =
    let none : fault_of slice ≡ None = sym (fault_is slice ls e) ∙ sym f in
    ap rows_of (sym s) ∙ rows_where slice none ∙ ap (λ (ks : List Line). Some (rows_in ks)) (sym (lines_are slice ls e)) ∙ ap Some (sym is)

pub read_where : (body : List Inst) (result : Result Reflection ReflectStop) → IfOk result (λ r. rows_of body ≡ Some r) → IfErr result (IsFaultOf body) → (r : Reflection) → rows_of body ≡ Some r → Answers r result
read_where body (Ok s) ok err r e = cc (sym ok ∙ e)
read_where body (Err stops.NoMemory) ok err r e = tt
read_where body (Err (stops.Fault n w)) ok err r e = absurd (cc (sym (no_rows body n err.place err.first.breaks) ∙ e))
