-- What stands before and behind each line of a kernel's module, line by line.
use Rattle.std.proofs.Common.{◌≡◌, ℕ, ◌+◌, ◌<◌, ◌≤◌, Bool, true, false, ◌||◌, List, [], ◌∷◌, ◌++◌, Option, Some, None, cond, refl, sym, ap, ◌∙◌, arith, ne_eqb}
use Rattle.std.specs.List.{list_all}
use Rattle.std.proofs.lemmas.Bool.Decides.{nat_tests}
use Rattle.std.specs.Prelude.{find, nat_eq, nat_le, nat_lt, ◌&&◌, ◌⊎◌}
use Rattle.std.proofs.Common.{inl, inr}
use Rattle.spv_module.specs.declared.module.Inst.{Inst}
use Rattle.spv_module.specs.declared.module.Operand.TheVariants.{Id, Word}
use Rattle.spv_module.specs.declared.op.TheConstants as op
use Rattle.clv_engine.specs.declared.form.Kernel.{Kernel}
use Rattle.clv_engine.specs.declared.form.Term.{Term}
use Rattle.clv_engine.specs.declared.form.Term.TheVariants.{GlobalId, Literal}
use Rattle.clv_engine.specs.declared.id.TheConstants as id
use Rattle.clv_engine.specs.Emitted.{inst, head, constants_from, global_id, terms, sums_from, sum_from, sum, function_end, reflection}
use Rattle.clv_engine.proofs.FactsScans.{code_of}
use Rattle.clv_engine.proofs.FactsLines.{const_line, label_line, load_line, extract_line, add_line, chain_line, store_line, return_line, end_line, kernel_line, name_line, buffer_line, sizes_line, code_behind, behind_label, main_line, the_whole, main_ended, block_terminated, main_alone}
use Rattle.spv_types_rules.specs.Lines.{Line, Whole, Spot, line, lines_from, lines_of, onto, parameters, behind_parameters, has_op, has_op_among, constant_opcodes, value_opcodes, own_opcodes, is_id, ends_function, to_end, is_ended, defines, defined, type_by}
use Rattle.spv_types_rules.specs.Sections.{section, follows}
use Rattle.spv_types_rules.specs.Ids.{makes, block_makes}
use Rattle.spv_types_rules.specs.Entries.{has_no_parameter}
use Rattle.spv_types_rules.specs.Functions.{to_label, is_terminated, has_body, returned}
use Rattle.spv_types_rules.specs.Rules.{all_keep}

-- ---- steps

abbrev pub IsReached : List Line → ℕ → Line → Type 0
IsReached b x l = ((has_op_among value_opcodes l ≡ false) × (has_op_among own_opcodes l ≡ false)) ⊎ ((has_op_among value_opcodes l ≡ true) × (block_makes false b x ≡ true))

-- an int that may be used behind some lines
pub record IsUint (w : Whole) (b : List Line) (x : ℕ) : Type 0 where
  pub line : Line
  pub found : defined w x ≡ Some line
  pub valued : (has_op_among own_opcodes line || has_op_among constant_opcodes line || has_op_among value_opcodes line) ≡ true
  pub kind : line.type ≡ Some id.UINT
  pub typed : type_by (Some line) ≡ Some id.UINT
  pub reached : IsReached b x line
  pub high : 12 ≤ x

-- a line of a kernel's module behind its head, with the lines before it, the last first, and those after it
pub data Step (w : Whole) : List Line → Line → List Line → Type 0 where
  constant : (b a : List Line) (r n : ℕ) → follows b (const_line r n) ≡ true → makes b r ≡ false → makes b id.UINT ≡ true → Step w b (const_line r n) a
  main : (b a : List Line) → follows b main_line ≡ true → makes b id.MAIN ≡ false → is_ended a ≡ true → parameters (to_end a) ≡ [] → has_body (behind_parameters (to_end a)) ≡ true → has_no_parameter (to_end a) ≡ true → Step w b main_line a
  label : (b a : List Line) → follows b label_line ≡ true → makes b id.ENTRY ≡ false → is_terminated (to_label a) ≡ true → Step w b label_line a
  load : (b a : List Line) (r : ℕ) → follows b (load_line r) ≡ true → makes b r ≡ false → Step w b (load_line r) a
  extract : (b a : List Line) (r c : ℕ) → follows b (extract_line r c) ≡ true → makes b r ≡ false → defined w c ≡ Some (load_line c) → block_makes false b c ≡ true → 12 ≤ c → Step w b (extract_line r c) a
  add : (b a : List Line) (r x y : ℕ) → follows b (add_line r x y) ≡ true → makes b r ≡ false → IsUint w b x → IsUint w b y → Step w b (add_line r x y) a
  chain : (b a : List Line) → follows b chain_line ≡ true → makes b id.ELEMENT ≡ false → IsUint w b (id.PLACE + 1) → Step w b chain_line a
  store : (b a : List Line) (x : ℕ) → follows b (store_line x) ≡ true → defined w id.ELEMENT ≡ Some chain_line → block_makes false b id.ELEMENT ≡ true → IsUint w b x → Step w b (store_line x) a
  return : (b a : List Line) → follows b return_line ≡ true → returned b ≡ Some id.VOID → Step w b return_line a
  end : (b a : List Line) → follows b end_line ≡ true → Step w b end_line a
  kernel : (b a : List Line) → follows b kernel_line ≡ true → makes b id.KERNEL_LINE ≡ false → defined w id.MAIN ≡ Some main_line → Step w b kernel_line a
  name : (b a : List Line) → follows b name_line ≡ true → makes b id.NAME_LINE ≡ false → Step w b name_line a
  buffer : (b a : List Line) → follows b buffer_line ≡ true → makes b id.BUFFER_LINE ≡ false → defined w id.KERNEL_LINE ≡ Some kernel_line → defined w id.NAME_LINE ≡ Some name_line → Step w b buffer_line a
  sizes : (b a : List Line) → follows b sizes_line ≡ true → makes b id.SIZES_LINE ≡ false → Step w b sizes_line a

pub data Walk (w : Whole) : List Line → List Line → Type 0 where
  none : (b : List Line) → Walk w b []
  step : (b : List Line) (l : Line) (a : List Line) → Step w b l a → Walk w (l ∷ b) a → Walk w b (l ∷ a)

pub both : (x y : Bool) → x ≡ true → y ≡ true → x && y ≡ true
both x y p q = ap (λ z. z && y) p ∙ q

pub by_steps : (keeps : Spot → Bool) (w : Whole) → ((b : List Line) (l : Line) (a : List Line) → Step w b l a → keeps (record { whole = w; before = b; here = l; after = a }) ≡ true) → (b ls : List Line) → Walk w b ls → all_keep keeps w b ls ≡ true
by_steps keeps w each _ _ (none b) = refl
by_steps keeps w each _ _ (step b l a s more) = both (keeps (record { whole = w; before = b; here = l; after = a })) (all_keep keeps w (l ∷ b) a) (each b l a s) (by_steps keeps w each (l ∷ b) a more)

-- ---- what lines make

and_left : (x y : Bool) → x && y ≡ true → x ≡ true
and_left true y e = refl
and_left false y e = e

and_right : (x y : Bool) → x && y ≡ true → y ≡ true
and_right true y e = e
and_right false true e = refl
and_right false false e = e

or_true : (x : Bool) → x || true ≡ true
or_true false = refl
or_true true = refl

eq_same : (x : ℕ) → nat_eq x x ≡ true
eq_same x = grind (arith)

-- a line that makes another id makes no difference
makes_skip : (r x : ℕ) (z : Bool) → (r ≡ x → ⊥) → z ≡ false → nat_eq r x || z ≡ false
makes_skip r x z h e = ap (λ b. b || z) (ne_eqb r x h) ∙ e

or_left : (x y : Bool) → x || y ≡ false → x ≡ false
or_left false y e = refl
or_left true y e = e

or_right : (x y : Bool) → x || y ≡ false → y ≡ false
or_right false y e = e
or_right true false e = refl
or_right true true e = e

find_onto : (x : ℕ) (b ls : List Line) → makes b x ≡ false → find (defines x) (onto b ls) ≡ find (defines x) ls
find_onto x [] ls e = refl
find_onto x (p ∷ b) ls e =
    find_onto x b (p ∷ ls) (or_right (defines x p) (makes b x) e)
    ∙ ap (λ c. cond c (Some p) (find (defines x) ls)) (or_left (defines x p) (makes b x) e)

-- the line at a place defines an id that no line before it does
found_at : (w : Whole) (b a : List Line) (l : Line) (x : ℕ) → w.lines ≡ onto b (l ∷ a) → makes b x ≡ false → defines x l ≡ true → defined w x ≡ Some l
found_at w b a l x e f d = ap (find (defines x)) e ∙ find_onto x b (l ∷ a) f ∙ ap (λ c. cond c (Some l) (find (defines x) a)) d

-- ---- the terms' constants

-- the lines before, once the constants are passed
abbrev pushed : ℕ → List Term → List Line → List Line
pushed next [] b = b
pushed next (GlobalId ∷ ts) b = pushed (next + 3) ts b
pushed next (Literal n ∷ ts) b = pushed (next + 3) ts (const_line next n ∷ b)

-- no constant has the id
abbrev Apart : ℕ → List Term → ℕ → Type 0
Apart next [] x = Unit {0}
Apart next (GlobalId ∷ ts) x = Apart (next + 3) ts x
Apart next (Literal n ∷ ts) x = (next ≡ x → ⊥) × Apart (next + 3) ts x

apart_less : (next : ℕ) (ts : List Term) (x : ℕ) → x < next → Apart next ts x
apart_less next [] x h = tt
apart_less next (GlobalId ∷ ts) x h = apart_less (next + 3) ts x (omega arith)
apart_less next (Literal n ∷ ts) x h = (λ e. omega arith, apart_less (next + 3) ts x (omega arith))

pushed_makes : (next : ℕ) (ts : List Term) (b : List Line) (x : ℕ) → Apart next ts x → makes b x ≡ false → makes (pushed next ts b) x ≡ false
pushed_makes next [] b x h e = e
pushed_makes next (GlobalId ∷ ts) b x h e = pushed_makes (next + 3) ts b x h e
pushed_makes next (Literal n ∷ ts) b x h e = pushed_makes (next + 3) ts (const_line next n ∷ b) x h.1 (makes_skip next x (makes b x) h.0 e)

pushed_onto : (next : ℕ) (ts : List Term) (b : List Line) (rest : List Inst) → onto b (lines_from false (constants_from next ts ++ rest)) ≡ onto (pushed next ts b) (lines_from false rest)
pushed_onto next [] b rest = refl
pushed_onto next (GlobalId ∷ ts) b rest = pushed_onto (next + 3) ts b rest
pushed_onto next (Literal n ∷ ts) b rest = pushed_onto (next + 3) ts (const_line next n ∷ b) rest

-- lines of this section or a later one may follow
abbrev IsUpTo : ℕ → List Line → Type 0
IsUpTo n b = (l : Line) → nat_le n (section l) ≡ true → follows b l ≡ true

le_trans_test : (x y z : ℕ) → nat_le x y ≡ true → nat_le y z ≡ true → nat_le x z ≡ true
le_trans_test x y z e f = grind (arith, nat_tests)

abbrev is_early : Line → Bool
is_early l = nat_le (section l) 10

up_to : (b : List Line) → list_all is_early b ≡ true → IsUpTo 10 b
up_to [] e l f = refl
up_to (p ∷ b) e l f =
    both (nat_le (section p) (section l)) (follows b l)
    (le_trans_test (section p) 10 (section l) (and_left (is_early p) (list_all is_early b) e) f)
    (up_to b (and_right (is_early p) (list_all is_early b) e) l f)

pushed_up_to : (next : ℕ) (ts : List Term) (b : List Line) → IsUpTo 10 b → IsUpTo 10 (pushed next ts b)
pushed_up_to next [] b h = h
pushed_up_to next (GlobalId ∷ ts) b h = pushed_up_to (next + 3) ts b h
pushed_up_to next (Literal n ∷ ts) b h = pushed_up_to (next + 3) ts (const_line next n ∷ b) (λ l e. both (nat_le 10 (section l)) (follows b l) e (h l e))

walk_constants : (w : Whole) (next : ℕ) (ts : List Term) (b : List Line) (rest : List Inst) → IsUpTo 10 b → ((x : ℕ) → next ≤ x → makes b x ≡ false) → makes b id.UINT ≡ true → Walk w (pushed next ts b) (lines_from false rest) → Walk w b (lines_from false (constants_from next ts ++ rest))
walk_constants w next [] b rest o f u more = more
walk_constants w next (GlobalId ∷ ts) b rest o f u more = walk_constants w (next + 3) ts b rest o (λ x h. f x (omega arith)) u more
walk_constants w next (Literal n ∷ ts) b rest o f u more =
    step b (const_line next n) (lines_from false (constants_from (next + 3) ts ++ rest)) (constant b (lines_from false (constants_from (next + 3) ts ++ rest)) next n (o (const_line next n) refl) (f next (omega arith)) u)
    (walk_constants w (next + 3) ts (const_line next n ∷ b) rest (λ l e. both (nat_le 10 (section l)) (follows b l) e (o l e)) (λ x h. makes_skip next x (makes b x) (λ e. omega arith) (f x (omega arith))) (ap (λ z. nat_eq next id.UINT || z) u ∙ or_true (nat_eq next id.UINT)) more)

-- ---- the code

either_makes : (c : Bool) (b : List Line) (x : ℕ) → block_makes true b x ≡ true → block_makes false b x ≡ true → block_makes c b x ≡ true
either_makes true b x h k = h
either_makes false b x h k = k

-- what holds before a line of the block, before the line of the next term
record IsCode (w : Whole) (b : List Line) : Type 0 where
  ordered : IsUpTo 11 b
  low : (x : ℕ) → id.ELEMENT ≤ x → x < id.TERMS → makes b x ≡ false
  in_block : (x : ℕ) → block_makes true b x ≡ true
  place : IsUint w b (id.PLACE + 1)
  returns : returned b ≡ Some id.VOID

-- the ids of terms that are still free
abbrev IsFresh : ℕ → List Term → List Line → Type 0
IsFresh next ts b = (x : ℕ) → next ≤ x → Apart next ts x → makes b x ≡ false

-- the constants of terms
abbrev HasConstant : ℕ → List Term → ℕ → ℕ → Type 0
HasConstant next [] x n = ⊥
HasConstant next (GlobalId ∷ ts) x n = HasConstant (next + 3) ts x n
HasConstant next (Literal m ∷ ts) x n = ((x ≡ next) × (n ≡ m)) ⊎ HasConstant (next + 3) ts x n

abbrev AreConstants : Whole → ℕ → List Term → Type 0
AreConstants w next ts = (x n : ℕ) → HasConstant next ts x n → defined w x ≡ Some (const_line x n)

reached_on : (b : List Line) (l m : Line) (x : ℕ) → has_op op.LABEL l ≡ false → ends_function l ≡ false → ((y : ℕ) → block_makes true b y ≡ true) → IsReached b x m → IsReached (l ∷ b) x m
reached_on b l m x e f h (inl p) = inl p
reached_on b l m x e f h (inr p) =
    inr (
      p.0,
      ap (λ c. cond c false (cond (ends_function l) false (block_makes (defines x l) b x))) e
          ∙ ap (λ c. cond c false (block_makes (defines x l) b x)) f
          ∙ either_makes (defines x l) b x (h x) p.1,
    )

uint_on : (w : Whole) (b : List Line) (l : Line) (x : ℕ) → has_op op.LABEL l ≡ false → ends_function l ≡ false → ((y : ℕ) → block_makes true b y ≡ true) → IsUint w b x → IsUint w (l ∷ b) x
uint_on w b l x e f h u = record { line = u.line; found = u.found; valued = u.valued; kind = u.kind; typed = u.typed; reached = reached_on b l u.line x e f h u.reached; high = u.high }

-- a value that the line right before makes
made : (w : Whole) (b : List Line) (x y z : ℕ) → ((v : ℕ) → block_makes true b v ≡ true) → defined w x ≡ Some (add_line x y z) → 12 ≤ x → IsUint w (add_line x y z ∷ b) x
made w b x y z h e p = record { line = add_line x y z; found = e; valued = refl; kind = refl; typed = refl; reached = inr (refl, ap (λ c. block_makes c b x) (eq_same x) ∙ h x); high = p }

extracted : (w : Whole) (b : List Line) (x y : ℕ) → ((v : ℕ) → block_makes true b v ≡ true) → defined w x ≡ Some (extract_line x y) → 12 ≤ x → IsUint w (extract_line x y ∷ b) x
extracted w b x y h e p = record { line = extract_line x y; found = e; valued = refl; kind = refl; typed = refl; reached = inr (refl, ap (λ c. block_makes c b x) (eq_same x) ∙ h x); high = p }

-- ---- one line more

code_on : (w : Whole) (b : List Line) (l : Line) (r : ℕ) → l.result ≡ Some r → id.TERMS ≤ r → section l ≡ 11 → has_op op.LABEL l ≡ false → has_op op.FUNCTION l ≡ false → ends_function l ≡ false → IsCode w b → IsCode w (l ∷ b)
code_on w b l r e p s f g h c = record {
  ordered = λ m q. both (nat_le (section l) (section m)) (follows b m) (ap (λ n. nat_le n (section m)) s ∙ q) (c.ordered m q);
  low = λ x m n. ap (λ o. is_id o x || makes b x) e ∙ makes_skip r x (makes b x) (λ q. omega arith) (c.low x m n);
  in_block = λ x.
      ap (λ z. cond z true (cond (ends_function l) false (block_makes true b x))) f
      ∙ ap (λ z. cond z false (block_makes true b x)) h
      ∙ c.in_block x;
  place = uint_on w b l (id.PLACE + 1) f h c.in_block c.place;
  returns = ap (λ z. cond z l.type (returned b)) g ∙ c.returns;
}

module _ (w : Whole) where
  -- the lines of get_global_id(0), whose value is next + 1
  record IsAfterId (next : ℕ) (b : List Line) (rest : List Inst) : Type 0 where
    first : Step w b (load_line next) (lines_from true (inst op.COMPOSITE_EXTRACT (Id id.UINT ∷ Id (next + 1) ∷ Id next ∷ Word 0 ∷ []) ∷ rest))
    second : Step w (load_line next ∷ b) (extract_line (next + 1) next) (lines_from true rest)
    code : IsCode w (extract_line (next + 1) next ∷ (load_line next ∷ b))
    uint : IsUint w (extract_line (next + 1) next ∷ (load_line next ∷ b)) (next + 1)

  after_id : (next : ℕ) (b : List Line) (rest : List Inst) → id.TERMS ≤ next → IsCode w b → makes b next ≡ false → makes b (next + 1) ≡ false → w.lines ≡ onto b (lines_from true (global_id next ++ rest)) → IsAfterId next b rest
  after_id next b rest p c f g e =
      let behind = lines_from true rest in
      let load_found : defined w next ≡ Some (load_line next) = found_at w b (extract_line (next + 1) next ∷ behind) (load_line next) next e f (eq_same next) in
      let more : IsCode w (load_line next ∷ b) = code_on w b (load_line next) next refl p refl refl refl refl c in
      let fresh : makes (load_line next ∷ b) (next + 1) ≡ false = makes_skip next (next + 1) (makes b (next + 1)) (λ q. omega arith) g in
      let extract_found : defined w (next + 1) ≡ Some (extract_line (next + 1) next) = found_at w (load_line next ∷ b) behind (extract_line (next + 1) next) (next + 1) e fresh (eq_same (next + 1)) in
      let so_far : block_makes false (load_line next ∷ b) next ≡ true = ap (λ z. block_makes z b next) (eq_same next) ∙ c.in_block next in
      record {
        first = load b (extract_line (next + 1) next ∷ behind) next (c.ordered (load_line next) refl) f;
        second = extract (load_line next ∷ b) behind (next + 1) next (more.ordered (extract_line (next + 1) next) refl) fresh load_found so_far (omega arith);
        code = code_on w (load_line next ∷ b) (extract_line (next + 1) next) (next + 1) refl (omega arith) refl refl refl refl more;
        uint = extracted w (load_line next ∷ b) (next + 1) next more.in_block extract_found (omega arith);
      }

  fresh_on_id : (next : ℕ) (ts : List Term) (b : List Line) → IsFresh next (GlobalId ∷ ts) b → IsFresh (next + 3) ts (extract_line (next + 1) next ∷ (load_line next ∷ b))
  fresh_on_id next ts b f x p a =
      makes_skip (next + 1) x (makes (load_line next ∷ b) x) (λ e. omega arith)
      (makes_skip next x (makes b x) (λ e. omega arith) (f x (omega arith) a))

  fresh_on_literal : (next n : ℕ) (ts : List Term) (b : List Line) → IsFresh next (Literal n ∷ ts) b → IsFresh (next + 3) ts b
  fresh_on_literal next n ts b f x p a = f x (omega arith) (λ e. omega arith, a)

  fresh_on_add : (next r y z : ℕ) (ts : List Term) (b : List Line) → r < next → IsFresh next ts b → IsFresh next ts (add_line r y z ∷ b)
  fresh_on_add next r y z ts b q f x p a = makes_skip r x (makes b x) (λ e. omega arith) (f x p a)

  literal_uint : (next n : ℕ) (ts : List Term) (b : List Line) → id.TERMS ≤ next → AreConstants w next (Literal n ∷ ts) → IsUint w b next
  literal_uint next n ts b p c = record { line = const_line next n; found = c next n (inl (refl, refl)); valued = refl; kind = refl; typed = refl; reached = inl (refl, refl); high = omega arith }

  walk_sums : (next so_far : ℕ) (ts : List Term) (b : List Line) (rest : List Inst) → id.TERMS ≤ next → IsCode w b → IsFresh next ts b → AreConstants w next ts → IsUint w b so_far → w.lines ≡ onto b (lines_from true (sums_from next so_far ts ++ rest))
      → ((c : List Line) → IsCode w c → IsUint w c (sum_from next so_far ts) → w.lines ≡ onto c (lines_from true rest) → Walk w c (lines_from true rest))
      → Walk w b (lines_from true (sums_from next so_far ts ++ rest))
  walk_sums next so_far [] b rest p c f k u e more = more b c u e
  walk_sums next so_far (GlobalId ∷ ts) b rest p c f k u e more =
      let behind = sums_from (next + 3) (next + 2) ts ++ rest in
      let here = inst op.I_ADD (Id id.UINT ∷ Id (next + 2) ∷ Id so_far ∷ Id (next + 1) ∷ []) in
      let s = after_id next b (here ∷ behind) p c (f next (omega arith) (apart_less (next + 3) ts next (omega arith))) (f (next + 1) (omega arith) (apart_less (next + 3) ts (next + 1) (omega arith))) e in
      let before = extract_line (next + 1) next ∷ (load_line next ∷ b) in
      let free : makes before (next + 2) ≡ false =
      makes_skip (next + 1) (next + 2) (makes (load_line next ∷ b) (next + 2)) (λ q. omega arith)
      (makes_skip next (next + 2) (makes b (next + 2)) (λ q. omega arith) (f (next + 2) (omega arith) (apart_less (next + 3) ts (next + 2) (omega arith)))) in
      let left : IsUint w before so_far = uint_on w (load_line next ∷ b) (extract_line (next + 1) next) so_far refl refl (code_on w b (load_line next) next refl p refl refl refl refl c).in_block (uint_on w b (load_line next) so_far refl refl c.in_block u) in
      let found : defined w (next + 2) ≡ Some (add_line (next + 2) so_far (next + 1)) = found_at w before (lines_from true behind) (add_line (next + 2) so_far (next + 1)) (next + 2) e free (eq_same (next + 2)) in
      step b (load_line next) (lines_from true (inst op.COMPOSITE_EXTRACT (Id id.UINT ∷ Id (next + 1) ∷ Id next ∷ Word 0 ∷ []) ∷ (here ∷ behind))) s.first
      (step (load_line next ∷ b) (extract_line (next + 1) next) (lines_from true (here ∷ behind)) s.second
      (step before (add_line (next + 2) so_far (next + 1)) (lines_from true behind) (add before (lines_from true behind) (next + 2) so_far (next + 1) (s.code.ordered (add_line (next + 2) so_far (next + 1)) refl) free left s.uint)
      (walk_sums (next + 3) (next + 2) ts (add_line (next + 2) so_far (next + 1) ∷ before) rest (omega arith)
      (code_on w before (add_line (next + 2) so_far (next + 1)) (next + 2) refl (omega arith) refl refl refl refl s.code)
      (fresh_on_add (next + 3) (next + 2) so_far (next + 1) ts before (omega arith) (fresh_on_id next ts b f))
      k
      (made w before (next + 2) so_far (next + 1) s.code.in_block found (omega arith))
      e more)))
  walk_sums next so_far (Literal n ∷ ts) b rest p c f k u e more =
      let behind = sums_from (next + 3) (next + 2) ts ++ rest in
      let free : makes b (next + 2) ≡ false = f (next + 2) (omega arith) (λ q. omega arith, apart_less (next + 3) ts (next + 2) (omega arith)) in
      let found : defined w (next + 2) ≡ Some (add_line (next + 2) so_far next) = found_at w b (lines_from true behind) (add_line (next + 2) so_far next) (next + 2) e free (eq_same (next + 2)) in
      step b (add_line (next + 2) so_far next) (lines_from true behind) (add b (lines_from true behind) (next + 2) so_far next (c.ordered (add_line (next + 2) so_far next) refl) free u (literal_uint next n ts b p k))
      (walk_sums (next + 3) (next + 2) ts (add_line (next + 2) so_far next ∷ b) rest (omega arith)
      (code_on w b (add_line (next + 2) so_far next) (next + 2) refl (omega arith) refl refl refl refl c)
      (fresh_on_add (next + 3) (next + 2) so_far next ts b (omega arith) (fresh_on_literal next n ts b f))
      (λ x m h. k x m (inr h))
      (made w b (next + 2) so_far next c.in_block found (omega arith))
      e more)

  walk_terms : (ts : List Term) (b : List Line) (rest : List Inst) → IsCode w b → IsFresh id.TERMS ts b → AreConstants w id.TERMS ts → IsUint w b id.ZERO → w.lines ≡ onto b (lines_from true (terms ts ++ rest))
      → ((c : List Line) → IsCode w c → IsUint w c (sum ts) → w.lines ≡ onto c (lines_from true rest) → Walk w c (lines_from true rest))
      → Walk w b (lines_from true (terms ts ++ rest))
  walk_terms [] b rest c f k z e more = more b c z e
  walk_terms (GlobalId ∷ ts) b rest c f k z e more =
      let behind = sums_from (id.TERMS + 3) (id.TERMS + 1) ts ++ rest in
      let s = after_id id.TERMS b behind (omega arith) c (f id.TERMS (omega arith) (apart_less (id.TERMS + 3) ts id.TERMS (omega arith))) (f (id.TERMS + 1) (omega arith) (apart_less (id.TERMS + 3) ts (id.TERMS + 1) (omega arith))) e in
      step b (load_line id.TERMS) (lines_from true (inst op.COMPOSITE_EXTRACT (Id id.UINT ∷ Id (id.TERMS + 1) ∷ Id id.TERMS ∷ Word 0 ∷ []) ∷ behind)) s.first
      (step (load_line id.TERMS ∷ b) (extract_line (id.TERMS + 1) id.TERMS) (lines_from true behind) s.second
      (walk_sums (id.TERMS + 3) (id.TERMS + 1) ts (extract_line (id.TERMS + 1) id.TERMS ∷ (load_line id.TERMS ∷ b)) rest (omega arith) s.code (fresh_on_id id.TERMS ts b f) k s.uint e more))
  walk_terms (Literal n ∷ ts) b rest c f k z e more =
      walk_sums (id.TERMS + 3) id.TERMS ts b rest (omega arith) c (fresh_on_literal id.TERMS n ts b f) (λ x m h. k x m (inr h)) (literal_uint id.TERMS n ts b (omega arith) k) e more

  walk_end : (x : ℕ) (b : List Line) → IsCode w b → IsUint w b x → defined w id.MAIN ≡ Some main_line → w.lines ≡ onto b (lines_from true (function_end x ++ reflection)) → Walk w b (lines_from true (function_end x ++ reflection))
  walk_end x b c u m e =
      let after_name = buffer_line ∷ (sizes_line ∷ []) in
      let after_kernel = name_line ∷ after_name in
      let after_end = kernel_line ∷ after_kernel in
      let after_return = end_line ∷ after_end in
      let after_store = return_line ∷ after_return in
      let after_chain = store_line x ∷ after_store in
      let with_store = store_line x ∷ (chain_line ∷ b) in
      let with_end = end_line ∷ (return_line ∷ with_store) in
      let with_name = name_line ∷ (kernel_line ∷ with_end) in
      let free : (y : ℕ) → id.ELEMENT ≤ y → y < id.TERMS → makes b y ≡ false = c.low in
      let chain_free = free id.ELEMENT (omega arith) (omega arith) in
      let kernel_free = free id.KERNEL_LINE (omega arith) (omega arith) in
      let name_free = free id.NAME_LINE (omega arith) (omega arith) in
      let chain_found : defined w id.ELEMENT ≡ Some chain_line = found_at w b after_chain chain_line id.ELEMENT e chain_free refl in
      let kernel_found : defined w id.KERNEL_LINE ≡ Some kernel_line = found_at w with_end after_kernel kernel_line id.KERNEL_LINE e kernel_free refl in
      let name_found : defined w id.NAME_LINE ≡ Some name_line = found_at w (kernel_line ∷ with_end) after_name name_line id.NAME_LINE e name_free refl in
      step b chain_line after_chain (chain b after_chain (c.ordered chain_line refl) chain_free c.place)
      (step (chain_line ∷ b) (store_line x) after_store (store (chain_line ∷ b) after_store x (c.ordered (store_line x) refl) chain_found (c.in_block id.ELEMENT) (uint_on w b chain_line x refl refl c.in_block u))
      (step with_store return_line after_return (return with_store after_return (c.ordered return_line refl) c.returns)
      (step (return_line ∷ with_store) end_line after_end (end (return_line ∷ with_store) after_end (c.ordered end_line refl))
      (step with_end kernel_line after_kernel (kernel with_end after_kernel (c.ordered kernel_line refl) kernel_free m)
      (step (kernel_line ∷ with_end) name_line after_name (name (kernel_line ∷ with_end) after_name (c.ordered name_line refl) name_free)
      (step with_name buffer_line (sizes_line ∷ []) (buffer with_name (sizes_line ∷ []) (c.ordered buffer_line refl) (free id.BUFFER_LINE (omega arith) (omega arith)) kernel_found name_found)
      (step (buffer_line ∷ with_name) sizes_line [] (sizes (buffer_line ∷ with_name) [] (c.ordered sizes_line refl) (free id.SIZES_LINE (omega arith) (omega arith)))
      (none (sizes_line ∷ (buffer_line ∷ with_name))))))))))

-- ---- a kernel's module

-- the lines of the head, the last first
abbrev pub behind_head : Kernel → List Line
behind_head k = onto (lines_of (head k)) []

abbrev is_below : ℕ → Option ℕ → Bool
is_below n None = true
is_below n (Some r) = nat_lt r n

abbrev makes_below : ℕ → Line → Bool
makes_below n l = is_below n l.result

no_id : (n x : ℕ) (o : Option ℕ) → is_below n o ≡ true → n ≤ x → is_id o x ≡ false
no_id n x None e h = refl
no_id n x (Some r) e h = ne_eqb r x (λ q. grind (arith, nat_tests))

below_none : (n x : ℕ) (ls : List Line) → list_all (makes_below n) ls ≡ true → n ≤ x → makes ls x ≡ false
below_none n x [] e h = refl
below_none n x (l ∷ ls) e h =
    ap (λ b. b || makes ls x) (no_id n x l.result (and_left (makes_below n l) (list_all (makes_below n) ls) e) h)
    ∙ below_none n x ls (and_right (makes_below n l) (list_all (makes_below n) ls) e) h

-- the ids of the head end with that of the buffer
head_makes_none : (k : Kernel) (x : ℕ) → id.ENTRY ≤ x → makes (behind_head k) x ≡ false
head_makes_none k x h = below_none id.ENTRY x (behind_head k) refl h

eq_when : (r x : ℕ) → r ≡ x → nat_eq r x ≡ true
eq_when r x e = ap (λ y. nat_eq r y) (sym e) ∙ eq_same r

defined_constant : (next : ℕ) (ts : List Term) (rest : List Inst) (x n : ℕ) → HasConstant next ts x n → (next ≤ x) × (find (defines x) (lines_from false (constants_from next ts ++ rest)) ≡ Some (const_line x n))
defined_constant next [] rest x n h = absurd h
defined_constant next (GlobalId ∷ ts) rest x n h = let d = defined_constant (next + 3) ts rest x n h in (omega arith, d.1)
defined_constant next (Literal m ∷ ts) rest x n (inl p) = (
  omega arith,
  ap (λ c. cond c (Some (const_line next m)) (find (defines x) (lines_from false (constants_from (next + 3) ts ++ rest)))) (eq_when next x (sym p.0))
      ∙ ap (λ y. Some (const_line y m)) (sym p.0) ∙ ap (λ y. Some (const_line x y)) (sym p.1),
)
defined_constant next (Literal m ∷ ts) rest x n (inr h) =
    let d = defined_constant (next + 3) ts rest x n h in
    (omega arith, ap (λ c. cond c (Some (const_line next m)) (find (defines x) (lines_from false (constants_from (next + 3) ts ++ rest)))) (ne_eqb next x (λ e. omega arith)) ∙ d.1)

module _ (k : Kernel) where
  -- the lines before OpFunction
  abbrev front : List Line
  front = pushed id.TERMS k.terms (behind_head k)

  front_makes_none : (x : ℕ) → x < id.TERMS → makes (behind_head k) x ≡ false → makes front x ≡ false
  front_makes_none x h e = pushed_makes id.TERMS k.terms (behind_head k) x (apart_less id.TERMS k.terms x h) e

  lines_are : (the_whole k).lines ≡ onto front (lines_from false (code_of k.terms))
  lines_are = pushed_onto id.TERMS k.terms (behind_head k) (code_of k.terms)

  pub main_found : defined (the_whole k) id.MAIN ≡ Some main_line
  main_found = found_at (the_whole k) front (lines_from true (code_behind k.terms)) main_line id.MAIN lines_are (front_makes_none id.MAIN (omega arith) refl) refl

  constants_found : AreConstants (the_whole k) id.TERMS k.terms
  constants_found x n h =
      let d = defined_constant id.TERMS k.terms (code_of k.terms) x n h in
      find_onto x (behind_head k) (lines_from false (constants_from id.TERMS k.terms ++ code_of k.terms)) (head_makes_none k x (omega arith)) ∙ d.1

  -- ---- up to the terms

  abbrev place_lines : List Line
  place_lines = extract_line (id.PLACE + 1) id.PLACE ∷ (load_line id.PLACE ∷ (label_line ∷ (main_line ∷ front)))

  abbrev behind_terms : List Inst
  behind_terms = function_end (sum k.terms) ++ reflection

  load_found : defined (the_whole k) id.PLACE ≡ Some (load_line id.PLACE)
  load_found = found_at (the_whole k) (label_line ∷ (main_line ∷ front)) (extract_line (id.PLACE + 1) id.PLACE ∷ lines_from true (terms k.terms ++ behind_terms)) (load_line id.PLACE) id.PLACE lines_are (front_makes_none id.PLACE (omega arith) refl) refl

  extract_found : defined (the_whole k) (id.PLACE + 1) ≡ Some (extract_line (id.PLACE + 1) id.PLACE)
  extract_found = found_at (the_whole k) (load_line id.PLACE ∷ (label_line ∷ (main_line ∷ front))) (lines_from true (terms k.terms ++ behind_terms)) (extract_line (id.PLACE + 1) id.PLACE) (id.PLACE + 1) lines_are (front_makes_none (id.PLACE + 1) (omega arith) refl) refl

  front_up_to : IsUpTo 10 front
  front_up_to = pushed_up_to id.TERMS k.terms (behind_head k) (up_to (behind_head k) refl)

  -- the lines up to the load may be followed by lines of functions
  up_to_place : IsUpTo 11 (load_line id.PLACE ∷ (label_line ∷ (main_line ∷ front)))
  up_to_place l e =
      both (nat_le 11 (section l)) (follows (label_line ∷ (main_line ∷ front)) l) e
      (both (nat_le 11 (section l)) (follows (main_line ∷ front) l) e
      (both (nat_le 11 (section l)) (follows front l) e
      (front_up_to l (le_trans_test 10 11 (section l) refl e))))

  place_code : IsCode (the_whole k) place_lines
  place_code = record {
    ordered = λ l e. both (nat_le 11 (section l)) (follows (load_line id.PLACE ∷ (label_line ∷ (main_line ∷ front))) l) e (up_to_place l e);
    low = λ x p q. makes_skip (id.PLACE + 1) x (makes (load_line id.PLACE ∷ (label_line ∷ (main_line ∷ front))) x) (λ e. omega arith)
        (makes_skip id.PLACE x (makes (label_line ∷ (main_line ∷ front)) x) (λ e. omega arith)
        (makes_skip id.ENTRY x (makes (main_line ∷ front) x) (λ e. omega arith)
        (makes_skip id.MAIN x (makes front x) (λ e. omega arith) (front_makes_none x q (head_makes_none k x (omega arith))))));
    in_block = λ x. refl;
    place = record { line = extract_line (id.PLACE + 1) id.PLACE; found = extract_found; valued = refl; kind = refl; typed = refl; reached = inr (refl, refl); high = omega arith };
    returns = refl;
  }

  place_fresh : IsFresh id.TERMS k.terms place_lines
  place_fresh x p a =
      makes_skip (id.PLACE + 1) x (makes (load_line id.PLACE ∷ (label_line ∷ (main_line ∷ front))) x) (λ e. omega arith)
      (makes_skip id.PLACE x (makes (label_line ∷ (main_line ∷ front)) x) (λ e. omega arith)
      (makes_skip id.ENTRY x (makes (main_line ∷ front) x) (λ e. omega arith)
      (makes_skip id.MAIN x (makes front x) (λ e. omega arith)
      (pushed_makes id.TERMS k.terms (behind_head k) x a (head_makes_none k x (omega arith))))))

  zero_uint : IsUint (the_whole k) place_lines id.ZERO
  zero_uint = record { line = line false (inst op.CONSTANT (Id id.UINT ∷ Id id.ZERO ∷ Word 0 ∷ [])); found = refl; valued = refl; kind = refl; typed = refl; reached = inl (refl, refl); high = omega arith }

  walk_code : Walk (the_whole k) front (lines_from false (code_of k.terms))
  walk_code =
      let behind = lines_from true (terms k.terms ++ behind_terms) in
      step front main_line (lines_from true (code_behind k.terms)) (main front (lines_from true (code_behind k.terms)) (front_up_to main_line refl) (front_makes_none id.MAIN (omega arith) refl) (main_ended k.terms) refl (main_alone k.terms) (main_alone k.terms))
      (step (main_line ∷ front) label_line (lines_from true (behind_label k.terms)) (label (main_line ∷ front) (lines_from true (behind_label k.terms)) (front_up_to label_line refl) (front_makes_none id.ENTRY (omega arith) refl) (block_terminated k.terms))
      (step (label_line ∷ (main_line ∷ front)) (load_line id.PLACE) (extract_line (id.PLACE + 1) id.PLACE ∷ behind) (load (label_line ∷ (main_line ∷ front)) (extract_line (id.PLACE + 1) id.PLACE ∷ behind) id.PLACE (front_up_to (load_line id.PLACE) refl) (front_makes_none id.PLACE (omega arith) refl))
      (step (load_line id.PLACE ∷ (label_line ∷ (main_line ∷ front))) (extract_line (id.PLACE + 1) id.PLACE) behind (extract (load_line id.PLACE ∷ (label_line ∷ (main_line ∷ front))) behind (id.PLACE + 1) id.PLACE (front_up_to (extract_line (id.PLACE + 1) id.PLACE) refl) (front_makes_none (id.PLACE + 1) (omega arith) refl) load_found refl (omega arith))
      (walk_terms (the_whole k) k.terms place_lines behind_terms place_code place_fresh constants_found zero_uint lines_are (λ c h u e. walk_end (the_whole k) (sum k.terms) c h u main_found e)))))

  pub walk : Walk (the_whole k) (behind_head k) (lines_from false (constants_from id.TERMS k.terms ++ code_of k.terms))
  walk = walk_constants (the_whole k) id.TERMS k.terms (behind_head k) (code_of k.terms) (up_to (behind_head k) refl) (λ x h. head_makes_none k x (omega arith)) refl walk_code
