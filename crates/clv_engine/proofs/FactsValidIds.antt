-- The rules that a kernel's module keeps by what its ids are.
use Rattle.std.proofs.Common.{◌≡◌, ℕ, ◌+◌, Bool, true, false, List, [], ◌∷◌, Some, refl, ap, ◌∙◌, arith}
use Rattle.std.specs.Prelude.{◌&&◌, not}
use Rattle.clv_engine.specs.declared.form.Kernel.{Kernel}
use Rattle.clv_engine.specs.declared.id.TheConstants as id
use Rattle.clv_engine.proofs.FactsLines.{main_line, extract_line, add_line, chain_line, store_line, kernel_line, buffer_line, the_whole, calls_none}
use Rattle.clv_engine.proofs.FactsWalk.{IsUint, IsReached, Step, constant, main, label, load, extract, add, chain, store, return, end, kernel, name, buffer, sizes, Walk, none, step, both, behind_head, walk, main_found}
use Rattle.spv_types_rules.specs.Lines.{Line, Whole, Spot}
use Rattle.spv_types_rules.specs.Rules.{rule, all_keep, is_kept_in}
use Rattle.clv_engine.proofs.FactsValidPlain.{behind, from_walk, with_has}
use Rattle.std.specs.List.{list_all}
use Rattle.std.proofs.Common.{inl, inr, cond, ne_eqb}
use Rattle.spv_module.specs.Options.{is_there}
use Rattle.spv_module.specs.declared.op.TheConstants as op
use Rattle.spv_types_rules.specs.Lines.{has_op, has_op_among, own_opcodes, is_some_of, is_op_of, type_by, type_of, same_id, pointee}
use Rattle.spv_types_rules.specs.Sections.{is_in_order}
use Rattle.spv_types_rules.specs.Ids.{defines_once, keeps_kinds, is_ordered, keeps_uses, is_defined, is_value, is_value_line, may_use, may_use_by, reaches, function_makes, block_makes, makes}
use Rattle.spv_types_rules.specs.Types.{keeps_arrays, may_name_array, may_name_struct}
use Rattle.spv_types_rules.specs.Variables.{keeps_fixed, is_fixed, place_by, place_from, chain_base, steps_from, indices}
use Rattle.spv_types_rules.specs.Functions.{keeps_calls, keeps_functions, keeps_blocks, keeps_returns}
use Rattle.spv_types_rules.specs.Values.{keeps_operands, keeps_accesses, keeps_chains, keeps_composites, has_shape, shape_of, is_same_shape}

abbrev at : Kernel → List Line → Line → List Line → Spot
at k b l a = record { whole = the_whole k; before = b; here = l; after = a }

-- ---- what an int of the terms is

module _ (k : Kernel) (b : List Line) (x : ℕ) (u : IsUint (the_whole k) b x) where
  uint_defined : is_defined (the_whole k) x ≡ true
  uint_defined = ap is_there u.found

  uint_type : type_of (the_whole k) x ≡ Some id.UINT
  uint_type = ap type_by u.found ∙ u.typed

  uint_value : is_value (the_whole k) x ≡ true
  uint_value =
      ap (λ d. is_some_of d (is_value_line (the_whole k))) u.found
      ∙ ap (λ c. c && not (is_op_of (the_whole k) op.TYPE_VOID u.line.type)) u.valued
      ∙ ap (λ t. not (is_op_of (the_whole k) op.TYPE_VOID t)) u.kind

  uint_reaches : (l : Line) (a : List Line) → l.inside ≡ true → IsReached b x u.line → reaches (at k b l a) x u.line ≡ true
  uint_reaches l a e (inl p) =
      ap (λ c. cond c (l.inside && block_makes false b x) (cond (has_op_among own_opcodes u.line && u.line.inside) (function_makes (at k b l a) x) true)) p.0
      ∙ ap (λ c. cond (c && u.line.inside) (function_makes (at k b l a) x) true) p.1
  uint_reaches l a e (inr p) =
      ap (λ c. cond c (l.inside && block_makes false b x) (cond (has_op_among own_opcodes u.line && u.line.inside) (function_makes (at k b l a) x) true)) p.0
      ∙ both l.inside (block_makes false b x) e p.1

  uint_used : (l : Line) (a : List Line) → l.inside ≡ true → may_use (at k b l a) x ≡ true
  uint_used l a e = ap (λ d. may_use_by (at k b l a) x d) u.found ∙ uint_reaches l a e u.reached

  uint_shape : has_shape (the_whole k) (Some id.UINT) x ≡ true
  uint_shape = ap (λ t. is_same_shape (shape_of (the_whole k) (Some id.UINT)) (shape_of (the_whole k) t)) uint_type

-- ---- rule 1

keeps_1 : (k : Kernel) (b : List Line) (l : Line) (a : List Line) → Step (the_whole k) b l a → is_in_order (at k b l a) ≡ true
keeps_1 k _ _ _ (constant b a r n f m u) = f
keeps_1 k _ _ _ (main b a f m e p g h) = f
keeps_1 k _ _ _ (label b a f m e) = f
keeps_1 k _ _ _ (load b a r f m) = f
keeps_1 k _ _ _ (extract b a r c f m d e h) = f
keeps_1 k _ _ _ (add b a r x y f m u v) = f
keeps_1 k _ _ _ (chain b a f m u) = f
keeps_1 k _ _ _ (store b a x f d m u) = f
keeps_1 k _ _ _ (return b a f e) = f
keeps_1 k _ _ _ (end b a f) = f
keeps_1 k _ _ _ (kernel b a f m d) = f
keeps_1 k _ _ _ (name b a f m) = f
keeps_1 k _ _ _ (buffer b a f m d e) = f
keeps_1 k _ _ _ (sizes b a f m) = f

pub kept_1 : (k : Kernel) → is_kept_in (rule 1 is_in_order) (the_whole k) ≡ true
kept_1 k = with_has (rule 1 is_in_order) (the_whole k) (from_walk is_in_order k refl (keeps_1 k)) refl

-- ---- rule 6

free : (ls : List Line) (r : ℕ) → makes ls r ≡ false → not (makes ls r) ≡ true
free ls r e = ap not e

keeps_6 : (k : Kernel) (b : List Line) (l : Line) (a : List Line) → Step (the_whole k) b l a → defines_once (at k b l a) ≡ true
keeps_6 k _ _ _ (constant b a r n f m u) = both (not (makes b r)) true (free b r m) refl
keeps_6 k _ _ _ (main b a f m e p g h) = both (not (makes b id.MAIN)) true (free b id.MAIN m) refl
keeps_6 k _ _ _ (label b a f m e) = both (not (makes b id.ENTRY)) true (free b id.ENTRY m) refl
keeps_6 k _ _ _ (load b a r f m) = both (not (makes b r)) true (free b r m) refl
keeps_6 k _ _ _ (extract b a r c f m d e h) = both (not (makes b r)) (is_defined (the_whole k) c && true) (free b r m) (both (is_defined (the_whole k) c) true (ap is_there d) refl)
keeps_6 k _ _ _ (add b a r x y f m u v) = both (not (makes b r)) (is_defined (the_whole k) x && (is_defined (the_whole k) y && true)) (free b r m) (both (is_defined (the_whole k) x) (is_defined (the_whole k) y && true) (uint_defined k b x u) (both (is_defined (the_whole k) y) true (uint_defined k b y v) refl))
keeps_6 k _ _ _ (chain b a f m u) = both (not (makes b id.ELEMENT)) (is_defined (the_whole k) (id.PLACE + 1) && true) (free b id.ELEMENT m) (both (is_defined (the_whole k) (id.PLACE + 1)) true (uint_defined k b (id.PLACE + 1) u) refl)
keeps_6 k _ _ _ (store b a x f d m u) = both (is_defined (the_whole k) id.ELEMENT) (is_defined (the_whole k) x && true) (ap is_there d) (both (is_defined (the_whole k) x) true (uint_defined k b x u) refl)
keeps_6 k _ _ _ (return b a f e) = refl
keeps_6 k _ _ _ (end b a f) = refl
keeps_6 k _ _ _ (kernel b a f m d) = both (not (makes b id.KERNEL_LINE)) (is_defined (the_whole k) id.MAIN && true) (free b id.KERNEL_LINE m) (both (is_defined (the_whole k) id.MAIN) true (ap is_there d) refl)
keeps_6 k _ _ _ (name b a f m) = both (not (makes b id.NAME_LINE)) true (free b id.NAME_LINE m) refl
keeps_6 k _ _ _ (buffer b a f m d e) = both (not (makes b id.BUFFER_LINE)) (is_defined (the_whole k) id.KERNEL_LINE && (is_defined (the_whole k) id.NAME_LINE && true)) (free b id.BUFFER_LINE m) (both (is_defined (the_whole k) id.KERNEL_LINE) (is_defined (the_whole k) id.NAME_LINE && true) (ap is_there d) (both (is_defined (the_whole k) id.NAME_LINE) true (ap is_there e) refl))
keeps_6 k _ _ _ (sizes b a f m) = both (not (makes b id.SIZES_LINE)) true (free b id.SIZES_LINE m) refl

pub kept_6 : (k : Kernel) → is_kept_in (rule 6 defines_once) (the_whole k) ≡ true
kept_6 k = with_has (rule 6 defines_once) (the_whole k) (from_walk defines_once k (ap (λ d. (is_there d && true) && all_keep defines_once (the_whole k) (behind_head k) (behind k)) (main_found k)) (keeps_6 k)) refl

-- ---- rule 7

keeps_7 : (k : Kernel) (b : List Line) (l : Line) (a : List Line) → Step (the_whole k) b l a → keeps_kinds (at k b l a) ≡ true
keeps_7 k _ _ _ (extract b a r c f m d e h) = ap (λ d. is_some_of d (is_value_line (the_whole k)) && true) d
keeps_7 k _ _ _ (add b a r x y f m u v) = both (is_value (the_whole k) x) (is_value (the_whole k) y && true) (uint_value k b x u) (both (is_value (the_whole k) y) true (uint_value k b y v) refl)
keeps_7 k _ _ _ (chain b a f m u) = both (is_value (the_whole k) (id.PLACE + 1)) true (uint_value k b (id.PLACE + 1) u) refl
keeps_7 k _ _ _ (store b a x f d m u) = both (is_value (the_whole k) id.ELEMENT) (is_value (the_whole k) x && true) (ap (λ d. is_some_of d (is_value_line (the_whole k))) d) (both (is_value (the_whole k) x) true (uint_value k b x u) refl)
keeps_7 k _ _ _ _ = refl

pub kept_7 : (k : Kernel) → is_kept_in (rule 7 keeps_kinds) (the_whole k) ≡ true
kept_7 k = with_has (rule 7 keeps_kinds) (the_whole k) (from_walk keeps_kinds k (ap (λ d. (is_some_of d (has_op op.FUNCTION) && true) && all_keep keeps_kinds (the_whole k) (behind_head k) (behind k)) (main_found k)) (keeps_7 k)) refl

-- ---- rule 8

keeps_8 : (k : Kernel) (b : List Line) (l : Line) (a : List Line) → Step (the_whole k) b l a → is_ordered (at k b l a) ≡ true
keeps_8 k _ _ _ (constant b a r n f m u) = both (makes b id.UINT) true u refl
keeps_8 k _ _ _ _ = refl

pub kept_8 : (k : Kernel) → is_kept_in (rule 8 is_ordered) (the_whole k) ≡ true
kept_8 k = with_has (rule 8 is_ordered) (the_whole k) (from_walk is_ordered k refl (keeps_8 k)) refl

-- ---- rule 9

keeps_9 : (k : Kernel) (b : List Line) (l : Line) (a : List Line) → Step (the_whole k) b l a → keeps_uses (at k b l a) ≡ true
keeps_9 k _ _ _ (extract b a r c f m d e h) = ap (λ d. may_use_by (at k b (extract_line r c) a) c d && true) d ∙ ap (λ z. z && true) e
keeps_9 k _ _ _ (add b a r x y f m u v) =
    both (may_use (at k b (add_line r x y) a) x) (may_use (at k b (add_line r x y) a) y && true) (uint_used k b x u (add_line r x y) a refl)
    (both (may_use (at k b (add_line r x y) a) y) true (uint_used k b y v (add_line r x y) a refl) refl)
keeps_9 k _ _ _ (chain b a f m u) = both (may_use (at k b chain_line a) (id.PLACE + 1)) true (uint_used k b (id.PLACE + 1) u chain_line a refl) refl
keeps_9 k _ _ _ (store b a x f d m u) =
    both (may_use (at k b (store_line x) a) id.ELEMENT) (may_use (at k b (store_line x) a) x && true) (ap (λ d. may_use_by (at k b (store_line x) a) id.ELEMENT d) d ∙ m)
    (both (may_use (at k b (store_line x) a) x) true (uint_used k b x u (store_line x) a refl) refl)
keeps_9 k _ _ _ (kernel b a f m d) = ap (λ d. may_use_by (at k b kernel_line a) id.MAIN d && true) d
keeps_9 k _ _ _ (buffer b a f m d e) =
    both (may_use (at k b buffer_line a) id.KERNEL_LINE) (may_use (at k b buffer_line a) id.NAME_LINE && true) (ap (λ d. may_use_by (at k b buffer_line a) id.KERNEL_LINE d) d)
    (both (may_use (at k b buffer_line a) id.NAME_LINE) true (ap (λ d. may_use_by (at k b buffer_line a) id.NAME_LINE d) e) refl)
keeps_9 k _ _ _ _ = refl

-- a spot at the fifth line, the entry point
abbrev fifth : Whole → List Line → Spot
fifth w (l ∷ m ∷ n ∷ o ∷ p ∷ ls) = record { whole = w; before = o ∷ (n ∷ (m ∷ (l ∷ []))); here = p; after = ls }
fifth w _ = record { whole = w; before = []; here = main_line; after = [] }

pub kept_9 : (k : Kernel) → is_kept_in (rule 9 keeps_uses) (the_whole k) ≡ true
kept_9 k = with_has (rule 9 keeps_uses) (the_whole k) (from_walk keeps_uses k (ap (λ d. (may_use_by (fifth (the_whole k) (the_whole k).lines) id.MAIN d && true) && all_keep keeps_uses (the_whole k) (behind_head k) (behind k)) (main_found k)) (keeps_9 k)) refl

-- ---- rule 12

all_by_steps : (p : Line → Bool) (w : Whole) → ((b : List Line) (l : Line) (a : List Line) → Step w b l a → p l ≡ true) → (b ls : List Line) → Walk w b ls → list_all p ls ≡ true
all_by_steps p w each _ _ (none b) = refl
all_by_steps p w each _ _ (step b l a s more) = both (p l) (list_all p a) (each b l a s) (all_by_steps p w each (l ∷ b) a more)

names_no_array : (k : Kernel) (b : List Line) (l : Line) (a : List Line) → Step (the_whole k) b l a → may_name_array (the_whole k) id.ELEMENTS l ≡ true
names_no_array k _ _ _ (extract b a r c f m d e h) = rw (ne_eqb c id.ELEMENTS (λ q. omega arith)) refl
names_no_array k _ _ _ (add b a r x y f m u v) = let p = u.high in let q = v.high in rw (ne_eqb x id.ELEMENTS (λ q. omega arith), ne_eqb y id.ELEMENTS (λ q. omega arith)) refl
names_no_array k _ _ _ (store b a x f d m u) = let p = u.high in rw (ne_eqb x id.ELEMENTS (λ q. omega arith)) refl
names_no_array k _ _ _ _ = refl

names_no_struct : (k : Kernel) (b : List Line) (l : Line) (a : List Line) → Step (the_whole k) b l a → may_name_struct id.BLOCK l ≡ true
names_no_struct k _ _ _ (extract b a r c f m d e h) = rw (ne_eqb c id.BLOCK (λ q. omega arith)) refl
names_no_struct k _ _ _ (add b a r x y f m u v) = let p = u.high in let q = v.high in rw (ne_eqb x id.BLOCK (λ q. omega arith), ne_eqb y id.BLOCK (λ q. omega arith)) refl
names_no_struct k _ _ _ (store b a x f d m u) = let p = u.high in rw (ne_eqb x id.BLOCK (λ q. omega arith)) refl
names_no_struct k _ _ _ _ = refl

keeps_12 : (k : Kernel) (b : List Line) (l : Line) (a : List Line) → Step (the_whole k) b l a → keeps_arrays (at k b l a) ≡ true
keeps_12 k _ _ _ (constant b a r n f m u) = refl
keeps_12 k _ _ _ _ = refl

pub kept_12 : (k : Kernel) → is_kept_in (rule 12 keeps_arrays) (the_whole k) ≡ true
kept_12 k =
    let others = all_keep keeps_arrays (the_whole k) (behind_head k) (behind k) in
    let array : list_all (may_name_array (the_whole k) id.ELEMENTS) (behind k) ≡ true = all_by_steps (may_name_array (the_whole k) id.ELEMENTS) (the_whole k) (names_no_array k) (behind_head k) (behind k) (walk k) in
    let struct : list_all (may_name_struct id.BLOCK) (behind k) ≡ true = all_by_steps (may_name_struct id.BLOCK) (the_whole k) (names_no_struct k) (behind_head k) (behind k) (walk k) in
    with_has (rule 12 keeps_arrays) (the_whole k)
    (from_walk keeps_arrays k
    (ap (λ z. (z && true) && (list_all (may_name_struct id.BLOCK) (behind k) && others)) array ∙ ap (λ z. z && others) struct)
    (keeps_12 k))
    refl

-- ---- rule 22

abbrev tail : List Line → List Line
tail [] = []
tail (_ ∷ ls) = ls

abbrev fuel : Kernel → List Line
fuel k = tail (the_whole k).lines

keeps_22 : (k : Kernel) (b : List Line) (l : Line) (a : List Line) → Step (the_whole k) b l a → keeps_fixed (at k b l a) ≡ true
keeps_22 k _ _ _ (store b a x f d m u) =
    ap (λ d. not (is_fixed (the_whole k) (place_by (the_whole k) (place_from (the_whole k) (fuel k)) id.ELEMENT (chain_base d)))) d
    ∙ ap (λ d. not (is_fixed (the_whole k) (steps_from (the_whole k) (place_from (the_whole k) (fuel k) id.BUFFER) (indices d)))) d
keeps_22 k _ _ _ _ = refl

pub kept_22 : (k : Kernel) → is_kept_in (rule 22 keeps_fixed) (the_whole k) ≡ true
kept_22 k = with_has (rule 22 keeps_fixed) (the_whole k) (from_walk keeps_fixed k refl (keeps_22 k)) refl

-- ---- rules 30, 31, 33 and 43

keeps_30 : (k : Kernel) (b : List Line) (l : Line) (a : List Line) → Step (the_whole k) b l a → keeps_calls (at k b l a) ≡ true
keeps_30 k _ _ _ (main b a f m e p g h) = rw (calls_none k.terms) refl
keeps_30 k _ _ _ _ = refl

pub kept_30 : (k : Kernel) → is_kept_in (rule 30 keeps_calls) (the_whole k) ≡ true
kept_30 k = with_has (rule 30 keeps_calls) (the_whole k) (from_walk keeps_calls k refl (keeps_30 k)) refl

keeps_31 : (k : Kernel) (b : List Line) (l : Line) (a : List Line) → Step (the_whole k) b l a → keeps_functions (at k b l a) ≡ true
keeps_31 k _ _ _ (main b a f m e p g h) = rw (p, g, e) refl
keeps_31 k _ _ _ _ = refl

pub kept_31 : (k : Kernel) → is_kept_in (rule 31 keeps_functions) (the_whole k) ≡ true
kept_31 k = with_has (rule 31 keeps_functions) (the_whole k) (from_walk keeps_functions k refl (keeps_31 k)) refl

keeps_33 : (k : Kernel) (b : List Line) (l : Line) (a : List Line) → Step (the_whole k) b l a → keeps_blocks (at k b l a) ≡ true
keeps_33 k _ _ _ (label b a f m e) = e
keeps_33 k _ _ _ _ = refl

pub kept_33 : (k : Kernel) → is_kept_in (rule 33 keeps_blocks) (the_whole k) ≡ true
kept_33 k = with_has (rule 33 keeps_blocks) (the_whole k) (from_walk keeps_blocks k refl (keeps_33 k)) refl

keeps_43 : (k : Kernel) (b : List Line) (l : Line) (a : List Line) → Step (the_whole k) b l a → keeps_returns (at k b l a) ≡ true
keeps_43 k _ _ _ (return b a f e) = rw e refl
keeps_43 k _ _ _ _ = refl

pub kept_43 : (k : Kernel) → is_kept_in (rule 43 keeps_returns) (the_whole k) ≡ true
kept_43 k = with_has (rule 43 keeps_returns) (the_whole k) (from_walk keeps_returns k refl (keeps_43 k)) refl

-- ---- rules 36 to 38 and 41

keeps_36 : (k : Kernel) (b : List Line) (l : Line) (a : List Line) → Step (the_whole k) b l a → keeps_operands (at k b l a) ≡ true
keeps_36 k _ _ _ (add b a r x y f m u v) =
    both (has_shape (the_whole k) (Some id.UINT) x) (has_shape (the_whole k) (Some id.UINT) y && true) (uint_shape k b x u)
    (both (has_shape (the_whole k) (Some id.UINT) y) true (uint_shape k b y v) refl)
keeps_36 k _ _ _ _ = refl

pub kept_36 : (k : Kernel) → is_kept_in (rule 36 keeps_operands) (the_whole k) ≡ true
kept_36 k = with_has (rule 36 keeps_operands) (the_whole k) (from_walk keeps_operands k refl (keeps_36 k)) refl

keeps_37 : (k : Kernel) (b : List Line) (l : Line) (a : List Line) → Step (the_whole k) b l a → keeps_accesses (at k b l a) ≡ true
keeps_37 k _ _ _ (store b a x f d m u) =
    ap (λ d. same_id (pointee (the_whole k) (type_by d)) (type_of (the_whole k) x)) d
    ∙ ap (λ t. same_id (Some id.UINT) t) (uint_type k b x u)
keeps_37 k _ _ _ _ = refl

pub kept_37 : (k : Kernel) → is_kept_in (rule 37 keeps_accesses) (the_whole k) ≡ true
kept_37 k = with_has (rule 37 keeps_accesses) (the_whole k) (from_walk keeps_accesses k refl (keeps_37 k)) refl

keeps_38 : (k : Kernel) (b : List Line) (l : Line) (a : List Line) → Step (the_whole k) b l a → keeps_chains (at k b l a) ≡ true
keeps_38 k _ _ _ (chain b a f m u) = rw (uint_type k b (id.PLACE + 1) u) refl
keeps_38 k _ _ _ _ = refl

pub kept_38 : (k : Kernel) → is_kept_in (rule 38 keeps_chains) (the_whole k) ≡ true
kept_38 k = with_has (rule 38 keeps_chains) (the_whole k) (from_walk keeps_chains k refl (keeps_38 k)) refl

keeps_41 : (k : Kernel) (b : List Line) (l : Line) (a : List Line) → Step (the_whole k) b l a → keeps_composites (at k b l a) ≡ true
keeps_41 k _ _ _ (extract b a r c f m d e h) = rw d refl
keeps_41 k _ _ _ _ = refl

pub kept_41 : (k : Kernel) → is_kept_in (rule 41 keeps_composites) (the_whole k) ≡ true
kept_41 k = with_has (rule 41 keeps_composites) (the_whole k) (from_walk keeps_composites k refl (keeps_41 k)) refl
