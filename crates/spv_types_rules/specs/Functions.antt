-- Rules 30 to 34, 39 and 43: functions, their calls, blocks and returns (SPIR-V 2.4, 2.11 and 2.16.1).
use Rattle.std.specs.Prelude.{ℕ, Bool, true, false, not, ◌==◌, ◌&&◌, ◌||◌, if◌then◌else◌, List, [], ◌∷◌, filter, map, Option, Some, None}
use Rattle.std.specs.List.{list_any, list_all}
use Rattle.spv_module.specs.declared.op.TheConstants as op
use Rattle.spv_module.specs.declared.enumerant.storage_class.TheConstants as storage_class
use Rattle.spv_module.specs.Grammar.{is_among}
use Rattle.spv_types_rules.specs.Lines.{Line, Whole, Spot, only, on, has_op, has_op_among, own_opcodes, merge_opcodes, terminator_opcodes, id_of, first, rest, is_some_of, defined, is_op_of, is_op_among, storage, type_of, same_id, ends_function, to_end, is_ended, function_lines, parameters, behind_parameters, function_of, callees, below}
use Rattle.spv_types_rules.specs.Sections.{section, functions_section}

-- Rule 30. No function reaches itself by calls. The function that does breaks the rule.
abbrev pub reaches_by : Whole → ℕ → ℕ → Bool
reaches_by w f g = is_among (below w g) f

abbrev pub keeps_calls : Spot → Bool
keeps_calls = on op.FUNCTION (λ s. not (list_any (reaches_by s.whole (id_of s.here)) (callees s.whole (id_of s.here))))

-- Rule 31. A function has its type's result and parameters, which stand first, then a block, and an end; nothing stands between them, and no line of functions outside a function.
-- whether the types of some lines are these
abbrev pub have_types : List Line → List ℕ → Bool
have_types [] [] = true
have_types (l ∷ ls) (t ∷ ts) = same_id l.type (Some t) && have_types ls ts
have_types _ _ = false

abbrev pub has_signature : Option ℕ → List Line → List ℕ → Bool
has_signature t params [] = false
has_signature t params (r ∷ ts) = same_id t (Some r) && have_types params ts

abbrev pub is_type_of : Line → List Line → Line → Bool
is_type_of f params l = has_op op.TYPE_FUNCTION l && has_signature f.type params l.ids

abbrev pub begins_with_label : List Line → Bool
begins_with_label [] = false
begins_with_label (l ∷ _) = has_op op.LABEL l

abbrev pub has_body : List Line → Bool
has_body lines = begins_with_label lines && not (list_any (has_op op.FUNCTION_PARAMETER) lines)

abbrev pub agrees : Spot → Bool
agrees s = is_some_of (defined s.whole (first s.here.ids)) (is_type_of s.here (parameters (to_end s.after))) && has_body (behind_parameters (to_end s.after)) && is_ended s.after

abbrev pub keeps_functions : Spot → Bool
keeps_functions s =
    on op.FUNCTION agrees s
    && only ((section s.here == functions_section) && not (has_op op.FUNCTION s.here)) (λ s. s.here.inside) s

-- Rule 32. A parameter that is a pointer points to Function storage; its argument is a whole variable or parameter.
abbrev pub is_function_pointer : Whole → Option ℕ → Bool
is_function_pointer w t = same_id (storage w t) (Some storage_class.FUNCTION)

abbrev pub is_passable : Whole → Line → Bool
is_passable w p = not (is_op_of w op.TYPE_POINTER p.type) || is_function_pointer w p.type

abbrev pub are_whole : Whole → List Line → List ℕ → Bool
are_whole w (p ∷ ps) (a ∷ as_) = (not (is_op_of w op.TYPE_POINTER p.type) || is_op_among w own_opcodes a) && are_whole w ps as_
are_whole w _ _ = true

abbrev pub keeps_parameters : Spot → Bool
keeps_parameters s =
    on op.FUNCTION_PARAMETER (λ s. is_passable s.whole s.here) s
    && on op.FUNCTION_CALL (λ s. are_whole s.whole (parameters (function_of s.whole (first s.here.ids))) (rest s.here.ids)) s

-- Rule 39. A call's result and arguments have the types of the function's type.
abbrev pub have_value_types : Whole → List ℕ → List ℕ → Bool
have_value_types w [] [] = true
have_value_types w (v ∷ vs) (t ∷ ts) = same_id (type_of w v) (Some t) && have_value_types w vs ts
have_value_types w _ _ = false

abbrev pub fits_call : Whole → Option ℕ → List ℕ → List ℕ → Bool
fits_call w t arguments [] = false
fits_call w t arguments (r ∷ ts) = same_id t (Some r) && have_value_types w arguments ts

abbrev pub fits_function : Whole → Line → Line → Bool
fits_function w call f = is_some_of (defined w (first f.ids)) (λ l. fits_call w call.type (rest call.ids) l.ids)

abbrev pub keeps_arguments : Spot → Bool
keeps_arguments = on op.FUNCTION_CALL (λ s. is_some_of (defined s.whole (first s.here.ids)) (fits_function s.whole s.here))

-- ---- blocks

-- A block: its label, and the lines behind the OpLabel up to the next or to the function's end.
pub record Block : Type 0 where
  pub label : ℕ
  pub lines : List Line

abbrev pub to_label : List Line → List Line
to_label [] = []
to_label (l ∷ ls) = if has_op op.LABEL l || ends_function l then [] else l ∷ to_label ls

-- the blocks of a function's lines
abbrev pub blocks_in : List Line → List Block
blocks_in [] = []
blocks_in (l ∷ ls) = if has_op op.LABEL l then record { label = id_of l; lines = to_label ls } ∷ blocks_in ls else blocks_in ls

abbrev pub is_terminator : Line → Bool
is_terminator l = has_op_among terminator_opcodes l

abbrev pub is_merge : Line → Bool
is_merge l = has_op_among merge_opcodes l

-- one terminator, which stands last; a merge right before it alone
abbrev pub is_terminated : List Line → Bool
is_terminated [] = false
is_terminated (l ∷ []) = is_terminator l
is_terminated (l ∷ m ∷ ls) = not (is_terminator l) && (not (is_merge l) || is_terminator m) && is_terminated (m ∷ ls)

-- Rule 33. A block is a label, instructions, and one terminator; a merge stands only right before it.
abbrev pub keeps_blocks : Spot → Bool
keeps_blocks = on op.LABEL (λ s. only s.here.inside (λ s. is_terminated (to_label s.after)) s)

-- Rule 34. What branches and merges name are blocks of the function, and not its first.
abbrev pub branch_opcodes : List ℕ
branch_opcodes = op.BRANCH ∷ op.BRANCH_CONDITIONAL ∷ op.SWITCH ∷ op.LOOP_MERGE ∷ op.SELECTION_MERGE ∷ []

-- the labels that a line names: a condition or a selector stands before them
abbrev pub targets : Line → List ℕ
targets l = if has_op_among (op.BRANCH_CONDITIONAL ∷ op.SWITCH ∷ []) l then rest l.ids else l.ids

abbrev pub labels_in : List Line → List ℕ
labels_in lines = map id_of (filter (has_op op.LABEL) lines)

abbrev pub keeps_targets : Spot → Bool
keeps_targets s = only (has_op_among branch_opcodes s.here && s.here.inside) (λ s. list_all (is_among (rest (labels_in (function_lines s)))) (targets s.here)) s

-- Rule 43. A return without a value stands in functions that return void; one with a value, in functions that return its type.
abbrev pub returned : List Line → Option ℕ
returned [] = None
returned (l ∷ ls) = if has_op op.FUNCTION l then l.type else returned ls

abbrev pub keeps_returns : Spot → Bool
keeps_returns s =
    on op.RETURN (λ s. only s.here.inside (λ s. is_op_of s.whole op.TYPE_VOID (returned s.before)) s) s
    && on op.RETURN_VALUE (λ s. only s.here.inside (λ s. same_id (type_of s.whole (first s.here.ids)) (returned s.before)) s) s
