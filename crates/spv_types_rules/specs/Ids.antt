-- Rules 6 to 9: ids, their kinds, and where they may be used (SPIR-V 2.16.1).
use Rattle.std.specs.Prelude.{ℕ, Bool, true, false, not, ◌==◌, ◌&&◌, ◌||◌, if◌then◌else◌, List, [], ◌∷◌, Option, Some, None}
use Rattle.std.specs.List.{list_any, list_all}
use Rattle.spv_module.specs.declared.op.TheConstants as op
use Rattle.spv_module.specs.Options.{is_there}
use Rattle.spv_types_rules.specs.Lines.{Line, Whole, Spot, only, function_lines, has_op, has_op_among, type_opcodes, constant_opcodes, value_opcodes, own_opcodes, first, defines, named, is_mark, is_some_of, defined, is_op, is_op_among, is_op_of, ends_function}
use Rattle.spv_types_rules.specs.Sections.{section, globals_section}

-- some line defines the id
abbrev pub makes : List Line → ℕ → Bool
makes ls id = list_any (defines id) ls

abbrev pub makes_none : List Line → Option ℕ → Bool
makes_none ls None = true
makes_none ls (Some r) = not (makes ls r)

abbrev pub is_defined : Whole → ℕ → Bool
is_defined w id = is_there (defined w id)

-- Rule 6. An id has one definition. The second breaks the rule, and so does a line that names an id without one.
abbrev pub defines_once : Spot → Bool
defines_once s = makes_none s.before s.here.result && list_all (is_defined s.whole) (named s.here)

-- Rule 7. An operand is of the kind that its place wants: a type, a constant, a variable, a function, a label, an import, or a value. A result type is a type. A value is a constant, a variable, a parameter or what an instruction of a block makes, and not of type void.
-- A mode is of an entry point's function; the name of a member, of a struct's; an OpUndef is of a type that has values. What a name or a decoration names, and what a reflection line names behind the import, is of any kind. Which type a type or a value must have is said by later rules.
abbrev pub is_type : Whole → ℕ → Bool
is_type w id = is_op_among w type_opcodes id

abbrev pub is_type_if : Whole → Option ℕ → Bool
is_type_if w None = true
is_type_if w (Some t) = is_type w t

abbrev pub is_value_line : Whole → Line → Bool
is_value_line w l = (has_op_among own_opcodes l || has_op_among constant_opcodes l || has_op_among value_opcodes l) && not (is_op_of w op.TYPE_VOID l.type)

abbrev pub is_value : Whole → ℕ → Bool
is_value w id = is_some_of (defined w id) (is_value_line w)

-- the first of some ids, and those behind it
abbrev pub are : (ℕ → Bool) → (ℕ → Bool) → List ℕ → Bool
are is_first is_other [] = false
are is_first is_other (id ∷ is) = is_first id && list_all is_other is

abbrev pub any_id : ℕ → Bool
any_id id = true

abbrev pub is_entry_of : ℕ → Line → Bool
is_entry_of f l = first l.ids == f

abbrev pub is_entry : Whole → ℕ → Bool
is_entry w f = list_any (is_entry_of f) w.entries

abbrev pub is_undefined_of : Whole → Option ℕ → Bool
is_undefined_of w t = not (is_op_of w op.TYPE_VOID t || is_op_of w op.TYPE_FUNCTION t)

abbrev pub has_kinds : Whole → Line → Bool
has_kinds w l =
    if has_op op.MEMBER_NAME l then list_all (is_op w op.TYPE_STRUCT) l.ids else (
    if is_mark l then true else (
    if has_op op.EXT_INST l then are (is_op w op.EXT_INST_IMPORT) any_id l.ids else (
    if has_op op.ENTRY_POINT l then are (is_op w op.FUNCTION) (is_op w op.VARIABLE) l.ids else (
    if has_op op.EXECUTION_MODE l then list_all (is_entry w) l.ids else (
    if has_op op.TYPE_ARRAY l then are (is_type w) (is_op_among w constant_opcodes) l.ids else (
    if has_op_among type_opcodes l || has_op op.FUNCTION l then list_all (is_type w) l.ids else (
    if has_op_among (op.CONSTANT_COMPOSITE ∷ op.SPEC_CONSTANT_COMPOSITE ∷ []) l then list_all (is_op_among w constant_opcodes) l.ids else (
    if has_op op.UNDEF l then is_undefined_of w l.type else (
    if has_op op.FUNCTION_CALL l then are (is_op w op.FUNCTION) (is_value w) l.ids else (
    if has_op_among (op.LOOP_MERGE ∷ op.SELECTION_MERGE ∷ op.BRANCH ∷ []) l then list_all (is_op w op.LABEL) l.ids else (
    if has_op_among (op.BRANCH_CONDITIONAL ∷ op.SWITCH ∷ []) l then are (is_value w) (is_op w op.LABEL) l.ids else
    list_all (is_value w) l.ids)))))))))))

abbrev pub keeps_kinds : Spot → Bool
keeps_kinds s = is_type_if s.whole s.here.type && has_kinds s.whole s.here

-- Rule 8. What types, constants and globals name is defined before them.
abbrev pub is_ordered : Spot → Bool
is_ordered s = only (section s.here == globals_section) (λ s. list_all (makes s.before) (named s.here)) s

-- Rule 9. What an instruction of a block makes is used behind it in its own block alone, and a parameter or a variable of a function in that function alone. Names and decorations are no uses; an interface and a reflection line use what they name.
-- whether the lines of the block so far make the id, of which some behind them may
abbrev pub block_makes : Bool → List Line → ℕ → Bool
block_makes so_far [] id = false
block_makes so_far (l ∷ ls) id = if has_op op.LABEL l then so_far else (if ends_function l then false else block_makes (so_far || defines id l) ls id)

abbrev pub function_makes : Spot → ℕ → Bool
function_makes s id = s.here.inside && makes (function_lines s) id

abbrev pub reaches : Spot → ℕ → Line → Bool
reaches s id d =
    if has_op_among value_opcodes d then s.here.inside && block_makes false s.before id else (
    if has_op_among own_opcodes d && d.inside then function_makes s id else true)

abbrev pub may_use_by : Spot → ℕ → Option Line → Bool
may_use_by s id None = true
may_use_by s id (Some d) = reaches s id d

abbrev pub may_use : Spot → ℕ → Bool
may_use s id = may_use_by s id (defined s.whole id)

abbrev pub keeps_uses : Spot → Bool
keeps_uses s = only (not (is_mark s.here)) (λ s. list_all (may_use s) (named s.here)) s
