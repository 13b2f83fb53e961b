-- A kernel's module as the rules of validity read it: what is asked of the whole is found in its head.
use Rattle.std.proofs.Common.{◌≡◌, ℕ, ◌+◌, true, false, List, [], ◌∷◌, ◌++◌, refl, ap, ◌∙◌}
use Rattle.std.specs.Prelude.{filter}
use Rattle.spv_module.specs.declared.module.Inst.{Inst}
use Rattle.spv_module.specs.declared.module.Operand.TheVariants.{Id, Word}
use Rattle.spv_module.specs.declared.op.TheConstants as op
use Rattle.clv_engine.specs.declared.form.Kernel.{Kernel}
use Rattle.clv_engine.specs.declared.form.Term.{Term}
use Rattle.clv_engine.specs.declared.id.TheConstants as id
use Rattle.clv_engine.specs.Emitted.{inst, head, constants_from, global_id, terms, sum, function_end, reflection, body_of}
use Rattle.clv_engine.proofs.FactsScans.{Passes, past_constants, past_terms, code_of}
use Rattle.spv_types_rules.specs.Lines.{Line, Func, Whole, line, lines_from, lines_of, whole, has_op, has_op_among, type_opcodes, is_mark, functions_in, to_end, is_ended, callees_in}
use Rattle.spv_types_rules.specs.Entries.{has_no_parameter}
use Rattle.spv_types_rules.specs.Functions.{Block, to_label, is_terminated, is_terminator, is_merge, blocks_in}
use Rattle.spv_types_rules.specs.Structure.{Leaves, Ill, end_by, end_of}

-- ---- the lines

abbrev pub const_line : ℕ → ℕ → Line
const_line r n = line false (inst op.CONSTANT (Id id.UINT ∷ Id r ∷ Word n ∷ []))

abbrev pub label_line : Line
label_line = line true (inst op.LABEL (Id id.ENTRY ∷ []))

abbrev pub load_line : ℕ → Line
load_line r = line true (inst op.LOAD (Id id.UINT3 ∷ Id r ∷ Id id.GLOBAL_ID ∷ []))

abbrev pub extract_line : ℕ → ℕ → Line
extract_line r c = line true (inst op.COMPOSITE_EXTRACT (Id id.UINT ∷ Id r ∷ Id c ∷ Word 0 ∷ []))

abbrev pub add_line : ℕ → ℕ → ℕ → Line
add_line r x y = line true (inst op.I_ADD (Id id.UINT ∷ Id r ∷ Id x ∷ Id y ∷ []))

abbrev pub chain_line : Line
chain_line = line true (inst op.ACCESS_CHAIN (Id id.UINT_POINTER ∷ Id id.ELEMENT ∷ Id id.BUFFER ∷ Id id.ZERO ∷ Id (id.PLACE + 1) ∷ []))

abbrev pub store_line : ℕ → Line
store_line x = line true (inst op.STORE (Id id.ELEMENT ∷ Id x ∷ []))

abbrev pub return_line : Line
return_line = line true (inst op.RETURN [])

abbrev pub end_line : Line
end_line = line true (inst op.FUNCTION_END [])

abbrev pub kernel_line : Line
kernel_line = line false (inst op.EXT_INST (Id id.VOID ∷ Id id.KERNEL_LINE ∷ Id id.REFLECTION ∷ Word 1 ∷ Id id.MAIN ∷ Id id.KERNEL_NAME ∷ []))

abbrev pub name_line : Line
name_line = line false (inst op.EXT_INST (Id id.VOID ∷ Id id.NAME_LINE ∷ Id id.REFLECTION ∷ Word 2 ∷ Id id.ARGUMENT_NAME ∷ []))

abbrev pub buffer_line : Line
buffer_line = line false (inst op.EXT_INST (Id id.VOID ∷ Id id.BUFFER_LINE ∷ Id id.REFLECTION ∷ Word 3 ∷ Id id.KERNEL_LINE ∷ Id id.ZERO ∷ Id id.ZERO ∷ Id id.ZERO ∷ Id id.NAME_LINE ∷ []))

abbrev pub sizes_line : Line
sizes_line = line false (inst op.EXT_INST (Id id.VOID ∷ Id id.SIZES_LINE ∷ Id id.REFLECTION ∷ Word 12 ∷ Id id.ZERO ∷ Id id.ONE ∷ Id id.TWO ∷ []))

-- all behind OpFunction
abbrev pub code_behind : List Term → List Inst
code_behind ts = inst op.LABEL (Id id.ENTRY ∷ []) ∷ (global_id id.PLACE ++ (terms ts ++ (function_end (sum ts) ++ reflection)))

abbrev pub main_line : Line
main_line = line false (inst op.FUNCTION (Id id.VOID ∷ Id id.MAIN ∷ Word 0 ∷ Id id.MAIN_TYPE ∷ []))

abbrev pub the_function : List Term → Func
the_function ts = record { head = main_line; lines = to_end (lines_from true (code_behind ts)) }

-- ---- scans that find nothing in the instructions of terms

capabilities_pass_false : Passes (λ is. filter (has_op op.CAPABILITY) (lines_from false is))
capabilities_pass_false = record { constant = λ r n rest. refl; load = λ r rest. refl; extract = λ r a rest. refl; add = λ r a b rest. refl }

capabilities_pass_true : Passes (λ is. filter (has_op op.CAPABILITY) (lines_from true is))
capabilities_pass_true = record { constant = λ r n rest. refl; load = λ r rest. refl; extract = λ r a rest. refl; add = λ r a b rest. refl }

entries_pass_false : Passes (λ is. filter (has_op op.ENTRY_POINT) (lines_from false is))
entries_pass_false = record { constant = λ r n rest. refl; load = λ r rest. refl; extract = λ r a rest. refl; add = λ r a b rest. refl }

entries_pass_true : Passes (λ is. filter (has_op op.ENTRY_POINT) (lines_from true is))
entries_pass_true = record { constant = λ r n rest. refl; load = λ r rest. refl; extract = λ r a rest. refl; add = λ r a b rest. refl }

modes_pass_false : Passes (λ is. filter (has_op op.EXECUTION_MODE) (lines_from false is))
modes_pass_false = record { constant = λ r n rest. refl; load = λ r rest. refl; extract = λ r a rest. refl; add = λ r a b rest. refl }

calls_pass_false : Passes (λ is. filter (has_op op.FUNCTION_CALL) (lines_from false is))
calls_pass_false = record { constant = λ r n rest. refl; load = λ r rest. refl; extract = λ r a rest. refl; add = λ r a b rest. refl }

marks_pass_false : Passes (λ is. filter is_mark (lines_from false is))
marks_pass_false = record { constant = λ r n rest. refl; load = λ r rest. refl; extract = λ r a rest. refl; add = λ r a b rest. refl }

modes_pass_true : Passes (λ is. filter (has_op op.EXECUTION_MODE) (lines_from true is))
modes_pass_true = record { constant = λ r n rest. refl; load = λ r rest. refl; extract = λ r a rest. refl; add = λ r a b rest. refl }

calls_pass_true : Passes (λ is. filter (has_op op.FUNCTION_CALL) (lines_from true is))
calls_pass_true = record { constant = λ r n rest. refl; load = λ r rest. refl; extract = λ r a rest. refl; add = λ r a b rest. refl }

marks_pass_true : Passes (λ is. filter is_mark (lines_from true is))
marks_pass_true = record { constant = λ r n rest. refl; load = λ r rest. refl; extract = λ r a rest. refl; add = λ r a b rest. refl }

types_pass_false : Passes (λ is. filter (has_op_among type_opcodes) (lines_from false is))
types_pass_false = record { constant = λ r n rest. refl; load = λ r rest. refl; extract = λ r a rest. refl; add = λ r a b rest. refl }

types_pass_true : Passes (λ is. filter (has_op_among type_opcodes) (lines_from true is))
types_pass_true = record { constant = λ r n rest. refl; load = λ r rest. refl; extract = λ r a rest. refl; add = λ r a b rest. refl }

variables_pass_false : Passes (λ is. filter (has_op op.VARIABLE) (lines_from false is))
variables_pass_false = record { constant = λ r n rest. refl; load = λ r rest. refl; extract = λ r a rest. refl; add = λ r a b rest. refl }

variables_pass_true : Passes (λ is. filter (has_op op.VARIABLE) (lines_from true is))
variables_pass_true = record { constant = λ r n rest. refl; load = λ r rest. refl; extract = λ r a rest. refl; add = λ r a b rest. refl }

functions_pass_false : Passes (λ is. functions_in (lines_from false is))
functions_pass_false = record { constant = λ r n rest. refl; load = λ r rest. refl; extract = λ r a rest. refl; add = λ r a b rest. refl }

functions_pass_true : Passes (λ is. functions_in (lines_from true is))
functions_pass_true = record { constant = λ r n rest. refl; load = λ r rest. refl; extract = λ r a rest. refl; add = λ r a b rest. refl }

none_of_capabilities : (ts : List Term) → filter (has_op op.CAPABILITY) (lines_from false (constants_from id.TERMS ts ++ code_of ts)) ≡ []
none_of_capabilities ts =
    past_constants (λ is. filter (has_op op.CAPABILITY) (lines_from false is)) capabilities_pass_false id.TERMS ts (code_of ts)
    ∙ past_terms (λ is. filter (has_op op.CAPABILITY) (lines_from true is)) capabilities_pass_true ts (function_end (sum ts) ++ reflection)

none_of_entries : (ts : List Term) → filter (has_op op.ENTRY_POINT) (lines_from false (constants_from id.TERMS ts ++ code_of ts)) ≡ []
none_of_entries ts =
    past_constants (λ is. filter (has_op op.ENTRY_POINT) (lines_from false is)) entries_pass_false id.TERMS ts (code_of ts)
    ∙ past_terms (λ is. filter (has_op op.ENTRY_POINT) (lines_from true is)) entries_pass_true ts (function_end (sum ts) ++ reflection)

none_of_modes : (ts : List Term) → filter (has_op op.EXECUTION_MODE) (lines_from false (constants_from id.TERMS ts ++ code_of ts)) ≡ []
none_of_modes ts =
    past_constants (λ is. filter (has_op op.EXECUTION_MODE) (lines_from false is)) modes_pass_false id.TERMS ts (code_of ts)
    ∙ past_terms (λ is. filter (has_op op.EXECUTION_MODE) (lines_from true is)) modes_pass_true ts (function_end (sum ts) ++ reflection)

none_of_calls : (ts : List Term) → filter (has_op op.FUNCTION_CALL) (lines_from false (constants_from id.TERMS ts ++ code_of ts)) ≡ []
none_of_calls ts =
    past_constants (λ is. filter (has_op op.FUNCTION_CALL) (lines_from false is)) calls_pass_false id.TERMS ts (code_of ts)
    ∙ past_terms (λ is. filter (has_op op.FUNCTION_CALL) (lines_from true is)) calls_pass_true ts (function_end (sum ts) ++ reflection)

none_of_marks : (ts : List Term) → filter is_mark (lines_from false (constants_from id.TERMS ts ++ code_of ts)) ≡ []
none_of_marks ts =
    past_constants (λ is. filter is_mark (lines_from false is)) marks_pass_false id.TERMS ts (code_of ts)
    ∙ past_terms (λ is. filter is_mark (lines_from true is)) marks_pass_true ts (function_end (sum ts) ++ reflection)

none_of_types : (ts : List Term) → filter (has_op_among type_opcodes) (lines_from false (constants_from id.TERMS ts ++ code_of ts)) ≡ []
none_of_types ts =
    past_constants (λ is. filter (has_op_among type_opcodes) (lines_from false is)) types_pass_false id.TERMS ts (code_of ts)
    ∙ past_terms (λ is. filter (has_op_among type_opcodes) (lines_from true is)) types_pass_true ts (function_end (sum ts) ++ reflection)

none_of_variables : (ts : List Term) → filter (has_op op.VARIABLE) (lines_from false (constants_from id.TERMS ts ++ code_of ts)) ≡ []
none_of_variables ts =
    past_constants (λ is. filter (has_op op.VARIABLE) (lines_from false is)) variables_pass_false id.TERMS ts (code_of ts)
    ∙ past_terms (λ is. filter (has_op op.VARIABLE) (lines_from true is)) variables_pass_true ts (function_end (sum ts) ++ reflection)

one_function : (ts : List Term) → functions_in (lines_from false (constants_from id.TERMS ts ++ code_of ts)) ≡ the_function ts ∷ []
one_function ts =
    past_constants (λ is. functions_in (lines_from false is)) functions_pass_false id.TERMS ts (code_of ts)
    ∙ ap (λ fs. the_function ts ∷ fs) (past_terms (λ is. functions_in (lines_from true is)) functions_pass_true ts (function_end (sum ts) ++ reflection))

-- ---- the whole

abbrev whole_of_parts : Whole → Whole
whole_of_parts w = w

abbrev pub the_whole : Kernel → Whole
the_whole k = record {
  lines = lines_of (body_of k);
  capabilities = filter (has_op op.CAPABILITY) (lines_of (head k));
  entries = filter (has_op op.ENTRY_POINT) (lines_of (head k));
  modes = filter (has_op op.EXECUTION_MODE) (lines_of (head k));
  marks = filter is_mark (lines_of (head k));
  types = filter (has_op_among type_opcodes) (lines_of (head k));
  variables = filter (has_op op.VARIABLE) (lines_of (head k));
  calls = filter (has_op op.FUNCTION_CALL) (lines_of (head k));
  functions = the_function k.terms ∷ [];
}

module _ (k : Kernel) where
  capabilities_are : filter (has_op op.CAPABILITY) (lines_of (body_of k)) ≡ filter (has_op op.CAPABILITY) (lines_of (head k))
  capabilities_are = ap (λ ls. filter (has_op op.CAPABILITY) (lines_of (head k)) ++ ls) (none_of_capabilities k.terms)

  entries_are : filter (has_op op.ENTRY_POINT) (lines_of (body_of k)) ≡ filter (has_op op.ENTRY_POINT) (lines_of (head k))
  entries_are = ap (λ ls. filter (has_op op.ENTRY_POINT) (lines_of (head k)) ++ ls) (none_of_entries k.terms)

  modes_are : filter (has_op op.EXECUTION_MODE) (lines_of (body_of k)) ≡ filter (has_op op.EXECUTION_MODE) (lines_of (head k))
  modes_are = ap (λ ls. filter (has_op op.EXECUTION_MODE) (lines_of (head k)) ++ ls) (none_of_modes k.terms)

  calls_are : filter (has_op op.FUNCTION_CALL) (lines_of (body_of k)) ≡ filter (has_op op.FUNCTION_CALL) (lines_of (head k))
  calls_are = ap (λ ls. filter (has_op op.FUNCTION_CALL) (lines_of (head k)) ++ ls) (none_of_calls k.terms)

  marks_are : filter is_mark (lines_of (body_of k)) ≡ filter is_mark (lines_of (head k))
  marks_are = ap (λ ls. filter is_mark (lines_of (head k)) ++ ls) (none_of_marks k.terms)

  types_are : filter (has_op_among type_opcodes) (lines_of (body_of k)) ≡ filter (has_op_among type_opcodes) (lines_of (head k))
  types_are = ap (λ ls. filter (has_op_among type_opcodes) (lines_of (head k)) ++ ls) (none_of_types k.terms)

  variables_are : filter (has_op op.VARIABLE) (lines_of (body_of k)) ≡ filter (has_op op.VARIABLE) (lines_of (head k))
  variables_are = ap (λ ls. filter (has_op op.VARIABLE) (lines_of (head k)) ++ ls) (none_of_variables k.terms)

  functions_are : functions_in (lines_of (body_of k)) ≡ the_function k.terms ∷ []
  functions_are = one_function k.terms

  pub whole_is : whole (lines_of (body_of k)) ≡ the_whole k
  whole_is =
      ap (λ z. whole_of_parts (record { lines = lines_of (body_of k); capabilities = z; entries = filter (has_op op.ENTRY_POINT) (lines_of (body_of k)); modes = filter (has_op op.EXECUTION_MODE) (lines_of (body_of k)); marks = filter is_mark (lines_of (body_of k)); types = filter (has_op_among type_opcodes) (lines_of (body_of k)); variables = filter (has_op op.VARIABLE) (lines_of (body_of k)); calls = filter (has_op op.FUNCTION_CALL) (lines_of (body_of k)); functions = functions_in (lines_of (body_of k)) })) capabilities_are
      ∙ ap (λ z. whole_of_parts (record { lines = lines_of (body_of k); capabilities = (the_whole k).capabilities; entries = z; modes = filter (has_op op.EXECUTION_MODE) (lines_of (body_of k)); marks = filter is_mark (lines_of (body_of k)); types = filter (has_op_among type_opcodes) (lines_of (body_of k)); variables = filter (has_op op.VARIABLE) (lines_of (body_of k)); calls = filter (has_op op.FUNCTION_CALL) (lines_of (body_of k)); functions = functions_in (lines_of (body_of k)) })) entries_are
      ∙ ap (λ z. whole_of_parts (record { lines = lines_of (body_of k); capabilities = (the_whole k).capabilities; entries = (the_whole k).entries; modes = z; marks = filter is_mark (lines_of (body_of k)); types = filter (has_op_among type_opcodes) (lines_of (body_of k)); variables = filter (has_op op.VARIABLE) (lines_of (body_of k)); calls = filter (has_op op.FUNCTION_CALL) (lines_of (body_of k)); functions = functions_in (lines_of (body_of k)) })) modes_are
      ∙ ap (λ z. whole_of_parts (record { lines = lines_of (body_of k); capabilities = (the_whole k).capabilities; entries = (the_whole k).entries; modes = (the_whole k).modes; marks = z; types = filter (has_op_among type_opcodes) (lines_of (body_of k)); variables = filter (has_op op.VARIABLE) (lines_of (body_of k)); calls = filter (has_op op.FUNCTION_CALL) (lines_of (body_of k)); functions = functions_in (lines_of (body_of k)) })) marks_are
      ∙ ap (λ z. whole_of_parts (record { lines = lines_of (body_of k); capabilities = (the_whole k).capabilities; entries = (the_whole k).entries; modes = (the_whole k).modes; marks = (the_whole k).marks; types = z; variables = filter (has_op op.VARIABLE) (lines_of (body_of k)); calls = filter (has_op op.FUNCTION_CALL) (lines_of (body_of k)); functions = functions_in (lines_of (body_of k)) })) types_are
      ∙ ap (λ z. whole_of_parts (record { lines = lines_of (body_of k); capabilities = (the_whole k).capabilities; entries = (the_whole k).entries; modes = (the_whole k).modes; marks = (the_whole k).marks; types = (the_whole k).types; variables = z; calls = filter (has_op op.FUNCTION_CALL) (lines_of (body_of k)); functions = functions_in (lines_of (body_of k)) })) variables_are
      ∙ ap (λ z. whole_of_parts (record { lines = lines_of (body_of k); capabilities = (the_whole k).capabilities; entries = (the_whole k).entries; modes = (the_whole k).modes; marks = (the_whole k).marks; types = (the_whole k).types; variables = (the_whole k).variables; calls = z; functions = functions_in (lines_of (body_of k)) })) calls_are
      ∙ ap (λ z. whole_of_parts (record { lines = lines_of (body_of k); capabilities = (the_whole k).capabilities; entries = (the_whole k).entries; modes = (the_whole k).modes; marks = (the_whole k).marks; types = (the_whole k).types; variables = (the_whole k).variables; calls = (the_whole k).calls; functions = z })) functions_are

-- ---- the function

not_last : (l : Line) → is_terminator l ≡ false → is_merge l ≡ false → (ls : List Line) → is_terminated (l ∷ ls) ≡ is_terminated ls
not_last l e f [] = e
not_last l e f (m ∷ ls) = rw (e, f) refl

ended_pass : Passes (λ is. is_ended (lines_from true is))
ended_pass = record { constant = λ r n rest. refl; load = λ r rest. refl; extract = λ r a rest. refl; add = λ r a b rest. refl }

pub main_ended : (ts : List Term) → is_ended (lines_from true (code_behind ts)) ≡ true
main_ended ts = past_terms (λ is. is_ended (lines_from true is)) ended_pass ts (function_end (sum ts) ++ reflection)

terminated_pass : Passes (λ is. is_terminated (to_label (lines_from true is)))
terminated_pass = record {
  constant = λ r n rest. not_last (line true (inst op.CONSTANT (Id id.UINT ∷ Id r ∷ Word n ∷ []))) refl refl (to_label (lines_from true rest));
  load = λ r rest. not_last (load_line r) refl refl (to_label (lines_from true rest));
  extract = λ r a rest. not_last (extract_line r a) refl refl (to_label (lines_from true rest));
  add = λ r a b rest. not_last (add_line r a b) refl refl (to_label (lines_from true rest));
}

abbrev pub behind_label : List Term → List Inst
behind_label ts = global_id id.PLACE ++ (terms ts ++ (function_end (sum ts) ++ reflection))

pub block_terminated : (ts : List Term) → is_terminated (to_label (lines_from true (behind_label ts))) ≡ true
block_terminated ts =
    not_last (load_line id.PLACE) refl refl (extract_line (id.PLACE + 1) id.PLACE ∷ to_label (lines_from true (terms ts ++ (function_end (sum ts) ++ reflection))))
    ∙ not_last (extract_line (id.PLACE + 1) id.PLACE) refl refl (to_label (lines_from true (terms ts ++ (function_end (sum ts) ++ reflection))))
    ∙ past_terms (λ is. is_terminated (to_label (lines_from true is))) terminated_pass ts (function_end (sum ts) ++ reflection)

blocks_pass : Passes (λ is. blocks_in (to_end (lines_from true is)))
blocks_pass = record { constant = λ r n rest. refl; load = λ r rest. refl; extract = λ r a rest. refl; add = λ r a b rest. refl }

parameters_pass : Passes (λ is. has_no_parameter (to_end (lines_from true is)))
parameters_pass = record { constant = λ r n rest. refl; load = λ r rest. refl; extract = λ r a rest. refl; add = λ r a b rest. refl }

pub main_alone : (ts : List Term) → has_no_parameter (to_end (lines_from true (code_behind ts))) ≡ true
main_alone ts = past_terms (λ is. has_no_parameter (to_end (lines_from true is))) parameters_pass ts (function_end (sum ts) ++ reflection)

called_pass : Passes (λ is. callees_in (to_end (lines_from true is)))
called_pass = record { constant = λ r n rest. refl; load = λ r rest. refl; extract = λ r a rest. refl; add = λ r a b rest. refl }

pub calls_none : (ts : List Term) → callees_in (to_end (lines_from true (code_behind ts))) ≡ []
calls_none ts = past_terms (λ is. callees_in (to_end (lines_from true is))) called_pass ts (function_end (sum ts) ++ reflection)

-- a line that is neither a merge nor an end leaves the end to those behind it
not_end : (l : Line) → is_merge l ≡ false → end_by l ≡ Ill → (ls : List Line) → end_of (l ∷ ls) ≡ end_of ls
not_end l e f [] = f
not_end l e f (m ∷ []) = rw e refl
not_end l e f (m ∷ n ∷ ls) = refl

ends_pass : Passes (λ is. end_of (to_label (to_end (lines_from true is))))
ends_pass = record {
  constant = λ r n rest. not_end (line true (inst op.CONSTANT (Id id.UINT ∷ Id r ∷ Word n ∷ []))) refl refl (to_label (to_end (lines_from true rest)));
  load = λ r rest. not_end (load_line r) refl refl (to_label (to_end (lines_from true rest)));
  extract = λ r a rest. not_end (extract_line r a) refl refl (to_label (to_end (lines_from true rest)));
  add = λ r a b rest. not_end (add_line r a b) refl refl (to_label (to_end (lines_from true rest)));
}

abbrev pub the_block : List Term → Block
the_block ts = record { label = id.ENTRY; lines = to_label (to_end (lines_from true (behind_label ts))) }

pub one_block : (ts : List Term) → blocks_in (to_end (lines_from true (code_behind ts))) ≡ the_block ts ∷ []
one_block ts = ap (λ bs. the_block ts ∷ bs) (past_terms (λ is. blocks_in (to_end (lines_from true is))) blocks_pass ts (function_end (sum ts) ++ reflection))

pub block_leaves : (ts : List Term) → end_of (the_block ts).lines ≡ Leaves
block_leaves ts =
    not_end (load_line id.PLACE) refl refl (extract_line (id.PLACE + 1) id.PLACE ∷ to_label (to_end (lines_from true (terms ts ++ (function_end (sum ts) ++ reflection)))))
    ∙ not_end (extract_line (id.PLACE + 1) id.PLACE) refl refl (to_label (to_end (lines_from true (terms ts ++ (function_end (sum ts) ++ reflection)))))
    ∙ past_terms (λ is. end_of (to_label (to_end (lines_from true is)))) ends_pass ts (function_end (sum ts) ++ reflection)
