-- What is added stands in its sections.
use Rattle.std.proofs.Common.{◌≡◌, ℕ, ◌+◌, ◌*◌, List, [], ◌∷◌, ◌++◌, length, Option, Some, None, refl, sym, ◌∙◌}
use Rattle.std.specs.Prelude.{All}
use Rattle.std.proofs.lemmas.List.Elements.{All-nil, All-cons, All-append}
use Rattle.spv_module.specs.declared.module.Inst.{Inst}
use Rattle.spv_module.specs.declared.op.TheConstants as op
use Rattle.spv_reflect.specs.declared.choice.Wanted.TheVariants as wanted
use Rattle.spv_reflect.specs.declared.rows.ArgRow.{ArgRow}
use Rattle.spv_reflect.specs.declared.rows.KernelRow.{KernelRow}
use Rattle.spv_reflect.specs.declared.rows.Reflection.{Reflection}
use Rattle.spv_reflect.specs.Writing as spec
use Rattle.spv_reflect.specs.Writing.{HasCode, IsTypeOrConstant, IsWidened, import_line, string_line, constant_line, extended_line, strings_from, constants_from, lines_of_args, lines_of_kernels, line_of_sizes, new_one, new_body, find_in, texts_of, numbers_of, args_in}
use Rattle.spv_reflect.proofs.Parts

strings_are : (id : ℕ) (ts : List (List ℕ)) → All (HasCode op.STRING) (strings_from id ts)
strings_are id [] = All-nil (HasCode op.STRING)
strings_are id (t ∷ ts) = All-cons (HasCode op.STRING) (string_line id t) (strings_from (id + 1) ts) (record { is = refl }) (strings_are (id + 1) ts)

constants_are : (type id : ℕ) (ns : List ℕ) → All IsTypeOrConstant (constants_from type id ns)
constants_are type id [] = All-nil IsTypeOrConstant
constants_are type id (n ∷ ns) = All-cons IsTypeOrConstant (constant_line type id n) (constants_from type (id + 1) ns) (record { is = refl }) (constants_are type (id + 1) ns)

new_is : (P : Inst → Type 0) (o : Option ℕ) (i : Inst) → P i → All P (new_one o i)
new_is P None i p = All-cons P i [] p (All-nil P)
new_is P (Some id) i p = All-nil P

args_are : (void set kernel text number line : ℕ) (as_ : List ArgRow) → All (HasCode op.EXT_INST) (lines_of_args void set kernel text number line as_)
args_are void set kernel text number line [] = All-nil (HasCode op.EXT_INST)
args_are void set kernel text number line (a ∷ as_) =
    let one : Inst = extended_line void set line 2 (text ∷ []) in
    let two : Inst = spec.buffer_line void set kernel number line in
    let others : List Inst = lines_of_args void set kernel (text + 1) (number + 3) (line + 2) as_ in
    All-cons (HasCode op.EXT_INST) one (two ∷ others) (record { is = refl }) (All-cons (HasCode op.EXT_INST) two others (record { is = refl }) (args_are void set kernel (text + 1) (number + 3) (line + 2) as_))

kernels_are : (void set text number line : ℕ) (ks : List KernelRow) → All (HasCode op.EXT_INST) (lines_of_kernels void set text number line ks)
kernels_are void set text number line [] = All-nil (HasCode op.EXT_INST)
kernels_are void set text number line (k ∷ ks) =
    let one : Inst = extended_line void set line 1 (k.function ∷ text ∷ []) in
    let mine : List Inst = lines_of_args void set line (text + 1) number (line + 1) k.args in
    let others : List Inst = lines_of_kernels void set (text + 1 + length k.args) (number + 3 * length k.args) (line + 1 + 2 * length k.args) ks in
    All-cons (HasCode op.EXT_INST) one (mine ++ others) (record { is = refl })
    (All-append (HasCode op.EXT_INST) mine others (args_are void set line (text + 1) number (line + 1) k.args) (kernels_are void set (text + 1 + length k.args) (number + 3 * length k.args) (line + 1 + 2 * length k.args) ks))

size_is : (void set number line : ℕ) (sizes : Option (List ℕ)) → All (HasCode op.EXT_INST) (line_of_sizes void set number line sizes)
size_is void set number line None = All-nil (HasCode op.EXT_INST)
size_is void set number line (Some sizes) = All-cons (HasCode op.EXT_INST) (extended_line void set line 12 (number ∷ (number + 1) ∷ (number + 2) ∷ [])) [] (record { is = refl }) (All-nil (HasCode op.EXT_INST))

pub is_widened : (old : List Inst) (bound : ℕ) (r : Reflection) (body : List Inst) → body ≡ new_body old bound r → IsWidened old body
is_widened old bound r body e = record {
  imports = Parts.i_part old bound r;
  strings = Parts.s_part old bound r;
  types = Parts.v_part old bound r ++ (Parts.w_part old bound r ++ Parts.n_part old bound r);
  lines = Parts.l_part old bound r;
  are_imports = new_is (HasCode op.EXT_INST_IMPORT) (find_in old wanted.Import old) (import_line bound) (record { is = refl });
  are_strings = strings_are (Parts.t0 old bound r) (texts_of r.kernels);
  are_types =
      All-append IsTypeOrConstant (Parts.v_part old bound r) (Parts.w_part old bound r ++ Parts.n_part old bound r) (new_is IsTypeOrConstant (find_in old wanted.Void old) (spec.void_line (Parts.v0 old bound r)) (record { is = refl }))
      (All-append IsTypeOrConstant (Parts.w_part old bound r) (Parts.n_part old bound r) (new_is IsTypeOrConstant (find_in old wanted.WordType old) (spec.word_type_line (Parts.w0 old bound r)) (record { is = refl })) (constants_are (Parts.word_id old bound r) (Parts.n0 old bound r) (numbers_of r)));
  are_lines =
      let void = Parts.void_id old bound r in
      let set = Parts.set_id old bound r in
      let t = Parts.t0 old bound r in
      let n = Parts.n0 old bound r in
      let l = Parts.l0 old bound r in
      All-append (HasCode op.EXT_INST) (lines_of_kernels void set t n l r.kernels) (line_of_sizes void set (n + 3 * args_in r.kernels) (l + length r.kernels + 2 * args_in r.kernels) r.sizes)
      (kernels_are void set t n l r.kernels) (size_is void set (n + 3 * args_in r.kernels) (l + length r.kernels + 2 * args_in r.kernels) r.sizes);
  parts = sym (Parts.whole old bound r);
  joined = e;
}
