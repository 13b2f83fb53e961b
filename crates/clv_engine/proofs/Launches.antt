-- A launch that fits a kernel: its one argument, and the start that it gives the kernel's module.
use Rattle.std.proofs.Common.{◌≡◌, ℕ, zero, suc, ◌%◌, ◌<◌, ◌≤◌, Bool, true, false, not, ltb, List, [], ◌∷◌, length, Option, Some, None, cond, ◌&&◌, refl, sym, ap, ◌∙◌, subst, arith, slice_get, get_or, slice_index_or, Contains}
use Rattle.std.proofs.lemmas.Bool.{lt-ltb, ltb-true, ltb-false}
use Rattle.std.proofs.lemmas.Option.{slice_get-get_or, slice_get_past}
use Rattle.std.proofs.lemmas.Slice.Eq.{bytes_eq-Decides}
use Rattle.spv_module.specs.declared.enumerant.decoration.TheConstants as decoration
use Rattle.clv_engine.specs.declared.form.Kernel.{Kernel}
use Rattle.spv_module.specs.Instructions.{decoration_in}
use Rattle.clv_engine.specs.declared.id.TheConstants as id
use Rattle.spv_module.specs.Options.{◌>>=◌, for_each, is_there}
use Rattle.launch_text.specs.Rules.{LoadedLaunch, IsLaunch, Parameter, BufferPointer, Taken, given_to, is_unmatched, is_of_kind, breaks_both, KeepsRules}
use Rattle.launch_text.specs.declared.launch.ArgKind.{ArgKind}
use Rattle.launch_text.specs.declared.launch.ArgKind.TheVariants.{Buffer, Local, Plain}
use Rattle.launch_text.specs.declared.launch.ArgLine.{ArgLine}
use Rattle.clv_engine.specs.Emitted.{body_of}
use Rattle.spv_module.specs.Interface.{is_number, variables_in}
use Rattle.spv_reflect.specs.declared.rows.ArgKindRow.TheVariants.{Buffer as BufferRow}
use Rattle.spv_reflect.specs.declared.rows.ArgRow.{ArgRow}
use Rattle.spv_reflect.specs.declared.rows.KernelRow.{KernelRow}
use Rattle.spv_reflect.specs.declared.rows.Reflection.{Reflection}
use Rattle.clv_engine.specs.KernelRows.{reflection_of}
use Rattle.spv_meaning.specs.Start.{Start}
use Rattle.vk_bind.specs.Binding.{variable_among, pointer_to, parameter_of, taken_of, kernel_among, start_of, binding_of, BindsTo}
use Rattle.launch_text.proofs.Breaking.{line_gives, given_by}
use Rattle.clv_engine.specs.Promises.{Fits, kernel_takes, surroundings_of}
use Rattle.clv_engine.proofs.FactsScans.{none_behind}
use Rattle.clv_engine.proofs.FactsInterface.{variables_are}
use Rattle.clv_engine.proofs.FactsReflection.{rows_are}

-- The one argument of a launch is a buffer.
pub record HasBuffer (l : LoadedLaunch) : Type 0 where
  pub file : ℕ
  pub bytes : List ℕ
  pub arguments : l.arguments ≡ record { ordinal = 0; kind = Buffer file } ∷ []
  pub found : slice_get l.buffers file ≡ Some bytes

-- Each of the lines gives the argument 0, and no two give one: there is one line.
abbrev AllGiveFirst : List ArgLine → Type 0
AllGiveFirst all = (a : ArgLine) → Contains all a → a.ordinal < 1

abbrev AreOnce : List ArgLine → Type 0
AreOnce all = (m n : ℕ) (a b : ArgLine) → slice_get all m ≡ Some a → slice_get all n ≡ Some b → a.ordinal ≡ b.ordinal → m ≡ n

first_is : (b a : ArgLine) (n : ℕ) → n < 1 → slice_index_or (b ∷ []) n a ≡ a → b ≡ a
first_is b a zero low e = e
first_is b a (suc n) low e = absurd (omega arith)

two_apart : (b d : ArgLine) (more : List ArgLine) → AllGiveFirst (b ∷ d ∷ more) → AreOnce (b ∷ d ∷ more) → ⊥
two_apart b d more low once =
    let x = low b (0, omega arith, refl) in
    let y = low d (1, omega arith, refl) in
    let e : 0 ≡ 1 = once 0 1 b d refl refl (omega (arith, x, y)) in
    omega (arith, e)

only_one : (all : List ArgLine) (a : ArgLine) → AllGiveFirst all → AreOnce all → Contains all a → all ≡ a ∷ []
only_one [] a low once c = absurd (let h = c.1 in omega (arith, h))
only_one (b ∷ []) a low once c = ap (λ d. d ∷ []) (first_is b a c.0 c.1 c.2)
only_one (b ∷ d ∷ more) a low once c = absurd (two_apart b d more low once)

-- the one parameter
abbrev pointer : Parameter
pointer = BufferPointer (record { size = 4; scalars = (0, 32) ∷ [] }) false

never_both : {A : Type 0} (b : Bool) → b ≡ true → b ≡ false → A
never_both b d e = absurd (let never : true ≡ false = sym d ∙ e in cc)

given_some : (o : Option ArgKind) → is_unmatched (Some pointer) o ≡ false → (kind : ArgKind) × (o ≡ Some kind)
given_some (Some kind) e = (kind, refl)
given_some None e = absurd (let never : true ≡ false = e in cc)

-- a line past the argument breaks a rule
past_by : (l : LoadedLaunch) (a : ArgLine) (b : Bool) → ltb a.ordinal 1 ≡ b → KeepsRules kernel_takes l → Contains l.arguments a → a.ordinal < 1
past_by l a true e rules c = ltb-true a.ordinal 1 e
past_by l a false e rules c =
    let past : 1 ≤ a.ordinal = ltb-false a.ordinal 1 e in
    let g = given_by l.arguments a.ordinal a.kind (given_to a.ordinal l.arguments) refl c in
    let breaks : is_unmatched (slice_get kernel_takes.parameters a.ordinal) (given_to a.ordinal l.arguments) ≡ true = ap (λ p. is_unmatched p (given_to a.ordinal l.arguments)) (slice_get_past kernel_takes.parameters a.ordinal past) ∙ ap (is_unmatched None) g.1 in
    never_both (is_unmatched (slice_get kernel_takes.parameters a.ordinal) (given_to a.ordinal l.arguments)) breaks (rules.none 11 (Some a.ordinal))

with_buffer : (l : LoadedLaunch) (kind : ArgKind) → IsLaunch l → l.arguments ≡ record { ordinal = 0; kind = kind } ∷ [] → not (is_of_kind pointer kind) ≡ false → HasBuffer l
with_buffer l (Buffer file) launch e h = record {
  file = file;
  bytes = get_or l.buffers file [];
  arguments = e;
  found = slice_get-get_or l.buffers file [] (launch.buffers 0 file (subst (λ all. Contains all (record { ordinal = 0; kind = Buffer file })) (sym e) (0, omega arith, refl)));
}
with_buffer l (Local bytes) launch e h = absurd (let never : true ≡ false = h in cc)
with_buffer l (Plain bytes) launch e h = absurd (let never : true ≡ false = h in cc)

pub has_buffer : (k : Kernel) (l : LoadedLaunch) → Fits k l → HasBuffer l
has_buffer k l f =
    let g = given_some (given_to 0 l.arguments) (f.rules.none 11 (Some 0)) in
    let one = only_one l.arguments _ (λ a c. past_by l a (ltb a.ordinal 1) refl f.rules c) f.launch.once (line_gives l.arguments 0 g.0 g.1) in
    with_buffer l g.0 f.launch one (sym (ap (breaks_both l kernel_takes 12 0 (Some pointer)) g.1) ∙ f.rules.none 12 (Some 0))

-- what each item is told of its place along x
pub global_id_is : (l : LoadedLaunch) (n : ℕ) → 1 ≤ l.dims → (surroundings_of l n).global_id 0 ≡ n % l.global.x
global_id_is l n some = ap (λ t. cond t (n % l.global.x) 0) (lt-ltb 0 l.dims some)

pub global_id_within : (k : Kernel) (l : LoadedLaunch) (n : ℕ) → Fits k l → (surroundings_of l n).global_id 0 < l.global.x
global_id_within k l n f =
    let e = global_id_is l n f.launch.some in
    let some = f.launch.global.x.some in
    omega (arith, e, some)

-- the row of the kernel and of its argument
abbrev pub argument_row : Kernel → ArgRow
argument_row k = record { name = k.argument ∷ []; kind = BufferRow 0 0 }

abbrev pub kernel_row : Kernel → KernelRow
kernel_row k = record { function = id.MAIN; name = k.name ∷ []; args = argument_row k ∷ []; required = None }

abbrev pub start_for : Kernel → LoadedLaunch → Start
start_for k l = start_of (reflection_of k id.MAIN) (kernel_row k) l

variable_found : (k : Kernel) → variable_among (body_of k) 0 0 (variables_in (body_of k)) ≡ Some id.BUFFER
variable_found k =
    ap (variable_among (body_of k) 0 0) (variables_are k) ∙ ap (λ d. cond (is_number d 0 && is_number (decoration_in (body_of k) id.GLOBAL_ID decoration.BINDING) 0) (Some id.GLOBAL_ID) (Some id.BUFFER)) (none_behind id.GLOBAL_ID decoration.DESCRIPTOR_SET k.terms)

parameter_found : (k : Kernel) → parameter_of (body_of k) (argument_row k) ≡ Some pointer
parameter_found k =
    ap (λ v. v >>= pointer_to (body_of k)) (variable_found k)
    ∙ ap (λ d. Some (BufferPointer (record { size = 4; scalars = (0, 32) ∷ [] }) (is_there d))) (none_behind id.BUFFER decoration.RESTRICT k.terms)

name_found : (k : Kernel) (l : LoadedLaunch) → l.kernel ≡ k.name ∷ [] → kernel_among l.kernel (kernel_row k ∷ []) ≡ Some (kernel_row k)
name_found k l e = ap (λ b. cond b (Some (kernel_row k)) None) ((bytes_eq-Decides (k.name ∷ []) l.kernel).1 (sym e))

pub taken_found : (k : Kernel) → taken_of (body_of k) (kernel_row k) ≡ Some kernel_takes
taken_found k = ap (λ (o : Option Parameter). (o >>= λ b. Some (b ∷ [])) >>= λ parameters. Some (record { parameters = parameters; required = [] })) (parameter_found k)

-- what each step of the binding makes of the one before
abbrev from_rows : Kernel → LoadedLaunch → Option Reflection → Option (Taken × Start)
from_rows k l o = o >>= λ r. kernel_among l.kernel r.kernels >>= λ row. taken_of (body_of k) row >>= λ taken. Some (taken, start_of r row l)

abbrev from_row : Kernel → LoadedLaunch → Option KernelRow → Option (Taken × Start)
from_row k l o = o >>= λ row. taken_of (body_of k) row >>= λ taken. Some (taken, start_of (reflection_of k id.MAIN) row l)

abbrev from_taken : Kernel → LoadedLaunch → Option Taken → Option (Taken × Start)
from_taken k l o = o >>= λ taken. Some (taken, start_for k l)

pub binding_found : (k : Kernel) (l : LoadedLaunch) → Fits k l → binding_of (body_of k) l ≡ Some (kernel_takes, start_for k l)
binding_found k l f = ap (from_rows k l) (rows_are k) ∙ ap (from_row k l) (name_found k l f.kernel) ∙ ap (from_taken k l) (taken_found k)

pub binds_found : (k : Kernel) (l : LoadedLaunch) → Fits k l → BindsTo (body_of k) l (start_for k l)
binds_found k l f = record { taken = kernel_takes; binding = binding_found k l f; rules = f.rules }

one_start : {A B : Type 0} (o : Option (A × B)) (a b : A) (x y : B) → o ≡ Some (a, x) → o ≡ Some (b, y) → x ≡ y
one_start {A} {B} o a b x y d e = let p : ◌≡◌ {A = A × B} (a, x) (b, y) = cc in ap (λ (q : A × B). q.1) p

-- and no other start
pub start_only : (k : Kernel) (l : LoadedLaunch) (start : Start) → Fits k l → BindsTo (body_of k) l start → start_for k l ≡ start
start_only k l start f b = one_start (binding_of (body_of k) l) _ _ (start_for k l) start (binding_found k l f) b.binding
