-- What a launch gives a kernel's module.
use Rattle.std.proofs.Common.{◌≡◌, ℕ, ◌+◌, ◌^◌, ◌<◌, ◌≤◌, Bool, true, false, cond, List, [], ◌∷◌, ◌++◌, length, Option, Some, None, refl, sym, ap, ◌∙◌, subst, arith, append_assoc, length-append, nat_eq, suc, get_or, drop, drop-cons}
use Rattle.std.specs.Option.{option_map, option_to_list}
use Rattle.std.specs.Str.{bytes_eq}
use Rattle.std.proofs.lemmas.List.{length-map, map-append, drop_all}
use Rattle.std.proofs.lemmas.Option.{same_Some}
use Rattle.launch_text.specs.declared.launch.ArgLine.{ArgLine}
use Rattle.launch_text.specs.declared.launch.Launch.{Launch}
use Rattle.launch_text.specs.Readable.{IsReadable}
use Rattle.launch_text.specs.Rules.{LoadedLaunch, Parameter, Taken, required_by, buffer_given, broken, IsLeastBroken}
use Rattle.spv_meaning.specs.Start.{Bound, Start}
use Rattle.spv_module.specs.declared.module.Inst.{Inst}
use Rattle.spv_module.specs.declared.module.Module.{Module}
use Rattle.spv_module.specs.Instructions.{said}
use Rattle.spv_module.specs.Options.{◌>>=◌, only_if, for_each}
use Rattle.spv_module.specs.Words.{inst_words, body_words, IsSpelled}
use Rattle.spv_reflect.specs.declared.rows.ArgKindRow.{ArgKindRow}
use Rattle.spv_reflect.specs.declared.rows.ArgKindRow.TheVariants.{Buffer, PlainStorage, PlainPush, Local}
use Rattle.spv_reflect.specs.declared.rows.ArgRow.{ArgRow}
use Rattle.spv_reflect.specs.declared.rows.KernelRow.{KernelRow}
use Rattle.spv_reflect.specs.declared.rows.Reflection.{Reflection}
use Rattle.spv_reflect.specs.Reflection.{Line, KernelLine, NameLine, BufferLine, SizesLine, WrongLine, UnknownLine, line_of, with_line, lines_in, are_right, name_in, arguments_in, kernels_in, rows_in, rows_by, rows_of}
use Rattle.vk_bind.specs.declared.parameters.Parameter.{Parameter as Found}
use Rattle.vk_bind.specs.declared.start.Bound.{Bound as Pair}
use Rattle.vk_bind.specs.Answers.{bound_of, bounds_from, parameter_from, parameters_from, taken_from, IsAccepted}
use Rattle.vk_bind.specs.Binding.{bound_by, bound_from, kernel_among, parameter_of, taken_of, takes_in, start_of, BindsTo}

-- ---- what is bound

-- The first rows are bound, and the rest after them.
pub record BoundTo (args : List ArgLine) (rows rest : List ArgRow) (n : ℕ) (bound : List Pair) : Type 0 where
  pub so_far : bounds_from bound ++ bound_from args n rest ≡ bound_from args 0 rows
  pub counted : n + length rest ≡ length rows

pub bound_first : (args : List ArgLine) (rows : List ArgRow) → BoundTo args rows rows 0 []
bound_first args rows = record { so_far = refl; counted = omega arith }

bound_onto : (kind : ArgKindRow) (o : Option ℕ) (bs : List Bound) → bound_by kind o bs ≡ bound_by kind o [] ++ bs
bound_onto (Buffer set binding) (Some buffer) bs = refl
bound_onto (Buffer set binding) None bs = refl
bound_onto (PlainStorage set binding offset size) o bs = refl
bound_onto (PlainPush offset size) o bs = refl
bound_onto (Local spec element) o bs = refl

pub bound_more : (args : List ArgLine) (rows rest : List ArgRow) (row : ArgRow) (n m : ℕ) (bound more : List Pair) (found : Option Pair) → BoundTo args rows (row ∷ rest) n bound → bound_by row.kind (buffer_given n args) [] ≡ bounds_from (option_to_list found) → more ≡ bound ++ option_to_list found → m ≡ n + 1 → BoundTo args rows rest m more
bound_more args rows rest row n m bound more found h e push next = record {
  so_far =
      ap (λ k. bounds_from more ++ bound_from args k rest) next
      ∙ ap (λ b. bounds_from b ++ bound_from args (n + 1) rest) push
      ∙ ap (λ b. b ++ bound_from args (n + 1) rest) (map-append bound_of bound (option_to_list found))
      ∙ append_assoc (bounds_from bound) (bounds_from (option_to_list found)) (bound_from args (n + 1) rest)
      ∙ ap (λ b. bounds_from bound ++ (b ++ bound_from args (n + 1) rest)) (sym e)
      ∙ ap (λ b. bounds_from bound ++ b) (sym (bound_onto row.kind (buffer_given n args) (bound_from args (n + 1) rest)))
      ∙ h.so_far;
  counted = let c = h.counted in omega (arith, c, next);
}

append_none : (xs : List Bound) → xs ++ [] ≡ xs
append_none [] = refl
append_none (x ∷ xs) = ap (λ ys. x ∷ ys) (append_none xs)

pub bound_step : (args : List ArgLine) (rows : List ArgRow) (row : ArgRow) (n m : ℕ) (bound more : List Pair) (found : Option Pair) → n < length rows → row ≡ get_or rows n row → BoundTo args rows (drop n rows) n bound → bound_by row.kind (buffer_given n args) [] ≡ bounds_from (option_to_list found) → more ≡ bound ++ option_to_list found → m ≡ n + 1 → BoundTo args rows (drop m rows) m more
bound_step args rows row n m bound more found w is h e push next =
    let parts : drop n rows ≡ row ∷ drop (suc n) rows = drop-cons rows n row w ∙ ap (λ r. r ∷ drop (suc n) rows) (sym is) in
    let one : suc n ≡ m = omega (arith, next) in
    bound_more args rows (drop m rows) row n m bound more found (subst (λ rest. BoundTo args rows rest n bound) (parts ∙ ap (λ k. row ∷ drop k rows) one) h) e push next

pub bound_all : (args : List ArgLine) (rows : List ArgRow) (n : ℕ) (bound : List Pair) → BoundTo args rows (drop n rows) n bound → length rows ≤ n → bounds_from bound ≡ bound_from args 0 rows
bound_all args rows n bound h e = sym (append_none (bounds_from bound)) ∙ ap (λ r. bounds_from bound ++ bound_from args n r) (sym (drop_all n rows e)) ∙ h.so_far

-- ---- there are no more arguments than instructions

few_with : (o : Option Line) (ls : List Line) → length (with_line o ls) ≤ length ls + 1
few_with None ls = omega arith
few_with (Some l) ls = omega arith

few_lines : (body is : List Inst) → length (lines_in body is) ≤ length is
few_lines body [] = omega arith
few_lines body (i ∷ is) = let h = few_lines body is in let k = few_with (line_of body (said i)) (lines_in body is) in omega (arith, h, k)

bound_some : {A B : Type 0} (P : Type 0) (o : Option A) (f : A → Option B) (b : B) → ((a : A) → o ≡ Some a → f a ≡ Some b → P) → (o >>= f) ≡ Some b → P
bound_some P None f b k e = absurd (let never : ⊥ = cc in never)
bound_some P (Some a) f b k e = k a refl e

few_if : (b : Bool) (x : ArgRow) (xs : List ArgRow) (n : ℕ) → length xs ≤ n → length (cond b (x ∷ xs) xs) ≤ n + 1
few_if true x xs n h = omega (arith, h)
few_if false x xs n h = omega (arith, h)

few_given : (all ls : List Line) (kernel : ℕ) → length (arguments_in all kernel ls) ≤ length ls
few_given all [] kernel = omega arith
few_given all (BufferLine r k ordinal set binding info ∷ ls) kernel =
    let h = few_given all ls kernel in
    let i = few_if (nat_eq k kernel) (record { name = name_in all info; kind = Buffer set binding }) (arguments_in all kernel ls) (length ls) h in
    omega (arith, i)
few_given all (KernelLine r function name ∷ ls) kernel = let h = few_given all ls kernel in omega (arith, h)
few_given all (NameLine r name ∷ ls) kernel = let h = few_given all ls kernel in omega (arith, h)
few_given all (SizesLine r x y z ∷ ls) kernel = let h = few_given all ls kernel in omega (arith, h)
few_given all (WrongLine r number ∷ ls) kernel = let h = few_given all ls kernel in omega (arith, h)
few_given all (UnknownLine ∷ ls) kernel = let h = few_given all ls kernel in omega (arith, h)

abbrev AreShort : ℕ → List KernelRow → Type 0
AreShort most [] = Unit {0}
AreShort most (row ∷ rows) = (length row.args ≤ most) × AreShort most rows

short_rows : (all ls : List Line) → AreShort (length all) (kernels_in all ls)
short_rows all [] = tt
short_rows all (KernelLine r function name ∷ ls) = (few_given all all r, short_rows all ls)
short_rows all (BufferLine r k ordinal set binding info ∷ ls) = short_rows all ls
short_rows all (NameLine r name ∷ ls) = short_rows all ls
short_rows all (SizesLine r x y z ∷ ls) = short_rows all ls
short_rows all (WrongLine r number ∷ ls) = short_rows all ls
short_rows all (UnknownLine ∷ ls) = short_rows all ls

short_by : (name : List ℕ) (row : KernelRow) (rows : List KernelRow) (most : ℕ) (found : KernelRow) (b : Bool) → (kernel_among name rows ≡ Some found → length found.args ≤ most) → length row.args ≤ most → cond b (Some row) (kernel_among name rows) ≡ Some found → length found.args ≤ most
short_by name row rows most found true h w e = subst (λ (r : KernelRow). length r.args ≤ most) (same_Some row found e) w
short_by name row rows most found false h w e = h e

short_one : (name : List ℕ) (rows : List KernelRow) (most : ℕ) (found : KernelRow) → AreShort most rows → kernel_among name rows ≡ Some found → length found.args ≤ most
short_one name [] most found h e = absurd (let never : ⊥ = cc in never)
short_one name (row ∷ rows) most found h e = short_by name row rows most found (bytes_eq row.name name) (short_one name rows most found h.1) h.0 e

only_same : {A : Type 0} (b : Bool) (a c : A) → only_if b a ≡ Some c → a ≡ c
only_same true a c e = same_Some a c e
only_same false a c e = absurd (let never : ⊥ = cc in never)

short_in : (lines : List Line) (r : Reflection) (name : List ℕ) (row : KernelRow) → rows_by lines ≡ Some r → kernel_among name r.kernels ≡ Some row → length row.args ≤ length lines
short_in lines r name row e found =
    let same = ap (λ (x : Reflection). x.kernels) (only_same (are_right lines) (rows_in lines) r e) in
    short_one name (kernels_in lines lines) (length lines) row (short_rows lines lines) (ap (kernel_among name) same ∙ found)

counted_each : {A B : Type 0} (f : A → Option B) (xs : List A) (ys : List B) → for_each f xs ≡ Some ys → length ys ≡ length xs
counted_each f [] ys e = let same = ap length (same_Some [] ys e) in omega (arith, same)
counted_each f (x ∷ xs) ys e =
    bound_some (length ys ≡ length (x ∷ xs)) (f x) _ ys (λ b p q.
    bound_some (length ys ≡ length (x ∷ xs)) (for_each f xs) _ ys (λ bs s t. (let h = counted_each f xs bs s in let same = ap length (same_Some _ ys t) in omega (arith, h, same))) q) e

pub few_rows : (body : List Inst) (r : Reflection) (name : List ℕ) (row : KernelRow) → rows_of body ≡ Some r → kernel_among name r.kernels ≡ Some row → length body < 2 ^ 32 → length row.args < 2 ^ 32
few_rows body r name row e among few =
    let short = short_in (lines_in body body) r name row e among in
    let lines = few_lines body body in
    omega (arith, short, lines, few)

-- ---- a module that bytes stand for has few instructions

words_each : (body : List Inst) → length body ≤ length (body_words body)
words_each [] = omega arith
words_each (i ∷ is) = let h = words_each is in let both = length-append (inst_words i) (body_words is) in omega (arith, h, both)

pub few_instructions : (m : Module) → IsSpelled m → length m.body < 2 ^ 32
few_instructions m h = let words = words_each m.body in let size = h.size in omega (arith, words, size)

pub few_buffers : (launch : Launch) (buffers : List (List ℕ)) → IsReadable launch → length buffers ≡ length launch.files → length buffers < 2 ^ 32
few_buffers launch buffers h e = let few = h.few in omega (arith, few, e)

-- ---- the kernel and the start

pub takes_row : (body : List Inst) (r : Reflection) (name : List ℕ) (row : KernelRow) (o : Option Taken) → rows_of body ≡ Some r → kernel_among name r.kernels ≡ Some row → o ≡ taken_of body row → takes_in body name ≡ o
takes_row body r name row o rows found taken = ap (λ x. x >>= λ r. kernel_among name r.kernels >>= taken_of body) rows ∙ ap (λ x. x >>= taken_of body) found ∙ sym taken

pub takes_none : (body : List Inst) (r : Reflection) (name : List ℕ) → rows_of body ≡ Some r → kernel_among name r.kernels ≡ None → takes_in body name ≡ None
takes_none body r name rows found = ap (λ x. x >>= λ r. kernel_among name r.kernels >>= taken_of body) rows ∙ ap (λ x. x >>= taken_of body) found

pub binds : (body : List Inst) (r : Reflection) (l : LoadedLaunch) (row : KernelRow) (start : Start) → rows_of body ≡ Some r → IsAccepted body r l row → start_of r row l ≡ start → BindsTo body l start
binds body r l row start rows h same = subst (λ s. BindsTo body l s) same (record {
  taken = h.suits.taken;
  binding =
      ap (λ x. x >>= λ r. kernel_among l.kernel r.kernels >>= λ row. taken_of body row >>= λ taken. Some (taken, start_of r row l)) rows
      ∙ ap (λ x. x >>= λ row. taken_of body row >>= λ taken. Some (taken, start_of r row l)) h.found
      ∙ ap (λ x. x >>= λ taken. Some (taken, start_of r row l)) h.suits.takes;
  rules = h.suits.rules;
})

-- ---- what the calls found, of what they were given

pub same_among : (name kernel : List ℕ) (rows kernels : List KernelRow) (o : Option KernelRow) → rows ≡ kernels → name ≡ kernel → o ≡ kernel_among name rows → kernel_among kernel kernels ≡ o
same_among name kernel rows kernels o d e h = ap (λ n. kernel_among n kernels) (sym e) ∙ ap (kernel_among name) (sym d) ∙ sym h

pub same_taken : (body : List Inst) (rows args : List ArgRow) (o p : Option (List Found)) → rows ≡ args → o ≡ p → option_map parameters_from o ≡ for_each (parameter_of body) rows → option_map parameters_from p ≡ for_each (parameter_of body) args
same_taken body rows args o p d e h = ap (option_map parameters_from) (sym e) ∙ h ∙ ap (for_each (parameter_of body)) d

-- what the row takes, by what was found of its arguments
abbrev with_required : Option (List ℕ) → Option (List Parameter) → Option Taken
with_required required o = o >>= λ parameters. Some (record { parameters = parameters; required = required_by required })

pub taken_some : (body : List Inst) (row : KernelRow) (rows : List ArgRow) (found slice : List Found) → rows ≡ row.args → Some (parameters_from found) ≡ for_each (parameter_of body) rows → slice ≡ found → taken_of body row ≡ Some (taken_from slice row.required)
taken_some body row rows found slice d e same = ap (λ as_. with_required row.required (for_each (parameter_of body) as_)) (sym d) ∙ ap (with_required row.required) (sym e) ∙ ap (λ f. Some (taken_from f row.required)) (sym same)

pub taken_none : (body : List Inst) (row : KernelRow) (rows : List ArgRow) → rows ≡ row.args → None ≡ for_each (parameter_of body) rows → taken_of body row ≡ None
taken_none body row rows d e = ap (λ as_. with_required row.required (for_each (parameter_of body) as_)) (sym d) ∙ ap (with_required row.required) (sym e)

pub stop_by : (l : LoadedLaunch) (takes other : Option Taken) (number : ℕ) (argument : Option ℕ) → takes ≡ other → IsLeastBroken l other (broken number argument) → IsLeastBroken l takes (broken number argument)
stop_by l takes other number argument e h = subst (λ t. IsLeastBroken l t (broken number argument)) (sym e) h

pub few_found : (body : List Inst) (args : List ArgRow) (found slice : List Found) → length args < 2 ^ 32 → Some (parameters_from found) ≡ for_each (parameter_of body) args → slice ≡ found → length slice < 2 ^ 32
few_found body args found slice few taken same = let h = counted_each (parameter_of body) args (parameters_from found) (sym taken) in let mapped = length-map found parameter_from in let e = ap length same in omega (arith, few, h, mapped, e)
