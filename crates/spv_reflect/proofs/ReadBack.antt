-- The lines that are written are read as what they were written for, in a body that defines what they name.
use Rattle.std.proofs.Common.{◌≡◌, ℕ, suc, ◌+◌, ◌*◌, ◌≤◌, ◌<◌, Bool, true, false, List, [], ◌∷◌, ◌++◌, length, Option, Some, None, refl, sym, ap, subst, ◌∙◌, arith, append_assoc, append-nil}
use Rattle.std.specs.Prelude.{All}
use Rattle.std.proofs.lemmas.List.Elements.{All-head, All-tail}
use Rattle.spv_module.specs.declared.module.Inst.{Inst}
use Rattle.spv_module.specs.Instructions.{said, definition_in}
use Rattle.spv_module.specs.Options.{only_if}
use Rattle.spv_reflect.specs.declared.rows.ArgRow.{ArgRow}
use Rattle.spv_reflect.specs.declared.rows.KernelRow.{KernelRow}
use Rattle.spv_reflect.specs.Reflection.{Line, KernelLine, NameLine, BufferLine, SizesLine, is_reflection, line_of, with_line, lines_in, text_at, number_at, function_by}
use Rattle.spv_reflect.specs.Writing.{set_of, binding_of, extended_line, buffer_line, lines_of_arg, lines_of_args, lines_of_kernel, lines_of_kernels, line_of_sizes, texts_of_args, texts_of, numbers_of_args, numbers_of_kernels, numbers_of_sizes, IsFunctionRow, AreThree}
use Rattle.spv_reflect.proofs.Lines.{arg_lines, kernel_lines, size_lines}
use Rattle.spv_reflect.proofs.Counts.{length-texts_of_args, length-numbers_of_args}

module _ (body : List Inst) where
  pub lines_append : (xs ys : List Inst) → lines_in body (xs ++ ys) ≡ lines_in body xs ++ lines_in body ys
  lines_append [] ys = refl
  lines_append (x ∷ xs) ys = ap (with_line (line_of body (said x))) (lines_append xs ys) ∙ sym (with_append (line_of body (said x)) (lines_in body xs) (lines_in body ys)) where
    with_append : (o : Option Line) (ls ms : List Line) → with_line o ls ++ ms ≡ with_line o (ls ++ ms)
    with_append None ls ms = refl
    with_append (Some l) ls ms = refl

  -- texts and numbers at ids in a row
  abbrev pub AreTexts : ℕ → List (List ℕ) → Type 0
  AreTexts id [] = Unit {0}
  AreTexts id (t ∷ ts) = (text_at body id ≡ Some t) × AreTexts (id + 1) ts

  abbrev pub AreNumbers : ℕ → List ℕ → Type 0
  AreNumbers id [] = Unit {0}
  AreNumbers id (n ∷ ns) = (number_at body id ≡ Some n) × AreNumbers (id + 1) ns

  texts_left : (id : ℕ) (xs ys : List (List ℕ)) → AreTexts id (xs ++ ys) → AreTexts id xs
  texts_left id [] ys h = tt
  texts_left id (x ∷ xs) ys h = (h.0, texts_left (id + 1) xs ys h.1)

  texts_right : (id : ℕ) (xs ys : List (List ℕ)) → AreTexts id (xs ++ ys) → AreTexts (id + length xs) ys
  texts_right id [] ys h = subst (λ n. AreTexts n ys) (omega arith) h
  texts_right id (x ∷ xs) ys h = subst (λ n. AreTexts n ys) (omega arith) (texts_right (id + 1) xs ys h.1)

  pub numbers_left : (id : ℕ) (xs ys : List ℕ) → AreNumbers id (xs ++ ys) → AreNumbers id xs
  numbers_left id [] ys h = tt
  numbers_left id (x ∷ xs) ys h = (h.0, numbers_left (id + 1) xs ys h.1)

  pub numbers_right : (id : ℕ) (xs ys : List ℕ) → AreNumbers id (xs ++ ys) → AreNumbers (id + length xs) ys
  numbers_right id [] ys h = subst (λ n. AreNumbers n ys) (omega arith) h
  numbers_right id (x ∷ xs) ys h = subst (λ n. AreNumbers n ys) (omega arith) (numbers_right (id + 1) xs ys h.1)

  second : (id a b : ℕ) (ns : List ℕ) → AreNumbers id (a ∷ b ∷ ns) → number_at body (id + 1) ≡ Some b
  second id a b ns h = h.1.0

  third : (id a b c : ℕ) (ns : List ℕ) → AreNumbers id (a ∷ b ∷ c ∷ ns) → number_at body (id + 2) ≡ Some c
  third id a b c ns h = subst (λ n. number_at body n ≡ Some c) (omega arith) h.1.1.0

  behind_three : (id a b c : ℕ) (ns : List ℕ) → AreNumbers id (a ∷ b ∷ c ∷ ns) → AreNumbers (id + 3) ns
  behind_three id a b c ns h = subst (λ n. AreNumbers n ns) (omega arith) h.1.1.1

  module _ (void set : ℕ) (imported : is_reflection (definition_in body set) ≡ true) where
    name_read : (line text : ℕ) (name : List ℕ) → text_at body text ≡ Some name → line_of body (said (extended_line void set line 2 (text ∷ []))) ≡ Some (NameLine line name)
    name_read line text name e = rw (imported, e) refl

    buffer_read : (kernel line number o s b : ℕ) → number_at body number ≡ Some o → number_at body (number + 1) ≡ Some s → number_at body (number + 2) ≡ Some b → line_of body (said (buffer_line void set kernel number line)) ≡ Some (BufferLine (line + 1) kernel o s b line)
    buffer_read kernel line number o s b e f g = rw (imported, e, f, g) refl

    kernel_read : (line text f : ℕ) (name : List ℕ) → function_by (definition_in body f) ≡ Some f → text_at body text ≡ Some name → line_of body (said (extended_line void set line 1 (f ∷ text ∷ []))) ≡ Some (KernelLine line f name)
    kernel_read line text f name e g = rw (imported, e, g) refl

    sizes_read : (line number x y z : ℕ) → number_at body number ≡ Some x → number_at body (number + 1) ≡ Some y → number_at body (number + 2) ≡ Some z → line_of body (said (extended_line void set line 12 (number ∷ (number + 1) ∷ (number + 2) ∷ []))) ≡ Some (SizesLine line x y z)
    sizes_read line number x y z e f g = rw (imported, e, f, g) refl

    args_read : (kernel ordinal text number line : ℕ) (as_ : List ArgRow) → AreTexts text (texts_of_args as_) → AreNumbers number (numbers_of_args ordinal as_) → lines_in body (lines_of_args void set kernel text number line as_) ≡ arg_lines kernel ordinal line as_
    args_read kernel ordinal text number line [] t n = refl
    args_read kernel ordinal text number line (a ∷ as_) t n =
        let others : List Inst = lines_of_args void set kernel (text + 1) (number + 3) (line + 2) as_ in
        let more = numbers_of_args (ordinal + 1) as_ in
        let one = name_read line text a.name t.0 in
        let two = buffer_read kernel line number ordinal (set_of a.kind) (binding_of a.kind) n.0 (second number ordinal (set_of a.kind) (binding_of a.kind ∷ more) n) (third number ordinal (set_of a.kind) (binding_of a.kind) more n) in
        ap (λ (o : Option Line). with_line o (with_line (line_of body (said (buffer_line void set kernel number line))) (lines_in body others))) one
        ∙ ap (λ (o : Option Line). NameLine line a.name ∷ with_line o (lines_in body others)) two
        ∙ ap (λ (ls : List Line). NameLine line a.name ∷ BufferLine (line + 1) kernel ordinal (set_of a.kind) (binding_of a.kind) line ∷ ls) (args_read kernel (ordinal + 1) (text + 1) (number + 3) (line + 2) as_ t.1 (behind_three number ordinal (set_of a.kind) (binding_of a.kind) more n))

    pub kernels_read : (text number line : ℕ) (ks : List KernelRow) (tail : List Inst) → All (IsFunctionRow body) ks → AreTexts text (texts_of ks) → AreNumbers number (numbers_of_kernels ks) → lines_in body (lines_of_kernels void set text number line ks ++ tail) ≡ kernel_lines line ks (lines_in body tail)
    kernels_read text number line [] tail f t n = refl
    kernels_read text number line (k ∷ ks) tail f t n =
        let mine : List Inst = lines_of_args void set line (text + 1) number (line + 1) k.args in
        let others : List Inst = lines_of_kernels void set (text + 1 + length k.args) (number + 3 * length k.args) (line + 1 + 2 * length k.args) ks in
        let one = kernel_read line text k.function k.name (All-head (IsFunctionRow body) k ks f) t.0 in
        let texts = texts_left (text + 1) (texts_of_args k.args) (texts_of ks) t.1 in
        let texts_on : AreTexts (text + 1 + length k.args) (texts_of ks) = subst (λ m. AreTexts m (texts_of ks)) (omega (arith, length-texts_of_args k.args)) (texts_right (text + 1) (texts_of_args k.args) (texts_of ks) t.1) in
        let numbers = numbers_left number (numbers_of_args 0 k.args) (numbers_of_kernels ks) n in
        let numbers_on : AreNumbers (number + 3 * length k.args) (numbers_of_kernels ks) = subst (λ m. AreNumbers m (numbers_of_kernels ks)) (omega (arith, length-numbers_of_args 0 k.args)) (numbers_right number (numbers_of_args 0 k.args) (numbers_of_kernels ks) n) in
        ap (λ (is : List Inst). with_line (line_of body (said (extended_line void set line 1 (k.function ∷ text ∷ [])))) (lines_in body is)) (append_assoc mine others tail)
        ∙ ap (λ (o : Option Line). with_line o (lines_in body (mine ++ (others ++ tail)))) one
        ∙ ap (λ (ls : List Line). KernelLine line k.function k.name ∷ ls) (
        lines_append mine (others ++ tail)
        ∙ ap (λ (ls : List Line). ls ++ lines_in body (others ++ tail)) (args_read line 0 (text + 1) number (line + 1) k.args texts numbers)
        ∙ ap (λ (ls : List Line). arg_lines line 0 (line + 1) k.args ++ ls) (kernels_read (text + 1 + length k.args) (number + 3 * length k.args) (line + 1 + 2 * length k.args) ks tail (All-tail (IsFunctionRow body) k ks f) texts_on numbers_on))

    pub size_read : (number line : ℕ) (sizes : Option (List ℕ)) → AreThree sizes → AreNumbers number (numbers_of_sizes sizes) → lines_in body (line_of_sizes void set number line sizes) ≡ size_lines line sizes
    size_read number line None h n = refl
    size_read number line (Some []) h n = absurd (omega (arith, h))
    size_read number line (Some (x ∷ [])) h n = absurd (omega (arith, h))
    size_read number line (Some (x ∷ y ∷ [])) h n = absurd (omega (arith, h))
    size_read number line (Some (x ∷ y ∷ z ∷ [])) h n = ap (λ (o : Option Line). with_line o []) (sizes_read line number x y z n.0 (second number x y (z ∷ []) n) (third number x y z [] n))
    size_read number line (Some (x ∷ y ∷ z ∷ w ∷ ws)) h n = absurd (omega (arith, h))
