-- The lines that are written for some rows keep the rules, and say these rows.
use Rattle.std.proofs.Common.{◌≡◌, ℕ, suc, ◌+◌, ◌*◌, ◌≤◌, ◌<◌, Bool, true, false, List, [], ◌∷◌, ◌++◌, length, Option, Some, None, refl, sym, ap, subst, ◌∙◌, arith, append_assoc, append-nil, eq-eqb, ne_eqb}
use Rattle.std.specs.Prelude.{if◌then◌else◌, ◌&&◌, ◌||◌, nat_eq, All}
use Rattle.std.proofs.lemmas.List.Elements.{All-head, All-tail}
use Rattle.spv_module.specs.Options.{only_if}
use Rattle.spv_reflect.specs.declared.rows.ArgRow.{ArgRow}
use Rattle.spv_reflect.specs.declared.rows.ArgKindRow.TheVariants.{Buffer}
use Rattle.spv_reflect.specs.declared.rows.KernelRow.{KernelRow}
use Rattle.spv_reflect.specs.declared.rows.ConstantRow.{ConstantRow}
use Rattle.spv_reflect.specs.declared.rows.Reflection.{Reflection}
use Rattle.spv_reflect.specs.Reflection.{Line, KernelLine, NameLine, BufferLine, SizesLine, is_line, has_line, arguments_among, each_keeps, name_in, arguments_in, kernels_in, sizes_in, are_right, rows_in, rows_by}
use Rattle.spv_reflect.specs.Writing.{set_of, binding_of, IsBuffer, IsOfBuffers, AreOfBuffers, AreThree}

abbrev pub arg_lines : (kernel ordinal line : ℕ) → List ArgRow → List Line
arg_lines kernel ordinal line [] = []
arg_lines kernel ordinal line (a ∷ as_) = NameLine line a.name ∷ BufferLine (line + 1) kernel ordinal (set_of a.kind) (binding_of a.kind) line ∷ arg_lines kernel (ordinal + 1) (line + 2) as_

abbrev pub kernel_lines : ℕ → List KernelRow → List Line → List Line
kernel_lines line [] tail = tail
kernel_lines line (k ∷ ks) tail = KernelLine line k.function k.name ∷ (arg_lines line 0 (line + 1) k.args ++ kernel_lines (line + 1 + 2 * length k.args) ks tail)

abbrev pub size_lines : ℕ → Option (List ℕ) → List Line
size_lines line (Some (x ∷ y ∷ z ∷ [])) = SizesLine line x y z ∷ []
size_lines line _ = []

-- ---- lists of lines

has_at : (n id : ℕ) (xs : List Line) (y : Line) (ys : List Line) → is_line n id y ≡ true → has_line n id (xs ++ y ∷ ys) ≡ true
has_at n id [] y ys e = rw (e) refl
has_at n id (x ∷ xs) y ys e = or_right (is_line n id x) _ (has_at n id xs y ys e) where
  or_right : (a b : Bool) → b ≡ true → (a || b) ≡ true
  or_right true b e = refl
  or_right false b e = e

among_append : (k : ℕ) (xs ys : List Line) → arguments_among k (xs ++ ys) ≡ arguments_among k xs + arguments_among k ys
among_append k [] ys = omega arith
among_append k (BufferLine r j o s b n ∷ xs) ys = tested (nat_eq j k) (arguments_among k (xs ++ ys)) (arguments_among k xs) (arguments_among k ys) (among_append k xs ys) where
  tested : (t : Bool) (m n p : ℕ) → m ≡ n + p → (if t then suc m else m) ≡ (if t then suc n else n) + p
  tested true m n p e = omega (arith, e)
  tested false m n p e = e
among_append k (_ ∷ xs) ys = among_append k xs ys

arguments_append : (all : List Line) (k : ℕ) (xs ys : List Line) → arguments_in all k (xs ++ ys) ≡ arguments_in all k xs ++ arguments_in all k ys
arguments_append all k [] ys = refl
arguments_append all k (BufferLine r j o s b n ∷ xs) ys = tested (nat_eq j k) (record { name = name_in all n; kind = Buffer s b }) (arguments_in all k (xs ++ ys)) (arguments_in all k xs) (arguments_in all k ys) (arguments_append all k xs ys) where
  tested : (t : Bool) (a : ArgRow) (m n p : List ArgRow) → m ≡ n ++ p → (if t then a ∷ m else m) ≡ (if t then a ∷ n else n) ++ p
  tested true a m n p e = ap (λ (as_ : List ArgRow). a ∷ as_) e
  tested false a m n p e = e
arguments_append all k (_ ∷ xs) ys = arguments_append all k xs ys

if_true : {A : Type 0} (b : Bool) (x y : A) → b ≡ true → (if b then x else y) ≡ x
if_true b x y e = ap (λ (c : Bool). if c then x else y) e

if_false : {A : Type 0} (b : Bool) (x y : A) → b ≡ false → (if b then x else y) ≡ y
if_false b x y e = ap (λ (c : Bool). if c then x else y) e

-- ---- what stands before says nothing of later lines

-- what lines say where they say nothing of it, and two in a row
pub record Passes (low : ℕ) (xs : List Line) : Type 0 where
  pub among : (k : ℕ) → low ≤ k → arguments_among k xs ≡ 0
  pub arguments : (k : ℕ) → low ≤ k → (all : List Line) → arguments_in all k xs ≡ []
  pub names : (id : ℕ) → low ≤ id → (ys : List Line) → name_in (xs ++ ys) id ≡ name_in ys id

passes_nil : (low : ℕ) → Passes low []
passes_nil low = record { among = λ k h. refl; arguments = λ k h all. refl; names = λ id h ys. refl }

passes_append : (low high : ℕ) (xs ys : List Line) → low ≤ high → Passes low xs → Passes high ys → Passes high (xs ++ ys)
passes_append low high xs ys h p q = record {
  among = λ k g. omega (arith, among_append k xs ys, p.among k (omega (arith, h, g)), q.among k g);
  arguments = λ k g all. arguments_append all k xs ys ∙ ap (λ (as_ : List ArgRow). as_ ++ arguments_in all k ys) (p.arguments k (omega (arith, h, g)) all) ∙ q.arguments k g all;
  names = λ id g zs. ap (λ (ls : List Line). name_in ls id) (append_assoc xs ys zs) ∙ p.names id (omega (arith, h, g)) (ys ++ zs) ∙ q.names id g zs;
}

passes_kernel : (line f : ℕ) (name : List ℕ) → Passes (line + 1) (KernelLine line f name ∷ [])
passes_kernel line f name = record { among = λ k h. refl; arguments = λ k h all. refl; names = λ id h ys. refl }

passes_argument : (kernel ordinal line : ℕ) (a : ArgRow) → kernel < line → Passes (line + 2) (NameLine line a.name ∷ BufferLine (line + 1) kernel ordinal (set_of a.kind) (binding_of a.kind) line ∷ [])
passes_argument kernel ordinal line a later = record {
  among = λ k h. if_false (nat_eq kernel k) 1 0 (ne_eqb kernel k (λ e. omega (arith, e, h, later)));
  arguments = λ k h all. if_false (nat_eq kernel k) (record { name = name_in all line; kind = Buffer (set_of a.kind) (binding_of a.kind) } ∷ []) [] (ne_eqb kernel k (λ e. omega (arith, e, h, later)));
  names = λ id h ys. if_false (nat_eq line id) a.name (name_in ys id) (ne_eqb line id (λ e. omega (arith, e, h)));
}

passes_arguments : (kernel ordinal line : ℕ) (as_ : List ArgRow) → kernel < line → Passes (line + 2 * length as_) (arg_lines kernel ordinal line as_)
passes_arguments kernel ordinal line [] later = passes_nil (line + 0)
passes_arguments kernel ordinal line (a ∷ as_) later =
    subst (λ n. Passes n (arg_lines kernel ordinal line (a ∷ as_))) (omega arith)
    (passes_append (line + 2) (line + 2 + 2 * length as_) (NameLine line a.name ∷ BufferLine (line + 1) kernel ordinal (set_of a.kind) (binding_of a.kind) line ∷ []) (arg_lines kernel (ordinal + 1) (line + 2) as_)
    (omega arith) (passes_argument kernel ordinal line a later) (passes_arguments kernel (ordinal + 1) (line + 2) as_ (omega (arith, later))))

-- a kernel's lines behind others
passes_row : (line : ℕ) (k : KernelRow) (seen : List Line) → Passes line seen → Passes (line + 1 + 2 * length k.args) ((seen ++ KernelLine line k.function k.name ∷ []) ++ arg_lines line 0 (line + 1) k.args)
passes_row line k seen p =
    passes_append (line + 1) (line + 1 + 2 * length k.args) (seen ++ KernelLine line k.function k.name ∷ []) (arg_lines line 0 (line + 1) k.args) (omega arith)
    (passes_append line (line + 1) seen (KernelLine line k.function k.name ∷ []) (omega arith) p (passes_kernel line k.function k.name))
    (passes_arguments line 0 (line + 1) k.args (omega arith))

both : (a b : Bool) → a ≡ true → b ≡ true → (a && b) ≡ true
both a b e f = rw (e, f) refl

-- ---- each rule is kept

two_more : (seen : List Line) (x y : Line) (ys : List Line) → ((seen ++ x ∷ []) ++ y ∷ []) ++ ys ≡ seen ++ x ∷ y ∷ ys
two_more seen x y ys = append_assoc (seen ++ x ∷ []) (y ∷ []) ys ∙ append_assoc seen (x ∷ []) (y ∷ ys)

module _ (all : List Line) where
  known_args : (kernel ordinal line : ℕ) (as_ : List ArgRow) (seen rest : List Line) → ((s : List Line) → each_keeps 1 all s rest ≡ true) → each_keeps 1 all seen (arg_lines kernel ordinal line as_ ++ rest) ≡ true
  known_args kernel ordinal line [] seen rest h = h seen
  known_args kernel ordinal line (a ∷ as_) seen rest h = known_args kernel (ordinal + 1) (line + 2) as_ _ rest h

  known_kernels : (line : ℕ) (ks : List KernelRow) (tail seen : List Line) → ((s : List Line) → each_keeps 1 all s tail ≡ true) → each_keeps 1 all seen (kernel_lines line ks tail) ≡ true
  known_kernels line [] tail seen h = h seen
  known_kernels line (k ∷ ks) tail seen h = known_args line 0 (line + 1) k.args _ (kernel_lines (line + 1 + 2 * length k.args) ks tail) (λ s. known_kernels (line + 1 + 2 * length k.args) ks tail s h)

  operands_args : (kernel ordinal line : ℕ) (as_ : List ArgRow) (seen rest : List Line) → all ≡ seen ++ (arg_lines kernel ordinal line as_ ++ rest) → has_line 1 kernel all ≡ true → ((s : List Line) → all ≡ s ++ rest → each_keeps 2 all s rest ≡ true) → each_keeps 2 all seen (arg_lines kernel ordinal line as_ ++ rest) ≡ true
  operands_args kernel ordinal line [] seen rest e has h = h seen e
  operands_args kernel ordinal line (a ∷ as_) seen rest e has h =
      let named : has_line 2 line all ≡ true = ap (has_line 2 line) e ∙ has_at 2 line seen (NameLine line a.name) _ (eq-eqb line line refl) in
      let more : all ≡ ((seen ++ NameLine line a.name ∷ []) ++ BufferLine (line + 1) kernel ordinal (set_of a.kind) (binding_of a.kind) line ∷ []) ++ (arg_lines kernel (ordinal + 1) (line + 2) as_ ++ rest) = e ∙ sym (two_more seen _ _ _) in
      both _ _ (both _ _ has named) (operands_args kernel (ordinal + 1) (line + 2) as_ _ rest more has h)

  operands_kernels : (line : ℕ) (ks : List KernelRow) (tail seen : List Line) → all ≡ seen ++ kernel_lines line ks tail → ((s : List Line) → each_keeps 2 all s tail ≡ true) → each_keeps 2 all seen (kernel_lines line ks tail) ≡ true
  operands_kernels line [] tail seen e h = h seen
  operands_kernels line (k ∷ ks) tail seen e h =
      let has : has_line 1 line all ≡ true = ap (has_line 1 line) e ∙ has_at 1 line seen (KernelLine line k.function k.name) _ (eq-eqb line line refl) in
      operands_args line 0 (line + 1) k.args (seen ++ KernelLine line k.function k.name ∷ []) (kernel_lines (line + 1 + 2 * length k.args) ks tail) (e ∙ sym (append_assoc seen (KernelLine line k.function k.name ∷ []) _)) has
      (λ s f. operands_kernels (line + 1 + 2 * length k.args) ks tail s f h)

  ordered_args : (kernel ordinal line : ℕ) (as_ : List ArgRow) (seen rest : List Line) → arguments_among kernel seen ≡ ordinal → ((s : List Line) → s ≡ seen ++ arg_lines kernel ordinal line as_ → each_keeps 4 all s rest ≡ true) → each_keeps 4 all seen (arg_lines kernel ordinal line as_ ++ rest) ≡ true
  ordered_args kernel ordinal line [] seen rest e h = h seen (sym (append-nil seen))
  ordered_args kernel ordinal line (a ∷ as_) seen rest e h =
      let x = NameLine line a.name in
      let y = BufferLine (line + 1) kernel ordinal (set_of a.kind) (binding_of a.kind) line in
      let one : arguments_among kernel (seen ++ x ∷ []) ≡ ordinal = omega (arith, among_append kernel seen (x ∷ []), e) in
      let counted : arguments_among kernel (y ∷ []) ≡ 1 = if_true (nat_eq kernel kernel) 1 0 (eq-eqb kernel kernel refl) in
      let two : arguments_among kernel ((seen ++ x ∷ []) ++ y ∷ []) ≡ ordinal + 1 = omega (arith, among_append kernel (seen ++ x ∷ []) (y ∷ []), one, counted) in
      both _ _ (eq-eqb ordinal _ (sym one)) (ordered_args kernel (ordinal + 1) (line + 2) as_ ((seen ++ x ∷ []) ++ y ∷ []) rest two (λ s f. h s (f ∙ two_more seen x y _)))

  ordered_kernels : (line : ℕ) (ks : List KernelRow) (tail seen : List Line) → Passes line seen → ((s : List Line) → each_keeps 4 all s tail ≡ true) → each_keeps 4 all seen (kernel_lines line ks tail) ≡ true
  ordered_kernels line [] tail seen p h = h seen
  ordered_kernels line (k ∷ ks) tail seen p h =
      let x = KernelLine line k.function k.name in
      let high = line + 1 + 2 * length k.args in
      let none : arguments_among line (seen ++ x ∷ []) ≡ 0 = omega (arith, among_append line seen (x ∷ []), p.among line (omega arith)) in
      ordered_args line 0 (line + 1) k.args (seen ++ x ∷ []) (kernel_lines high ks tail) none
      (λ s f. ordered_kernels high ks tail s (subst (Passes high) (sym f) (passes_row line k seen p)) h)

-- ---- the rows

-- an argument that is a buffer
row_of_buffer : (a : ArgRow) → IsBuffer a → record { name = a.name; kind = Buffer (set_of a.kind) (binding_of a.kind) } ≡ a
row_of_buffer a b =
    let e : Buffer (set_of a.kind) (binding_of a.kind) ≡ a.kind = ap (λ k. Buffer (set_of k) (binding_of k)) b.kind ∙ sym b.kind in
    ap (λ k. record { name = a.name; kind = k }) e

module _ (all : List Line) where
  own_arguments : (kernel ordinal line : ℕ) (as_ : List ArgRow) (seen rest : List Line) → all ≡ seen ++ (arg_lines kernel ordinal line as_ ++ rest) → Passes line seen → kernel < line → All IsBuffer as_ → arguments_in all kernel (arg_lines kernel ordinal line as_) ≡ as_
  own_arguments kernel ordinal line [] seen rest e p later bs = refl
  own_arguments kernel ordinal line (a ∷ as_) seen rest e p later bs =
      let x = NameLine line a.name in
      let y = BufferLine (line + 1) kernel ordinal (set_of a.kind) (binding_of a.kind) line in
      let behind : List Line = y ∷ (arg_lines kernel (ordinal + 1) (line + 2) as_ ++ rest) in
      let found : name_in (x ∷ behind) line ≡ a.name = if_true (nat_eq line line) a.name (name_in behind line) (eq-eqb line line refl) in
      let named : name_in all line ≡ a.name = ap (λ (ls : List Line). name_in ls line) e ∙ p.names line (omega arith) (x ∷ behind) ∙ found in
      let more : all ≡ ((seen ++ x ∷ []) ++ y ∷ []) ++ (arg_lines kernel (ordinal + 1) (line + 2) as_ ++ rest) = e ∙ sym (two_more seen x y _) in
      let passed : Passes (line + 2) ((seen ++ x ∷ []) ++ y ∷ []) =
      subst (Passes (line + 2)) (sym (append_assoc seen (x ∷ []) (y ∷ []))) (passes_append line (line + 2) seen (x ∷ y ∷ []) (omega arith) p (passes_argument kernel ordinal line a later)) in
      let others = own_arguments kernel (ordinal + 1) (line + 2) as_ ((seen ++ x ∷ []) ++ y ∷ []) rest more passed (omega (arith, later)) (All-tail IsBuffer a as_ bs) in
      let row : ArgRow = record { name = name_in all line; kind = Buffer (set_of a.kind) (binding_of a.kind) } in
      if_true (nat_eq kernel kernel) (row ∷ arguments_in all kernel (arg_lines kernel (ordinal + 1) (line + 2) as_)) (arguments_in all kernel (arg_lines kernel (ordinal + 1) (line + 2) as_)) (eq-eqb kernel kernel refl)
      ∙ ap (λ (n : List ℕ). record { name = n; kind = Buffer (set_of a.kind) (binding_of a.kind) } ∷ arguments_in all kernel (arg_lines kernel (ordinal + 1) (line + 2) as_)) named
      ∙ ap (λ (b : ArgRow). b ∷ arguments_in all kernel (arg_lines kernel (ordinal + 1) (line + 2) as_)) (row_of_buffer a (All-head IsBuffer a as_ bs))
      ∙ ap (λ (bs : List ArgRow). a ∷ bs) others

  -- the arguments of a later kernel are none of this one's
  others_arguments : (mine kernel ordinal line : ℕ) (as_ : List ArgRow) → mine < kernel → arguments_in all mine (arg_lines kernel ordinal line as_) ≡ []
  others_arguments mine kernel ordinal line [] h = refl
  others_arguments mine kernel ordinal line (a ∷ as_) h =
      let more = arguments_in all mine (arg_lines kernel (ordinal + 1) (line + 2) as_) in
      if_false (nat_eq kernel mine) (record { name = name_in all line; kind = Buffer (set_of a.kind) (binding_of a.kind) } ∷ more) more (ne_eqb kernel mine (λ e. omega (arith, e, h)))
      ∙ others_arguments mine kernel (ordinal + 1) (line + 2) as_ h

  later_arguments : (mine line : ℕ) (ks : List KernelRow) (tail : List Line) → mine < line → arguments_in all mine tail ≡ [] → arguments_in all mine (kernel_lines line ks tail) ≡ []
  later_arguments mine line [] tail h t = t
  later_arguments mine line (k ∷ ks) tail h t =
      let high = line + 1 + 2 * length k.args in
      arguments_append all mine (arg_lines line 0 (line + 1) k.args) (kernel_lines high ks tail)
      ∙ ap (λ (as_ : List ArgRow). as_ ++ arguments_in all mine (kernel_lines high ks tail)) (others_arguments mine line 0 (line + 1) k.args h)
      ∙ later_arguments mine high ks tail (omega (arith, h)) t

  kernels_behind : (kernel ordinal line : ℕ) (as_ : List ArgRow) (rest : List Line) → kernels_in all (arg_lines kernel ordinal line as_ ++ rest) ≡ kernels_in all rest
  kernels_behind kernel ordinal line [] rest = refl
  kernels_behind kernel ordinal line (a ∷ as_) rest = kernels_behind kernel (ordinal + 1) (line + 2) as_ rest

  own_kernels : (line : ℕ) (ks : List KernelRow) (tail seen : List Line) → all ≡ seen ++ kernel_lines line ks tail → Passes line seen → All IsOfBuffers ks → ((mine : ℕ) → arguments_in all mine tail ≡ []) → kernels_in all tail ≡ [] → kernels_in all (kernel_lines line ks tail) ≡ ks
  own_kernels line [] tail seen e p bs t none = none
  own_kernels line (k ∷ ks) tail seen e p bs t none =
      let x = KernelLine line k.function k.name in
      let high = line + 1 + 2 * length k.args in
      let lines = arg_lines line 0 (line + 1) k.args in
      let rest = kernel_lines high ks tail in
      let b = All-head IsOfBuffers k ks bs in
      let one : all ≡ (seen ++ x ∷ []) ++ (lines ++ rest) = e ∙ sym (append_assoc seen (x ∷ []) (lines ++ rest)) in
      let two : all ≡ ((seen ++ x ∷ []) ++ lines) ++ rest = one ∙ sym (append_assoc (seen ++ x ∷ []) lines rest) in
      let passed : Passes (line + 1) (seen ++ x ∷ []) = passes_append line (line + 1) seen (x ∷ []) (omega arith) p (passes_kernel line k.function k.name) in
      let own : arguments_in all line lines ≡ k.args = own_arguments line 0 (line + 1) k.args (seen ++ x ∷ []) rest one passed (omega arith) b.args in
      let args : arguments_in all line all ≡ k.args =
      ap (arguments_in all line) e
      ∙ arguments_append all line seen (x ∷ (lines ++ rest))
      ∙ ap (λ (as_ : List ArgRow). as_ ++ arguments_in all line (lines ++ rest)) (p.arguments line (omega arith) all)
      ∙ arguments_append all line lines rest
      ∙ ap (λ (as_ : List ArgRow). arguments_in all line lines ++ as_) (later_arguments line high ks tail (omega arith) (t line))
      ∙ append-nil (arguments_in all line lines)
      ∙ own in
      let others : kernels_in all (lines ++ rest) ≡ ks = kernels_behind line 0 (line + 1) k.args rest ∙ own_kernels high ks tail ((seen ++ x ∷ []) ++ lines) two (passes_row line k seen p) (All-tail IsOfBuffers k ks bs) t none in
      ap (λ (as_ : List ArgRow). record { function = k.function; name = k.name; args = as_; required = None } ∷ kernels_in all (lines ++ rest)) args
      ∙ ap (λ (o : Option (List ℕ)). record { function = k.function; name = k.name; args = k.args; required = o } ∷ kernels_in all (lines ++ rest)) (sym b.required)
      ∙ ap (λ (rows : List KernelRow). k ∷ rows) others

sizes_behind_args : (kernel ordinal line : ℕ) (as_ : List ArgRow) (rest : List Line) → sizes_in (arg_lines kernel ordinal line as_ ++ rest) ≡ sizes_in rest
sizes_behind_args kernel ordinal line [] rest = refl
sizes_behind_args kernel ordinal line (a ∷ as_) rest = sizes_behind_args kernel (ordinal + 1) (line + 2) as_ rest

sizes_behind : (line : ℕ) (ks : List KernelRow) (tail : List Line) → sizes_in (kernel_lines line ks tail) ≡ sizes_in tail
sizes_behind line [] tail = refl
sizes_behind line (k ∷ ks) tail = sizes_behind_args line 0 (line + 1) k.args _ ∙ sizes_behind (line + 1 + 2 * length k.args) ks tail

record IsTail (tail : List Line) (triple : Option (List ℕ)) : Type 0 where
  known : (all s : List Line) → each_keeps 1 all s tail ≡ true
  operands : (all s : List Line) → each_keeps 2 all s tail ≡ true
  ordered : (all s : List Line) → each_keeps 4 all s tail ≡ true
  arguments : (all : List Line) (mine : ℕ) → arguments_in all mine tail ≡ []
  kernels : (all : List Line) → kernels_in all tail ≡ []
  sizes : sizes_in tail ≡ triple

tail_is : (line : ℕ) (sizes : Option (List ℕ)) → AreThree sizes → IsTail (size_lines line sizes) sizes
tail_is line None h = record { known = λ all s. refl; operands = λ all s. refl; ordered = λ all s. refl; arguments = λ all mine. refl; kernels = λ all. refl; sizes = refl }
tail_is line (Some []) h = absurd (omega (arith, h))
tail_is line (Some (x ∷ [])) h = absurd (omega (arith, h))
tail_is line (Some (x ∷ y ∷ [])) h = absurd (omega (arith, h))
tail_is line (Some (x ∷ y ∷ z ∷ [])) h = record { known = λ all s. refl; operands = λ all s. refl; ordered = λ all s. refl; arguments = λ all mine. refl; kernels = λ all. refl; sizes = refl }
tail_is line (Some (x ∷ y ∷ z ∷ w ∷ ws)) h = absurd (omega (arith, h))

pub rows_are : (line last : ℕ) (r : Reflection) → AreOfBuffers r → AreThree r.sizes → rows_by (kernel_lines line r.kernels (size_lines last r.sizes)) ≡ Some r
rows_are line last r b three =
    let t = tail_is last r.sizes three in
    let tail = size_lines last r.sizes in
    let all = kernel_lines line r.kernels tail in
    let one = known_kernels all line r.kernels tail [] (t.known all) in
    let two = operands_kernels all line r.kernels tail [] refl (t.operands all) in
    let three = ordered_kernels all line r.kernels tail [] (passes_nil line) (t.ordered all) in
    let right : are_right all ≡ true = both _ _ (both _ _ one two) three in
    let kernels : kernels_in all all ≡ r.kernels = own_kernels all line r.kernels tail [] refl (passes_nil line) b.kernels (t.arguments all) (t.kernels all) in
    let sizes : sizes_in all ≡ r.sizes = sizes_behind line r.kernels tail ∙ t.sizes in
    let same : rows_in all ≡ r =
    ap (λ (ks : List KernelRow). record { kernels = ks; sizes = sizes_in all; dim = None; constants = None }) kernels
    ∙ ap (λ (o : Option (List ℕ)). record { kernels = r.kernels; sizes = o; dim = None; constants = None }) sizes
    ∙ ap (λ (o : Option ℕ). record { kernels = r.kernels; sizes = r.sizes; dim = o; constants = None }) (sym b.dim)
    ∙ ap (λ (o : Option ConstantRow). record { kernels = r.kernels; sizes = r.sizes; dim = r.dim; constants = o }) (sym b.constants) in
    ap (λ (c : Bool). only_if c (rows_in all)) right ∙ ap (λ (s : Reflection). Some s) same
