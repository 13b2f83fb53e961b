-- The steps of the loops that read.
use Rattle.std.proofs.Common.{◌≡◌, ℕ, ◌+◌, ◌-◌, ◌%◌, ◌≤◌, ◌<◌, ◌==◌, Bool, true, false, List, [], ◌∷◌, ◌++◌, length, map, take, drop, get_or, zero, suc, Result, Ok, Err, refl, sym, ap, subst, ◌∙◌, arith, append_assoc, inl, inr}
use Rattle.std.specs.Prelude.{if◌then◌else◌}
use Rattle.std.proofs.lemmas.Bool.{cases_lt, lt-ltb, le-ltb}
use Rattle.std.proofs.lemmas.List.{length-append, length-take, length-map, length-drop, get_or-take, append-nil}
use Rattle.std.proofs.Math.Seq.{drop-append-add}
use Rattle.spv_module.specs.declared.module.Operand.{Operand}
use Rattle.spv_module.specs.Grammar.{Kind, AnId, AnyWord}
use Rattle.spv_binary.specs.declared.kind.Kind.{Kind as CodeKind}
use Rattle.spv_binary.specs.declared.kind.Kind.TheVariants as code
use Rattle.spv_binary.specs.declared.shape.Shape.{Shape}
use Rattle.spv_binary.specs.declared.shape.Tail.{Tail}
use Rattle.spv_binary.specs.declared.shape.Tail.TheVariants as tail
use Rattle.spv_binary.specs.declared.stop.ReadStop.{ReadStop}
use Rattle.spv_binary.specs.declared.stop.ReadStop.TheVariants as stops
use Rattle.spv_binary.specs.Faults.{Fault, fault, width, behind, fills, each_word, each_id, each_pair}
use Rattle.spv_binary.specs.Kinds.{kind_of, kind_at, tail_kind, tail_kinds, fixed_kinds, shape_kinds}
use Rattle.spv_binary.specs.Reading.{◌>>=◌, Gives, operand_at, operands_at}
use Rattle.spv_binary.proofs.Shapes.{width-bounds, not_zero}

-- ---- the kind at an index

drop-none : {A : Type 0} (n : ℕ) → drop {A = A} n [] ≡ []
drop-none zero = refl
drop-none (suc n) = refl

-- the first of no list
no_first : {A : Type 0} (n : ℕ) (x : A) (xs : List A) → drop n [] ≡ x ∷ xs → ⊥
no_first n x xs e = let h : [] ≡ x ∷ xs = sym (drop-none n) ∙ e in absurd (cc)

word_there : (j : ℕ) (ws : List ℕ) (k : Kind) (ks : List Kind) → drop j (each_word ws) ≡ k ∷ ks → k ≡ AnyWord
word_there j [] k ks e = absurd (no_first j k ks e)
word_there zero (w ∷ ws) k ks e = cc
word_there (suc j) (w ∷ ws) k ks e = word_there j ws k ks e

id_there : (j : ℕ) (ws : List ℕ) (k : Kind) (ks : List Kind) → drop j (each_id ws) ≡ k ∷ ks → k ≡ AnId
id_there j [] k ks e = absurd (no_first j k ks e)
id_there zero (w ∷ ws) k ks e = cc
id_there (suc j) (w ∷ ws) k ks e = id_there j ws k ks e

pair_there : (j : ℕ) (ws : List ℕ) (k : Kind) (ks : List Kind) → drop j (each_pair ws) ≡ k ∷ ks → k ≡ kind_of (if j % 2 == 0 then code.Word else code.Id)
pair_there j [] k ks e = absurd (no_first j k ks e)
pair_there zero (w ∷ []) k ks e = cc
pair_there (suc zero) (w ∷ []) k ks e = cc
pair_there (suc (suc j)) (w ∷ []) k ks e = absurd (no_first j k ks e)
pair_there zero (w ∷ v ∷ ws) k ks e = cc
pair_there (suc zero) (w ∷ v ∷ ws) k ks e = cc
pair_there (suc (suc j)) (w ∷ v ∷ ws) k ks e =
    let same : suc (suc j) % 2 ≡ j % 2 = omega arith in
    pair_there j ws k ks e ∙ ap (λ n. kind_of (if n == 0 then code.Word else code.Id)) (sym same)

one_there : (j : ℕ) (x k : Kind) (ks : List Kind) → drop j (x ∷ []) ≡ k ∷ ks → k ≡ x
one_there zero x k ks e = cc
one_there (suc j) x k ks e = absurd (no_first j k ks e)

tail_there : (t : Tail) (j : ℕ) (ws : List ℕ) (k : Kind) (ks : List Kind) → drop j (tail_kinds t ws) ≡ k ∷ ks → k ≡ kind_of (tail_kind t j)
tail_there tail.Nothing j ws k ks e = absurd (no_first j k ks e)
tail_there tail.MaybeWord j [] k ks e = absurd (no_first j k ks e)
tail_there tail.MaybeWord j (w ∷ ws) k ks e = one_there j AnyWord k ks e
tail_there tail.OneWord j ws k ks e = one_there j AnyWord k ks e
tail_there (tail.OneOf s) j ws k ks e = one_there j (kind_of (code.OneOf s)) k ks e
tail_there tail.Words j ws k ks e = word_there j ws k ks e
tail_there tail.Ids j ws k ks e = id_there j ws k ks e
tail_there tail.Pairs j ws k ks e = pair_there j ws k ks e

fixed_there : (cs : List CodeKind) (ms : List Kind) (n : ℕ) (k : Kind) (ks : List Kind) → n < length cs → drop n (map kind_of cs ++ ms) ≡ k ∷ ks → k ≡ kind_of (get_or cs n code.Word)
fixed_there [] ms n k ks h e = absurd (omega arith)
fixed_there (c ∷ cs) ms zero k ks h e = cc
fixed_there (c ∷ cs) ms (suc n) k ks h e = fixed_there cs ms n k ks (omega arith) e

pub kind_there : (s : Shape) (ws : List ℕ) (n : ℕ) (k : Kind) (ks : List Kind) → s.count ≤ length s.kinds → drop n (shape_kinds s ws) ≡ k ∷ ks → k ≡ kind_of (kind_at s n)
kind_there s ws n k ks long e =
    let len : length (take s.count s.kinds) ≡ s.count = omega (arith, length-take s.count s.kinds) in
    let ms = tail_kinds s.tail (behind (fixed_kinds s) ws) in
    elim (cases_lt n s.count) [
      | inl lt ↦
          fixed_there (take s.count s.kinds) ms n k ks (omega arith) e
          ∙ ap kind_of (get_or-take s.count s.kinds n code.Word lt)
          ∙ ap (λ (b : Bool). kind_of (if b then get_or s.kinds n code.Word else tail_kind s.tail (n - s.count))) (sym (lt-ltb n s.count lt))
      | inr le ↦
          let whole : length (map kind_of (take s.count s.kinds)) + (n - s.count) ≡ n = omega (arith, length-map (take s.count s.kinds) kind_of) in
          let there : drop (n - s.count) ms ≡ k ∷ ks = sym (drop-append-add (fixed_kinds s) ms (n - s.count)) ∙ ap (λ m. drop m (shape_kinds s ws)) whole ∙ e in
          tail_there s.tail (n - s.count) (behind (fixed_kinds s) ws) k ks there
          ∙ ap (λ (b : Bool). kind_of (if b then get_or s.kinds n code.Word else tail_kind s.tail (n - s.count))) (sym (le-ltb n s.count le))
    ]

-- ---- operands

abbrev pub with_operands : List Operand → Result (List Operand) Fault → Result (List Operand) Fault
with_operands os (Ok ps) = Ok (os ++ ps)
with_operands os (Err f) = Err f

-- The operands so far are read, and what is left is to be read.
pub record IsReading (bound : ℕ) (s : Shape) (start : ℕ) (words : List ℕ) (operands : List Operand) (at : ℕ) (rest : List ℕ) : Type 0 where
  pub place : at + length rest ≡ start + length words
  pub fits : fills (drop (length operands) (shape_kinds s words)) rest ≡ true
  pub so_far : with_operands operands (operands_at bound (drop (length operands) (shape_kinds s words)) at rest) ≡ operands_at bound (shape_kinds s words) start words

-- what stands next
record HasNext (k : Kind) (n : ℕ) (kinds : List Kind) (rest : List ℕ) : Type 0 where
  others : List Kind
  is : drop n kinds ≡ k ∷ others
  behind : drop (suc n) kinds ≡ others
  fits : fills others (drop (width k rest) rest) ≡ true

drop_next : {A : Type 0} (n : ℕ) (xs : List A) (y : A) (ys : List A) → drop n xs ≡ y ∷ ys → drop (suc n) xs ≡ ys
drop_next n [] y ys e = absurd (no_first n y ys e)
drop_next zero (x ∷ xs) y ys e = cc
drop_next (suc n) (x ∷ xs) y ys e = drop_next n xs y ys e

record HasFirst (kinds : List Kind) (rest : List ℕ) : Type 0 where
  kind : Kind
  others : List Kind
  is : kinds ≡ kind ∷ others
  fits : fills others (drop (width kind rest) rest) ≡ true

HasFirst-fills : (kinds : List Kind) (rest : List ℕ) → fills kinds rest ≡ true → (length rest == 0) ≡ false → HasFirst kinds rest
HasFirst-fills kinds [] e h = absurd (cc)
HasFirst-fills [] (w ∷ ws) e h = absurd (cc)
HasFirst-fills (k ∷ ks) (w ∷ ws) e h = record { kind = k; others = ks; is = refl; fits = e }

next_of : (s : Shape) (words : List ℕ) (n : ℕ) (rest : List ℕ) → s.count ≤ length s.kinds → fills (drop n (shape_kinds s words)) rest ≡ true → (length rest == 0) ≡ false → HasNext (kind_of (kind_at s n)) n (shape_kinds s words) rest
next_of s words n rest long fits some =
    let h = HasFirst-fills (drop n (shape_kinds s words)) rest fits some in
    let same = kind_there s words n h.kind h.others long h.is in
    let made : HasNext h.kind n (shape_kinds s words) rest = record { others = h.others; is = h.is; behind = drop_next n (shape_kinds s words) h.kind h.others h.is; fits = h.fits } in
    subst (λ k. HasNext k n (shape_kinds s words) rest) same made

with_none : (r : Result (List Operand) Fault) → with_operands [] r ≡ r
with_none (Ok os) = refl
with_none (Err f) = refl

regroup : (os : List Operand) (o : Operand) (r : Result (List Operand) Fault) → with_operands os (r >>= λ ps. Ok (o ∷ ps)) ≡ with_operands (os ++ o ∷ []) r
regroup os o (Ok ps) = ap Ok (sym (append_assoc os (o ∷ []) ps))
regroup os o (Err f) = refl

-- one operand more, or the fault in its place
read_one : (bound : ℕ) (k : Kind) (ks : List Kind) (at : ℕ) (rest : List ℕ) (o : Operand) → operand_at bound k at rest ≡ Ok o → operands_at bound (k ∷ ks) at rest ≡ (operands_at bound ks (at + width k rest) (drop (width k rest) rest) >>= λ os. Ok (o ∷ os))
unfolding operands_at
read_one bound k ks at rest o e = ap (λ r. r >>= λ p. operands_at bound ks (at + width k rest) (drop (width k rest) rest) >>= λ os. Ok (p ∷ os)) e

read_none : (bound : ℕ) (k : Kind) (ks : List Kind) (at : ℕ) (rest : List ℕ) (f : Fault) → operand_at bound k at rest ≡ Err f → operands_at bound (k ∷ ks) at rest ≡ Err f
unfolding operands_at
read_none bound k ks at rest f e = ap (λ r. r >>= λ p. operands_at bound ks (at + width k rest) (drop (width k rest) rest) >>= λ os. Ok (p ∷ os)) e

read_all : (bound : ℕ) (kinds : List Kind) (at : ℕ) (rest : List ℕ) → fills kinds rest ≡ true → (length rest == 0) ≡ true → operands_at bound kinds at rest ≡ Ok []
unfolding operands_at
read_all bound [] at [] e h = refl
read_all bound (k ∷ ks) at [] e h = absurd (cc)
read_all bound kinds at (w ∷ ws) e h = absurd (not_zero (length ws) h)

pub IsReading-start : (bound : ℕ) (s : Shape) (start : ℕ) (words : List ℕ) → fills (shape_kinds s words) words ≡ true → IsReading bound s start words [] start words
IsReading-start bound s start words e = record { place = refl; fits = e; so_far = with_none (operands_at bound (shape_kinds s words) start words) }

some_width : (k : Kind) (rest : List ℕ) → (length rest == 0) ≡ false → (1 ≤ width k rest) × (width k rest ≤ length rest)
some_width k [] h = absurd (cc)
some_width k (w ∷ ws) h = width-bounds k w ws

pub IsReading-more : (bound : ℕ) (s : Shape) (start : ℕ) (words : List ℕ) (operands : List Operand) (at : ℕ) (rest : List ℕ) (o : Operand) → IsReading bound s start words operands at rest → s.count ≤ length s.kinds → (length rest == 0) ≡ false → operand_at bound (kind_of (kind_at s (length operands))) at rest ≡ Ok o → IsReading bound s start words (operands ++ o ∷ []) (at + width (kind_of (kind_at s (length operands))) rest) (drop (width (kind_of (kind_at s (length operands))) rest) rest)
IsReading-more bound s start words operands at rest o p long some e =
    let n = length operands in
    let k = kind_of (kind_at s n) in
    let kinds = shape_kinds s words in
    let next = next_of s words n rest long p.fits some in
    let more : length (operands ++ o ∷ []) ≡ suc n = omega (arith, length-append operands (o ∷ [])) in
    let left : drop (length (operands ++ o ∷ [])) kinds ≡ next.others = ap (λ m. drop m kinds) more ∙ next.behind in
    let step : operands_at bound (drop n kinds) at rest ≡ (operands_at bound next.others (at + width k rest) (drop (width k rest) rest) >>= λ os. Ok (o ∷ os)) = ap (λ ks. operands_at bound ks at rest) next.is ∙ read_one bound k next.others at rest o e in
    record {
      place = let h = p.place in let g = some_width k rest some in omega (arith, length-drop (width k rest) rest);
      fits = ap (λ ks. fills ks (drop (width k rest) rest)) left ∙ next.fits;
      so_far =
          ap (λ ks. with_operands (operands ++ o ∷ []) (operands_at bound ks (at + width k rest) (drop (width k rest) rest))) left
          ∙ sym (regroup operands o (operands_at bound next.others (at + width k rest) (drop (width k rest) rest)))
          ∙ ap (with_operands operands) (sym step)
          ∙ p.so_far;
    }

pub IsReading-fails : (bound : ℕ) (s : Shape) (start : ℕ) (words : List ℕ) (operands : List Operand) (at : ℕ) (rest : List ℕ) (f : Fault) → IsReading bound s start words operands at rest → s.count ≤ length s.kinds → (length rest == 0) ≡ false → operand_at bound (kind_of (kind_at s (length operands))) at rest ≡ Err f → operands_at bound (shape_kinds s words) start words ≡ Err f
IsReading-fails bound s start words operands at rest f p long some e =
    let n = length operands in
    let next = next_of s words n rest long p.fits some in
    sym p.so_far
    ∙ ap (λ ks. with_operands operands (operands_at bound ks at rest)) next.is
    ∙ ap (with_operands operands) (read_none bound (kind_of (kind_at s n)) next.others at rest f e)

pub IsReading-ends : (bound : ℕ) (s : Shape) (start : ℕ) (words : List ℕ) (operands : List Operand) (at : ℕ) (rest : List ℕ) → IsReading bound s start words operands at rest → (length rest == 0) ≡ true → operands_at bound (shape_kinds s words) start words ≡ Ok operands
IsReading-ends bound s start words operands at rest p none =
    sym p.so_far
    ∙ ap (with_operands operands) (read_all bound (drop (length operands) (shape_kinds s words)) at rest p.fits none)
    ∙ ap Ok (append-nil operands)

-- ---- the same, of the code's values

pub operand_width : (kind : CodeKind) (rest : List ℕ) (wide : ℕ) → wide ≡ width (kind_of kind) rest → (length rest == 0) ≡ false → (1 ≤ wide) × (wide ≤ length rest)
operand_width kind rest wide e some = rw e (some_width (kind_of kind) rest some)

pub operand_more : (bound : ℕ) (s : Shape) (start : ℕ) (words : List ℕ) (operands : List Operand) (at : ℕ) (rest : List ℕ) (kind : CodeKind) (len wide : ℕ) (o : Operand) (more : List Operand) (after : List ℕ) → IsReading bound s start words operands at rest → s.count ≤ length s.kinds → (length rest == 0) ≡ false → kind ≡ kind_at s len → len ≡ length operands → wide ≡ width (kind_of kind) rest → operand_at bound (kind_of kind) at rest ≡ Ok o → more ≡ operands ++ o ∷ [] → after ≡ drop wide rest → IsReading bound s start words more (at + wide) after
operand_more bound s start words operands at rest kind len wide o more after p long some kind-is len-is wide-is e more-is after-is =
    rw (more-is, after-is, wide-is, kind-is, len-is) (IsReading-more bound s start words operands at rest o p long some (rw (kind-is, len-is) at e))

pub operand_fails : (bound : ℕ) (s : Shape) (start : ℕ) (words : List ℕ) (operands : List Operand) (at : ℕ) (rest : List ℕ) (kind : CodeKind) (len : ℕ) (stop : ReadStop) (r : Result (List Operand) ReadStop) → IsReading bound s start words operands at rest → s.count ≤ length s.kinds → (length rest == 0) ≡ false → kind ≡ kind_at s len → len ≡ length operands → Gives (Err stop) (operand_at bound (kind_of kind) at rest) → r ≡ Err stop → Gives r (operands_at bound (shape_kinds s words) start words)
operand_fails bound s start words operands at rest kind len stops.NoMemory r p long some kind-is len-is e is = rw is tt
operand_fails bound s start words operands at rest kind len (stops.Fault n w) r p long some kind-is len-is e is =
    rw is (IsReading-fails bound s start words operands at rest (fault n w) p long some (rw (kind-is, len-is) at e))

pub ruleset operand_steps = (IsReading-start, IsReading-ends, operand_width, operand_more)
